-- A domain made of two accepted parts and one cable passes causes 7 to 12 and 14.
use mathlib.Core.Path.{◌≡◌, refl, sym, ap, ap₂, subst, subst₂, ◌∙◌}
use mathlib.Core.Logic.{◌⊎◌, inl, inr, ◌≢◌, ⊎_elim, by_cases}
use mathlib.Core.List.{List, [], ◌∷◌, map}
use mathlib.Core.Bool.{Bool, true, false, not, ◌&&◌, Bool-discrete}
use Prim.Native.Nat.{ℕ, ◌+◌, ◌-◌, ◌≤◌, ◌<◌}
use native.Mathlib.Decide.{ℕ_discrete, dec_lt}
use native.Mathlib.Omega.{arith}
use lib.ListN.{length, get_or, get_or-eq_default}
use lib.Dec.{T, eqb}
use Rattle.files.specs.declared.Phy.TheVariants.{Vacant}
use Rattle.files.specs.Domain.{Expander, Domain, no_expander, expander_at, phy_at, address_of, attached_phy_of, attribute_of, is_table, is_subtractive, attached, to_end, to_expander, number_of}
use Rattle.files.specs.Lists.{any}
use Rattle.wiring.specs.phys.PhyCauses.{far_phy}
use Rattle.wiring.specs.graph.Neighbours.{cabled, neighbours}
use Rattle.wiring.specs.graph.Devices.{LoopIn, AttachedTo, Borne, TableToTable, NoTableToTable}
use Rattle.wiring.specs.WiringCauses.{Linked}
use Rattle.files.proofs.ListMembers.{or_cases}
use Rattle.wiring.proofs.phys.WiredPhys.{ChainTail, Plain, Wired, far-below, far-is, adj-to, to-adj, adj_symmetric}
use Rattle.files.proofs.Domains.{end-attached, expander-attached, in_range_lem}
use Rattle.wiring.proofs.graph.GraphWalks.{rest_of}
use Rattle.wiring.proofs.graph.ReachedByChain.{Joined, prepend}
use Rattle.wiring.proofs.graph.LongChains.{all-joined}
use Rattle.tables.specs.filling.Tables.{level_list}
use Rattle.benches.specs.Joined.{cabled_to}
use Rattle.benches.proofs.BridgedGraphs.{Carries, bridged, map_tail}
use Rattle.benches.proofs.PartsOfJoined.{Part, attribute-inside}
use Rattle.benches.proofs.PartTables.{attached-borne, phy-back, far-same, list_same, attribute-same}

pub other_side : (b c : Bool) → b ≢ c → c ≡ not b
other_side true true n = absurd (n refl)
other_side true false n = refl
other_side false true n = refl
other_side false false n = absurd (n refl)

not_same : (b : Bool) → b ≡ not b → ⊥
not_same true e = let z : ◌≡◌ {A = ℕ} 0 1 = cc in omega arith
not_same false e = let z : ◌≡◌ {A = ℕ} 0 1 = cc in omega arith

-- no level list of a domain is longer than R
abbrev pub Fits : Domain → Type 0
Fits d = (i p : ℕ) → T (is_table (phy_at d i p)) → length (level_list d i p) ≤ (expander_at d i).route_indexes

module _ (e : Domain) (D : Bool → Domain) (K I P : Bool → ℕ) (side : ℕ → Bool)
    (w : (b : Bool) → Wired (D b)) (r : (b : Bool) → Linked (D b)) (some : 1 ≤ length (D true)) (small : (b : Bool) → P b < 255)
    (part : (b : Bool) → Part (D b) e (K b) (I b) (P b) (expander_at (D (not b)) (I (not b))).address (P (not b)))
    (locate : (x : ℕ) → x < length e → (b : Bool) × (x' : ℕ) × (x ≡ K b + x') × (x' < length (D b)))
    (sides : (b : Bool) (x : ℕ) → x < length (D b) → side (K b + x) ≡ b)
    (apart : (b : Bool) (s : ℕ) → Borne (D b) s → Borne (D (not b)) s → ⊥)
    (first : K true ≡ 0) where
  abbrev addr : Bool → ℕ
  addr b = (expander_at (D b) (I b)).address

  each : (Q : ℕ → Type 0) → ((b : Bool) (x : ℕ) → x < length (D b) → Q (K b + x)) → (x : ℕ) → x < length e → Q x
  each Q f x h = let l = locate x h in subst Q (sym l.2) (f l.0 l.1 l.3)

  back-phy : (b : Bool) → phy_at e (K (not b) + I (not b)) (P (not b)) ≡ cabled_to (addr b) (P b)
  back-phy true = (part false).cabled
  back-phy false = (part true).cabled

  -- a phy is as it was, or is the one with the cable
  abbrev Spot : Bool → ℕ → ℕ → Type 0
  Spot b x y = (phy_at e (K b + x) y ≡ phy_at (D b) x y) ⊎ ((x ≡ I b) × (y ≡ P b) × (phy_at e (K b + x) y ≡ cabled_to (addr (not b)) (P (not b))))

  spot : (b : Bool) (x y : ℕ) → x < length (D b) → Spot b x y
  spot b x y h = by_cases (ℕ_discrete x (I b))
      (λ f. by_cases (ℕ_discrete y (P b))
      (λ g. inr (f, g, ap₂ (λ u v. phy_at e (K b + u) v) f g ∙ (part b).cabled))
      (λ g. inl ((part b).other x y h (λ o. g o.1))))
      (λ f. inl ((part b).other x y h (λ o. f o.0)))

  back_at : (b : Bool) (x y : ℕ) → x < length (D b) → T (attached (phy_at (D b) x y)) → phy_at e (K b + x) y ≡ phy_at (D b) x y
  back_at b = phy-back (D b) e (w b) (r b) (K b) (I b) (P b) (addr (not b)) (P (not b)) (part b)

  number : (b : Bool) (x : ℕ) → x < length (D b) → number_of e (expander_at e (K b + x)).address ≡ K b + x
  number b x h =
      let n = (w b).number x h in
      ap (number_of e) ((part b).address x h) ∙ (part b).numbers (expander_at (D b) x).address (omega arith) ∙ ap (λ v. K b + v) n

  number_at : (b : Bool) → number_of e (addr b) ≡ K b + I b
  number_at b = ap (number_of e) (sym ((part b).address (I b) (part b).inside)) ∙ number b (I b) (part b).inside

  to_lift : (b : Bool) (x y z : ℕ) → z < length (D b) → AttachedTo (D b) x y z → AttachedTo e (K b + x) y (K b + z)
  to_lift b x y z h t =
      let a = expander-attached (phy_at (D b) x y) t.expander in
      let o = back_at b x y (in_range_lem (D b) x y a).0 a in
      record { expander = subst (λ φ. T (to_expander φ)) (sym o) t.expander; address = ap address_of o ∙ t.address ∙ sym ((part b).address z h) }

  -- the address of the other's cabled expander is no device's here
  not_here : (b : Bool) (x y : ℕ) → T (attached (phy_at (D b) x y)) → address_of (phy_at (D b) x y) ≡ addr (not b) → ⊥
  not_here b x y t o = (part b).foreign (attached-borne (D b) (w b) (addr (not b)) x y t o)

  answer : (b : Bool) (x : ℕ) → x < length (D b) → (y : ℕ) → T (to_expander (phy_at e (K b + x) y))
      → AttachedTo e (number_of e (address_of (phy_at e (K b + x) y))) (attached_phy_of (phy_at e (K b + x) y)) (K b + x)
  answer b x h y t = go (spot b x y h)
    where
      go : Spot b x y → AttachedTo e (number_of e (address_of (phy_at e (K b + x) y))) (attached_phy_of (phy_at e (K b + x) y)) (K b + x)
      go (inl o) =
          let u = subst (λ φ. T (to_expander φ)) o t in
          subst (λ φ. AttachedTo e (number_of e (address_of φ)) (attached_phy_of φ) (K b + x)) (sym o)
          (subst (λ v. AttachedTo e v (attached_phy_of (phy_at (D b) x y)) (K b + x)) (sym ((part b).numbers (address_of (phy_at (D b) x y)) (far-below (D b) (w b) x y u)))
          (to_lift b _ _ x h ((w b).answer x y u)))
      go (inr o) =
          subst (λ φ. AttachedTo e (number_of e (address_of φ)) (attached_phy_of φ) (K b + x)) (sym o.2)
          (subst (λ v. AttachedTo e v (P (not b)) (K b + x)) (sym (number_at (not b)))
          (record {
            expander = subst (λ φ. T (to_expander φ)) (sym (back-phy b)) tt;
            address = ap address_of (back-phy b) ∙ ap (λ v. (expander_at (D b) v).address) (sym o.0) ∙ sym ((part b).address x h);
          }))

  kinds : (b : Bool) (x : ℕ) → x < length (D b) → (y z : ℕ) → T (attached (phy_at e (K b + x) y)) → T (attached (phy_at e (K b + x) z))
      → address_of (phy_at e (K b + x) y) ≡ address_of (phy_at e (K b + x) z) → attribute_of (phy_at e (K b + x) y) ≡ attribute_of (phy_at e (K b + x) z)
  kinds b x h y z t u q = go (spot b x y h) (spot b x z h)
    where
      go : Spot b x y → Spot b x z → attribute_of (phy_at e (K b + x) y) ≡ attribute_of (phy_at e (K b + x) z)
      go (inl o) (inl p) =
          ap attribute_of o ∙ (w b).kind x y z (subst (λ φ. T (attached φ)) o t) (subst (λ φ. T (attached φ)) p u) (ap address_of (sym o) ∙ q ∙ ap address_of p) ∙ ap attribute_of (sym p)
      go (inl o) (inr p) = absurd (not_here b x y (subst (λ φ. T (attached φ)) o t) (ap address_of (sym o) ∙ q ∙ ap address_of p.2))
      go (inr o) (inl p) = absurd (not_here b x z (subst (λ φ. T (attached φ)) p u) (ap address_of (sym p) ∙ sym q ∙ ap address_of o.2))
      go (inr o) (inr p) = ap attribute_of (o.2 ∙ sym p.2)

  one_way : (b : Bool) (x : ℕ) → x < length (D b) → (y z : ℕ) → T (attached (phy_at e (K b + x) y)) → T (attached (phy_at e (K b + x) z))
      → T (is_subtractive (phy_at e (K b + x) y)) → T (is_subtractive (phy_at e (K b + x) z)) → address_of (phy_at e (K b + x) y) ≡ address_of (phy_at e (K b + x) z)
  one_way b x h y z t u m n = go (spot b x y h) (spot b x z h)
    where
      lone : (v : ℕ) → x ≡ I b → T (attached (phy_at (D b) x v)) → T (is_subtractive (phy_at (D b) x v)) → ⊥
      lone v f t m = (part b).free.no_other v (subst (λ k. T (attached (phy_at (D b) k v))) f t) (subst (λ k. T (is_subtractive (phy_at (D b) k v))) f m)

      go : Spot b x y → Spot b x z → address_of (phy_at e (K b + x) y) ≡ address_of (phy_at e (K b + x) z)
      go (inl o) (inl p) =
          ap address_of o ∙ (w b).one_way x y z (subst (λ φ. T (attached φ)) o t) (subst (λ φ. T (attached φ)) p u) (subst (λ φ. T (is_subtractive φ)) o m) (subst (λ φ. T (is_subtractive φ)) p n) ∙ ap address_of (sym p)
      go (inl o) (inr p) = absurd (lone y p.0 (subst (λ φ. T (attached φ)) o t) (subst (λ φ. T (is_subtractive φ)) o m))
      go (inr o) (inl p) = absurd (lone z o.0 (subst (λ φ. T (attached φ)) p u) (subst (λ φ. T (is_subtractive φ)) p n))
      go (inr o) (inr p) = ap address_of (o.2 ∙ sym p.2)

  -- an end device stands as it did
  end-old : (b : Bool) (x y : ℕ) → x < length (D b) → T (to_end (phy_at e (K b + x) y)) → phy_at e (K b + x) y ≡ phy_at (D b) x y
  end-old b x y h t = ⊎_elim (λ o. o) (λ o. absurd (subst (λ φ. T (to_end φ)) o.2 t)) (spot b x y h)

  end-apart : (b : Bool) (x : ℕ) → x < length (D b) → (y : ℕ) → T (to_end (phy_at e (K b + x) y)) → (c : Bool) (z : ℕ) → z < length (D c) → address_of (phy_at e (K b + x) y) ≢ (expander_at e (K c + z)).address
  end-apart b x h y t c z k q = by_cases (Bool-discrete b c) same other
    where
      o : phy_at e (K b + x) y ≡ phy_at (D b) x y
      o = end-old b x y h t

      u : T (to_end (phy_at (D b) x y))
      u = subst (λ φ. T (to_end φ)) o t

      f : address_of (phy_at (D b) x y) ≡ (expander_at (D c) z).address
      f = ap address_of (sym o) ∙ q ∙ (part c).address z k

      same : b ≡ c → ⊥
      same g = (w b).apart x y z u (subst (λ v. z < length (D v)) (sym g) k) (f ∙ ap (λ v. (expander_at (D v) z).address) (sym g))

      other : b ≢ c → ⊥
      other n =
          let g = other_side b c n in
          apart b (address_of (phy_at (D b) x y)) (x, h, inr (y, u, refl)) (z, subst (λ v. z < length (D v)) g k, inl (ap (λ v. (expander_at (D v) z).address) (sym g) ∙ sym f))

  end-once : (b : Bool) (x : ℕ) → x < length (D b) → (y : ℕ) → T (to_end (phy_at e (K b + x) y)) → (c : Bool) (z : ℕ) → z < length (D c) → (v : ℕ) → T (to_end (phy_at e (K c + z) v))
      → address_of (phy_at e (K b + x) y) ≡ address_of (phy_at e (K c + z) v) → K b + x ≡ K c + z
  end-once b x h y t c z k v s q = by_cases (Bool-discrete b c) same other
    where
      o : phy_at e (K b + x) y ≡ phy_at (D b) x y
      o = end-old b x y h t

      p : phy_at e (K c + z) v ≡ phy_at (D c) z v
      p = end-old c z v k s

      f : address_of (phy_at (D b) x y) ≡ address_of (phy_at (D c) z v)
      f = ap address_of (sym o) ∙ q ∙ ap address_of p

      same : b ≡ c → K b + x ≡ K c + z
      same g = ap₂ (λ m n. K m + n) g ((w b).one_place x y z v (subst (λ φ. T (to_end φ)) o t) (subst (λ m. T (to_end (phy_at (D m) z v))) (sym g) (subst (λ φ. T (to_end φ)) p s)) (f ∙ ap (λ m. address_of (phy_at (D m) z v)) (sym g)))

      other : b ≢ c → K b + x ≡ K c + z
      other n =
          let g = other_side b c n in
          absurd (apart b (address_of (phy_at (D b) x y)) (x, h, inr (y, subst (λ φ. T (to_end φ)) o t, refl))
          (z, subst (λ m. z < length (D m)) g k, inr (v, subst (λ m. T (to_end (phy_at (D m) z v))) g (subst (λ φ. T (to_end φ)) p s), ap (λ m. address_of (phy_at (D m) z v)) (sym g) ∙ sym f)))

  abbrev at-attached : (x y : ℕ) → T (attached (phy_at e x y)) → x < length e
  at-attached x y t = (in_range_lem e x y t).0

  plain_at : (x y : ℕ) → Plain (phy_at e x y)
  plain_at x y = by_cases (dec_lt x (length e))
      (each (λ x. Plain (phy_at e x y)) (λ b x h. ⊎_elim (λ o. subst Plain (sym o) ((w b).plain x y)) (λ o. subst Plain (sym o.2) (omega arith, omega arith)) (spot b x y h)) x)
      (λ k. subst (λ (v : Expander). Plain (get_or v.phys y (Vacant 0))) (sym (get_or-eq_default e no_expander {n = x} (omega arith))) tt)

  far_cable : (b : Bool) → far_phy e (cabled_to (addr (not b)) (P (not b))) ≡ cabled_to (addr b) (P b)
  far_cable b = ap (λ v. phy_at e v (P (not b))) (number_at (not b)) ∙ back-phy b

  back-same : (b : Bool) (x : ℕ) → x < length (D b) → (y : ℕ) → T (to_expander (phy_at e (K b + x) y)) → attached_phy_of (far_phy e (phy_at e (K b + x) y)) ≡ y
  back-same b x h y t = ⊎_elim
      (λ o. let u = subst (λ φ. T (to_expander φ)) o t in
      ap (λ φ. attached_phy_of (far_phy e φ)) o ∙ ap attached_phy_of (far-same (D b) e (w b) (r b) (K b) (I b) (P b) (addr (not b)) (P (not b)) (part b) x y u) ∙ (w b).back x y u)
      (λ o. ap (λ φ. attached_phy_of (far_phy e φ)) o.2 ∙ ap attached_phy_of (far_cable b) ∙ sym o.1) (spot b x y h)

  routed-same : (b : Bool) (x y : ℕ) → x < length (D b) → T (is_table (phy_at e (K b + x) y)) → T (is_table (phy_at (D b) x y))
  routed-same b x y h t = subst T (attribute-same (D b) e (w b) (r b) (K b) (I b) (P b) (addr (not b)) (P (not b)) (part b) x y h) t

  pub wired_e : Wired e
  wired_e = record {
    number = each (λ x. number_of e (expander_at e x).address ≡ x) number;
    borne = each (λ x. (expander_at e x).address ≢ 0) (λ b x h o. (w b).borne x h (sym ((part b).address x h) ∙ o));
    few = λ x y t. each (λ x. (y : ℕ) → T (attached (phy_at e x y)) → y < 255)
        (λ b x h y t. ⊎_elim (λ o. (w b).few x y (subst (λ φ. T (attached φ)) o t)) (λ o. let s = small b in let z = o.1 in omega arith) (spot b x y h)) x (at-attached x y t) y t;
    plain = plain_at;
    attached_borne = λ x y t. each (λ x. (y : ℕ) → T (attached (phy_at e x y)) → address_of (phy_at e x y) ≢ 0)
        (λ b x h y t o. ⊎_elim (λ p. (w b).attached_borne x y (subst (λ φ. T (attached φ)) p t) (ap address_of (sym p) ∙ o)) (λ p. (w (not b)).borne (I (not b)) (part (not b)).inside (ap address_of (sym p.2) ∙ o)) (spot b x y h)) x (at-attached x y t) y t;
    routing = λ x y t. each (λ x. (y : ℕ) → T (to_expander (phy_at e x y)) → T (is_subtractive (phy_at e x y)) ⊎ T (is_table (phy_at e x y)))
        (λ b x h y t. ⊎_elim
        (λ p. subst (λ φ. T (is_subtractive φ) ⊎ T (is_table φ)) (sym p) ((w b).routing x y (subst (λ φ. T (to_expander φ)) p t)))
        (λ p. inl (subst (λ φ. T (is_subtractive φ)) (sym p.2) tt)) (spot b x y h)) x (at-attached x y (expander-attached (phy_at e x y) t)) y t;
    answer = λ x y t. each (λ x. (y : ℕ) → T (to_expander (phy_at e x y)) → AttachedTo e (number_of e (address_of (phy_at e x y))) (attached_phy_of (phy_at e x y)) x) answer x (at-attached x y (expander-attached (phy_at e x y) t)) y t;
    back = λ x y t. each (λ x. (y : ℕ) → T (to_expander (phy_at e x y)) → attached_phy_of (far_phy e (phy_at e x y)) ≡ y) back-same x (at-attached x y (expander-attached (phy_at e x y) t)) y t;
    apart = λ x y z t h. each (λ x. (y : ℕ) → T (to_end (phy_at e x y)) → address_of (phy_at e x y) ≢ (expander_at e z).address)
        (λ b x k y t. each (λ z. address_of (phy_at e (K b + x) y) ≢ (expander_at e z).address) (end-apart b x k y t) z h) x (at-attached x y (end-attached (phy_at e x y) t)) y t;
    one_place = λ x y z v t s q. each (λ x. (y : ℕ) → T (to_end (phy_at e x y)) → address_of (phy_at e x y) ≡ address_of (phy_at e z v) → x ≡ z)
        (λ b x k y t q. each (λ z. (v : ℕ) → T (to_end (phy_at e z v)) → address_of (phy_at e (K b + x) y) ≡ address_of (phy_at e z v) → K b + x ≡ z)
        (λ c z l v s q. end-once b x k y t c z l v s q) z (at-attached z v (end-attached (phy_at e z v) s)) v s q) x (at-attached x y (end-attached (phy_at e x y) t)) y t q;
    kind = λ x y z t u q. each (λ x. (y z : ℕ) → T (attached (phy_at e x y)) → T (attached (phy_at e x z)) → address_of (phy_at e x y) ≡ address_of (phy_at e x z) → attribute_of (phy_at e x y) ≡ attribute_of (phy_at e x z))
        kinds x (at-attached x y t) y z t u q;
    one_way = λ x y z t u m n. each (λ x. (y z : ℕ) → T (attached (phy_at e x y)) → T (attached (phy_at e x z)) → T (is_subtractive (phy_at e x y)) → T (is_subtractive (phy_at e x z)) → address_of (phy_at e x y) ≡ address_of (phy_at e x z))
        one_way x (at-attached x y t) y z t u m n;
    configured = λ x y t. each (λ x. (y : ℕ) → T (is_table (phy_at e x y)) → (expander_at e x).configurable ≢ 0)
        (λ b x h y t o. (w b).configured x y (routed-same b x y h t) (sym ((part b).configurable x h) ∙ o)) x (attribute-inside e 2 x y (omega arith) t) y t;
  }

  -- cables: on one side, or the one between
  link_cases : (b : Bool) (x y z : ℕ) → x < length (D b) → z < length e → AttachedTo e (K b + x) y z
      → ((v : ℕ) × (z ≡ K b + v) × (v < length (D b)) × AttachedTo (D b) x y v) ⊎ ((x ≡ I b) × (z ≡ K (not b) + I (not b)))
  link_cases b x y z h k t = go (spot b x y h)
    where
      is : (s : ℕ) → address_of (phy_at e (K b + x) y) ≡ s → z ≡ number_of e s
      is s o = sym (wired_e.number z k) ∙ ap (number_of e) (sym t.address ∙ o)

      go : Spot b x y → ((v : ℕ) × (z ≡ K b + v) × (v < length (D b)) × AttachedTo (D b) x y v) ⊎ ((x ≡ I b) × (z ≡ K (not b) + I (not b)))
      go (inl o) =
          let u = subst (λ φ. T (to_expander φ)) o t.expander in
          let l = far-below (D b) (w b) x y u in
          inl (number_of (D b) (address_of (phy_at (D b) x y)), is (address_of (phy_at (D b) x y)) (ap address_of o) ∙ (part b).numbers (address_of (phy_at (D b) x y)) l, l, far-is (D b) (w b) x y u)
      go (inr o) = inr (o.0, is (addr (not b)) (ap address_of o.2) ∙ number_at (not b))

  to_end_lem : (x y z : ℕ) → AttachedTo e x y z → z < length e
  to_end_lem x y z t = by_cases (dec_lt z (length e)) (λ h. h)
      (λ k. absurd (wired_e.attached_borne x y (expander-attached (phy_at e x y) t.expander) (t.address ∙ ap (λ v. v.address) (get_or-eq_default e no_expander {n = z} (omega arith)))))

  no_cable : (x z : ℕ) → length e ≤ x → ¬ (T (cabled e x z))
  unfolding cabled any
  no_cable x z h t =
      subst (λ (v : Expander). T (any (λ φ. to_expander φ && eqb (address_of φ) (expander_at e z).address) v.phys)) (get_or-eq_default e no_expander {n = x} h) t

  none_outside : (x z : ℕ) → length e ≤ x → length e ≤ z → ¬ (T (neighbours e x z))
  unfolding neighbours
  none_outside x z h k t = ⊎_elim (no_cable x z h) (no_cable z x k) (or_cases (cabled e x z) (cabled e z x) t)

  adj-inside : (x z : ℕ) → T (neighbours e x z) → (x < length e) × (z < length e)
  adj-inside x z t =
      by_cases (dec_lt x (length e)) (λ h. let o = adj-to e wired_e x z h t in (h, to_end_lem x o.0 z o.1))
      (λ k. by_cases (dec_lt z (length e))
      (λ h. let o = adj-to e wired_e z x h (adj_symmetric e x z t) in absurd (k (to_end_lem z o.0 x o.1)))
      (λ l. absurd (none_outside x z (omega arith) (omega arith) t)))

  -- no loop
  abbrev Bridged : ℕ → ℕ → Type 0
  Bridged a c = ((a ≡ K true + I true) × (c ≡ K false + I false)) ⊎ ((a ≡ K false + I false) × (c ≡ K true + I true))

  to-bridged : (b : Bool) (c : ℕ) → c ≡ K (not b) + I (not b) → Bridged (K b + I b) c
  to-bridged true c o = inl (refl, o)
  to-bridged false c o = inr (refl, o)

  bridge : (b : Bool) (x : ℕ) → x < length (D b) → (c : ℕ) → T (neighbours e (K b + x) c) → side (K b + x) ≢ side c → Bridged (K b + x) c
  bridge b x h c t n =
      let k = adj-inside (K b + x) c t in
      let o = adj-to e wired_e (K b + x) c k.0 t in
      ⊎_elim (λ u. absurd (n (sides b x h ∙ sym (ap side u.1 ∙ sides b u.0 u.2))))
      (λ u. subst (λ v. Bridged (K b + v) c) (sym u.0) (to-bridged b c u.1))
      (link_cases b x o.0 c h k.1 o.1)

  -- what is on a side comes from there
  from_side : (b : Bool) (x : ℕ) → (x < length e) × (side x ≡ b) → (v : ℕ) × (x ≡ K b + v) × (v < length (D b))
  from_side b x h =
      let l = locate x h.0 in
      let o : l.0 ≡ b = sym (ap side l.2 ∙ sides l.0 l.1 l.3) ∙ h.1 in
      (l.1, l.2 ∙ ap (λ c. K c + l.1) o, subst (λ c. l.1 < length (D c)) o l.3)

  carries : (b : Bool) → Carries (length e) (neighbours e) side b
  carries b = record {
    size = length (D b);
    near = neighbours (D b);
    to = λ x. x - K b;
    one = λ x y h k o. let u = from_side b x h in let v = from_side b y k in let m = u.1 in let n = v.1 in omega arith;
    within = λ x h. let u = from_side b x h in let m = u.1 in let n = u.2 in omega arith;
    step = λ x y h k t. let u = from_side b x h in
        let o = adj-to e wired_e x y h.0 t in
        let m : x - K b ≡ u.0 = let m = u.1 in omega arith in
        ⊎_elim
        (λ c. let n : y - K b ≡ c.0 = let n = c.1 in omega arith in
        subst₂ (λ f g. T (neighbours (D b) f g)) (sym m) (sym n) (to-adj (D b) (w b) u.0 o.0 c.0 c.3))
        (λ c. absurd (not_same b (sym k.1 ∙ ap side c.1 ∙ sides (not b) (I (not b)) (part (not b)).inside)))
        (link_cases b u.0 o.0 y u.2 k.0 (subst (λ v. AttachedTo e v o.0 y) u.1 o.1));
    none = (r b).no_loop;
  }

  no_loop : ¬ (LoopIn e)
  no_loop = bridged (length e) (neighbours e) side (K true + I true) (K false + I false)
      (λ a c t n. each (λ a. T (neighbours e a c) → side a ≢ side c → Bridged a c) (λ b x h t n. bridge b x h c t n) a (adj-inside a c t).0 t n) carries

  -- chains
  abbrev Both : ℕ → ℕ → Type 0
  Both x y = Joined (length e) (neighbours e) x y

  within_side : (b : Bool) (x y : ℕ) → x < length (D b) → y < length (D b) → Both (K b + x) (K b + y)
  within_side b x y h k =
      let c = all-joined (D b) (r b).chained x y h k in (
        map (λ v. K b + v) c.0,
        map_tail (neighbours (D b)) (neighbours e) (length (D b)) (length e) (λ v. v < length (D b)) (λ v. K b + v)
            (λ u v _ _ o. omega arith)
            (λ u l. let m = (part b).within in omega arith)
            (λ u v l m t. let o = adj-to (D b) (w b) u v l t in to-adj e wired_e (K b + u) o.0 (K b + v) (to_lift b u o.0 v m o.1))
            x y c.0 c.1.below c.1,
      )

  before : (a i m : ℕ) (l : List ℕ) → ChainTail e a i l → Both i m → Both a m
  before a i m [] c o = subst (λ v. Both v m) (sym c.ends) o
  before a i m (b ∷ l) c o = prepend (length e) (neighbours e) a b m (c.below a (inl refl)) c.steps.0 (before b i m l (rest_of (length e) (neighbours e) a i b l c) o)

  the_cable : (b : Bool) → T (neighbours e (K b + I b) (K (not b) + I (not b)))
  the_cable b = to-adj e wired_e (K b + I b) (P b) (K (not b) + I (not b))
      (record { expander = subst (λ φ. T (to_expander φ)) (sym (part b).cabled) tt; address = ap address_of (part b).cabled ∙ sym ((part (not b)).address (I (not b)) (part (not b)).inside) })

  across : (b : Bool) (x y : ℕ) → x < length (D b) → y < length (D (not b)) → Both (K b + x) (K (not b) + y)
  across b x y h k =
      let c = within_side b x (I b) h (part b).inside in
      before (K b + x) (K b + I b) (K (not b) + y) c.0 c.1
      (prepend (length e) (neighbours e) (K b + I b) (K (not b) + I (not b)) (K (not b) + y) (let m = (part b).within in let n = (part b).inside in omega arith) (the_cable b)
      (within_side (not b) (I (not b)) y (part (not b)).inside k))

  from_first : (b : Bool) (x : ℕ) → x < length (D b) → Both (K true + 0) (K b + x)
  from_first true x h = within_side true 0 x some h
  from_first false x h = across true 0 x some h

  pub linked_e : Linked e
  linked_e = record {
    no_loop = no_loop;
    chained = λ x h. let c = each (λ x. Both (K true + 0) x) from_first x h in (0 ∷ c.0, (refl, subst (λ v. ChainTail e v x c.0) (let z : K true + 0 ≡ 0 = omega (arith, first) in z) c.1));
  }

  pub fits_e : ((b : Bool) → Fits (D b)) → Fits e
  fits_e f x y t = each (λ x. (y : ℕ) → T (is_table (phy_at e x y)) → length (level_list e x y) ≤ (expander_at e x).route_indexes)
      (λ b x h y t. let u = routed-same b x y h t in
      subst₂ (λ (l : List ℕ) (n : ℕ). length l ≤ n) (sym (list_same (D b) e (w b) (r b) (K b) (I b) (P b) (addr (not b)) (P (not b)) (part b) x y h u)) (sym ((part b).route_indexes x h)) (f b x y u)) x (attribute-inside e 2 x y (omega arith) t) y t

  pub untied_e : ((b : Bool) → NoTableToTable (D b)) → NoTableToTable e
  untied_e f x z t = each (λ x. TableToTable e x z → ⊥)
      (λ b x h t. ⊎_elim
      (λ o. let u = subst (λ φ. T (to_expander φ)) o t.to.expander in
      f b x (number_of (D b) (address_of (phy_at (D b) x t.phy))) (record {
        phy = t.phy;
        to = far-is (D b) (w b) x t.phy u;
        routed = subst (λ φ. T (is_table φ)) o t.routed;
        double = subst (λ φ. T (is_table φ)) (ap (far_phy e) o ∙ far-same (D b) e (w b) (r b) (K b) (I b) (P b) (addr (not b)) (P (not b)) (part b) x t.phy u) t.double;
      }))
      (λ o. subst (λ φ. T (is_table φ)) o.2 t.routed) (spot b x t.phy h)) x (attribute-inside e 2 x t.phy (omega arith) t.routed) t
