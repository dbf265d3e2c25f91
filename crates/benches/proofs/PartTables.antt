-- The tables of a part are those of its domain.
use mathlib.Core.Path.{◌≡◌, refl, sym, ap, ap₂, subst, ◌∙◌}
use mathlib.Core.Logic.{inl, inr, ◌≢◌, ⊎_elim, by_cases}
use mathlib.Core.List.{List, [], ◌∷◌, ◌++◌, map, flat_map, map-append}
use mathlib.Core.Bool.{Bool, true, false, cond, not, ◌||◌, ◌&&◌}
use Prim.Native.Nat.{ℕ, zero, suc, ◌+◌, ◌<◌}
use native.Mathlib.Decide.{ℕ_discrete}
use native.Mathlib.Omega.{arith}
use lib.ListN.{length, take, replicate}
use lib.Dec.{T, eqb, eqb→eq}
use Rattle.files.specs.declared.Phy.{Phy}
use Rattle.files.specs.declared.Phy.TheVariants.{Vacant}
use Rattle.files.specs.Lists.{In, any, keep, is_in}
use Rattle.files.specs.Domain.{Domain, expander_at, phy_at, address_of, attached_phy_of, is_table, is_direct, attached, to_expander, number_of}
use Rattle.wiring.specs.phys.PhyCauses.{far_phy}
use Rattle.wiring.specs.graph.Devices.{Borne}
use Rattle.wiring.specs.WiringCauses.{Linked}
use Rattle.files.proofs.ListMembers.{tests, is_false, eq→eqb, in_append, get_d_in, in_flat_map, same_test}
use Rattle.wiring.proofs.phys.WiredPhys.{Wired, far-below, far-is}
use Rattle.files.proofs.Domains.{expander-attached, attached_cases, in_range_lem, attribute-one}
use Rattle.tables.specs.levels.Levels.{each_once, down, downstream_of_phys, downstream, next_level, levels_from, levels}
use Rattle.tables.specs.filling.Tables.{address_at, gives, give, give_all, level_list, table}
use Rattle.tables.proofs.levels.LevelsBeyond.{Table, Sub, table-back, in_next, levels-enough, levels-none, down-leads}
use Rattle.tables.proofs.levels.DownstreamLists.{downstream-none, downstream-one}
use Rattle.tables.proofs.lists.LevelListMembers.{held_cases, held-self, held-phy}
use Rattle.benches.proofs.BridgedGraphs.{All}
use Rattle.benches.proofs.PartsOfJoined.{Part}

-- what is attached is borne
pub attached-borne : (d : Domain) → Wired d → (s i p : ℕ) → T (attached (phy_at d i p)) → address_of (phy_at d i p) ≡ s → Borne d s
attached-borne d w s i p t e =
    ⊎_elim (λ u. (i, (in_range_lem d i p t).0, inr (p, u, e)))
    (λ u. (number_of d (address_of (phy_at d i p)), far-below d w i p u, inl (sym (far-is d w i p u).address ∙ e))) (attached_cases (phy_at d i p) t)

-- numbers that are all greater by k
module _ (k : ℕ) where
  abbrev shift : List ℕ → List ℕ
  shift l = map (λ v. k + v) l

  eqb_shift : (a b : ℕ) → eqb (k + a) (k + b) ≡ eqb a b
  eqb_shift a b = same_test (eqb (k + a) (k + b)) (eqb a b) (λ t. let e = eqb→eq (k + a) (k + b) t in eq→eqb a b (omega arith)) (λ t. let e = eqb→eq a b t in eq→eqb (k + a) (k + b) (omega arith))

  is_in-shift : (a : ℕ) (l : List ℕ) → is_in (k + a) (shift l) ≡ is_in a l
  unfolding is_in any
  is_in-shift a [] = refl
  is_in-shift a (x ∷ l) = ap₂ (λ b c. b || c) (eqb_shift a x) (is_in-shift a l)

  keep-shift : (before l : List ℕ) → keep (λ i. not (is_in i (shift before))) (shift l) ≡ shift (keep (λ i. not (is_in i before)) l)
  unfolding keep
  keep-shift before [] = refl
  keep-shift before (x ∷ l) = go (is_in x before) (is_in-shift x before) (keep-shift before l)
    where
      go : (b : Bool) → is_in (k + x) (shift before) ≡ b → keep (λ i. not (is_in i (shift before))) (shift l) ≡ shift (keep (λ i. not (is_in i before)) l)
          → cond (not (is_in (k + x) (shift before))) ((k + x) ∷ keep (λ i. not (is_in i (shift before))) (shift l)) (keep (λ i. not (is_in i (shift before))) (shift l))
          ≡ shift (cond (not b) (x ∷ keep (λ i. not (is_in i before)) l) (keep (λ i. not (is_in i before)) l))
      go true e r = subst (λ c. cond (not c) ((k + x) ∷ keep (λ i. not (is_in i (shift before))) (shift l)) (keep (λ i. not (is_in i (shift before))) (shift l)) ≡ shift (keep (λ i. not (is_in i before)) l)) (sym e) r
      go false e r = subst (λ c. cond (not c) ((k + x) ∷ keep (λ i. not (is_in i (shift before))) (shift l)) (keep (λ i. not (is_in i (shift before))) (shift l)) ≡ (k + x) ∷ shift (keep (λ i. not (is_in i before)) l)) (sym e) (ap (λ m. (k + x) ∷ m) r)

  once-shift : (seen l : List ℕ) → each_once (shift seen) (shift l) ≡ shift (each_once seen l)
  unfolding each_once
  once-shift seen [] = refl
  once-shift seen (x ∷ l) = go (is_in x seen) (is_in-shift x seen) (once-shift seen l) (once-shift (x ∷ seen) l)
    where
      go : (b : Bool) → is_in (k + x) (shift seen) ≡ b → each_once (shift seen) (shift l) ≡ shift (each_once seen l) → each_once ((k + x) ∷ shift seen) (shift l) ≡ shift (each_once (x ∷ seen) l)
          → cond (is_in (k + x) (shift seen)) (each_once (shift seen) (shift l)) ((k + x) ∷ each_once ((k + x) ∷ shift seen) (shift l)) ≡ shift (cond b (each_once seen l) (x ∷ each_once (x ∷ seen) l))
      go true e r s = subst (λ c. cond c (each_once (shift seen) (shift l)) ((k + x) ∷ each_once ((k + x) ∷ shift seen) (shift l)) ≡ shift (each_once seen l)) (sym e) r
      go false e r s = subst (λ c. cond c (each_once (shift seen) (shift l)) ((k + x) ∷ each_once ((k + x) ∷ shift seen) (shift l)) ≡ (k + x) ∷ shift (each_once (x ∷ seen) l)) (sym e) (ap (λ m. (k + x) ∷ m) s)

module _ (d e : Domain) (w : Wired d) (r : Linked d) (k i p s q : ℕ) (part : Part d e k i p s q) where
  -- the cabled expander is below no table phy
  downstream-other : (u v : ℕ) → Table d u v → v ≢ i
  downstream-other u v t o =
      let b = subst (λ y. Sub d y u) o (table-back d w r u v t) in
      part.free.no_other b.phy (expander-attached (phy_at d i b.phy) b.to.expander) b.routed

  -- the far end of a phy of d is what it was
  pub phy-back : (x y : ℕ) → x < length d → T (attached (phy_at d x y)) → phy_at e (k + x) y ≡ phy_at d x y
  phy-back x y h t = part.other x y h (λ o. part.free.unattached (subst (λ v. T (attached (phy_at d i v))) o.1 (subst (λ v. T (attached (phy_at d v y))) o.0 t)))

  pub far-same : (x y : ℕ) → T (to_expander (phy_at d x y)) → far_phy e (phy_at d x y) ≡ far_phy d (phy_at d x y)
  far-same x y t =
      let n = number_of d (address_of (phy_at d x y)) in
      let l = far-below d w x y t in
      ap (λ v. phy_at e v (attached_phy_of (phy_at d x y))) (part.numbers (address_of (phy_at d x y)) l)
      ∙ phy-back n (attached_phy_of (phy_at d x y)) l (expander-attached (phy_at d n (attached_phy_of (phy_at d x y))) (w.answer x y t).expander)

  -- what is said of the phys of d that are attached to expanders
  abbrev Known : Phy → Type 0
  Known φ = T (to_expander φ) → (number_of d (address_of φ) < length d) × (far_phy e φ ≡ far_phy d φ)

  down-same : (φ : Phy) → Known φ → down e φ ≡ down d φ
  down-same φ f = go (to_expander φ) refl
    where
      go : (b : Bool) → to_expander φ ≡ b → (b && (is_table φ && not (is_table (far_phy e φ)))) ≡ (b && (is_table φ && not (is_table (far_phy d φ))))
      go true o = ap (λ (ψ : Phy). is_table φ && not (is_table ψ)) (f (subst T (sym o) tt)).1
      go false o = refl

  downstream_of_phys-same : (φs : List Phy) → ((φ : Phy) → In φ φs → Known φ) → downstream_of_phys e φs ≡ shift k (downstream_of_phys d φs)
  unfolding downstream_of_phys keep
  downstream_of_phys-same [] f = refl
  downstream_of_phys-same (φ ∷ φs) f = go (down d φ) (down-same φ (f φ (inl refl))) refl (downstream_of_phys-same φs (λ ψ h. f ψ (inr h)))
    where
      go : (b : Bool) → down e φ ≡ down d φ → down d φ ≡ b → map (λ ψ. number_of e (address_of ψ)) (keep (down e) φs) ≡ shift k (map (λ ψ. number_of d (address_of ψ)) (keep (down d) φs))
          → map (λ ψ. number_of e (address_of ψ)) (cond (down e φ) (φ ∷ keep (down e) φs) (keep (down e) φs))
          ≡ shift k (map (λ ψ. number_of d (address_of ψ)) (cond (down d φ) (φ ∷ keep (down d) φs) (keep (down d) φs)))
      go true m o n =
          let u = subst T (sym o) tt in
          let x : T (to_expander φ) = search tests in
          rw (m, o) (ap₂ ◌∷◌ (part.numbers (address_of φ) (f φ (inl refl) x).0) n)
      go false m o n = rw (m, o) n

  abbrev Inner : ℕ → Type 0
  Inner v = (v < length d) × (v ≢ i)

  known : (x y : ℕ) → Known (phy_at d x y)
  known x y t = (far-below d w x y t, far-same x y t)

  phys-far : (x : ℕ) (φ : Phy) → In φ (expander_at d x).phys → Known φ
  phys-far x φ h = let g = get_d_in (expander_at d x).phys (Vacant 0) φ h in subst Known g.2 (known x g.0)

  flat_same : (level : List ℕ) → All Inner level → flat_map (downstream e) (shift k level) ≡ shift k (flat_map (downstream d) level)
  unfolding flat_map downstream
  flat_same [] f = refl
  flat_same (x ∷ level) f =
      let h = f x (inl refl) in
      ap₂ ◌++◌ (ap (downstream_of_phys e) (part.same x h.0 h.1) ∙ downstream_of_phys-same (expander_at d x).phys (phys-far x)) (flat_same level (λ v m. f v (inr m)))
      ∙ sym (map-append (λ v. k + v) (downstream d x) (flat_map (downstream d) level))

  next-same : (before level : List ℕ) → All Inner level → next_level e (shift k before) (shift k level) ≡ shift k (next_level d before level)
  unfolding next_level
  next-same before level f =
      ap (λ l. each_once [] (keep (λ v. not (is_in v (shift k before))) l)) (flat_same level f)
      ∙ ap (each_once []) (keep-shift k before (flat_map (downstream d) level))
      ∙ once-shift k [] (keep (λ v. not (is_in v before)) (flat_map (downstream d) level))

  next-inner : (before level : List ℕ) → All Inner (next_level d before level)
  next-inner before level v h = let n = in_next d w r before level v h in (n.2.end, downstream-other n.0 v n.2)

  levels_from-same : (n : ℕ) (before level : List ℕ) → All Inner level → levels_from n e (shift k before) (shift k level) ≡ shift k (levels_from n d before level)
  unfolding levels_from
  levels_from-same zero before level f = refl
  levels_from-same (suc n) before level f =
      ap (λ l. shift k level ++ levels_from n e (shift k level) l) (next-same before level f)
      ∙ ap (λ l. shift k level ++ l) (levels_from-same n level (next_level d before level) (next-inner before level))
      ∙ sym (map-append (λ v. k + v) level (levels_from n d level (next_level d before level)))

  levels_from-inner : (n : ℕ) (before level : List ℕ) → All Inner level → All Inner (levels_from n d before level)
  unfolding levels_from
  levels_from-inner zero before level f v h = absurd h
  levels_from-inner (suc n) before level f v h =
      ⊎_elim (f v) (levels_from-inner n level (next_level d before level) (next-inner before level) v) (in_append level (levels_from n d level (next_level d before level)) v h)

  -- the attached addresses of d are borne in d
  not_foreign : (x : ℕ) (φ : Phy) → In φ (expander_at d x).phys → T (attached φ) → address_of φ ≢ s
  not_foreign x φ h t o =
      let g = get_d_in (expander_at d x).phys (Vacant 0) φ h in
      part.foreign (attached-borne d w s x g.0 (subst (λ ψ. T (attached ψ)) (sym g.2) t) (ap address_of g.2 ∙ o))

  held_same : (x t : ℕ) → x < length d → t ≢ s → address_at e (k + x) t ≡ address_at d x t
  held_same x t h n = same_test (address_at e (k + x) t) (address_at d x t)
      (λ u. ⊎_elim (λ a. held-self d x t (sym (part.address x h) ∙ a)) old (held_cases e (k + x) t u))
      (λ u. ⊎_elim (λ a. held-self e (k + x) t (part.address x h ∙ a))
      (λ a. held-phy e (k + x) t a.0 (subst (λ φ. T (attached φ)) (sym (phy-back x a.0 h a.1)) a.1) (ap address_of (phy-back x a.0 h a.1) ∙ a.2))
      (held_cases d x t u))
    where
      old : (y : ℕ) × T (attached (phy_at e (k + x) y)) × (address_of (phy_at e (k + x) y) ≡ t) → T (address_at d x t)
      old a = by_cases (ℕ_discrete x i)
          (λ f. by_cases (ℕ_discrete a.0 p)
          (λ g. absurd (n (sym a.2 ∙ ap (λ v. address_of (phy_at e (k + v) a.0)) f ∙ ap (λ v. address_of (phy_at e (k + i) v)) g ∙ ap address_of part.cabled)))
          (λ g. new (λ o. g o.1)))
          (λ f. new (λ o. f o.0))
        where
          new : ¬ ((x ≡ i) × (a.0 ≡ p)) → T (address_at d x t)
          new f = let o = part.other x a.0 h f in held-phy d x t a.0 (subst (λ φ. T (attached φ)) o a.1) (ap address_of (sym o) ∙ a.2)

  give-same : (x : ℕ) (l : List ℕ) (φ : Phy) → x < length d → (T (attached φ) → address_of φ ≢ s) → give e (k + x) l φ ≡ give d x l φ
  unfolding give gives
  give-same x l φ h f = go (attached φ) refl
    where
      go : (b : Bool) → attached φ ≡ b
          → cond (is_direct φ || (b && (not (address_at e (k + x) (address_of φ)) && not (is_in (address_of φ) l)))) (l ++ (cond b (address_of φ) 0 ∷ [])) l
          ≡ cond (is_direct φ || (b && (not (address_at d x (address_of φ)) && not (is_in (address_of φ) l)))) (l ++ (cond b (address_of φ) 0 ∷ [])) l
      go true o = ap (λ c. cond (is_direct φ || (not c && not (is_in (address_of φ) l))) (l ++ (address_of φ ∷ [])) l) (held_same x (address_of φ) h (f (subst T (sym o) tt)))
      go false o = refl

  give_all-same : (x : ℕ) (φs : List Phy) (l : List ℕ) → x < length d → ((φ : Phy) → In φ φs → T (attached φ) → address_of φ ≢ s) → give_all e (k + x) l φs ≡ give_all d x l φs
  unfolding give_all
  give_all-same x [] l h f = refl
  give_all-same x (φ ∷ φs) l h f =
      ap (λ m. give_all e (k + x) m φs) (give-same x l φ h (f φ (inl refl))) ∙ give_all-same x φs (give d x l φ) h (λ ψ m. f ψ (inr m))

  phys-same : (l : List ℕ) → All Inner l → flat_map (λ v. (expander_at e v).phys) (shift k l) ≡ flat_map (λ v. (expander_at d v).phys) l
  unfolding flat_map
  phys-same [] f = refl
  phys-same (x ∷ l) f = let h = f x (inl refl) in ap₂ ◌++◌ (part.same x h.0 h.1) (phys-same l (λ v m. f v (inr m)))

  pub list_same : (x y : ℕ) → x < length d → T (is_table (phy_at d x y)) → level_list e (k + x) y ≡ level_list d x y
  unfolding level_list levels
  list_same x y h t =
      ap (λ (φ : Phy). give_all e (k + x) [] (flat_map (λ v. (expander_at e v).phys) (levels_from (length e) e ((k + x) ∷ []) (downstream_of_phys e (φ ∷ []))))) other
      ∙ ap (λ (l : List ℕ). give_all e (k + x) [] (flat_map (λ v. (expander_at e v).phys) (levels_from (length e) e ((k + x) ∷ []) l)))
      (downstream_of_phys-same (phy_at d x y ∷ []) (λ φ. ⊎_elim (λ m. subst Known (sym m) (known x y)) (λ m. absurd m)))
      ∙ same (downstream_of_phys d (phy_at d x y ∷ [])) (inner (down d (phy_at d x y)) refl) (fuel (down d (phy_at d x y)) refl)
    where
      other : phy_at e (k + x) y ≡ phy_at d x y
      other = part.other x y h (λ o. let z = attribute-one 1 2 (phy_at d i p) part.free.subtractive (subst (λ v. T (is_table (phy_at d i v))) o.1 (subst (λ v. T (is_table (phy_at d v y))) o.0 t)) in omega arith)

      same : (l : List ℕ) → All Inner l → levels_from (length e) d (x ∷ []) l ≡ levels_from (length d) d (x ∷ []) l
          → give_all e (k + x) [] (flat_map (λ v. (expander_at e v).phys) (levels_from (length e) e ((k + x) ∷ []) (shift k l))) ≡ give_all d x [] (flat_map (λ v. (expander_at d v).phys) (levels_from (length d) d (x ∷ []) l))
      same l f fuel =
          ap (λ m. give_all e (k + x) [] (flat_map (λ v. (expander_at e v).phys) m)) (levels_from-same (length e) (x ∷ []) l f ∙ ap (shift k) fuel)
          ∙ ap (give_all e (k + x) []) (phys-same (levels_from (length d) d (x ∷ []) l) (levels_from-inner (length d) (x ∷ []) l f))
          ∙ give_all-same x (flat_map (λ v. (expander_at d v).phys) (levels_from (length d) d (x ∷ []) l)) [] h
          (λ φ m. let g = in_flat_map (λ v. (expander_at d v).phys) (levels_from (length d) d (x ∷ []) l) φ m in not_foreign g.0 φ g.2)

      -- where levels go on, the expander there
      leads : (u : T (down d (phy_at d x y))) → Table d x (number_of d (address_of (phy_at d x y)))
      leads u =
          let l = down-leads d w r x y u in
          record { phy = y; to = far-is d w x y l.expander; routed = t; end = far-below d w x y l.expander; single = l.single }

      inner : (b : Bool) → down d (phy_at d x y) ≡ b → All Inner (downstream_of_phys d (phy_at d x y ∷ []))
      inner true o =
          let a = leads (subst T (sym o) tt) in
          subst (All Inner) (sym (downstream-one d (phy_at d x y) o)) (λ v. ⊎_elim (λ m. subst Inner (sym m) (a.end, downstream-other x (number_of d (address_of (phy_at d x y))) a)) (λ m. absurd m))
      inner false o = subst (All Inner) (sym (downstream-none d (phy_at d x y) o)) (λ v m. absurd m)

      fuel : (b : Bool) → down d (phy_at d x y) ≡ b → levels_from (length e) d (x ∷ []) (downstream_of_phys d (phy_at d x y ∷ [])) ≡ levels_from (length d) d (x ∷ []) (downstream_of_phys d (phy_at d x y ∷ []))
      fuel true o =
          let a = leads (subst T (sym o) tt) in
          levels-enough d w r x y (number_of d (address_of (phy_at d x y))) a.end a.to t a.single (length e) (let z = part.within in omega arith)
      fuel false o =
          subst (λ l. levels_from (length e) d (x ∷ []) l ≡ levels_from (length d) d (x ∷ []) l) (sym (downstream-none d (phy_at d x y) o)) (levels-none (length e) d (x ∷ []) ∙ sym (levels-none (length d) d (x ∷ [])))

  pub table_same : (x y : ℕ) → x < length d → T (is_table (phy_at d x y)) → table e (k + x) y ≡ table d x y
  unfolding table
  table_same x y h t = ap₂ (λ (l : List ℕ) (n : ℕ). take n (l ++ replicate n 0)) (list_same x y h t) (part.route_indexes x h)

  pub attribute-same : (x y : ℕ) → x < length d → is_table (phy_at e (k + x) y) ≡ is_table (phy_at d x y)
  attribute-same x y h = by_cases (ℕ_discrete x i)
      (λ f. by_cases (ℕ_discrete y p)
      (λ g. ap (λ v. is_table (phy_at e (k + v) y)) f ∙ ap (λ v. is_table (phy_at e (k + i) v)) g ∙ ap (is_table) part.cabled
      ∙ sym (ap (λ v. is_table (phy_at d v y)) f ∙ ap (λ v. is_table (phy_at d i v)) g ∙ is_false (is_table (phy_at d i p)) (λ t. let z = attribute-one 1 2 (phy_at d i p) part.free.subtractive t in omega arith)))
      (λ g. ap (is_table) (part.other x y h (λ o. g o.1))))
      (λ f. ap (is_table) (part.other x y h (λ o. f o.0)))
