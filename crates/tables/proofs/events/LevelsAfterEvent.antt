-- An event leaves addresses, numbers of phys, R, attributes and cables as they are, and so all levels, and where tables stand.
use mathlib.Core.Path.{◌≡◌, refl, sym, ap, ap₂, ◌∙◌}
use mathlib.Core.Logic.{inl, inr, ◌≢◌, by_cases}
use mathlib.Core.List.{List, [], ◌∷◌, ◌++◌, map, flat_map}
use mathlib.Core.Bool.{Bool, true, false, cond, not, ◌&&◌}
use Prim.Native.Nat.{ℕ, zero, suc, ◌+◌, ◌<◌}
use native.Mathlib.Decide.{ℕ_discrete}
use lib.ListN.{length, get_or, take, drop, set, length-set}
use lib.Seq.{get_or-set_same, get_or-set_other}
use lib.Dec.{T, eqb, leb, T_not}
use Rattle.files.specs.declared.Phy.{Phy}
use Rattle.files.specs.declared.Phy.TheVariants.{Vacant, Present}
use Rattle.files.specs.Lists.{In, keep, is_in}
use Rattle.files.specs.Domain.{Expander, Domain, no_expander, expander_at, phy_at, address_of, attached_phy_of, has_attribute, is_table, to_expander, number_of}
use Rattle.wiring.specs.phys.PhyCauses.{Place, places}
use Rattle.files.specs.PhyReplaced.{with_phy, set_phy}
use Rattle.files.proofs.ListMembers.{is_false, keep_same}
use Rattle.files.proofs.Domains.{number-set, phy-range, expander-range}
use Rattle.wiring.proofs.phys.WiredPhys.{places-set}
use Rattle.tables.proofs.levels.DownstreamLists.{downstream-none}
use Rattle.tables.proofs.levels.LevelOrders.{not_down}
use Rattle.tables.specs.levels.Levels.{each_once, down, downstream_of_phys, downstream, next_level, levels_from, levels}
use Rattle.tables.specs.filling.Tables.{table_places, size, sizes, needed, offset_in, stretch}
use Rattle.tables.specs.lists.OwnLists.{own_words_from, own_words}
use Rattle.tables.specs.events.TouchedTables.{touched}
use Rattle.tables.specs.events.ReplugCall.{pluggable, replug}

module _ {A B : Type 0} where
  pub flat_map_same : (f g : A → List B) (l : List A) → ((a : A) → In a l → f a ≡ g a) → flat_map f l ≡ flat_map g l
  unfolding flat_map
  flat_map_same f g [] h = refl
  flat_map_same f g (x ∷ l) h = ap₂ ◌++◌ (h x (inl refl)) (flat_map_same f g l (λ a k. h a (inr k)))

-- a phy to which an event can happen is attached to no expander, before and after
pub unattached : (φ : Phy) → T (pluggable φ) → to_expander φ ≡ false
unattached (Vacant r) t = absurd t
unattached (Present f) t = is_false (leb 2 f.device_type) (T_not (leb 2 f.device_type) t)

pub replug-unattached : (a : ℕ) (φ : Phy) → T (pluggable φ) → to_expander (replug a φ) ≡ false
replug-unattached a (Vacant r) t = absurd t
replug-unattached a (Present f) t = go (eqb a 0)
  where
    go : (b : Bool) → leb 2 (cond b 0 1) ≡ false
    go true = refl
    go false = refl

pub replug-attribute : (a k : ℕ) (φ : Phy) → has_attribute k (replug a φ) ≡ has_attribute k φ
replug-attribute a k (Vacant r) = refl
replug-attribute a k (Present f) = refl

-- and then bears the event's address
replug-address : (a : ℕ) (φ : Phy) → T (pluggable φ) → address_of (replug a φ) ≡ a
replug-address a (Vacant r) t = absurd t
replug-address a (Present f) t = refl

downstream_of_phys-same : (d d' : Domain) (φs : List Phy) → ((s : ℕ) → number_of d' s ≡ number_of d s) → ((φ : Phy) → down d' φ ≡ down d φ) → downstream_of_phys d' φs ≡ downstream_of_phys d φs
unfolding downstream_of_phys keep
downstream_of_phys-same d d' [] n h = refl
downstream_of_phys-same d d' (φ ∷ φs) n h = go (down d φ) (h φ) (downstream_of_phys-same d d' φs n h)
  where
    go : (b : Bool) → down d' φ ≡ b → map (λ ψ. number_of d' (address_of ψ)) (keep (down d') φs) ≡ map (λ ψ. number_of d (address_of ψ)) (keep (down d) φs)
        → map (λ ψ. number_of d' (address_of ψ)) (cond (down d' φ) (φ ∷ keep (down d') φs) (keep (down d') φs)) ≡ map (λ ψ. number_of d (address_of ψ)) (cond b (φ ∷ keep (down d) φs) (keep (down d) φs))
    go true q r = rw q (ap₂ ◌∷◌ (n (address_of φ)) r)
    go false q r = rw q r

downstream_of_phys-set : (d : Domain) (φs : List Phy) (q : ℕ) (ψ : Phy) → down d ψ ≡ false → down d (get_or φs q (Vacant 0)) ≡ false → downstream_of_phys d (set φs q ψ) ≡ downstream_of_phys d φs
unfolding downstream_of_phys keep
downstream_of_phys-set d [] q ψ h k = refl
downstream_of_phys-set d (φ ∷ φs) zero ψ h k = rw (h, k) refl
downstream_of_phys-set d (φ ∷ φs) (suc q) ψ h k = go (down d φ) (downstream_of_phys-set d φs q ψ h k)
  where
    go : (b : Bool) → map (λ ψ. number_of d (address_of ψ)) (keep (down d) (set φs q ψ)) ≡ map (λ ψ. number_of d (address_of ψ)) (keep (down d) φs)
        → map (λ ψ. number_of d (address_of ψ)) (cond b (φ ∷ keep (down d) (set φs q ψ)) (keep (down d) (set φs q ψ))) ≡ map (λ ψ. number_of d (address_of ψ)) (cond b (φ ∷ keep (down d) φs) (keep (down d) φs))
    go true r = ap (λ l. number_of d (address_of φ) ∷ l) r
    go false r = r

-- the domain d, and d with phy q of expander e plugged or pulled
module _ (d : Domain) (e q a : ℕ) (f : T (pluggable (phy_at d e q))) where
  abbrev ψ : Phy
  ψ = replug a (phy_at d e q)

  abbrev d' : Domain
  d' = set_phy d e q ψ

  pub phy-there : q < length (expander_at d e).phys
  phy-there = phy-range d pluggable e q f (λ t. t)

  pub expander-there : e < length d
  expander-there = expander-range d e q phy-there

  this : expander_at d' e ≡ with_phy (expander_at d e) q ψ
  unfolding set_phy
  this = get_or-set_same d e (with_phy (expander_at d e) q ψ) no_expander expander-there

  pub other : (i : ℕ) → i ≢ e → expander_at d' i ≡ expander_at d i
  unfolding set_phy
  other i k = get_or-set_other d e i (with_phy (expander_at d e) q ψ) no_expander k

  pub size_same : length d' ≡ length d
  unfolding set_phy
  size_same = length-set d e (with_phy (expander_at d e) q ψ)

  pub number_same : (s : ℕ) → number_of d' s ≡ number_of d s
  unfolding set_phy with_phy
  number_same s = number-set d e (with_phy (expander_at d e) q ψ) s refl

  pub places_same : places d' ≡ places d
  unfolding set_phy with_phy
  places_same = places-set d 0 e (with_phy (expander_at d e) q ψ) (length-set (expander_at d e).phys q ψ)

  -- every expander: as it was, or the one named
  pub by-expander : {A : Type 0} (g : Expander → A) → g (with_phy (expander_at d e) q ψ) ≡ g (expander_at d e) → (i : ℕ) → g (expander_at d' i) ≡ g (expander_at d i)
  by-expander g h i = by_cases (ℕ_discrete i e) (λ k. ap (λ v. g (expander_at d' v)) k ∙ ap g this ∙ h ∙ ap (λ v. g (expander_at d v)) (sym k)) (λ k. ap g (other i k))

  pub route_indexes_same : (i : ℕ) → (expander_at d' i).route_indexes ≡ (expander_at d i).route_indexes
  unfolding with_phy
  route_indexes_same = by-expander (λ x. x.route_indexes) refl

  pub address_same : (i : ℕ) → (expander_at d' i).address ≡ (expander_at d i).address
  unfolding with_phy
  address_same = by-expander (λ x. x.address) refl

  pub configurable-same : (i : ℕ) → (expander_at d' i).configurable ≡ (expander_at d i).configurable
  unfolding with_phy
  configurable-same = by-expander (λ x. x.configurable) refl

  -- every phy: as it was, or the one named
  pub by-phy : {A : Type 0} (g : Phy → A) → g ψ ≡ g (phy_at d e q) → (i p : ℕ) → g (phy_at d' i p) ≡ g (phy_at d i p)
  unfolding with_phy
  by-phy g h i p =
      by-expander (λ x. g (get_or x.phys p (Vacant 0)))
      (by_cases (ℕ_discrete p q)
      (λ k. ap (λ v. g (get_or (set (expander_at d e).phys q ψ) v (Vacant 0))) k ∙ ap g (get_or-set_same (expander_at d e).phys q ψ (Vacant 0) phy-there) ∙ h ∙ ap (λ v. g (phy_at d e v)) (sym k))
      (λ k. ap g (get_or-set_other (expander_at d e).phys q p ψ (Vacant 0) k))) i

  -- a phy that does not bear the event's address is as it was
  pub phy-kept : (i p : ℕ) → address_of (phy_at d' i p) ≢ a → phy_at d' i p ≡ phy_at d i p
  unfolding with_phy
  phy-kept i p n =
      by_cases (ℕ_discrete i e)
      (λ k. by_cases (ℕ_discrete p q)
      (λ l. absurd (n (ap₂ (λ x y. address_of (phy_at d' x y)) k l ∙ ap (λ x. address_of (get_or x.phys q (Vacant 0))) this
      ∙ ap address_of (get_or-set_same (expander_at d e).phys q ψ (Vacant 0) phy-there) ∙ replug-address a (phy_at d e q) f)))
      (λ l. ap (λ x. phy_at d' x p) k ∙ ap (λ x. get_or x.phys p (Vacant 0)) this ∙ get_or-set_other (expander_at d e).phys q p ψ (Vacant 0) l ∙ ap (λ x. phy_at d x p) (sym k)))
      (λ k. ap (λ x. get_or x.phys p (Vacant 0)) (other i k))

  pub attribute-same : (k i p : ℕ) → has_attribute k (phy_at d' i p) ≡ has_attribute k (phy_at d i p)
  attribute-same k = by-phy (has_attribute k) (replug-attribute a k (phy_at d e q))

  down-same : (φ : Phy) → down d' φ ≡ down d φ
  down-same φ =
      ap (λ b. to_expander φ && (is_table φ && not b))
      (attribute-same 2 (number_of d' (address_of φ)) (attached_phy_of φ) ∙ ap (λ i. is_table (phy_at d i (attached_phy_of φ))) (number_same (address_of φ)))

  not_here : down d ψ ≡ false
  not_here = not_down d ψ (replug-unattached a (phy_at d e q) f)

  not_there : down d (phy_at d e q) ≡ false
  not_there = not_down d (phy_at d e q) (unattached (phy_at d e q) f)

  pub downstream-same : (i : ℕ) → downstream d' i ≡ downstream d i
  unfolding downstream with_phy
  downstream-same i =
      downstream_of_phys-same d d' (expander_at d' i).phys number_same down-same
      ∙ by-expander (λ x. downstream_of_phys d x.phys) (downstream_of_phys-set d (expander_at d e).phys q ψ not_here not_there) i

  next-same : (before level : List ℕ) → next_level d' before level ≡ next_level d before level
  unfolding next_level
  next-same before level = ap (λ l. each_once [] (keep (λ i. not (is_in i before)) l)) (flat_map_same (downstream d') (downstream d) level (λ i h. downstream-same i))

  from-same : (k : ℕ) (before level : List ℕ) → levels_from k d' before level ≡ levels_from k d before level
  unfolding levels_from
  from-same zero before level = refl
  from-same (suc k) before level =
      ap (λ l. level ++ l) (from-same k level (next_level d' before level) ∙ ap (levels_from k d level) (next-same before level))

  pub first_level_same : (x p : ℕ) → downstream_of_phys d' (phy_at d' x p ∷ []) ≡ downstream_of_phys d (phy_at d x p ∷ [])
  first_level_same x p =
      downstream_of_phys-same d d' (phy_at d' x p ∷ []) number_same down-same ∙ by-phy (λ φ. downstream_of_phys d (φ ∷ [])) (downstream-none d ψ not_here ∙ sym (downstream-none d (phy_at d e q) not_there)) x p

  -- an event leaves the levels as they were
  pub levels-same : (x p : ℕ) → levels d' x p ≡ levels d x p
  unfolding levels
  levels-same x p =
      ap (λ k. levels_from k d' (x ∷ []) (downstream_of_phys d' (phy_at d' x p ∷ []))) size_same
      ∙ from-same (length d) (x ∷ []) (downstream_of_phys d' (phy_at d' x p ∷ []))
      ∙ ap (levels_from (length d) d (x ∷ [])) (first_level_same x p)

  pub touched-same : (v : Place) → touched d' e v ≡ touched d e v
  unfolding touched
  touched-same v = ap (is_in e) (levels-same v.expander v.phy)

  -- what every other expander gives
  pub own_other : (i : ℕ) → i ≢ e → own_words d' i ≡ own_words d i
  unfolding own_words
  own_other i k = ap (λ x. own_words_from [] x.phys) (other i k)

  -- where tables stand
  pub table-places-same : table_places d' ≡ table_places d
  unfolding table_places
  table-places-same = ap (keep (λ v. is_table (phy_at d' v.expander v.phy))) places_same ∙ keep_same _ _ (places d) (λ v h. attribute-same 2 v.expander v.phy)

  pub width_same : (v : Place) → size d' v ≡ size d v
  unfolding size
  width_same v = ap₂ (λ b n. cond b n 0) (attribute-same 2 v.expander v.phy) (route_indexes_same v.expander)

  sizes-same : (vs : List Place) → sizes d' vs ≡ sizes d vs
  unfolding sizes
  sizes-same [] = refl
  sizes-same (v ∷ vs) = ap₂ ◌+◌ (width_same v) (sizes-same vs)

  pub needed-same : needed d' ≡ needed d
  needed-same = ap (sizes d') places_same ∙ sizes-same (places d)

  offset_in_same : (i p : ℕ) (vs : List Place) → offset_in d' i p vs ≡ offset_in d i p vs
  unfolding offset_in
  offset_in_same i p [] = refl
  offset_in_same i p (v ∷ vs) = ap₂ (λ m n. cond (eqb v.expander i && eqb v.phy p) 0 (m + n)) (width_same v) (offset_in_same i p vs)

  pub stretch-same : (l : List ℕ) (i p : ℕ) → stretch d' l i p ≡ stretch d l i p
  unfolding stretch
  stretch-same l i p = ap₂ (λ m n. take m (drop n l)) (route_indexes_same i) (ap (offset_in d' i p) places_same ∙ offset_in_same i p (places d))
