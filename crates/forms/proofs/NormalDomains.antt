-- What a domain's form leaves out changes no cause of judging but 10, no level list, no table and no trace: nothing looks at it.
use Prim.Native.Nat.{ℕ, zero, suc, ◌+◌, ◌<◌}
use mathlib.Core.Path.{◌≡◌, refl, sym, ap, subst, fun_ext, ◌∙◌}
use mathlib.Core.Bool.{Bool, true, false, cond, not, ◌||◌, ◌&&◌}
use mathlib.Core.List.{List, [], ◌∷◌, ◌++◌, map, flat_map, map-append}
use native.Mathlib.Omega.{arith}
use lib.ListN.{length, get_or, take, length-map, get_or-map}
use lib.Dec.{T, eqb, leb, ltb, eqb→eq}
use Rattle.frames.specs.Refusals.{good}
use Rattle.files.specs.declared.Phy.{Phy}
use Rattle.files.specs.declared.Phy.TheVariants.{Vacant, Present}
use Rattle.files.specs.Lists.{any, keep, is_in}
use Rattle.files.specs.Domain.{Expander, Domain, expander_at, phy_at, type_of, address_of, attached_phy_of, attribute_of, has_attribute, is_table, is_direct, to_end, to_expander, bears, number_of}
use Rattle.wiring.specs.phys.PhyCauses.{Place, places, places_from, far_phy, names, unanswered, end_at, claimed, clash, clashing, fixed}
use Rattle.wiring.specs.graph.Neighbours.{cabled, neighbours}
use Rattle.wiring.specs.graph.Graph.{Chain, Loop}
use Rattle.wiring.specs.graph.Devices.{LoopIn, ChainIn}
use Rattle.wiring.specs.WiringCauses.{Passed}
use Rattle.files.proofs.ListMembers.{keep_same, and_left, and_right}
use Rattle.files.proofs.Domains.{attribute-range, expander-range}
use Rattle.wiring.proofs.WiredAndLinked.{passed_iff}
use Rattle.tables.specs.levels.Levels.{each_once, down, downstream_of_phys, downstream, next_level, levels_from, levels}
use Rattle.tables.specs.filling.Tables.{word, address_at, gives, give, give_all, level_list, table, table_places, tables, size, sizes, needed, offset_in, stretch}
use Rattle.tables.specs.JudgingCall.{judged_domain}
use Rattle.tables.specs.TableCauses.{Routable}
use Rattle.tables.proofs.AcceptedDomains.{judged-routable, routable_iff}
use Rattle.forms.specs.NormalDomain.{normal_phy, normal_expander, normal_with}

-- one phy
type-same : (v : ℕ) (φ : Phy) → type_of (normal_phy v φ) ≡ type_of φ
type-same v (Vacant r) = refl
type-same v (Present f) = refl

attribute-same : (v : ℕ) (φ : Phy) → attribute_of (normal_phy v φ) ≡ attribute_of φ
attribute-same v (Vacant r) = refl
attribute-same v (Present f) = refl

pub address_same : (v : ℕ) (φ : Phy) → address_of (normal_phy v φ) ≡ address_of φ
address_same v (Vacant r) = refl
address_same v (Present f) = refl

far-same : (v : ℕ) (φ : Phy) → attached_phy_of (normal_phy v φ) ≡ attached_phy_of φ
far-same v (Vacant r) = refl
far-same v (Present f) = refl

-- lists
any-map : {A B : Type 0} (f : B → Bool) (g : A → Bool) (h : A → B) (l : List A) → ((x : A) → f (h x) ≡ g x) → any f (map h l) ≡ any g l
unfolding any
any-map f g h [] e = refl
any-map f g h (x ∷ l) e = rw (e x, any-map f g h l e) refl

take-map : {A B : Type 0} (f : A → B) (n : ℕ) (l : List A) → take n (map f l) ≡ map f (take n l)
take-map f zero l = refl
take-map f (suc n) [] = refl
take-map f (suc n) (x ∷ l) = ap (λ k. f x ∷ k) (take-map f n l)

flat_map_same : {A B : Type 0} (f g : A → List B) (l : List A) → ((x : A) → f x ≡ g x) → flat_map f l ≡ flat_map g l
unfolding flat_map
flat_map_same f g [] e = refl
flat_map_same f g (x ∷ l) e = rw (e x, flat_map_same f g l e) refl

flat_map_map : {A B : Type 0} (f : A → List B) (h : B → B) (l : List A) → flat_map (λ x. map h (f x)) l ≡ map h (flat_map f l)
unfolding flat_map
flat_map_map f h [] = refl
flat_map_map f h (x ∷ l) = ap (λ k. map h (f x) ++ k) (flat_map_map f h l) ∙ sym (map-append h (f x) (flat_map f l))

-- a domain, with any result for vacant phys
module _ (v : ℕ) where
  pub address-at : (d : Domain) (i : ℕ) → (expander_at (normal_with v d) i).address ≡ (expander_at d i).address
  address-at [] i = refl
  address-at (e ∷ d) zero = refl
  address-at (e ∷ d) (suc i) = address-at d i

  route_indexes_at : (d : Domain) (i : ℕ) → (expander_at (normal_with v d) i).route_indexes ≡ (expander_at d i).route_indexes
  route_indexes_at [] i = refl
  route_indexes_at (e ∷ d) zero = refl
  route_indexes_at (e ∷ d) (suc i) = route_indexes_at d i

  phys-at : (d : Domain) (i : ℕ) → (expander_at (normal_with v d) i).phys ≡ map (normal_phy v) (expander_at d i).phys
  phys-at [] i = refl
  phys-at (e ∷ d) zero = refl
  phys-at (e ∷ d) (suc i) = phys-at d i

  pub length_at : (d : Domain) (i : ℕ) → length (expander_at (normal_with v d) i).phys ≡ length (expander_at d i).phys
  length_at d i = ap length (phys-at d i) ∙ length-map (expander_at d i).phys (normal_phy v)

  pub length-same : (d : Domain) → length (normal_with v d) ≡ length d
  length-same d = length-map d (normal_expander v)

  pub number_same : (d : Domain) (s : ℕ) → number_of (normal_with v d) s ≡ number_of d s
  unfolding number_of
  number_same [] s = refl
  number_same (e ∷ d) s = rw (number_same d s) refl

  places_from-same : (d : Domain) (i : ℕ) → places_from i (normal_with v d) ≡ places_from i d
  unfolding places_from
  places_from-same [] i = refl
  places_from-same (e ∷ d) i = rw (length-map e.phys (normal_phy v), places_from-same d (i + 1)) refl

  places_same : (d : Domain) → places (normal_with v d) ≡ places d
  places_same d = places_from-same d 0

-- with result 0, also past the end
phy-at : (d : Domain) (i p : ℕ) → phy_at (normal_with 0 d) i p ≡ normal_phy 0 (phy_at d i p)
phy-at d i p =
    ap (λ (φs : List Phy). get_or φs p (Vacant 0)) (phys-at 0 d i) ∙ get_or-map (normal_phy 0) (expander_at d i).phys p (Vacant 0)

module _ (d : Domain) where
  abbrev n : Domain
  n = normal_with 0 d

  pub attribute-at : (k i p : ℕ) → has_attribute k (phy_at n i p) ≡ has_attribute k (phy_at d i p)
  attribute-at k i p = ap (λ (a : ℕ). eqb a k) (ap attribute_of (phy-at d i p) ∙ attribute-same 0 (phy_at d i p))

  pub type_at : (i p : ℕ) → type_of (phy_at n i p) ≡ type_of (phy_at d i p)
  type_at i p = ap type_of (phy-at d i p) ∙ type-same 0 (phy_at d i p)

  pub attached-at : (i p : ℕ) → address_of (phy_at n i p) ≡ address_of (phy_at d i p)
  attached-at i p = ap address_of (phy-at d i p) ∙ address_same 0 (phy_at d i p)

  pub far_at : (i p : ℕ) → attached_phy_of (phy_at n i p) ≡ attached_phy_of (phy_at d i p)
  far_at i p = ap attached_phy_of (phy-at d i p) ∙ far-same 0 (phy_at d i p)

  pub bears-at : (s i p : ℕ) → bears s (phy_at n i p) ≡ bears s (phy_at d i p)
  bears-at s i p = rw (type_at i p, attached-at i p) refl

  -- causes 7, 8 and 9
  far_phy-same : (φ : Phy) → far_phy n (normal_phy 0 φ) ≡ normal_phy 0 (far_phy d φ)
  far_phy-same φ =
      ap (λ (s : ℕ). phy_at n (number_of n s) (attached_phy_of (normal_phy 0 φ))) (address_same 0 φ) ∙ ap (λ (j : ℕ). phy_at n j (attached_phy_of (normal_phy 0 φ))) (number_same 0 d (address_of φ))
      ∙ ap (phy_at n (number_of d (address_of φ))) (far-same 0 φ) ∙ phy-at d (number_of d (address_of φ)) (attached_phy_of φ)

  names_same : (s p : ℕ) (φ : Phy) → names s p (normal_phy 0 φ) ≡ names s p φ
  names_same s p (Vacant r) = refl
  names_same s p (Present f) = refl

  unanswered-by : (i p : ℕ) (φ : Phy) → (to_expander (normal_phy 0 φ) && (is_direct (normal_phy 0 φ) || not (names (expander_at n i).address p (far_phy n (normal_phy 0 φ)))))
      ≡ (to_expander φ && (is_direct φ || not (names (expander_at d i).address p (far_phy d φ))))
  unanswered-by i p φ =
      let a : names (expander_at n i).address p (far_phy n (normal_phy 0 φ)) ≡ names (expander_at d i).address p (far_phy d φ) =
      ap (λ (s : ℕ). names s p (far_phy n (normal_phy 0 φ))) (address-at 0 d i) ∙ ap (names (expander_at d i).address p) (far_phy-same φ) ∙ names_same (expander_at d i).address p (far_phy d φ) in
      ap (λ (b : Bool). to_expander (normal_phy 0 φ) && (is_direct (normal_phy 0 φ) || not b)) a
      ∙ ap (λ (k : ℕ). leb 2 k && (is_direct (normal_phy 0 φ) || not (names (expander_at d i).address p (far_phy d φ)))) (type-same 0 φ)
      ∙ ap (λ (k : ℕ). to_expander φ && (eqb k 0 || not (names (expander_at d i).address p (far_phy d φ)))) (attribute-same 0 φ)

  unanswered-same : (i p : ℕ) → unanswered n i p ≡ unanswered d i p
  unfolding unanswered
  unanswered-same i p = ap (λ (φ : Phy). to_expander φ && (is_direct φ || not (names (expander_at n i).address p (far_phy n φ)))) (phy-at d i p) ∙ unanswered-by i p (phy_at d i p)

  end_at-same : (s : ℕ) (e : Expander) → end_at s (normal_expander 0 e) ≡ end_at s e
  unfolding end_at
  end_at-same s e = any-map (λ φ. to_end φ && eqb (address_of φ) s) (λ φ. to_end φ && eqb (address_of φ) s) (normal_phy 0) e.phys (λ φ. rw (type-same 0 φ, address_same 0 φ) refl)

  claimed-same : (i p : ℕ) → claimed n i p ≡ claimed d i p
  unfolding claimed
  claimed-same i p =
      let s : ℕ = address_of (phy_at d i p) in
      let a : any (end_at s) (take i n) ≡ any (end_at s) (take i d) = ap (any (end_at s)) (take-map (normal_expander 0) i d) ∙ any-map (end_at s) (end_at s) (normal_expander 0) (take i d) (end_at-same s) in
      ap (λ (k : ℕ). eqb k 1 && (ltb (number_of n (address_of (phy_at n i p))) (length n) || any (end_at (address_of (phy_at n i p))) (take i n))) (type_at i p)
      ∙ ap (λ (k : ℕ). to_end (phy_at d i p) && (ltb (number_of n k) (length n) || any (end_at k) (take i n))) (attached-at i p)
      ∙ ap (λ (k : ℕ). to_end (phy_at d i p) && (ltb k (length n) || any (end_at s) (take i n))) (number_same 0 d s)
      ∙ ap (λ (k : ℕ). to_end (phy_at d i p) && (ltb (number_of d s) k || any (end_at s) (take i n))) (length-same 0 d)
      ∙ ap (λ (b : Bool). to_end (phy_at d i p) && (ltb (number_of d s) (length d) || b)) a

  clash-same : (φ ψ : Phy) → clash (normal_phy 0 φ) (normal_phy 0 ψ) ≡ clash φ ψ
  unfolding clash
  clash-same (Vacant r) ψ = refl
  clash-same (Present f) (Vacant r) = refl
  clash-same (Present f) (Present g) = refl

  clashing-same : (i p : ℕ) → clashing n i p ≡ clashing d i p
  unfolding clashing
  clashing-same i p =
      ap (λ (φ : Phy). any (clash φ) (take p (expander_at n i).phys)) (phy-at d i p)
      ∙ ap (λ (φs : List Phy). any (clash (normal_phy 0 (phy_at d i p))) (take p φs)) (phys-at 0 d i)
      ∙ ap (any (clash (normal_phy 0 (phy_at d i p)))) (take-map (normal_phy 0) p (expander_at d i).phys)
      ∙ any-map (clash (normal_phy 0 (phy_at d i p))) (clash (phy_at d i p)) (normal_phy 0) (take p (expander_at d i).phys) (clash-same (phy_at d i p))

  -- neighbours
  cabled-same : (i j : ℕ) → cabled n i j ≡ cabled d i j
  unfolding cabled
  cabled-same i j =
      let f : ℕ → Phy → Bool = λ s φ. to_expander φ && eqb (address_of φ) s in
      ap (λ (s : ℕ). any (f s) (expander_at n i).phys) (address-at 0 d j)
      ∙ ap (any (f (expander_at d j).address)) (phys-at 0 d i)
      ∙ any-map (f (expander_at d j).address) (f (expander_at d j).address) (normal_phy 0) (expander_at d i).phys (λ φ. rw (type-same 0 φ, address_same 0 φ) refl)

  neighbours-same : neighbours n ≡ neighbours d
  unfolding neighbours
  neighbours-same = fun_ext (λ i. fun_ext (λ j. rw (cabled-same i j, cabled-same j i) refl))

  -- levels
  down-same : (φ : Phy) → down n (normal_phy 0 φ) ≡ down d φ
  down-same φ =
      ap (λ (ψ : Phy). to_expander (normal_phy 0 φ) && (is_table (normal_phy 0 φ) && not (is_table ψ))) (far_phy-same φ)
      ∙ rw (type-same 0 φ, attribute-same 0 φ, attribute-same 0 (far_phy d φ)) refl

  downstream_of_phys-same : (φs : List Phy) → downstream_of_phys n (map (normal_phy 0) φs) ≡ downstream_of_phys d φs
  unfolding downstream_of_phys keep
  downstream_of_phys-same [] = refl
  downstream_of_phys-same (φ ∷ φs) =
      ap (λ (b : Bool). map (λ ψ. number_of n (address_of ψ)) (cond b (normal_phy 0 φ ∷ keep (down n) (map (normal_phy 0) φs)) (keep (down n) (map (normal_phy 0) φs)))) (down-same φ)
      ∙ go (down d φ) (downstream_of_phys-same φs)
    where
      go : (b : Bool) → map (λ ψ. number_of n (address_of ψ)) (keep (down n) (map (normal_phy 0) φs)) ≡ map (λ ψ. number_of d (address_of ψ)) (keep (down d) φs)
          → map (λ ψ. number_of n (address_of ψ)) (cond b (normal_phy 0 φ ∷ keep (down n) (map (normal_phy 0) φs)) (keep (down n) (map (normal_phy 0) φs)))
          ≡ map (λ ψ. number_of d (address_of ψ)) (cond b (φ ∷ keep (down d) φs) (keep (down d) φs))
      go true r = ap (λ (k : ℕ). k ∷ map (λ ψ. number_of n (address_of ψ)) (keep (down n) (map (normal_phy 0) φs))) (ap (number_of n) (address_same 0 φ) ∙ number_same 0 d (address_of φ))
          ∙ ap (λ (l : List ℕ). number_of d (address_of φ) ∷ l) r
      go false r = r

  downstream-same : (i : ℕ) → downstream n i ≡ downstream d i
  unfolding downstream
  downstream-same i = ap (downstream_of_phys n) (phys-at 0 d i) ∙ downstream_of_phys-same (expander_at d i).phys

  next_level-same : (last level : List ℕ) → next_level n last level ≡ next_level d last level
  unfolding next_level
  next_level-same last level = ap (λ (l : List ℕ). each_once [] (keep (λ i. not (is_in i last)) l)) (flat_map_same (downstream n) (downstream d) level downstream-same)

  levels_from-same : (count : ℕ) (last level : List ℕ) → levels_from count n last level ≡ levels_from count d last level
  unfolding levels_from
  levels_from-same zero last level = refl
  levels_from-same (suc count) last level =
      ap (λ (l : List ℕ). level ++ l) (ap (levels_from count n level) (next_level-same last level) ∙ levels_from-same count level (next_level d last level))

  levels-same : (x p : ℕ) → levels n x p ≡ levels d x p
  unfolding levels
  levels-same x p =
      let e : downstream_of_phys n (phy_at n x p ∷ []) ≡ downstream_of_phys d (phy_at d x p ∷ []) =
      ap (λ (φ : Phy). downstream_of_phys n (φ ∷ [])) (phy-at d x p) ∙ downstream_of_phys-same (phy_at d x p ∷ []) in
      ap (λ (k : ℕ). levels_from k n (x ∷ []) (downstream_of_phys n (phy_at n x p ∷ []))) (length-same 0 d)
      ∙ levels_from-same (length d) (x ∷ []) (downstream_of_phys n (phy_at n x p ∷ [])) ∙ ap (levels_from (length d) d (x ∷ [])) e

  -- lists and tables
  held_by_same : (x s : ℕ) → address_at n x s ≡ address_at d x s
  unfolding address_at
  held_by_same x s =
      let e : any (bears s) (expander_at n x).phys ≡ any (bears s) (expander_at d x).phys =
      ap (any (bears s)) (phys-at 0 d x) ∙ any-map (bears s) (bears s) (normal_phy 0) (expander_at d x).phys (λ φ. rw (type-same 0 φ, address_same 0 φ) refl) in
      rw (address-at 0 d x, e) refl

  gives_same : (x : ℕ) (l : List ℕ) (φ : Phy) → gives n x l (normal_phy 0 φ) ≡ gives d x l φ
  unfolding gives
  gives_same x l (Vacant r) = refl
  gives_same x l (Present f) = rw (held_by_same x f.address) refl

  word_same : (φ : Phy) → word (normal_phy 0 φ) ≡ word φ
  word_same (Vacant r) = refl
  word_same (Present f) = refl

  give-same : (x : ℕ) (l : List ℕ) (φ : Phy) → give n x l (normal_phy 0 φ) ≡ give d x l φ
  unfolding give
  give-same x l φ = rw (gives_same x l φ, word_same φ) refl

  give_all-same : (x : ℕ) (φs : List Phy) (l : List ℕ) → give_all n x l (map (normal_phy 0) φs) ≡ give_all d x l φs
  unfolding give_all
  give_all-same x [] l = refl
  give_all-same x (φ ∷ φs) l =
      ap (λ (k : List ℕ). give_all n x k (map (normal_phy 0) φs)) (give-same x l φ) ∙ give_all-same x φs (give d x l φ)

  list_same : (x p : ℕ) → level_list n x p ≡ level_list d x p
  unfolding level_list
  list_same x p =
      let f : ℕ → List Phy = λ i. (expander_at d i).phys in
      let e : flat_map (λ i. (expander_at n i).phys) (levels n x p) ≡ map (normal_phy 0) (flat_map f (levels d x p)) =
      flat_map_same (λ i. (expander_at n i).phys) (λ i. map (normal_phy 0) (f i)) (levels n x p) (phys-at 0 d)
      ∙ flat_map_map f (normal_phy 0) (levels n x p) ∙ ap (λ (l : List ℕ). map (normal_phy 0) (flat_map f l)) (levels-same x p) in
      ap (give_all n x []) e ∙ give_all-same x (flat_map f (levels d x p)) []

  table_same : (x p : ℕ) → table n x p ≡ table d x p
  unfolding table
  table_same x p = rw (list_same x p, route_indexes_at 0 d x) refl

  size_same : (q : Place) → size n q ≡ size d q
  unfolding size
  size_same q = rw (attribute-at 2 q.expander q.phy, route_indexes_at 0 d q.expander) refl

  sizes-same : (qs : List Place) → sizes n qs ≡ sizes d qs
  unfolding sizes
  sizes-same [] = refl
  sizes-same (q ∷ qs) = rw (size_same q, sizes-same qs) refl

  pub needed-same : needed n ≡ needed d
  needed-same = ap (sizes n) (places_same 0 d) ∙ sizes-same (places d)

  table_places-same : table_places n ≡ table_places d
  unfolding table_places
  table_places-same =
      ap (keep (λ q. is_table (phy_at n q.expander q.phy))) (places_same 0 d)
      ∙ keep_same (λ q. is_table (phy_at n q.expander q.phy)) (λ q. is_table (phy_at d q.expander q.phy)) (places d)
      (λ q h. attribute-at 2 q.expander q.phy)

  tables-same : tables n ≡ tables d
  unfolding tables
  tables-same =
      flat_map_same (λ q. table n q.expander q.phy) (λ q. table d q.expander q.phy) (table_places n) (λ q. table_same q.expander q.phy)
      ∙ ap (flat_map (λ q. table d q.expander q.phy)) table_places-same

  offset-same : (i p : ℕ) (qs : List Place) → offset_in n i p qs ≡ offset_in d i p qs
  unfolding offset_in
  offset-same i p [] = refl
  offset-same i p (q ∷ qs) = rw (size_same q, offset-same i p qs) refl

  pub stretch-same : (words : List ℕ) (i p : ℕ) → stretch n words i p ≡ stretch d words i p
  unfolding stretch
  stretch-same words i p =
      let o : offset_in n i p (places n) ≡ offset_in d i p (places d) = ap (offset_in n i p) (places_same 0 d) ∙ offset-same i p (places d) in
      rw (route_indexes_at 0 d i, o) refl

-- two domains of which a form leaves the same
abbrev pub Alike : Domain → Domain → Type 0
Alike d e = normal_with 0 d ≡ normal_with 0 e

normal_phys_twice : (v : ℕ) (φs : List Phy) → map (normal_phy 0) (map (normal_phy v) φs) ≡ map (normal_phy 0) φs
normal_phys_twice v [] = refl
normal_phys_twice v (Vacant r ∷ φs) = ap (λ (l : List Phy). Vacant 0 ∷ l) (normal_phys_twice v φs)
normal_phys_twice v (Present f ∷ φs) = ap (λ (l : List Phy). Present f ∷ l) (normal_phys_twice v φs)

pub normal-alike : (v : ℕ) (d : Domain) → Alike (normal_with v d) d
normal-alike v [] = refl
normal-alike v (e ∷ d) = rw (normal_phys_twice v e.phys, normal-alike v d) refl

-- what does not look at it is the same of both
module _ {A : Type 0} (f : Domain → A) (same : (d : Domain) → f (normal_with 0 d) ≡ f d) where
  pub alike : (d e : Domain) → Alike d e → f d ≡ f e
  alike d e a = sym (same d) ∙ ap f a ∙ same e

-- a domain like an accepted one, whose expanders are configurable, is accepted
module _ (d e : Domain) (a : Alike d e) where
  length-alike : length d ≡ length e
  length-alike = alike length (length-same 0) d e a

  passed-alike : ((i p : ℕ) → T (fixed e i p) → ⊥) → Passed d → Passed e
  passed-alike c r = record {
    seven = λ i p t. r.seven i p (subst T (sym (alike (λ x. unanswered x i p) (λ x. unanswered-same x i p) d e a)) t);
    eight = λ i p t. r.eight i p (subst T (sym (alike (λ x. claimed x i p) (λ x. claimed-same x i p) d e a)) t);
    nine = λ i p t. r.nine i p (subst T (sym (alike (λ x. clashing x i p) (λ x. clashing-same x i p) d e a)) t);
    ten = c;
  }

  chain-over : (i j : ℕ) (l : List ℕ) → ChainIn d i j l → ChainIn e i j l
  chain-over i j l c =
      subst (λ (k : ℕ). Chain k (neighbours e) i j l) length-alike
      (subst (λ (adj : ℕ → ℕ → Bool). Chain (length d) adj i j l) (alike neighbours neighbours-same d e a) c)

  chain_back : (i j : ℕ) (l : List ℕ) → ChainIn e i j l → ChainIn d i j l
  chain_back i j l c =
      subst (λ (k : ℕ). Chain k (neighbours d) i j l) (sym length-alike)
      (subst (λ (adj : ℕ → ℕ → Bool). Chain (length e) adj i j l) (sym (alike neighbours neighbours-same d e a)) c)

  loop_back : LoopIn e → LoopIn d
  loop_back o =
      subst (λ (k : ℕ). Loop k (neighbours d)) (sym length-alike)
      (subst (λ (adj : ℕ → ℕ → Bool). Loop (length e) adj) (sym (alike neighbours neighbours-same d e a)) o)

  routable-alike : (chain : ℕ) → Routable chain d → Routable chain e
  routable-alike chain r = record {
    linked = record {
      no_loop = λ o. r.linked.no_loop (loop_back o);
      chained = λ i h. let c = r.linked.chained i (omega (arith, length-alike)) in (c.0, chain-over 0 i c.0 c.1);
    };
    short = λ i j l c. r.short i j l (chain_back i j l c);
    fits = λ i p t. let o = r.fits i p (subst T (sym (alike (λ x. is_table (phy_at x i p)) (λ x. attribute-at x 2 i p) d e a)) t) in
        omega (arith, ap length (alike (λ x. level_list x i p) (λ x. list_same x i p) d e a), alike (λ x. (expander_at x i).route_indexes) (λ x. route_indexes_at 0 x i) d e a);
  }

  pub accepted-alike : ((i p : ℕ) → T (fixed e i p) → ⊥) → (chain : ℕ) → judged_domain chain d ≡ good d → judged_domain chain e ≡ good e
  accepted-alike c chain j =
      let r = judged-routable chain d d j in
      let w = (passed_iff e).1 (passed-alike c ((passed_iff d).0 r.1)) in
      (routable_iff chain e w).1 (routable-alike chain r.2)

  -- the same tables and counts
  pub tables-alike : tables d ≡ tables e
  tables-alike = alike tables tables-same d e a

  pub places-alike : table_places d ≡ table_places e
  places-alike = alike table_places table_places-same d e a

  pub needed-alike : needed d ≡ needed e
  needed-alike = alike needed needed-same d e a

-- every expander of a normal domain is configurable
configurable-at : (v : ℕ) (d : Domain) (i : ℕ) → i < length d → (expander_at (normal_with v d) i).configurable ≡ 1
configurable-at v [] i h = absurd (omega arith)
configurable-at v (e ∷ d) zero h = refl
configurable-at v (e ∷ d) (suc i) h = configurable-at v d i (omega arith)

never-fixed : (v : ℕ) (d : Domain) (i p : ℕ) → T (fixed (normal_with v d) i p) → ⊥
unfolding fixed
never-fixed v d i p t =
    let n : Domain = normal_with v d in
    let r : T (is_table (phy_at n i p)) = and_left (is_table (phy_at n i p)) (eqb (expander_at n i).configurable 0) t in
    let h = expander-range n i p (attribute-range n 2 i p r (omega arith)) in
    let z = eqb→eq (expander_at n i).configurable 0 (and_right (is_table (phy_at n i p)) (eqb (expander_at n i).configurable 0) t) in
    omega (arith, configurable-at v d i (omega (arith, length-same v d)), z)

pub normal-accepted : (v : ℕ) (d : Domain) (chain : ℕ) → judged_domain chain d ≡ good d → judged_domain chain (normal_with v d) ≡ good (normal_with v d)
normal-accepted v d chain j = accepted-alike d (normal_with v d) (sym (normal-alike v d)) (never-fixed v d) chain j
