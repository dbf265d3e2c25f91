-- Where a direct phy is plugged or pulled, one word at most changes of its expander's own list, and so of each level list and of each table (document
-- 02, paper 10).
use Prim.Native.Nat.{ℕ, zero, suc, ◌+◌}
use mathlib.Core.Path.{◌≡◌, refl, sym, ap, ap₂, subst, subst₂, ◌∙◌}
use mathlib.Core.Logic.{inl, inr, ◌≢◌, ⊎_elim, by_cases}
use mathlib.Core.List.{List, [], ◌∷◌, ◌++◌, flat_map}
use mathlib.Core.Bool.{Bool, true, false, cond, not, ◌||◌, ◌&&◌}
use native.Mathlib.Omega.{arith}
use native.Mathlib.Nat.{zero-add, suc-add}
use native.Mathlib.Decide.{ℕ_discrete, dec_lt}
use lib.ListN.{length, get_or, take, set, replicate, length-set}
use lib.Seq.{set_out, set-append_left, get_or-set_same, get_or-set_other}
use lib.Dec.{T, eqb→eq}
use Rattle.files.specs.declared.Phy.{Phy}
use Rattle.files.specs.declared.Phy.TheVariants.{Vacant}
use Rattle.files.specs.Lists.{any, In, Distinct}
use Rattle.files.specs.Domain.{Domain, no_expander, expander_at, phy_at, address_of, attribute_of, is_table, is_direct, attached, bears, number_of}
use Rattle.files.specs.PhyReplaced.{with_phy, set_phy}
use Rattle.wiring.specs.WiringCauses.{Linked}
use Rattle.files.proofs.ListMembers.{tests, T?, is_true, is_false, was_true, in_cast, get_d_in}
use Rattle.wiring.proofs.phys.WiredPhys.{Wired, far-below, far-is}
use Rattle.files.proofs.Domains.{attribute-one}
use Rattle.tables.specs.levels.Levels.{down, levels}
use Rattle.tables.specs.filling.Tables.{word, level_list, table}
use Rattle.tables.specs.lists.OwnLists.{owns, own_words_from, own_words, own_words_of_levels}
use Rattle.tables.specs.events.ReplugCall.{pluggable, replug}
use Rattle.tables.proofs.levels.LevelsBeyond.{down-leads, levels-few}
use Rattle.tables.proofs.lists.LevelListLaw.{law, levels-empty}
use Rattle.tables.proofs.events.LevelsAfterEvent.{flat_map_same, replug-attribute, expander-there, phy-there, route_indexes_same, levels-same, own_other}

module _ {A : Type 0} where
  set_right : (xs ys : List A) (i : ℕ) (a : A) → set (xs ++ ys) (length xs + i) a ≡ xs ++ set ys i a
  set_right [] ys i a = ap (λ k. set ys k a) (zero-add i)
  set_right (x ∷ xs) ys i a = ap (λ k. set (x ∷ xs ++ ys) k a) (suc-add (length xs) i) ∙ ap (λ l. x ∷ l) (set_right xs ys i a)

  -- a place set in the front is a place set in the whole
  set-left : (xs ys : List A) (i : ℕ) (a : A) → (j : ℕ) × (set xs i a ++ ys ≡ set (xs ++ ys) j a)
  set-left xs ys i a =
      by_cases (dec_lt i (length xs)) (λ h. (i, sym (set-append_left xs ys i a h)))
      (λ h. (length (xs ++ ys), ap (λ l. l ++ ys) (set_out xs i a (omega arith)) ∙ sym (set_out (xs ++ ys) (length (xs ++ ys)) a (omega arith))))

  take-set : (n : ℕ) (l : List A) (i : ℕ) (a : A) → take n (set l i a) ≡ set (take n l) i a
  take-set zero l i a = refl
  take-set (suc n) [] i a = refl
  take-set (suc n) (x ∷ l) zero a = refl
  take-set (suc n) (x ∷ l) (suc i) a = ap (λ r. x ∷ r) (take-set n l i a)

-- what a phy gives depends on the lower phys only by whether they bear the address of an attached table phy
owns-same : (low low' : List Phy) (φ : Phy) → (T (is_table φ) → T (attached φ) → any (bears (address_of φ)) low ≡ any (bears (address_of φ)) low')
    → owns low φ ≡ owns low' φ
unfolding owns
owns-same low low' φ h = go (is_table φ) refl (attached φ) refl
  where
    go : (b : Bool) → is_table φ ≡ b → (c : Bool) → attached φ ≡ c
        → (is_direct φ || (b && (c && not (any (bears (address_of φ)) low)))) ≡ (is_direct φ || (b && (c && not (any (bears (address_of φ)) low'))))
    go true e true f = ap (λ v. is_direct φ || not v) (h (was_true (is_table φ) e) (was_true (attached φ) f))
    go true e false f = refl
    go false e c f = refl

own_agree : (φs low low' : List Phy) → ((χ : Phy) → In χ φs → T (is_table χ) → T (attached χ) → any (bears (address_of χ)) low ≡ any (bears (address_of χ)) low')
    → own_words_from low φs ≡ own_words_from low' φs
unfolding own_words_from any
own_agree [] low low' h = refl
own_agree (φ ∷ φs) low low' h =
    ap₂ (λ b l. cond b (word φ ∷ l) l) (owns-same low low' φ (h φ (inl refl)))
    (own_agree φs (φ ∷ low) (φ ∷ low') (λ χ k t u. ap (λ b. bears (address_of χ) φ || b) (h χ (inr k) t u)))

-- a direct phy set to another direct one that bears the same of the table phys' addresses: its word is set, and no other changes
own_set : (φs low : List Phy) (q : ℕ) (ψ : Phy) → T (is_direct (get_or φs q (Vacant 0))) → T (is_direct ψ)
    → ((χ : Phy) → In χ φs → T (is_table χ) → T (attached χ) → bears (address_of χ) ψ ≡ bears (address_of χ) (get_or φs q (Vacant 0)))
    → (k : ℕ) × (own_words_from low (set φs q ψ) ≡ set (own_words_from low φs) k (word ψ))
unfolding own_words_from owns any
own_set [] low q ψ t u h = absurd t
own_set (φ ∷ φs) low zero ψ t u h = (
  0,
  rw (is_true (is_direct ψ) u, is_true (is_direct φ) t)
      (ap (λ l. word ψ ∷ l) (own_agree φs (ψ ∷ low) (φ ∷ low) (λ χ k a b. ap (λ v. v || any (bears (address_of χ)) low) (h χ (inr k) a b)))),
)
own_set (φ ∷ φs) low (suc q) ψ t u h = go (owns low φ) (own_set φs (φ ∷ low) q ψ t u (λ χ k. h χ (inr k)))
  where
    go : (b : Bool) → (k : ℕ) × (own_words_from (φ ∷ low) (set φs q ψ) ≡ set (own_words_from (φ ∷ low) φs) k (word ψ))
        → (k : ℕ) × (cond b (word φ ∷ own_words_from (φ ∷ low) (set φs q ψ)) (own_words_from (φ ∷ low) (set φs q ψ)) ≡ set (cond b (word φ ∷ own_words_from (φ ∷ low) φs) (own_words_from (φ ∷ low) φs)) k (word ψ))
    go true r = (suc r.0, ap (λ l. word φ ∷ l) r.1)
    go false r = r

-- one of several lists with a place set, each of them once: that place is set in all of them, one after the other
flat_set : (f g : ℕ → List ℕ) (e k v : ℕ) → ((i : ℕ) → i ≢ e → g i ≡ f i) → g e ≡ set (f e) k v → (es : List ℕ) → Distinct es
    → (j : ℕ) × (flat_map g es ≡ set (flat_map f es) j v)
unfolding flat_map
flat_set f g e k v other here [] di = (0, refl)
flat_set f g e k v other here (i ∷ es) di = by_cases (ℕ_discrete i e)
    (λ q. let rest = flat_map_same g f es (λ m h. other m (λ o. di.0 (in_cast es (q ∙ sym o) h))) in
    let o = set-left (f i) (flat_map f es) k v in
    (o.0, ap₂ ◌++◌ (subst (λ m. g m ≡ set (f m) k v) (sym q) here) rest ∙ o.1))
    (λ q. let r = flat_set f g e k v other here es di.1 in
    (length (f i) + r.0, ap₂ ◌++◌ (other i q) r.1 ∙ sym (set_right (f i) (flat_map f es) r.0 v)))

-- the levels of a phy have each expander at most once
levels-once : (d : Domain) → Wired d → Linked d → (x p : ℕ) → Distinct (levels d x p)
levels-once d w r x p =
    ⊎_elim
    (λ t. let l = down-leads d w r x p t in
    (levels-few d w r x p (number_of d (address_of (phy_at d x p))) (far-below d w x p l.expander) (far-is d w x p l.expander) l.routed l.single).0.1)
    (λ k. subst Distinct (sym (levels-empty d x p k)) tt) (T? (down d (phy_at d x p)))

-- no direct phy bears what a table phy of its expander bears
unborne : (d : Domain) → Wired d → (i p k : ℕ) → T (is_direct (phy_at d i p)) → T (is_table (phy_at d i k)) → T (attached (phy_at d i k))
    → bears (address_of (phy_at d i k)) (phy_at d i p) ≡ false
unborne d w i p k t u v =
    is_false (bears (address_of (phy_at d i k)) (phy_at d i p))
    (λ b. let e : attribute_of (phy_at d i p) ≡ attribute_of (phy_at d i k) = w.kind i p k (search tests) v (search tests) in
    let z : attribute_of (phy_at d i p) ≡ 0 = eqb→eq (attribute_of (phy_at d i p)) 0 t in
    let y : attribute_of (phy_at d i k) ≡ 2 = eqb→eq (attribute_of (phy_at d i k)) 2 u in
    omega arith)

-- the domain d, and d with phy q of expander e, which is direct, plugged or pulled; both are past causes 1 to 12
module _ (d : Domain) (e q a : ℕ) (f : T (pluggable (phy_at d e q))) (was : T (is_direct (phy_at d e q)))
    (w : Wired d) (l : Linked d) (w' : Wired (set_phy d e q (replug a (phy_at d e q)))) (l' : Linked (set_phy d e q (replug a (phy_at d e q)))) where
  abbrev ψ : Phy
  ψ = replug a (phy_at d e q)

  abbrev d' : Domain
  d' = set_phy d e q ψ

  is : T (is_direct ψ)
  is = subst T (sym (replug-attribute a 0 (phy_at d e q))) was

  phys-this : (expander_at d' e).phys ≡ set (expander_at d e).phys q ψ
  unfolding set_phy with_phy
  phys-this = ap (λ x. x.phys) (get_or-set_same d e (with_phy (expander_at d e) q ψ) no_expander (expander-there d e q a f))

  phy-this : phy_at d' e q ≡ ψ
  phy-this = ap (λ φs. get_or φs q (Vacant 0)) phys-this ∙ get_or-set_same (expander_at d e).phys q ψ (Vacant 0) (phy-there d e q a f)

  phy-other : (p : ℕ) → p ≢ q → phy_at d' e p ≡ phy_at d e p
  phy-other p k = ap (λ φs. get_or φs p (Vacant 0)) phys-this ∙ get_or-set_other (expander_at d e).phys q p ψ (Vacant 0) k

  -- the phy bears no address that a table phy of its expander bears, neither before nor after
  clear : (χ : Phy) → In χ (expander_at d e).phys → T (is_table χ) → T (attached χ) → bears (address_of χ) ψ ≡ bears (address_of χ) (phy_at d e q)
  clear χ h t u =
      let g = get_d_in (expander_at d e).phys (Vacant 0) χ h in
      let p = g.0 in
      let t₁ : T (is_table (phy_at d e p)) = subst (λ φ. T (is_table φ)) (sym g.2) t in
      let u₁ : T (attached (phy_at d e p)) = subst (λ φ. T (attached φ)) (sym g.2) u in
      let n : p ≢ q = λ o. let z = attribute-one 0 2 (phy_at d e q) was (subst (λ v. T (is_table (phy_at d e v))) o t₁) in omega arith in
      let s : phy_at d' e p ≡ χ = phy-other p n ∙ g.2 in
      let x : bears (address_of (phy_at d' e p)) (phy_at d' e q) ≡ false =
      unborne d' w' e q p (subst (λ φ. T (is_direct φ)) (sym phy-this) is) (subst (λ φ. T (is_table φ)) (sym s) t) (subst (λ φ. T (attached φ)) (sym s) u) in
      subst₂ (λ φ χ. bears (address_of φ) χ ≡ false) s phy-this x ∙ sym (subst (λ φ. bears (address_of φ) (phy_at d e q) ≡ false) g.2 (unborne d w e q p was t₁ u₁))

  own_one : (k : ℕ) × (own_words d' e ≡ set (own_words d e) k (word ψ))
  unfolding own_words
  own_one = let r = own_set (expander_at d e).phys [] q ψ was is clear in (r.0, ap (own_words_from []) phys-this ∙ r.1)

  -- each list changes at no more than one index
  pub list-one : (x p : ℕ) → (j : ℕ) × (level_list d' x p ≡ set (level_list d x p) j (word ψ))
  unfolding own_words_of_levels
  list-one x p =
      let r = flat_set (own_words d) (own_words d') e own_one.0 (word ψ) (own_other d e q a f) own_one.1 (levels d x p) (levels-once d w l x p) in
      (r.0, law d' w' l' x p ∙ ap (flat_map (own_words d')) (levels-same d e q a f x p) ∙ r.1 ∙ ap (λ m. set m r.0 (word ψ)) (sym (law d w l x p)))

  -- and does not change its length
  pub list_length : (x p : ℕ) → length (level_list d' x p) ≡ length (level_list d x p)
  list_length x p = let r = list-one x p in ap length r.1 ∙ length-set (level_list d x p) r.0 (word ψ)

  -- each table changes at no more than one index
  pub table-one : (x p : ℕ) → (j : ℕ) × (table d' x p ≡ set (table d x p) j (word ψ))
  unfolding table
  table-one x p =
      let r = list-one x p in
      let n = (expander_at d x).route_indexes in
      let z : List ℕ = replicate n 0 in
      let o = set-left (level_list d x p) z r.0 (word ψ) in
      (o.0, ap₂ (λ k m. take k (m ++ replicate k 0)) (route_indexes_same d e q a f x) r.1 ∙ ap (take n) o.1 ∙ take-set n (level_list d x p ++ z) o.0 (word ψ))
