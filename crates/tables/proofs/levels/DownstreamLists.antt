-- The expanders downstream of an expander, each once: a list made with room for 65 numbers is whole, as its numbers differ, and each is at most 64.
use Prim.Native.Nat.{ℕ, ◌+◌, ◌≤◌, ◌<◌}
use mathlib.Core.Path.{◌≡◌, refl, sym, ◌∙◌, ap, subst}
use mathlib.Core.Bool.{Bool, true, false, cond, ◌||◌}
use mathlib.Core.List.{List, [], ◌∷◌, ◌++◌, map, append-nil, append_assoc, map-append}
use mathlib.Core.Logic.{inl, inr, ⊎_elim}
use native.Mathlib.Omega.{arith}
use lib.ListN.{length, get_or, take, length-append, get_or-eq_default}
use lib.Seq.{take_all}
use lib.Dec.{T, eqb, leb, eqb→eq}
use borrow.Author.Tests.{lt-leb}
use Rattle.files.specs.declared.Phy.{Phy}
use Rattle.files.specs.declared.Phy.TheVariants.{Vacant}
use Rattle.files.specs.Lists.{any, keep, is_in, In, Distinct, Below}
use Rattle.files.specs.Domain.{Domain, Expander, no_expander, expander_at, address_of, number_of}
use Rattle.files.proofs.ListMembers.{and_left, and_right, is_true, was_false, is_in-of, in_cast, in_map, map_in, all_cons, keeps, kept, keep_append, at_most}
use Rattle.files.proofs.OneMore.{take_next}
use Rattle.tables.specs.levels.Levels.{each_once, down, downstream_of_phys, downstream}
use Rattle.tables.specs.lists.GrowingLists.{add, add_all}
use Rattle.tables.specs.lists.PreparedLists.{downstream_once, one_link, most_downstream}
use Rattle.tables.proofs.levels.EachOnce.{once_skip, once-take, in_once, once-distinct}
use Rattle.wiring.proofs.index.ExpanderNumbers.{number-most}

-- the expanders below some phys
module _ (d : Domain) where
  pub downstream-none : (φ : Phy) → down d φ ≡ false → downstream_of_phys d (φ ∷ []) ≡ []
  unfolding downstream_of_phys keep
  downstream-none φ q = rw q

  pub downstream-one : (φ : Phy) → down d φ ≡ true → downstream_of_phys d (φ ∷ []) ≡ number_of d (address_of φ) ∷ []
  unfolding downstream_of_phys keep
  downstream-one φ q = rw q

  downstream-append : (l m : List Phy) → downstream_of_phys d (l ++ m) ≡ downstream_of_phys d l ++ downstream_of_phys d m
  unfolding downstream_of_phys
  downstream-append l m = ap (map (λ φ. number_of d (address_of φ))) (keep_append (down d) l m) ∙ map-append _ (keep (down d) l) (keep (down d) m)

  -- one phy more, and all
  pub downstream-more : (φs : List Phy) (p : ℕ) → p < length φs
      → downstream_of_phys d (take (p + 1) φs) ≡ downstream_of_phys d (take p φs) ++ downstream_of_phys d (get_or φs p (Vacant 0) ∷ [])
  downstream-more φs p h = ap (downstream_of_phys d) (take_next (Vacant 0) φs p h) ∙ downstream-append (take p φs) (get_or φs p (Vacant 0) ∷ [])

  pub downstream-whole : (φs : List Phy) (p : ℕ) → length φs ≤ p → downstream_of_phys d (take p φs) ≡ downstream_of_phys d φs
  downstream-whole φs p h = ap (downstream_of_phys d) (take_all p φs h)

  -- the expander below one of them is among these
  pub downstream-among : (φs : List Phy) (φ : Phy) → In φ φs → (w : ℕ) → In w (downstream_of_phys d (φ ∷ [])) → In w (downstream_of_phys d φs)
  unfolding downstream_of_phys
  downstream-among φs φ i w h =
      let m = in_map (λ φ. number_of d (address_of φ)) (keep (down d) (φ ∷ [])) w h in
      let k = kept (down d) (φ ∷ []) m.0 m.1 in
      let e : m.0 ≡ φ = ⊎_elim (λ q. q) (λ o. absurd o) k.0 in
      in_cast (downstream_of_phys d φs) m.2 (map_in (λ φ. number_of d (address_of φ)) (keep (down d) φs) m.0 (keeps (down d) φs m.0 (in_cast φs e i) k.1))

-- level 1 has one expander at most
pub first-few : (d : Domain) (φ : Phy) → length (downstream_of_phys d (φ ∷ [])) ≤ 1
unfolding downstream_of_phys keep
first-few d φ = go (down d φ)
  where
    go : (b : Bool) → length (map (λ ψ. number_of d (address_of ψ)) (cond b (φ ∷ []) [])) ≤ 1
    go true = omega arith
    go false = omega arith

phys-under : (d : Domain) (n : ℕ) → length d < n → (φs : List Phy) → Below n (downstream_of_phys d φs)
unfolding downstream_of_phys
phys-under d n h φs w i =
    let m = in_map (λ φ. number_of d (address_of φ)) (keep (down d) φs) w i in
    let e = m.2 in
    omega (arith, number-most d (address_of m.0))

is_in_snoc : (w x : ℕ) (l : List ℕ) → is_in w (l ++ (x ∷ [])) ≡ (eqb w x || is_in w l)
unfolding is_in any
is_in_snoc w x [] = refl
is_in_snoc w x (y ∷ l) = ap (λ b. eqb w y || b) (is_in_snoc w x l) ∙ swap (eqb w y) (eqb w x) (is_in w l)
  where
    swap : (a b c : Bool) → (a || (b || c)) ≡ (b || (a || c))
    swap true true c = refl
    swap true false c = refl
    swap false b c = refl

-- l is `seen` in another order: all different, below n
record Reordered (n : ℕ) (l seen : List ℕ) : Type 0 where
  same : (w : ℕ) → is_in w l ≡ is_in w seen
  long : length l ≡ length seen
  distinct : Distinct seen
  under : Below n seen

module _ (n : ℕ) where
  kept_more : (l seen : List ℕ) (x : ℕ) → Reordered n l seen → is_in x l ≡ false → x < n → Reordered n (l ++ (x ∷ [])) (x ∷ seen)
  unfolding is_in any
  kept_more l seen x k q h = record {
    same = λ w. is_in_snoc w x l ∙ ap (λ b. eqb w x || b) (k.same w);
    long = length-append l (x ∷ []) ∙ omega (arith, k.long);
    distinct = (λ i. was_false (is_in x l) q (subst T (sym (k.same x)) (is_in-of x seen i)), k.distinct);
    under = all_cons (λ w. w < n) x seen h k.under;
  }

  -- nothing is left out for want of room
  all_added : (js l seen : List ℕ) → Reordered n l seen → Below n js → add_all n l js ≡ l ++ each_once seen js
  unfolding add_all add each_once
  all_added [] l seen k a = sym (append-nil l)
  all_added (x ∷ js) l seen k a = go (is_in x l) refl (λ m s r. all_added js m s r (λ w i. a w (inr i)))
    where
      go : (b : Bool) → is_in x l ≡ b → ((m s : List ℕ) → Reordered n m s → add_all n m js ≡ m ++ each_once s js)
          → add_all n (cond (b || leb n (length l)) l (l ++ (x ∷ []))) js ≡ l ++ each_once seen (x ∷ js)
      go true q r = r l seen k ∙ ap (λ (m : List ℕ). l ++ m) (sym (once_skip seen x js (sym (k.same x) ∙ q)))
      go false q r =
          let m = kept_more l seen x k q (a x (inl refl)) in
          let s : length l < n = omega (arith, k.long, at_most n (x ∷ seen) m.under m.distinct) in
          ap (λ (b : Bool). add_all n (cond b l (l ++ (x ∷ []))) js) (lt-leb n (length l) s)
          ∙ r (l ++ (x ∷ [])) (x ∷ seen) m
          ∙ append_assoc l (x ∷ []) (each_once (x ∷ seen) js)
          ∙ ap (λ (m : List ℕ). l ++ m) (sym (once-take seen x js (sym (k.same x) ∙ q)))

-- the expanders below, each once
module _ (d : Domain) (few : length d ≤ 64) where
  under : (i : ℕ) → Below most_downstream (downstream d i)
  unfolding downstream
  under i = phys-under d most_downstream (omega arith) (expander_at d i).phys

  pub downstream-few : (i : ℕ) → length (downstream_once d i) ≤ most_downstream
  downstream-few i = at_most most_downstream (downstream_once d i) (λ w h. under i w (in_once [] (downstream d i) w h)) (once-distinct [] (downstream d i)).0

  pub downstream-made : (i : ℕ) → add_all most_downstream [] (downstream d i) ≡ downstream_once d i
  downstream-made i =
      let k : Reordered most_downstream [] [] = record { same = λ w. refl; long = refl; distinct = tt; under = λ w i. absurd i } in
      all_added most_downstream (downstream d i) [] [] k (under i)

-- past the last expander
pub downstream-past : (d : Domain) (i : ℕ) → length d ≤ i → downstream_once d i ≡ []
unfolding downstream downstream_of_phys keep each_once
downstream-past d i h = ap (λ (e : Expander). each_once [] (downstream_of_phys d e.phys)) (get_or-eq_default d no_expander h)

-- phys of one link have the same expander below
pub linked-number : (d : Domain) (φ ψ : Phy) → T (one_link d φ ψ) → downstream_of_phys d (φ ∷ []) ≡ downstream_of_phys d (ψ ∷ [])
unfolding one_link
linked-number d φ ψ one =
    let more = and_right (down d φ) _ one in
    let same = eqb→eq (address_of φ) (address_of ψ) (and_right (down d ψ) _ more) in
    downstream-one d φ (is_true (down d φ) (and_left (down d φ) _ one)) ∙ ap (λ (s : ℕ). number_of d s ∷ []) same
    ∙ sym (downstream-one d ψ (is_true (down d ψ) (and_left (down d ψ) _ more)))
