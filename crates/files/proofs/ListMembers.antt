-- Tests and membership: what tests of booleans say, who is in a list, numbers in a row, different members, and the pigeonhole.
use mathlib.Core.Path.{◌≡◌, refl, sym, ap, ap₂, subst, ◌∙◌}
use mathlib.Core.Logic.{◌⊎◌, inl, inr, ◌≢◌, ⊎_elim, by_cases}
use mathlib.Core.List.{List, [], ◌∷◌, ◌++◌, flat_map, map}
use mathlib.Core.Bool.{Bool, true, false, not, ◌||◌, ◌&&◌, or_assoc}
use Prim.Native.Nat.{ℕ, zero, suc, ◌+◌, ◌≤◌, ◌<◌, zero-le, suc-le-suc}
use native.Mathlib.Decide.{ℕ_discrete}
use native.Mathlib.Omega.{arith}
use lib.ListN.{length, get_or, take, replicate, length-take}
use lib.Seq.{get_or-take}
use lib.Dec.{T, eqb, eqb→eq, eqb_refl}
pub use mir.Facts.{yes_and as and_both, or_yes as or_cases}
pub use borrow.Author.Tests.{ne_eqb as neqb}
use Rattle.std.specs.List.{list_any}
use Rattle.files.specs.Lists.{numbers, any, keep, In, is_in, Distinct, Below, last}

-- tests
pub and_left : (a b : Bool) → T (a && b) → T a
and_left true b t = tt
and_left false b t = t

pub and_right : (a b : Bool) → T (a && b) → T b
and_right true b t = t
and_right false b t = absurd t

pub or_left : (a b : Bool) → T a → T (a || b)
or_left true b t = tt
or_left false b t = absurd t

pub or_right : (a b : Bool) → T b → T (a || b)
or_right true b t = tt
or_right false b t = t

-- a test, decided
pub T? : (b : Bool) → T b ⊎ ¬ (T b)
T? true = inl tt
T? false = inr (λ t. t)

-- whichever way a test ends
pub by-test : {P : Type 0} (b : Bool) → (b ≡ true → P) → (b ≡ false → P) → P
by-test true f g = f refl
by-test false f g = g refl

pub is_true : (b : Bool) → T b → b ≡ true
is_true true t = refl
is_true false t = absurd t

pub is_false : (b : Bool) → ¬ (T b) → b ≡ false
is_false true f = absurd (f tt)
is_false false f = refl

pub was_true : (b : Bool) → b ≡ true → T b
was_true true e = tt
was_true false e = let z : ◌≡◌ {A = ℕ} 0 1 = cc in absurd (omega arith)

pub was_false : (b : Bool) → b ≡ false → ¬ (T b)
was_false b e t = subst T e t

pub not_not : (b : Bool) → ¬ (T (not b)) → T b
not_not true f = tt
not_not false f = f tt

pub eq→eqb : (m n : ℕ) → m ≡ n → T (eqb m n)
eq→eqb m n e = subst (λ v. T (eqb m v)) e (eqb_refl m)

eqb_swap : (m n : ℕ) → eqb m n ≡ eqb n m
eqb_swap m n = by-test (eqb m n)
    (λ q. q ∙ sym (is_true (eqb n m) (eq→eqb n m (sym (eqb→eq m n (was_true _ q))))))
    (λ q. q ∙ sym (is_false (eqb n m) (λ t. was_false (eqb m n) q (eq→eqb m n (sym (eqb→eq n m t))))))

-- what `contains` answers
pub contained : (a : ℕ) (l : List ℕ) → list_any (λ y. eqb y a) l ≡ is_in a l
unfolding is_in any
contained a [] = refl
contained a (x ∷ l) = ap₂ ◌||◌ (eqb_swap x a) (contained a l)

-- members of a list
module _ {A : Type 0} where
  pub in_cast : (l : List A) {a b : A} → a ≡ b → In b l → In a l
  in_cast l e h = subst (λ v. In v l) (sym e) h

  pub all_cons : (P : A → Type 0) (x : A) (l : List A) → P x → ((w : A) → In w l → P w) → (w : A) → In w (x ∷ l) → P w
  all_cons P x l p a w (inl e) = subst P (sym e) p
  all_cons P x l p a w (inr h) = a w h

  pub any_of : (f : A → Bool) (l : List A) (w : A) → In w l → T (f w) → T (any f l)
  unfolding any
  any_of f [] w h t = h
  any_of f (x ∷ l) w (inl e) t = or_left (f x) (any f l) (subst (λ v. T (f v)) e t)
  any_of f (x ∷ l) w (inr h) t = or_right (f x) (any f l) (any_of f l w h t)

  pub of-any : (f : A → Bool) (l : List A) → T (any f l) → (w : A) × In w l × T (f w)
  unfolding any
  of-any f [] t = absurd t
  of-any f (x ∷ l) t = ⊎_elim (λ u. (x, inl refl, u)) (λ u. let r = of-any f l u in (r.0, inr r.1, r.2)) (or_cases (f x) (any f l) t)

  pub any_same : (f g : A → Bool) (l : List A) → ((x : A) → f x ≡ g x) → any f l ≡ any g l
  unfolding any
  any_same f g [] e = refl
  any_same f g (x ∷ l) e = ap₂ ◌||◌ (e x) (any_same f g l e)

  pub any_append : (f : A → Bool) (l m : List A) → any f (l ++ m) ≡ (any f l || any f m)
  unfolding any
  any_append f [] m = refl
  any_append f (x ∷ l) m = ap (λ b. f x || b) (any_append f l m) ∙ sym (or_assoc (f x) (any f l) (any f m))

  pub in_append : (l m : List A) (w : A) → In w (l ++ m) → In w l ⊎ In w m
  in_append [] m w h = inr h
  in_append (x ∷ l) m w (inl e) = inl (inl e)
  in_append (x ∷ l) m w (inr h) = ⊎_elim (λ k. inl (inr k)) inr (in_append l m w h)

  pub in_left : (l m : List A) (w : A) → In w l → In w (l ++ m)
  in_left [] m w h = absurd h
  in_left (x ∷ l) m w (inl e) = inl e
  in_left (x ∷ l) m w (inr h) = inr (in_left l m w h)

  pub in_right : (l m : List A) (w : A) → In w m → In w (l ++ m)
  in_right [] m w h = h
  in_right (x ∷ l) m w h = inr (in_right l m w h)

  pub in_get_d : (l : List A) (e : A) (i : ℕ) → i < length l → In (get_or l i e) l
  in_get_d [] e i h = absurd (omega arith)
  in_get_d (x ∷ l) e zero h = inl refl
  in_get_d (x ∷ l) e (suc i) h = inr (in_get_d l e i (omega arith))

  pub get_d_in : (l : List A) (e w : A) → In w l → (i : ℕ) × (i < length l) × (get_or l i e ≡ w)
  get_d_in [] e w h = absurd h
  get_d_in (x ∷ l) e w (inl q) = (0, suc-le-suc zero-le, sym q)
  get_d_in (x ∷ l) e w (inr h) = let r = get_d_in l e w h in (suc r.0, omega (arith, r.1), r.2)

  pub in_take : (l : List A) (e : A) (i n : ℕ) → i < n → i < length l → In (get_or l i e) (take n l)
  in_take l e i n h k = subst (λ v. In v (take n l)) (get_or-take n l i e h) (in_get_d (take n l) e i (omega (arith, length-take n l)))

  pub take_in : (n : ℕ) (l : List A) (e w : A) → In w (take n l) → (i : ℕ) × (i < n) × (i < length l) × (get_or l i e ≡ w)
  take_in n l e w h =
      let g = get_d_in (take n l) e w h in
      let m = length-take n l in
      let k = g.1 in
      (g.0, omega arith, omega arith, sym (get_or-take n l g.0 e (omega arith)) ∙ g.2)

  pub in_replicate : (n : ℕ) (a w : A) → In w (replicate n a) → w ≡ a
  in_replicate zero a w h = absurd h
  in_replicate (suc n) a w (inl e) = e
  in_replicate (suc n) a w (inr h) = in_replicate n a w h

  -- one turn of keep
  pub keep-more : (f : A → Bool) (x : A) (l : List A) → T (f x) → keep f (x ∷ l) ≡ x ∷ keep f l
  unfolding keep
  keep-more f x l t = rw (is_true (f x) t) refl

  pub keeps : (f : A → Bool) (l : List A) (w : A) → In w l → T (f w) → In w (keep f l)
  unfolding keep
  keeps f [] w h t = h
  keeps f (x ∷ l) w h t = by-test (f x)
      (λ e. rw e (⊎_elim inl (λ k. inr (keeps f l w k t)) h))
      (λ e. rw e (⊎_elim (λ q. absurd (was_false (f x) e (subst (λ v. T (f v)) q t))) (λ k. keeps f l w k t) h))

  pub kept : (f : A → Bool) (l : List A) (w : A) → In w (keep f l) → In w l × T (f w)
  unfolding keep
  kept f [] w h = absurd h
  kept f (x ∷ l) w h =
      let more : In w (keep f l) → In w (x ∷ l) × T (f w) = λ k. let s = kept f l w k in (inr s.0, s.1) in
      by-test (f x) (λ e. ⊎_elim (λ q. (inl q, subst (λ v. T (f v)) (sym q) (was_true (f x) e))) more (rw e at h)) (λ e. more (rw e at h))

  pub keep-shorter : (f : A → Bool) (l : List A) → length (keep f l) ≤ length l
  unfolding keep
  keep-shorter f [] = zero-le
  keep-shorter f (x ∷ l) = let r = keep-shorter f l in by-test (f x) (λ e. rw e (omega arith)) (λ e. rw e (omega arith))

  -- all pass the test, or fewer are kept
  pub all_or_fewer : (f : A → Bool) (l : List A) → ((w : A) → In w l → T (f w)) ⊎ (length (keep f l) < length l)
  unfolding keep
  all_or_fewer f [] = inl (λ w h. absurd h)
  all_or_fewer f (x ∷ l) = by-test (f x)
      (λ e. rw e (⊎_elim (λ a. inl (all_cons (λ v. T (f v)) x l (was_true (f x) e) a)) (λ a. inr (omega arith)) (all_or_fewer f l)))
      (λ e. rw e (inr (omega (arith, keep-shorter f l))))

  pub keep-keep : (p q : A → Bool) (l : List A) → keep p (keep q l) ≡ keep (λ v. q v && p v) l
  unfolding keep
  keep-keep p q [] = refl
  keep-keep p q (x ∷ l) = let r = keep-keep p q l in by-test (q x)
      (λ e. by-test (p x) (λ g. rw (e, g) (ap (λ m. x ∷ m) r)) (λ g. rw (e, g) r))
      (λ e. rw e r)

  -- tests that agree on the members keep the same
  pub keep_same : (p q : A → Bool) (l : List A) → ((w : A) → In w l → p w ≡ q w) → keep p l ≡ keep q l
  unfolding keep
  keep_same p q [] f = refl
  keep_same p q (x ∷ l) f = rw (f x (inl refl), keep_same p q l (λ w h. f w (inr h))) refl

  pub keep_append : (f : A → Bool) (l m : List A) → keep f (l ++ m) ≡ keep f l ++ keep f m
  unfolding keep
  keep_append f [] m = refl
  keep_append f (x ∷ l) m = let r = keep_append f l m in by-test (f x) (λ e. rw e (ap (λ v. x ∷ v) r)) (λ e. rw e r)

module _ {A B : Type 0} where
  pub in_map : (f : A → B) (l : List A) (w : B) → In w (map f l) → (a : A) × In a l × (w ≡ f a)
  in_map f [] w h = absurd h
  in_map f (x ∷ l) w (inl e) = (x, inl refl, e)
  in_map f (x ∷ l) w (inr h) = let r = in_map f l w h in (r.0, inr r.1, r.2)

  pub map_in : (f : A → B) (l : List A) (a : A) → In a l → In (f a) (map f l)
  map_in f [] a h = h
  map_in f (x ∷ l) a (inl e) = inl (ap f e)
  map_in f (x ∷ l) a (inr h) = inr (map_in f l a h)

  pub in_flat_map : (f : A → List B) (l : List A) (w : B) → In w (flat_map f l) → (a : A) × In a l × In w (f a)
  unfolding flat_map
  in_flat_map f [] w h = absurd h
  in_flat_map f (x ∷ l) w h =
      ⊎_elim (λ k. (x, inl refl, k)) (λ k. let r = in_flat_map f l w k in (r.0, inr r.1, r.2)) (in_append (f x) (flat_map f l) w h)

  pub flat_map_in : (f : A → List B) (l : List A) (w : B) (a : A) → In a l → In w (f a) → In w (flat_map f l)
  unfolding flat_map
  flat_map_in f [] w a h k = absurd h
  flat_map_in f (x ∷ l) w a (inl e) k = in_left (f x) (flat_map f l) w (subst (λ v. In w (f v)) e k)
  flat_map_in f (x ∷ l) w a (inr h) k = in_right (f x) (flat_map f l) w (flat_map_in f l w a h k)

-- members of a list of numbers, decided
pub is_in-of : (a : ℕ) (l : List ℕ) → In a l → T (is_in a l)
unfolding is_in
is_in-of a l h = any_of (eqb a) l a h (eqb_refl a)

pub of-is_in : (a : ℕ) (l : List ℕ) → T (is_in a l) → In a l
unfolding is_in
of-is_in a l t = let r = of-any (eqb a) l t in in_cast l (eqb→eq a r.0 r.2) r.1

pub in? : (a : ℕ) (l : List ℕ) → In a l ⊎ ¬ (In a l)
in? a l = ⊎_elim (λ t. inl (of-is_in a l t)) (λ f. inr (λ h. f (is_in-of a l h))) (T? (is_in a l))

-- what `search` needs to take tests apart and put them together
pub ruleset tests = (and_left, and_right, and_both, or_left, or_right, is_in-of, of-is_in, eqb→eq, eq→eqb, was_true)

-- equal tests, from each to the other
pub same_test : (a b : Bool) → (T a → T b) → (T b → T a) → a ≡ b
same_test true b f g = sym (is_true b (f tt))
same_test false b f g = sym (is_false b g)

pub is_in-keep : (p : ℕ → Bool) (v : ℕ) (l : List ℕ) → is_in v (keep p l) ≡ (is_in v l && p v)
is_in-keep p v l =
    same_test (is_in v (keep p l)) (is_in v l && p v)
    (λ t. let r = kept p l v (of-is_in v (keep p l) t) in and_both (is_in v l) (p v) (is_in-of v l r.0) r.1)
    (λ t. is_in-of v (keep p l) (keeps p l v (search tests) (search tests)))

-- numbers in a row
pub in_numbers : (i count w : ℕ) → i ≤ w → w < i + count → In w (numbers i count)
unfolding numbers
in_numbers i zero w h k = absurd (omega arith)
in_numbers i (suc count) w h k = by_cases (ℕ_discrete w i) inl (λ d. inr (in_numbers (i + 1) count w (omega arith) (omega arith)))

pub numbers-between : (i count w : ℕ) → In w (numbers i count) → (i ≤ w) × (w < i + count)
unfolding numbers
numbers-between i zero w h = absurd h
numbers-between i (suc count) w (inl e) = (omega arith, omega arith)
numbers-between i (suc count) w (inr h) = let r = numbers-between (i + 1) count w h in (omega (arith, r.0), omega (arith, r.1))

pub in_up_to : (n w : ℕ) → w < n → In w (numbers 0 n)
in_up_to n w h = in_numbers 0 n w zero-le (omega arith)

pub numbers-below : (n : ℕ) → Below n (numbers 0 n)
numbers-below n w h = omega (arith, (numbers-between 0 n w h).1)

pub numbers-distinct : (i count : ℕ) → Distinct (numbers i count)
unfolding numbers
numbers-distinct i zero = tt
numbers-distinct i (suc count) = (λ h. omega (arith, (numbers-between (i + 1) count i h).0), numbers-distinct (i + 1) count)

pub length-numbers : (i count : ℕ) → length (numbers i count) ≡ count
unfolding numbers
length-numbers i zero = refl
length-numbers i (suc count) = ap suc (length-numbers (i + 1) count)

pub numbers-last : (i count : ℕ) → numbers i (suc count) ≡ numbers i count ++ ((i + count) ∷ [])
unfolding numbers
numbers-last i zero = let e : i ≡ i + 0 = omega arith in ap (λ v. v ∷ []) e
numbers-last i (suc count) =
    let e : i + 1 + count ≡ i + suc count = omega arith in
    ap (λ l. i ∷ l) (numbers-last (i + 1) count ∙ ap (λ v. numbers (i + 1) count ++ (v ∷ [])) e)

pub up_to-last : (n : ℕ) → numbers 0 (suc n) ≡ numbers 0 n ++ (n ∷ [])
up_to-last n = let e : 0 + n ≡ n = omega arith in numbers-last 0 n ∙ ap (λ v. numbers 0 n ++ (v ∷ [])) e

-- different members
pub last_in : (x : ℕ) (l : List ℕ) → In (last x l) (x ∷ l)
last_in x [] = inl refl
last_in x (y ∷ l) = inr (last_in y l)

pub keep-distinct : (p : ℕ → Bool) (l : List ℕ) → Distinct l → Distinct (keep p l)
unfolding keep
keep-distinct p [] d = tt
keep-distinct p (x ∷ l) d = let r = keep-distinct p l d.1 in by-test (p x) (λ e. rw e (λ h. d.0 (kept p l x h).0, r)) (λ e. rw e r)

pub distinct_append : (l m : List ℕ) → Distinct l → Distinct m → ((w : ℕ) → In w l → In w m → ⊥) → Distinct (l ++ m)
distinct_append [] m a b f = b
distinct_append (x ∷ l) m a b f = (λ h. ⊎_elim a.0 (f x (inl refl)) (in_append l m x h), distinct_append l m a.1 b (λ w h. f w (inr h)))

-- the pigeonhole: different members of m are at most as many as m has
record Less (x : ℕ) (m : List ℕ) : Type 0 where
  rest : List ℕ
  size : length m ≡ suc (length rest)
  keeps : (w : ℕ) → In w m → w ≢ x → In w rest

less : (x : ℕ) (m : List ℕ) → In x m → Less x m
less x [] h = absurd h
less x (y ∷ m) (inl e) = record { rest = m; size = refl; keeps = λ w. ⊎_elim (λ p d. absurd (d (p ∙ sym e))) (λ h d. h) }
less x (y ∷ m) (inr h) =
    let r = less x m h in
    record { rest = y ∷ r.rest; size = ap suc r.size; keeps = λ w. ⊎_elim (λ p d. inl p) (λ k d. inr (r.keeps w k d)) }

pub fits : (l m : List ℕ) → Distinct l → ((w : ℕ) → In w l → In w m) → length l ≤ length m
fits [] m d s = zero-le
fits (x ∷ l) m d s =
    let r = less x m (s x (inl refl)) in
    let i = fits l r.rest d.1 (λ w h. r.keeps w (s w (inr h)) (λ e. d.0 (in_cast l (sym e) h))) in
    omega (arith, r.size, i)

pub at_most : (n : ℕ) (l : List ℕ) → Below n l → Distinct l → length l ≤ n
at_most n l b d = omega (arith, fits l (numbers 0 n) d (λ w k. in_up_to n w (b w k)), length-numbers 0 n)

pub pigeonhole : (n : ℕ) (l : List ℕ) → Below n l → n < length l → Distinct l → ⊥
pigeonhole n l b h d = omega (arith, at_most n l b d)
