-- Searches, turn by turn: a test over a list, and the first place at which a test holds. `inv` is the loop's invariant.
use Prim.Native.Nat.{ℕ, zero, suc, ◌+◌, ◌-◌, ◌≤◌, ◌<◌}
use mathlib.Core.Path.{◌≡◌, refl, sym, ◌∙◌, ap}
use mathlib.Core.Bool.{Bool, true, false, cond}
use mathlib.Core.List.{List, [], ◌∷◌, ◌++◌}
use native.Mathlib.Omega.{arith}
use native.Mathlib.Nat.{sub-zero}
use native.Mathlib.Numerals.{add-one}
use lib.ListN.{length, get_or, drop, drop_of_length-le}
use Rattle.frames.specs.Refusals.{Result, refused, good, then, refusal}
use Rattle.files.specs.Lists.{any}
use Rattle.files.specs.Domain.{Domain, no_expander, expander_at}
use Rattle.wiring.specs.phys.PhyCauses.{Place, phy_places, places_from, first_in, first_of, wired_domain}
use Rattle.wiring.specs.phys.Checks.{check_answer, cause_of}
use Rattle.files.proofs.ListMembers.{by-test}
use Rattle.files.proofs.OneMore.{drop-next}

-- one turn of `any`, also past the end
module _ {A : Type 0} (f : A → Bool) (e : A) where
  any_skip : (xs : List A) (p : ℕ) → f (get_or xs p e) ≡ false → any f (drop p xs) ≡ any f (drop (suc p) xs)
  unfolding any
  any_skip [] zero q = refl
  any_skip [] (suc p) q = refl
  any_skip (x ∷ xs) zero q = rw q
  any_skip (x ∷ xs) (suc p) q = any_skip xs p q

module _ {A : Type 0} (f : A → Bool) (e : A) (xs : List A) (p : ℕ) {v : Bool} (inv : any f (drop p xs) ≡ v) where
  pub any-stop : p < length xs → f (get_or xs p e) ≡ true → true ≡ v
  unfolding any
  any-stop h q = sym (ap (any f) (drop-next e xs p h) ∙ rw q) ∙ inv

  pub any-go : f (get_or xs p e) ≡ false → any f (drop (p + 1) xs) ≡ v
  any-go q = rw add-one (sym (any_skip f e xs p q) ∙ inv)

  pub any-end : length xs ≤ p → false ≡ v
  unfolding any
  any-end h = sym (ap (any f) (drop_of_length-le xs h)) ∙ inv

-- what a search answered, once its answer is known
pub told : (d : Domain) {r a : Result Unit} {v : Result Domain} → check_answer d r ≡ v → r ≡ a → v ≡ check_answer d a
told d e q = sym e ∙ ap (check_answer d) q

module _ (k : ℕ) (test : ℕ → ℕ → Bool) (d : Domain) where
  first-append : (xs ys : List Place) → first_in k test (xs ++ ys) d ≡ then (first_in k test xs d) (λ _. first_in k test ys d)
  unfolding first_in
  first-append [] ys = refl
  first-append (q ∷ xs) ys = by-test (test q.expander q.phy) (λ e. rw e refl) (λ e. rw e (first-append xs ys))

  -- the phys of expander i from p on
  module _ (i n p : ℕ) {v : Result Domain} (inv : first_in k test (phy_places i p (n - p)) d ≡ v) where
    phy-next : p < n → first_in k test (phy_places i p (n - p)) d
        ≡ cond (test i p) (refused (refusal k i p)) (first_in k test (phy_places i (p + 1) (n - (p + 1))) d)
    unfolding first_in phy_places
    phy-next h = let e : n - p ≡ suc (n - (p + 1)) = omega arith in rw e

    pub phy-stop : test i p ≡ true → p < n → refused (refusal k i p) ≡ v
    phy-stop q h = sym (phy-next h ∙ rw q) ∙ inv

    pub phy-go : test i p ≡ false → p < n → first_in k test (phy_places i (p + 1) (n - (p + 1))) d ≡ v
    phy-go q h = sym (phy-next h ∙ rw q) ∙ inv

    pub phy-end : n ≤ p → good d ≡ v
    unfolding first_in phy_places
    phy-end h = let e : n - p ≡ 0 = omega arith in sym (rw e) ∙ inv

  -- the test holds at no phy below p
  pub phy_skip : (i n p : ℕ) → ((q : ℕ) → q < p → test i q ≡ false) → p ≤ n → first_in k test (phy_places i p (n - p)) d ≡ first_in k test (phy_places i 0 n) d
  phy_skip i n zero none h = simp sub-zero
  phy_skip i n (suc p) none h = rw add-one at (phy-go i n p (phy_skip i n p (λ q l. none q (omega arith)) (omega arith)) (none p (omega arith)) (omega arith))

  -- the phys of the expanders from i on
  module _ (i : ℕ) {v : Result Domain} (inv : first_in k test (places_from i (drop i d)) d ≡ v) where
    pub from_next : {r a : Result Unit} → check_answer d r ≡ first_in k test (phy_places i 0 (length (expander_at d i).phys)) d → r ≡ a → i < length d
        → then (check_answer d a) (λ _. first_in k test (places_from (i + 1) (drop (i + 1) d)) d) ≡ v
    unfolding places_from
    from_next h q l =
        let e : drop i d ≡ expander_at d i ∷ drop (i + 1) d = drop-next no_expander d i l in
        let n = first-append (phy_places i 0 (length (expander_at d i).phys)) (places_from (i + 1) (drop (i + 1) d)) in
        rw (told d h q) at (sym n ∙ (rw e at inv))

    pub from_end : length d ≤ i → good d ≡ v
    unfolding first_in places_from
    from_end h = sym (ap (λ (x : Domain). first_in k test (places_from i x) d) (drop_of_length-le d h)) ∙ inv

-- causes 7 to 10 in order, by what each search answers
in_order : {w x y z a b c e : Result Domain} → w ≡ a → x ≡ b → y ≡ c → z ≡ e
    → then w (λ _. then x (λ _. then y (λ _. z))) ≡ then a (λ _. then b (λ _. then c (λ _. e)))
in_order p q r s = simp (p, q, r, s)

pub wired-by : (d : Domain) {a b c e : Result Domain} → first_of 7 (cause_of 7 d) d ≡ a → first_of 8 (cause_of 8 d) d ≡ b → first_of 9 (cause_of 9 d) d ≡ c
    → first_of 10 (cause_of 10 d) d ≡ e → then a (λ _. then b (λ _. then c (λ _. e))) ≡ wired_domain d
unfolding wired_domain cause_of
wired-by d p q r s = sym (in_order p q r s)
