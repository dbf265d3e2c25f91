-- The number of the first expander with an address.
use Prim.Native.Nat.{ℕ, zero, suc, ◌≤◌, ◌<◌, ◌+◌}
use mathlib.Core.Path.{◌≡◌, refl, ◌∙◌, ap}
use mathlib.Core.Logic.{by_cases, ◌≢◌}
use mathlib.Core.List.{[], ◌∷◌}
use mathlib.Core.Bool.{cond}
use native.Mathlib.Decide.{dec_lt}
use native.Mathlib.Omega.{arith}
use lib.ListN.{length, drop, drop_of_length-le}
use lib.Dec.{eqb}
use borrow.Author.Tests.{eq-eqb, ne_eqb}
use Rattle.files.specs.Domain.{Domain, expander_at, number_of, no_expander}
use Rattle.files.proofs.ListMembers.{by-test}
use Rattle.files.proofs.Domains.{number_of-is}
use Rattle.files.proofs.OneMore.{drop-next}

-- an expander with the address has a number that is no lower
pub number_le : (d : Domain) (s t : ℕ) → t < length d → (expander_at d t).address ≡ s → number_of d s ≤ t
unfolding number_of
number_le [] s t h e = absurd (omega arith)
number_le (x ∷ d) s zero h e = rw (eq-eqb x.address s e) (omega arith)
number_le (x ∷ d) s (suc t) h e = let m = number_le d s t (omega arith) e in by-test (eqb x.address s) (λ q. rw q (omega arith)) (λ q. rw q (omega arith))

-- the number of an address is at most the count of expanders
pub number-most : (d : Domain) (s : ℕ) → number_of d s ≤ length d
unfolding number_of
number-most [] s = omega arith
number-most (x ∷ d) s = let m = number-most d s in by-test (eqb x.address s) (λ q. rw q (omega arith)) (λ q. rw q (omega arith))

-- the lowest number of an expander with the address, and none where there is no such expander
module _ (d : Domain) (s i : ℕ) (least : (x : ℕ) → x < length d → (expander_at d x).address ≡ s → i ≤ x) where
  pub number_is : i < length d → (expander_at d i).address ≡ s → i ≡ number_of d s
  number_is h e =
      let m = number_le d s i h e in
      omega (arith, least (number_of d s) (omega arith) (number_of-is d s (omega arith)))

  pub number-none : length d ≤ i → length d ≡ number_of d s
  number-none h =
      by_cases (dec_lt (number_of d s) (length d)) (λ k. absurd (omega (arith, least (number_of d s) k (number_of-is d s k)))) (λ k. omega (arith, number-most d s))

-- a search from expander i on for an address: a turn that finds it, one that goes on, and the end
module _ (d : Domain) (s i : ℕ) {v : ℕ} (inv : i + number_of (drop i d) s ≡ v) where
  number-next : i < length d → number_of (drop i d) s ≡ cond (eqb (expander_at d i).address s) 0 (suc (number_of (drop (i + 1) d) s))
  unfolding number_of
  number-next h = ap (λ (l : Domain). number_of l s) (drop-next no_expander d i h)

  pub number-stop : i < length d → (expander_at d i).address ≡ s → i ≡ v
  number-stop h q = let e : number_of (drop i d) s ≡ 0 = number-next h ∙ rw (eq-eqb (expander_at d i).address s q) refl in omega arith

  pub number-go : i < length d → (expander_at d i).address ≢ s → i + 1 + number_of (drop (i + 1) d) s ≡ v
  number-go h q = let e : number_of (drop i d) s ≡ suc (number_of (drop (i + 1) d) s) = number-next h ∙ rw (ne_eqb (expander_at d i).address s q) refl in omega arith

  pub number-end : length d ≤ i → i ≡ v
  unfolding number_of
  number-end h = let e : number_of (drop i d) s ≡ 0 = ap (λ (l : Domain). number_of l s) (drop_of_length-le d h) in omega arith
