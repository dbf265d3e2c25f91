-- Lists: numbers in a row, tests over a list, membership.
use Rattle.std.specs.Prelude.{ℕ, zero, suc, ◌+◌, ◌<◌, ◌≡◌, ◌⊎◌, Bool, false, cond, ◌||◌, List, [], ◌∷◌, eqb}

-- as many numbers as `count`, from i on
unfoldable pub numbers : ℕ → ℕ → List ℕ
numbers i zero = []
numbers i (suc count) = i ∷ numbers (i + 1) count

-- 0 to n - 1
abbrev pub up_to : ℕ → List ℕ
up_to n = numbers 0 n

module _ {A : Type 0} where
  -- whether the test holds of a member
  unfoldable pub any : (A → Bool) → List A → Bool
  any test [] = false
  any test (x ∷ xs) = test x || any test xs

  -- the members of which the test holds
  unfoldable pub keep : (A → Bool) → List A → List A
  keep test [] = []
  keep test (x ∷ xs) = cond (test x) (x ∷ keep test xs) (keep test xs)

  -- a is a member
  abbrev pub In : A → List A → Type 0
  In a [] = ⊥
  In a (x ∷ l) = (a ≡ x) ⊎ In a l

unfoldable pub is_in : ℕ → List ℕ → Bool
is_in x xs = any (eqb x) xs

-- all members are different
abbrev pub Distinct : List ℕ → Type 0
Distinct [] = Unit {0}
Distinct (x ∷ l) = ¬ (In x l) × Distinct l

-- all members are below n
abbrev pub Below : ℕ → List ℕ → Type 0
Below n l = (w : ℕ) → In w l → w < n

-- the last of x ∷ l
abbrev pub last : ℕ → List ℕ → ℕ
last x [] = x
last x (y ∷ l) = last y l
