-- Lists one place further: what is taken, what is left, and a place that was set.
use Prim.Native.Nat.{ℕ, ◌+◌, ◌<◌}
use mathlib.Core.Path.{◌≡◌}
use mathlib.Core.List.{List, [], ◌∷◌, ◌++◌}
use native.Mathlib.Numerals.{add-one}
use lib.ListN.{length, get_or, take, drop, set}
use lib.Seq.{take-suc, drop-cons, take-suc-set}

module _ {A : Type 0} where
  pub take_next : (e : A) (l : List A) (k : ℕ) → k < length l → take (k + 1) l ≡ take k l ++ (get_or l k e ∷ [])
  take_next e l k h = rw add-one (take-suc l k e h)

  pub drop-next : (e : A) (l : List A) (k : ℕ) → k < length l → drop k l ≡ get_or l k e ∷ drop (k + 1) l
  drop-next e l k h = rw add-one (drop-cons l k e h)

  pub set_next : (l : List A) (k : ℕ) (a : A) → k < length l → take (k + 1) (set l k a) ≡ take k l ++ (a ∷ [])
  set_next l k a h = rw add-one (take-suc-set l k a h)
