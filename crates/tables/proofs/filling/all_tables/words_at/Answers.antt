-- words_at multiplies the number of tables by R; where R is 0 there are no words, whatever the number is.
use Prim.Native.Nat.{ℕ, ◌*◌}
use mathlib.Core.Path.{◌≡◌, sym, ◌∙◌, ap}
use native.Mathlib.Nat.{mul-zero}

no_words : (n : ℕ) {r : ℕ} → r ≡ 0 → 0 ≡ n * r
no_words n {r} z = sym (ap (λ (k : ℕ). n * k) z ∙ mul-zero n)
