-- Packed settings: three bytes are told apart again, and a number with a bit above them is no setting in range.
use Prim.Native.Nat.{ℕ, ◌+◌, ◌*◌, ◌/◌, ◌%◌, ◌^◌, ◌≤◌}
use mathlib.Core.Path.{◌≡◌, refl, ◌∙◌}
use mathlib.Core.Bool.{Bool, false, cond}
use native.Mathlib.Omega.{arith}
use lib.Dec.{leb}
use borrow.Author.Tests.{le-leb, lt-leb}
use Rattle.tracing.specs.TableDefinitions.{in_range}
use Rattle.exports.specs.Packing.{setting_of}

-- by whether there is a bit above the 24
pub setting-by : (n : ℕ) {b : Bool} → leb (2 ^ 24) n ≡ b
    → setting_of n ≡ cond b (record { expanders = 0; phys = 0; chain = 0 }) (record { expanders = n / 2 ^ 16; phys = n / 2 ^ 8 % 2 ^ 8; chain = n % 2 ^ 8 })
setting-by n q = rw q

-- such a number is cause 22
pub above-range : (n : ℕ) → 2 ^ 24 ≤ n → in_range (setting_of n) ≡ false
unfolding in_range
above-range n h = rw (setting-by n (le-leb (2 ^ 24) n h)) refl

-- and three bytes are the setting that they say
pub setting-back : (e p c : ℕ) → e ≤ 255 → p ≤ 255 → c ≤ 255 → setting_of (e * 2 ^ 16 + p * 2 ^ 8 + c) ≡ record { expanders = e; phys = p; chain = c }
setting-back e p c h k l =
    let n : ℕ = e * 65536 + p * 256 + c in
    let a : n / 65536 ≡ e = omega arith in
    let b : n / 256 % 256 ≡ p = omega arith in
    let d : n % 256 ≡ c = omega arith in
    setting-by n (lt-leb (2 ^ 24) n (omega arith)) ∙ rw (a, b, d) refl
