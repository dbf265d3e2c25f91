-- set_bit writes byte j with the bit in it; past the end there is no byte, and no bit.
use Prim.Native.Nat.{ℕ, ◌-◌, ◌%◌}
use mathlib.Core.Path.{◌≡◌, ap, ap₂, ◌∙◌}
use native.Mathlib.Omega.{arith}
use lib.ListN.{get_or, set}
use Rattle.frames.specs.Bits.{bits_of, with_bit}
use Rattle.frames.proofs.SetBits.{bits-set}
use Rattle.cards.proofs.BitPlaces.{bit_past}
use Rattle.cards.proofs.bits.set_bit.Goals as goal

pub returns-then-j-s : goal.returns-then-j-s
returns-then-j-s c =
    let a = c.args in
    let p = c.requires in
    let n : a.r % 8 ≡ a.r = omega (arith, p.0) in
    let x : a.b % 2 ≡ a.b = omega (arith, p.1) in
    ap (λ (v : ℕ). bits_of (set a.s.now a.j v)) (c.with_bit.ensures ∙ ap₂ (λ (k y : ℕ). with_bit (get_or a.s.now a.j 0) (7 - k) y) n x) ∙ bits-set a.s.now a.j a.r a.b c.if-j-s.true p.0 p.1

pub returns-else-j-s : goal.returns-else-j-s
returns-else-j-s c = bit_past _ _ _ _ c.if-j-s.false
