-- read_route is the definition's chain of tests in its order: length, bytes 0, 1 and 3, phy; then the fields.
use Prim.Native.Nat.{ℕ}
use mathlib.Core.Path.{sym, ◌∙◌}
use mathlib.Core.List.{List}
use native.Mathlib.Omega.{arith}
use borrow.Author.Tests.{eq-eqb, ne_eqb, le-leb, lt-leb, not-true, not-false}
use Rattle.frames.specs.Bytes.{byte}
use Rattle.frames.specs.ConfigureRoute.{route_read}
use Rattle.frames.proofs.configure_route.read_route.Goals as goal

pub returns-then-frame-ne-ROUTE_BYTES : goal.returns-then-frame-ne-ROUTE_BYTES
unfolding route_read
returns-then-frame-ne-ROUTE_BYTES c = simp (ne_eqb _ _ c.if-frame-ne-ROUTE_BYTES.true, c.refused.ensures)

pub returns-then-not-is_fixed : goal.returns-then-not-is_fixed
unfolding route_read
returns-then-not-is_fixed c =
    simp (eq-eqb _ _ c.if-frame-ne-ROUTE_BYTES.false, sym c.is_fixed.ensures ∙ not-true _ c.if-not-is_fixed.true-raw, c.refused-then-not-is_fixed.ensures)

pub returns-then-phy-gt127 : goal.returns-then-phy-gt127
unfolding route_read
returns-then-phy-gt127 c =
    let s : List ℕ = c.args.frame.now in
    simp (eq-eqb _ _ c.if-frame-ne-ROUTE_BYTES.false, sym c.is_fixed.ensures ∙ not-false _ c.if-not-is_fixed.false-raw, lt-leb (byte s 9) 127 (omega arith), c.refused-then-phy-gt127.ensures)

pub returns : goal.returns
unfolding route_read
returns c =
    simp (eq-eqb _ _ c.if-frame-ne-ROUTE_BYTES.false, sym c.is_fixed.ensures ∙ not-false _ c.if-not-is_fixed.false-raw, le-leb _ _ c.if-phy-gt127.false, c.number_at.ensures.0, c.address_at.ensures, c.is_disabled.ensures)
