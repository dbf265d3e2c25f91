-- route_refusal is the definition's chain of tests in its order: REQUEST LENGTH, phy, room.
use mathlib.Core.Path.{sym, ◌∙◌}
use native.Mathlib.Omega.{arith}
use lib.ListN.{length}
use borrow.Author.Tests.{le-leb, lt-leb, not-true, not-false}
use Rattle.frames.specs.ConfigureRoute.{route_written}
use Rattle.frames.proofs.configure_route.route_refusal.Goals as goal

pub returns-then-not-stated : goal.returns-then-not-stated
unfolding route_written
returns-then-not-stated c = simp (sym c.is_length-stated.ensures ∙ not-true _ c.if-not-stated.true-raw, c.refused.ensures)

pub returns-then-identifier-gt127 : goal.returns-then-identifier-gt127
unfolding route_written
returns-then-identifier-gt127 c =
    let a = c.args in
    simp (sym c.is_length-stated.ensures ∙ not-false _ c.if-not-stated.false-raw, lt-leb a.request.phy.0 127 (omega arith), c.refused-then-identifier-gt127.ensures)

pub returns-then-buf-lt-ROUTE_BYTES : goal.returns-then-buf-lt-ROUTE_BYTES
unfolding route_written
returns-then-buf-lt-ROUTE_BYTES c =
    let a = c.args in
    simp (sym c.is_length-stated.ensures ∙ not-false _ c.if-not-stated.false-raw, le-leb a.request.phy.0 127 (omega arith), lt-leb 40 (length a.buf.now) (omega arith), c.refused-then-buf-lt-ROUTE_BYTES.ensures)

pub returns : goal.returns
unfolding route_written
returns c =
    let a = c.args in
    simp (sym c.is_length-stated.ensures ∙ not-false _ c.if-not-stated.false-raw, le-leb a.request.phy.0 127 (omega arith), le-leb 40 (length a.buf.now) (omega arith))
