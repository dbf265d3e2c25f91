-- count_expanders meets its contract: as many as were counted, and those that are left.
use Prim.Native.Nat.{ℕ, ◌+◌, ◌*◌}
use mathlib.Core.Path.{ap}
use Rattle.forms.proofs.FormRows.{count-start, count-go, count_none, count_full}
use native.Mathlib.Omega.{arith}
use Rattle.forms.proofs.reading.count_expanders.Goals as goal

pub loop-i-init : goal.loop-i-init
loop-i-init c = (omega arith, count-start c.args.ws.now)

pub returns-then-ws-at : goal.returns-then-ws-at
returns-then-ws-at c = (count_none c.args.ws.now c.loop-i.i c.loop-i.at _ c.loop-i.invariant.1 (omega arith), omega arith)

pub loop-i-preserved : goal.loop-i-preserved
loop-i-preserved c = (omega (arith, c.count_in.ensures.1), count-go c.args.ws.now c.loop-i.i c.loop-i.at _ _ c.loop-i.invariant.1 (omega arith) (omega arith) (ap (λ (n : ℕ). c.loop-i.at + (2 + 2 * n)) c.count_in.ensures.0))

pub returns : goal.returns
returns c = (omega (arith, count_full c.args.ws.now c.loop-i.i c.loop-i.at _ c.loop-i.invariant.1 (omega arith)), omega arith)
