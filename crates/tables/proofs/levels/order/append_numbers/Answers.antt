-- append_numbers meets its contract. The loop's invariant: the first k numbers stand behind the first m of `order`.
use mathlib.Core.Path.{refl, ◌∙◌}
use native.Mathlib.Omega.{arith}
use lib.ListN.{length-set}
use Rattle.tables.proofs.lists.GrowingLists.{copy-go, copy-end}
use Rattle.tables.proofs.levels.order.append_numbers.Goals as goal

pub loop-k-init : goal.loop-k-init
loop-k-init c = (omega arith, (refl, refl))

pub loop-k-preserved : goal.loop-k-preserved
loop-k-preserved c =
    let more = c.args.more.now in
    (omega arith, (length-set c.loop-k.order c.loop-k.to _ ∙ c.loop-k.invariant.1.0, copy-go c.loop-k.to c.loop-k.k c.loop-k.order more c.loop-k.invariant.1.1 (omega arith) (omega arith)))

pub returns : goal.returns
returns c =
    record {
      same = c.loop-k.invariant.1.0;
      fits = omega arith;
      whole = copy-end c.loop-k.to c.loop-k.k c.loop-k.order c.args.more.now c.loop-k.invariant.1.1 (omega arith);
    }
