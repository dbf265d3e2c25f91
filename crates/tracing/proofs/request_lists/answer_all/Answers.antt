-- answer_all meets its contract: the answers to the requests that are left, stored from here on, are all answers stored from the front on.
use mathlib.Core.Path.{◌∙◌}
use native.Mathlib.Omega.{arith}
use lib.ListN.{length-set}
use Rattle.tracing.proofs.RequestLists.{answers-go, answers-end}
use Rattle.tracing.proofs.request_lists.answer_all.Goals as goal

pub loop-k-preserved : goal.loop-k-preserved
loop-k-preserved c = let l = (c.loop-k) in (l.invariant.0, (simp length-set l.invariant.1.0, answers-go _ _ _ l.k l.answers _ (c.answer_one).ensures (omega arith) ∙ l.invariant.1.1))

pub returns : goal.returns
returns c =
    let at_pre = c.requires in
    let l = (c.loop-k) in answers-end _ _ _ l.k l.answers _ l.invariant.1.1 (omega arith) (at_pre).1
