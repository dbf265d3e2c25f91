-- run_rounds meets its contract. The loop's invariant: the rounds that are left, from `next`, end where all rounds end.
use mathlib.Core.Path.{◌≡◌, ◌∙◌, ap}
use native.Mathlib.Omega.{arith}
use lib.ListN.{length}
use Rattle.wiring.proofs.graph.RoundSets.{set_below, members-set, rounds-next, rounds-end}
use Rattle.wiring.specs.graph.Neighbours.{neighbours}
use Rattle.wiring.specs.graph.RoundCauses.{round_cause}
use Rattle.wiring.specs.graph.Rounds.{next_set, SetBelow, members, round_test, rounds}
use Rattle.files.specs.Rows.{domain_in}
use Rattle.wiring.proofs.graph.rounds.run_rounds.Goals as goal

pub loop-i-preserved : goal.loop-i-preserved
loop-i-preserved c =
    let d = domain_in c.args.sets.now.rows.now in
    let n = length d in
    let t = round_test (round_cause c.args.kind) n (neighbours d) (members n c.loop-i.next) in
    let e : SetBelow n c.run_round-next.result = rw c.run_round-next.ensures (set_below t n) in
    let m : members n c.run_round-next.result ≡ next_set (round_cause c.args.kind) n (neighbours d) (members n c.loop-i.next) = ap (members n) c.run_round-next.ensures ∙ members-set t n in
    (e, ap (rounds _ _ _ _) m ∙ rounds-next (round_cause c.args.kind) n c.args.count c.loop-i.i (neighbours d) _ _ c.loop-i.invariant.1 (omega arith))

pub returns : goal.returns
returns c =
    record { below = c.loop-i.invariant.0; run = rounds-end _ _ _ c.loop-i.i _ _ _ c.loop-i.invariant.1 (omega arith) }
