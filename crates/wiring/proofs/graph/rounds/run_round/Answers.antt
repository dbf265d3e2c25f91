-- run_round meets its contract. The loop's invariant: `next` is the set of those among the first v expanders that belong to it.
use mathlib.Core.Path.{◌≡◌, refl, sym, ◌∙◌, ap}
use native.Mathlib.Omega.{arith}
use lib.ListN.{length}
use Rattle.wiring.proofs.graph.RoundSets.{next-test}
use Rattle.wiring.proofs.graph.NeighbourWords.{bit-go, bit_skip}
use Rattle.wiring.proofs.graph.WordSets.{set_word, word_below}
use Rattle.wiring.specs.graph.Neighbours.{neighbours}
use Rattle.wiring.specs.graph.RoundCauses.{round_cause}
use Rattle.wiring.specs.graph.Rounds.{members, round_test}
use Rattle.files.specs.Rows.{domain_in}
use Rattle.wiring.proofs.graph.rounds.run_round.Goals as goal
use Rattle.wiring.proofs.graph.rounds.run_round.Goals.{then-is_next, else-is_next}

pub loop-v-init : goal.loop-v-init
unfolding word_below
loop-v-init c = refl

pub loop-v-preserved : goal.loop-v-preserved
loop-v-preserved c =
    let d = domain_in c.args.sets.now.rows.now in
    let n = length d in
    let t = round_test (round_cause c.args.kind) n (neighbours d) (members n c.args.set) in
    let e : c.is_next.result ≡ t c.loop-v.v = c.is_next.ensures
    ∙ next-test d (round_cause c.args.kind) _ c.args.set c.loop-v.v (omega arith) c.requires (c.args.sets.now.held.word c.loop-v.v (omega arith)) in
    elim c.if-is_next.branch [
      | then-is_next k ↦ k.next-is ∙ bit-go t c.loop-v.next c.loop-v.v c.loop-v.invariant (omega arith) (sym e ∙ k.if-is_next.true)
      | else-is_next k ↦ k.next-is ∙ bit_skip t c.loop-v.next c.loop-v.v c.loop-v.invariant (sym e ∙ k.if-is_next.false)
    ]

pub returns : goal.returns
returns c =
    let d = domain_in c.args.sets.now.rows.now in
    let q : c.loop-v.v ≡ length d = omega arith in
    c.loop-v.invariant
    ∙ ap (word_below (round_test (round_cause c.args.kind) (length d) (neighbours d) (members (length d) c.args.set))) q
    ∙ sym (set_word (round_test (round_cause c.args.kind) (length d) (neighbours d) (members (length d) c.args.set)) (length d))
