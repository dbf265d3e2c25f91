-- check_chains meets its contract: the rounds leave a set with as many members as the definition's list.
use Prim.Native.Nat.{◌/◌}
use mathlib.Core.Path.{sym, ◌∙◌, ap}
use native.Mathlib.Omega.{arith}
use Rattle.wiring.proofs.graph.RoundSets.{all-below, left-count}
use Rattle.wiring.proofs.CheckOutcomes.{chains_few, chains_long, chains_short}
use Rattle.frames.specs.Refusals.{refused}
use Rattle.files.specs.Rows.{domain_in}
use Rattle.wiring.proofs.graph.chains.check_chains.Goals as goal

pub returns-then-n-chain : goal.returns-then-n-chain
returns-then-n-chain c =
    let a = c.args in
    let e = c.expander_count-n.ensures.0 in
    sym (chains_few a.chain (domain_in a.sets.now.rows.now) (omega arith))

pub run_rounds-left-requires : goal.run_rounds-left-requires
run_rounds-left-requires c = rw c.all_of-all.ensures (all-below _)

pub returns-then-left-chain : goal.returns-then-left-chain
returns-then-left-chain c =
    let a = c.args in
    let n = c.expander_count-n.ensures.0 in
    let l = left-count _ (a.chain / 2) _ (rw c.all_of-all.ensures at c.run_rounds-left.ensures) in
    ap refused c.refused.ensures ∙ sym (chains_long a.chain _ _ l (omega arith) c.if-left-chain.true)

pub returns : goal.returns
returns c =
    let a = c.args in
    let n = c.expander_count-n.ensures.0 in
    let l = left-count _ (a.chain / 2) _ (rw c.all_of-all.ensures at c.run_rounds-left.ensures) in
    sym (chains_short a.chain _ _ l (omega arith) c.if-left-chain.false)
