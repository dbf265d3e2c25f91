-- check_joined meets its contract. The loop's invariant: the first i expanders are in the set that the rounds from expander 0 reach.
use mathlib.Core.Path.{sym, ◌∙◌, ap}
use native.Mathlib.Nat.{sub-zero}
use native.Mathlib.Omega.{arith}
use lib.ListN.{length}
use borrow.Author.Tests.{not-true, not-false}
use Rattle.wiring.proofs.graph.RoundSets.{first_below, joined-bit, joined-stop, joined-go, joined_end}
use Rattle.frames.specs.Refusals.{refused}
use Rattle.files.specs.Rows.{domain_in}
use Rattle.wiring.proofs.graph.domain_checks.check_joined.Goals as goal

pub returns-then-n-eq0 : goal.returns-then-n-eq0
returns-then-n-eq0 c =
    let d = domain_in c.args.sets.now.rows.now in
    joined_end d (length d) 0 (simp sub-zero) (omega arith)

pub run_rounds-met-requires : goal.run_rounds-met-requires
run_rounds-met-requires c = first_below _ (omega arith)

pub returns-then-not-has : goal.returns-then-not-has
returns-then-not-has c =
    let at-args = c.args in
    let d = domain_in at-args.sets.now.rows.now in
    let e = c.expander_count-n.ensures.0 in
    ap refused c.refusal_at.ensures
    ∙ joined-stop d _ c.loop-i.i c.loop-i.invariant
    (sym (joined-bit d _ c.loop-i.i (rw e at c.run_rounds-met.ensures) (omega arith)) ∙ sym c.has.ensures ∙ not-true _ c.if-not-has.true-raw) (omega arith)

pub loop-i-preserved : goal.loop-i-preserved
loop-i-preserved c =
    let at-args = c.args in
    let d = domain_in at-args.sets.now.rows.now in
    let e = c.expander_count-n.ensures.0 in
    joined-go d _ c.loop-i.i c.loop-i.invariant
    (sym (joined-bit d _ c.loop-i.i (rw e at c.run_rounds-met.ensures) (omega arith)) ∙ sym c.has.ensures ∙ not-false _ c.if-not-has.false-raw) (omega arith)

pub returns : goal.returns
returns c =
    joined_end _ _ c.loop-i.i c.loop-i.invariant (omega arith)
