-- check_links meets its contract: the answers for the causes in order.
use mathlib.Core.Path.{sym, ◌∙◌, ap}
use borrow.Author.Tests.{not-true, not-false}
use Rattle.frames.specs.Refusals.{refused}
use Rattle.frames.proofs.RefusalPassedOn.{passed-on}
use Rattle.wiring.specs.phys.Checks.{check_answer}
use Rattle.wiring.proofs.CheckOutcomes.{words-held, links_loop, links-joined}
use Rattle.files.proofs.RowsAsDomain.{domain-few}
use Rattle.wiring.proofs.graph.domain_checks.check_links.Goals as goal

pub put_neighbours-requires : goal.put_neighbours-requires
put_neighbours-requires c = domain-few c.args.d.now.rows.now

pub invariant_of-sets : goal.invariant_of-sets
invariant_of-sets c = record { held = words-held _ _ _ c.put_neighbours.ensures.words_after }

pub returns-then-not-is_loopfree : goal.returns-then-not-is_loopfree
returns-then-not-is_loopfree c = ap refused c.refused.ensures ∙ sym (links_loop _ _ (sym c.is_loopfree.ensures ∙ not-true _ c.if-not-is_loopfree.true-raw))

pub returns-in_err-check_joined : goal.returns-in_err-check_joined
returns-in_err-check_joined c =
    rw (passed-on c.from_residual.result _ c.from_residual.ensures)
    (sym (links-joined _ _ _ (sym c.is_loopfree.ensures ∙ not-false _ c.if-not-is_loopfree.false-raw) (sym c.check_joined.ensures ∙ ap (check_answer _) c.in_err-check_joined.was)))

pub returns : goal.returns
returns c =
    c.check_chains.ensures
    ∙ sym (links-joined _ _ _ (sym c.is_loopfree.ensures ∙ not-false _ c.if-not-is_loopfree.false-raw) (sym c.check_joined.ensures ∙ ap (check_answer _) c.in_ok-check_joined.was))
