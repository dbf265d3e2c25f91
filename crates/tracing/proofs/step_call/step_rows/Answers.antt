-- step_rows: past the causes, the reason and the step are those of the definitions.
use mathlib.Core.Path.{refl, sym, ◌∙◌, ap, ap₂}
use Rattle.frames.proofs.RefusalPassedOn.{passed-on}
use Rattle.tables.specs.WiringDefinitions.{Domain, domain_in, check_answer, Result, good}
use Rattle.tables.specs.filling.Entries.{entries}
use Rattle.tracing.specs.Trace.{request}
use Rattle.tracing.specs.Reasons.{step_answer_of}
use Rattle.tracing.specs.declared.Reason.{Reason}
use Rattle.tracing.specs.declared.Step.{Step}
use Rattle.tracing.specs.declared.Told.{Told}
use Rattle.tracing.proofs.StepRules.{asked_no, asked_yes}
use Rattle.tracing.proofs.step_call.step_rows.Goals as goal

told : Reason → Step → Result Told
told r t = good (record { reason = r; step = t })

pub returns-in_err-check_step : goal.returns-in_err-check_step
returns-in_err-check_step c =
    let a = c.args in
    let d : Domain = domain_in a.d.now.rows.now in
    passed-on c.from_residual.result _ c.from_residual.ensures
    ∙ ap step_answer_of (asked_no d (entries a.words.now a.bits.now) (request a.i.0 a.arrival.0 a.s) (ap (check_answer d) (sym c.in_err-check_step.was) ∙ c.check_step.ensures))

pub returns : goal.returns
unfolding told
returns c =
    let a = c.args in
    let d : Domain = domain_in a.d.now.rows.now in
    ap₂ told c.reason_for.ensures c.take_step.ensures
    ∙ ap step_answer_of (asked_yes d (entries a.words.now a.bits.now) (request a.i.0 a.arrival.0 a.s) (ap (check_answer d) (sym c.in_ok-check_step.was) ∙ c.check_step.ensures) refl)
