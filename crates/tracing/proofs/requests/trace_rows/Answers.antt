-- trace_rows meets its contract: past causes 15 to 18 there is a byte for each expander, as walk wants.
use mathlib.Core.Path.{sym, ◌∙◌, ap}
use lib.ListN.{length}
use Rattle.frames.proofs.RefusalPassedOn.{passed-on}
use Rattle.tables.specs.WiringDefinitions.{Domain}
use Rattle.tables.specs.WiringDefinitions.{domain_in}
use Rattle.tables.specs.WiringDefinitions.{check_answer}
use Rattle.tables.specs.filling.Entries.{entries, room_of}
use Rattle.tracing.specs.Trace.{request}
use Rattle.tracing.proofs.RequestCauses.{room, answer_no, answer_yes}
use Rattle.tracing.proofs.requests.trace_rows.Goals as goal

pub walk-requires : goal.walk-requires
walk-requires c =
    let a = c.args in
    let d : Domain = domain_in a.d.now.rows.now in
    let e = ap (check_answer d) (sym c.in_ok-check_request.was) ∙ c.check_request.ensures in
    room (room_of (entries a.words.now a.bits.now)) (length a.passed.now) (request a.start.0 a.arrival.0 a.s) d e

pub returns-in_err-check_request : goal.returns-in_err-check_request
returns-in_err-check_request c =
    let a = c.args in
    let d : Domain = domain_in a.d.now.rows.now in
    rw (passed-on c.from_residual.result _ c.from_residual.ensures)
    (answer_no d (entries a.words.now a.bits.now) (request a.start.0 a.arrival.0 a.s) a.passed.now
    (ap (check_answer d) (sym c.in_err-check_request.was) ∙ c.check_request.ensures))

pub returns : goal.returns
returns c =
    let a = c.args in
    let d : Domain = domain_in a.d.now.rows.now in
    let e = c.check_request.ensures in
    answer_yes d (entries a.words.now a.bits.now) (request a.start.0 a.arrival.0 a.s) a.passed.now
    (ap (check_answer d) (sym c.in_ok-check_request.was) ∙ e) c.walk.ensures
