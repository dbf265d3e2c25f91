-- read_domain meets its contract: a file that passed the tests is the domain that its rows hold.
use mathlib.Core.Path.{sym, ◌∙◌, ap}
use native.Mathlib.Omega.{arith}
use Rattle.frames.specs.Refusals.{refused}
use Rattle.frames.proofs.RefusalPassedOn.{passed-on}
use Rattle.files.proofs.RowsRead.{rows-refused, rows_short, rows_full, place_for}
use Rattle.files.proofs.rows.read_domain.Goals as goal

pub returns-then-rows-count : goal.returns-then-rows-count
returns-then-rows-count c =
    let a = c.args in
    rows_short a.setting a.file.now a.rows.now _ _ (ap refused c.refused.ensures) (sym c.check_file.ensures ∙ c.in_ok-count.was) (omega arith)

pub fill_rows-requires : goal.fill_rows-requires
fill_rows-requires c =
    let a = c.args in
    (place_for a.setting a.file.now a.rows.now _ (sym c.check_file.ensures ∙ c.in_ok-count.was), omega arith)

pub returns-in_err-count : goal.returns-in_err-count
returns-in_err-count c =
    let a = c.args in
    rw (passed-on c.from_residual.result _ c.from_residual.ensures) (rows-refused a.setting a.file.now a.rows.now _ (sym c.check_file.ensures ∙ c.in_err-count.was))

pub returns : goal.returns
returns c =
    let a = c.args in
    rows_full a.setting a.file.now a.rows.now c.fill_rows.new.rows _ (λ k. (c.shared_slice_known-1.given k).fits)
    (sym c.check_file.ensures ∙ c.in_ok-count.was) (omega arith) c.fill_rows.ensures
