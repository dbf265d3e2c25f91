-- expander_address meets its contract: the first word of the row, where there is such a row.
use mathlib.Core.Path.{sym, ◌∙◌, ap}
use native.Mathlib.Omega.{arith}
use Rattle.files.proofs.RowsAsDomain.{no_expander_lem, address_in_lem}
use Rattle.files.specs.Domain.{Expander}
use Rattle.files.proofs.view.expander_address.Goals as goal

pub returns-then-i-expander_count : goal.returns-then-i-expander_count
returns-then-i-expander_count c =
    let a = c.args in
    c.word_at.ensures ∙ sym (address_in_lem a.rows.now a.i.0 (omega arith))

pub returns : goal.returns
returns c =
    let a = c.args in
    sym (ap (λ (e : Expander). e.address) (no_expander_lem a.rows.now a.i.0 (omega arith)))
