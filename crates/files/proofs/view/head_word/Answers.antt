-- head_word meets its contract: the second word of the row, where there is such a row.
use native.Mathlib.Omega.{arith}
use Rattle.files.proofs.RowsAsDomain.{head_in, no_head}
use Rattle.files.proofs.view.head_word.Goals as goal

pub returns-then-i-expander_count : goal.returns-then-i-expander_count
returns-then-i-expander_count c =
    let a = c.args in
    rw c.word_at.ensures (head_in a.rows.now a.i.0 (omega arith))

pub returns : goal.returns
returns c = let a = c.args in no_head a.rows.now a.i.0 (omega arith)
