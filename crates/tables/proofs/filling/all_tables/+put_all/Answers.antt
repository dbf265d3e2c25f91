-- put_all meets its contract: words after 64 rows say nothing, and each room is chosen for so many expanders. The measure is the number of words.
use Rattle.files.specs.Rows.{most_row_words}
use mathlib.Core.Path.{sym}
use native.Mathlib.Omega.{arith}
use lib.Seq.{length-take-le}
use Rattle.files.proofs.PastLimits.{rows_cut}
use Rattle.tables.proofs.filling.all_tables.+put_all.Goals as goal

pub slice_bounds-cut-end : goal.slice_bounds-cut-end
slice_bounds-cut-end t c = sym (length-take-le most_row_words c.args.d.now.rows.now (omega (arith, c.if-d-gt-ROWS_OF_64.true)))

pub invariant_of-cut : goal.invariant_of-cut
invariant_of-cut t c = let ws = c.args.d.now.rows.now in record { indexed = rw (rows_cut ws c.if-d-gt-ROWS_OF_64.true) c.args.d.now.indexed }

pub put_all-requires : goal.put_all-requires
put_all-requires t c =
    let ws = c.args.d.now.rows.now in
    (omega (arith, length-take-le most_row_words ws (omega (arith, c.if-d-gt-ROWS_OF_64.true))), rw (rows_cut ws c.if-d-gt-ROWS_OF_64.true) c.requires)

pub returns-then-d-gt-ROWS_OF_64 : goal.returns-then-d-gt-ROWS_OF_64
returns-then-d-gt-ROWS_OF_64 t c = rw (rows_cut c.args.d.now.rows.now c.if-d-gt-ROWS_OF_64.true) at c.put_all.ensures
