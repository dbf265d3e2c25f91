-- put_index meets its contract: words after 64 rows say nothing, and each tree is chosen for so many expanders. The measure is the number of words.
use mathlib.Core.Path.{sym}
use native.Mathlib.Omega.{arith}
use lib.Seq.{length-take-le}
use Rattle.files.proofs.PastLimits.{rows_cut}
use Rattle.files.specs.Rows.{most_row_words}
use Rattle.wiring.proofs.index.addresses.+put_index.Goals as goal

pub slice_bounds-put_index-end : goal.slice_bounds-put_index-end
slice_bounds-put_index-end t c = sym (length-take-le most_row_words c.args.rows.now (omega (arith, c.if-rows-gt-ROWS_OF_64.true)))

pub put_index-requires : goal.put_index-requires
put_index-requires t c = let h = c.if-rows-gt-ROWS_OF_64.true in (omega (arith, length-take-le most_row_words c.args.rows.now (omega arith)), rw (rows_cut c.args.rows.now h) c.requires)

pub returns-then-rows-gt-ROWS_OF_64 : goal.returns-then-rows-gt-ROWS_OF_64
returns-then-rows-gt-ROWS_OF_64 t c = rw (rows_cut c.args.rows.now c.if-rows-gt-ROWS_OF_64.true) at c.put_index.ensures
