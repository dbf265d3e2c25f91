-- put_rig lends each expander's row its part of the rows.
use mathlib.Core.Path.{refl, sym}
use native.Mathlib.Omega.{arith}
use lib.Seq.{length-take-le}
use Rattle.files.specs.Rows.{row_words}
use Rattle.exercises.proofs.RowPuts.{rig-put}
use Rattle.exercises.proofs.rows.put_rig.Goals as goal

pub slice_bounds-put_row-end-2 : goal.slice_bounds-put_row-end-2
slice_bounds-put_row-end-2 c = sym (length-take-le row_words c.args.rows.now (omega (arith, c.requires.0)))

pub put_row-requires : goal.put_row-requires
put_row-requires c = ((length-take-le row_words c.args.rows.now (omega (arith, c.requires.0)), omega arith), refl)

pub returns : goal.returns
returns c =
    let at-args = c.args in
    let at_pre = c.requires in
    rig-put at-args.a at-args.b at-args.route_indexes at-args.words.now at-args.rows.now _ _ _ _ _ _ _ at_pre.0 at_pre.1 c.toward.ensures c.toward-2.ensures c.put_row.ensures c.put_row-2.ensures refl refl refl
