-- fill_rows meets its contract. The loop's invariant: the words with the rows of the expanders from i on put there are those with all rows put.
use Prim.Native.Nat.{◌+◌, ◌-◌, ◌*◌}
use mathlib.Core.Path.{◌≡◌, refl, sym, ◌∙◌}
use native.Mathlib.Nat.{sub-zero}
use native.Mathlib.Omega.{arith}
use lib.ListN.{length, length-take, length-drop}
use borrow.Rule.Slice.PartMut.{same_len_mid}
use Rattle.files.proofs.RowFilling.{rows-stop, rows_end, rows-go}
use Rattle.files.proofs.ReadDomain.{few-phys}
use Rattle.files.specs.Rows.{row_words}
use Rattle.files.proofs.rows.fill_rows.Goals as goal

pub loop-i-init : goal.loop-i-init
loop-i-init c = (refl, simp sub-zero)

pub returns-in_default : goal.returns-in_default
returns-in_default c =
    rows-stop _ _ _ _ _ c.loop-i.rows c.loop-i.invariant.1 (sym c.expander_unit-unit.ensures ∙ c.in_default.is) (omega arith)

pub put_row-at-requires : goal.put_row-at-requires
put_row-at-requires c =
    let h = few-phys _ _ _ _ _ _ (sym c.expander_unit-unit.ensures ∙ c.in-Ok.is) in
    (omega arith, simp (length-take, length-drop) (omega arith))

pub loop-i-preserved : goal.loop-i-preserved
loop-i-preserved c =
    let a = c.args in
    let s : length c.put_row-at.new.row ≡ row_words = c.put_row-at.auto.row ∙ simp (length-take, length-drop) (omega arith) in
    let e = sym c.expander_unit-unit.ensures ∙ c.in-Ok.is in (
      same_len_mid (row_words * c.loop-i.i) (row_words * c.loop-i.i + row_words - row_words * c.loop-i.i) c.loop-i.rows c.put_row-at.new.row c.put_row-at.auto.row ∙ c.loop-i.invariant.0,
      rows-go a.most a.file.now a.n c.loop-i.i c.loop-i.at c.loop-i.rows c.loop-i.invariant.1 _ (row_words * c.loop-i.i) (row_words * c.loop-i.i + row_words - row_words * c.loop-i.i) _ c.put_row-at.new.row
          e c.put_row-at.ensures.words c.put_row-at.ensures.place refl (omega arith) s (omega arith) (omega arith),
    )

pub returns : goal.returns
returns c = rows_end _ _ _ _ _ c.loop-i.rows c.loop-i.invariant.1 (omega arith)
