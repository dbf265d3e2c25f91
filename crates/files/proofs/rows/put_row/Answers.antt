-- put_row meets its contract: two words of the expander, those of its phys, and zeros behind them are the row.
use Prim.Native.Nat.{◌+◌, ◌-◌, ◌*◌}
use mathlib.Core.Path.{◌≡◌, ◌∙◌}
use native.Mathlib.Omega.{arith}
use lib.ListN.{length, length-set}
use borrow.Rule.Slice.PartMut.{put_mid, same_len_mid}
use Rattle.files.proofs.RowFilling.{row_made, tail_cleared}
use Rattle.files.specs.Rows.{row_words}
use Rattle.files.proofs.rows.put_row.Goals as goal

pub bounds-row-1 : goal.bounds-row-1
bounds-row-1 c =
    let a = c.args in
    let k = 2 + 2 * a.u.phys in
    let l = same_len_mid k (length a.row.now - k) a.row.now c.clear.new.row c.clear.auto.row in
    simp length-set (omega arith)

pub put_phys-requires : goal.put_phys-requires
put_phys-requires c =
    let a = c.args in
    let k = 2 + 2 * a.u.phys in
    let l = same_len_mid k (length a.row.now - k) a.row.now c.clear.new.row c.clear.auto.row in
    (omega arith, simp length-set (omega arith))

pub shape_of-row : goal.shape_of-row
shape_of-row c =
    let a = c.args in
    let k = 2 + 2 * a.u.phys in
    let l = same_len_mid k (length a.row.now - k) a.row.now c.clear.new.row c.clear.auto.row in
    c.put_phys.auto.row ∙ simp length-set l

pub returns : goal.returns
returns c =
    let a = c.args in
    let k = 2 + 2 * a.u.phys in
    let l = same_len_mid k (length a.row.now - k) a.row.now c.clear.new.row c.clear.auto.row in
    let n : length a.row.now ≡ row_words = omega arith in
    let e : row_words - k ≡ 256 - 2 * a.u.phys = omega arith in
    let m : length (put_mid k (length a.row.now - k) a.row.now c.clear.new.row) ≡ row_words = l ∙ n in
    let z = tail_cleared k (length a.row.now - k) a.row.now c.clear.new.row n (omega arith) (omega arith) c.clear.ensures in
    record {
      words = c.put_phys.ensures.words ∙ row_made a.u (put_mid k (length a.row.now - k) a.row.now c.clear.new.row) _ a.file.now a.i.0 a.at m (rw e at z) c.head_word-w.ensures (omega arith);
      place = c.put_phys.ensures.place;
    }
