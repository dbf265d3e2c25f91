-- read_rows meets its contract: the rows written hold the expanders so far, and the words that are left read as the others.
use Prim.Native.Nat.{ℕ, ◌+◌, ◌-◌, ◌*◌}
use mathlib.Core.Path.{◌≡◌, refl, ◌∙◌, subst}
use lib.ListN.{length, take, length-take, length-drop}
use borrow.Rule.Slice.PartMut.{same_len_mid}
use Rattle.forms.specs.Form.{form_in}
use Rattle.forms.proofs.FormRows.{form-few, filled-start, filled-go, filled-end}
use Rattle.files.specs.Rows.{domain_in, row_words}
use native.Mathlib.Omega.{arith}
use Rattle.forms.proofs.reading.read_rows.Goals as goal

pub loop-i-init : goal.loop-i-init
loop-i-init c = (omega arith, (refl, filled-start c.args.ws.now c.args.rows.now))

pub put_row-at-requires : goal.put_row-at-requires
put_row-at-requires c = (simp (length-take, length-drop) (omega arith), omega (arith, form-few c.args.ws.now))

pub loop-i-preserved : goal.loop-i-preserved
loop-i-preserved c =
    let at-args = c.args in
    let s : length c.put_row-at.new.row ≡ row_words = c.put_row-at.auto.row ∙ simp (length-take, length-drop) (omega arith) in (omega (arith, c.put_row-at.ensures.1), (same_len_mid (row_words * c.loop-i.i) (row_words * c.loop-i.i + row_words - row_words * c.loop-i.i) c.loop-i.rows c.put_row-at.new.row c.put_row-at.auto.row ∙ c.loop-i.invariant.1.0, filled-go at-args.ws.now c.loop-i.rows c.loop-i.i c.loop-i.at c.loop-i.invariant.1.1 c.put_row-at.new.row _ (row_words * c.loop-i.i) (row_words * c.loop-i.i + row_words - row_words * c.loop-i.i) c.put_row-at.ensures.0 s c.put_row-at.ensures.1 refl (omega arith) (omega arith) (omega arith)))

pub returns : goal.returns
returns c = let e : c.loop-i.i ≡ c.args.n = omega arith in subst (λ (k : ℕ). domain_in (take (row_words * k) c.loop-i.rows) ≡ form_in c.args.ws.now) e (filled-end c.args.ws.now c.loop-i.rows c.loop-i.i c.loop-i.at c.loop-i.invariant.1.1 (omega arith) (omega (arith, form-few c.args.ws.now)) (omega arith))
