-- put_phys meets its contract. The loop's invariant: setting the words of the phys from p on gives what setting those of all gives.
use mathlib.Core.Path.{refl, sym, ◌∙◌, ap}
use native.Mathlib.Nat.{sub-zero}
use native.Mathlib.Omega.{arith}
use lib.ListN.{length-set}
use Rattle.files.proofs.RowFilling.{put_go, put-end, next-go, next-end}
use Rattle.files.specs.Domain.{address_of}
use Rattle.files.specs.SecondReading.{phy_got, next_got}
use Rattle.files.specs.Rows.{phy_word}
use Rattle.files.proofs.rows.put_phys.Goals as goal

pub loop-p-init : goal.loop-p-init
loop-p-init c = (refl, (simp sub-zero, simp sub-zero))

pub bounds-row-k-in-loop-p : goal.bounds-row-k-in-loop-p
bounds-row-k-in-loop-p c = simp length-set (omega arith)

pub loop-p-preserved : goal.loop-p-preserved
loop-p-preserved c =
    let a = c.args in
    let g = c.phy_got-phy.ensures ∙ ap phy_got c.phy_unit-unit.ensures in
    let q = c.next_got-next.ensures ∙ ap (next_got c.loop-p.next) c.phy_unit-unit.ensures in (
      simp length-set c.loop-p.invariant.0,
      (
        put_go a.file.now a.own_address a.i.0 a.n c.loop-p.p c.loop-p.next c.loop-p.row _ _ _ (c.phy_address.ensures ∙ ap address_of g)
            (c.phy_word.ensures ∙ ap phy_word g) q (omega arith) ∙ c.loop-p.invariant.1.0,
        next-go a.file.now a.own_address a.i.0 a.n c.loop-p.p c.loop-p.next _ q (omega arith) ∙ c.loop-p.invariant.1.1,
      ),
    )

pub returns : goal.returns
returns c =
    let a = c.args in
    record {
      words = sym (put-end a.file.now a.own_address a.i.0 a.n c.loop-p.p c.loop-p.next c.loop-p.row (omega arith)) ∙ c.loop-p.invariant.1.0;
      place = sym (next-end a.file.now a.own_address a.i.0 a.n c.loop-p.p c.loop-p.next (omega arith)) ∙ c.loop-p.invariant.1.1;
    }
