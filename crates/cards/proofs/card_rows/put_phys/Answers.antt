-- put_phys walks phy after phy; its loop's invariant: what was stored, found and counted, with the phys to come behind, is that of all of them.
use Prim.Native.Nat.{◌+◌}
use mathlib.Core.Path.{sym, ◌∙◌, ap}
use mathlib.Core.Bool.{cond, ◌&&◌}
use native.Mathlib.Omega.{arith}
use lib.Dec.{eqb}
use Rattle.frames.specs.Bits.{bits_of}
use Rattle.files.specs.declared.Phy.{Phy}
use Rattle.files.specs.Domain.{address_of}
use Rattle.files.specs.Rows.{phy_word}
use Rattle.cards.specs.Card.{phy_size}
use Rattle.cards.specs.CardRead.{result_fine, phy_ranged}
use Rattle.cards.proofs.RowPuts.{past_next, past-none, stored-go, stored-end, fine_go, fine_end, count-go, count-end}
use Rattle.cards.proofs.card_rows.put_phys.Goals as goal

pub loop-p-preserved : goal.loop-p-preserved
loop-p-preserved c =
    let a = c.args in
    let g = c.phy_from-f.ensures in
    let s = c.phy_size-next.ensures.0 ∙ ap phy_size g in
    let q = c.count_ranged-ranged.ensures ∙ ap (λ (f : Phy). cond (eqb c.loop-p.ranged c.loop-p.p && phy_ranged f) (c.loop-p.ranged + 1) c.loop-p.ranged) g in
    let r = count-go (bits_of a.card.now) a.n c.loop-p.p c.loop-p.next c.loop-p.ranged _ _ _ c.loop-p.invariant.0.1 c.loop-p.invariant.1.1.1.1 q s (omega arith) in (
      (omega (arith, c.phy_size-next.ensures.1), r.0),
      (
        past_next (bits_of a.card.now) a.n c.loop-p.p c.loop-p.next _ (omega arith) s ∙ c.loop-p.invariant.1.0,
        (
          stored-go (bits_of a.card.now) a.n c.loop-p.p c.loop-p.next c.loop-p.row _ _ _ (c.phy_address.ensures ∙ ap address_of g) (c.phy_word.ensures ∙ ap phy_word g) s (omega arith) ∙ c.loop-p.invariant.1.1.0,
          (fine_go (bits_of a.card.now) a.n c.loop-p.p c.loop-p.next c.loop-p.fine _ _ _ c.loop-p.invariant.1.1.1.0 (c.is_fine-fine.ensures ∙ ap result_fine g) s (omega arith), r.1),
        ),
      ),
    )

pub returns : goal.returns
returns c =
    let a = c.args in
    record {
      words = stored-end (bits_of a.card.now) a.n c.loop-p.p c.loop-p.next c.loop-p.row c.loop-p-test.false ∙ c.loop-p.invariant.1.1.0;
      place = sym (past-none (bits_of a.card.now) a.n c.loop-p.p c.loop-p.next c.loop-p-test.false) ∙ c.loop-p.invariant.1.0;
      results = fine_end (bits_of a.card.now) a.n c.loop-p.p c.loop-p.next c.loop-p.fine _ c.loop-p.invariant.1.1.1.0 c.loop-p-test.false;
      tests = count-end (bits_of a.card.now) a.n c.loop-p.p c.loop-p.next c.loop-p.ranged _ c.loop-p.invariant.1.1.1.1 c.loop-p-test.false;
    }
