-- card_size adds the sizes of expanders; its loop's invariant: the sum, with the sizes of the expanders to come, is that of the card.
use native.Mathlib.Omega.{arith}
use Rattle.files.specs.Rows.{domain_in}
use Rattle.cards.proofs.CardPuts.{total-next, total-none}
use Rattle.cards.proofs.sizes.card_size.Goals as goal

pub loop-i-preserved : goal.loop-i-preserved
loop-i-preserved c =
    let e = total-next (domain_in c.args.rows.now) c.loop-i.i (omega arith) in
    let f = c.phys_size.ensures.0 in
    (omega arith, omega arith)

pub returns : goal.returns
returns c =
    let e = total-none (domain_in c.args.rows.now) c.loop-i.i (omega arith) in
    (omega arith, omega arith)
