-- put_expanders puts expander after expander; its loop's invariant: the bits with those of the expanders to come put behind are all of them put.
use native.Mathlib.Omega.{arith}
use Rattle.files.specs.Domain.{Domain}
use Rattle.files.specs.Rows.{domain_in}
use Rattle.frames.specs.Bits.{bits_of}
use Rattle.cards.proofs.CardPuts.{total-next, total-none, expanders-turn, expanders-end}
use Rattle.cards.proofs.card_writing.put_expanders.Goals as goal

pub loop-i-preserved : goal.loop-i-preserved
loop-i-preserved c =
    let d : Domain = domain_in c.args.rows.now in
    let e = total-next d c.loop-i.i (omega arith) in
    let f = c.put_phys-at.ensures in
    (omega arith, (omega arith, expanders-turn d c.loop-i.i c.loop-i.at _ (bits_of c.loop-i.card) _ _ _ (omega arith) c.loop-i.invariant.1.1 c.put_head.ensures f.0 f.1.0))

pub returns : goal.returns
returns c =
    let d : Domain = domain_in c.args.rows.now in
    let e = total-none d c.loop-i.i (omega arith) in
    (expanders-end d c.loop-i.i c.loop-i.at _ _ (omega arith) c.loop-i.invariant.1.1, (omega arith, omega arith))
