-- put_present puts the numbers one after the other.
use Rattle.cards.proofs.CardPuts.{present-none, present-all}
use Rattle.cards.proofs.card_writing.put_present.Goals as goal

pub returns-then-x-eq0 : goal.returns-then-x-eq0
returns-then-x-eq0 c =
    let at-args = c.args in
    present-none at-args.x at-args.at _ _ _ _ c.put_bits.ensures c.put_bits-2.ensures c.put_bits-3.ensures c.if-x-eq0.true

pub returns : goal.returns
returns c =
    let at-args = c.args in
    present-all at-args.x at-args.at _ _ _ _ c.put_bits.ensures c.put_bits-2.ensures c.put_bits-3.ensures c.if-x-eq0.false _ _ c.put_bits-4.ensures c.put_bits-5.ensures
