-- unit_from reads the four numbers of an expander.
use native.Mathlib.Omega.{arith}
use Rattle.frames.specs.Bits.{bits_of}
use Rattle.cards.proofs.CardPlaces.{unit-from}
use Rattle.cards.proofs.reading.unit_from.Goals as goal

pub returns : goal.returns
returns c =
    let a = c.args in
    let p = c.bits_at.ensures in
    (unit-from (bits_of a.card.now) a.at _ _ _ _ c.word_from.ensures c.bits_at-route_indexes.ensures.0 (omega (arith, p.0)) c.bits_at-configurable.ensures.0, omega (arith, p.1))
