-- bits_at shifts the bits after the first `width` out of 64.
use native.Mathlib.Omega.{arith}
use Rattle.cards.proofs.BitPlaces.{first-bits}
use Rattle.cards.proofs.bits.bits_at.Goals as goal

pub returns : goal.returns
returns c =
    let a = c.args in
    first-bits a.s.now a.at a.width _ (omega arith) c.word_from.ensures
