-- byte_from puts the byte that bit `at` stands in and the next one behind each other, and takes the eight bits.
use native.Mathlib.Omega.{arith}
use Rattle.cards.proofs.BitPlaces.{byte-from}
use Rattle.cards.proofs.bits.byte_from.Goals as goal

pub returns : goal.returns
returns c =
    let a = c.args in
    let x = c.byte_at.ensures in
    let y = c.byte_at-2.ensures in
    (byte-from a.s.now a.at _ _ x.0 x.1 y.0 y.1, omega arith)
