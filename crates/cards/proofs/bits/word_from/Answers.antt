-- word_from shifts the bits before bit `at` out of eight bytes, and brings in as many of the next byte.
use native.Mathlib.Omega.{arith}
use Rattle.cards.proofs.BitPlaces.{word-from}
use Rattle.cards.proofs.bits.word_from.Goals as goal

pub overflow_add-result : goal.overflow_add-result
overflow_add-result c =
    let a = c.args in
    let w = word-from a.s.now a.at _ _ (λ k. (c.shared_slice_known-1.given k).fits) c.address_at-v.ensures c.byte_at-b.ensures.0 in
    omega (arith, w.number, w.less)

pub returns : goal.returns
returns c =
    let a = c.args in
    (word-from a.s.now a.at _ _ (λ k. (c.shared_slice_known-1.given k).fits) c.address_at-v.ensures c.byte_at-b.ensures.0).number
