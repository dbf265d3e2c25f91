-- put_bits puts bit after bit; its loop's invariant: the bits with those still to come put behind are all of them put.
use mathlib.Core.Path.{refl}
use native.Mathlib.Omega.{arith}
use Rattle.cards.proofs.BitPlaces.{put-turn, put-end}
use Rattle.cards.proofs.bits.put_bits.Goals as goal

pub loop-k-preserved : goal.loop-k-preserved
loop-k-preserved c =
    let a = c.args in
    put-turn _ c.loop-k.s _ a.at c.loop-k.k _ a.x _ _ (omega arith) c.loop-k.invariant refl (omega arith) c.set_bit.ensures

pub returns : goal.returns
returns c = put-end _ _ _ _ _ _ c.loop-k-test.false c.loop-k.invariant
