-- put_expanders meets its contract. The loop's invariant: the expanders below j are in the tree, and their entries are written.
use Rattle.wiring.proofs.index.IndexWriting.{expander-can, expander-next, expanders-end}
use Rattle.wiring.proofs.index.IndexKept.{kept_then, expander-kept}
use native.Mathlib.Omega.{arith}
use Rattle.wiring.proofs.index.addresses.put_expanders.Goals as goal

pub add-requires : goal.add-requires
add-requires c = rw c.expander_address-s.ensures (expander-can _ _ _ _ _ (omega arith) c.loop-j.invariant.0)

pub loop-j-preserved : goal.loop-j-preserved
loop-j-preserved c = (expander-next _ _ _ _ _ (omega arith) c.loop-j.invariant.0 _ _ (rw c.expander_address-s.ensures at c.add.ensures), kept_then c.loop-j.invariant.1 (expander-kept _ c.loop-j.first c.loop-j.j c.add.result (omega arith) (omega arith)))

pub returns : goal.returns
returns c = (expanders-end _ _ _ _ _ (omega arith) (omega arith) c.loop-j.invariant.0, c.loop-j.invariant.1)
