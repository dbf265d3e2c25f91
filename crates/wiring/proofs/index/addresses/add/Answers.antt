-- add meets its contract: where the walk ends at a slot, that is the lowest with the address; else the new slot goes into the free cell.
use mathlib.Core.Path.{refl}
use Rattle.wiring.proofs.index.IndexWriting.{added_same, added_new}
use native.Mathlib.Omega.{arith}
use Rattle.wiring.proofs.index.addresses.add.Goals as goal

pub returns-then-v-gt0 : goal.returns-then-v-gt0
returns-then-v-gt0 c =
    let at_pre = c.requires in
    added_same _ _ _ _ _ _ at_pre c.find-c.result c.find-c.ensures.0 _ refl (omega arith)

pub returns : goal.returns
returns c =
    let at_pre = c.requires in
    added_new _ _ _ _ _ _ at_pre c.find-c.result c.find-c.ensures.0 (omega arith)
