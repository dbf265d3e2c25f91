-- key_in meets its contract: the mask keeps the key below the number of roots.
use mathlib.Core.Path.{refl}
use Rattle.wiring.specs.index.SearchTree.{key_in}
use Rattle.wiring.proofs.index.SearchTrees.{key_below}
use Rattle.wiring.proofs.index.addresses.key_in.Goals as goal

pub returns : goal.returns
unfolding key_in
returns c = (refl, key_below c.args.size c.args.s c.requires)
