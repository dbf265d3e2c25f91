-- What `all` answers is the definition's test of each kind.
use mathlib.Core.Path.{refl}
use lib.Dec.{leb}
use Rattle.std.proofs.Common.{rules}
use Rattle.std.proofs.lemmas.List.Recursion.{and_is}
use Rattle.shelves.specs.Shelf.{are_kinds}
use Rattle.shelves.proofs.making.are_kinds.Goals as goal

pub returns : goal.returns
unfolding are_kinds
returns c = and_is are_kinds (λ x. leb x 2) refl (λ _ _. refl) c.args.kinds.now 0 _ (search rules) (search rules)
