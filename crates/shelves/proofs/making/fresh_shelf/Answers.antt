-- The fields are the definition's, the kinds by their own function's promise.
use Prim.Native.Nat.{ℕ}
use mathlib.Core.Path.{ap}
use mathlib.Core.List.{List}
use lib.ListN.{replicate}
use Rattle.shelves.specs.declared.Shelf.{Shelf}
use Rattle.shelves.specs.Shelf.{shelf_entries}
use Rattle.shelves.proofs.making.fresh_shelf.Goals as goal

pub returns : goal.returns
returns c =
    let a = c.args in
    let of : List ℕ → Shelf = λ ks. record {
      entries = replicate shelf_entries 0;
      disabled = replicate shelf_entries 1;
      kinds = ks;
      route_indexes = a.route_indexes;
      phys = a.phys;
    } in
    ap of c.all_kinds-all.ensures
