-- The entry and its bit: the two stores are the definition's.
use mathlib.Core.Path.{ap₂}
use Prim.Native.Nat.{ℕ}
use lib.ListN.{set}
use Rattle.shelves.specs.declared.Shelf.{Shelf}
use Rattle.shelves.specs.Shelf.{loaded}
use Rattle.shelves.proofs.loading.replace.Goals as goal

pub returns : goal.returns
unfolding loaded
returns c =
    let s = c.args.shelf in
    let q = c.args.q in
    let with : ℕ → ℕ → Shelf = λ at bit. record {
      entries = set s.entries at q.address;
      disabled = set s.disabled at bit;
      kinds = s.kinds;
      route_indexes = s.route_indexes;
      phys = s.phys;
    } in
    ap₂ with c.place_of-at.ensures c.bit_of-bit.ensures
