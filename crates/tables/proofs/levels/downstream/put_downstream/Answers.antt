-- put_below meets its contract. The loop's invariant: the lists of the expanders below i stand in their cells.
use Prim.Native.Nat.{ℕ, ◌+◌, ◌-◌, ◌*◌, ◌<◌}
use mathlib.Core.List.{List, ◌++◌}
use mathlib.Core.Path.{refl, ◌∙◌}
use borrow.Rule.Slice.PartMut.{same_len_mid}
use lib.ListN.{length, take, drop, length-set}
use Rattle.files.specs.Domain.{Domain}
use Rattle.files.specs.Rows.{domain_in}
use Rattle.tables.specs.lists.PreparedLists.{downstream_once, downstream_bytes}
use Rattle.tables.proofs.lists.ListCells.{cells_put, part-long}
use Rattle.tables.proofs.levels.DownstreamLists.{downstream-few}
use native.Mathlib.Omega.{arith}
use Rattle.tables.proofs.levels.downstream.put_downstream.Goals as goal

pub loop-i-preserved : goal.loop-i-preserved
loop-i-preserved c =
    let at_pre = c.requires in
    let at-args = c.args in
    let n = c.expander_count-n.ensures in
    let b = at_pre in
    let d : Domain = domain_in at-args.d.now.rows.now in
    let a : ℕ = downstream_bytes * c.loop-i.i in
    let k : ℕ = a + downstream_bytes - (a + 1) in
    let g = c.collect_downstream-m.ensures in
    let mid : List ℕ = take (a + 1) c.loop-i.downstream ++ (c.collect_downstream-m.new.part ++ drop k (drop (a + 1) c.loop-i.downstream)) in
    let s = length-set mid a c.collect_downstream-m.result ∙ same_len_mid (a + 1) k c.loop-i.downstream c.collect_downstream-m.new.part g.same ∙ c.loop-i.invariant.0 in
    let few : (j : ℕ) → length (downstream_once d j) < downstream_bytes = λ j. omega (arith, downstream-few d (omega arith) j) in
    (s, cells_put downstream_bytes (downstream_once d) c.loop-i.i c.loop-i.downstream c.loop-i.invariant.1 few g a k refl (part-long downstream_bytes a c.loop-i.downstream (omega arith)) (omega arith))
