-- put_owns meets its contract. The loop's invariant: the own lists of the expanders below i stand in their cells.
use Prim.Native.Nat.{ℕ, ◌+◌, ◌-◌, ◌*◌, ◌<◌}
use mathlib.Core.List.{List, ◌++◌}
use mathlib.Core.Path.{◌≡◌, refl, ◌∙◌}
use borrow.Rule.Slice.PartMut.{same_len_mid}
use lib.ListN.{length, take, drop, length-drop, length-set}
use lib.Seq.{length-take-le}
use Rattle.files.specs.Domain.{Domain}
use Rattle.files.specs.Rows.{domain_in}
use Rattle.tables.specs.lists.OwnLists.{own_words}
use Rattle.tables.specs.lists.PreparedLists.{own_list_words}
use Rattle.tables.proofs.lists.ListCells.{cells_put}
use Rattle.tables.proofs.lists.OwnListLoops.{own_few}
use native.Mathlib.Omega.{arith}
use Rattle.tables.proofs.lists.own_lists.put_owns.Goals as goal

pub loop-i-preserved : goal.loop-i-preserved
loop-i-preserved c =
    let at_pre = c.requires in
    let at-args = c.args in
    let n = c.expander_count-n.ensures in
    let b = at_pre in
    let d : Domain = domain_in at-args.d.now.rows.now in
    let a : ℕ = own_list_words * c.loop-i.i in
    let k : ℕ = a + own_list_words - (a + 1) in
    let g = c.collect_own-m.ensures in
    let mid : List ℕ = take (a + 1) c.loop-i.words ++ (c.collect_own-m.new.part ++ drop k (drop (a + 1) c.loop-i.words)) in
    let long : length (take k (drop (a + 1) c.loop-i.words)) ≡ k = length-take-le k (drop (a + 1) c.loop-i.words) (omega (arith, length-drop (a + 1) c.loop-i.words)) in
    let s = length-set mid a c.collect_own-m.result ∙ same_len_mid (a + 1) k c.loop-i.words c.collect_own-m.new.part g.same ∙ c.loop-i.invariant.0 in
    let few : (j : ℕ) → length (own_words d j) < own_list_words = λ j. omega (arith, own_few at-args.d.now.rows.now j) in
    (s, cells_put own_list_words (own_words d) c.loop-i.i c.loop-i.words c.loop-i.invariant.1 few g a k refl long (omega arith))
