-- renew_own meets its contract: the own list of expander e is put into its cell, and the other cells stay.
use Prim.Native.Nat.{ℕ, ◌+◌, ◌-◌, ◌*◌, ◌<◌}
use mathlib.Core.List.{List, ◌++◌}
use mathlib.Core.Path.{◌≡◌, refl, ◌∙◌}
use borrow.Rule.Slice.PartMut.{same_len_mid}
use lib.ListN.{length, take, drop, length-drop, length-set}
use lib.Seq.{length-take-le}
use Rattle.files.specs.Domain.{Domain}
use Rattle.files.specs.Rows.{domain_in}
use Rattle.tables.specs.lists.OwnLists.{own_words}
use Rattle.tables.proofs.lists.OwnListLoops.{own_few}
use Rattle.tables.proofs.events.RetestLoops.{own_renewed}
use native.Mathlib.Omega.{arith}
use Rattle.tables.specs.lists.PreparedLists.{own_list_words}
use Rattle.tables.proofs.events.retesting.renew_own.Goals as goal

pub returns : goal.returns
returns c =
    let x = c.args in
    let h = c.requires in
    let n = c.expander_count.ensures.0 in
    let d : Domain = domain_in x.rows.now in
    let ws : List ℕ = x.lists.now in
    let a : ℕ = own_list_words * x.e.0 in
    let k : ℕ = a + own_list_words - (a + 1) in
    let g = c.collect_words-m.ensures in
    let b = h.enough in
    let mid : List ℕ = take (a + 1) ws ++ (c.collect_words-m.new.part ++ drop k (drop (a + 1) ws)) in
    let long : length (take k (drop (a + 1) ws)) ≡ k = length-take-le k (drop (a + 1) ws) (omega (arith, length-drop (a + 1) ws)) in
    let s = length-set mid a c.collect_words-m.result ∙ same_len_mid (a + 1) k ws c.collect_words-m.new.part g.same in
    let few : (j : ℕ) → length (own_words d j) < own_list_words = λ j. omega (arith, own_few x.rows.now j) in
    record { enough = omega arith; cell = own_renewed d x.e.0 ws h few (omega arith) g a k refl long (omega arith) (omega arith) }
