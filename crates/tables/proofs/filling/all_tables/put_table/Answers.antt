-- put_table meets its contract: the part of the words from `at` on, R words, is filled.
use Prim.Native.Nat.{ℕ, ◌+◌, ◌-◌}
use mathlib.Core.Path.{◌∙◌, ap}
use lib.ListN.{drop, length-drop}
use lib.Seq.{length-take-le}
use Rattle.files.specs.Domain.{Domain}
use Rattle.files.specs.Rows.{domain_in}
use Rattle.tables.specs.lists.PreparedLists.{own_words_of_order, filled_to}
use Rattle.tables.proofs.filling.TablesPut.{size-by, put_one}
use native.Mathlib.Omega.{arith}
use Rattle.tables.proofs.filling.all_tables.put_table.Goals as goal

pub slice_bounds-fill_table-end : goal.slice_bounds-fill_table-end
slice_bounds-fill_table-end c =
    let a = c.args in
    let s = size-by (domain_in a.d.now.levels.attached.rows.now) a.i.0 a.p.0 c.requires.1.0 in
    omega arith

pub returns : goal.returns
returns c =
    let at_pre = c.requires in
    let a = c.args in
    let d : Domain = domain_in a.d.now.levels.attached.rows.now in
    let t = at_pre.1.0 in
    let s = size-by d a.i.0 a.p.0 t in
    let r : ℕ = c.route_indexes.result in
    let k : ℕ = a.at + r - a.at in
    let z = length-take-le k (drop a.at a.words.now) (simp length-drop (omega arith)) in
    put_one d a.i.0 a.p.0 a.words.now a.at k (c.fill_table.ensures.0 ∙ ap (λ (n : ℕ). filled_to n (own_words_of_order d a.i.0 a.p.0)) z) t (omega arith) (a.at + r) (omega arith) (omega arith)
