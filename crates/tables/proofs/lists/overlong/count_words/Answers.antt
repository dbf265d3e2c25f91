-- count_words meets its contract. The loop's invariant: `sum` is the number of words in the own lists of the first k expanders.
use Prim.Native.Nat.{ℕ, ◌+◌}
use mathlib.Core.List.{List, flat_map}
use mathlib.Core.Path.{◌∙◌, ap}
use native.Mathlib.Omega.{arith}
use lib.ListN.{length, get_or, drop, length-append}
use Rattle.files.specs.Domain.{Domain}
use Rattle.files.specs.Rows.{domain_in}
use Rattle.tables.specs.lists.OwnLists.{own_words}
use Rattle.tables.proofs.lists.GrowingLists.{flat_next, flat_last}
use Rattle.tables.proofs.lists.overlong.count_words.Goals as goal

pub loop-k-preserved : goal.loop-k-preserved
loop-k-preserved c =
    let a = c.args in
    let d : Domain = domain_in a.d.now.levels.attached.rows.now in
    let order : List ℕ = a.order.now in
    let r = c.own_count-sum.ensures in
    let here : List ℕ = own_words d (get_or order c.loop-k.k 0) in
    let rest : List ℕ = flat_map (own_words d) (drop (c.loop-k.k + 1) order) in
    let e = ap length (flat_next (own_words d) 0 order c.loop-k.k (omega arith)) ∙ length-append here rest in
    let v = c.loop-k.invariant.1 in
    (omega arith, omega arith)

pub returns : goal.returns
returns c =
    let a = c.args in
    let d : Domain = domain_in a.d.now.levels.attached.rows.now in
    let e = ap length (flat_last (own_words d) a.order.now c.loop-k.k (omega arith)) in
    let v = c.loop-k.invariant.1 in
    omega arith
