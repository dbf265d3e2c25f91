-- own_count meets its contract: the count that is held for expander i, and 0 where there is no such expander, whose own list is empty.
use mathlib.Core.Path.{sym, ap}
use native.Mathlib.Omega.{arith}
use lib.ListN.{length}
use Rattle.files.specs.Rows.{domain_in}
use Rattle.tables.proofs.lists.OwnListLoops.{own_none, own_few}
use Rattle.tables.proofs.lists.own_lists.own_count.Goals as goal

pub returns-then-i-expander_count : goal.returns-then-i-expander_count
returns-then-i-expander_count c =
    let a = c.args in
    let e = c.expander_count.ensures.0 in
    (sym (ap length (own_none (domain_in a.d.now.levels.attached.rows.now) a.i.0 (omega arith))), omega arith)

pub returns : goal.returns
returns c =
    let a = c.args in
    let e = c.expander_count.ensures.0 in
    let n = a.d.now.counted.each a.i.0 (omega arith) in
    (n, omega (arith, n, own_few a.d.now.levels.attached.rows.now a.i.0))
