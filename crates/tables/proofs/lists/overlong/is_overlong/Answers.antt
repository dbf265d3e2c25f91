-- is_overlong meets its contract: a lower phy of the link tells, or the own lists of the phy's order are counted.
use mathlib.Core.Path.{sym, ◌∙◌}
use borrow.Author.Tests.{not-true, not-false}
use Rattle.files.specs.Domain.{Domain}
use Rattle.files.specs.Rows.{domain_in}
use Rattle.tables.proofs.lists.OverlongLists.{over-linked, over_none, over-order}
use Rattle.tables.proofs.lists.overlong.is_overlong.Goals as goal

pub returns-then-q-p : goal.returns-then-q-p
returns-then-q-p c =
    let at_pre = c.requires in
    let a = c.args in
    sym (over-linked (domain_in a.d.now.levels.attached.rows.now) a.i.0 a.p.0 a.q.0 (at_pre.link c.if-q-p.true) ∙ at_pre.none a.q.0 c.if-q-p.true)

pub returns-then-not-is_down : goal.returns-then-not-is_down
returns-then-not-is_down c =
    let at-args = c.args in
    let at_pre = c.requires in
    sym (over_none (domain_in at-args.d.now.levels.attached.rows.now) at-args.i.0 at-args.p.0 _ at_pre.phy (sym c.is_down.ensures ∙ not-true _ c.if-not-is_down.true-raw))

pub returns : goal.returns
returns c =
    let at_pre = c.requires in
    let a = c.args in
    let d : Domain = domain_in a.d.now.levels.attached.rows.now in
    let g = c.put_order-m.ensures in
    let q = sym c.is_down.ensures ∙ not-false _ c.if-not-is_down.false-raw in
    simp (c.route_indexes.ensures, c.count_words.ensures) (over-order d a.i.0 a.p.0 _ at_pre.phy _ q g.whole)
