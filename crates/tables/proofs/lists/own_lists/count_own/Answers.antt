-- count_own meets its contract. The loop's invariant: the words counted so far, and those of the phys from p on, are as many as the own list has.
use mathlib.Core.List.{List, []}
use mathlib.Core.Path.{refl, ◌∙◌, ap}
use lib.ListN.{length}
use Rattle.files.proofs.RowsAsDomain.{phy-held}
use Rattle.files.specs.declared.Phy.{Phy}
use Rattle.files.specs.Domain.{expander_at}
use Rattle.files.specs.Rows.{domain_in}
use Rattle.tables.proofs.lists.OwnListLoops.{owns-low, own_start, count-go, count-end, one-most}
use native.Mathlib.Omega.{arith}
use Rattle.tables.proofs.lists.own_lists.count_own.Goals as goal

pub loop-p-init : goal.loop-p-init
loop-p-init c = (omega arith, omega (arith, ap length (own_start (domain_in c.args.d.now.rows.now) c.args.i.0)))

pub loop-p-preserved : goal.loop-p-preserved
loop-p-preserved c =
    let a = c.args in
    let φs : List Phy = (expander_at (domain_in a.d.now.rows.now) a.i.0).phys in
    let n = c.phy_count-n.ensures in
    let e = c.counted-m.ensures in
    let most = one-most c.is_own-mine.result in
    let o = c.is_own-mine.ensures ∙ owns-low (domain_in a.d.now.rows.now) a.i.0 c.loop-p.p a.d.now.low.now c.phy_in_row-f.result (c.phy_in_row-f.ensures ∙ phy-held _ _ _ (omega arith)) (omega arith) a.d.now.indexed.lows in
    (omega arith, count-go φs c.loop-p.p [] refl c.phy_in_row-f.result c.loop-p.m (c.phy_in_row-f.ensures ∙ phy-held _ _ _ (omega arith)) o e (omega arith) c.loop-p.invariant.1)

pub returns : goal.returns
returns c = count-end (expander_at (domain_in c.args.d.now.rows.now) c.args.i.0).phys c.loop-p.p [] refl c.loop-p.m (omega (arith, c.phy_count-n.ensures.0)) c.loop-p.invariant.1
