-- collect_below meets its contract. The loop's invariant: the numbers so far are those below by the phys below p, each once.
use Prim.Native.Nat.{◌+◌, ◌<◌}
use mathlib.Core.Path.{◌∙◌}
use Rattle.files.specs.Domain.{Domain}
use Rattle.files.specs.Rows.{domain_in}
use Rattle.files.proofs.RowsAsDomain.{phy-held, domain-few}
use Rattle.tables.proofs.levels.DownstreamCollected.{Collected, collect_start, collect_go, collect_skip, collect_end}
use native.Mathlib.Omega.{arith}
use Rattle.tables.proofs.levels.downstream.collect_downstream.Goals as goal
use Rattle.tables.proofs.levels.downstream.collect_downstream.Goals.{then-q-p, else-q-p}

pub loop-p-init : goal.loop-p-init
loop-p-init c = collect_start (domain_in c.args.d.now.rows.now) c.args.i.0 c.args.part.now c.requires

pub lower_phy-q-requires : goal.lower_phy-q-requires
lower_phy-q-requires c =
    let n = c.phy_count-n.ensures.0 in
    (c.phy_in_row-f.ensures ∙ phy-held _ _ _ (omega arith), omega arith)

pub add_phy-m-requires : goal.add_phy-m-requires
add_phy-m-requires c =
    (c.phy_in_row-f.ensures ∙ phy-held _ _ _ (omega (arith, c.phy_count-n.ensures.0)), omega (arith, c.loop-p.invariant.fits, c.loop-p.invariant.room))

pub loop-p-preserved : goal.loop-p-preserved
loop-p-preserved c =
    let a = c.args in
    let n = c.phy_count-n.ensures in
    let d : Domain = domain_in a.d.now.rows.now in
    let got : Collected d a.i.0 (c.loop-p.p + 1) c.if-q-p.m c.if-q-p.part = elim c.if-q-p.branch [
      | then-q-p w ↦ rw (w.m-is, w.part-is) (collect_go d a.i.0 c.loop-p.p c.loop-p.invariant c.phy_in_row-f.result (c.phy_in_row-f.ensures ∙ phy-held _ _ _ (omega arith)) w.add_phy-m.ensures (omega arith))
      | else-q-p w ↦ rw (w.m-is, w.part-is) (let low : c.lower_phy-q.result.0 < c.loop-p.p = omega (arith, w.if-q-p.false) in collect_skip d a.i.0 c.loop-p.p c.loop-p.invariant c.lower_phy-q.result.0 low (c.lower_phy-q.ensures low) (omega arith))
    ] in
    got

pub returns : goal.returns
returns c =
    let at-args = c.args in
    let at_pre = c.requires in
    collect_end (domain_in at-args.d.now.rows.now) at-args.i.0 c.loop-p.p c.loop-p.invariant at_pre (domain-few at-args.d.now.rows.now) (omega (arith, c.phy_count-n.ensures.0))
