-- overlong_phy meets its contract. The loop's invariant: no phy below p has too long a list.
use Prim.Native.Nat.{ℕ}
use mathlib.Core.Path.{sym, ◌∙◌, ap}
use Rattle.files.proofs.RowsAsDomain.{phy-held}
use Rattle.files.specs.Domain.{Domain}
use Rattle.files.specs.Rows.{domain_in}
use Rattle.wiring.proofs.phys.PlaceSearches.{phy-stop, phy-go, phy-end}
use Rattle.tables.specs.lists.PreparedLists.{own_overlong}
use Rattle.tables.proofs.lists.OverlongLists.{below_next}
use Rattle.wiring.specs.phys.Checks.{check_answer}
use native.Mathlib.Omega.{arith}
use Rattle.wiring.specs.FrameDefinitions.{refused}
use Rattle.tables.proofs.lists.overlong.overlong_phy.Goals as goal

pub lower_phy-q-requires : goal.lower_phy-q-requires
lower_phy-q-requires c =
    let n = c.phy_count-n.ensures.0 in
    (c.phy_in_row-f.ensures ∙ phy-held _ _ _ (omega arith), omega arith)

pub is_overlong-requires : goal.is_overlong-requires
is_overlong-requires c =
    let at_pre = c.requires in
    record {
      room = record { enough = omega (arith, c.loop-p.invariant.0, at_pre.enough); few = omega (arith, c.loop-p.invariant.0, at_pre.few) };
      phy = c.phy_in_row-f.ensures ∙ phy-held _ _ _ (omega (arith, c.phy_count-n.ensures.0));
      link = c.lower_phy-q.ensures;
      none = c.loop-p.invariant.1.0;
    }

pub returns-then-is_overlong : goal.returns-then-is_overlong
returns-then-is_overlong c =
    let at-args = c.args in
    ap (check_answer (domain_in at-args.d.now.levels.attached.rows.now)) (ap refused c.refusal_at.ensures) ∙ phy-stop 14 (own_overlong (domain_in at-args.d.now.levels.attached.rows.now)) (domain_in at-args.d.now.levels.attached.rows.now) at-args.i.0 c.phy_count-n.result c.loop-p.p c.loop-p.invariant.1.1 (sym c.is_overlong.ensures ∙ c.if-is_overlong.true) (omega arith)

pub loop-p-preserved : goal.loop-p-preserved
loop-p-preserved c =
    let a = c.args in
    let d : Domain = domain_in a.d.now.levels.attached.rows.now in
    let o = sym c.is_overlong.ensures ∙ c.if-is_overlong.false in
    let v = phy-go 14 (own_overlong d) d a.i.0 c.phy_count-n.result c.loop-p.p c.loop-p.invariant.1.1 o (omega arith) in
    (c.is_overlong.auto.order ∙ c.loop-p.invariant.0, (below_next (λ (k : ℕ). own_overlong d a.i.0 k) c.loop-p.p c.loop-p.invariant.1.0 o, v))

pub returns : goal.returns
returns c =
    let at-args = c.args in
    phy-end 14 (own_overlong (domain_in at-args.d.now.levels.attached.rows.now)) (domain_in at-args.d.now.levels.attached.rows.now) at-args.i.0 c.phy_count-n.result c.loop-p.p c.loop-p.invariant.1.1 (omega arith)
