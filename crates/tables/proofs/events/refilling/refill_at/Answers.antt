-- refill_at meets its contract. The loop's invariant: the tables of the first p phys are gone through, and `order` is the order of the table phy before.
use Prim.Native.Nat.{ℕ, ◌+◌, ◌≤◌}
use mathlib.Core.Path.{◌≡◌, refl, sym, ◌∙◌, ap}
use native.Mathlib.Omega.{arith}
use lib.ListN.{length, get_or-eq_default}
use Rattle.files.proofs.RowsAsDomain.{phy-held}
use Rattle.wiring.proofs.index.SlotDevices.{short_in}
use Rattle.files.specs.declared.Phy.TheVariants.{Vacant}
use Rattle.files.specs.Domain.{Domain, expander_at, phy_at}
use Rattle.wiring.specs.phys.PhyCauses.{phy_places}
use Rattle.files.specs.Rows.{domain_in}
use Rattle.tables.specs.filling.Tables.{sizes}
use Rattle.tables.specs.filling.Entries.{Room, entries}
use Rattle.tables.specs.lists.PreparedLists.{order_of}
use Rattle.tables.specs.events.TablesRewritten.{table_link}
use Rattle.tables.proofs.lists.GrowingLists.{grown-kept, grown-again}
use Rattle.tables.proofs.levels.LevelOrders.{order-none}
use Rattle.tables.proofs.events.TablesRewritten.{phys-fit, phys-start, phys-turn, phys_skip, near_none, near-passed, near-then}
use Rattle.tables.proofs.events.refilling.refill_at.Goals as goal
use Rattle.tables.proofs.events.refilling.refill_at.Goals.{then-is_table_link, else-is_table_link}

pub loop-p-init : goal.loop-p-init
loop-p-init c =
    let a = c.args in
    let d : Domain = domain_in a.d.now.levels.attached.rows.now in
    let o = grown-kept 0 a.order.now (order-none d (Vacant 0) refl) (omega arith) in
    let none : Vacant 0 ≡ phy_at d a.i.0 255 = sym (get_or-eq_default (expander_at d a.i.0).phys (Vacant 0) (omega (arith, short_in a.d.now.levels.attached.rows.now a.i.0))) in
    (refl, ((none, o), (near_none a.s, phys-start d a.e.0 a.i.0 a.s (entries a.words.now a.bits.now))))

pub pass_over-t-requires : goal.pass_over-t-requires
pass_over-t-requires c =
    let at_pre = c.requires in
    let at-good = c.well_formed in
    let a = c.args in
    let d : Domain = domain_in a.d.now.levels.attached.rows.now in
    let u = c.loop-p.invariant.1.1.1 in
    let f = phys-fit d a.i.0 c.phy_count-n.result c.loop-p.p (omega (arith, c.loop-p-test.true)) in
    let n = ap (λ (k : ℕ). sizes d (phy_places a.i.0 0 k)) c.phy_count-n.ensures.0 in
    let most : a.s.at + sizes d (phy_places a.i.0 0 c.phy_count-n.result) ≤ length a.words.now = omega (arith, n, at_pre.1.1.1.0) in
    (c.phy_in_row-f.ensures ∙ phy-held _ _ _ (omega (arith, c.loop-p-test.true, c.phy_count-n.ensures.0)), omega (arith, u.next, most, f, at-good))

pub order_for-kept-requires : goal.order_for-kept-requires
order_for-kept-requires c =
    let at_pre = c.requires in
    ((c.phy_in_row-f.ensures ∙ phy-held _ _ _ (omega arith), c.loop-p.invariant.1.0.0), (omega (arith, at_pre.0), c.loop-p.invariant.1.0.1))

pub refill_table-t-requires : goal.refill_table-t-requires
refill_table-t-requires c =
    let at_pre = c.requires in
    let a = c.args in
    let d : Domain = domain_in a.d.now.levels.attached.rows.now in
    let w = c.loop-p.invariant.1.1 in
    let u = w.1 in
    let q = c.order_for-kept.ensures.1.whole ∙ ap (order_of d) (c.order_for-kept.ensures.0.1 ∙ c.phy_in_row-f.ensures ∙ phy-held _ _ _ (omega (arith, c.loop-p-test.true, c.phy_count-n.ensures.0))) in
    let f = phys-fit d a.i.0 c.phy_count-n.result c.loop-p.p (omega (arith, c.loop-p-test.true)) in
    let n = ap (λ (k : ℕ). sizes d (phy_places a.i.0 0 k)) c.phy_count-n.ensures.0 in
    let h = ap (λ (x : Room). x.words) u.same in
    let k = ap (λ (x : Room). x.bits) u.same in
    (q, (at_pre.1.0, ((omega (arith, w.0.few, at_pre.1.1.0.0, c.phy_count-n.ensures.1), omega (arith, w.0.less, at_pre.1.1.0.1)), (omega (arith, u.next, at_pre.1.1.1.0), omega (arith, u.next, at_pre.1.1.1.1)))))

pub loop-p-preserved : goal.loop-p-preserved
loop-p-preserved c =
    let at_pre = c.requires in
    let a = c.args in
    let d : Domain = domain_in a.d.now.levels.attached.rows.now in
    let v = c.loop-p.invariant.1.1 in
    let phy = c.phy_in_row-f.ensures ∙ phy-held _ _ _ (omega (arith, c.loop-p-test.true, c.phy_count-n.ensures.0)) in
    let f = phys-fit d a.i.0 c.phy_count-n.result c.loop-p.p (omega (arith, c.loop-p-test.true)) in
    let n = ap (λ (k : ℕ). sizes d (phy_places a.i.0 0 k)) c.phy_count-n.ensures.0 in
    elim c.if-is_table_link.branch [
      | then-is_table_link w ↦
          let o = w.order_for-kept.ensures in
          rw (w.order-is, w.kept-is, w.words-is, w.bits-is, w.t-is)
          (o.1.same ∙ c.loop-p.invariant.0, ((o.0.1 ∙ phy ∙ ap (phy_at d a.i.0) (sym o.0.0), grown-again o.1), (near-then c.loop-p.p 1 (c.loop-p.p + 1) a.s c.loop-p.t w.refill_table-t.result v.0 w.refill_table-t.ensures.1 (omega arith), phys-turn d a.e.0 a.i.0 c.loop-p.p a.s c.loop-p.t w.refill_table-t.result (entries a.words.now a.bits.now) (entries c.loop-p.words c.loop-p.bits) _ v.1 w.refill_table-t.ensures.0 (omega (arith, at_pre.1.1.1.0)) (omega (arith, at_pre.1.1.1.1)))))
      | else-is_table_link w ↦
          let link : c.is_table_link.result ≡ table_link (phy_at d a.i.0 c.loop-p.p) = c.is_table_link.ensures ∙ ap table_link phy in
          rw (w.order-is, w.kept-is, w.words-is, w.bits-is, w.t-is)
          (c.loop-p.invariant.0, (c.loop-p.invariant.1.0, (near-then c.loop-p.p 1 (c.loop-p.p + 1) a.s c.loop-p.t w.pass_over-t.result v.0 (near-passed d _ c.loop-p.t w.pass_over-t.result w.pass_over-t.ensures) (omega arith), phys_skip d a.e.0 a.i.0 c.loop-p.p a.s c.loop-p.t w.pass_over-t.result (entries a.words.now a.bits.now) (entries c.loop-p.words c.loop-p.bits) v.1 link w.if-is_table_link.false w.pass_over-t.ensures (omega (arith, at_pre.1.1.1.0)) (omega (arith, at_pre.1.1.1.1)))))
    ]
