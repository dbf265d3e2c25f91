-- refill_table meets its contract: the table is written where expander e is in the order, and passed over elsewhere.
use Prim.Native.Nat.{ℕ, ◌+◌, ◌-◌}
use mathlib.Core.Path.{refl, ◌∙◌, ap, ap₂}
use native.Mathlib.Omega.{arith}
use borrow.Author.Tests.{not-true, not-false}
use Rattle.files.specs.Domain.{Domain}
use Rattle.wiring.specs.phys.PhyCauses.{Place, place}
use Rattle.files.specs.Rows.{domain_in}
use Rattle.files.proofs.ListMembers.{was_true}
use Rattle.tables.specs.filling.Entries.{Room, entries}
use Rattle.tables.proofs.events.TablesRewritten.{touched-attribute, touched-size, touched-is, rewritten_old, rewritten_new}
use Rattle.tables.proofs.events.refilling.refill_table.Goals as goal

pub returns-then-not-has_number : goal.returns-then-not-has_number
returns-then-not-has_number c =
    let at_pre = c.requires in
    let a = c.args in
    let d : Domain = domain_in a.d.now.levels.attached.rows.now in
    let z = c.size_at.ensures in
    let q = touched-is d a.e.0 a.i.0 a.p.0 a.order.now at_pre.0 c.has_number.ensures ∙ not-true _ c.if-not-has_number.true-raw in
    (rewritten_old d a.e.0 (place a.i.0 a.p.0) a.s _ (entries a.words.now a.bits.now) q (ap (λ (n : ℕ). a.s.at + n) z.0) refl refl, record { far = omega arith; few = omega arith; less = omega arith })

pub renew_table-n-requires : goal.renew_table-n-requires
renew_table-n-requires c =
    let a = c.args in
    let pre = c.requires in
    let d : Domain = domain_in a.d.now.levels.attached.rows.now in
    let v : Place = place a.i.0 a.p.0 in
    let z = c.size_at.ensures in
    let q = touched-is d a.e.0 a.i.0 a.p.0 a.order.now pre.0 c.has_number.ensures ∙ not-false _ c.if-not-has_number.false-raw in
    let f = pre.1.0 a.i.0 a.p.0 (was_true _ (touched-attribute d a.e.0 a.i.0 a.p.0 q)) in
    let w = touched-size d a.e.0 v (was_true _ q) in
    (record { ordered = pre.0; fits = omega arith }, (omega arith, (omega (arith, pre.1.1.1.0), omega (arith, pre.1.1.1.1))))

pub returns : goal.returns
returns c =
    let at_pre = c.requires in
    let a = c.args in
    let d : Domain = domain_in a.d.now.levels.attached.rows.now in
    let v : Place = place a.i.0 a.p.0 in
    let z = c.size_at.ensures in
    let u = c.renew_table-n.ensures in
    let q = touched-is d a.e.0 a.i.0 a.p.0 a.order.now at_pre.0 c.has_number.ensures ∙ not-false _ c.if-not-has_number.false-raw in
    let same : (x y : ℕ) → Room = λ x y. record { words = x; bits = y } in
    (rewritten_new d a.e.0 v a.s _ (entries a.words.now a.bits.now) _ (a.s.at + c.size_at.result - a.s.at) q (ap₂ same c.renew_table-n.auto.words c.renew_table-n.auto.bits) (omega (arith, z.0)) (omega (arith, z.0, at_pre.1.1.1.0)) (omega (arith, z.0, at_pre.1.1.1.1)) u.0 u.1.0 (ap (λ (n : ℕ). a.s.at + n) z.0) refl (ap (λ (n : ℕ). a.s.words + n) u.1.1.0), record { far = omega (arith, z.1); few = omega arith; less = omega (arith, u.1.1.1) })
