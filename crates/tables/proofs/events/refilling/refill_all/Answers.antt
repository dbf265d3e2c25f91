-- refill_all meets its contract. The loop's invariant: the tables of the first i expanders are gone through.
use Prim.Native.Nat.{◌+◌, ◌*◌}
use mathlib.Core.Path.{refl, ◌∙◌, ap}
use native.Mathlib.Omega.{arith}
use lib.ListN.{take}
use Rattle.files.specs.Domain.{Domain}
use Rattle.wiring.specs.phys.PhyCauses.{places_from}
use Rattle.files.specs.Rows.{domain_in}
use Rattle.tables.specs.filling.Entries.{Room, entries}
use Rattle.tables.specs.declared.events.refilling.Tally.{Tally}
use Rattle.tables.proofs.events.TablesRewritten.{all-refilled, all-answered, expanders-all, expanders-fit, expanders-start, expanders-turn, near_none, near-then}
use Rattle.tables.proofs.events.refilling.refill_all.Goals as goal

pub loop-i-init : goal.loop-i-init
loop-i-init c =
    let a = c.args in
    let d : Domain = domain_in a.d.now.levels.attached.rows.now in
    let z : Tally = record { at = 0; tables = 0; words = 0 } in
    (refl, ((λ j. (c.slice_known-3-1.given j).fits), (near_none z, expanders-start d a.e.0 z (entries a.words.now a.bits.now))))

pub refill_at-s-requires : goal.refill_at-s-requires
refill_at-s-requires c =
    let a = c.args in
    let d : Domain = domain_in a.d.now.levels.attached.rows.now in
    let p = c.requires in
    let w = c.loop-i.invariant.1.1 in
    let u = w.1 in
    let f = expanders-fit d c.loop-i.i (omega (arith, c.loop-i-test.true, c.expander_count-n.ensures.0)) in
    let h = ap (λ (x : Room). x.words) u.same in
    let k = ap (λ (x : Room). x.bits) u.same in
    (omega (arith, p.0, c.loop-i.invariant.0), (p.1.0, ((omega (arith, w.0.few, c.loop-i-test.true, c.expander_count-n.ensures.1), omega (arith, w.0.less)), (omega (arith, u.next, p.1.1.words), omega (arith, u.next, p.1.1.bits)))))

pub loop-i-preserved : goal.loop-i-preserved
loop-i-preserved c =
    let a = c.args in
    let d : Domain = domain_in a.d.now.levels.attached.rows.now in
    let p = c.requires in
    let w = c.loop-i.invariant.1.1 in
    let g = c.loop-i-test.true in
    let f = expanders-fit d c.loop-i.i (omega (arith, g, c.expander_count-n.ensures.0)) in
    let z : Tally = record { at = 0; tables = 0; words = 0 } in
    (c.refill_at-s.auto.order ∙ c.loop-i.invariant.0, ((λ j. (c.slice_known-in-loop-i-3-1.given j).fits), (near-then (128 * c.loop-i.i) 128 (128 * (c.loop-i.i + 1)) z c.loop-i.s c.refill_at-s.result w.0 c.refill_at-s.ensures.1 (omega arith), expanders-turn d a.e.0 c.loop-i.i z c.loop-i.s c.refill_at-s.result (entries a.words.now a.bits.now) (entries c.loop-i.words c.loop-i.bits) _ w.1 c.refill_at-s.ensures.0 (omega (arith, g, c.expander_count-n.ensures.0)) (omega (arith, p.1.1.words)) (omega (arith, p.1.1.bits)))))

pub returns : goal.returns
returns c =
    let a = c.args in
    let d : Domain = domain_in a.d.now.levels.attached.rows.now in
    let w = c.loop-i.invariant.1.1 in
    let q = expanders-all d c.loop-i.i (omega (arith, c.loop-i-test.false, c.expander_count-n.ensures.0)) in
    let z : Tally = record { at = 0; tables = 0; words = 0 } in
    (all-refilled d a.e.0 z c.loop-i.s a.words.now a.bits.now c.loop-i.words c.loop-i.bits (places_from 0 (take c.loop-i.i d)) q refl w.1 c.loop-i.invariant.1.0, all-answered d a.e.0 z c.loop-i.s a.words.now a.bits.now c.loop-i.words c.loop-i.bits (places_from 0 (take c.loop-i.i d)) q refl w.1 refl refl)
