-- walk meets its contract. The loop's invariant: what is left of the walk from here, behind the k expanders passed, is the whole walk.
use Prim.Native.Nat.{ℕ}
use mathlib.Core.Path.{refl, sym, ◌∙◌, ap}
use native.Mathlib.Omega.{arith}
use native.Mathlib.Nat.{sub-zero}
use lib.ListN.{length-set}
use Rattle.tables.specs.WiringDefinitions.{Domain}
use Rattle.tables.specs.WiringDefinitions.{domain_in}
use Rattle.tables.specs.filling.Entries.{entries, counted}
use Rattle.tracing.specs.Trace.{trace_from, traced}
use Rattle.tracing.proofs.WalkTurns.{kept, walk-stop, walk-go, walk_end}
use Rattle.tracing.proofs.walks.walk.Goals as goal

pub loop-k-init : goal.loop-k-init
unfolding traced
loop-k-init c =
    let a = c.args in
    let d : Domain = domain_in a.d.now.rows.now in (
      refl,
      refl,
      ap (λ (m : ℕ). trace_from m d (counted (entries a.words.now a.bits.now)) a.start.0 a.arrival.0 a.s) (sub-zero c.expander_count-n.result ∙ c.expander_count-n.ensures.0),
    )

pub returns-in-Ended : goal.returns-in-Ended
returns-in-Ended c =
    let a = c.args in
    let n : ℕ = c.expander_count-n.result in
    let e = sym c.in-Ended.is ∙ c.take_step.ensures in
    rw c.ended.ensures
    (walk-stop (domain_in a.d.now.rows.now) (counted (entries a.words.now a.bits.now)) a.s n c.loop-k.k c.loop-k.i.0 c.loop-k.q.0 c.loop-k.passed a.passed.now
    c.loop-k.invariant.2 c.loop-k.invariant.1 e (omega arith) (omega arith))

pub loop-k-preserved : goal.loop-k-preserved
loop-k-preserved c =
    let a = c.args in
    let d : Domain = domain_in a.d.now.rows.now in
    let n : ℕ = c.expander_count-n.result in
    let e = sym c.in-Onward.is ∙ c.take_step.ensures in (
      simp length-set c.loop-k.invariant.0,
      kept c.loop-k.k c.loop-k.i.0 c.loop-k.passed a.passed.now c.loop-k.invariant.1 (omega arith),
      walk-go d (counted (entries a.words.now a.bits.now)) a.s n c.loop-k.k c.loop-k.i.0 c.loop-k.q.0 c.loop-k.passed a.passed.now c.loop-k.invariant.2 c.loop-k.invariant.1
          e (omega arith) (omega arith),
    )

pub returns : goal.returns
returns c =
    let a = c.args in
    let n : ℕ = c.expander_count-n.result in
    rw c.ended-2.ensures
    (walk_end (domain_in a.d.now.rows.now) (counted (entries a.words.now a.bits.now)) a.s n c.loop-k.k c.loop-k.i.0 c.loop-k.q.0 c.loop-k.passed a.passed.now
    c.loop-k.invariant.2 c.loop-k.invariant.1 (omega arith) (omega arith))
