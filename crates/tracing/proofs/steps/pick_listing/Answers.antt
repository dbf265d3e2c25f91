-- pick_listing meets its contract. The loop's invariant: none of the first p phys lists the address, and `at` is where the stretch of phy p starts.
use Prim.Native.Nat.{ℕ}
use mathlib.Core.Path.{sym, ◌∙◌, ap}
use native.Mathlib.Omega.{arith}
use native.Mathlib.Nat.{sub-zero}
use Rattle.tables.specs.WiringDefinitions.{numbers}
use Rattle.tables.specs.WiringDefinitions.{Domain}
use Rattle.tables.specs.WiringDefinitions.{domain_in}
use Rattle.tables.specs.filling.Entries.{entries, counted}
use Rattle.tracing.specs.Steps.{pick, listing}
use Rattle.tracing.proofs.StretchOffsets.{phys-none, phys-next, offset-is}
use Rattle.tracing.proofs.PhyPicks.{pick-stop, pick-go, pick_end}
use Rattle.tracing.proofs.steps.pick_listing.Goals as goal

pub loop-p-init : goal.loop-p-init
loop-p-init c =
    let a = c.args in
    let d : Domain = domain_in a.rows.now in
    let z = phys-none d a.i.0 in (
      omega arith,
      omega arith,
      ap (λ (m : ℕ). pick (listing d (counted (entries a.words.now a.bits.now)) a.i.0 a.s) (numbers 0 m)) (sub-zero c.phy_count-n.result ∙ c.phy_count-n.ensures.0),
    )

pub is_listing-requires : goal.is_listing-requires
is_listing-requires c =
    let a = c.args in
    c.loop-p.invariant.1 ∙ sym (offset-is (domain_in a.rows.now) a.i.0 c.loop-p.p (omega arith))

pub returns-then-is_listing : goal.returns-then-is_listing
returns-then-is_listing c =
    let a = c.args in
    let n : ℕ = c.phy_count-n.result in
    pick-stop (listing (domain_in a.rows.now) (counted (entries a.words.now a.bits.now)) a.i.0 a.s) n c.loop-p.p c.loop-p.invariant.2
    (sym c.is_listing.ensures ∙ c.if-is_listing.true) (omega arith)

pub loop-p-preserved : goal.loop-p-preserved
loop-p-preserved c =
    let a = c.args in
    let d : Domain = domain_in a.rows.now in
    let n : ℕ = c.phy_count-n.result in
    let z = phys-next d a.i.0 c.loop-p.p in (
      omega arith,
      omega arith,
      pick-go (listing d (counted (entries a.words.now a.bits.now)) a.i.0 a.s) n c.loop-p.p c.loop-p.invariant.2
          (sym c.is_listing.ensures ∙ c.if-is_listing.false) (omega arith),
    )

pub returns : goal.returns
returns c =
    let a = c.args in
    let n : ℕ = c.phy_count-n.result in
    pick_end (listing (domain_in a.rows.now) (counted (entries a.words.now a.bits.now)) a.i.0 a.s) n c.loop-p.p c.loop-p.invariant.2 (omega arith)
