-- count_at meets its contract. The loop's invariant: `sum` counts the table phys among the first p phys.
use Prim.Native.Nat.{ℕ}
use mathlib.Core.Path.{ap}
use native.Mathlib.Omega.{arith}
use lib.ListN.{length}
use Rattle.files.specs.Domain.{Domain}
use Rattle.wiring.specs.phys.PhyCauses.{phy_places}
use Rattle.files.specs.Rows.{domain_in}
use Rattle.tables.specs.lists.GrowingLists.{with_tables}
use Rattle.tables.proofs.filling.TablesPut.{byte_le, phys-last, phys-count, count_none, count_by}
use Rattle.tables.proofs.filling.all_tables.count_at.Goals as goal

pub loop-p-preserved : goal.loop-p-preserved
loop-p-preserved c =
    let a = c.args in
    let d : Domain = domain_in a.rows.now in
    let n : ℕ = c.phy_count-n.result in
    omega (
      arith,
      phys-count d a.i.0 n c.loop-p.p (omega arith),
      count_by d a.i.0 c.loop-p.p c.is_table.ensures,
      byte_le c.is_table.result,
    )

pub returns : goal.returns
returns c =
    let a = c.args in
    let d : Domain = domain_in a.rows.now in
    let n : ℕ = c.phy_count-n.result in
    let e = ap (λ (k : ℕ). length (with_tables d (phy_places a.i.0 0 k))) c.phy_count-n.ensures.0 in
    omega (arith, count_none d _ (phys-last a.i.0 n c.loop-p.p (omega arith)))
