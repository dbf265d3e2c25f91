-- pass_over goes on by the size of the phy's table.
use Prim.Native.Nat.{ℕ, ◌+◌}
use mathlib.Core.Path.{refl, sym, ◌∙◌, ap}
use native.Mathlib.Omega.{arith}
use Rattle.files.specs.Domain.{is_table}
use Rattle.files.specs.Rows.{domain_in}
use Rattle.tables.proofs.filling.TablesPut.{size-by}
use Rattle.tables.proofs.events.refilling.pass_over.Goals as goal

pub overflow_add-result : goal.overflow_add-result
overflow_add-result c =
    let a = c.args in
    let pre = c.requires in
    omega (arith, c.size_of.ensures.0, size-by (domain_in a.rows.now) a.i.0 a.p.0 (ap is_table (sym pre.0)), pre.1)

pub returns : goal.returns
returns c =
    let a = c.args in
    let z = c.size_of.ensures in
    let e = size-by (domain_in a.rows.now) a.i.0 a.p.0 (ap is_table (sym c.requires.0)) in
    record { next = ap (λ (n : ℕ). a.s.at + n) (z.0 ∙ sym e); tables = refl; words = refl; few = omega (arith, e, z.0, z.1) }
