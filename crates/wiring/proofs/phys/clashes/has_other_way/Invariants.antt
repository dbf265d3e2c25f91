use Prim.Native.Nat.{ℕ, ◌≤◌, ◌<◌}
use mathlib.Core.Path.{◌≡◌}
use mathlib.Core.Bool.{false}
use Rattle.files.specs.Domain.{phy_at}
use Rattle.files.specs.Rows.{domain_in}
use Rattle.wiring.specs.phys.Clashes.{subtractive}
use Rattle.wiring.proofs.phys.clashes.has_other_way.Given as goal

abbrev pub invariant-loop-q : goal.invariant-loop-q
invariant-loop-q l = (r : ℕ) → l.q ≤ r → r < l.fn.p.0 → subtractive (phy_at (domain_in l.rows) l.i.0 r) ≡ false
