-- drive_type meets its contract: the address is zero or not.
use mathlib.Core.Path.{refl}
use native.Mathlib.Omega.{arith}
use borrow.Author.Tests.{eq-eqb, ne_eqb}
use Rattle.events.proofs.writing.drive_type.Goals as goal

pub returns-then-a-gt0 : goal.returns-then-a-gt0
returns-then-a-gt0 c = (rw (ne_eqb c.args.a 0 (λ z. omega (arith, c.if-a-gt0.true))) refl, omega arith)

pub returns : goal.returns
returns c = (rw (eq-eqb c.args.a 0 (omega (arith, c.if-a-gt0.false))) refl, omega arith)
