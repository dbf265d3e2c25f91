use Prim.Native.Nat.{◌+◌}
use mathlib.Core.Path.{◌≡◌}
use lib.ListN.{drop}
use Rattle.files.specs.Domain.{number_of}
use Rattle.files.specs.Rows.{domain_in}
use Rattle.wiring.proofs.index.addresses.number_of.Given as goal

abbrev pub invariant-loop-i : goal.invariant-loop-i
invariant-loop-i l = l.i + number_of (drop l.i (domain_in l.rows)) l.s ≡ number_of (domain_in l.rows) l.s
