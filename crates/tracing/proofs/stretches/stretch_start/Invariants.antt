use Prim.Native.Nat.{◌+◌, ◌*◌, ◌≤◌}
use mathlib.Core.Path.{◌≡◌}
use Rattle.tables.specs.WiringDefinitions.{domain_in, phy_places}
use Rattle.tables.specs.filling.Tables.{sizes}
use Rattle.tracing.specs.Answers.{words_before}
use Rattle.tracing.proofs.stretches.stretch_start.Given as goal

abbrev pub invariant-loop-q : goal.invariant-loop-q
invariant-loop-q l =
    (l.at ≤ 8388608 * l.i.0 + 65536 * l.q)
    × (l.at ≡ words_before (domain_in l.rows) l.i.0 + sizes (domain_in l.rows) (phy_places l.i.0 0 l.q))
