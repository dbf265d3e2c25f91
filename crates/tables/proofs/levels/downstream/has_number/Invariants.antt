use mathlib.Core.Bool.{true, cond}
use mathlib.Core.Path.{◌≡◌}
use lib.ListN.{drop}
use Rattle.files.specs.Lists.{is_in}
use Rattle.tables.proofs.levels.downstream.has_number.Given as goal

abbrev pub invariant-loop-i : goal.invariant-loop-i
invariant-loop-i l = cond l.found true (is_in l.j.0 (drop l.i l.l)) ≡ is_in l.j.0 l.l
