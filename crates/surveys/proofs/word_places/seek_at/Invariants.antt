use Prim.Native.Nat.{◌-◌}
use mathlib.Core.Path.{◌≡◌}
use mathlib.Core.List.{List, ◌++◌}
use Rattle.wiring.specs.phys.PhyCauses.{Place, phy_places}
use Rattle.files.specs.Rows.{domain_in}
use Rattle.surveys.specs.WordEntries.{word_in}
use Rattle.surveys.proofs.word_places.seek_at.Given as goal

abbrev pub invariant-loop-p : goal.invariant-loop-p
invariant-loop-p l = (after : List Place) → word_in (domain_in l.rows) (phy_places l.i.0 l.p (l.n - l.p) ++ after) l.left ≡ word_in (domain_in l.rows) (phy_places l.i.0 0 l.n ++ after) l.fn.k
