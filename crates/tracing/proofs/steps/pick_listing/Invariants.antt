use Prim.Native.Nat.{◌+◌, ◌-◌, ◌*◌, ◌≤◌}
use mathlib.Core.Path.{◌≡◌}
use Rattle.tables.specs.WiringDefinitions.{numbers}
use Rattle.tables.specs.WiringDefinitions.{domain_in}
use Rattle.tables.specs.WiringDefinitions.{phy_places}
use Rattle.tables.specs.filling.Tables.{sizes}
use Rattle.tables.specs.filling.Entries.{entries, counted}
use Rattle.tracing.specs.Steps.{pick, listing}
use Rattle.tracing.specs.Answers.{listing_pick, words_before}
use Rattle.tracing.proofs.steps.pick_listing.Given as goal

abbrev pub invariant-loop-p : goal.invariant-loop-p
invariant-loop-p l =
    (l.at ≤ 8388608 * l.i.0 + 65536 * l.p)
    × (l.at ≡ words_before (domain_in l.rows) l.i.0 + sizes (domain_in l.rows) (phy_places l.i.0 0 l.p))
    × (pick (listing (domain_in l.rows) (counted (entries l.words l.bits)) l.i.0 l.s) (numbers l.p (l.n - l.p)) ≡ listing_pick (domain_in l.rows) (counted (entries l.words l.bits)) l.i.0 l.s)
