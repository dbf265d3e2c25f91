use Prim.Native.Nat.{◌+◌, ◌*◌, ◌≤◌}
use mathlib.Core.Path.{◌≡◌}
use lib.ListN.{drop}
use Rattle.files.specs.Domain.{expander_at}
use Rattle.files.specs.Rows.{domain_in}
use Rattle.cards.specs.Card.{phys_size, most_phy_size}
use Rattle.cards.proofs.sizes.phys_size.Given as goal

abbrev pub invariant-loop-p : goal.invariant-loop-p
invariant-loop-p l =
    (l.sum + phys_size (drop l.p (expander_at (domain_in l.rows) l.i.0).phys) ≡ phys_size (expander_at (domain_in l.rows) l.i.0).phys) × (l.sum ≤ most_phy_size * l.p)
