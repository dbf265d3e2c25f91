use Prim.Native.Nat.{◌+◌, ◌-◌, ◌*◌, ◌≤◌}
use mathlib.Core.Path.{◌≡◌}
use mathlib.Core.Bool.{cond, ◌&&◌}
use lib.ListN.{drop}
use lib.Seq.{sets}
use lib.Dec.{eqb}
use Rattle.frames.specs.Bits.{bits_of}
use Rattle.files.specs.Rows.{phy_words}
use Rattle.cards.specs.Card.{phys_size, phys_on, most_phy_size}
use Rattle.cards.specs.CardRead.{results_fine}
use Rattle.cards.specs.CardWalks.{ranged_count}
use Rattle.cards.proofs.card_rows.put_phys.Given as goal

abbrev pub invariant-loop-p : goal.invariant-loop-p
invariant-loop-p l =
    ((l.next ≤ l.fn.at + most_phy_size * l.p) × (l.ranged ≤ l.p))
    × ((l.next + phys_size (phys_on (l.fn.n - l.p) (drop l.next (bits_of l.card))) ≡ l.fn.at + phys_size (phys_on l.fn.n (drop l.fn.at (bits_of l.card))))
    × ((sets l.row (2 + 2 * l.p) (phy_words (phys_on (l.fn.n - l.p) (drop l.next (bits_of l.card)))) ≡ sets l.initial.row 2 (phy_words (phys_on l.fn.n (drop l.fn.at (bits_of l.card)))))
    × (((l.fine && results_fine (phys_on (l.fn.n - l.p) (drop l.next (bits_of l.card)))) ≡ results_fine (phys_on l.fn.n (drop l.fn.at (bits_of l.card))))
    × (cond (eqb l.ranged l.p) (l.p + ranged_count (phys_on (l.fn.n - l.p) (drop l.next (bits_of l.card)))) l.ranged ≡ ranged_count (phys_on l.fn.n (drop l.fn.at (bits_of l.card)))))))
