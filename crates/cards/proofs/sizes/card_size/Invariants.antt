use Prim.Native.Nat.{◌+◌, ◌*◌, ◌≤◌}
use mathlib.Core.Path.{◌≡◌}
use lib.ListN.{drop}
use Rattle.files.specs.Rows.{domain_in}
use Rattle.cards.specs.Card.{expanders_size, card_size, head_size, most_phys_size}
use Rattle.cards.proofs.sizes.card_size.Given as goal

abbrev pub invariant-loop-i : goal.invariant-loop-i
invariant-loop-i l =
    (l.sum + expanders_size (drop l.i (domain_in l.rows)) ≡ card_size (domain_in l.rows)) × (l.sum ≤ 16 + (head_size + most_phys_size) * l.i)
