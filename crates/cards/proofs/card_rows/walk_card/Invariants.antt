use Prim.Native.Nat.{◌+◌, ◌-◌, ◌*◌, ◌≤◌}
use lib.ListN.{drop}
use Rattle.frames.specs.Bits.{bits_of}
use Rattle.cards.specs.Card.{expanders_on, domain_on, head_size, most_phys_size}
use Rattle.cards.proofs.RowPuts.{Walking}
use Rattle.cards.proofs.card_rows.walk_card.Given as goal

abbrev pub invariant-loop-i : goal.invariant-loop-i
invariant-loop-i l =
    (l.at ≤ 16 + (head_size + most_phys_size) * l.i)
    × Walking l.most l.initial.rows (domain_on (bits_of l.card)) l.i l.at l.rows l.used l.fine l.check (expanders_on (l.fn.n - l.i) (drop l.at (bits_of l.card)))
