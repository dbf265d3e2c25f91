use Prim.Native.Nat.{◌+◌, ◌*◌, ◌≤◌}
use mathlib.Core.Path.{◌≡◌}
use lib.ListN.{drop}
use lib.Seq.{sets}
use Rattle.files.specs.Rows.{domain_in}
use Rattle.frames.specs.Bits.{bits_of}
use Rattle.cards.specs.Card.{expanders_bits, expanders_size, card_size, head_size, most_phys_size}
use Rattle.cards.proofs.card_writing.put_expanders.Given as goal

abbrev pub invariant-loop-i : goal.invariant-loop-i
invariant-loop-i l =
    (l.at ≤ 16 + (head_size + most_phys_size) * l.i) × ((l.at + expanders_size (drop l.i (domain_in l.rows)) ≡ card_size (domain_in l.rows))
    × (sets (bits_of l.card) l.at (expanders_bits (drop l.i (domain_in l.rows))) ≡ sets (bits_of l.initial.card) 16 (expanders_bits (domain_in l.rows))))
