use Prim.Native.Nat.{◌+◌, ◌*◌, ◌≤◌}
use mathlib.Core.Path.{◌≡◌}
use lib.ListN.{drop}
use lib.Seq.{sets}
use Rattle.files.specs.Domain.{expander_at}
use Rattle.files.specs.Rows.{domain_in}
use Rattle.frames.specs.Bits.{bits_of}
use Rattle.cards.specs.Card.{phys_bits, phys_size, most_phy_size}
use Rattle.cards.proofs.card_writing.put_phys.Given as goal

abbrev pub invariant-loop-p : goal.invariant-loop-p
invariant-loop-p l =
    (l.next ≤ l.fn.at + most_phy_size * l.p) × ((l.next + phys_size (drop l.p (expander_at (domain_in l.rows) l.i.0).phys) ≡ l.fn.at + phys_size (expander_at (domain_in l.rows) l.i.0).phys)
    × (sets (bits_of l.card) l.next (phys_bits (drop l.p (expander_at (domain_in l.rows) l.i.0).phys)) ≡ sets (bits_of l.initial.card) l.fn.at (phys_bits (expander_at (domain_in l.rows) l.i.0).phys)))
