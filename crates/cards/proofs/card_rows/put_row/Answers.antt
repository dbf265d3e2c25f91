-- put_row clears the row, stores its two words and its phys.
use Prim.Native.Nat.{ℕ}
use mathlib.Core.Path.{refl, ◌∙◌, ap}
use lib.ListN.{replicate}
use Rattle.frames.specs.Bits.{bits_of}
use Rattle.cards.proofs.RowPuts.{row_made}
use Rattle.cards.proofs.card_rows.put_row.Goals as goal

pub returns : goal.returns
returns c =
    let a = c.args in
    let p = c.requires in
    row_made (bits_of a.card.now) a.at c.clear.new.row _ _ a.u _ c.put_phys.result p.1.0 p.1.1 c.head_word-w.ensures (c.clear.ensures ∙ ap (λ (k : ℕ). replicate k 0) p.0.1) refl c.put_phys.ensures
