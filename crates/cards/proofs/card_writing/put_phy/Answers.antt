-- put_phy puts a vacant phy's bit and result, or what put_present puts.
use mathlib.Core.Path.{sym, ◌∙◌, ap}
use lib.Seq.{sets}
use Rattle.files.specs.declared.Phy.{Phy}
use Rattle.frames.specs.Bits.{bits_of}
use Rattle.cards.specs.Card.{phy_bits}
use Rattle.cards.proofs.CardPuts.{vacant-put}
use Rattle.cards.proofs.card_writing.put_phy.Goals as goal

pub returns-in-Vacant : goal.returns-in-Vacant
returns-in-Vacant c =
    let at-args = c.args in
    vacant-put c.in-Vacant.result at-args.at _ _ _ c.put_bits.ensures c.put_bits-in-Vacant.ensures ∙ ap (λ (φ : Phy). sets (bits_of at-args.card.now) at-args.at (phy_bits φ)) (sym c.in-Vacant.is)
