-- put_card puts the header, the expanders and the zero bits that fill the last byte.
use native.Mathlib.Omega.{arith}
use Prim.Native.Nat.{ℕ, ◌-◌}
use mathlib.Core.Path.{◌≡◌, ◌∙◌, ap}
use lib.ListN.{length}
use Rattle.files.specs.Domain.{Domain}
use Rattle.files.specs.Rows.{domain_in}
use Rattle.cards.specs.Card.{card_size}
use Rattle.cards.proofs.CardPuts.{card-put}
use Rattle.cards.proofs.card_writing.put_card.Goals as goal

pub returns : goal.returns
returns c =
    let at-args = c.args in
    let at_pre = c.requires in
    let d : Domain = domain_in at-args.rows.now in
    let at : c.put_expanders-at.result ≡ card_size d = c.put_expanders-at.ensures.1.0 in
    let n : c.less_one.result ≡ length d - 1 = c.less_one.ensures ∙ ap (λ (m : ℕ). m - 1) c.expander_count.ensures.0 in
    card-put d at-args.card.now _ _ _ _ _ _ _ _ (λ j. (c.slice_known-1.given j).fits) (λ j. (c.slice_known-6-1.given j).fits) at_pre n at (omega arith)
    c.put_bits.ensures c.put_bits-2.ensures c.put_bits-3.ensures c.put_expanders-at.ensures.0 c.put_bits-4.ensures
