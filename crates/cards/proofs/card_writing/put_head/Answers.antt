-- put_head puts the four numbers one after the other.
use Prim.Native.Nat.{ℕ, ◌-◌}
use mathlib.Core.Path.{◌∙◌, ap}
use Rattle.files.specs.Domain.{Expander, expander_at}
use Rattle.files.specs.Rows.{domain_in}
use Rattle.cards.proofs.CardPuts.{head-put_as}
use Rattle.cards.proofs.card_writing.put_head.Goals as goal

pub returns : goal.returns
returns c =
    let at-args = c.args in
    let e : Expander = expander_at (domain_in at-args.rows.now) at-args.i.0 in
    head-put_as e at-args.at _ _ _ _ _ _ _ _ _ c.expander_address.ensures c.route_indexes.ensures c.configurable_bit.ensures
    (c.less_one.ensures ∙ ap (λ (m : ℕ). m - 1) c.phy_count.ensures.0)
    c.put_bits.ensures c.put_bits-2.ensures c.put_bits-3.ensures c.put_bits-4.ensures
