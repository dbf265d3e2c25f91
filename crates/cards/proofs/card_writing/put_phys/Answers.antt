-- put_phys puts phy after phy; its loop's invariant: the bits with those of the phys to come put behind are all of them put.
use native.Mathlib.Omega.{arith}
use mathlib.Core.Path.{◌≡◌, ◌∙◌, ap}
use mathlib.Core.List.{List}
use lib.Seq.{sets}
use Rattle.files.specs.declared.Phy.{Phy}
use Rattle.files.specs.Domain.{expander_at, phy_at}
use Rattle.files.specs.Rows.{domain_in}
use Rattle.frames.specs.Bits.{bits_of}
use Rattle.cards.specs.Card.{phy_bits, phy_size}
use Rattle.cards.proofs.CardPuts.{sizes-next, sizes-none, phys-turn, phys-end}
use Rattle.cards.proofs.card_writing.put_phys.Goals as goal

pub loop-p-preserved : goal.loop-p-preserved
loop-p-preserved c =
    let at-args = c.args in
    let φs : List Phy = (expander_at (domain_in at-args.rows.now) at-args.i.0).phys in
    let φ : Phy = phy_at (domain_in at-args.rows.now) at-args.i.0 c.loop-p.p in
    let e = sizes-next φs c.loop-p.p (omega arith) in
    let f : c.phy_size-next.result ≡ phy_size φ = c.phy_size-next.ensures.0 ∙ ap phy_size c.phy_at-f.ensures in
    let w : bits_of c.put_phy.new.card ≡ sets (bits_of c.loop-p.card) c.loop-p.next (phy_bits φ) = c.put_phy.ensures ∙ ap (λ (ψ : Phy). sets (bits_of c.loop-p.card) c.loop-p.next (phy_bits ψ)) c.phy_at-f.ensures in
    let t = phys-turn φs c.loop-p.p c.loop-p.next (bits_of c.loop-p.card) _ _ (omega arith) c.loop-p.invariant.1.1 w in
    (omega arith, (omega arith, rw f t))

pub returns : goal.returns
returns c =
    let φs : List Phy = (expander_at (domain_in c.args.rows.now) c.args.i.0).phys in
    let e = sizes-none φs c.loop-p.p (omega arith) in
    (phys-end φs c.loop-p.p c.loop-p.next _ _ (omega arith) c.loop-p.invariant.1.1, (omega arith, omega arith))
