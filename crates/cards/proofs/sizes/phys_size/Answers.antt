-- phys_size adds the sizes of phys; its loop's invariant: the sum, with the sizes of the phys to come, is that of all.
use native.Mathlib.Omega.{arith}
use mathlib.Core.Path.{◌≡◌, ◌∙◌, ap}
use mathlib.Core.List.{List}
use Rattle.files.specs.declared.Phy.{Phy}
use Rattle.files.specs.Domain.{expander_at, phy_at}
use Rattle.files.specs.Rows.{domain_in}
use Rattle.cards.specs.Card.{phy_size}
use Rattle.cards.proofs.CardPuts.{sizes-next, sizes-none}
use Rattle.cards.proofs.sizes.phys_size.Goals as goal

pub loop-p-preserved : goal.loop-p-preserved
loop-p-preserved c =
    let at-args = c.args in
    let φs : List Phy = (expander_at (domain_in at-args.rows.now) at-args.i.0).phys in
    let e = sizes-next φs c.loop-p.p (omega arith) in
    let f : c.phy_size-sum.result ≡ phy_size (phy_at (domain_in at-args.rows.now) at-args.i.0 c.loop-p.p) = c.phy_size-sum.ensures.0 ∙ ap phy_size c.phy_at.ensures in
    (omega arith, omega arith)

pub returns : goal.returns
returns c =
    let e = sizes-none (expander_at (domain_in c.args.rows.now) c.args.i.0).phys c.loop-p.p (omega arith) in
    (omega arith, omega arith)
