-- are_right_phys meets its contract: the comparison from here on is the whole comparison.
use mathlib.Core.Path.{sym, ◌∙◌, ap, subst}
use Rattle.files.specs.Domain.{expander_at, address_of}
use Rattle.files.specs.Rows.{domain_in}
use Rattle.forms.specs.FormRows.{SmallPhy}
use borrow.Author.Tests.{not-true, not-false}
use Rattle.forms.proofs.WordsCompared.{rows-small, rights, phys-address, phys-field, phys-go, phys-end}
use native.Mathlib.Omega.{arith}
use Rattle.forms.proofs.comparing.are_right_phys.Goals as goal

pub returns-then-word_at-phy_address : goal.returns-then-word_at-phy_address
returns-then-word_at-phy_address c =
    let at-args = c.args in
    phys-address (domain_in at-args.rows.now) (expander_at (domain_in at-args.rows.now) at-args.i.0).phys c.loop-p.p c.loop-p.to at-args.ws.now c.loop-p.invariant.1 _ _ (omega (arith, c.phy_count-n.ensures.0)) c.word_at.ensures (c.phy_address.ensures ∙ ap address_of c.phy_at-f.ensures) c.if-word_at-phy_address.true

pub is_right_field-requires : goal.is_right_field-requires
is_right_field-requires c =
    let at-args = c.args in
    subst SmallPhy (sym c.phy_at-f.ensures) (rows-small at-args.rows.now at-args.i.0 c.loop-p.p)

pub returns-then-not-is_right_field : goal.returns-then-not-is_right_field
returns-then-not-is_right_field c =
    let at-args = c.args in
    phys-field (domain_in at-args.rows.now) (expander_at (domain_in at-args.rows.now) at-args.i.0).phys c.loop-p.p c.loop-p.to at-args.ws.now c.loop-p.invariant.1 _ _ (omega (arith, c.phy_count-n.ensures.0)) c.word_at.ensures (c.phy_address.ensures ∙ ap address_of c.phy_at-f.ensures) c.if-word_at-phy_address.false (rights _ _ _ _ _ _ c.phy_at-f.ensures c.word_at-in-loop-p.ensures c.is_right_field.ensures (not-true _ c.if-not-is_right_field.true-raw))

pub loop-p-preserved : goal.loop-p-preserved
loop-p-preserved c =
    let at-args = c.args in
    (omega arith, phys-go (domain_in at-args.rows.now) (expander_at (domain_in at-args.rows.now) at-args.i.0).phys c.loop-p.p c.loop-p.to at-args.ws.now c.loop-p.invariant.1 _ _ (omega (arith, c.phy_count-n.ensures.0)) c.word_at.ensures (c.phy_address.ensures ∙ ap address_of c.phy_at-f.ensures) c.if-word_at-phy_address.false (rights _ _ _ _ _ _ c.phy_at-f.ensures c.word_at-in-loop-p.ensures c.is_right_field.ensures (not-false _ c.if-not-is_right_field.false-raw)))

pub returns : goal.returns
returns c = phys-end (domain_in c.args.rows.now) _ c.loop-p.p c.loop-p.to c.args.ws.now c.loop-p.invariant.1 (omega (arith, c.phy_count-n.ensures.0))
