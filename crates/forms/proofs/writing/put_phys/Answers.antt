-- put_phys meets its contract: the words of the phys that are left, stored from here on, are those of all phys stored from the first place on.
use mathlib.Core.Path.{◌∙◌, ap}
use lib.ListN.{length-set}
use Rattle.files.specs.Domain.{expander_at, address_of}
use Rattle.files.specs.Rows.{domain_in}
use Rattle.forms.proofs.FormWords.{phys-go, phys-end}
use native.Mathlib.Omega.{arith}
use Rattle.forms.proofs.writing.put_phys.Goals as goal

pub loop-p-preserved : goal.loop-p-preserved
loop-p-preserved c =
    let at-args = c.args in
    (simp length-set c.loop-p.invariant.0, (omega arith, phys-go (domain_in at-args.rows.now) (expander_at (domain_in at-args.rows.now) at-args.i.0).phys c.loop-p.p c.loop-p.words c.loop-p.to _ _ (omega (arith, c.phy_count-n.ensures.0)) (c.phy_address.ensures ∙ ap address_of c.phy_at.ensures) c.form_phy.ensures ∙ c.loop-p.invariant.1.1))

pub returns : goal.returns
returns c =
    let at-args = c.args in
    (phys-end (domain_in at-args.rows.now) _ c.loop-p.p c.loop-p.words c.loop-p.to (omega (arith, c.phy_count-n.ensures.0)) ∙ c.loop-p.invariant.1.1, omega (arith, c.phy_count-n.ensures.0))
