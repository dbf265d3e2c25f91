-- has_bad_phy meets its contract: a search from here on finds what the whole search finds.
use mathlib.Core.Path.{sym, ◌∙◌, ap}
use Rattle.files.specs.declared.Phy.TheVariants.{Vacant}
use Rattle.forms.specs.FormCalls.{bad_phy}
use Rattle.wiring.proofs.phys.PlaceSearches.{any-stop, any-go, any-end}
use native.Mathlib.Omega.{arith}
use Rattle.forms.proofs.testing.has_bad_phy.Goals as goal

pub returns-then-is_bad_phy : goal.returns-then-is_bad_phy
returns-then-is_bad_phy c = any-stop bad_phy (Vacant 0) _ c.loop-p.p c.loop-p.invariant (omega (arith, c.phy_count-n.ensures.0)) (sym (ap bad_phy c.phy_at.ensures) ∙ sym c.is_bad_phy.ensures ∙ c.if-is_bad_phy.true)

pub loop-p-preserved : goal.loop-p-preserved
loop-p-preserved c = any-go bad_phy (Vacant 0) _ c.loop-p.p c.loop-p.invariant (sym (ap bad_phy c.phy_at.ensures) ∙ sym c.is_bad_phy.ensures ∙ c.if-is_bad_phy.false)

pub returns : goal.returns
returns c = any-end bad_phy (Vacant 0) _ c.loop-p.p c.loop-p.invariant (omega (arith, c.phy_count-n.ensures.0))
