-- form_size meets its contract: the words counted so far, and those of the expanders that are left.
use mathlib.Core.Path.{ap}
use lib.ListN.{length}
use Rattle.files.specs.Rows.{domain_in}
use Rattle.forms.proofs.FormWords.{size-next, size_none, form-start}
use native.Mathlib.Omega.{arith}
use Rattle.forms.proofs.writing.form_size.Goals as goal

pub loop-i-init : goal.loop-i-init
loop-i-init c = (omega arith, omega (arith, ap length (form-start (domain_in c.args.rows.now))))

pub loop-i-preserved : goal.loop-i-preserved
loop-i-preserved c = (omega (arith, c.phy_count.ensures.1), omega (arith, c.phy_count.ensures.0, size-next (domain_in c.args.rows.now) (domain_in c.args.rows.now) c.loop-i.i (omega (arith, c.expander_count-n.ensures.0))))

pub returns : goal.returns
returns c = (omega (arith, size_none (domain_in c.args.rows.now) (domain_in c.args.rows.now) c.loop-i.i (omega (arith, c.expander_count-n.ensures.0))), omega (arith, c.expander_count-n.ensures.1))
