-- phy_in_row meets its contract: it is made from the two words of phy p.
use mathlib.Core.Path.{◌∙◌, ap₂}
use Rattle.files.specs.Rows.{phy_in, phy_in_row}
use Rattle.files.proofs.view.phy_in_row.Goals as goal

pub returns : goal.returns
unfolding phy_in_row
returns c = c.phy_from.ensures ∙ ap₂ phy_in c.word_at.ensures c.word_at-2.ensures
