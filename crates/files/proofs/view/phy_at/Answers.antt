-- phy_at meets its contract: below the number of phys, the two words of phy p hold phy p.
use mathlib.Core.Path.{sym, ◌∙◌}
use native.Mathlib.Omega.{arith}
use Rattle.files.proofs.RowsAsDomain.{no_phy, phy-held}
use Rattle.files.proofs.view.phy_at.Goals as goal

pub returns-then-p-phy_count : goal.returns-then-p-phy_count
returns-then-p-phy_count c = c.phy_in_row.ensures ∙ phy-held _ _ _ (omega arith)

pub returns : goal.returns
returns c = let a = c.args in sym (no_phy a.rows.now a.i.0 a.p.0 (omega arith))
