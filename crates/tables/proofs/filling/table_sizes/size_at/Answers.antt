-- size_at is `size`: what size_of says of the phy.
use mathlib.Core.Path.{sym, ◌∙◌, ap}
use Rattle.files.specs.Domain.{is_table}
use Rattle.files.specs.Rows.{domain_in}
use Rattle.tables.proofs.filling.TablesPut.{size-by}
use Rattle.tables.proofs.filling.table_sizes.size_at.Goals as goal

pub returns : goal.returns
returns c =
    let a = c.args in
    let z = c.size_of.ensures in
    (z.0 ∙ sym (size-by (domain_in a.rows.now) a.i.0 a.p.0 (ap is_table (sym c.phy_at.ensures))), z.1)
