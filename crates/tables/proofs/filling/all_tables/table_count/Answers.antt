-- table_count meets its contract. The loop's invariant: `sum` counts the tables of the first i expanders.
use mathlib.Core.Path.{◌∙◌}
use native.Mathlib.Omega.{arith}
use native.Mathlib.Nat.{zero-add}
use Rattle.files.specs.Domain.{Domain}
use Rattle.files.specs.Rows.{domain_in}
use Rattle.tables.proofs.filling.TablesPut.{from_last, from-count, count_none, count-all}
use Rattle.tables.proofs.filling.all_tables.table_count.Goals as goal

pub loop-i-init : goal.loop-i-init
loop-i-init c = (omega arith, zero-add _ ∙ count-all (domain_in c.args.rows.now))

pub loop-i-preserved : goal.loop-i-preserved
loop-i-preserved c =
    let d : Domain = domain_in c.args.rows.now in
    omega (arith, from-count d c.loop-i.i (omega arith))

pub returns : goal.returns
returns c =
    let d : Domain = domain_in c.args.rows.now in
    omega (arith, count_none d _ (from_last d c.loop-i.i (omega arith)))
