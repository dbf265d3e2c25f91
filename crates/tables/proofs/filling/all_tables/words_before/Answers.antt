-- words_before meets its contract. The loop's invariant: `sum` is the number of words of the tables of the first j expanders.
use mathlib.Core.Path.{refl}
use native.Mathlib.Omega.{arith}
use Rattle.files.specs.Domain.{Domain}
use Rattle.files.specs.Rows.{domain_in}
use Rattle.tables.proofs.filling.TablesPut.{before-none, before-next}
use Rattle.tables.proofs.filling.all_tables.words_before.Goals as goal

pub loop-j-init : goal.loop-j-init
loop-j-init c = omega (arith, before-none (domain_in c.args.rows.now))

pub loop-j-preserved : goal.loop-j-preserved
loop-j-preserved c =
    let d : Domain = domain_in c.args.rows.now in
    omega (arith, c.words_at-sum.ensures.1, c.words_at-sum.ensures.0, before-next d c.loop-j.j refl refl)
