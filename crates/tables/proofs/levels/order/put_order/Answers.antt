-- put_order meets its contract. The loop's invariant: the numbers so far are a queue of which the first k were followed.
use mathlib.Core.Path.{refl, ◌∙◌}
use Rattle.files.specs.Domain.{Domain}
use Rattle.files.specs.Rows.{domain_in}
use Rattle.files.proofs.RowsAsDomain.{domain-few}
use Rattle.tables.proofs.levels.LevelOrders.{queue-start, queue-go, queue-stop, queue-end, order-by}
use Rattle.tables.proofs.levels.DownstreamLists.{first-few}
use Rattle.tables.proofs.lists.GrowingLists.{grown-length}
use native.Mathlib.Omega.{arith}
use Rattle.tables.proofs.levels.order.put_order.Goals as goal

pub loop-k-init : goal.loop-k-init
loop-k-init c =
    let a = c.args in
    let g = c.first_level-m.ensures in
    (refl, queue-start (domain_in a.d.now.attached.rows.now) _ _ _ (omega (arith, g.same, g.fits)) (omega (arith, grown-length g, first-few (domain_in a.d.now.attached.rows.now) a.f)))

pub returns-then-k-m : goal.returns-then-k-m
returns-then-k-m c =
    let g = c.first_level-m.ensures in
    let a = c.args in
    let d : Domain = domain_in a.d.now.attached.rows.now in
    record { same = c.loop-k.invariant.0 ∙ g.same; fits = omega (arith, c.loop-k.invariant.0, g.same, c.loop-k.invariant.1.fits); whole = order-by d a.f (queue-stop d c.loop-k.invariant.1 (omega arith)) c.expander_count-turns.ensures.0 g.whole }

pub loop-k-preserved : goal.loop-k-preserved
loop-k-preserved c =
    let a = c.args in
    let g = c.append_downstream-m.ensures in
    (g.same ∙ c.loop-k.invariant.0, queue-go (domain_in a.d.now.attached.rows.now) c.loop-k.invariant.1 g (domain-few a.d.now.attached.rows.now) (omega arith) (omega arith))

pub returns : goal.returns
returns c =
    let g = c.first_level-m.ensures in
    let a = c.args in
    let d : Domain = domain_in a.d.now.attached.rows.now in
    record { same = c.loop-k.invariant.0 ∙ g.same; fits = omega (arith, c.loop-k.invariant.0, g.same, c.loop-k.invariant.1.fits); whole = order-by d a.f (queue-end d c.loop-k.invariant.1 (omega arith)) c.expander_count-turns.ensures.0 g.whole }
