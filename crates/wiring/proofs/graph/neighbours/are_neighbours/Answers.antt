-- are_neighbours meets its contract: the set of one has the number of the first expander with the address of the other.
use mathlib.Core.Path.{◌∙◌}
use Rattle.wiring.specs.graph.Neighbours.{neighbours}
use Rattle.files.proofs.RowsAsDomain.{domain-few}
use Rattle.wiring.proofs.graph.CableSets.{first-low, leads-cabled}
use native.Mathlib.Omega.{arith}
use Rattle.wiring.proofs.graph.neighbours.are_neighbours.Goals as goal

pub overflow_cast-d : goal.overflow_cast-d
overflow_cast-d c =
    let a = c.args in
    let pre = c.requires in
    omega (arith, first-low _ _ _ (domain-few a.d.now.rows.now) pre.0 a.j.0 pre.1.1)

pub has-requires : goal.has-requires
has-requires c =
    let a = c.args in
    let pre = c.requires in
    first-low _ _ _ (domain-few a.d.now.rows.now) pre.0 a.j.0 pre.1.1

pub overflow_cast-d-2 : goal.overflow_cast-d-2
overflow_cast-d-2 c =
    omega (arith, first-low _ _ _ (domain-few c.args.d.now.rows.now) c.requires.0 c.args.i.0 c.requires.1.0)

pub has-requires-2 : goal.has-requires-2
has-requires-2 c =
    first-low _ _ _ (domain-few c.args.d.now.rows.now) c.requires.0 c.args.i.0 c.requires.1.0

pub returns : goal.returns
unfolding neighbours
returns c =
    let a = c.args in
    let p = c.requires in
    let few = domain-few a.d.now.rows.now in
    rw (
      c.has.ensures ∙ leads-cabled _ _ _ few p.0 a.i.0 a.j.0 p.1.0 p.1.1,
      c.has-2.ensures ∙ leads-cabled _ _ _ few p.0 a.j.0 a.i.0 p.1.1 p.1.0,
    )
