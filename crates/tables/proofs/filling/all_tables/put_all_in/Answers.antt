-- put_all_in meets its contract: the words so far, with the tables of the expanders from i on put in, are the words after the call.
use mathlib.Core.List.{List}
use mathlib.Core.Path.{◌∙◌}
use native.Mathlib.Omega.{arith}
use lib.ListN.{drop}
use Rattle.files.specs.Domain.{Domain}
use Rattle.wiring.specs.phys.PhyCauses.{Place, places_from}
use Rattle.files.specs.Rows.{domain_in}
use Rattle.tables.specs.lists.GrowingLists.{places_at}
use Rattle.tables.proofs.filling.TablesPut.{from_next, from_last, from-sizes, put_go, put-long, put-end, put-all}
use Rattle.tables.proofs.levels.LinkPhys.{attached-known}
use Rattle.tables.proofs.filling.all_tables.put_all_in.Goals as goal

pub invariant_of-attached : goal.invariant_of-attached
invariant_of-attached c = record { attached = attached-known _ _ c.args.d.now.indexed.firsts }

pub put_tables-to-requires : goal.put_tables-to-requires
put_tables-to-requires c =
    let at_pre = c.requires in
    let at-args = c.args in
    let f = at_pre.1 in
    let s = from-sizes (domain_in at-args.d.now.rows.now) c.loop-i.i (omega arith) in
    (omega (arith, at_pre.0.levels.order, c.loop-i.invariant.0), (f.0, omega arith))

pub loop-i-preserved : goal.loop-i-preserved
loop-i-preserved c =
    let at-args = c.args in
    let d : Domain = domain_in at-args.d.now.rows.now in
    let e = from_next d c.loop-i.i (omega arith) in
    let u = c.put_tables-to.ensures in
    let rest : List Place = places_from c.loop-i.i (drop c.loop-i.i d) in
    let v = c.loop-i.invariant.1 in
    let s = put-long d c.loop-i.to rest (places_at d c.loop-i.i) _ u.next e ∙ v.1.0 in
    let g = put_go d c.loop-i.words c.loop-i.to rest v.1.1 (places_at d c.loop-i.i) _ u e in
    (c.put_tables-to.auto.order ∙ c.loop-i.invariant.0, (u.same ∙ v.0, (s, g)))

pub returns : goal.returns
returns c =
    let at-args = c.args in
    let at_pre = c.requires in
    let d : Domain = domain_in at-args.d.now.rows.now in
    put-end d c.loop-i.words c.loop-i.to _ c.loop-i.invariant.1.1.1 (from_last d c.loop-i.i (omega arith)) ∙ put-all d at-args.words.now (omega (arith, at_pre.1.1))
