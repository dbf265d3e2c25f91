-- join meets its contract: a first file that states more than 64 expanders is refused as its first two bytes are, and each room is chosen for so many expanders. The measure is the number of bytes of the first file.
use mathlib.Core.Path.{sym}
use native.Mathlib.Omega.{arith}
use lib.ListN.{length}
use lib.Seq.{length-take-le}
use Rattle.benches.proofs.JoinOutcomes.{join-cut}
use Rattle.benches.proofs.calls.+join.Goals as goal

pub slice_bounds-join-end : goal.slice_bounds-join-end
slice_bounds-join-end t c =
    let at-args = c.args in
    sym (length-take-le 2 at-args.first.now (omega (arith, c.if-first-gt2.true)))

pub join-requires : goal.join-requires
join-requires t c =
    let at_pre = c.requires in
    let at-args = c.args in
    (omega (arith, c.if-first-gt2.true, length-take-le 2 at-args.first.now (omega (arith, c.if-first-gt2.true))), tt)

pub returns-then-first-gt2 : goal.returns-then-first-gt2
returns-then-first-gt2 t c =
    let a = c.args in
    rw (join-cut a.setting a.first.now a.i.0 a.p.0 a.second.now a.j.0 a.q.0 (length a.out.now) c.if-first-gt2.true (omega (arith, c.stated_count-n.ensures, c.if-n-gt64.true))) at c.join.ensures
