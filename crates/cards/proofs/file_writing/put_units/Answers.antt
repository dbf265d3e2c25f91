-- put_units writes unit after unit; its loop's invariant: the file with the units to come stored behind is that with all of them.
use native.Mathlib.Omega.{arith}
use Rattle.files.specs.Domain.{Domain}
use Rattle.files.specs.Rows.{domain_in}
use Rattle.cards.proofs.FilePuts.{length-next, units-go, units-end}
use Rattle.cards.proofs.file_writing.put_units.Goals as goal

pub put_head-requires : goal.put_head-requires
put_head-requires c =
    let t = length-next (domain_in c.args.rows.now) c.loop-i.i (omega arith) in
    (omega arith, omega arith)

pub put_frames-requires : goal.put_frames-requires
put_frames-requires c =
    let t = length-next (domain_in c.args.rows.now) c.loop-i.i (omega arith) in
    (omega arith, omega arith)

pub loop-i-preserved : goal.loop-i-preserved
loop-i-preserved c =
    let d : Domain = domain_in c.args.rows.now in
    let t = length-next d c.loop-i.i (omega arith) in
    let m = c.phy_count.ensures.0 in
    (omega (arith, c.phy_count.ensures.1), (omega arith, units-go d c.loop-i.i c.loop-i.to c.loop-i.file _ _ _ _ (omega arith) m c.loop-i.invariant.1.1 c.put_head.ensures c.put_frames.ensures))

pub returns : goal.returns
returns c = units-end (domain_in c.args.rows.now) c.loop-i.i c.loop-i.to c.loop-i.file _ (omega arith) c.loop-i.invariant.1.1
