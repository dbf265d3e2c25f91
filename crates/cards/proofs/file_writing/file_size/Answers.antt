-- file_size adds the sizes of units; its loop's invariant: the sum, with the units to come, is that of the file.
use native.Mathlib.Omega.{arith}
use Rattle.files.specs.Rows.{domain_in}
use Rattle.cards.proofs.FilePuts.{length-next, length_none, length-file}
use Rattle.cards.proofs.file_writing.file_size.Goals as goal

pub loop-i-preserved : goal.loop-i-preserved
loop-i-preserved c =
    let t = length-next (domain_in c.args.rows.now) c.loop-i.i (omega arith) in
    let m = c.phy_count.ensures.0 in
    (omega (arith, c.phy_count.ensures.1), omega arith)

pub returns : goal.returns
returns c =
    let t = length_none (domain_in c.args.rows.now) c.loop-i.i (omega arith) in
    let f = length-file (domain_in c.args.rows.now) in
    (omega arith, omega arith)
