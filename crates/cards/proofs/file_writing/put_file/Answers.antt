-- put_file writes the header, then the units.
use native.Mathlib.Omega.{arith}
use lib.ListN.{length-set}
use Rattle.files.specs.Rows.{domain_in}
use Rattle.cards.proofs.FilePuts.{length-file, file-put}
use Rattle.cards.proofs.file_writing.put_file.Goals as goal

pub bounds-file-0 : goal.bounds-file-0
bounds-file-0 c = omega (arith, length-file (domain_in c.args.rows.now))

pub bounds-file-1 : goal.bounds-file-1
bounds-file-1 c = simp length-set (omega (arith, length-file (domain_in c.args.rows.now)))

pub put_units-requires : goal.put_units-requires
put_units-requires c = simp length-set (omega (arith, length-file (domain_in c.args.rows.now)))

pub returns : goal.returns
returns c =
    let at-args = c.args in
    let at_pre = c.requires in
    file-put (domain_in at-args.rows.now) _ at-args.file.now _ c.expander_count.ensures.0 at_pre c.put_units.ensures
