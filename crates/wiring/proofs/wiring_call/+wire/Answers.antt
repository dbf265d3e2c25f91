-- wire meets its contract: a file that states more than 64 expanders reads as its first two bytes do, and each room is chosen for so many expanders. The measure is the number of bytes.
use native.Mathlib.Omega.{arith}
use Rattle.wiring.specs.graph.Neighbours.{wiring_call}
use Rattle.files.proofs.PastLimits.{header_cut}
use Rattle.wiring.proofs.wiring_call.+wire.Goals as goal

pub returns-then-file-gt2 : goal.returns-then-file-gt2
unfolding wiring_call
returns-then-file-gt2 t c = rw (header_cut c.args.setting c.args.file.now c.if-file-gt2.true (omega (arith, c.stated_count-n.ensures, c.if-n-gt64.true))) at c.wire.ensures
