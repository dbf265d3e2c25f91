-- address_at meets its contract: eight bytes are the number of the first four and that of the four after them.
use mathlib.Core.Path.{sym}
use native.Mathlib.Omega.{arith}
use Rattle.frames.proofs.ByteNumbers.{number-none, number_split}
use Rattle.frames.proofs.bytes.address_at.Goals as goal

pub returns-then-s-i : goal.returns-then-s-i
returns-then-s-i c = sym (number-none c.args.s.now c.args.i 8 (omega arith))

pub returns : goal.returns
returns c = let a = c.args in omega (arith, number_split a.s.now a.i 4 4)
