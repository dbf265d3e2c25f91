-- put_address writes the eight bytes of a number.
use native.Mathlib.Omega.{arith}
use Rattle.frames.specs.Bytes.{bytes_of}
use Rattle.frames.proofs.ByteNumbers.{length-bytes_of, front-short}
use Rattle.frames.proofs.bytes.put_address.Goals as goal

pub returns-then-buf-lt8 : goal.returns-then-buf-lt8
returns-then-buf-lt8 c = front-short (bytes_of 8 c.args.x) _ (omega (arith, length-bytes_of 8 c.args.x))
