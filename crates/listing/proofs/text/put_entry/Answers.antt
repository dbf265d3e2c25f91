-- put_entry meets its contract: sixteen digits, and a newline after them.
use native.Mathlib.Omega.{arith}
use Rattle.listing.proofs.BytesPut.{put_then}
use Rattle.listing.proofs.Digits.{hex_short}
use Rattle.listing.specs.Text.{entry_of}
use Rattle.listing.proofs.text.put_entry.Goals as goal

pub put_byte-requires : goal.put_byte-requires
put_byte-requires c =
    let at-args = c.args in
    let u = c.put_hex-to.ensures in
    omega (arith, u.next, u.same, hex_short at-args.w)

pub returns : goal.returns
unfolding entry_of
returns c =
    put_then c.put_hex-to.ensures c.put_byte.ensures
