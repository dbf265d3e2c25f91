-- put_field meets its contract: the number's digits, and one byte after them.
use native.Mathlib.Omega.{arith}
use Rattle.listing.proofs.BytesPut.{put_then}
use Rattle.listing.proofs.Digits.{decimal_short}
use Rattle.listing.specs.Text.{field_of}
use Rattle.listing.proofs.text.put_field.Goals as goal

pub put_byte-requires : goal.put_byte-requires
put_byte-requires c =
    let at-args = c.args in
    let u = c.put_decimal-to.ensures in
    omega (arith, u.next, u.same, decimal_short at-args.n)

pub returns : goal.returns
unfolding field_of
returns c =
    put_then c.put_decimal-to.ensures c.put_byte.ensures
