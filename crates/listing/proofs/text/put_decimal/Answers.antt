-- put_decimal meets its contract: the digits that io::decimal writes are those of the definition, at most 20.
use Prim.Native.Nat.{◌≤◌}
use mathlib.Core.Path.{◌∙◌}
use native.Mathlib.Omega.{arith}
use Rattle.listing.proofs.BytesPut.{put_as}
use Rattle.listing.proofs.Digits.{digits_few, decimal_is}
use Rattle.listing.proofs.text.put_decimal.Goals as goal

pub put_bytes-requires : goal.put_bytes-requires
put_bytes-requires c =
    let h = c.decimal-k.ensures.in_bounds in
    omega (arith, h.0, h.1, digits_few 10 1 20 c.args.n c.decimal-k.result (omega arith) (omega arith) c.decimal-k.ensures.len (omega arith))

pub returns : goal.returns
returns c =
    let at-args = c.args in
    let m : c.decimal-k.result ≤ 20 = digits_few 10 1 20 at-args.n c.decimal-k.result (omega arith) (omega arith) c.decimal-k.ensures.len (omega arith) in
    put_as c.put_bytes.ensures (c.decimal-k.ensures.digits ∙ decimal_is at-args.n c.decimal-k.result c.decimal-k.ensures.len m)
