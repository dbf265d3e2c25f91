-- put_hex meets its contract: the digits that io::hex writes are those of the definition, sixteen of them.
use Prim.Native.Nat.{◌≤◌}
use mathlib.Core.Path.{◌∙◌}
use native.Mathlib.Omega.{arith}
use Rattle.listing.proofs.BytesPut.{put_as}
use Rattle.listing.proofs.Digits.{digits_few, hex_is}
use Rattle.listing.proofs.text.put_hex.Goals as goal

pub put_bytes-requires : goal.put_bytes-requires
put_bytes-requires c =
    let h = c.hex-k.ensures.in_bounds in
    omega (arith, h.0, h.1, digits_few 16 16 16 c.args.w c.hex-k.result (omega arith) (omega arith) c.hex-k.ensures.len (omega arith))

pub returns : goal.returns
returns c =
    let at-args = c.args in
    let m : c.hex-k.result ≤ 16 = digits_few 16 16 16 at-args.w c.hex-k.result (omega arith) (omega arith) c.hex-k.ensures.len (omega arith) in
    put_as c.put_bytes.ensures (c.hex-k.ensures.digits ∙ hex_is at-args.w c.hex-k.result c.hex-k.ensures.len.0 m)
