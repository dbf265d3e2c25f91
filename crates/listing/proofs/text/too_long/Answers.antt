-- too_long meets its contract: the nine bytes are the line.
use native.Mathlib.Omega.{arith}
use Rattle.listing.proofs.BytesPut.{put-within}
use Rattle.listing.proofs.text.too_long.Goals as goal

pub returns : goal.returns
returns c =
    let u = c.put_bytes.ensures in
    let e = u.next in
    record {
      prefix_len = put-within u (omega arith);
      words_put = u;
    }
