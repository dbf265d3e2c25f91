-- totals meets its contract: two words and two fields, one after the other, are the line, which fits into 80 bytes.
use native.Mathlib.Omega.{arith}
use Rattle.listing.proofs.BytesPut.{put_then, put-within}
use Rattle.listing.proofs.Digits.{field-short}
use Rattle.listing.specs.Text.{totals_of}
use Rattle.listing.proofs.text.totals.Goals as goal

pub put_bytes-c-requires : goal.put_bytes-c-requires
put_bytes-c-requires c =
    let at-args = c.args in
    let u = c.put_bytes-a.ensures in
    let v = c.put_field-b.ensures in
    omega (arith, u.next, u.same, v.next, v.same, field-short at-args.tables 32)

pub put_field-requires : goal.put_field-requires
put_field-requires c =
    let at-args = c.args in
    let u = c.put_bytes-a.ensures in
    let v = c.put_field-b.ensures in
    let w = c.put_bytes-c.ensures in
    omega (arith, u.next, u.same, v.next, v.same, w.next, w.same, field-short at-args.tables 32)

pub returns : goal.returns
unfolding totals_of
returns c =
    let a = c.args in
    let u = c.put_bytes-a.ensures in
    let v = c.put_field-b.ensures in
    let w = c.put_bytes-c.ensures in
    let x = c.put_field.ensures in
    let n = field-short a.tables 32 in
    let p = field-short a.entries 10 in
    let s = u.same in
    let e = u.next in
    let f = v.next in
    let g = w.next in
    let h = x.next in
    let y = v.same in
    let z = w.same in
    let t = put_then u (put_then v (put_then w x)) in
    record {
      prefix_len = put-within t (omega arith);
      words_put = t;
    }
