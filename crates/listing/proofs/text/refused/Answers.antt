-- refused meets its contract: the word and three fields, one after the other, are the line, which fits into 80 bytes.
use native.Mathlib.Omega.{arith}
use Rattle.listing.proofs.BytesPut.{put_then, put-within}
use Rattle.listing.proofs.Digits.{field-short}
use Rattle.listing.specs.Text.{refused_of}
use Rattle.listing.proofs.text.refused.Goals as goal

pub put_field-c-requires : goal.put_field-c-requires
put_field-c-requires c =
    let at-args = c.args in
    let u = c.put_bytes-a.ensures in
    let v = c.put_field-b.ensures in
    omega (arith, u.next, u.same, v.next, v.same, field-short at-args.refusal.number 32)

pub put_field-requires : goal.put_field-requires
put_field-requires c =
    let u = c.put_bytes-a.ensures in
    let v = c.put_field-b.ensures in
    let w = c.put_field-c.ensures in
    let a = c.args in
    omega (arith, u.next, u.same, v.next, v.same, w.next, w.same, field-short a.refusal.number 32, field-short a.refusal.expander.0 32)

pub returns : goal.returns
unfolding refused_of
returns c =
    let a = c.args in
    let u = c.put_bytes-a.ensures in
    let v = c.put_field-b.ensures in
    let w = c.put_field-c.ensures in
    let x = c.put_field.ensures in
    let n = field-short a.refusal.number 32 in
    let i = field-short a.refusal.expander.0 32 in
    let p = field-short a.refusal.phy.0 10 in
    let s = u.same in
    let e = u.next in
    let f = v.next in
    let g = w.next in
    let h = x.next in
    let y = v.same in
    let z = w.same in
    let t = put_then u (put_then v (put_then w x)) in
    record {
      prefix_len = put-within t (omega arith);
      words_put = t;
    }
