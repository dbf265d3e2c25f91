-- put_line meets its contract: four puts one after the other are one put of the whole line, and its parts are short enough.
use native.Mathlib.Omega.{arith}
use Rattle.listing.proofs.BytesPut.{put_then}
use Rattle.listing.proofs.Digits.{field-short}
use Rattle.listing.specs.Text.{line_of}
use Rattle.listing.proofs.text.put_line.Goals as goal

pub put_field-b-requires : goal.put_field-b-requires
put_field-b-requires c =
    let at-args = c.args in
    let u = c.put_field-a.ensures in
    omega (arith, u.next, u.same, field-short at-args.i.0 32)

pub put_field-c-requires : goal.put_field-c-requires
put_field-c-requires c =
    let at-args = c.args in
    let u = c.put_field-a.ensures in
    let v = c.put_field-b.ensures in
    omega (arith, u.next, u.same, v.next, v.same, field-short at-args.i.0 32, field-short at-args.p.0 32)

pub put_entry-requires : goal.put_entry-requires
put_entry-requires c =
    let u = c.put_field-a.ensures in
    let v = c.put_field-b.ensures in
    let w = c.put_field-c.ensures in
    let a = c.args in
    omega (arith, u.next, u.same, v.next, v.same, w.next, w.same, field-short a.i.0 32, field-short a.p.0 32, field-short a.k.0 32)

pub returns : goal.returns
unfolding line_of
returns c =
    put_then c.put_field-a.ensures (put_then c.put_field-b.ensures (put_then c.put_field-c.ensures c.put_entry.ensures))
