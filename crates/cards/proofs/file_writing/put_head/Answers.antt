-- put_head writes the address and the response into the parts of the file that they fill.
use native.Mathlib.Omega.{arith}
use Prim.Native.Nat.{◌+◌, ◌-◌}
use mathlib.Core.Path.{refl, ◌∙◌}
use lib.ListN.{take, drop, length-take, length-drop}
use borrow.Rule.Slice.PartMut.{put_mid, same_len_mid}
use Rattle.frames.specs.Bytes.{bytes_of}
use Rattle.frames.specs.declared.General.{General}
use Rattle.frames.proofs.ByteNumbers.{length-bytes_of}
use Rattle.files.specs.Domain.{Expander, expander_at}
use Rattle.files.specs.Rows.{domain_in}
use Rattle.cards.proofs.FilePuts.{front-whole, head-put, general-same}
use Rattle.cards.specs.FileOf.{head_bytes}
use Rattle.cards.proofs.file_writing.put_head.Goals as goal

pub returns : goal.returns
returns c =
    let at_pre = c.requires in
    let a = c.args in
    let t = a.to in
    let e : Expander = expander_at (domain_in a.rows.now) a.i.0 in
    let s = put_mid t (t + 8 - t) a.file.now c.put_address.new.buf in
    let n = same_len_mid t (t + 8 - t) a.file.now c.put_address.new.buf c.put_address.auto.buf in
    let x = c.expander_address.result in
    let g = general-same e _ _ _ c.route_indexes.ensures c.phy_count.ensures.0 c.configurable_bit.ensures in
    let gen : General = record { route_indexes = c.route_indexes.result; phys = c.phy_count.result; configurable = c.configurable_bit.result } in
    let f1 = c.put_address.ensures ∙ front-whole (bytes_of 8 x) (take (t + 8 - t) (drop t a.file.now)) (simp (length-take, length-drop) (omega (arith, length-bytes_of 8 x))) in
    let f2 = c.put_general.ensures in
    head-put e a.file.now s _ c.put_address.new.buf c.put_general.new.frame t (t + 8 - t) (t + head_bytes - (t + 8)) x gen at_pre.1 n c.expander_address.ensures g (omega arith) f1 refl (omega arith) f2 refl
