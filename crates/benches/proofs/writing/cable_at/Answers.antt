-- cable_at stores byte 12, byte 32 and the eight bytes of the address.
use Prim.Native.Nat.{ℕ, ◌+◌, ◌-◌}
use mathlib.Core.Path.{◌≡◌, sym, ◌∙◌, ap, subst}
use lib.ListN.{length, set, length-set}
use borrow.Rule.Slice.PartMut.{put_mid, same_len_mid}
use Rattle.benches.proofs.JoinedFileWritten.{cable_put}
use Rattle.frames.specs.Bytes.{byte}
use Rattle.benches.specs.Bytes.{typed_two, cabled_at}
use Rattle.benches.proofs.writing.cable_at.Goals as goal

pub shape_of-out : goal.shape_of-out
shape_of-out c =
    let at-args = c.args in
    same_len_mid (at-args.at + 24) (length (set (set at-args.out.now (at-args.at + 12) c.type_two.result) (at-args.at + 32) at-args.q.0) - (at-args.at + 24)) (set (set at-args.out.now (at-args.at + 12) c.type_two.result) (at-args.at + 32) at-args.q.0) c.put_address.new.buf c.put_address.auto.buf ∙ simp length-set

pub returns : goal.returns
returns c =
    let at-args = c.args in
    let at_pre = c.requires in
    let t = c.type_two.ensures in let l : length (set (set at-args.out.now (at-args.at + 12) c.type_two.result) (at-args.at + 32) at-args.q.0) ≡ length at-args.out.now = simp length-set in subst (λ (b : ℕ). put_mid (at-args.at + 24) (length (set (set at-args.out.now (at-args.at + 12) b) (at-args.at + 32) at-args.q.0) - (at-args.at + 24)) (set (set at-args.out.now (at-args.at + 12) b) (at-args.at + 32) at-args.q.0) c.put_address.new.buf ≡ cabled_at at-args.out.now at-args.at at-args.s at-args.q.0) (sym t) (cable_put at-args.out.now at-args.at at-args.s at-args.q.0 (length (set (set at-args.out.now (at-args.at + 12) (typed_two (byte at-args.out.now (at-args.at + 12)))) (at-args.at + 32) at-args.q.0) - (at-args.at + 24)) c.put_address.new.buf (at_pre) (ap (λ (n : ℕ). n - (at-args.at + 24)) (length-set (set at-args.out.now (at-args.at + 12) (typed_two (byte at-args.out.now (at-args.at + 12)))) (at-args.at + 32) at-args.q.0 ∙ length-set at-args.out.now (at-args.at + 12) (typed_two (byte at-args.out.now (at-args.at + 12))))) (rw t at c.put_address.ensures))
