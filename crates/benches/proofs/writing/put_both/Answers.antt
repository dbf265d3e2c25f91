-- put_both copies both files, and writes the header.
use native.Mathlib.Omega.{arith}
use Prim.Native.Nat.{ℕ, ◌+◌}
use mathlib.Core.Path.{◌∙◌, ap}
use mathlib.Core.List.{List}
use lib.ListN.{length, get_or, drop, set, length-drop}
use lib.Seq.{paste}
use Rattle.benches.proofs.JoinedFileWritten.{both-put}
use Rattle.files.proofs.UnitReading.{rest-whole}
use Rattle.benches.proofs.writing.put_both.Goals as goal

pub copy-requires-2 : goal.copy-requires-2
copy-requires-2 c =
    let at-args = c.args in
    let at_pre = c.requires in
    rw (rest-whole at-args.second.now 2) (omega (arith, length-drop 2 at-args.second.now, c.copy.auto.out, at_pre.1.0))

pub returns : goal.returns
returns c =
    let at-args = c.args in
    let at_pre = c.requires in
    let f = at-args.first.now in let s = at-args.second.now in let n = get_or f 1 0 + get_or s 1 0 in let b = rw (rest-whole s 2) at c.copy-2.ensures in ap (λ (v : List ℕ). set (set v 0 0x10) 1 n) (b ∙ ap (λ (v : List ℕ). paste v (length f) (drop 2 s) (length (drop 2 s))) c.copy.ensures) ∙ both-put at-args.out.now f s n at_pre.0.0 at_pre.0.1 at_pre.1.0
