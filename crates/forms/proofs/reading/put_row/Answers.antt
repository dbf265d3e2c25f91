-- put_row meets its contract: address and second word stored in front, then the phys.
use Prim.Native.Nat.{ℕ, ◌+◌, ◌*◌, ◌/◌, ◌%◌}
use mathlib.Core.Path.{ap}
use Rattle.forms.proofs.FormRows.{row-held}
use native.Mathlib.Omega.{arith}
use Rattle.forms.proofs.reading.put_row.Goals as goal

pub returns : goal.returns
returns c =
    let at-args = c.args in
    (row-held at-args.ws.now at-args.at _ _ _ _ c.count_in-n.ensures.0 c.word_at-2.ensures (ap (λ (x : ℕ). x / 281474976710656 % 65536) c.word_at.ensures) c.head_word.ensures at-args.row.now _ (omega arith) c.count_in-n.ensures.1 c.put_phys.ensures, ap (λ (n : ℕ). at-args.at + (2 + 2 * n)) c.count_in-n.ensures.0)
