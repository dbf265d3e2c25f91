-- put_row clears the row, and stores its two words, its link and the words' phys.
use Prim.Native.Nat.{ℕ}
use mathlib.Core.Path.{◌∙◌, ap}
use lib.ListN.{replicate}
use Rattle.exercises.proofs.RowPuts.{row_put}
use Rattle.exercises.proofs.rows.put_row.Goals as goal

pub returns : goal.returns
returns c =
    let at-args = c.args in
    let at_pre = c.requires in
    row_put _ _ at-args.unit at-args.link at-args.words.now _ _ _ (c.clear.ensures ∙ ap (λ (k : ℕ). replicate k 0) at_pre.0.0) c.head_word-head.ensures c.phy_address.ensures c.phy_word.ensures at_pre.1 at_pre.0.1 c.put_drives.ensures
