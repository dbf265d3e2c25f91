-- card_of_file reads the file into rows, and the card is that of the domain in the rows.
use Prim.Native.Nat.{ℕ}
use mathlib.Core.Path.{sym}
use lib.ListN.{replicate, length-replicate}
use lib.Seq.{length-take-le}
use Rattle.files.specs.Rows.{most_row_words}
use Rattle.wiring.proofs.FileRows.{opened_as, opened-fits}
use Rattle.cards.proofs.CallOutcomes.{card-refused, card-made, rows-room}
use Rattle.frames.proofs.RefusalPassedOn.{passed-on}
use Rattle.cards.proofs.card_call.card_of_file.Goals as goal

pub slice_bounds-rows-end : goal.slice_bounds-rows-end
slice_bounds-rows-end c =
    let at-args = c.args in
    opened-fits _ _ _ _ _ _ (rows-room at-args.setting at-args.file.now (replicate most_row_words 0) (length-replicate {A = ℕ} most_row_words 0)) c.read_domain.ensures c.in_ok-n.was c.read_domain.auto.rows

pub slice_bounds-card_of_rows-end : goal.slice_bounds-card_of_rows-end
slice_bounds-card_of_rows-end c =
    let at-args = c.args in
    let h = opened-fits _ _ _ _ _ _ (rows-room at-args.setting at-args.file.now (replicate most_row_words 0) (length-replicate {A = ℕ} most_row_words 0)) c.read_domain.ensures c.in_ok-n.was c.read_domain.auto.rows in
    sym (length-take-le _ c.read_domain.new.rows h)

pub returns-in_err-n : goal.returns-in_err-n
returns-in_err-n c =
    let at-args = c.args in
    rw (passed-on c.from_residual.result _ c.from_residual.ensures) (card-refused _ _ _ _ (opened_as _ _ _ _ _ _ (rows-room at-args.setting at-args.file.now (replicate most_row_words 0) (length-replicate {A = ℕ} most_row_words 0)) c.read_domain.ensures c.in_err-n.was))

pub returns : goal.returns
returns c =
    let at-args = c.args in
    let o = opened_as _ _ _ _ _ _ (rows-room at-args.setting at-args.file.now (replicate most_row_words 0) (length-replicate {A = ℕ} most_row_words 0)) c.read_domain.ensures c.in_ok-n.was in
    card-made _ _ _ _ _ _ o.0 c.card_of_rows.ensures
