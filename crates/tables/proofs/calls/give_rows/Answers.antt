-- give_rows meets its contract: past the causes by own lists, 16 and 18, the tables by own lists, and the bits of these words.
use mathlib.Core.Path.{sym, ◌∙◌, ap}
use native.Mathlib.Omega.{arith}
use Rattle.wiring.specs.phys.Checks.{check_answer}
use Rattle.tables.proofs.CallOutcomes.{fillable, judged-room}
use Rattle.tables.proofs.calls.give_rows.Goals as goal

pub invariant_of-d : goal.invariant_of-d
invariant_of-d c = record { indexed = (c.judge_rows.ensures.index_left.written (judged-room _ _ _ _ _ (sym c.judge_rows.ensures.result_value ∙ ap (check_answer _) c.in_ok-judge_rows.was))).index }

pub put_all-requires : goal.put_all-requires
put_all-requires c = (fillable _ _ _ _ (sym c.judge_rows.ensures.result_value ∙ ap (check_answer _) c.in_ok-judge_rows.was), omega (arith, c.needed_words-needed.ensures.0))
