-- make tests for 24; the rows that it fills then hold the domain that is made, and writing their file tests for 16.
use Prim.Native.Nat.{ℕ, ◌*◌}
use mathlib.Core.Path.{refl, sym, ◌∙◌, ap}
use native.Mathlib.Omega.{arith}
use lib.ListN.{length-replicate}
use lib.Seq.{length-take-le}
use Rattle.files.proofs.ListMembers.{was_false}
use Rattle.files.specs.Rows.{row_words}
use Rattle.frames.specs.Refusals.{refused}
use Rattle.exercises.specs.Rig.{no_rig}
use Rattle.exercises.proofs.TrimmedWords.{trimmed-few}
use Rattle.exercises.proofs.Exercise.{makable}
use Rattle.exercises.proofs.MakeOutcomes.{make-none, make-some}
use Rattle.exercises.proofs.making.make.Goals as goal

pub returns-then-is_no_rig : goal.returns-then-is_no_rig
returns-then-is_no_rig c = make-none c.args.a c.args.b c.args.list.now c.args.file.now _ (sym c.is_no_rig.ensures ∙ c.if-is_no_rig.true) (ap refused c.refused.ensures)

pub overflow_cast-list : goal.overflow_cast-list
overflow_cast-list c = let a = c.args in let k = makable a.a a.b a.list.now (was_false (no_rig a.a a.b a.list.now) (sym c.is_no_rig.ensures ∙ c.if-is_no_rig.false)) in omega (arith, k.route_indexes)

pub put_rig-requires : goal.put_rig-requires
put_rig-requires c = let a = c.args in let k = makable a.a a.b a.list.now (was_false (no_rig a.a a.b a.list.now) (sym c.is_no_rig.ensures ∙ c.if-is_no_rig.false)) in let l = length-take-le c.trimmed_count-t.result a.list.now (omega (arith, c.trimmed_count-t.ensures.0, trimmed-few a.list.now)) in (length-replicate {A = ℕ} (2 * row_words) 0, omega (arith, k.phys, c.trimmed_count-t.ensures.0))

pub returns : goal.returns
returns c =
    let at-args = c.args in
    let at-fits = c.ranges in
    make-some at-args.a at-args.b at-args.list.now at-args.file.now _ _ _ _ _ (sym c.is_no_rig.ensures ∙ c.if-is_no_rig.false) at-fits.a.fits at-fits.b.fits (λ j. (c.shared_slice_known-1.given j).fits) refl c.trimmed_count-t.ensures.1 c.put_rig.ensures c.file_of_rows.ensures
