-- check_expanders meets its contract. The loop's invariant: reading the rest from offset `at`, with the addresses of the first i expanders used, gives what reading all gives.
use mathlib.Core.List.{[]}
use mathlib.Core.Path.{refl, sym, ◌∙◌, ap}
use native.Mathlib.Nat.{sub-zero}
use native.Mathlib.Omega.{arith}
use lib.ListN.{take, length-set}
use lib.Seq.{length-take-le}
use Rattle.frames.specs.Refusals.{refused}
use Rattle.frames.proofs.RefusalPassedOn.{passed-on}
use Rattle.files.proofs.UnitReading.{count-all, expander-stop, expander-go, expanders-end, expanders-more}
use Rattle.files.specs.File.{expanders}
use Rattle.files.proofs.OneMore.{set_next}
use Rattle.files.proofs.file.check_expanders.Goals as goal

pub loop-i-init : goal.loop-i-init
loop-i-init c =
    let a = c.args in
    (refl, simp sub-zero (count-all (expanders a.most a.file.now a.n 0 2 [])))

pub slice_bounds-check_expander-end : goal.slice_bounds-check_expander-end
slice_bounds-check_expander-end c = sym (length-take-le c.loop-i.i c.loop-i.used (omega arith))

pub returns-in_err-unit : goal.returns-in_err-unit
returns-in_err-unit c =
    let e = sym c.check_expander.ensures ∙ c.in_err-unit.was in
    passed-on c.from_residual.result _ c.from_residual.ensures ∙ expander-stop _ _ _ _ _ (take c.loop-i.i c.loop-i.used) c.loop-i.invariant.1 e (omega arith)

pub loop-i-preserved : goal.loop-i-preserved
loop-i-preserved c =
    let a = c.args in (
      simp length-set c.loop-i.invariant.0,
      rw (set_next c.loop-i.used c.loop-i.i _ (omega arith))
          (expander-go a.most a.file.now a.n c.loop-i.i c.loop-i.at (take c.loop-i.i c.loop-i.used) c.loop-i.invariant.1
          (sym c.check_expander.ensures ∙ c.in_ok-unit.was) (omega arith)),
    )

pub returns-then-at-file : goal.returns-then-at-file
returns-then-at-file c = expanders-end _ _ _ _ _ (take c.loop-i.i c.loop-i.used) c.loop-i.invariant.1 (omega arith) c.if-at-file.true

pub returns : goal.returns
returns c =
    ap refused c.refusal_at.ensures ∙ expanders-more _ _ _ _ _ (take c.loop-i.i c.loop-i.used) c.loop-i.invariant.1 (omega arith) c.if-at-file.false
