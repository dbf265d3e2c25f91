-- explain_step meets its contract: a file that is read has at most 64 expanders.
use Prim.Native.Nat.{ℕ}
use lib.ListN.{length-replicate}
use Rattle.tables.specs.WiringDefinitions.{most_slots, most_domain_phys, most_row_words}
use Rattle.tables.proofs.WiringLemmas.{read-good, file-room}
use native.Mathlib.Omega.{arith}
use Rattle.tracing.proofs.step_call.explain_step.Goals as goal

pub step_in-requires : goal.step_in-requires
step_in-requires c =
    let a = c.args in
    let f = a.file.now in
    file-room a.setting 64 f _ _ _ (λ d e. let g = read-good a.setting f d e in omega (arith, g.few, g.range.expanders.1))
    (omega (arith, length-replicate {A = ℕ} most_row_words 0)) (omega (arith, length-replicate {A = ℕ} most_slots 0)) (omega (arith, length-replicate {A = ℕ} most_domain_phys 0))
