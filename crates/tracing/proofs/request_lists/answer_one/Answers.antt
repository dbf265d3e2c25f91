-- answer_one meets its contract: 15 above 65535, and else the request by itself with 64 bytes.
use Prim.Native.Nat.{ℕ}
use native.Mathlib.Omega.{arith}
use lib.ListN.{length-replicate}
use Rattle.tables.proofs.WiringLemmas.{domain-few}
use Rattle.tracing.proofs.request_lists.answer_one.Goals as goal

pub trace_lent-answer-requires : goal.trace_lent-answer-requires
trace_lent-answer-requires c =
    (c.requires, omega (arith, length-replicate {A = ℕ} 64 0, domain-few c.args.d.now.rows.now))
