-- judge_apart meets its contract: 4 where an expander has the address of one before it, and else what judge_rows says.
use native.Mathlib.Omega.{arith}
use lib.ListN.{length}
use Rattle.files.specs.Rows.{domain_in}
use Rattle.benches.proofs.SameAddress.{apart-refused, apart-judged}
use mathlib.Core.Path.{ap}
use Rattle.frames.specs.Refusals.{refused}
use Rattle.benches.proofs.bench_rows.judge_apart.Goals as goal

pub returns-then-k-expander_count : goal.returns-then-k-expander_count
returns-then-k-expander_count c = let a = c.args in apart-refused a.chain (length a.who.now) (length a.low.now) (domain_in a.rows.now) _ _ c.first_repeated-k.ensures (omega (arith, c.expander_count.ensures.0)) (ap refused c.refusal_at.ensures)

pub returns : goal.returns
returns c =
    let a = c.args in apart-judged a.chain (length a.who.now) (length a.low.now) (domain_in a.rows.now) c.judge_rows.result (omega (arith, c.expander_count.ensures.0, c.first_repeated-k.ensures)) c.judge_rows.ensures.result_value
