-- expander_count meets its contract: whole rows, and at most 64 of them.
use native.Mathlib.Omega.{arith}
use Rattle.files.proofs.RowsAsDomain.{count_of}
use Rattle.files.proofs.view.expander_count.Goals as goal

pub returns-then-n-gt64 : goal.returns-then-n-gt64
returns-then-n-gt64 c = omega (arith, count_of c.args.rows.now)

pub returns : goal.returns
returns c = omega (arith, count_of c.args.rows.now)
