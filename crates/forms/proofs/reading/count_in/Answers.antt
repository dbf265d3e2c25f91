-- count_in meets its contract by the two cases of the smaller number.
use Rattle.forms.proofs.FormRows.{count_small, count_large}
use native.Mathlib.Omega.{arith}
use Rattle.forms.proofs.reading.count_in.Goals as goal

pub returns-then-n-gt128 : goal.returns-then-n-gt128
returns-then-n-gt128 c = (count_large c.args.ws.now c.args.at _ c.word_at.ensures (omega arith), omega arith)

pub returns : goal.returns
returns c = (count_small c.args.ws.now c.args.at _ c.word_at.ensures (omega arith), omega arith)
