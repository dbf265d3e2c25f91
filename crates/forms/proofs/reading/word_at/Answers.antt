-- word_at meets its contract: past the end there is no word.
use mathlib.Core.Path.{sym}
use lib.ListN.{get_or-eq_default}
use native.Mathlib.Omega.{arith}
use Rattle.forms.proofs.reading.word_at.Goals as goal

pub returns : goal.returns
returns c = sym (get_or-eq_default c.args.ws.now 0 (omega arith))
