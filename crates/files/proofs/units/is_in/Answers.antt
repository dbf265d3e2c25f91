-- is_in meets its contract: `contains` compares with each number from the other side.
use mathlib.Core.Path.{◌∙◌}
use Rattle.files.proofs.ListMembers.{contained}
use Rattle.files.proofs.units.is_in.Goals as goal

pub returns : goal.returns
returns c = c.contains.ensures.value ∙ contained c.args.a c.args.used.now
