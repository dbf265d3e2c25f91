-- has_word meets its contract: `contains` compares with each word from the other side.
use mathlib.Core.Path.{◌∙◌}
use Rattle.files.proofs.ListMembers.{contained}
use Rattle.exercises.proofs.words.has_word.Goals as goal

pub returns : goal.returns
returns c = c.contains.ensures.value ∙ contained c.args.a c.args.words.now
