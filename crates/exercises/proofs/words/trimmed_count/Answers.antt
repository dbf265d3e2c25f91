-- trimmed_count finds the last word that is not zero: what `rposition` says of the words is found by `search`.
use Rattle.std.proofs.Common.{rules}
use Rattle.exercises.proofs.TrimmedWords.{last_word, no_word_left}
use Rattle.exercises.proofs.words.trimmed_count.Goals as goal

pub returns-in-Some : goal.returns-in-Some
returns-in-Some c = last_word c.args.words.now c.in-Some.k (search rules) (search rules) (search rules)

pub returns-in-None : goal.returns-in-None
returns-in-None c = no_word_left c.args.words.now (search rules)
