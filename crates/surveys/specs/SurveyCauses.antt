-- What `word_place` tests, cause by cause. `needed` tests what the judging call tests.
use Rattle.std.specs.Prelude.{ℕ, ◌<◌, ◌≡◌, ◌⊎◌, List}
use Rattle.files.specs.declared.Setting.{Setting}
use Rattle.tables.specs.filling.Tables.{needed}
use Rattle.tables.specs.TableCauses.{NoJudgingCause, judging_number}

-- none of the causes holds: those of the judging call, and 15
pub record NoWordCause (setting : Setting) (file : List ℕ) (k : ℕ) : Type 0 where
  pub judging : NoJudgingCause setting file
  -- 15: the tables have no word k
  pub word : k < needed judging.domain

-- 1 to 12, 14, 22 and 23, and 15
abbrev pub word_number : ℕ → Type 0
word_number n = judging_number n ⊎ (n ≡ 15)
