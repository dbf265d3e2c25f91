-- What the join call tests, cause by cause.
use Rattle.std.specs.Prelude.{ℕ, ◌≤◌, ◌≡◌, ◌⊎◌, List, length}
use Rattle.files.specs.declared.Setting.{Setting}
use Rattle.tables.specs.TableCauses.{NoJudgingCause, judging_number}
use Rattle.benches.specs.Bytes.{joined_file}
use Rattle.benches.specs.JoinConditions.{Free}

-- none of the causes that the join call tests holds, with so many bytes lent
pub record NoJoinCause (setting : Setting) (first : List ℕ) (i p : ℕ) (second : List ℕ) (j q room : ℕ) : Type 0 where
  -- those of the judging call, of the first file and of the second
  pub one : NoJudgingCause setting first
  pub other : NoJudgingCause setting second
  -- 21: a named phy that doesn't exist, or is vacant, attached or not subtractive, or whose expander has an attached subtractive phy
  pub first_phy : Free one.domain i p
  pub second_phy : Free other.domain j q
  -- those of the judging call, of the joined file
  pub both : NoJudgingCause setting (joined_file first i p second j q)
  -- 16: lent buffer shorter than needed
  pub enough : length (joined_file first i p second j q) ≤ room

-- 1 to 12, 14, 22 and 23, and 16 and 21
abbrev pub join_number : ℕ → Type 0
join_number n = judging_number n ⊎ ((n ≡ 16) ⊎ (n ≡ 21))
