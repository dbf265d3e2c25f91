-- Words written over others: how many change (document 02, paper 10), and what the functions that fill a table promise of it.
use Rattle.std.specs.Prelude.{ℕ, ◌+◌, ◌≤◌, ◌≡◌, cond, List, [], ◌∷◌, drop, eqb}
use Rattle.tables.specs.declared.filling.table_filling.Copied.{Copied}

-- words changed: the number of places at which two lists of words differ
unfoldable pub changed : List ℕ → List ℕ → ℕ
changed [] ws = 0
changed (v ∷ vs) [] = 0
changed (v ∷ vs) (w ∷ ws) = cond (eqb v w) 0 1 + changed vs ws

-- so many words written, and so many of them changed
abbrev pub copied : ℕ → ℕ → Copied
copied at words = record { at = at; words = words }

-- words written from one place on up to another, and those changed counted; the words after that place stay
pub record Replaced (s r : Copied) (before after : List ℕ) : Type 0 where
  pub counted : r.words ≡ s.words + changed before after
  pub kept : drop r.at after ≡ drop r.at before
  pub less : r.words + s.at ≤ s.words + r.at
