-- What making an exercise tests, cause by cause.
use Rattle.std.specs.Prelude.{ℕ, ◌≤◌, ◌≡◌, ◌⊎◌, List, length}
use Rattle.cards.specs.FileOf.{file_of}
use Rattle.exercises.specs.Rig.{made, Rig}

-- none of its causes holds, with so many bytes lent
pub record NoMakeCause (a b : ℕ) (ws : List ℕ) (room : ℕ) : Type 0 where
  -- 24: no such rig
  pub rig : Rig a b ws
  -- 16: lent bytes fewer than the file has
  pub enough : length (file_of (made a b ws)) ≤ room

-- 24 and 16
abbrev pub make_number : ℕ → Type 0
make_number n = (n ≡ 24) ⊎ (n ≡ 16)
