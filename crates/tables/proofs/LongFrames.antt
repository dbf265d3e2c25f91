-- Long frames: a file and its short file are judged alike, and get the same tables.
use Prim.Native.Nat.{ℕ}
use mathlib.Core.Path.{◌≡◌}
use mathlib.Core.List.{List}
use Rattle.tables.specs.WiringDefinitions.{Setting, short_file}
use Rattle.tables.specs.filling.Entries.{Room}
use Rattle.tables.specs.JudgingCall.{judged, table_call}
use Rattle.tables.proofs.WiringLemmas.{short-file}

module _ (setting : Setting) (file : List ℕ) where
  pub short-judged : judged setting (short_file setting file) ≡ judged setting file
  short-judged = rw (short-file setting file)

  pub short-tables : (room : Room) → table_call setting (short_file setting file) room ≡ table_call setting file room
  unfolding table_call
  short-tables room = rw short-judged
