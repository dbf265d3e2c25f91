-- The wiring call on a file and on its short file is the same.
use Prim.Native.Nat.{ℕ}
use mathlib.Core.Path.{◌≡◌}
use mathlib.Core.List.{List}
use Rattle.files.specs.declared.Setting.{Setting}
use Rattle.wiring.specs.graph.Neighbours.{wiring_call}
use Rattle.files.specs.ShortFile.{short_file}
use Rattle.files.proofs.ShortFile.{short-file}

pub short-wiring : (most : Setting) (file : List ℕ) (room : ℕ) → wiring_call most (short_file most file) room ≡ wiring_call most file room
unfolding wiring_call
short-wiring most file room = rw (short-file most file)
