-- The loading frames that the writer writes for one table.
use Rattle.std.specs.Prelude.{ℕ, zero, suc, ◌+◌, Bool, cond, ◌&&◌, List, [], ◌∷◌, get_or, eqb, ltb}
use Rattle.frames.specs.Bits.{bits_of}
use Rattle.frames.specs.ConfigureRoute.{route_written, part_after}
use Rattle.frames.specs.declared.Route.{Route}
use Rattle.shelves.specs.PlainTable.{Table}

-- an entry of the table whose first word is word `first` of these words, and its disable bit among these bytes
abbrev pub entry_in : List ℕ → List ℕ → ℕ → ℕ → ℕ × Bool
entry_in words bits first index = (get_or words (first + index) 0, eqb (get_or (bits_of bits) (first + index) 0) 1)

-- REQUEST LENGTH, the phy, and the table's entries
module _ (stated phy : ℕ) (entry : ℕ → ℕ × Bool) where
  -- the request for one route index
  abbrev pub request : ℕ → Route
  request index = record {
    length = stated;
    phy = record { 0 = phy };
    index = record { 0 = index };
    address = (entry index).0;
    disabled = (entry index).1;
  }

  -- the forty bytes that the writer hands back
  abbrev pub written : ℕ → List ℕ
  written index = part_after (route_written 40 (request index))

  -- the frames for `count` route indexes from i on
  unfoldable pub frames_from : ℕ → ℕ → List (List ℕ)
  frames_from i zero = []
  frames_from i (suc count) = written i ∷ frames_from (i + 1) count

  -- one for each of R route indexes
  abbrev pub frames_of : ℕ → List (List ℕ)
  frames_of route_indexes = frames_from 0 route_indexes

-- a table with these R entries at that phy, and every other entry as it was
abbrev pub with_table : Table → ℕ → ℕ → (ℕ → ℕ × Bool) → Table
with_table t phy route_indexes entry p index = cond (eqb p phy && ltb index route_indexes) (entry index) (t p index)
