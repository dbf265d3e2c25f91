-- Frames sent to a shelf one after the other, and what it is for a shelf to hold a plain table.
use Rattle.std.specs.Prelude.{ℕ, ◌<◌, ◌≡◌, List, [], ◌∷◌, map, length, get_or}
use Rattle.shelves.specs.PlainTable.{Table}
use Rattle.shelves.specs.Shelf.{sixteen, bit_of, place, stepped, Done, shelf_entries}
use Rattle.frames.specs.Refusals.{Result}
use Rattle.shelves.specs.declared.Shelf.{Shelf}

-- a call of `obey`: the frame, the answer, and the shelf after
pub record Call : Type 0 where
  pub frame : List ℕ
  pub answer : Result ℕ
  pub after : Shelf

-- calls one after the other, each on the shelf that the one before left: of each only what `obey` promises is known
abbrev pub Sent : Shelf → List Call → Type 0
Sent s [] = Unit {0}
Sent s (c ∷ cs) = Done (stepped s c.frame) c.answer c.after × Sent c.after cs

-- the frames, the answers, and the shelf after all of them
abbrev pub frames_in : List Call → List (List ℕ)
frames_in cs = map (λ c. c.frame) cs

abbrev pub answers_in : List Call → List (Result ℕ)
answers_in cs = map (λ c. c.answer) cs

abbrev pub left : Shelf → List Call → Shelf
left s [] = s
left s (c ∷ cs) = left c.after cs

-- a shelf that was told these numbers and kinds, and holds exactly what a table holds
pub record HoldsTable (phys route_indexes : ℕ) (kinds : List ℕ) (s : Shelf) (t : Table) : Type 0 where
  pub phys_are : s.phys ≡ phys
  pub route_indexes_are : s.route_indexes ≡ route_indexes
  pub kinds_are : s.kinds ≡ sixteen kinds
  pub entry-count : length s.entries ≡ shelf_entries
  pub bit-count : length s.disabled ≡ shelf_entries
  pub entries_are : (phy index : ℕ) → phy < 16 → index < 64 → get_or s.entries (place phy index) 0 ≡ (t phy index).0
  pub bits_are : (phy index : ℕ) → phy < 16 → index < 64 → get_or s.disabled (place phy index) 0 ≡ bit_of (t phy index).1
