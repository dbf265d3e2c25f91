-- A shelf: what a fresh one is told, what it answers to a frame and holds after it, and what it holds entry by entry.
use Rattle.std.specs.Prelude.{ℕ, ◌+◌, ◌*◌, ◌-◌, ◌≤◌, min, ◌≡◌, Bool, true, cond, ◌&&◌, List, [], ◌∷◌, ◌++◌, length, get_or, set, replicate, eqb, leb}
use Rattle.frames.specs.Refusals.{Result, refused, good, refusal}
use Rattle.frames.specs.ConfigureRoute.{route_read}
use Rattle.frames.specs.declared.Route.{Route}
use Rattle.shelves.specs.PlainTable.{result_of}
use Rattle.shelves.specs.declared.Shelf.{Shelf}
use Rattle.shelves.specs.declared.Stepped.{Stepped}

-- how many entries a shelf has: 16 phys, and 64 route indexes of each
abbrev pub shelf_entries : ℕ
shelf_entries = 1024

-- the bytes that a shelf takes: entries, disable bits, kinds, R, and the number of phys
abbrev pub shelf_bytes : ℕ
shelf_bytes = shelf_entries * 8 + shelf_entries + 16 + 4 + 4

-- a shelf, and what it answered
abbrev pub stepped_to : Shelf → Result ℕ → Stepped
stepped_to s a = record { shelf = s; answer = a }

-- kinds are 0 vacant, 1 table, 2 other
unfoldable pub are_kinds : List ℕ → Bool
are_kinds [] = true
are_kinds (k ∷ ks) = leb k 2 && are_kinds ks

-- what a fresh shelf can be told: 1 to 16 phys, R up to 64, one kind for each phy
unfoldable pub can_be_told : ℕ → ℕ → List ℕ → Bool
can_be_told phys route_indexes kinds = leb 1 phys && (leb phys 16 && (leb route_indexes 64 && (eqb (length kinds) phys && are_kinds kinds)))

-- what a fresh shelf can be told, number by number
pub record CanBeTold (phys route_indexes : ℕ) (kinds : List ℕ) : Type 0 where
  pub some : 1 ≤ phys
  pub few : phys ≤ 16
  pub short : route_indexes ≤ 64
  pub each : length kinds ≡ phys
  pub known : (i : ℕ) → get_or kinds i 0 ≤ 2

-- the kinds of sixteen phys, vacant after those told
abbrev pub sixteen : List ℕ → List ℕ
sixteen kinds = kinds ++ replicate (16 - length kinds) 0

abbrev pub kind_in : List ℕ → ℕ → ℕ
kind_in kinds phy = get_or kinds phy 0

-- the byte of a disable bit
abbrev pub bit_of : Bool → ℕ
bit_of disabled = cond disabled 1 0

-- all entries zero and disabled
abbrev pub fresh_shelf : ℕ → ℕ → List ℕ → Shelf
fresh_shelf phys route_indexes kinds = record {
  entries = replicate shelf_entries 0;
  disabled = replicate shelf_entries 1;
  kinds = sixteen kinds;
  route_indexes = route_indexes;
  phys = phys;
}

-- told anything else it is refused, and what was there stays
unfoldable pub made : Shelf → ℕ → ℕ → List ℕ → Stepped
made s phys route_indexes kinds =
    cond (can_be_told phys route_indexes kinds) (stepped_to (fresh_shelf phys route_indexes kinds) (good 0x00))
    (stepped_to s (refused (refusal 3 0 0)))

-- the function result by what stands in a shelf, whatever it is: no phy past 16 and no route index past 64 exists
abbrev pub shelf_result : Shelf → ℕ → ℕ → ℕ
shelf_result s = result_of (min 16 s.phys) (min 64 s.route_indexes) (kind_in s.kinds)

-- which entry it is: 64 for each phy
abbrev pub place : ℕ → ℕ → ℕ
place phy index = phy * 64 + index

-- the entry and its disable bit replaced
unfoldable pub loaded : Shelf → Route → Shelf
loaded s q = record {
  entries = set s.entries (place q.phy.0 q.index.0) q.address;
  disabled = set s.disabled (place q.phy.0 q.index.0) (bit_of q.disabled);
  kinds = s.kinds;
  route_indexes = s.route_indexes;
  phys = s.phys;
}

-- after what the reader says of a frame: a refusal changes nothing, and no result but 00h does
unfoldable pub after_read : Shelf → Result Route → Stepped
after_read s (refused r) = stepped_to s (refused r)
after_read s (good q) =
    stepped_to (cond (eqb (shelf_result s q.phy.0 q.index.0) 0x00) (loaded s q) s) (good (shelf_result s q.phy.0 q.index.0))

abbrev pub stepped : Shelf → List ℕ → Stepped
stepped s frame = after_read s (route_read frame)

-- all that a call with this outcome promises: the answer, and the whole shelf after
pub record Done (outcome : Stepped) (answer : Result ℕ) (after : Shelf) : Type 0 where
  pub answers : answer ≡ outcome.answer
  pub left : after ≡ outcome.shelf

-- an entry exists where a request for it would be answered 00h: its address, 0 where there is none
unfoldable pub entry_at : Shelf → ℕ → ℕ → ℕ
entry_at s phy index = cond (eqb (shelf_result s phy index) 0x00) (get_or s.entries (place phy index) 0) 0

-- 1 where it is disabled, 0 where it is not, 2 where there is none
unfoldable pub disabled_at : Shelf → ℕ → ℕ → ℕ
disabled_at s phy index = cond (eqb (shelf_result s phy index) 0x00) (cond (eqb (get_or s.disabled (place phy index) 0) 0) 0 1) 2
