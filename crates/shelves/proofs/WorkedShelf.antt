-- A small shelf and its frames, worked by hand: the definitions yield what they should.
use Prim.Native.Nat.{ℕ}
use mathlib.Core.Path.{◌≡◌, refl}
use mathlib.Core.Bool.{Bool, true, false}
use mathlib.Core.List.{List, [], ◌∷◌}
use lib.ListN.{replicate}
use Rattle.frames.specs.Bytes.{number_at, bytes_of}
use Rattle.frames.specs.Refusals.{Result, refused, good, refusal}
use Rattle.frames.specs.ConfigureRoute.{route_frame, route_fixed, route_read}
use Rattle.shelves.specs.PlainTable.{empty, result_of, table_answers, table_after, table_left}
use Rattle.shelves.specs.Shelf.{are_kinds, can_be_told, kind_in, fresh_shelf, loaded, after_read, stepped, entry_at, disabled_at, shelf_entries}
use Rattle.shelves.specs.declared.Shelf.{Shelf}

-- a phy count out of range, R out of range, fewer or more kinds than phys, a kind above 2; R 0 and 16 phys can be told
tells : (can_be_told 4 2 (1 ∷ 0 ∷ 2 ∷ 1 ∷ []) ≡ true)
    × ((can_be_told 1 0 (1 ∷ []) ≡ true)
    × ((can_be_told 16 64 (replicate 16 2) ≡ true)
    × ((can_be_told 0 2 [] ≡ false)
    × ((can_be_told 17 2 (replicate 17 1) ≡ false)
    × ((can_be_told 1 65 (1 ∷ []) ≡ false)
    × ((can_be_told 2 64 (1 ∷ []) ≡ false)
    × ((can_be_told 1 64 (1 ∷ 1 ∷ []) ≡ false)
    × (can_be_told 2 64 (2 ∷ 3 ∷ []) ≡ false))))))))
unfolding can_be_told are_kinds
tells = (refl, (refl, (refl, (refl, (refl, (refl, (refl, (refl, refl))))))))

-- phys 0 to 3: table, vacant, other, table; R is 2
abbrev kinds : List ℕ
kinds = 1 ∷ 0 ∷ 2 ∷ 1 ∷ []

abbrev shelf : Shelf
shelf = fresh_shelf 4 2 kinds

-- a request, and what a shelf answers to it and holds after it
abbrev frame : ℕ → ℕ → ℕ → Bool → List ℕ
frame phy index address disabled = route_frame (record { length = 0; phy = record { 0 = phy }; index = record { 0 = index }; address = address; disabled = disabled })

abbrev answer : Shelf → List ℕ → Result ℕ
answer s f = (stepped s f).answer

abbrev then : Shelf → List ℕ → Shelf
then s f = (stepped s f).shelf

-- no such phy; a vacant one, also with an index not below R; no table phy; an index equal to R; a phy that the reader refuses, a length that it
-- refuses; two requests that are loaded, one over the other
abbrev sent : List (List ℕ)
sent = frame 4 0 7 false ∷ frame 1 0 7 false ∷ frame 1 2 7 false ∷ frame 2 0 7 false ∷ frame 3 2 7 false ∷ frame 128 0 7 false ∷ [] ∷ frame 3 1 7 false ∷ frame 3 1 8 true ∷ []

abbrev told_back : List (Result ℕ)
told_back =
    good 0x10 ∷ good 0x16 ∷ good 0x16 ∷ good 0x11 ∷ good 0x11 ∷ refused (refusal 15 0 0) ∷ refused (refusal 1 0 0) ∷ good 0x00 ∷ good 0x00 ∷ []

abbrev all : (Shelf → List ℕ → Result ℕ) → List (List ℕ) → List (Result ℕ)
all a [] = []
all a (f ∷ fs) = a shelf f ∷ all a fs

-- on the plain table, and on the shelf
answered : (table_answers 4 2 (kind_in kinds) sent ≡ told_back) × (all answer sent ≡ told_back)
unfolding table_answers after_read result_of route_read route_fixed route_frame number_at bytes_of
answered = (refl, refl)

lasting : (table_left 4 2 (kind_in kinds) empty sent 3 1 ≡ (8, true)) × (table_left 4 2 (kind_in kinds) empty sent 3 0 ≡ (0, true))
unfolding table_left table_after result_of route_read route_fixed route_frame number_at bytes_of
lasting = (refl, refl)

-- the forty bytes that smp_conf_route_info of smp_utils sends before the CRC: for phy 3, route index 1 and address 50000000000000b1h, and,
-- disabled, for phy 0, route index 0 and address 5000c50012345678h
first : List ℕ
first = 0x40 ∷ 0x90 ∷ 0 ∷ 9 ∷ 0 ∷ 0 ∷ 0 ∷ 1 ∷ 0 ∷ 3 ∷ 0 ∷ 0 ∷ 0 ∷ 0 ∷ 0 ∷ 0 ∷ 0x50 ∷ 0 ∷ 0 ∷ 0 ∷ 0 ∷ 0 ∷ 0 ∷ 0xb1 ∷ replicate 16 0

second : List ℕ
second = 0x40 ∷ 0x90 ∷ 0 ∷ 9 ∷ 0 ∷ 0 ∷ 0 ∷ 0 ∷ 0 ∷ 0 ∷ 0 ∷ 0 ∷ 0x80 ∷ 0 ∷ 0 ∷ 0 ∷ 0x50 ∷ 0 ∷ 0xc5 ∷ 0 ∷ 0x12 ∷ 0x34 ∷ 0x56 ∷ 0x78 ∷ replicate 16 0

smp_utils : (answer shelf first ≡ good 0x00)
    × ((entry_at (then shelf first) 3 1 ≡ 0x50000000000000b1)
    × ((disabled_at (then shelf first) 3 1 ≡ 0)
    × ((answer (then shelf first) second ≡ good 0x00)
    × ((entry_at (then (then shelf first) second) 0 0 ≡ 0x5000c50012345678)
    × ((disabled_at (then (then shelf first) second) 0 0 ≡ 1)
    × (entry_at (then (then shelf first) second) 3 1 ≡ 0x50000000000000b1))))))
unfolding after_read loaded entry_at disabled_at result_of route_read route_fixed number_at first second
smp_utils = (refl, (refl, (refl, (refl, (refl, (refl, refl))))))

-- what can be read of a fresh shelf: an entry of a table phy is zero and disabled; a vacant phy, another kind, an index equal to R and a phy
-- past the last have none
fresh-entries : (entry_at shelf 3 1 ≡ 0)
    × ((disabled_at shelf 3 1 ≡ 1)
    × ((disabled_at shelf 1 0 ≡ 2)
    × ((disabled_at shelf 2 0 ≡ 2)
    × ((disabled_at shelf 3 2 ≡ 2)
    × (disabled_at shelf 4 0 ≡ 2)))))
unfolding entry_at disabled_at result_of
fresh-entries = (refl, (refl, (refl, (refl, (refl, refl)))))

-- a struct in which anything stands: more than 16 phys and R above 64, kinds and bytes of any value
abbrev anything : Shelf
anything = record {
  entries = replicate shelf_entries 9;
  disabled = replicate shelf_entries 255;
  kinds = 1 ∷ 7 ∷ replicate 14 1;
  route_indexes = 70000;
  phys = 4294967295;
}

-- and one that was cleared to zero: it has no phys
abbrev cleared : Shelf
cleared = record {
  entries = replicate shelf_entries 0;
  disabled = replicate shelf_entries 0;
  kinds = replicate 16 0;
  route_indexes = 0;
  phys = 0;
}

total : (answer anything (frame 16 0 7 false) ≡ good 0x10)
    × ((answer anything (frame 1 0 7 false) ≡ good 0x11)
    × ((answer anything (frame 15 64 7 false) ≡ good 0x11)
    × ((answer anything (frame 15 63 7 false) ≡ good 0x00)
    × ((entry_at (then anything (frame 15 63 7 false)) 15 63 ≡ 7)
    × ((disabled_at anything 15 62 ≡ 1)
    × (answer cleared (frame 0 0 7 false) ≡ good 0x10))))))
unfolding after_read loaded entry_at disabled_at result_of route_read route_fixed route_frame number_at bytes_of
total = (refl, (refl, (refl, (refl, (refl, (refl, refl))))))
