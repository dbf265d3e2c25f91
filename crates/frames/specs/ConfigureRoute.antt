-- CONFIGURE ROUTE INFORMATION request: 40 bytes.
use Rattle.std.specs.Prelude.{ℕ, Bool, cond, ◌&&◌, ◌||◌, List, [], ◌∷◌, ◌++◌, length, drop, replicate, eqb, leb}
use Rattle.frames.specs.Bytes.{byte, bits, number_at, bytes_of}
use Rattle.frames.specs.Refusals.{Result, refused, good, unless, refusal}
use Rattle.frames.specs.declared.Route.{Route}

-- byte 3, REQUEST LENGTH: 00h or 09h
abbrev pub is_length : ℕ → Bool
is_length b = eqb b 0x00 || eqb b 0x09

-- byte 12: 80h if the entry is disabled, else 00h
abbrev pub disable_byte : Bool → ℕ
disable_byte disabled = cond disabled 0x80 0x00

-- the forty bytes, by offset: 0 to 2; REQUEST LENGTH at 3; 4 and 5; route index at 6; 8; phy at 9; 10 and 11; 12; 13 to 15; address at 16; 24 to 39
unfoldable pub route_frame : Route → List ℕ
route_frame q =
    0x40 ∷ 0x90 ∷ 0 ∷ q.length ∷ 0 ∷ 0 ∷ (bytes_of 2 q.index.0 ++ (0 ∷ q.phy.0 ∷ 0 ∷ 0 ∷ disable_byte q.disabled ∷ 0 ∷ 0 ∷ 0
    ∷ (bytes_of 8 q.address ++ replicate 16 0)))

-- writing into so many bytes: REQUEST LENGTH (2), phy (15), room (16), or the forty bytes
unfoldable pub route_written : ℕ → Route → Result (List ℕ)
route_written room q =
    unless (is_length q.length) (refusal 2 0 0)
    (unless (leb q.phy.0 127) (refusal 15 0 0)
    (unless (leb 40 room) (refusal 16 0 0)
    (good (route_frame q))))

-- what the answer to writing says in document 01's terms, given the request
abbrev pub write_answer : Route → Result Unit → Result (List ℕ)
write_answer q (refused r) = refused r
write_answer q (good done) = good (route_frame q)

-- the whole buffer after writing, and the part that is handed back: empty where refused
abbrev pub buffer_after : List ℕ → Result (List ℕ) → List ℕ
buffer_after buf (refused r) = buf
buffer_after buf (good frame) = frame ++ drop 40 buf

abbrev pub part_after : Result (List ℕ) → List ℕ
part_after (refused r) = []
part_after (good frame) = frame

-- bytes 0, 1 and 3
unfoldable pub route_fixed : List ℕ → Bool
route_fixed s = eqb (byte s 0) 0x40 && (eqb (byte s 1) 0x90 && is_length (byte s 3))

-- bit 7 of byte 12: the entry is disabled
abbrev pub is_disabled : List ℕ → Bool
is_disabled s = eqb (bits 7 1 (byte s 12)) 1

-- reading: length (1), bytes 0, 1 and 3 (2), phy (15)
unfoldable pub route_read : List ℕ → Result Route
route_read s =
    unless (eqb (length s) 40) (refusal 1 0 0)
    (unless (route_fixed s) (refusal 2 0 0)
    (unless (leb (byte s 9) 127) (refusal 15 0 0)
    (good (record { length = byte s 3; phy = record { 0 = byte s 9 }; index = record { 0 = number_at s 6 2 }; address = number_at s 16 8; disabled = is_disabled s }))))
