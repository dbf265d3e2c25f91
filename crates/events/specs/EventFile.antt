-- What an event does to the bytes of a domain file.
use Rattle.std.specs.Prelude.{ℕ, ◌+◌, ◌*◌, ◌/◌, ◌%◌, cond, List, set, eqb}
use Rattle.std.proofs.lemmas.List.Edits.{sets}
use Rattle.frames.specs.Bytes.{byte, bytes_of}
use Rattle.offsets.specs.Offsets.{phy_offset}
use Rattle.events.specs.declared.Event.{Event}

-- byte 12 with this attached device type in its bits 6 to 4, all other bits as they were
abbrev pub typed : ℕ → ℕ → ℕ
typed type b = b / 128 * 128 + (type * 16 + b % 16)

-- a file with the frame at offset `at` edited: a pull sets the type, a plug also attached phy and attached address
unfoldable pub frame_edited : ℕ → ℕ → List ℕ → List ℕ
frame_edited a at file =
    cond (eqb a 0) (set file (at + 12) (typed 0 (byte file (at + 12))))
    (sets (set (set file (at + 12) (typed 1 (byte file (at + 12)))) (at + 32) 0) (at + 24) (bytes_of 8 a))

-- the edited file
abbrev pub file_edited : List ℕ → Event → List ℕ
file_edited file v = frame_edited v.address (phy_offset file v.expander.0 v.phy.0) file
