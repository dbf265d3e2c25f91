-- The joined file in bytes: the cable in the frame of a phy, and the two files one after the other.
use Rattle.std.specs.Prelude.{ℕ, ◌+◌, ◌*◌, ◌/◌, ◌%◌, List, ◌∷◌, ◌++◌, take, drop}
use Rattle.frames.specs.Bytes.{byte, number_at, bytes_of}
use Rattle.offsets.specs.Offsets.{expander_offset, phy_offset}

-- the SAS address of expander i
abbrev pub address_in : List ℕ → ℕ → ℕ
address_in file i = number_at file (expander_offset file i) 8

-- byte 12 of a DISCOVER response with type 2 in bits 6 to 4
abbrev pub typed_two : ℕ → ℕ
typed_two b = b / 128 * 128 + 32 + b % 16

-- a DISCOVER response, short or long, with type 2, attached address s in bytes 24 to 31 and attached phy q in byte 32; no other bit changes
unfoldable pub cabled_frame : List ℕ → ℕ → ℕ → List ℕ
cabled_frame f s q = take 12 f ++ (typed_two (byte f 12) ∷ (take 11 (drop 13 f) ++ (bytes_of 8 s ++ (q ∷ drop 33 f))))

-- a file with the cable in the frame at offset `at`
unfoldable pub cabled_at : List ℕ → ℕ → ℕ → ℕ → List ℕ
cabled_at file at s q = take at file ++ cabled_frame (drop at file) s q

-- phy p of expander i of the first file cabled to phy q of expander j of the second: the header with the sum of the counts, the first's expanders,
-- then the second's
unfoldable pub joined_file : List ℕ → ℕ → ℕ → List ℕ → ℕ → ℕ → List ℕ
joined_file first i p second j q =
    0x10 ∷ (byte first 1 + byte second 1)
    ∷ (drop 2 (cabled_at first (phy_offset first i p) (address_in second j) q) ++ drop 2 (cabled_at second (phy_offset second j q) (address_in first i) p))
