-- Table entries as they are lent: words, and beside them bytes with a disable bit for each word.
use Rattle.std.specs.Prelude.{ℕ, ◌≤◌, cond, List, [], ◌∷◌, ◌++◌, length, get_or, drop, eqb}
use Rattle.wiring.specs.FrameDefinitions.{bits_of, bytes_for, marked}

-- the bits are packed most significant bit first, in the words' order
pub record Entries : Type 0 where
  pub words : List ℕ
  pub bits : List ℕ

abbrev pub entries : List ℕ → List ℕ → Entries
entries words bits = record { words = words; bits = bits }

-- how much is lent: so many words, and so many bytes for their bits
pub record Room : Type 0 where
  pub words : ℕ
  pub bits : ℕ

abbrev pub room_of : Entries → Room
room_of e = record { words = length e.words; bits = length e.bits }

-- neither 16 nor 18: there is room for n words, and for a bit of each
pub record Enough (n : ℕ) (room : Room) : Type 0 where
  pub words : n ≤ room.words
  pub bits : bytes_for n ≤ room.bits

-- these words put in front, with a bit for each that is set exactly where the word is zero; words and bytes after them stay
abbrev pub put_before : List ℕ → Entries → Entries
put_before l before = entries (l ++ drop (length l) before.words) (marked l before.bits)

-- which words count: one whose bit is set counts as 0, which no request asks for
unfoldable pub counted_by : List ℕ → List ℕ → List ℕ
counted_by bits [] = []
counted_by bits (w ∷ words) = cond (eqb (get_or bits 0 0) 0) w 0 ∷ counted_by (drop 1 bits) words

abbrev pub counted : Entries → List ℕ
counted e = counted_by (bits_of e.bits) e.words
