-- Rows of bits, most significant bit first: a number's bits, the number in the first bits of a row, the bits of bytes, and
-- disable bits.
use Rattle.std.specs.Prelude.{ℕ, zero, suc, ◌+◌, ◌*◌, ◌/◌, ◌%◌, ◌^◌, cond, List, [], ◌∷◌, ◌++◌, map, length, drop, eqb, leb}

-- the lowest bits of a number, as many as `width`
unfoldable pub number_bits : ℕ → ℕ → List ℕ
number_bits zero x = []
number_bits (suc width) x = x / 2 ^ width % 2 ∷ number_bits width x

-- the number in the first bits of a row, as many as `width`; bits past the end count as 0
unfoldable pub field : ℕ → List ℕ → ℕ
field width [] = 0
field zero (b ∷ l) = 0
field (suc width) (b ∷ l) = b * 2 ^ width + field width l

-- the bits of bytes, eight for each
unfoldable pub bits_of : List ℕ → List ℕ
bits_of [] = []
bits_of (b ∷ s) = number_bits 8 b ++ bits_of s

-- a number with bit b above its lowest k bits
abbrev pub with_bit : ℕ → ℕ → ℕ → ℕ
with_bit v k b = v / 2 ^ suc k * 2 ^ suc k + (b * 2 ^ k + v % 2 ^ k)

-- as many bytes as `count` of a row of bits; zero bits fill them
unfoldable pub packed_in : ℕ → List ℕ → List ℕ
packed_in zero l = []
packed_in (suc count) l = field 8 l ∷ packed_in count (drop 8 l)

-- how many bytes so many bits take: their number over eight, rounded up
abbrev pub bytes_for : ℕ → ℕ
bytes_for n = (n + 7) / 8

-- a row of bits as bytes: zero bits fill the last one
abbrev pub packed : List ℕ → List ℕ
packed l = packed_in (bytes_for (length l)) l

-- a disable bit for each word, set exactly where the word is zero
abbrev pub zero_bit : ℕ → ℕ
zero_bit w = cond (eqb w 0) 1 0

abbrev pub zero_bits : List ℕ → List ℕ
zero_bits words = map zero_bit words

-- bytes after the words' disable bits were put at their front, padding bits cleared; as they were where there are too few
unfoldable pub marked : List ℕ → List ℕ → List ℕ
marked words before = cond (leb (bytes_for (length words)) (length before)) (packed (zero_bits words) ++ drop (bytes_for (length words)) before) before
