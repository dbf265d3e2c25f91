-- The text of the listing, in ASCII: numbers, lines, the refusal line and the line of totals.
use Rattle.std.specs.Prelude.{ℕ, zero, suc, ◌^◌, cond, List, [], ◌∷◌, ◌++◌, leb}
use Rattle.io.specs.Digits.{last_digits}

-- the exponent of the largest power of ten that n reaches, up to the given one
unfoldable pub tens : ℕ → ℕ → ℕ
tens zero n = zero
tens (suc k) n = cond (leb (10 ^ suc k) n) (suc k) (tens k n)

-- a number below 2 ^ 64 in decimal digits, as few as hold it
unfoldable pub decimal_of : ℕ → List ℕ
decimal_of n = last_digits 10 (suc (tens 19 n)) n

-- a 64-bit word in 16 hexadecimal digits
unfoldable pub hex_of : ℕ → List ℕ
hex_of w = last_digits 16 16 w

-- a decimal number and one byte after it
unfoldable pub field_of : ℕ → ℕ → List ℕ
field_of n after = decimal_of n ++ (after ∷ [])

-- an entry and a newline
unfoldable pub entry_of : ℕ → List ℕ
entry_of w = hex_of w ++ (10 ∷ [])

-- a line: expander, phy, index, entry
unfoldable pub line_of : ℕ → ℕ → ℕ → ℕ → List ℕ
line_of i p k w = field_of i 32 ++ (field_of p 32 ++ (field_of k 32 ++ entry_of w))

-- "refused ", a refusal's three numbers, and a newline
unfoldable pub refused_of : ℕ → ℕ → ℕ → List ℕ
refused_of n i p =
    (114 ∷ 101 ∷ 102 ∷ 117 ∷ 115 ∷ 101 ∷ 100 ∷ 32 ∷ []) ++ (field_of n 32 ++ (field_of i 32 ++ field_of p 10))

-- "tables ", their number, "entries ", the number of words, and a newline
unfoldable pub totals_of : ℕ → ℕ → List ℕ
totals_of t w =
    (116 ∷ 97 ∷ 98 ∷ 108 ∷ 101 ∷ 115 ∷ 32 ∷ [])
    ++ (field_of t 32 ++ ((101 ∷ 110 ∷ 116 ∷ 114 ∷ 105 ∷ 101 ∷ 115 ∷ 32 ∷ []) ++ field_of w 10))

-- "too long" and a newline
abbrev pub too_long : List ℕ
too_long = 116 ∷ 111 ∷ 111 ∷ 32 ∷ 108 ∷ 111 ∷ 110 ∷ 103 ∷ 10 ∷ []
