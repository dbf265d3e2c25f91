-- The file that a file's card gives, in bytes of the first file: each frame becomes a short one that keeps its fields, and has zeros elsewhere.
-- `kept-file` (proofs/FileOfFile): it is the file of the first file's domain. Units are found as the reader reads them.
use Rattle.std.specs.Prelude.{ℕ, zero, suc, ◌+◌, ◌-◌, ◌*◌, Bool, true, false, List, [], ◌∷◌, ◌++◌, take, drop, replicate, eqb}
use Rattle.frames.specs.Bytes.{byte, bits}
use Rattle.files.specs.declared.Setting.{Setting}
use Rattle.files.specs.File.{phy_unit, expander_unit, header_unit}
use Rattle.files.specs.ShortFile.{or_stay}

-- the eight bytes from offset i on
abbrev pub eight : List ℕ → ℕ → List ℕ
eight s i = byte s i ∷ byte s (i + 1) ∷ byte s (i + 2) ∷ byte s (i + 3) ∷ byte s (i + 4) ∷ byte s (i + 5) ∷ byte s (i + 6) ∷ byte s (i + 7) ∷ []

-- REPORT GENERAL keeps bytes 6 and 7, 9, and bit 0 of byte 10
unfoldable pub kept_general : List ℕ → List ℕ
kept_general s = 0x41 ∷ 0 ∷ 0 ∷ 0 ∷ 0 ∷ 0 ∷ byte s 6 ∷ byte s 7 ∷ 0 ∷ byte s 9 ∷ bits 0 1 (byte s 10) ∷ replicate 17 0

-- bytes 24 to 32, unless nothing is attached
abbrev pub kept_end : Bool → List ℕ → List ℕ
kept_end true s = replicate 9 0
kept_end false s = eight s 24 ++ (byte s 32 ∷ [])

-- DISCOVER keeps its result; where that is zero also byte 9, bits 6 to 4 of byte 12, bytes 16 to 23, those of what is attached, and bits 3 to 0 of
-- byte 44
abbrev pub kept_by : Bool → List ℕ → List ℕ
kept_by false s = 0x41 ∷ 0x10 ∷ byte s 2 ∷ 0 ∷ replicate 48 0
kept_by true s =
    0x41 ∷ 0x10 ∷ 0 ∷ 0 ∷ 0 ∷ 0 ∷ 0 ∷ 0 ∷ 0 ∷ byte s 9 ∷ 0 ∷ 0 ∷ bits 4 3 (byte s 12) * 16 ∷ 0 ∷ 0 ∷ 0
    ∷ (eight s 16 ++ (kept_end (eqb (bits 4 3 (byte s 12)) 0) s ++ (replicate 11 0 ++ (bits 0 4 (byte s 44) ∷ replicate 7 0))))

unfoldable pub kept_discover : List ℕ → List ℕ
kept_discover s = kept_by (eqb (byte s 2) 0) s

-- the last `count` phys of expander i, from phy p and offset `at` on, then `rest`
unfoldable pub kept_phys : List ℕ → ℕ → ℕ → ℕ → ℕ → ℕ → (ℕ → List ℕ) → List ℕ
kept_phys file own_address i zero p at rest = rest at
kept_phys file own_address i (suc count) p at rest =
    or_stay [] (phy_unit file own_address i p at) (λ u.
    kept_discover (take (u.next - at) (drop at file)) ++ kept_phys file own_address i count (p + 1) u.next rest)

-- the last `count` expanders, from expander i and offset `at` on
unfoldable pub kept_expanders : Setting → List ℕ → ℕ → ℕ → ℕ → List ℕ → List ℕ
kept_expanders most file zero i at used = []
kept_expanders most file (suc count) i at used =
    or_stay [] (expander_unit most file used i at) (λ u.
    (eight file at ++ kept_general (take (u.next - (at + 8)) (drop (at + 8) file)))
    ++ kept_phys file u.value.address i u.value.phys 0 u.next (λ next.
    kept_expanders most file count (i + 1) next (used ++ (u.value.address ∷ []))))

unfoldable pub kept_file : Setting → List ℕ → List ℕ
kept_file most file = or_stay [] (header_unit most file) (λ n. 0x10 ∷ n ∷ kept_expanders most file n 0 2 [])
