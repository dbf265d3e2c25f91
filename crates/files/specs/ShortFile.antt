-- The short file of a domain file: every long frame is cut to its short one. Units are cut as the reader reads them, and from the first
-- refused unit on the bytes stay.
use Rattle.std.specs.Prelude.{ℕ, zero, suc, ◌+◌, List, [], ◌∷◌, ◌++◌, take, drop}
use Rattle.frames.specs.Refusals.{Result, refused, good}
use Rattle.frames.specs.Sizes.{short_frame}
use Rattle.frames.specs.declared.Response.TheVariants.{ReportGeneral, Discover}
use Rattle.files.specs.declared.Setting.{Setting}
use Rattle.files.specs.File.{phy_unit, expander_unit, header_unit}

module _ {A : Type 0} where
  -- the bytes as they stand where a unit is refused, else what is made of it
  abbrev pub or_stay : List ℕ → Result A → (A → List ℕ) → List ℕ
  or_stay bytes (refused r) make = bytes
  or_stay bytes (good a) make = make a

-- from offset `at` on: the units of the last `count` phys of expander i, from phy p on, then `rest`, which starts after them
unfoldable pub short_phys : List ℕ → ℕ → ℕ → ℕ → ℕ → ℕ → (ℕ → List ℕ) → List ℕ
short_phys file own_address i zero p at rest = rest at
short_phys file own_address i (suc count) p at rest =
    or_stay (drop at file) (phy_unit file own_address i p at) (λ u.
    short_frame Discover (drop at file) ++ short_phys file own_address i count (p + 1) u.next rest)

-- from offset `at` on: the units of the last `count` expanders, from expander i on, and bytes after the last unit
unfoldable pub short_expanders : Setting → List ℕ → ℕ → ℕ → ℕ → List ℕ → List ℕ
short_expanders most file zero i at used = drop at file
short_expanders most file (suc count) i at used =
    or_stay (drop at file) (expander_unit most file used i at) (λ u.
    take 8 (drop at file) ++ (short_frame ReportGeneral (drop (at + 8) file)
    ++ short_phys file u.value.address i u.value.phys 0 u.next (λ next.
    short_expanders most file count (i + 1) next (used ++ (u.value.address ∷ [])))))

unfoldable pub short_file : Setting → List ℕ → List ℕ
short_file most file = or_stay file (header_unit most file) (λ n. take 2 file ++ short_expanders most file n 0 2 [])
