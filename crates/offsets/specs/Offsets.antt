-- Where the frames of a domain file stand, in bytes from its start.
use Rattle.std.specs.Prelude.{ℕ, zero, suc, ◌+◌, ◌≤◌, ◌*◌, cond, List, length, eqb}
use Rattle.frames.specs.Bytes.{byte}
use Rattle.frames.specs.Sizes.{short_size, long_size}
use Rattle.frames.specs.declared.Response.{Response}
use Rattle.frames.specs.declared.Response.TheVariants.{ReportGeneral, Discover}

-- the size of the frame at offset `at` of a file that was read: short where its byte 3 is zero, else long
abbrev pub size_from : Response → List ℕ → ℕ → ℕ
size_from kind file at = cond (eqb (byte file (at + 3)) 0) (short_size kind) (long_size kind)

-- how many bytes an expander of so many phys takes in a file at most: its address, a long REPORT GENERAL response, and a long DISCOVER response
-- for each phy
abbrev pub longest_unit : ℕ → ℕ
longest_unit phys = 8 + long_size ReportGeneral + long_size Discover * phys

-- the place after so many phys, the first of which stands at offset `at`
unfoldable pub phys_after : List ℕ → ℕ → ℕ → ℕ
phys_after file zero at = at
phys_after file (suc count) at = phys_after file count (at + size_from Discover file at)

-- the place of the phys of the expander at offset `at`: after its address and its REPORT GENERAL response
abbrev pub phys_from : List ℕ → ℕ → ℕ
phys_from file at = at + 8 + size_from ReportGeneral file (at + 8)

-- the place after so many expanders, the first of which stands at offset `at`; byte 9 of REPORT GENERAL is the number of phys
unfoldable pub expanders_after : List ℕ → ℕ → ℕ → ℕ
expanders_after file zero at = at
expanders_after file (suc count) at = expanders_after file count (phys_after file (byte file (at + 17)) (phys_from file at))

-- the place of expander i
abbrev pub expander_offset : List ℕ → ℕ → ℕ
expander_offset file i = expanders_after file i 2

-- the place of the frame of phy p of expander i
abbrev pub phy_offset : List ℕ → ℕ → ℕ → ℕ
phy_offset file i p = phys_after file p (phys_from file (expander_offset file i))

-- the frame of phy p of expander i lies within the file, after the header
pub record Placed (file : List ℕ) (i p : ℕ) : Type 0 where
  pub after : 2 ≤ phy_offset file i p
  pub within : phy_offset file i p + short_size Discover ≤ length file
