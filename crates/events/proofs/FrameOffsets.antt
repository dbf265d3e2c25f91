-- The offsets of a file's frames once more, as the reader goes on from frame to frame: by one recursion over expanders that ends at a phy.
use mathlib.Core.Path.{◌≡◌, refl, ap, ◌∙◌}
use mathlib.Core.List.{List}
use Prim.Native.Nat.{ℕ, zero, suc, ◌+◌}
use native.Mathlib.Omega.{arith}
use Rattle.frames.specs.Bytes.{byte}
use Rattle.frames.specs.declared.Response.{Response}
use Rattle.frames.specs.declared.Response.TheVariants.{ReportGeneral, Discover}
use Rattle.offsets.specs.Offsets.{size_from, phys_after, phys_from, expanders_after, phy_offset}

-- the place after the frame at offset `at`
unfoldable pub past_frame : Response → List ℕ → ℕ → ℕ
past_frame kind file at = at + size_from kind file at

-- the place after so many phys' frames from offset `at` on
unfoldable pub past_phys : List ℕ → ℕ → ℕ → ℕ
past_phys file zero at = at
past_phys file (suc count) at = past_phys file count (past_frame Discover file at)

-- where the frame of phy p of the i-th expander from offset `at` on starts
unfoldable pub phy_frame : List ℕ → ℕ → ℕ → ℕ → ℕ
phy_frame file zero p at = past_phys file p (past_frame ReportGeneral file (at + 8))
phy_frame file (suc i) p at = phy_frame file i p (past_phys file (byte file (at + 8 + 9)) (past_frame ReportGeneral file (at + 8)))

module _ (file : List ℕ) where
  phys-offset : (n at : ℕ) → past_phys file n at ≡ phys_after file n at
  unfolding past_phys past_frame phys_after
  phys-offset zero at = refl
  phys-offset (suc n) at = phys-offset n (at + size_from Discover file at)

  frame-from : (i p at : ℕ) → phy_frame file i p at ≡ phys_after file p (phys_from file (expanders_after file i at))
  unfolding phy_frame past_frame expanders_after
  frame-from zero p at = phys-offset p (phys_from file at)
  frame-from (suc i) p at =
      let e : at + 8 + 9 ≡ at + 17 = omega arith in
      ap (phy_frame file i p) (ap (λ k. past_phys file (byte file k) (phys_from file at)) e ∙ phys-offset (byte file (at + 17)) (phys_from file at))
      ∙ frame-from i p (phys_after file (byte file (at + 17)) (phys_from file at))

  pub frame-offset : (i p : ℕ) → phy_frame file i p 2 ≡ phy_offset file i p
  frame-offset i p = frame-from i p 2
