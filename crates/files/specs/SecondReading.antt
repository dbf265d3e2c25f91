-- The second reading of a file, which refuses nothing: of a file that the first one passed it gets the domain.
use Rattle.std.specs.Prelude.{ℕ, zero, suc, ◌+◌, ◌≡◌, List, [], ◌∷◌}
use Rattle.std.proofs.lemmas.List.Edits.{sets}
use Rattle.frames.specs.Refusals.{Result, refused, good}
use Rattle.files.specs.declared.Setting.{Setting}
use Rattle.files.specs.declared.ExpanderUnit.{ExpanderUnit}
use Rattle.files.specs.declared.Phy.{Phy}
use Rattle.files.specs.declared.Phy.TheVariants.{Vacant}
use Rattle.files.specs.Domain.{Domain}
use Rattle.files.specs.File.{parsed, phy_unit, expander_unit, expander_of}
use Rattle.files.specs.declared.Parsed.{Parsed}
use Rattle.files.specs.Rows.{phy_words, row_of}

-- where a phy's unit is refused: a vacant phy, and the place stays
abbrev pub phy_got : Result (Parsed Phy) → Phy
phy_got (refused r) = Vacant 0
phy_got (good u) = u.value

abbrev pub next_got : ℕ → Result (Parsed Phy) → ℕ
next_got at (refused r) = at
next_got at (good u) = u.next

abbrev pub and_phys : Phy → Parsed (List Phy) → Parsed (List Phy)
and_phys φ φs = parsed (φ ∷ φs.value) φs.next

unfoldable pub phys_got : List ℕ → ℕ → ℕ → ℕ → ℕ → ℕ → Parsed (List Phy)
phys_got file own_address i zero p at = parsed [] at
phys_got file own_address i (suc count) p at =
    and_phys (phy_got (phy_unit file own_address i p at)) (phys_got file own_address i count (p + 1) (next_got at (phy_unit file own_address i p at)))

-- the phys of an expander's unit
abbrev pub phys_after : List ℕ → ℕ → Parsed ExpanderUnit → Parsed (List Phy)
phys_after file i u = phys_got file u.value.address i u.value.phys 0 u.next

-- where an expander's unit is refused: no expander more
abbrev pub then_got : Result (Parsed ExpanderUnit) → (Parsed ExpanderUnit → Domain) → Domain
then_got (refused r) k = []
then_got (good u) k = k u

unfoldable pub domain_got : Setting → List ℕ → ℕ → ℕ → ℕ → Domain
domain_got most file zero i at = []
domain_got most file (suc count) i at =
    then_got (expander_unit most file [] i at) (λ u.
    expander_of u.value (phys_after file i u).value ∷ domain_got most file count (i + 1) (phys_after file i u).next)

-- the words of phys stored in a row, and the place after them
pub record PhysPut (φs : Parsed (List Phy)) (next : ℕ) (before after : List ℕ) : Type 0 where
  pub words : after ≡ sets before 2 (phy_words φs.value)
  pub place : next ≡ φs.next

-- an expander's row, and the place after its phys
pub record RowPut (u : ExpanderUnit) (φs : Parsed (List Phy)) (next : ℕ) (after : List ℕ) : Type 0 where
  pub words : after ≡ row_of (expander_of u φs.value)
  pub place : next ≡ φs.next
