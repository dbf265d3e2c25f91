-- One phy of a domain replaced by another, and its two words in rows.
use Rattle.std.specs.Prelude.{ℕ, ◌+◌, ◌*◌, ◌≡◌, cond, List, length, set, ltb}
use Rattle.files.specs.declared.Phy.{Phy}
use Rattle.files.specs.Domain.{Expander, Domain, expander_at, address_of}
use Rattle.files.specs.Rows.{phy_word, phy_in, domain_in, row_words}

-- an expander with its phy p replaced; as it was where it has no such phy
unfoldable pub with_phy : Expander → ℕ → Phy → Expander
with_phy e p φ = record { address = e.address; route_indexes = e.route_indexes; configurable = e.configurable; phys = set e.phys p φ }

-- a domain with phy p of expander i replaced; as it was where there is no such phy
unfoldable pub set_phy : Domain → ℕ → ℕ → Phy → Domain
set_phy d i p φ = set d i (with_phy (expander_at d i) p φ)

-- a phy as its two words hold it: itself where its type and attribute are below 4 and its other numbers fit (`held_same`, proofs/PhyReplaced)
abbrev pub phy_from_words : Phy → Phy
phy_from_words φ = phy_in (address_of φ) (phy_word φ)

-- rows with the two words of phy p of expander i replaced; as they were where there is no such phy
unfoldable pub with_words : List ℕ → ℕ → ℕ → Phy → List ℕ
with_words ws i p φ =
    cond (ltb p (length (expander_at (domain_in ws) i).phys))
    (set (set ws (row_words * i + 2 + 2 * p) (address_of φ)) (row_words * i + 2 + 2 * p + 1) (phy_word φ)) ws

-- rows before and after one phy is set: the words, and the domain that they hold
pub record PhySet (before after : List ℕ) (i p : ℕ) (φ : Phy) : Type 0 where
  pub words : after ≡ with_words before i p φ
  pub domain : domain_in after ≡ set_phy (domain_in before) i p (phy_from_words φ)
