-- Cables, one way, as sets: the numbers of the expanders that an expander's phys are attached to.
use Rattle.std.specs.Prelude.{ℕ, ◌≤◌, ◌<◌, ◌≡◌, Bool, ◌&&◌, List, length, get_or, eqb}
use Rattle.files.specs.declared.Phy.{Phy}
use Rattle.files.specs.Lists.{any}
use Rattle.files.specs.Domain.{Domain, expander_at, address_of, to_expander, number_of}
use Rattle.wiring.specs.graph.Rounds.{has_bit}
use Rattle.wiring.specs.index.AddressIndex.{IndexedFirst}
use Rattle.files.specs.Settings.{most_expanders}

-- attached to an expander, whose number is m
abbrev pub leads_to : Domain → ℕ → Phy → Bool
leads_to d m φ = to_expander φ && eqb (number_of d (address_of φ)) m

-- the set of the numbers to which these phys lead
pub record CableSet (d : Domain) (φs : List Phy) (w : ℕ) : Type 0 where
  pub bit : (m : ℕ) → m < most_expanders → has_bit w m ≡ any (leads_to d m) φs

-- such a set for each of the first n expanders
abbrev pub CableSets : Domain → ℕ → List ℕ → Type 0
CableSets d n words = (i : ℕ) → i < n → CableSet d (expander_at d i).phys (get_or words i 0)

-- the sets of all expanders, and who has the addresses of their slots
pub record Leading (d : Domain) (first words : List ℕ) : Type 0 where
  pub index : IndexedFirst d first
  pub room : length d ≤ length words
  pub sets : CableSets d (length d) words

-- and two expanders of the domain
abbrev pub LeadingPair : Domain → List ℕ → List ℕ → ℕ → ℕ → Type 0
LeadingPair d first words i j = Leading d first words × ((i < length d) × (j < length d))
