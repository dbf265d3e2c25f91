-- Devices, loops and chains of a domain in document 01's words: what the closing theorems speak of.
use Rattle.std.specs.Prelude.{ℕ, ◌<◌, ◌≡◌, ◌⊎◌, List, [], ◌∷◌, length, T}
use Rattle.files.specs.Domain.{Domain, expander_at, phy_at, address_of, is_table, to_end, to_expander}
use Rattle.wiring.specs.phys.PhyCauses.{far_phy}
use Rattle.wiring.specs.graph.Graph.{Loop, Chain}
use Rattle.wiring.specs.graph.Neighbours.{neighbours}

-- "loop" and "chain" of expanders: cabled means neighbours
abbrev pub LoopIn : Domain → Type 0
LoopIn d = Loop (length d) (neighbours d)

abbrev pub ChainIn : Domain → ℕ → ℕ → List ℕ → Type 0
ChainIn d = Chain (length d) (neighbours d)

-- phy p of expander i is attached to expander j
pub record AttachedTo (d : Domain) (i p j : ℕ) : Type 0 where
  pub expander : T (to_expander (phy_at d i p))
  pub address : address_of (phy_at d i p) ≡ (expander_at d j).address

-- "table-to-table link" (document 02, paper 3): expander i has a table phy that is attached to a table phy of expander j
pub record TableToTable (d : Domain) (i j : ℕ) : Type 0 where
  pub phy : ℕ
  pub to : AttachedTo d i phy j
  pub routed : T (is_table (phy_at d i phy))
  pub double : T (is_table (far_phy d (phy_at d i phy)))

-- i ∷ l crosses no such link
abbrev pub Clear : Domain → ℕ → List ℕ → Type 0
Clear d i [] = Unit {0}
Clear d i (j ∷ l) = ¬ (TableToTable d i j) × Clear d j l

-- "a chain that crosses no such link"
abbrev pub ClearChain : Domain → List ℕ → Type 0
ClearChain d [] = Unit {0}
ClearChain d (i ∷ l) = Clear d i l

-- the domain has no such link
abbrev pub NoTableToTable : Domain → Type 0
NoTableToTable d = (i j : ℕ) → ¬ (TableToTable d i j)

-- the home of address s is expander m: m bears s, or has at an attached phy an end device that does
abbrev pub Home : Domain → ℕ → ℕ → Type 0
Home d s m = ((expander_at d m).address ≡ s) ⊎ ((p : ℕ) × T (to_end (phy_at d m p)) × (address_of (phy_at d m p) ≡ s))

-- a device of the domain bears s
abbrev pub Borne : Domain → ℕ → Type 0
Borne d s = (m : ℕ) × (m < length d) × Home d s m
