-- Cause 23: a chain of more expanders than the setting allows.
use Rattle.std.specs.Prelude.{ℕ, ◌/◌, ◌%◌, ◌≤◌, ◌<◌, Bool, ◌||◌, List, length, leb}
use Rattle.frames.specs.Refusals.{Result, good, unless, refusal}
use Rattle.files.specs.Lists.{up_to}
use Rattle.files.specs.Domain.{Domain}
use Rattle.wiring.specs.graph.Graph.{strip}
use Rattle.wiring.specs.graph.Neighbours.{neighbours}
use Rattle.wiring.specs.graph.Devices.{ChainIn}

-- A chain has no more expanders than there are. Where fewer are allowed: a round takes away both ends of every chain, and after half as
-- many rounds as a chain may have expanders none is left, or one where that number is odd. Past causes 11 and 12 this says exactly that no
-- chain has more: `within_iff` (proofs/graph/LongChains)
unfoldable pub chains_within : ℕ → Domain → Bool
chains_within most d = leb (length d) most || leb (length (strip (length d) (neighbours d) (most / 2) (up_to (length d)))) (most % 2)

-- 23: a chain of more than so many expanders
unfoldable pub unlong : ℕ → Domain → Result Domain
unlong most d = unless (chains_within most d) (refusal 23 0 0) (good d)

-- in document 01's words: a chain of more than so many expanders
pub record LongChain (most : ℕ) (d : Domain) : Type 0 where
  pub from : ℕ
  pub to : ℕ
  pub list : List ℕ
  pub chain : ChainIn d from to list
  pub more : most < length list

-- no chain has more than so many
abbrev pub ShortChains : ℕ → Domain → Type 0
ShortChains most d = (i j : ℕ) (l : List ℕ) → ChainIn d i j l → length l ≤ most
