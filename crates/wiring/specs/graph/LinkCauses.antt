-- Causes 11, 12 and 23 in order: loops, chains to expander 0, and long chains.
use Rattle.std.specs.Prelude.{ℕ, Bool, cond, List, [], ◌∷◌, length}
use Rattle.frames.specs.Refusals.{Result, refused, good, unless, then, refusal}
use Rattle.files.specs.Lists.{up_to}
use Rattle.files.specs.Domain.{Domain}
use Rattle.wiring.specs.phys.PhyCauses.{wired_domain}
use Rattle.wiring.specs.graph.Graph.{loopfree, reached}
use Rattle.wiring.specs.graph.Neighbours.{neighbours}
use Rattle.wiring.specs.graph.LongChains.{unlong}

-- 11: loop. `loopfree` says exactly that there is none: `loopfree_iff` (proofs/graph/Loops)
unfoldable pub unlooped : Domain → Result Domain
unlooped d = unless (loopfree (length d) (neighbours d)) (refusal 11 0 0) (good d)

-- a chain joins expander 0 to expander i. `reached` says exactly that there is one: `reached_iff` (proofs/graph/ReachedByChain)
unfoldable pub joined : Domain → ℕ → Bool
joined d i = reached (length d) (neighbours d) 0 i

-- 12: the lowest of these expanders without a chain to expander 0
unfoldable pub joined_in : List ℕ → Domain → Result Domain
joined_in [] d = good d
joined_in (i ∷ is) d = cond (joined d i) (joined_in is d) (refused (refusal 12 i 0))

-- 12 of all expanders
abbrev pub joined_domain : Domain → Result Domain
joined_domain d = joined_in (up_to (length d)) d

-- causes 11, 12 and 23 in order, where a chain may have so many expanders; 13 is withdrawn (document 02, paper 3)
unfoldable pub linked_domain : ℕ → Domain → Result Domain
linked_domain chain d =
    then (unlooped d) (λ _.
    then (joined_domain d) (λ _.
    unlong chain d))

-- causes 7 to 12 and 23 in order
unfoldable pub checked_domain : ℕ → Domain → Result Domain
checked_domain chain d = then (wired_domain d) (λ _. linked_domain chain d)
