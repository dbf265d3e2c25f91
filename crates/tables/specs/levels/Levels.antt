-- The levels of a table phy, by 07-300r1: which expanders lie beyond it, level by level.
use Rattle.std.specs.Prelude.{ℕ, zero, suc, Bool, cond, not, ◌&&◌, length}
use mathlib.Core.List.{List, [], ◌∷◌, ◌++◌, map, flat_map}
use Rattle.files.specs.declared.Phy.{Phy}
use Rattle.files.specs.Lists.{keep, is_in}
use Rattle.files.specs.Domain.{Domain, expander_at, phy_at, address_of, is_table, to_expander, number_of}
use Rattle.wiring.specs.phys.PhyCauses.{far_phy}

-- each number once, where it first stands, without those seen
unfoldable pub each_once : List ℕ → List ℕ → List ℕ
each_once seen [] = []
each_once seen (x ∷ xs) = cond (is_in x seen) (each_once seen xs) (x ∷ each_once (x ∷ seen) xs)

-- the levels go on at a table phy attached to an expander, and end where it is attached to a table phy (document 02, paper 3)
abbrev pub down : Domain → Phy → Bool
down d φ = to_expander φ && (is_table φ && not (is_table (far_phy d φ)))

-- the expanders at which the levels go on from these phys, in their order
unfoldable pub downstream_of_phys : Domain → List Phy → List ℕ
downstream_of_phys d φs = map (λ φ. number_of d (address_of φ)) (keep (down d) φs)

-- the expanders at which the levels go on from the phys of expander i, lowest phy first
unfoldable pub downstream : Domain → ℕ → List ℕ
downstream d i = downstream_of_phys d (expander_at d i).phys

-- the level after `level`: ordered by the expander of that level and then lowest phy, without the level before it, each once
unfoldable pub next_level : Domain → List ℕ → List ℕ → List ℕ
next_level d last level = each_once [] (keep (λ i. not (is_in i last)) (flat_map (downstream d) level))

-- the expanders of so many levels, level by level, from `level` on
unfoldable pub levels_from : ℕ → Domain → List ℕ → List ℕ → List ℕ
levels_from zero d last level = []
levels_from (suc count) d last level = level ++ levels_from count d level (next_level d last level)

-- the expanders of the levels of phy p of expander x; none where they do not go on from it. As many levels as there are expanders
-- are enough: `levels-enough` (proofs/levels/LevelsBeyond)
unfoldable pub levels : Domain → ℕ → ℕ → List ℕ
levels d x p = levels_from (length d) d (x ∷ []) (downstream_of_phys d (phy_at d x p ∷ []))
