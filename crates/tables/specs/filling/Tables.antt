-- Level lists, and the routing tables that they fill.
use Rattle.std.specs.Prelude.{ℕ, ◌+◌, Bool, cond, not, ◌||◌, ◌&&◌, take, drop, replicate, eqb}
use mathlib.Core.List.{List, [], ◌∷◌, ◌++◌, flat_map}
use Rattle.files.specs.declared.Phy.{Phy}
use Rattle.files.specs.Lists.{any, keep, is_in}
use Rattle.files.specs.Domain.{Domain, expander_at, phy_at, address_of, is_table, is_direct, attached, bears}
use Rattle.wiring.specs.phys.PhyCauses.{Place, places}
use Rattle.tables.specs.levels.Levels.{levels}

-- a phy's word: its attached address, or 0 if nothing is attached
abbrev pub word : Phy → ℕ
word φ = cond (attached φ) (address_of φ) 0

-- the address is expander x's, or is attached at x
unfoldable pub address_at : Domain → ℕ → ℕ → Bool
address_at d x s = eqb s (expander_at d x).address || any (bears s) (expander_at d x).phys

-- a phy gives its word after the list so far: a direct phy always; a subtractive or table phy unless nothing is attached, or the
-- address is x's, or is attached at x, or is in the list already
unfoldable pub gives : Domain → ℕ → List ℕ → Phy → Bool
gives d x l φ = is_direct φ || (attached φ && (not (address_at d x (address_of φ)) && not (is_in (address_of φ) l)))

-- the list after one phy
unfoldable pub give : Domain → ℕ → List ℕ → Phy → List ℕ
give d x l φ = cond (gives d x l φ) (l ++ (word φ ∷ [])) l

-- the list after these phys, one after the other
unfoldable pub give_all : Domain → ℕ → List ℕ → List Phy → List ℕ
give_all d x l [] = l
give_all d x l (φ ∷ φs) = give_all d x (give d x l φ) φs

-- the level list of phy p of expander x: through the levels, and each expander's phys upward
unfoldable pub level_list : Domain → ℕ → ℕ → List ℕ
level_list d x p = give_all d x [] (flat_map (λ i. (expander_at d i).phys) (levels d x p))

-- its table: the list followed by zeros up to R words, cut at R
unfoldable pub table : Domain → ℕ → ℕ → List ℕ
table d x p = take (expander_at d x).route_indexes (level_list d x p ++ replicate (expander_at d x).route_indexes 0)

-- each non-vacant table phy has one table, by expander and then phy
unfoldable pub table_places : Domain → List Place
table_places d = keep (λ q. is_table (phy_at d q.expander q.phy)) (places d)

-- all tables, one after the other
unfoldable pub tables : Domain → List ℕ
tables d = flat_map (λ q. table d q.expander q.phy) (table_places d)

-- how many words the table at a place has: 0 where there is no table phy
unfoldable pub size : Domain → Place → ℕ
size d q = cond (is_table (phy_at d q.expander q.phy)) (expander_at d q.expander).route_indexes 0

unfoldable pub sizes : Domain → List Place → ℕ
sizes d [] = 0
sizes d (q ∷ qs) = size d q + sizes d qs

-- the sum of R over non-vacant table phys
abbrev pub needed : Domain → ℕ
needed d = sizes d (places d)

-- how many words stand before the table of phy p of expander i, where the tables at these places stand one after the other
unfoldable pub offset_in : Domain → ℕ → ℕ → List Place → ℕ
offset_in d i p [] = 0
offset_in d i p (q ∷ qs) = cond (eqb q.expander i && eqb q.phy p) 0 (size d q + offset_in d i p qs)

-- the offset of the table of phy p of expander i among all tables
abbrev pub offset : Domain → ℕ → ℕ → ℕ
offset d i p = offset_in d i p (places d)

-- "its own stretch": the R words of the table of phy p of expander i
unfoldable pub stretch : Domain → List ℕ → ℕ → ℕ → List ℕ
stretch d words i p = take (expander_at d i).route_indexes (drop (offset d i p) words)
