-- What the functions that fill tables make: numbers with room for so many, a list that grows, words put at a place.
use Rattle.std.specs.Prelude.{ℕ, ◌+◌, ◌≤◌, ◌≡◌, cond, ◌||◌, length, take, leb}
use mathlib.Core.List.{List, [], ◌∷◌, ◌++◌, flat_map}
use Rattle.std.proofs.lemmas.List.Edits.{sets}
use Rattle.files.specs.declared.Phy.{Phy}
use Rattle.files.specs.Lists.{keep, is_in}
use Rattle.files.specs.Domain.{Domain, expander_at, phy_at, is_table}
use Rattle.wiring.specs.phys.PhyCauses.{Place, phy_places}

-- numbers so far, and one more: none twice, at most `room` of them
unfoldable pub add : ℕ → List ℕ → ℕ → List ℕ
add room l j = cond (is_in j l || leb room (length l)) l (l ++ (j ∷ []))

unfoldable pub add_all : ℕ → List ℕ → List ℕ → List ℕ
add_all room l [] = l
add_all room l (j ∷ js) = add_all room (add room l j) js

-- the first r of the words after a call are l
pub record Grown (before after : List ℕ) (r : ℕ) (l : List ℕ) : Type 0 where
  pub same : length after ≡ length before
  pub fits : r ≤ length before
  pub whole : take r after ≡ l

-- the first n numbers, and these after them, as far as they are new and there is room
abbrev pub Added : List ℕ → List ℕ → ℕ → ℕ → List ℕ → Type 0
Added before after n r js = Grown before after r (add_all (length before) (take n before) js)

-- the phys of these expanders
abbrev pub phys_of : Domain → List ℕ → List Phy
phys_of d is = flat_map (λ i. (expander_at d i).phys) is

-- the phys of expander i, as places
abbrev pub places_at : Domain → ℕ → List Place
places_at d i = phy_places i 0 (length (expander_at d i).phys)

-- the table phys among these
abbrev pub with_tables : Domain → List Place → List Place
with_tables d qs = keep (λ q. is_table (phy_at d q.expander q.phy)) qs

-- words put at a place, those that have room, and the place after them; the room for all of them is said where it is promised
pub record WordsPut (before after : List ℕ) (at r : ℕ) (new : List ℕ) : Type 0 where
  pub same : length after ≡ length before
  pub next : r ≡ at + length new
  pub words : after ≡ sets before at new
