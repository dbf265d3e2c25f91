-- What one expander gives to every level list in whose levels it is, on a domain past causes 1 to 12.
use Rattle.std.specs.Prelude.{ℕ, zero, suc, Bool, cond, not, ◌||◌, ◌&&◌, get_or}
use mathlib.Core.List.{List, [], ◌∷◌, flat_map}
use Rattle.files.specs.declared.Phy.{Phy}
use Rattle.files.specs.declared.Phy.TheVariants.{Vacant}
use Rattle.files.specs.Lists.{any}
use Rattle.files.specs.Domain.{Domain, expander_at, address_of, is_table, is_direct, attached, bears}
use Rattle.tables.specs.levels.Levels.{levels}
use Rattle.tables.specs.filling.Tables.{word}

-- the phys below p, the highest first
unfoldable pub lower : List Phy → ℕ → List Phy
lower φs zero = []
lower φs (suc p) = get_or φs p (Vacant 0) ∷ lower φs p

-- a phy gives its word to the own list: a direct phy always, and an attached table phy whose address no lower attached phy bears
unfoldable pub owns : List Phy → Phy → Bool
owns lower φ = is_direct φ || (is_table φ && (attached φ && not (any (bears (address_of φ)) lower)))

-- the words that these phys give, where `lower` are the phys below them
unfoldable pub own_words_from : List Phy → List Phy → List ℕ
own_words_from lower [] = []
own_words_from lower (φ ∷ φs) = cond (owns lower φ) (word φ ∷ own_words_from (φ ∷ lower) φs) (own_words_from (φ ∷ lower) φs)

-- the own list of expander e: what it gives, its phys upward
unfoldable pub own_words : Domain → ℕ → List ℕ
own_words d e = own_words_from [] (expander_at d e).phys

-- the own lists of the levels of phy p of expander x, one after the other
unfoldable pub own_words_of_levels : Domain → ℕ → ℕ → List ℕ
own_words_of_levels d x p = flat_map (own_words d) (levels d x p)
