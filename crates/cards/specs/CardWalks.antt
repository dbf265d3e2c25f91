-- What the inner functions of the card's reader and writer promise.
use Rattle.std.specs.Prelude.{ℕ, suc, ◌+◌, ◌≤◌, ◌≡◌, cond, List, [], ◌∷◌}
use Rattle.std.proofs.lemmas.List.Edits.{sets}
use Rattle.frames.specs.Refusals.{good, Result, refused}
use Rattle.files.specs.declared.Setting.{Setting}
use Rattle.files.specs.declared.Phy.{Phy}
use Rattle.files.specs.Domain.{Expander, Domain}
use Rattle.files.specs.Rows.{phy_words, row_of, rows_of}
use Rattle.cards.specs.declared.PhysWalk.{PhysWalk}
use Rattle.cards.specs.declared.CardWalk.{CardWalk}
use Rattle.cards.specs.Card.{phys_size, card_size, head_size, most_card_size}
use Rattle.cards.specs.CardRead.{results_fine, all_fine, phy_ranged, units_tested}

-- how many phys come before the first of which 6 holds
unfoldable pub ranged_count : List Phy → ℕ
ranged_count [] = 0
ranged_count (φ ∷ φs) = cond (phy_ranged φ) (suc (ranged_count φs)) 0

-- what an answer makes of what follows
abbrev pub after_check : Result Unit → Result Domain → Result Domain
after_check (refused r) k = refused r
after_check (good tt) k = k

-- phys that start at bit `at`, walked through: their words stored in a row, the place after them, their results, and 6
pub record PhysStored (φs : List Phy) (at : ℕ) (walk : PhysWalk) (before after : List ℕ) : Type 0 where
  pub words : after ≡ sets before 2 (phy_words φs)
  pub place : walk.next ≡ at + phys_size φs
  pub results : walk.fine ≡ results_fine φs
  pub tests : walk.ranged ≡ ranged_count φs

-- an expander that starts at bit `at`: its row, and the same of its phys
pub record RowStored (e : Expander) (at : ℕ) (walk : PhysWalk) (after : List ℕ) : Type 0 where
  pub words : after ≡ row_of e
  pub place : walk.next ≡ at + (head_size + phys_size e.phys)
  pub results : walk.fine ≡ results_fine e.phys
  pub tests : walk.ranged ≡ ranged_count e.phys

-- a card's domain: its rows, where it ends, its results, and 3, 4 and 6 before what follows
pub record CardStored (most : Setting) (d : Domain) (walk : CardWalk) (before after : List ℕ) : Type 0 where
  pub words : after ≡ sets before 0 (rows_of d)
  pub place : walk.at ≡ card_size d
  pub few : walk.at ≤ most_card_size
  pub results : walk.fine ≡ all_fine d
  pub tests : (k : Result Domain) → after_check walk.check k ≡ units_tested most 0 [] d k
