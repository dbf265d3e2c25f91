-- How much one plug can move (document 02, paper 10).
use Rattle.std.specs.Prelude.{ℕ, ◌≤◌, ◌≡◌, List, length, take, set, T}
use Rattle.files.specs.Lists.{keep}
use Rattle.files.specs.Domain.{Domain, phy_at, is_table, is_direct, to_expander}
use Rattle.wiring.specs.phys.PhyCauses.{Place}
use Rattle.tables.specs.filling.Tables.{level_list, table_places, tables, needed, stretch}
use Rattle.tables.specs.filling.Entries.{Entries}
use Rattle.events.specs.declared.Event.{Event}
use Rattle.events.specs.Events.{named}

-- an event "on a direct phy"
abbrev pub OnDirect : Domain → Event → Type 0
OnDirect d v = T (is_direct (named d v))

-- "over tables that nothing else has altered": the lent words begin with those that configuring the lent file gives. By paper 9 that is so
-- after any events from a configured domain
abbrev pub Unaltered : Domain → Entries → Type 0
Unaltered d before = take (needed d) before.words ≡ tables d

-- "the table phys attached to expanders"
unfoldable pub table_links : Domain → List Place
table_links d = keep (λ q. to_expander (phy_at d q.expander q.phy)) (table_places d)

-- what an event changed: the domain and the entries before and after, and how many words changed, as the call answers
pub record MovesLittle (d d₂ : Domain) (before after : Entries) (count : ℕ) : Type 0 where
  -- "each table changes at no more than one index": the new one is the old one with at most one place set
  pub one_index : (x p : ℕ) → T (is_table (phy_at d x p)) → (j w : ℕ) × (stretch d₂ after.words x p ≡ set (stretch d before.words x p) j w)
  -- "no list changes length"
  pub same_length : (x p : ℕ) → length (level_list d₂ x p) ≡ length (level_list d x p)
  -- "the changed words are at most as many as the table phys attached to expanders"
  pub few : count ≤ length (table_links d)
