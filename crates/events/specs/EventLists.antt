-- Paper 9 of document 02 in one statement each: lists of events from a configured domain, and what one accepted event touches.
use Rattle.std.specs.Prelude.{ℕ, ◌≡◌, cond, List, drop, T}
use Rattle.frames.specs.Bits.{bits_of, zero_bits}
use Rattle.frames.specs.Refusals.{Result, good}
use Rattle.files.specs.declared.Setting.{Setting}
use Rattle.files.specs.Domain.{Domain, phy_at, is_table}
use Rattle.wiring.specs.phys.PhyCauses.{place}
use Rattle.tables.specs.levels.Levels.{levels}
use Rattle.tables.specs.filling.Tables.{table, tables, needed, stretch}
use Rattle.tables.specs.filling.Entries.{Entries, room_of, Enough, put_before}
use Rattle.tables.specs.declared.Counted.{Counted}
use Rattle.tables.specs.JudgingCall.{judged, table_call, TablesDone}
use Rattle.tables.specs.events.TouchedTables.{touched}
use Rattle.events.specs.declared.Event.{Event}
use Rattle.events.specs.Calls.{Lab, applied}

-- a configured domain: the file is accepted, and the entries are the lent ones as the table call left them
pub record Configured (setting : Setting) (before : Entries) (l : Lab) : Type 0 where
  pub domain : Domain
  pub accepted : judged setting l.file ≡ good domain
  pub enough : Enough (needed domain) (room_of before)
  pub given : l.entries ≡ put_before (tables domain) before

-- after a list of events: the file is the first file with the accepted events applied, and the entries are those that configuring afresh
-- gives for it over the entries lent at first: words, bits, and what lies after
pub record Afresh (setting : Setting) (before : Entries) (vs : List Event) (l n : Lab) : Type 0 where
  pub file : n.file ≡ applied setting (room_of before) l.file vs
  pub configured : Configured setting before n
  pub afresh : (answer : Result Counted) (after : Entries) → TablesDone (table_call setting n.file (room_of before)) answer before after → n.entries ≡ after

-- what an accepted event at expander e does, whatever words and bits were lent
pub record Touches (d d₂ : Domain) (e : ℕ) (before after : Entries) : Type 0 where
  pub levels : (x p : ℕ) → levels d₂ x p ≡ levels d x p
  -- the tables with e in one of their levels are written afresh, words and bits, and the others stay as lent
  pub words : (i p : ℕ) → T (is_table (phy_at d i p)) → stretch d₂ after.words i p ≡ cond (touched d e (place i p)) (table d₂ i p) (stretch d before.words i p)
  pub bits : (i p : ℕ) → T (is_table (phy_at d i p))
      → stretch d₂ (bits_of after.bits) i p ≡ cond (touched d e (place i p)) (zero_bits (table d₂ i p)) (stretch d (bits_of before.bits) i p)
  -- words after, padding bits and the bits of bytes after stay
  pub words_after : drop (needed d) after.words ≡ drop (needed d) before.words
  pub bits_after : drop (needed d) (bits_of after.bits) ≡ drop (needed d) (bits_of before.bits)
