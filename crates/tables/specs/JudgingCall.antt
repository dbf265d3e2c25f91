-- Cause 14, the judging call and the table call.
use Rattle.std.specs.Prelude.{ℕ, ◌+◌, ◌*◌, ◌≤◌, ◌<◌, ◌≡◌, Bool, ◌&&◌, List, length, get_or, T, ltb, leb}
use Rattle.wiring.specs.FrameDefinitions.{bits_of, bytes_for, zero_bit, Result, refused, good, unless, then, refusal}
use Rattle.files.specs.Domain.{Domain, expander_at, phy_at, is_table}
use Rattle.files.specs.declared.Setting.{Setting}
use Rattle.files.specs.File.{domain_read}
use Rattle.wiring.specs.phys.PhyCauses.{first_of, wired_domain}
use Rattle.wiring.specs.graph.LinkCauses.{linked_domain}
use Rattle.tables.specs.filling.Tables.{level_list, table_places, tables, needed, offset}
use Rattle.tables.specs.declared.Counted.{Counted}
use Rattle.tables.specs.filling.Entries.{Entries, Room, room_of, Enough, put_before}

-- 14: level list longer than R
unfoldable pub overlong : Domain → ℕ → ℕ → Bool
overlong d i p = is_table (phy_at d i p) && ltb (expander_at d i).route_indexes (length (level_list d i p))

-- causes 7 to 12, 23 and 14 in order, where a chain may have so many expanders
unfoldable pub judged_domain : ℕ → Domain → Result Domain
judged_domain chain d =
    then (wired_domain d) (λ _.
    then (linked_domain chain d) (λ _.
    first_of 14 (overlong d) d))

-- a domain file past all of 22, 1 to 12, 23 and 14: a file accepted under this setting
abbrev pub judged : Setting → List ℕ → Result Domain
judged setting file = then (domain_read setting file) (judged_domain setting.chain)

-- what the judging call answers: the number of expanders
abbrev pub expanders_in : Domain → Result ℕ
expanders_in d = good (length d)

-- 16 where the words are fewer than the tables need, then 18 where the bytes are fewer than their bits need
abbrev pub tables_for : Room → Domain → Result Domain
tables_for room d =
    unless (leb (needed d) room.words) (refusal 16 0 0)
    (unless (leb (bytes_for (needed d)) room.bits) (refusal 18 0 0)
    (good d))

-- causes 7 to 12, 23 and 14, 16 and 18: the table call on a domain that was read, with so much room
abbrev pub judged_tables : ℕ → Domain → Room → Result Domain
judged_tables chain d room = then (judged_domain chain d) (tables_for room)

-- the table call on a file under a setting, with so much room
unfoldable pub table_call : Setting → List ℕ → Room → Result Domain
table_call setting file room = then (judged setting file) (tables_for room)

-- what the table call answers: the number of tables and of words
abbrev pub counts_in : Domain → Result Counted
counts_in d = good (record { table_count = length (table_places d); word_count = needed d })

-- the entries after the call: the tables with their bits, and what lies after them as it was; all as it was where refused
abbrev pub tables_after : Result Domain → Entries → Entries
tables_after (refused r) before = before
tables_after (good d) before = put_before (tables d) before

-- all that a table call with this outcome promises: the answer, and the entries after
pub record TablesDone (outcome : Result Domain) (answer : Result Counted) (before after : Entries) : Type 0 where
  pub answers : answer ≡ then outcome counts_in
  pub left : after ≡ tables_after outcome before

-- demand 2's equation in the lent words: index for index, every table is the level list of its phy; and their disable bits
pub record IndexForIndex (d : Domain) (before after : Entries) : Type 0 where
  pub size : room_of after ≡ room_of before
  -- the stretch of a non-vacant table phy lies within the words that the tables need, and they were lent
  pub within : (i p : ℕ) → T (is_table (phy_at d i p)) → offset d i p + (expander_at d i).route_indexes ≤ needed d
  pub lent : Enough (needed d) (room_of before)
  -- its list has at most R words, and index k of the stretch is word k of the list
  pub fits : (i p : ℕ) → T (is_table (phy_at d i p)) → length (level_list d i p) ≤ (expander_at d i).route_indexes
  pub listed : (i p k : ℕ) → T (is_table (phy_at d i p)) → k < length (level_list d i p)
      → get_or after.words (offset d i p + k) 0 ≡ get_or (level_list d i p) k 0
  -- after the list, up to index R - 1, the entries are 0
  pub disabled : (i p k : ℕ) → T (is_table (phy_at d i p)) → length (level_list d i p) ≤ k → k < (expander_at d i).route_indexes
      → get_or after.words (offset d i p + k) 0 ≡ 0
  -- words after all tables stay
  pub stay : (k : ℕ) → needed d ≤ k → get_or after.words k 0 ≡ get_or before.words k 0
  -- the bit of each word is set exactly where the word is 0, and clear elsewhere
  pub bit : (k : ℕ) → k < needed d → get_or (bits_of after.bits) k 0 ≡ zero_bit (get_or after.words k 0)
  -- the padding bits of the last byte are clear
  pub padding : (k : ℕ) → needed d ≤ k → k < 8 * bytes_for (needed d) → get_or (bits_of after.bits) k 0 ≡ 0
  -- bytes after the bits stay
  pub stay_bytes : (k : ℕ) → bytes_for (needed d) ≤ k → get_or after.bits k 0 ≡ get_or before.bits k 0
