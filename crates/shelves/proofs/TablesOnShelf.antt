-- The table call's own tables on a shelf: each, written as frames and sent in any order, is left there.
use Prim.Native.Nat.{ℕ, ◌+◌, ◌^◌, ◌<◌}
use mathlib.Core.Path.{◌≡◌, ◌∙◌, sym}
use mathlib.Core.Logic.{by_cases}
use mathlib.Core.Bool.{true}
use mathlib.Core.List.{List, Permᴰ}
use native.Mathlib.Decide.{dec_lt}
use native.Mathlib.Omega.{arith}
use lib.ListN.{length, get_or, replicate, get_or-eq_default}
use lib.Dec.{T, eqb}
use Rattle.frames.specs.Refusals.{good}
use Rattle.frames.specs.ConfigureRoute.{is_length}
use Rattle.files.specs.Domain.{Domain, expander_at, phy_at, is_table}
use Rattle.files.specs.declared.Setting.{Setting}
use Rattle.files.specs.File.{domain_read}
use Rattle.tables.specs.filling.Entries.{Entries, room_of}
use Rattle.tables.specs.filling.Tables.{level_list, offset}
use Rattle.tables.specs.JudgingCall.{table_call, TablesDone, IndexForIndex}
use Rattle.tables.proofs.filling.TableStretches.{index_for_index-file}
use Rattle.shelves.specs.PlainTable.{empty}
use Rattle.shelves.specs.Shelf.{kind_in, made, Done}
use Rattle.shelves.specs.Calls.{Call, Sent, frames_in, answers_in, left, HoldsTable}
use Rattle.shelves.specs.TableFrames.{entry_in, frames_of, with_table}
use Rattle.shelves.specs.declared.Shelf.{Shelf}
use Rattle.shelves.proofs.FrameOrders.{Configured, table_obeyed}

-- what the table call leaves for a table phy is one configured table: its level list, and zeros up to R words
pub given-table : (d : Domain) (before after : Entries) (x p : ℕ) → IndexForIndex d before after → T (is_table (phy_at d x p))
    → Configured (expander_at d x).route_indexes after.words after.bits (offset d x p) (λ i. get_or (level_list d x p) i 0)
given-table d before after x p all t = record {
  listed = λ i h. by_cases (dec_lt i (length (level_list d x p))) (λ l. all.listed x p i t l)
      (λ l. all.disabled x p i t (omega arith) h ∙ sym (get_or-eq_default (level_list d x p) 0 (omega arith)));
  bit = λ i h. let w = all.within x p t in all.bit (offset d x p + i) (omega arith);
}

-- the words and bits of a table call on a file, of which the table of phy p of expander x is written as frames: a fresh shelf of that R
-- whose phy p is a table phy answers 00h to each, in any order, and is left with that table, every other entry as it was
pub given_obeyed : (setting : Setting) (file : List ℕ) (d : Domain) (before after : Entries) (c w : ℕ) → domain_read setting file ≡ good d
    → TablesDone (table_call setting file (room_of before)) (good (record { table_count = c; word_count = w })) before after → ((k : ℕ) → get_or after.words k 0 < 2 ^ 64)
    → (x p : ℕ) → T (is_table (phy_at d x p))
    → (there s : Shelf) (phys : ℕ) (kinds : List ℕ) → Done (made there phys (expander_at d x).route_indexes kinds) (good 0x00) s → p < phys → kind_in kinds p ≡ 1
    → (stated : ℕ) → is_length stated ≡ true → (cs : List Call) → Sent s cs
    → Permᴰ (frames_of stated p (entry_in after.words after.bits (offset d x p)) (expander_at d x).route_indexes) (frames_in cs)
    → (answers_in cs ≡ replicate (length (frames_in cs)) (good 0x00))
    × HoldsTable phys (expander_at d x).route_indexes kinds (left s cs) (with_table empty p (expander_at d x).route_indexes (λ i. (get_or (level_list d x p) i 0, eqb (get_or (level_list d x p) i 0) 0)))
given_obeyed setting file d before after c w e tables words x p t there s phys kinds done a b stated l cs sent order =
    let i = index_for_index-file setting file d before after c w e tables in
    table_obeyed there s phys (expander_at d x).route_indexes kinds stated p (offset d x p) after.words after.bits (λ i. get_or (level_list d x p) i 0) cs done
    (given-table d before after x p i t) (record { byte = l; there = a; table = b; word = λ i _. words (offset d x p + i) }) sent order
