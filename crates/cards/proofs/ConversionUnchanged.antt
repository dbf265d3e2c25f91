-- Converting changes no judgement, no table and no trace: a file, and the file that is made of its card, read alike under every setting.
use Prim.Native.Nat.{ℕ}
use mathlib.Core.Path.{◌≡◌}
use mathlib.Core.List.{List}
use lib.ListN.{length, take}
use Rattle.files.specs.declared.Setting.{Setting}
use Rattle.files.specs.ReadDomain.{Bytes}
use Rattle.files.specs.File.{domain_read}
use Rattle.wiring.specs.graph.Neighbours.{wiring_call}
use Rattle.tables.specs.filling.Entries.{Room, Entries}
use Rattle.tables.specs.JudgingCall.{judged, table_call}
use Rattle.tracing.specs.Trace.{Request, trace_call}
use Rattle.cards.specs.Calls.{card_call, file_call, MadeDone}
use Rattle.frames.specs.Refusals.{good}
use Rattle.cards.proofs.Conversions.{converted_under}

-- all that the calls say of two files
pub record Unchanged (setting : Setting) (file other : List ℕ) : Type 0 where
  pub judgement : judged setting other ≡ judged setting file
  pub wiring : (room : ℕ) → wiring_call setting other room ≡ wiring_call setting file room
  pub tables : (room : Room) → table_call setting other room ≡ table_call setting file room
  pub traces : (t : Entries) (bytes : ℕ) (q : Request) → trace_call setting other t bytes q ≡ trace_call setting file t bytes q

module _ (setting : Setting) (file other : List ℕ) (e : domain_read setting other ≡ domain_read setting file) where
  same-judged : judged setting other ≡ judged setting file
  same-judged = rw e

  same-wiring : (room : ℕ) → wiring_call setting other room ≡ wiring_call setting file room
  unfolding wiring_call
  same-wiring room = rw e

  same_tables : (room : Room) → table_call setting other room ≡ table_call setting file room
  unfolding table_call
  same_tables room = rw same-judged

  same-traces : (t : Entries) (bytes : ℕ) (q : Request) → trace_call setting other t bytes q ≡ trace_call setting file t bytes q
  unfolding trace_call
  same-traces t bytes q = rw same-judged

  pub same_calls : Unchanged setting file other
  same_calls = record { judgement = same-judged; wiring = same-wiring; tables = same_tables; traces = same-traces }

-- file to card under one setting, to file under another, over what the calls promise: no judgement, wiring, table or trace changes under any setting
pub unchanged_under : (one back setting : Setting) (file before after before' after' : List ℕ) (n m : ℕ) → Bytes file
    → MadeDone (card_call one file (length before)) (good n) before after → MadeDone (file_call back (take n after) (length before')) (good m) before' after'
    → Unchanged setting file (take m after')
unchanged_under one back setting file before after before' after' n m b p q = same_calls setting file (take m after') ((converted_under one back file before after before' after' n m b p q).reads setting)

-- the same under one setting
pub unchanged : (setting : Setting) (file before after before' after' : List ℕ) (n m : ℕ) → Bytes file
    → MadeDone (card_call setting file (length before)) (good n) before after → MadeDone (file_call setting (take n after) (length before')) (good m) before' after'
    → Unchanged setting file (take m after')
unchanged setting = unchanged_under setting setting setting
