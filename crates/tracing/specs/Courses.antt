-- Two courses, each with its setting, on one file (document 02, paper 13).
use Rattle.std.specs.Prelude.{ℕ, ◌≡◌, List}
use Rattle.tables.specs.WiringDefinitions.{good, Setting, Domain, wiring_call}
use Rattle.tables.specs.filling.Entries.{Entries, Room}
use Rattle.tables.specs.JudgingCall.{judged, table_call}
use Rattle.tracing.specs.Trace.{Request, trace_call}

-- "accepted, with equal tables": the other setting accepts the file as the same domain, and every call on it has the same outcome. The
-- outcome gives the answer and all lent memory after the call (`WiringDone`, `TablesDone`, `TraceDone`)
pub record Alike (setting other : Setting) (file : List ℕ) (d : Domain) : Type 0 where
  pub accepted : judged other file ≡ good d
  pub wiring : (room : ℕ) → wiring_call other file room ≡ wiring_call setting file room
  pub tables : (room : Room) → table_call other file room ≡ table_call setting file room
  pub traces : (t : Entries) (bytes : ℕ) (q : Request) → trace_call other file t bytes q ≡ trace_call setting file t bytes q
