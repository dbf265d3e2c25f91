use Prim.Native.Nat.{◌*◌}
use mathlib.Core.Path.{◌≡◌}
use lib.ListN.{length, drop}
use lib.Seq.{sets}
use Rattle.tables.specs.WiringDefinitions.{domain_in}
use Rattle.tables.specs.filling.Entries.{entries}
use Rattle.tracing.specs.RequestLists.{answers_of, request_count}
use Rattle.tracing.proofs.request_lists.answer_all.Given as goal

abbrev pub invariant-loop-k : goal.invariant-loop-k
invariant-loop-k l = (l.n ≡ request_count l.requests) × ((length l.answers ≡ length l.initial.answers) × (sets l.answers l.k (answers_of (domain_in l.d.rows.now) (entries l.words l.bits) (drop (2 * l.k) l.requests)) ≡ sets l.initial.answers 0 (answers_of (domain_in l.d.rows.now) (entries l.words l.bits) l.requests)))
