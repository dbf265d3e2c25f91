use Prim.Native.Nat.{◌≤◌}
use mathlib.Core.List.{◌++◌}
use mathlib.Core.Path.{◌≡◌}
use lib.ListN.{length, take, drop}
use Rattle.files.specs.Domain.{expander_at}
use Rattle.files.specs.Rows.{domain_in}
use Rattle.tables.specs.lists.OwnLists.{lower, own_words_from, own_words}
use Rattle.tables.proofs.events.retesting.collect_words.Given as goal

abbrev pub invariant-loop-p : goal.invariant-loop-p
invariant-loop-p l = (length l.part ≡ length l.initial.part) × ((l.m ≤ l.p) × (take l.m l.part ++ own_words_from (lower (expander_at (domain_in l.rows) l.i.0).phys l.p) (drop l.p (expander_at (domain_in l.rows) l.i.0).phys) ≡ own_words (domain_in l.rows) l.i.0))
