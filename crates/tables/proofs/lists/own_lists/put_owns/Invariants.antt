use mathlib.Core.Path.{◌≡◌}
use lib.ListN.{length}
use Rattle.files.specs.Rows.{domain_in}
use Rattle.tables.specs.lists.OwnLists.{own_words}
use Rattle.tables.specs.lists.PreparedLists.{Cells, own_list_words}
use Rattle.tables.proofs.lists.own_lists.put_owns.Given as goal

abbrev pub invariant-loop-i : goal.invariant-loop-i
invariant-loop-i l = (length l.words ≡ length l.initial.words) × Cells own_list_words (own_words (domain_in l.d.rows.now)) l.i l.words
