use mathlib.Core.Path.{◌≡◌}
use lib.ListN.{drop}
use Rattle.wiring.specs.phys.PhyCauses.{places_from}
use Rattle.files.specs.Rows.{domain_in}
use Rattle.surveys.specs.WordEntries.{word_in, word_place}
use Rattle.surveys.proofs.word_places.place_of_word.Given as goal

abbrev pub invariant-loop-i : goal.invariant-loop-i
invariant-loop-i l = word_in (domain_in l.rows) (places_from l.i (drop l.i (domain_in l.rows))) l.left ≡ word_place l.fn.k (domain_in l.rows)
