use mathlib.Core.Path.{◌≡◌}
use lib.ListN.{drop}
use Rattle.wiring.specs.phys.PhyCauses.{places_from, first_in, first_of}
use Rattle.wiring.specs.index.AddressIndex.{is_taken}
use Rattle.files.specs.Rows.{domain_in}
use Rattle.tables.specs.events.ReplugCall.{claimed_with}
use Rattle.tables.proofs.events.retesting.first_claim.Given as goal

abbrev pub invariant-loop-i : goal.invariant-loop-i
invariant-loop-i l = (l.taken ≡ is_taken (domain_in l.rows) l.i l.s) × (first_in 8 (claimed_with l.s (domain_in l.rows)) (places_from l.i (drop l.i (domain_in l.rows))) (domain_in l.rows) ≡ first_of 8 (claimed_with l.s (domain_in l.rows)) (domain_in l.rows))
