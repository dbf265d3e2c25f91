-- check_domain meets its contract: with room for the entries, they are written and the causes are tested; without, it is 16.
use mathlib.Core.Path.{refl, sym, ◌∙◌, ap}
use Rattle.frames.specs.Refusals.{refused}
use Rattle.wiring.proofs.CheckOutcomes.{checked_short, checked_room}
use native.Mathlib.Omega.{arith}
use Rattle.wiring.proofs.graph.domain_checks.check_domain.Goals as goal

pub returns-then-first-n : goal.returns-then-first-n
returns-then-first-n c =
    let n = c.expander_count-n.ensures.0 in
    record { result_value = ap refused c.refused.ensures ∙ sym (checked_short _ _ _ _ (λ a b. omega arith)); index_left = record { written = λ room. absurd (omega (arith, room.slots)); short = λ _. (refl, refl) } }

pub returns-then-low-n : goal.returns-then-low-n
returns-then-low-n c =
    let n = c.expander_count-n.ensures.0 in
    record { result_value = ap refused c.refused-then-low-n.ensures ∙ sym (checked_short _ _ _ _ (λ a b. omega arith)); index_left = record { written = λ room. absurd (omega (arith, room.phys)); short = λ _. (refl, refl) } }

pub returns : goal.returns
returns c =
    let n = c.expander_count-n.ensures.0 in
    record { result_value = c.check_indexed.ensures ∙ sym (checked_room _ _ _ _ (omega arith) (omega arith)); index_left = record { written = λ _. c.put_index.ensures; short = λ none. absurd (none (record { slots = omega arith; phys = omega arith })) } }
