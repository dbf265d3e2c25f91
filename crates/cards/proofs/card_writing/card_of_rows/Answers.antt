-- card_of_rows compares the size of the card with the room for it, and puts the card.
use native.Mathlib.Omega.{arith}
use mathlib.Core.Path.{ap}
use Rattle.files.specs.Domain.{Domain}
use Rattle.files.specs.Rows.{domain_in}
use Rattle.cards.specs.Card.{card_of}
use Rattle.frames.specs.Refusals.{refused}
use Rattle.cards.proofs.CallOutcomes.{not_fitted, length-card}
use Rattle.cards.proofs.card_writing.card_of_rows.Goals as goal

pub returns-then-card-n : goal.returns-then-card-n
returns-then-card-n c =
    let d : Domain = domain_in c.args.rows.now in
    let l = length-card d in
    not_fitted (card_of d) c.args.card.now _ (omega arith) (ap refused c.refused.ensures)
