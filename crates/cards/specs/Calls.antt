-- The calls: a card of a file, and a file of a card.
use Rattle.std.specs.Prelude.{ℕ, ◌≡◌, List}
use Rattle.frames.specs.Refusals.{Result, then, fitting, length_of, new_after}
use Rattle.files.specs.declared.Setting.{Setting}
use Rattle.files.specs.Domain.{Domain}
use Rattle.files.specs.File.{domain_read}
use Rattle.cards.specs.Card.{card_of}
use Rattle.cards.specs.CardRead.{card_read}
use Rattle.cards.specs.FileOf.{file_of}

-- file to card: causes 22 and 1 to 6, then 16
abbrev pub card_for : ℕ → Domain → Result (List ℕ)
card_for room d = fitting room (card_of d)

unfoldable pub card_call : Setting → List ℕ → ℕ → Result (List ℕ)
card_call setting file room = then (domain_read setting file) (card_for room)

-- card to file: 22, 19, then 3, 4 and 6, then 16
abbrev pub file_for : ℕ → Domain → Result (List ℕ)
file_for room d = fitting room (file_of d)

unfoldable pub file_call : Setting → List ℕ → ℕ → Result (List ℕ)
file_call setting card room = then (card_read setting card) (file_for room)

-- all that a call with this outcome promises: the answer, and the lent bytes after
pub record MadeDone (outcome : Result (List ℕ)) (answer : Result ℕ) (before after : List ℕ) : Type 0 where
  pub answers : answer ≡ then outcome length_of
  pub bytes : after ≡ new_after outcome before
