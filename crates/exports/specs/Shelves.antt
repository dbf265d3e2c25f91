-- What the calls on a shelf answer, packed into one number.
use Rattle.std.specs.Prelude.{ℕ, ◌≡◌}
use Rattle.shelves.specs.declared.Shelf.{Shelf}
use Rattle.shelves.specs.declared.Stepped.{Stepped}
use Rattle.exports.specs.Packing.{packed, number}

-- all that a call with this outcome promises: the number, which is a refusal or the function result, and the whole shelf after
pub record ShelfDone (outcome : Stepped) (answer : ℕ) (after : Shelf) : Type 0 where
  pub answers : answer ≡ packed number outcome.answer
  pub left : after ≡ outcome.shelf
