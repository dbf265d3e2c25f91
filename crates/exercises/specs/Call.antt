-- The call that makes an exercise: 24, then 16, then the file. Answer and lent bytes are those of making a file of a card (`MadeDone`).
use Rattle.std.specs.Prelude.{ℕ, not, List}
use Rattle.wiring.specs.FrameDefinitions.{Result, unless, refusal}
use Rattle.cards.specs.Calls.{file_for}
use Rattle.exercises.specs.Rig.{made, no_rig}

-- the addresses of the first and the second expander, the words, and how many bytes are lent
unfoldable pub make_call : ℕ → ℕ → List ℕ → ℕ → Result (List ℕ)
make_call a b ws room = unless (not (no_rig a b ws)) (refusal 24 0 0) (file_for room (made a b ws))
