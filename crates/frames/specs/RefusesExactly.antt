-- "A call refuses exactly when a cause that this paper has it test holds": how that is said of each call.
use Rattle.std.specs.Prelude.{ℕ, ◌≡◌, ◌↔◌}
use Rattle.frames.specs.declared.Refusal.{Refusal}
use Rattle.frames.specs.Refusals.{Result, refused, good}

module _ {A : Type 0} where
  -- what the call says is an answer exactly when none of its causes holds, and every refusal has a number that it tests
  pub record RefusesExactly (said : Result A) (no_cause : Type 0) (tests : ℕ → Type 0) : Type 0 where
    pub answers : ((a : A) × (said ≡ good a)) ↔ no_cause
    pub numbers : (r : Refusal) → said ≡ refused r → tests r.number
