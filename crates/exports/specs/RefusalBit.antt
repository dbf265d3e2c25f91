-- How a caller tells answers apart: a refusal from what a call yields by bit 63, and the parts of a refusal by bytes.
use Rattle.std.specs.Prelude.{ℕ, ◌/◌, ◌%◌, ◌^◌, ◌≤◌, ◌<◌, ◌≡◌, ◌↔◌}
use Rattle.tracing.specs.TableDefinitions.{Refusal, Result, refused, good}

-- number, expander and phy of a refusal have a byte each
pub record ThreeBytes (r : Refusal) : Type 0 where
  pub number : r.number < 256
  pub expander : r.expander.0 < 256
  pub phy : r.phy.0 < 256

-- an answer of 64 bits, bit 63 among them, from which number, expander and phy come back
pub record PartsBack (r : Refusal) (answer : ℕ) : Type 0 where
  pub bit : 2 ^ 63 ≤ answer
  pub whole : answer < 2 ^ 64
  pub number : answer / 65536 % 256 ≡ r.number
  pub expander : answer / 256 % 256 ≡ r.expander.0
  pub phy : answer % 256 ≡ r.phy.0

module _ {A : Type 0} where
  -- of an outcome whose yield f packs: what is yielded leaves bit 63 clear and comes back as `Back` says, and a refusal has three bytes
  pub record ToldApart (f : A → ℕ) (Back : A → ℕ → Type 0) (outcome : Result A) : Type 0 where
    pub yielded : (a : A) → outcome ≡ good a → (f a < 2 ^ 63) × Back a (f a)
    pub refusals : (r : Refusal) → outcome ≡ refused r → ThreeBytes r

  -- of an answer: bit 63 is set exactly where the outcome is a refusal, whose parts then come back, and clear exactly where something is
  -- yielded, which then comes back
  pub record BitTells (Back : A → ℕ → Type 0) (outcome : Result A) (answer : ℕ) : Type 0 where
    pub set : (2 ^ 63 ≤ answer) ↔ ((r : Refusal) × (outcome ≡ refused r))
    pub clear : (answer < 2 ^ 63) ↔ ((a : A) × (outcome ≡ good a))
    pub refusal : (r : Refusal) → outcome ≡ refused r → PartsBack r answer
    pub yielded : (a : A) → outcome ≡ good a → Back a answer
