-- What judging the joined file refuses (document 02, paper 12) where some address is a device's in both files: the number and the place.
use Rattle.std.specs.Prelude.{ℕ, ◌+◌, ◌≤◌, ◌<◌, ◌≡◌, ◌⊎◌, Bool, List, length, T}
use Rattle.frames.specs.Refusals.{Result, refused, refusal}
use Rattle.frames.specs.declared.Refusal.{Refusal}
use Rattle.files.specs.Domain.{Domain, expander_at}
use Rattle.wiring.specs.phys.PhyCauses.{claimed}

-- the call is refused so, and no lent byte changes
pub record RefusedWith (r : Refusal) (answer : Result ℕ) (before after : List ℕ) : Type 0 where
  pub says : answer ≡ refused r
  pub bytes : after ≡ before

-- expander y of the second has the address of an expander of the first
abbrev pub Repeats : Domain → Domain → ℕ → Type 0
Repeats d₁ d₂ y = (y < length d₂) × (x : ℕ) × (x < length d₁) × ((expander_at d₁ x).address ≡ (expander_at d₂ y).address)

-- the lowest such expander
pub record LowestRepeat (d₁ d₂ : Domain) (y : ℕ) : Type 0 where
  pub repeats : Repeats d₁ d₂ y
  pub lowest : (z : ℕ) → Repeats d₁ d₂ z → y ≤ z

-- the lowest phy at which a test holds, by expander and then phy
pub record LowestPlace (test : ℕ → ℕ → Bool) (x y : ℕ) : Type 0 where
  pub holds : T (test x y)
  pub lowest : (u v : ℕ) → T (test u v) → (x < u) ⊎ ((x ≡ u) × (y ≤ v))

-- "device addresses shared by both get 4 or 8": 4 where an expander of the second has the address of an expander of the first, at the lowest such;
-- 8 where none has, at the lowest phy of the joined domain at which 8 holds. Places are in the joined file's numbers
pub data SharedRefused (d₁ d₂ bench : Domain) (answer : Result ℕ) (before after : List ℕ) : Type 0 where
  four : (y : ℕ) → LowestRepeat d₁ d₂ y → RefusedWith (refusal 4 (length d₁ + y) 0) answer before after → SharedRefused d₁ d₂ bench answer before after
  eight : ((y : ℕ) → ¬ (Repeats d₁ d₂ y)) → (x y : ℕ) → LowestPlace (claimed bench) x y → RefusedWith (refusal 8 x y) answer before after
      → SharedRefused d₁ d₂ bench answer before after
