-- The join call: 22, the first file judged, the second file judged, 21, the joined file judged, 16.
use Rattle.std.specs.Prelude.{ℕ, ◌+◌, ◌≡◌, Bool, not, ◌&&◌, List, length}
use Rattle.frames.specs.Refusals.{Result, refused, good, unless, then, refusal, fitting, length_of, new_after}
use Rattle.files.specs.declared.Setting.{Setting}
use Rattle.files.specs.declared.Phy.{Phy}
use Rattle.files.specs.Lists.{any}
use Rattle.files.specs.Domain.{Domain, expander_at, phy_at, is_subtractive, attached}
use Rattle.tables.specs.JudgingCall.{judged}
use Rattle.benches.specs.Bytes.{joined_file}

-- an attached subtractive phy
abbrev pub upward : Phy → Bool
upward φ = attached φ && is_subtractive φ

-- 21 does not hold of a named phy: it exists, is not vacant, subtractive and not attached, and its expander has no attached subtractive phy
unfoldable pub free : Domain → ℕ → ℕ → Bool
free d i p = is_subtractive (phy_at d i p) && (not (attached (phy_at d i p)) && not (any upward (expander_at d i).phys))

module _ {A : Type 0} where
  -- a refusal with so many added to its expander number, place 0, 0 included
  abbrev pub shifted : ℕ → Result A → Result A
  shifted n (refused r) = refused (refusal r.number (n + r.expander.0) r.phy.0)
  shifted n (good a) = good a

-- 21, then the joined file judged, then 16: of two files that were accepted as these domains
abbrev pub join_for : Setting → List ℕ → ℕ → ℕ → Domain → List ℕ → ℕ → ℕ → Domain → ℕ → Result (List ℕ)
join_for setting first i p d₁ second j q d₂ room =
    unless (free d₁ i p && free d₂ j q) (refusal 21 0 0)
    (then (judged setting (joined_file first i p second j q)) (λ _.
    fitting room (joined_file first i p second j q)))

-- 22 is the first that judging the first file tests
unfoldable pub join_call : Setting → List ℕ → ℕ → ℕ → List ℕ → ℕ → ℕ → ℕ → Result (List ℕ)
join_call setting first i p second j q room =
    then (judged setting first) (λ d₁.
    then (shifted (length d₁) (judged setting second)) (λ d₂.
    join_for setting first i p d₁ second j q d₂ room))

-- all that a join call with this outcome promises: the answer, and the lent bytes after
pub record JoinDone (outcome : Result (List ℕ)) (answer : Result ℕ) (before after : List ℕ) : Type 0 where
  pub answers : answer ≡ then outcome length_of
  pub bytes : after ≡ new_after outcome before
