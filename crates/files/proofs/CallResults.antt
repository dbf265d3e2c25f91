-- What holds of all that a call yields, and with which numbers it refuses.
use Prim.Native.Nat.{ℕ}
use mathlib.Core.Path.{◌≡◌, refl, sym, ap, subst, ◌∙◌}
use mathlib.Core.Logic.{◌↔◌}
use mathlib.Core.Bool.{Bool, true, false, ◌&&◌}
use native.Mathlib.Omega.{arith}
use lib.Dec.{T}
use Rattle.std.specs.Result.{MatchResult, IsErrAnd}
use Rattle.frames.specs.Refusals.{Result, refused, good, unless, then, refusal}
use Rattle.frames.specs.declared.Refusal.{Refusal}
pub use Rattle.frames.proofs.FrameRefusals.{never}
use Rattle.frames.proofs.FrameRefusals.{ResultHolds}
use Rattle.files.specs.File.{placed}

module _ {A : Type 0} (N : ℕ → Type 0) where
  pub held : (P : A → Type 0) (x : Result A) (a : A) → ResultHolds N P x → x ≡ good a → P a
  held P x a h q = subst (ResultHolds N P) q h

  pub weaker : (M : ℕ → Type 0) (P Q : A → Type 0) (x : Result A) → ResultHolds N P x → ((n : ℕ) → N n → M n) → ((a : A) → P a → Q a) → ResultHolds M Q x
  weaker M P Q (refused r) h f g = f r.number h
  weaker M P Q (good a) h f g = g a h

-- what is good came of something good
module _ {A : Type 0} where
  pub good-one : (a b : A) → ◌≡◌ {A = Result A} (good a) (good b) → a ≡ b
  good-one a b e = cc

  pub unless-good : (b : Bool) (r : Refusal) (x : Result A) (a : A) → unless b r x ≡ good a → T b × (x ≡ good a)
  unless-good true r x a e = (tt, e)
  unless-good false r x a e = never r a e

  pub good-unless : (b : Bool) (r : Refusal) (x : Result A) → T b → unless b r x ≡ x
  good-unless true r x t = refl
  good-unless false r x t = absurd t

module _ {A B : Type 0} where
  pub then-good : (x : Result A) (k : A → Result B) (b : B) → then x k ≡ good b → (a : A) × (x ≡ good a) × (k a ≡ good b)
  then-good (refused r) k b e = never r b e
  then-good (good a) k b e = (a, refl, e)

  pub good-then : (x : Result A) (k : A → Result B) (a : A) (b : B) → x ≡ good a → k a ≡ good b → then x k ≡ good b
  good-then x k a b e f = subst (λ y. then y k ≡ good b) (sym e) f

-- where what comes after leaves it as it is
pub then_same : {A : Type 0} (x : Result A) (k : A → Result A) (b : A) → ((a : A) → k a ≡ good b → a ≡ b) → (then x k ≡ good b) ↔ ((x ≡ good b) × (k b ≡ good b))
then_same x k b same = (
  λ e. let a = then-good x k b e in
      let q = same a.0 a.2 in
      (a.1 ∙ ap good q, subst (λ y. k y ≡ good b) q a.2),
  λ h. good-then x k b b h.0 h.1,
)

-- both tests hold
pub both : (a b : Bool) → (a && b) ≡ true → (a ≡ true) × (b ≡ true)
both true b q = (refl, q)
both false b q = let z : ◌≡◌ {A = ℕ} 0 1 = cc in absurd (omega arith)

-- what `map_err` gives, where the closure places the refusal at phy p of expander i: `post` is what the closure ensures
module _ {A : Type 0} (i p : ℕ) where
  pub placed_by : (x y : Result A) (post : Refusal → Refusal → Type 0) → MatchResult x (λ a. y ≡ good a) (λ r. IsErrAnd y (post r))
      → ((r s : Refusal) → post r s → s ≡ refusal r.number i p) → (z : Result A) → x ≡ z → placed i p z ≡ y
  placed_by (good a) y post h f z e = rw (← e) (sym h)
  placed_by (refused r) (refused s) post h f z e = rw (← e) (ap refused (sym (f r s h)))
  placed_by (refused r) (good a) post h f z e = absurd h
