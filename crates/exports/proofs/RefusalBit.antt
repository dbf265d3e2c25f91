-- Bit 63 tells a refusal from any other answer, and a refusal's parts come back.
use Prim.Native.Nat.{ℕ, ◌+◌, ◌*◌, ◌^◌, ◌<◌}
use mathlib.Core.Path.{◌≡◌, refl, sym, subst}
use mathlib.Core.Bool.{Bool, true, false}
use native.Mathlib.Omega.{arith}
use Rattle.frames.specs.Refusals.{unless, refusal}
use Rattle.files.proofs.CallResults.{never, good-one}
use Rattle.frames.proofs.FrameRefusals.{refused-one}
use Rattle.tracing.specs.TableDefinitions.{Refusal, Result, refused, good, then}
use Rattle.exports.specs.Packing.{pack_refusal, packed}
use Rattle.exports.specs.RefusalBit.{ThreeBytes, PartsBack, ToldApart, BitTells}

-- a refusal of three bytes has bit 63, and its parts come back
pub refusal-parts : (r : Refusal) → ThreeBytes r → PartsBack r (pack_refusal r)
refusal-parts r b = go r.number r.expander.0 r.phy.0 b.number b.expander b.phy
  where
    go : (n e p : ℕ) → n < 256 → e < 256 → p < 256 → PartsBack (refusal n e p) (2 ^ 63 + n * 65536 + e * 256 + p)
    go n e p h k l = record { bit = omega arith; whole = omega arith; number = omega arith; expander = omega arith; phy = omega arith }

-- nothing more of what is yielded
abbrev pub Any : {A : Type 0} → A → Type 0
Any a = Unit {0}

module _ {A : Type 0} where
  -- so bit 63 tells what such an outcome is
  pub told-apart : (f : A → ℕ) (Back : A → ℕ → Type 0) (outcome : Result A) → ToldApart f Back outcome → BitTells Back outcome (packed f outcome)
  told-apart f Back (refused r) t =
      let b = refusal-parts r (t.refusals r refl) in
      let h = b.bit in
      record {
        set = (λ _. (r, refl), λ _. h);
        clear = (λ k. absurd (omega arith), λ a. never r a.0 a.1);
        refusal = λ u e. subst (λ v. PartsBack v (pack_refusal r)) (refused-one r u e) b;
        yielded = λ a e. never r a e;
      }
  told-apart f Back (good a) t =
      let y = t.yielded a refl in
      let h = y.0 in
      record {
        set = (λ k. absurd (omega arith), λ r. never r.0 a (sym r.1));
        clear = (λ _. (a, refl), λ _. h);
        refusal = λ r e. never r a (sym e);
        yielded = λ b e. subst (λ x. Back x (f a)) (good-one a b e) y.1;
      }

  -- of what a call answers, by its promise
  pub answer-tells : (f : A → ℕ) (Back : A → ℕ → Type 0) (outcome : Result A) (answer : ℕ) → ToldApart f Back outcome → answer ≡ packed f outcome → BitTells Back outcome answer
  answer-tells f Back outcome answer t e = subst (BitTells Back outcome) (sym e) (told-apart f Back outcome t)

  -- a refusal has three bytes, or P holds of what is yielded
  abbrev pub Tells : (A → Type 0) → Result A → Type 0
  Tells P (refused r) = ThreeBytes r
  Tells P (good a) = P a

  -- bit 63 is clear, and what is packed comes back
  abbrev pub Yields : (A → ℕ) → (A → ℕ → Type 0) → A → Type 0
  Yields f Back a = (f a < 2 ^ 63) × Back a (f a)

  -- then bit 63 tells the refusals
  pub tells : (f : A → ℕ) (Back : A → ℕ → Type 0) (outcome : Result A) → Tells (Yields f Back) outcome → ToldApart f Back outcome
  tells f Back (refused r) t = record { yielded = λ a e. never r a e; refusals = λ u e. subst ThreeBytes (refused-one r u e) t }
  tells f Back (good a) t = record { yielded = λ b e. subst (Tells (Yields f Back)) e t; refusals = λ r e. never r a (sym e) }

  -- a test that refuses
  pub tells-unless : (P : A → Type 0) (b : Bool) (r : Refusal) (x : Result A) → ThreeBytes r → (b ≡ true → Tells P x) → Tells P (unless b r x)
  tells-unless P true r x h k = k refl
  tells-unless P false r x h k = h

  -- and more holds of what is yielded where it follows
  pub tells_more : (P Q : A → Type 0) (x : Result A) → Tells P x → ((a : A) → x ≡ good a → Q a) → Tells Q x
  tells_more P Q (refused r) h k = h
  tells_more P Q (good a) h k = k a refl

  -- or less
  pub tells-weaker : (P Q : A → Type 0) (x : Result A) → Tells P x → ((a : A) → P a → Q a) → Tells Q x
  tells-weaker P Q (refused r) h k = h
  tells-weaker P Q (good a) h k = k a h

-- one after the other
pub tells-then : {A B : Type 0} (P : A → Type 0) (Q : B → Type 0) (x : Result A) (k : A → Result B) → Tells P x → ((a : A) → x ≡ good a → P a → Tells Q (k a))
    → Tells Q (then x k)
tells-then P Q (refused r) k h f = h
tells-then P Q (good a) k h f = f a refl h

-- a refusal at a place
pub at_place : (n i p : ℕ) → n < 256 → i < 256 → p < 256 → ThreeBytes (refusal n i p)
at_place n i p h k l = record { number = h; expander = k; phy = l }

-- at no place
pub no_place : (n : ℕ) → n < 256 → ThreeBytes (refusal n 0 0)
no_place n h = at_place n 0 0 h (omega arith) (omega arith)
