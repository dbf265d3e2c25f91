-- Searches for a place at which 3, 4 or 6 holds, and what they find.
use Prim.Native.Nat.{ℕ, suc, ◌+◌, ◌-◌, ◌≤◌, ◌<◌}
use mathlib.Core.Path.{◌≡◌, refl, sym, ap, ◌∙◌}
use mathlib.Core.Logic.{◌⊎◌, inl, inr}
use mathlib.Core.Bool.{Bool, true, false, not, ◌||◌}
use native.Mathlib.Omega.{arith}
use lib.ListN.{length}
use lib.Dec.{eqb}
use borrow.Author.Tests.{le-leb, lt-leb}
use Rattle.files.specs.declared.Setting.{Setting}
use Rattle.files.specs.Lists.{any, numbers}
use Rattle.files.specs.Settings.{within}
use Rattle.files.specs.Domain.{Domain, expander_at, number_of}
use Rattle.frames.specs.declared.Refusal.{Refusal}
use Rattle.frames.specs.Refusals.{refusal}
use Rattle.forms.specs.FormCalls.{bad_phy, bad_unit, unread}
use Rattle.forms.specs.FormRows.{as_form}

-- a search over numbers from i on
module _ (f : ℕ → Bool) (n i : ℕ) {v : Bool} (inv : any f (numbers i (n - i)) ≡ v) where
  numbers-next : i < n → any f (numbers i (n - i)) ≡ (f i || any f (numbers (i + 1) (n - (i + 1))))
  unfolding any numbers
  numbers-next h = let e : n - i ≡ suc (n - (i + 1)) = omega arith in rw e refl

  pub numbers-stop : i < n → f i ≡ true → true ≡ v
  numbers-stop h q = sym (numbers-next h ∙ rw q refl) ∙ inv

  pub numbers-go : i < n → f i ≡ false → any f (numbers (i + 1) (n - (i + 1))) ≡ v
  numbers-go h q = sym (numbers-next h ∙ rw q refl) ∙ inv

  pub numbers-end : n ≤ i → false ≡ v
  unfolding any numbers
  numbers-end h = let e : n - i ≡ 0 = omega arith in sym (rw e refl) ∙ inv

-- one expander
module _ (most : Setting) (d : Domain) (i : ℕ) where
  pub unit-by : {a b c e : Bool} → within most.phys (length (expander_at d i).phys) ≡ a → eqb (expander_at d i).address 0 ≡ b → eqb (number_of d (expander_at d i).address) i ≡ c
      → any bad_phy (expander_at d i).phys ≡ e → bad_unit most d i ≡ (not a || (b || (not c || e)))
  unfolding bad_unit
  unit-by qa qb qc qe = rw (qa, qb, qc, qe) refl

pub unread-none : (most : Setting) (d : Domain) → within most.expanders (length d) ≡ false → true ≡ unread most d
unfolding unread
unread-none most d z = sym (rw z refl)

pub unread-some : (most : Setting) (d : Domain) (n : ℕ) {r : Bool} → n ≡ length d → within most.expanders (length d) ≡ true → r ≡ any (bad_unit most d) (numbers 0 n) → r ≡ unread most d
unfolding unread
unread-some most d n e z q = q ∙ ap (λ (k : ℕ). any (bad_unit most d) (numbers 0 k)) e ∙ sym (rw z refl)

-- numbers that stay
abbrev pub Late : ℕ → Type 0
Late n = (15 ≤ n) × (n ≤ 18)

abbrev pub Early : ℕ → Type 0
Early n = (n < 15) ⊎ (18 < n)

pub late-stays : (r : Refusal) → Late r.number → as_form r ≡ r
late-stays r h = rw (le-leb 15 r.number h.0, le-leb r.number 18 h.1) refl

pub early_one : (r : Refusal) → Early r.number → as_form r ≡ refusal 1 0 0
early_one r (inl h) = rw (lt-leb 15 r.number h) refl
early_one r (inr h) = rw (le-leb 15 r.number (omega arith), lt-leb r.number 18 h) refl
