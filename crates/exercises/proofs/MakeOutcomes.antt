-- The call's promise, by its one test.
use Prim.Native.Nat.{ℕ, ◌^◌, ◌<◌}
use mathlib.Core.Path.{◌≡◌, refl, ap, subst, ◌∙◌}
use mathlib.Core.Bool.{true, false}
use mathlib.Core.List.{List, [], ◌∷◌}
use lib.ListN.{length}
use Rattle.wiring.specs.FrameDefinitions.{Result, refused, refusal}
use Rattle.files.specs.Domain.{Domain}
use Rattle.files.specs.Rows.{rows_of, domain_in}
use Rattle.files.proofs.ListMembers.{was_false}
use Rattle.cards.specs.Calls.{file_for, MadeDone}
use Rattle.exercises.specs.Rig.{trimmed, first_of, second_of, made, no_rig}
use Rattle.exercises.specs.Call.{make_call}
use Rattle.exercises.proofs.Exercise.{WordsFit, makable, rows_back}

-- no rig, or the file of the domain that the rows hold
pub make-none : (a b : ℕ) (ws before : List ℕ) (answer : Result ℕ) → no_rig a b ws ≡ true → answer ≡ refused (refusal 24 0 0)
    → MadeDone (make_call a b ws (length before)) answer before before
unfolding make_call
make-none a b ws before answer e q = rw e (record { answers = q; bytes = refl })

pub make-some : (a b : ℕ) (ws before after rows : List ℕ) (answer : Result ℕ) (i : ℕ) (l : List ℕ) → no_rig a b ws ≡ false → a < 2 ^ 64 → b < 2 ^ 64 → WordsFit ws
    → i ≡ length ws → l ≡ trimmed ws → rows ≡ rows_of (first_of a b i ∷ second_of a b l ∷ []) → MadeDone (file_for (length before) (domain_in rows)) answer before after
    → MadeDone (make_call a b ws (length before)) answer before after
unfolding make_call made
make-some a b ws before after rows answer i l e x y f qi ql q m =
    let d : domain_in rows ≡ made a b ws = ap domain_in q ∙ same i l qi ql ∙ rows_back a b ws (makable a b ws (was_false (no_rig a b ws) e)) x y f in
    rw e (subst (λ (k : Domain). MadeDone (file_for (length before) k) answer before after) d m)
  where
    same : (i : ℕ) (l : List ℕ) → i ≡ length ws → l ≡ trimmed ws → domain_in (rows_of (first_of a b i ∷ second_of a b l ∷ [])) ≡ domain_in (rows_of (first_of a b (length ws) ∷ second_of a b (trimmed ws) ∷ []))
    same i l p o = rw (p, o) refl
