-- Each number once: who stays, and that those who stay differ.
use mathlib.Core.Path.{◌≡◌, refl, sym, subst}
use mathlib.Core.Logic.{◌⊎◌, inl, inr, ⊎_elim}
use mathlib.Core.List.{List, [], ◌∷◌}
use mathlib.Core.Bool.{Bool, true, false, cond}
use Prim.Native.Nat.{ℕ}
use lib.Dec.{T}
use Rattle.files.specs.Lists.{In, is_in, Distinct}
use Rattle.files.proofs.ListMembers.{in_cast, is_in-of, of-is_in, was_true}
use Rattle.tables.specs.levels.Levels.{each_once}

-- one number that was seen, and one that was not
pub once_skip : (seen : List ℕ) (x : ℕ) (xs : List ℕ) → is_in x seen ≡ true → each_once seen (x ∷ xs) ≡ each_once seen xs
unfolding each_once
once_skip seen x xs q = rw q

pub once-take : (seen : List ℕ) (x : ℕ) (xs : List ℕ) → is_in x seen ≡ false → each_once seen (x ∷ xs) ≡ x ∷ each_once (x ∷ seen) xs
unfolding each_once
once-take seen x xs q = rw q

pub in_once : (seen l : List ℕ) (w : ℕ) → In w (each_once seen l) → In w l
unfolding each_once
in_once seen [] w h = h
in_once seen (x ∷ l) w h = go (is_in x seen) (λ v. in_once v l w) h
  where
    go : (b : Bool) → ((v : List ℕ) → In w (each_once v l) → In w l) → In w (cond b (each_once seen l) (x ∷ each_once (x ∷ seen) l)) → In w (x ∷ l)
    go true r k = inr (r seen k)
    go false r (inl e) = inl e
    go false r (inr k) = inr (r (x ∷ seen) k)

pub once_in : (seen l : List ℕ) (w : ℕ) → In w l → In w seen ⊎ In w (each_once seen l)
unfolding each_once
once_in seen [] w h = absurd h
once_in seen (x ∷ l) w h = go (is_in x seen) refl (λ v. once_in v l w) h
  where
    go : (b : Bool) → is_in x seen ≡ b → ((v : List ℕ) → In w l → In w v ⊎ In w (each_once v l)) → In w (x ∷ l)
        → In w seen ⊎ In w (cond b (each_once seen l) (x ∷ each_once (x ∷ seen) l))
    go true e r (inl q) = inl (in_cast seen q (of-is_in x seen (was_true (is_in x seen) e)))
    go true e r (inr k) = r seen k
    go false e r (inl q) = inr (inl q)
    go false e r (inr k) = ⊎_elim (⊎_elim (λ q. inr (inl q)) inl) (λ m. inr (inr m)) (r (x ∷ seen) k)

pub once-distinct : (seen l : List ℕ) → Distinct (each_once seen l) × ((w : ℕ) → In w seen → In w (each_once seen l) → ⊥)
unfolding each_once
once-distinct seen [] = (tt, λ w h k. k)
once-distinct seen (x ∷ l) = go (is_in x seen) refl (once-distinct seen l) (once-distinct (x ∷ seen) l)
  where
    go : (b : Bool) → is_in x seen ≡ b → Distinct (each_once seen l) × ((w : ℕ) → In w seen → In w (each_once seen l) → ⊥)
        → Distinct (each_once (x ∷ seen) l) × ((w : ℕ) → In w (x ∷ seen) → In w (each_once (x ∷ seen) l) → ⊥)
        → Distinct (cond b (each_once seen l) (x ∷ each_once (x ∷ seen) l)) × ((w : ℕ) → In w seen → In w (cond b (each_once seen l) (x ∷ each_once (x ∷ seen) l)) → ⊥)
    go true e r q = r
    go false e r q = (
      (q.1 x (inl refl), q.0),
      λ w h. ⊎_elim (λ o. subst T e (is_in-of x seen (in_cast seen (sym o) h))) (q.1 w (inr h)),
    )
