-- Values put into a list from a place on, by the kit's `sets`: the parts of the list afterwards, values behind values, a part that was
-- lent out, and what stands where.
use Prim.Native.Nat.{ℕ, zero, suc, ◌+◌, ◌≤◌, ◌<◌}
use mathlib.Core.Path.{◌≡◌, refl, sym, ◌∙◌, ap}
use mathlib.Core.Logic.{◌⊎◌, inl, inr, ⊎_elim}
use mathlib.Core.List.{List, [], ◌∷◌, ◌++◌, append_assoc}
use native.Mathlib.Omega.{arith}
use native.Mathlib.Nat.{zero-add}
use lib.ListN.{length, get_or, take, drop, set, length-set}
use lib.Seq.{sets, sets-eq, drop-drop, get_or-set_same, get_or-set_other}

module _ {A : Type 0} where
  -- what stood before, the values, and what stood after
  pub sets-parts : (l : List A) (i : ℕ) (vs : List A) → i + length vs ≤ length l → sets l i vs ≡ take i l ++ (vs ++ drop (i + length vs) l)
  sets-parts l i vs h = sets-eq vs l i h ∙ append_assoc (take i l) vs (drop (i + length vs) l)

  -- from the front on
  pub sets-front : (vs l : List A) → length vs ≤ length l → sets l 0 vs ≡ vs ++ drop (length vs) l
  sets-front vs l h = sets-eq vs l 0 (omega arith) ∙ ap (λ (m : ℕ). vs ++ drop m l) (zero-add (length vs))

  -- values behind values
  pub sets-append : (l : List A) (i : ℕ) (vs us : List A) → sets l i (vs ++ us) ≡ sets (sets l i vs) (i + length vs) us
  sets-append l i [] us = let e : i + 0 ≡ i = omega arith in rw e
  sets-append l i (v ∷ vs) us = let e : suc i + length vs ≡ i + suc (length vs) = omega arith in sets-append (set l i v) (suc i) vs us ∙ rw e

  pub sets_then : (l m n : List A) (i j : ℕ) (vs us : List A) → m ≡ sets l i vs → n ≡ sets m j us → j ≡ i + length vs → n ≡ sets l i (vs ++ us)
  sets_then l m n i j vs us e f k = f ∙ rw (e, k) (sym (sets-append l i vs us))

  -- the part from a on, k long, that was lent out and comes back as r
  pub sets_mid : (l r : List A) (a k : ℕ) → length r ≡ k → a + k ≤ length l → take a l ++ (r ++ drop k (drop a l)) ≡ sets l a r
  sets_mid l r a k e h =
      let d : drop k (drop a l) ≡ drop (a + length r) l = drop-drop k a l ∙ ap (λ (n : ℕ). drop (a + n) l) (sym e) in
      ap (λ (m : List A). take a l ++ (r ++ m)) d ∙ sym (sets-parts l a r (omega arith))

  -- a part that comes back, and the values that are to come behind it
  pub sets_mid_then : (l r us : List A) (i j a k : ℕ) → a ≡ i → length r ≡ k → j ≡ i + k → j ≤ length l
      → sets (take a l ++ (r ++ drop k (drop a l))) j us ≡ sets l i (r ++ us)
  sets_mid_then l r us i j a k e f g h =
      sets_then l (take a l ++ (r ++ drop k (drop a l))) _ i j r us (sets_mid l r a k f (omega arith) ∙ ap (λ (n : ℕ). sets l n r) e) refl (omega arith)

  -- what stands elsewhere stays, and each value stands at its place
  pub sets-stay : (vs l : List A) (i k : ℕ) (d : A) → (k < i) ⊎ (i + length vs ≤ k) → get_or (sets l i vs) k d ≡ get_or l k d
  sets-stay [] l i k d h = refl
  sets-stay (v ∷ vs) l i k d h =
      sets-stay vs (set l i v) (suc i) k d (⊎_elim (λ o. inl (omega arith)) (λ o. inr (omega arith)) h)
      ∙ get_or-set_other l i k v d (λ z. ⊎_elim {C = ⊥} (λ o. omega arith) (λ o. omega arith) h)

  pub sets_stand : (vs l : List A) (i j : ℕ) (d : A) → i + length vs ≤ length l → j < length vs → get_or (sets l i vs) (i + j) d ≡ get_or vs j d
  sets_stand [] l i j d h m = absurd (omega arith)
  sets_stand (v ∷ vs) l i zero d h m =
      let e : i + 0 ≡ i = omega arith in
      ap (λ (n : ℕ). get_or (sets (set l i v) (suc i) vs) n d) e ∙ sets-stay vs (set l i v) (suc i) i d (inl (omega arith)) ∙ get_or-set_same l i v d (omega arith)
  sets_stand (v ∷ vs) l i (suc j) d h m =
      let e : i + suc j ≡ suc i + j = omega arith in
      ap (λ (n : ℕ). get_or (sets (set l i v) (suc i) vs) n d) e ∙ sets_stand vs (set l i v) (suc i) j d (omega (arith, length-set l i v)) (omega arith)
