-- Words up to the last non-zero one.
use Prim.Native.Nat.{ℕ, zero, suc, ◌+◌, ◌-◌, ◌≤◌, ◌<◌}
use mathlib.Core.Path.{◌≡◌, refl, sym, ap, ◌∙◌}
use mathlib.Core.Logic.{inl, inr, ◌≢◌}
use mathlib.Core.Bool.{Bool, true, false, cond}
use mathlib.Core.List.{List, [], ◌∷◌, ◌++◌}
use native.Mathlib.Omega.{arith}
use native.Mathlib.Numerals.{add-one}
use lib.ListN.{length, get_or, take, replicate, length-append}
use lib.Seq.{take-suc, length-take-le}
use lib.Dec.{eqb, eqb→eq}
use borrow.Author.Tests.{ne_eqb}
use Rattle.files.specs.Lists.{In}
use Rattle.files.proofs.ListMembers.{was_true}
use Rattle.exercises.specs.Rig.{trim_cons, trimmed}

-- the words are those trimmed and then zeros
cons-whole : (w : ℕ) (l : List ℕ) (n : ℕ) → trim_cons w l ++ replicate (suc (length l + n) - length (trim_cons w l)) 0 ≡ w ∷ (l ++ replicate n 0)
cons-whole w [] n = go (eqb w 0) refl
  where
    go : (b : Bool) → eqb w 0 ≡ b
        → cond b [] (w ∷ []) ++ replicate (suc (0 + n) - length (cond b [] (w ∷ []))) 0 ≡ w ∷ ([] ++ replicate n 0)
    go true q = let z = eqb→eq w 0 (was_true (eqb w 0) q) in
        let m : suc (0 + n) - 0 ≡ suc n = omega arith in
        rw (m, z) refl
    go false q = let m : suc (0 + n) - 1 ≡ n = omega arith in rw m refl
cons-whole w (x ∷ l) n =
    let m : suc (suc (length l) + n) - suc (suc (length l)) ≡ n = omega arith in rw m refl

pub trimmed-few : (ws : List ℕ) → length (trimmed ws) ≤ length ws
unfolding trimmed
trimmed-few [] = omega arith
trimmed-few (w ∷ ws) = go (trimmed ws) (trimmed-few ws)
  where
    one : (b : Bool) → length (cond b [] (w ∷ [])) ≤ suc (length ws)
    one true = omega arith
    one false = omega arith

    go : (l : List ℕ) → length l ≤ length ws → length (trim_cons w l) ≤ suc (length ws)
    go [] h = one (eqb w 0)
    go (x ∷ l) h = omega arith

pub trimmed-whole : (ws : List ℕ) → trimmed ws ++ replicate (length ws - length (trimmed ws)) 0 ≡ ws
unfolding trimmed
trimmed-whole [] = refl
trimmed-whole (w ∷ ws) =
    let k = trimmed-few ws in
    let n : ℕ = length ws - length (trimmed ws) in
    let e : length (trimmed ws) + n ≡ length ws = omega arith in
    let c : trim_cons w (trimmed ws) ++ replicate (suc (length (trimmed ws) + n) - length (trim_cons w (trimmed ws))) 0 ≡ w ∷ (trimmed ws ++ replicate n 0) =
    cons-whole w (trimmed ws) n in
    (rw e at c) ∙ ap (λ (l : List ℕ). w ∷ l) (trimmed-whole ws)

pub trimmed_in : (ws : List ℕ) (s : ℕ) → In s (trimmed ws) → In s ws
unfolding trimmed
trimmed_in [] s h = h
trimmed_in (w ∷ ws) s h = go (trimmed ws) (trimmed_in ws s) h
  where
    one : (b : Bool) → In s (cond b [] (w ∷ [])) → In s (w ∷ ws)
    one true k = absurd k
    one false (inl e) = inl e
    one false (inr k) = absurd k

    go : (l : List ℕ) → (In s l → In s ws) → In s (trim_cons w l) → In s (w ∷ ws)
    go [] r k = one (eqb w 0) k
    go (x ∷ l) r (inl e) = inl e
    go (x ∷ l) r (inr k) = inr (r k)

-- the last word that stays is not zero
pub trimmed-last : (ws : List ℕ) (k : ℕ) → length (trimmed ws) ≡ suc k → get_or ws k 0 ≢ 0
unfolding trimmed
trimmed-last [] k e = absurd (omega arith)
trimmed-last (w ∷ ws) k e = go (trimmed ws) (trimmed-last ws) k e
  where
    one : (b : Bool) → eqb w 0 ≡ b → (k : ℕ) → length (cond b [] (w ∷ [])) ≡ suc k → get_or (w ∷ ws) k 0 ≢ 0
    one true q k e z = omega arith
    one false q zero e z = let t : eqb w 0 ≡ true = ap (λ (v : ℕ). eqb v 0) z in let y : ◌≡◌ {A = Bool} true false = sym t ∙ q in let x : ◌≡◌ {A = ℕ} 0 1 = cc in omega arith
    one false q (suc k) e z = omega arith

    go : (l : List ℕ) → ((k : ℕ) → length l ≡ suc k → get_or ws k 0 ≢ 0) → (k : ℕ) → length (trim_cons w l) ≡ suc k → get_or (w ∷ ws) k 0 ≢ 0
    go [] r k e z = one (eqb w 0) refl k e z
    go (x ∷ l) r zero e z = omega arith
    go (x ∷ l) r (suc k) e z = r k (omega arith) z

trim_cons-some : (x : ℕ) (m : List ℕ) → 0 < length m → trim_cons x m ≡ x ∷ m
trim_cons-some x [] h = absurd (omega arith)
trim_cons-some x (y ∷ m) h = refl

trimmed_snoc : (l : List ℕ) (w : ℕ) → w ≢ 0 → trimmed (l ++ (w ∷ [])) ≡ l ++ (w ∷ [])
unfolding trimmed
trimmed_snoc [] w n = rw (ne_eqb w 0 n) refl
trimmed_snoc (x ∷ l) w n =
    ap (trim_cons x) (trimmed_snoc l w n) ∙ trim_cons-some x (l ++ (w ∷ [])) (omega (arith, length-append l (w ∷ [])))

-- words whose words from n on are zero
zeros-after : (ws : List ℕ) (n : ℕ) → ((j : ℕ) → n ≤ j → j < length ws → get_or ws j 0 ≡ 0) → trimmed (take n ws) ≡ trimmed ws
unfolding trimmed
zeros-after [] zero f = refl
zeros-after [] (suc n) f = refl
zeros-after (w ∷ ws) zero f =
    let z : w ≡ 0 = f 0 (omega arith) (omega arith) in
    let e : trimmed ws ≡ [] = sym (zeros-after ws zero (λ j h k. f (suc j) (omega arith) (omega arith))) in
    rw (e, z)
zeros-after (w ∷ ws) (suc n) f = ap (trim_cons w) (zeros-after ws n (λ j h k. f (suc j) (omega arith) (omega arith)))

-- the last word that is not zero is word k, or there is none
pub last_word : (ws : List ℕ) (k : ℕ) → k < length ws → get_or ws k 0 ≢ 0 → ((j : ℕ) → k < j → j < length ws → get_or ws j 0 ≡ 0) → (k + 1 ≡ length (trimmed ws)) × (take (k + 1) ws ≡ trimmed ws)
last_word ws k h n f =
    let t : take (k + 1) ws ≡ take k ws ++ (get_or ws k 0 ∷ []) = rw add-one (take-suc ws k 0 h) in
    let e : take (k + 1) ws ≡ trimmed ws = t ∙ sym (trimmed_snoc (take k ws) (get_or ws k 0) n) ∙ sym (ap trimmed t) ∙ zeros-after ws (k + 1) (λ j g l. f j (omega arith) l) in
    (sym (length-take-le (k + 1) ws (omega arith)) ∙ ap length e, e)

pub no_word_left : (ws : List ℕ) → ((j : ℕ) → j < length ws → get_or ws j 0 ≡ 0) → (0 ≡ length (trimmed ws)) × ([] ≡ trimmed ws)
unfolding trimmed
no_word_left ws f = let e = zeros-after ws 0 (λ j g l. f j l) in (ap length e, e)
