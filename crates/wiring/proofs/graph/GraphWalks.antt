-- Walks over a graph: one that never turns straight back repeats nothing, or there is a loop. Without loops, two chains with the same
-- ends are equal.
use mathlib.Core.Path.{◌≡◌, refl, sym, ap₂, subst, ◌∙◌}
use mathlib.Core.Logic.{◌⊎◌, inl, inr, ◌≢◌, ⊎_elim, by_cases}
use mathlib.Core.List.{List, [], ◌∷◌}
use mathlib.Core.Bool.{Bool}
use Prim.Native.Nat.{ℕ, ◌<◌}
use native.Mathlib.Decide.{ℕ_discrete}
use lib.Dec.{T}
use Rattle.files.specs.Lists.{In, Distinct, Below, last}
use Rattle.wiring.specs.graph.Graph.{Steps, Symmetric, Loop, self, ring, Tail, Chain}
use Rattle.files.proofs.ListMembers.{in_cast, in?, last_in, all_cons}

-- x is not the first of the list
abbrev pub Skip : ℕ → List ℕ → Type 0
Skip x [] = Unit {0}
Skip x (y ∷ l) = x ≢ y

-- in x ∷ l none equals the one two before it
abbrev pub NoBack : ℕ → List ℕ → Type 0
NoBack x [] = Unit {0}
NoBack x (y ∷ l) = Skip x l × NoBack y l

module _ (n : ℕ) (adj : ℕ → ℕ → Bool) where
  -- the part before x of a walk s ∷ l that meets x in l
  record Cut (s x : ℕ) (l : List ℕ) : Type 0 where
    pre : List ℕ
    steps : Steps adj s pre
    back : T (adj (last s pre) x)
    diff : Distinct pre
    away : ¬ (In x pre)
    sub : (w : ℕ) → In w pre → In w l

  cut : (x s : ℕ) (l : List ℕ) → Steps adj s l → Distinct l → In x l → Cut s x l
  cut x s [] st d h = absurd h
  cut x s (y ∷ l) st d (inl e) =
      record { pre = []; steps = tt; back = subst (λ v. T (adj s v)) (sym e) st.0; diff = tt; away = λ h. h; sub = λ w h. absurd h }
  cut x s (y ∷ l) st d (inr h) =
      let c = cut x y l st.1 d.1 h in
      record {
        pre = y ∷ c.pre;
        steps = (st.0, c.steps);
        back = c.back;
        diff = (λ m. d.0 (c.sub y m), c.diff);
        away = ⊎_elim (λ e. d.0 (in_cast l (sym e) h)) c.away;
        sub = λ w. ⊎_elim inl (λ m. inr (c.sub w m));
      }

  -- a walk that comes back to its start makes a loop
  close : (x : ℕ) (l : List ℕ) → Steps adj x l → NoBack x l → Below n (x ∷ l) → Distinct l → In x l → Loop n adj
  close x [] st nb b d h = absurd h
  close x (y ∷ l) st nb b d (inl e) = self x (b x (inl refl)) (subst (λ v. T (adj x v)) (sym e) st.0)
  close x (y ∷ []) st nb b d (inr h) = absurd h
  close x (y ∷ z ∷ l) st nb b d (inr (inl e)) = absurd (nb.0 e)
  close x (y ∷ z ∷ l) st nb b d (inr (inr h)) =
      let c = cut x z l st.1.1 d.1.1 h in
      ring x y z c.pre (
        ⊎_elim (λ e. d.0 (in_cast (z ∷ l) (sym e) (inr h))) (⊎_elim (λ e. nb.0 e) c.away),
        (⊎_elim (λ e. d.0 (inl e)) (λ m. d.0 (inr (c.sub y m))), (λ m. d.1.0 (c.sub z m), c.diff)),
      )
      (λ w. ⊎_elim (λ e. b w (inl e)) (⊎_elim (λ e. b w (inr (inl e))) (⊎_elim (λ e. b w (inr (inr (inl e)))) (λ m. b w (inr (inr (inr (c.sub w m))))))))
      (st.0, (st.1.0, c.steps))
      c.back

  -- a walk that never turns straight back repeats nothing, or there is a loop
  pub repeats-nothing_or_loop : (x : ℕ) (l : List ℕ) → Steps adj x l → NoBack x l → Below n (x ∷ l) → Distinct (x ∷ l) ⊎ Loop n adj
  repeats-nothing_or_loop x [] st nb b = inl (λ h. h, tt)
  repeats-nothing_or_loop x (y ∷ l) st nb b =
      ⊎_elim
      (λ d. ⊎_elim (λ h. inr (close x (y ∷ l) st nb b d h)) (λ k. inl (k, d)) (in? x (y ∷ l)))
      inr
      (repeats-nothing_or_loop y l st.1 nb.1 (λ w h. b w (inr h)))

  pub repeats-nothing : ¬ (Loop n adj) → (x : ℕ) (l : List ℕ) → Steps adj x l → NoBack x l → Below n (x ∷ l) → Distinct (x ∷ l)
  repeats-nothing f x l st nb b = ⊎_elim (λ d. d) (λ o. absurd (f o)) (repeats-nothing_or_loop x l st nb b)

  -- a walk over different vertices never turns back
  pub noback : (x : ℕ) (l : List ℕ) → Distinct (x ∷ l) → NoBack x l
  noback x [] d = tt
  noback x (y ∷ []) d = (tt, tt)
  noback x (y ∷ z ∷ l) d = (λ e. d.0 (inr (inl e)), noback y (z ∷ l) d.1)

  -- the first of p is not the first of q
  abbrev pub Apart : List ℕ → List ℕ → Type 0
  Apart [] q = Unit {0}
  Apart (a ∷ p) q = Skip a q

  pub turn : (x : ℕ) (p q : List ℕ) → Skip x p → Apart p (x ∷ q)
  turn x [] q s = tt
  turn x (b ∷ p) q s = λ e. s (sym e)

  -- two walks from x that part at once and end in the same: p is laid backwards before q
  glue : Symmetric adj → (x : ℕ) (p : List ℕ) (y : ℕ) (q : List ℕ) → Steps adj x p → NoBack x p → Below n (x ∷ p)
      → Steps adj x (y ∷ q) → NoBack x (y ∷ q) → Below n (x ∷ y ∷ q) → Apart p (y ∷ q) → last x p ≡ last y q → Loop n adj
  glue sy x [] y q sp np bp sq nq bq a e =
      ⊎_elim (λ d. absurd (d.0 (in_cast (y ∷ q) e (last_in y q)))) (λ o. o) (repeats-nothing_or_loop x (y ∷ q) sq nq bq)
  glue sy x (b ∷ p) y q sp np bp sq nq bq a e =
      glue sy b p x (y ∷ q) sp.1 np.1 (λ w h. bp w (inr h)) (sy x b sp.0, sq) (a, nq)
      (all_cons (λ w. w < n) b (x ∷ y ∷ q) (bp b (inr (inl refl))) bq) (turn x p (y ∷ q) np.0) e

  pub rest_of : (i j x : ℕ) (l : List ℕ) → Tail n adj i j (x ∷ l) → Tail n adj x j l
  rest_of i j x l c = record { diff = c.diff.1; below = λ w h. c.below w (inr h); steps = c.steps.1; ends = c.ends }

  ends_there : (i j x : ℕ) (l : List ℕ) → Tail n adj i j [] → Tail n adj i j (x ∷ l) → ⊥
  ends_there i j x l a b = b.diff.0 (in_cast (x ∷ l) (a.ends ∙ sym b.ends) (last_in x l))

  pub same_rest : Symmetric adj → ¬ (Loop n adj) → (i j : ℕ) (p q : List ℕ) → Tail n adj i j p → Tail n adj i j q → p ≡ q
  same_rest sy f i j [] [] a b = refl
  same_rest sy f i j [] (y ∷ q) a b = absurd (ends_there i j y q a b)
  same_rest sy f i j (x ∷ p) [] a b = absurd (ends_there i j x p b a)
  same_rest sy f i j (x ∷ p) (y ∷ q) a b =
      by_cases
      (ℕ_discrete x y)
      (λ e. ap₂ ◌∷◌ e (same_rest sy f x j p q (rest_of i j x p a) (subst (λ v. Tail n adj v j q) (sym e) (rest_of i j y q b))))
      (λ d. absurd (f (glue sy i (x ∷ p) y q a.steps (noback i (x ∷ p) a.diff) a.below
      b.steps (noback i (y ∷ q) b.diff) b.below d (a.ends ∙ sym b.ends))))

  -- without loops, two chains with the same ends are equal
  pub same-chain : Symmetric adj → ¬ (Loop n adj) → (i j : ℕ) (p q : List ℕ) → Chain n adj i j p → Chain n adj i j q → p ≡ q
  same-chain sy f i j [] q a b = absurd a
  same-chain sy f i j (x ∷ p) [] a b = absurd b
  same-chain sy f i j (x ∷ p) (y ∷ q) a b =
      ap₂ ◌∷◌ (a.0 ∙ sym b.0) (same_rest sy f i j p q (subst (λ v. Tail n adj v j p) a.0 a.1) (subst (λ v. Tail n adj v j q) b.0 b.1))
