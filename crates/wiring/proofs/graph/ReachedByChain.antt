-- What is reached from a vertex in n rounds is what a chain leads to.
use mathlib.Core.Path.{refl, sym, subst}
use mathlib.Core.Logic.{inl, inr, ◌↔◌, ⊎_elim}
use mathlib.Core.List.{List, [], ◌∷◌}
use mathlib.Core.Bool.{Bool}
use Prim.Native.Nat.{ℕ, zero, suc, ◌≤◌, ◌<◌}
use native.Mathlib.Omega.{arith}
use lib.ListN.{length}
use lib.Dec.{T}
use Rattle.files.specs.Lists.{up_to, any, keep, is_in, In, Below, last}
use Rattle.wiring.specs.graph.Graph.{Steps, Tail, Chain, near, reach, reached}
use Rattle.files.proofs.ListMembers.{or_cases, or_left, or_right, in_cast, in?, all_cons, any_of, of-any, is_in-of, of-is_in, keeps, kept, in_up_to, numbers-below, at_most}
use Rattle.wiring.proofs.graph.GraphWalks.{rest_of}

module _ (n : ℕ) (adj : ℕ → ℕ → Bool) where
  -- a chain from i to j, without its first
  abbrev pub Joined : ℕ → ℕ → Type 0
  Joined i j = (l : List ℕ) × Tail n adj i j l

  pub single : (i : ℕ) → i < n → Tail n adj i i []
  single i h = record { diff = (λ k. k, tt); below = all_cons (λ w. w < n) i [] h (λ w k. absurd k); steps = tt; ends = refl }

  -- the part of a chain from one of its members on
  from : (i a j : ℕ) (p : List ℕ) → Tail n adj a j p → In i (a ∷ p) → Joined i j
  from i a j [] t (inl e) = ([], subst (λ v. Tail n adj v j []) (sym e) t)
  from i a j [] t (inr h) = absurd h
  from i a j (b ∷ p) t (inl e) = (b ∷ p, subst (λ v. Tail n adj v j (b ∷ p)) (sym e) t)
  from i a j (b ∷ p) t (inr h) = from i b j p (rest_of n adj a j b p t) h

  pub prepend : (i a j : ℕ) → i < n → T (adj i a) → Joined a j → Joined i j
  prepend i a j h t c =
      ⊎_elim
      (from i a j c.0 c.1)
      (λ k. (a ∷ c.0, record { diff = (k, c.1.diff); below = all_cons (λ w. w < n) i (a ∷ c.0) h c.1.below; steps = (t, c.1.steps); ends = c.1.ends }))
      (in? i (a ∷ c.0))

  append : (i x y : ℕ) (l : List ℕ) → Tail n adj i x l → T (adj x y) → y < n → Joined i y
  append i x y [] c t h = prepend i y y (c.below i (inl refl)) (subst (λ v. T (adj v y)) (sym c.ends) t) ([], single y h)
  append i x y (a ∷ l) c t h = prepend i a y (c.below i (inl refl)) c.steps.0 (append a x y l (rest_of n adj i x a l c) t h)

  -- all that is met is joined to i
  sound : (i k : ℕ) (met : List ℕ) → ((w : ℕ) → In w met → Joined i w) → (w : ℕ) → In w (reach n adj k met) → Joined i w
  unfolding reach
  sound i zero met f = f
  sound i (suc k) met f = sound i k (keep (near n adj met) (up_to n)) step
    where
      step : (w : ℕ) → In w (keep (near n adj met) (up_to n)) → Joined i w
      step w h =
          let r = kept (near n adj met) (up_to n) w h in
          ⊎_elim
          (λ u. f w (of-is_in w met u))
          (λ u. let s = of-any (λ x. adj x w) met u in let c = f s.0 s.1 in append i s.0 w c.0 c.1 s.2 (numbers-below n w r.0))
          (or_cases (is_in w met) (any (λ x. adj x w) met) r.1)

  -- what is met, and what is adjacent to it, is met after a round
  again : (met : List ℕ) (s : ℕ) → In s met → s < n → In s (keep (near n adj met) (up_to n))
  again met s i h = keeps (near n adj met) (up_to n) s (in_up_to n s h) (or_left (is_in s met) (any (λ x. adj x s) met) (is_in-of s met i))

  newly : (met : List ℕ) (s t : ℕ) → In s met → T (adj s t) → t < n → In t (keep (near n adj met) (up_to n))
  newly met s t i a h =
      keeps (near n adj met) (up_to n) t (in_up_to n t h) (or_right (is_in t met) (any (λ x. adj x t) met) (any_of (λ x. adj x t) met s i a))

  complete : (k : ℕ) (met : List ℕ) (s : ℕ) (l : List ℕ) → In s met → Steps adj s l → Below n (s ∷ l) → length l ≤ k → In (last s l) (reach n adj k met)
  unfolding reach
  complete zero met s [] i st b h = i
  complete zero met s (t ∷ l) i st b h = absurd (omega arith)
  complete (suc k) met s [] i st b h = complete k (keep (near n adj met) (up_to n)) s [] (again met s i (b s (inl refl))) st b (omega arith)
  complete (suc k) met s (t ∷ l) i st b h =
      complete k (keep (near n adj met) (up_to n)) t l (newly met s t i st.0 (b t (inr (inl refl)))) st.1 (λ w m. b w (inr m)) (omega arith)

  chain-reached : (i j : ℕ) (p : List ℕ) → Chain n adj i j p → T (reached n adj i j)
  chain-reached i j [] c = absurd c
  chain-reached i j (x ∷ l) c =
      is_in-of j (reach n adj n (i ∷ []))
      (in_cast (reach n adj n (i ∷ [])) (sym c.1.ends)
      (complete n (i ∷ []) x l (inl c.0) c.1.steps c.1.below (omega (arith, at_most n (x ∷ l) c.1.below c.1.diff))))

  reached-chain : (i j : ℕ) → i < n → T (reached n adj i j) → (p : List ℕ) × Chain n adj i j p
  reached-chain i j h t =
      let start = all_cons (Joined i) i [] ([], single i h) (λ w k. absurd k) in
      let r = sound i n (i ∷ []) start j (of-is_in j (reach n adj n (i ∷ [])) t) in
      (i ∷ r.0, (refl, r.1))

  pub reached_iff : (i j : ℕ) → i < n → T (reached n adj i j) ↔ ((p : List ℕ) × Chain n adj i j p)
  reached_iff i j h = (reached-chain i j h, λ c. chain-reached i j c.0 c.1)
