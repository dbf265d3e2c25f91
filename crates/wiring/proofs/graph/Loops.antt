-- Taking away what does not stay, round by round, decides whether there is a loop.
use mathlib.Core.Path.{◌≡◌, refl, sym, subst, ◌∙◌}
use mathlib.Core.Logic.{◌⊎◌, inl, inr, ◌≢◌, ◌↔◌, ⊎_elim, by_cases}
use mathlib.Core.List.{List, [], ◌∷◌}
use mathlib.Core.Bool.{Bool}
use Prim.Native.Nat.{ℕ, zero, suc, ◌+◌, ◌≤◌}
use native.Mathlib.Decide.{ℕ_discrete}
use native.Mathlib.Omega.{arith}
use lib.ListN.{length}
use lib.Dec.{T}
use Rattle.files.specs.Lists.{up_to, keep, In, Distinct, Below, last}
use Rattle.wiring.specs.graph.Graph.{Steps, Symmetric, Loop, self, ring, two, is_nil, stays, strip, loopfree}
use Rattle.files.proofs.ListMembers.{or_cases, or_left, or_right, in_cast, keeps, kept, keep-distinct, all_or_fewer, all_cons, last_in, in_up_to, numbers-below, numbers-distinct, length-numbers, pigeonhole}
use Rattle.wiring.proofs.graph.GraphWalks.{Skip, NoBack, repeats-nothing_or_loop}

not_nil : (l : List ℕ) (w : ℕ) → In w l → T (is_nil l) → ⊥
not_nil [] w h t = h
not_nil (x ∷ l) w h t = t

two_in : (l : List ℕ) (a b : ℕ) → In a l → In b l → a ≢ b → T (two l)
two_in [] a b p q d = p
two_in (x ∷ []) a b (inl e) (inl f) d = d (e ∙ sym f)
two_in (x ∷ []) a b (inl e) (inr q) d = q
two_in (x ∷ []) a b (inr p) q d = p
two_in (x ∷ y ∷ l) a b p q d = tt

module _ (n : ℕ) (adj : ℕ → ℕ → Bool) where
  -- two different vertices of the rest, both adjacent to v
  pub record Fork (rest : List ℕ) (v : ℕ) : Type 0 where
    pub a : ℕ
    pub b : ℕ
    pub a_in : In a rest
    pub b_in : In b rest
    pub a-adj : T (adj v a)
    pub b-adj : T (adj v b)
    pub differ : a ≢ b

  two-of : (rest : List ℕ) (v : ℕ) (l : List ℕ) → ((w : ℕ) → In w l → In w rest × T (adj v w)) → Distinct l → T (two l) → Fork rest v
  two-of rest v [] s d t = absurd t
  two-of rest v (x ∷ []) s d t = absurd t
  two-of rest v (x ∷ y ∷ l) s d t =
      let p = s x (inl refl) in
      let q = s y (inr (inl refl)) in
      record { a = x; b = y; a_in = p.0; b_in = q.0; a-adj = p.1; b-adj = q.1; differ = λ e. d.0 (inl e) }

  pub stays_fork : (rest : List ℕ) (v : ℕ) → Distinct rest → T (stays n adj rest v) → T (adj v v) ⊎ Fork rest v
  stays_fork rest v d t =
      ⊎_elim inl (λ u. inr (two-of rest v (keep (adj v) rest) (kept (adj v) rest) (keep-distinct (adj v) rest d) u))
      (or_cases (adj v v) (two (keep (adj v) rest)) t)

  pub fork_stays : (rest : List ℕ) (v : ℕ) → Fork rest v → T (stays n adj rest v)
  fork_stays rest v f =
      or_right (adj v v) (two (keep (adj v) rest))
      (two_in (keep (adj v) rest) f.a f.b (keeps (adj v) rest f.a f.a_in f.a-adj) (keeps (adj v) rest f.b f.b_in f.b-adj) f.differ)

  -- a vertex of the rest that goes before x ∷ acc without turning back
  pub record Next (rest : List ℕ) (x : ℕ) (acc : List ℕ) : Type 0 where
    pub y : ℕ
    pub y_in : In y rest
    pub y-adj : T (adj x y)
    pub skips : Skip y acc

  pub next : (rest : List ℕ) (x : ℕ) (acc : List ℕ) → Fork rest x → Next rest x acc
  next rest x [] f = record { y = f.a; y_in = f.a_in; y-adj = f.a-adj; skips = tt }
  next rest x (z ∷ acc) f =
      by_cases
      (ℕ_discrete f.a z)
      (λ e. record { y = f.b; y_in = f.b_in; y-adj = f.b-adj; skips = λ q. f.differ (e ∙ sym q) })
      (λ d. record { y = f.a; y_in = f.a_in; y-adj = f.a-adj; skips = d })

  module _ (sy : Symmetric adj) where
    -- where all of the rest stay, a walk goes on until it repeats a vertex
    extend : (rest : List ℕ) → Below n rest → ((v : ℕ) → In v rest → T (adj v v) ⊎ Fork rest v) → (k x : ℕ) (acc : List ℕ)
        → ((w : ℕ) → In w (x ∷ acc) → In w rest) → Steps adj x acc → NoBack x acc → k + length acc ≡ n → Loop n adj
    extend rest b all zero x acc s st nb e =
        ⊎_elim (λ d. absurd (pigeonhole n (x ∷ acc) (λ w h. b w (s w h)) (omega arith) d)) (λ o. o)
        (repeats-nothing_or_loop n adj x acc st nb (λ w h. b w (s w h)))
    extend rest b all (suc k) x acc s st nb e =
        ⊎_elim
        (self x (b x (s x (inl refl))))
        (λ f. let r = next rest x acc f in
        extend rest b all k r.y (x ∷ acc) (all_cons (λ w. In w rest) r.y (x ∷ acc) r.y_in s) (sy x r.y r.y-adj, st) (r.skips, nb) (omega arith))
        (all x (s x (inl refl)))

    -- a round that takes nothing away shows a loop; else each round leaves fewer
    strip_finds : (k : ℕ) (rest : List ℕ) → length rest ≤ k → Distinct rest → Below n rest → T (is_nil (strip n adj k rest)) ⊎ Loop n adj
    unfolding strip keep
    strip_finds zero [] h d b = inl tt
    strip_finds zero (x ∷ l) h d b = absurd (omega arith)
    strip_finds (suc k) [] h d b = strip_finds k [] (omega arith) d b
    strip_finds (suc k) (x ∷ l) h d b =
        let t = stays n adj (x ∷ l) in
        ⊎_elim
        (λ c. inr (extend (x ∷ l) b (λ v i. stays_fork (x ∷ l) v d (c v i)) n x [] (λ w. ⊎_elim inl (λ i. absurd i)) tt tt (omega arith)))
        (λ c. strip_finds k (keep t (x ∷ l)) (omega arith) (keep-distinct t (x ∷ l) d) (λ w i. b w (kept t (x ∷ l) w i).0))
        (all_or_fewer t (x ∷ l))

    -- each of l has two different vertices adjacent to it, on a walk s ∷ l that closes at e
    around : (rest : List ℕ) (e s : ℕ) (l : List ℕ) → Steps adj s l → Distinct (s ∷ l) → ¬ (In e (s ∷ l)) → T (adj (last s l) e)
        → In e rest → ((w : ℕ) → In w (s ∷ l) → In w rest) → (v : ℕ) → In v l → Fork rest v
    around rest e s [] st d k c i m v h = absurd h
    around rest e s (t ∷ []) st d k c i m v (inl q) =
        subst (Fork rest) (sym q)
        record { a = s; b = e; a_in = m s (inl refl); b_in = i; a-adj = sy s t st.0; b-adj = c; differ = λ r. k (inl (sym r)) }
    around rest e s (t ∷ u ∷ l) st d k c i m v (inl q) =
        subst (Fork rest) (sym q)
        record { a = s; b = u; a_in = m s (inl refl); b_in = m u (inr (inr (inl refl))); a-adj = sy s t st.0; b-adj = st.1.0; differ = λ r. d.0 (inr (inl r)) }
    around rest e s (t ∷ l) st d k c i m v (inr h) =
        around rest e t l st.1 d.1 (λ r. k (inr r)) c i (λ w r. m w (inr r)) v h

    abbrev verts : Loop n adj → List ℕ
    verts (self v b t) = v ∷ []
    verts (ring x y z l d b st c) = x ∷ y ∷ z ∷ l

    -- the vertices of a loop stay where all of them are in the rest
    loop_stays : (o : Loop n adj) (rest : List ℕ) → ((w : ℕ) → In w (verts o) → In w rest) → (v : ℕ) → In v (verts o) → T (stays n adj rest v)
    loop_stays (self x b t) rest m v (inl q) = subst (λ w. T (stays n adj rest w)) (sym q) (or_left (adj x x) (two (keep (adj x) rest)) t)
    loop_stays (self x b t) rest m v (inr h) = absurd h
    loop_stays (ring x y z l d b st c) rest m v (inl q) =
        fork_stays rest v
        (subst (Fork rest) (sym q)
        record {
          a = y;
          b = last z l;
          a_in = m y (inr (inl refl));
          b_in = m (last z l) (inr (inr (last_in z l)));
          a-adj = st.0;
          b-adj = sy (last z l) x c;
          differ = λ r. d.1.0 (in_cast (z ∷ l) r (last_in z l));
        })
    loop_stays (ring x y z l d b st c) rest m v (inr (inl q)) =
        fork_stays rest v
        (subst (Fork rest) (sym q)
        record {
          a = x;
          b = z;
          a_in = m x (inl refl);
          b_in = m z (inr (inr (inl refl)));
          a-adj = sy x y st.0;
          b-adj = st.1.0;
          differ = λ r. d.0 (inr (inl r));
        })
    loop_stays (ring x y z l d b st c) rest m v (inr (inr h)) =
        fork_stays rest v (around rest x y (z ∷ l) st.1 d.1 d.0 c (m x (inl refl)) (λ w r. m w (inr r)) v h)

    survives : (o : Loop n adj) (k : ℕ) (rest : List ℕ) → ((w : ℕ) → In w (verts o) → In w rest) → (w : ℕ) → In w (verts o) → In w (strip n adj k rest)
    unfolding strip
    survives o zero rest m = m
    survives o (suc k) rest m =
        survives o k (keep (stays n adj rest) rest) (λ w h. keeps (stays n adj rest) rest w (m w h) (loop_stays o rest m w h))

    not_stripped : (o : Loop n adj) → T (loopfree n adj) → ⊥
    not_stripped (self v b t) =
        not_nil (strip n adj n (up_to n)) v (survives (self v b t) n (up_to n) (λ w. ⊎_elim (λ q. in_cast (up_to n) q (in_up_to n v b)) (λ i. absurd i)) v (inl refl))
    not_stripped (ring x y z l d b st c) =
        not_nil (strip n adj n (up_to n)) x (survives (ring x y z l d b st c) n (up_to n) (λ w h. in_up_to n w (b w h)) x (inl refl))

    pub loopfree_iff : T (loopfree n adj) ↔ (¬ (Loop n adj))
    loopfree_iff = (
      λ t o. not_stripped o t,
      λ f. ⊎_elim (λ t. t) (λ o. absurd (f o)) (strip_finds n (up_to n) (omega (arith, length-numbers 0 n)) (numbers-distinct 0 n) (numbers-below n)),
    )
