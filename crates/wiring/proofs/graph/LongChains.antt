-- Rounds that take away both ends of every chain decide whether a chain has more than so many expanders: what is left of a long chain
-- is its middle, and from what is left two arms go out, one expander for each round.
use mathlib.Core.Path.{◌≡◌, refl, sym, subst, ◌∙◌}
use mathlib.Core.Logic.{inl, inr, ◌≢◌, ◌↔◌, ⊎_elim}
use mathlib.Core.List.{List, [], ◌∷◌}
use mathlib.Core.Bool.{Bool}
use Prim.Native.Nat.{ℕ, zero, suc, ◌+◌, ◌*◌, ◌/◌, ◌%◌, ◌≤◌, ◌<◌}
use native.Mathlib.Omega.{arith}
use lib.ListN.{length}
use borrow.Author.Tests.{le-leb}
use lib.Dec.{T, leb, leb→le, le→leb, T_not}
use Rattle.files.specs.Lists.{up_to, keep, In, Distinct, Below, last}
use Rattle.wiring.specs.graph.Graph.{Steps, Symmetric, Loop, self, Tail, Chain, stays, strip}
use Rattle.frames.specs.Refusals.{good}
use Rattle.files.specs.declared.Setting.{Setting}
use Rattle.files.specs.Domain.{Domain}
use Rattle.wiring.specs.graph.Neighbours.{neighbours}
use Rattle.files.specs.ReadDomain.{Read}
use Rattle.wiring.specs.graph.LongChains.{chains_within, unlong, LongChain, ShortChains}
use Rattle.wiring.specs.graph.Devices.{LoopIn, ChainIn}
use Rattle.files.proofs.ListMembers.{or_cases, or_right, all_cons, keeps, kept, keep-distinct, fits, at_most, in_up_to, numbers-below, numbers-distinct, not_not}
use Rattle.wiring.proofs.graph.GraphWalks.{Skip, NoBack, Apart, turn, noback, repeats-nothing, rest_of}
use Rattle.wiring.proofs.graph.Loops.{Fork, stays_fork, fork_stays, next}
use Rattle.wiring.proofs.graph.ReachedByChain.{Joined, single, prepend}
use Rattle.wiring.proofs.phys.WiredPhys.{adj_symmetric}

-- a list without its last
abbrev init : List ℕ → List ℕ
init [] = []
init (x ∷ []) = []
init (x ∷ y ∷ l) = x ∷ init (y ∷ l)

-- a list without its first and last
abbrev inner : List ℕ → List ℕ
inner [] = []
inner (x ∷ l) = init l

init_in : (l : List ℕ) (w : ℕ) → In w (init l) → In w l
init_in [] w h = h
init_in (x ∷ []) w h = absurd h
init_in (x ∷ y ∷ l) w (inl e) = inl e
init_in (x ∷ y ∷ l) w (inr h) = inr (init_in (y ∷ l) w h)

init-distinct : (l : List ℕ) → Distinct l → Distinct (init l)
init-distinct [] d = tt
init-distinct (x ∷ []) d = tt
init-distinct (x ∷ y ∷ l) d = (λ h. d.0 (init_in (y ∷ l) x h), init-distinct (y ∷ l) d.1)

init-length : (x : ℕ) (l : List ℕ) → length (x ∷ l) ≡ suc (length (init (x ∷ l)))
init-length x [] = refl
init-length x (y ∷ l) = omega (arith, init-length y l)

inner_in : (l : List ℕ) (w : ℕ) → In w (inner l) → In w l
inner_in [] w h = h
inner_in (x ∷ l) w h = inr (init_in l w h)

inner-distinct : (l : List ℕ) → Distinct l → Distinct (inner l)
inner-distinct [] d = tt
inner-distinct (x ∷ l) d = init-distinct l d.1

inner-length : (l : List ℕ) → length l ≤ 2 + length (inner l)
inner-length [] = omega arith
inner-length (x ∷ []) = omega arith
inner-length (x ∷ y ∷ l) = omega (arith, init-length y l)

-- each is adjacent to the next
module _ (adj : ℕ → ℕ → Bool) where
  abbrev Walk : List ℕ → Type 0
  Walk [] = Unit {0}
  Walk (x ∷ l) = Steps adj x l

  init-walk : (l : List ℕ) → Walk l → Walk (init l)
  init-walk [] s = tt
  init-walk (x ∷ []) s = tt
  init-walk (x ∷ y ∷ []) s = tt
  init-walk (x ∷ y ∷ z ∷ l) s = (s.0, init-walk (y ∷ z ∷ l) s.1)

  inner-walk : (l : List ℕ) → Walk l → Walk (inner l)
  inner-walk [] s = tt
  inner-walk (x ∷ []) s = tt
  inner-walk (x ∷ y ∷ l) s = init-walk (y ∷ l) s.1

-- what holds after each round: members of the rest, and different ones
module _ (n : ℕ) (adj : ℕ → ℕ → Bool) where
  stripped : (k : ℕ) (rest : List ℕ) (w : ℕ) → In w (strip n adj k rest) → In w rest
  unfolding strip
  stripped zero rest w h = h
  stripped (suc k) rest w h = (kept (stays n adj rest) rest w (stripped k (keep (stays n adj rest) rest) w h)).0

  strip-distinct : (k : ℕ) (rest : List ℕ) → Distinct rest → Distinct (strip n adj k rest)
  unfolding strip
  strip-distinct zero rest d = d
  strip-distinct (suc k) rest d = strip-distinct k (keep (stays n adj rest) rest) (keep-distinct (stays n adj rest) rest d)

  -- the last round
  strip-last : (k : ℕ) (rest : List ℕ) → strip n adj (suc k) rest ≡ keep (stays n adj (strip n adj k rest)) (strip n adj k rest)
  unfolding strip
  strip-last zero rest = refl
  strip-last (suc k) rest = strip-last k (keep (stays n adj rest) rest)

  module _ (sy : Symmetric adj) where
    -- each of a walk but its ends has two neighbours on it
    between : (rest : List ℕ) (x y : ℕ) (l : List ℕ) → Steps adj x (y ∷ l) → Distinct (x ∷ y ∷ l) → ((w : ℕ) → In w (x ∷ y ∷ l) → In w rest)
        → (v : ℕ) → In v (init (y ∷ l)) → Fork n adj rest v
    between rest x y [] s d m v h = absurd h
    between rest x y (z ∷ l) s d m v (inl q) =
        subst (Fork n adj rest) (sym q)
        record { a = x; b = z; a_in = m x (inl refl); b_in = m z (inr (inr (inl refl))); a-adj = sy x y s.0; b-adj = s.1.0; differ = λ r. d.0 (inr (inl r)) }
    between rest x y (z ∷ l) s d m v (inr h) = between rest y z l s.1 d.1 (λ w i. m w (inr i)) v h

    inner-stays : (rest l : List ℕ) → Walk adj l → Distinct l → ((w : ℕ) → In w l → In w rest) → (v : ℕ) → In v (inner l) → T (stays n adj rest v)
    inner-stays rest [] s d m v h = absurd h
    inner-stays rest (x ∷ []) s d m v h = absurd h
    inner-stays rest (x ∷ y ∷ l) s d m v h = fork_stays n adj rest v (between rest x y l s d m v h)

    -- a round takes away at most the two ends of a walk
    shrinks : (k : ℕ) (rest l : List ℕ) → Walk adj l → Distinct l → ((w : ℕ) → In w l → In w rest) → length l ≤ 2 * k + length (strip n adj k rest)
    unfolding strip
    shrinks zero rest l s d m = omega (arith, fits l rest d m)
    shrinks (suc k) rest l s d m =
        let r = shrinks k (keep (stays n adj rest) rest) (inner l) (inner-walk adj l s) (inner-distinct l d)
        (λ w h. keeps (stays n adj rest) rest w (m w (inner_in l w h)) (inner-stays rest l s d m w h)) in
        omega (arith, r, inner-length l)

    -- a chain from one to each of two is one between them
    turned : (i v w : ℕ) (l : List ℕ) → Tail n adj i v l → Joined n adj i w → Joined n adj v w
    turned i v w [] t c = subst (λ u. Joined n adj u w) t.ends c
    turned i v w (x ∷ l) t c = turned x v w l (rest_of n adj i v x l t) (prepend n adj x i w (t.below x (inr (inl refl))) (sy i x t.steps.0) c)

    -- a walk from x that never turns straight back
    record Way (x : ℕ) (l : List ℕ) : Type 0 where
      steps : Steps adj x l
      noback : NoBack x l
      below : Below n (x ∷ l)

    -- p laid backwards before q: a walk from the end of p
    record Laid (z size : ℕ) : Type 0 where
      rest : List ℕ
      way : Way z rest
      count : length rest ≡ size

    lay : (x : ℕ) (p q : List ℕ) → Way x p → Way x q → Apart n adj p q → Laid (last x p) (length p + length q)
    lay x [] q a b s = record { rest = q; way = b; count = omega arith }
    lay x (y ∷ p) q a b s =
        let r = lay y p (x ∷ q) (record { steps = a.steps.1; noback = a.noback.1; below = λ w h. a.below w (inr h) })
        (record { steps = (sy x y a.steps.0, b.steps); noback = (s, b.noback); below = all_cons (λ w. w < n) y (x ∷ q) (a.below y (inr (inl refl))) b.below })
        (turn n adj x p q a.noback.0) in
        record { rest = r.rest; way = r.way; count = omega (arith, r.count) }

    module _ (f : ¬ (Loop n adj)) where
      -- from what is left after k rounds goes a walk of k more, away from the first of q
      record Arm (k v : ℕ) (q : List ℕ) : Type 0 where
        rest : List ℕ
        way : Way v rest
        count : length rest ≡ k
        apart : Apart n adj rest q

      arm : (k v : ℕ) (q : List ℕ) → In v (strip n adj k (up_to n)) → Arm k v q
      arm zero v q h =
          let b = numbers-below n v (stripped 0 (up_to n) v h) in
          record { rest = []; way = record { steps = tt; noback = tt; below = all_cons (λ w. w < n) v [] b (λ w i. absurd i) }; count = refl; apart = tt }
      arm (suc k) v q h =
          let r = strip n adj k (up_to n) in
          let b = numbers-below n v (stripped (suc k) (up_to n) v h) in
          let s = (kept (stays n adj r) r v (subst (In v) (strip-last k (up_to n)) h)).1 in
          let fork : Fork n adj r v = ⊎_elim (λ t. absurd (f (self v b t))) (λ o. o) (stays_fork n adj r v (strip-distinct k (up_to n) (numbers-distinct 0 n)) s) in
          let y = next n adj r v q fork in
          let a = arm k y.y (v ∷ []) y.y_in in
          record {
            rest = y.y ∷ a.rest;
            way = record {
              steps = (y.y-adj, a.way.steps);
              noback = (away v a.rest a.apart, a.way.noback);
              below = all_cons (λ w. w < n) v (y.y ∷ a.rest) b a.way.below;
            };
            count = omega (arith, a.count);
            apart = y.skips;
          }
        where
          away : (v : ℕ) (l : List ℕ) → Apart n adj l (v ∷ []) → Skip v l
          away v [] s = tt
          away v (x ∷ l) s = λ e. s (sym e)

      flip : (p q : List ℕ) → Apart n adj p q → Apart n adj q p
      flip p [] s = tt
      flip [] (y ∷ q) s = tt
      flip (x ∷ p) (y ∷ q) s = λ e. s (sym e)

      -- a chain between two that are left after k rounds grows by k at each end
      grown : (k v w : ℕ) (m : List ℕ) → In v (strip n adj k (up_to n)) → In w (strip n adj k (up_to n)) → Tail n adj v w m
          → (i : ℕ) × (j : ℕ) × (l : List ℕ) × Chain n adj i j l × (length l ≡ suc (2 * k + length m))
      grown k v w m h o t =
          let a = arm k v m h in
          let r = lay v m a.rest (record { steps = t.steps; noback = noback n adj v m t.diff; below = t.below }) a.way (flip a.rest m a.apart) in
          let x = subst (λ u. Way u r.rest) t.ends r.way in
          let b = arm k w r.rest o in
          let s = lay w b.rest r.rest b.way x b.apart in
          let z = last w b.rest in (
            z,
            last z s.rest,
            z ∷ s.rest,
            (refl, record { diff = repeats-nothing n adj f z s.rest s.way.steps s.way.noback s.way.below; below = s.way.below; steps = s.way.steps; ends = refl }),
            omega (arith, a.count, r.count, b.count, s.count),
          )

-- a chain joins each expander to each other one, where one joins every expander to expander 0
module _ (d : Domain) (chained : (i : ℕ) → i < length d → (l : List ℕ) × ChainIn d 0 i l) where
  pub all-joined : (i j : ℕ) → i < length d → j < length d → Joined (length d) (neighbours d) i j
  all-joined i j h k = go (chained i h).0 (chained j k).0 (chained i h).1 (chained j k).1
    where
      go : (p q : List ℕ) → ChainIn d 0 i p → ChainIn d 0 j q → Joined (length d) (neighbours d) i j
      go [] q a b = absurd a
      go (x ∷ p) [] a b = absurd b
      go (x ∷ p) (y ∷ q) a b = turned (length d) (neighbours d) (adj_symmetric d) x i j p a.1 (q, subst (λ v. Tail (length d) (neighbours d) v j q) (b.0 ∙ sym a.0) b.1)

-- a chain has no more expanders than its domain
pub never-long : (most : ℕ) (d : Domain) → length d ≤ most → ShortChains most d
never-long most d h i j [] c = absurd c
never-long most d h i j (x ∷ l) c = omega (arith, at_most (length d) (x ∷ l) c.1.below c.1.diff)

-- so with longest chain 64, as in the widest setting, cause 23 never holds
pub never-refused : (setting : Setting) (d : Domain) → Read setting d → setting.chain ≡ 64 → unlong setting.chain d ≡ good d
unfolding unlong chains_within
never-refused setting d g e = rw (le-leb (length d) setting.chain (omega (arith, g.few, g.range.expanders.1)))

module _ (most : ℕ) (d : Domain) where
  -- where what is left is little, so is every chain
  left-short : T (leb (length (strip (length d) (neighbours d) (most / 2) (up_to (length d)))) (most % 2)) → ShortChains most d
  left-short t i j [] c = absurd c
  left-short t i j (x ∷ l) c =
      let n = length d in
      let left = strip n (neighbours d) (most / 2) (up_to n) in
      omega (
        arith,
        leb→le (length left) (most % 2) t,
        shrinks n (neighbours d) (adj_symmetric d) (most / 2) (up_to n) (x ∷ l) c.1.steps c.1.diff (λ w h. in_up_to n w (c.1.below w h)),
      )

  within-short : T (chains_within most d) → ShortChains most d
  unfolding chains_within
  within-short t =
      ⊎_elim (λ u. never-long most d (leb→le (length d) most u)) left-short
      (or_cases (leb (length d) most) (leb (length (strip (length d) (neighbours d) (most / 2) (up_to (length d)))) (most % 2)) t)

  module _ (no_loop : ¬ (LoopIn d)) (chained : (i : ℕ) → i < length d → (l : List ℕ) × ChainIn d 0 i l) where
    -- where more is left, a chain grows from it
    long : ¬ (T (chains_within most d)) → LongChain most d
    unfolding chains_within
    long f = go left (λ v h. h) (strip-distinct n adj (most / 2) (up_to n) (numbers-distinct 0 n)) (λ h. f (or_right (leb (length d) most) (leb (length left) (most % 2)) (le→leb (length left) (most % 2) h)))
      where
        n : ℕ
        n = length d

        adj : ℕ → ℕ → Bool
        adj = neighbours d

        left : List ℕ
        left = strip n adj (most / 2) (up_to n)

        below : (v : ℕ) → In v left → v < n
        below v h = numbers-below n v (stripped n adj (most / 2) (up_to n) v h)

        grow : (v w : ℕ) → In v left → In w left → (c : Joined n adj v w) → most % 2 ≤ length c.0 → LongChain most d
        grow v w h o c m =
            let g = grown n adj (adj_symmetric d) no_loop (most / 2) v w c.0 h o c.1 in
            record { from = g.0; to = g.1; list = g.2; chain = g.3; more = omega (arith, g.4) }

        apart : (v w : ℕ) → v ≢ w → (c : Joined n adj v w) → 1 ≤ length c.0
        apart v w o c = go c.0 c.1
          where
            go : (l : List ℕ) → Tail n adj v w l → 1 ≤ length l
            go [] t = absurd (o t.ends)
            go (x ∷ l) t = omega arith

        go : (l : List ℕ) → ((v : ℕ) → In v l → In v left) → Distinct l → ¬ (length l ≤ most % 2) → LongChain most d
        go [] s o h = absurd (h (omega arith))
        go (v ∷ []) s o h = grow v v (s v (inl refl)) (s v (inl refl)) ([], single n adj v (below v (s v (inl refl)))) (omega arith)
        go (v ∷ w ∷ l) s o h =
            let a = s v (inl refl) in
            let b = s w (inr (inl refl)) in
            let c = all-joined d chained v w (below v a) (below w b) in
            grow v w a b c (omega (arith, apart v w (λ e. o.0 (inl e)) c))

    -- past causes 11 and 12, cause 23 holds exactly when a chain has more expanders than the setting allows
    pub long_iff : (¬ (T (chains_within most d))) ↔ LongChain most d
    long_iff = (long, λ c t. omega (arith, c.more, within-short t c.from c.to c.list c.chain))

    pub within_iff : T (chains_within most d) ↔ ShortChains most d
    within_iff = (within-short, λ s. not_not (chains_within most d) (λ u. let c = long (T_not (chains_within most d) u) in omega (arith, c.more, s c.from c.to c.list c.chain)))
