-- Over the tables given, a request arrives along the one chain to the device that bears the address, or ends nowhere if there is none.
use mathlib.Core.Path.{◌≡◌, refl, sym, ap, subst, ◌∙◌}
use mathlib.Core.Logic.{◌⊎◌, inl, inr, ◌≢◌, ◌↔◌, ⊎_elim}
use mathlib.Core.List.{List, [], ◌∷◌, ◌++◌}
use Prim.Native.Nat.{ℕ, zero, suc, ◌<◌}
use native.Mathlib.Omega.{arith}
use lib.ListN.{length}
use lib.Dec.{T, eqb}
use Rattle.tables.specs.WiringDefinitions.{In, Domain, expander_at, phy_at, address_of, attached_phy_of, is_table, attached, to_end, to_expander, number_of, self, neighbours, ChainIn, Clear, ClearChain, Home, Borne}
use Rattle.tables.specs.filling.Tables.{address_at, level_list, table, tables, stretch}
use Rattle.tables.proofs.WiringLemmas.{is_true, eq→eqb, neqb, in_cast, last_in, at_most, same_rest, same-chain, rest_of, Joined, all-joined, ChainTail, Wired, one-step, end-attached, expander-attached, attached_cases, in_range_lem, differ, far-below, far-is, to-adj, adj_symmetric}
use Rattle.tables.proofs.levels.LevelsBeyond.{Table, Sub, adj_cases, one-sub}
use Rattle.tables.proofs.lists.LevelListMembers.{held_cases, held-self, held-phy, list-beyond, beyond-list}
use Rattle.tables.proofs.filling.TableLengths.{in_table}
use Rattle.tables.proofs.filling.TableStretches.{stretch-is}
use Rattle.tables.specs.TableCauses.{Routable}
use Rattle.tracing.specs.declared.Outcome.TheVariants.{Arrived, NoDestination}
use Rattle.tracing.specs.Steps.{Step, onward, came_from, step}
use Rattle.tracing.specs.Trace.{Traced, after, after_step, trace_from, request, traced}
use Rattle.tracing.specs.Demand3.{Starts, EndsAt}
use Rattle.tracing.proofs.StepReasons.{NoWayUp, Chosen, at_once, listed, upward, Stepped, is_here, is_end, is_bad, is_lost, is_move, stepped}
use Rattle.tracing.proofs.NeverTwice.{Fresh, came-far}

-- words in which each table stands in its own stretch
abbrev pub StretchesAreTables : Domain → List ℕ → Type 0
StretchesAreTables d words = (i p : ℕ) → T (is_table (phy_at d i p)) → stretch d words i p ≡ table d i p

pub tables-given : (d : Domain) (after : List ℕ) → StretchesAreTables d (tables d ++ after)
tables-given d after i p t = stretch-is d i p t after

-- a trace that arrives at expander m, where the device is, having passed these
pub record Reaches (d : Domain) (s m : ℕ) (t : Traced) (chain : List ℕ) : Type 0 where
  pub outcome : t.outcome ≡ Arrived
  pub last : t.last ≡ m
  pub phy : EndsAt d s m t.phy
  pub passed : t.passed ≡ chain

-- the expander to which phy p of expander i leads
abbrev far_end : Domain → ℕ → ℕ → ℕ
far_end d i p = number_of d (address_of (phy_at d i p))

abbrev head_or : List ℕ → ℕ
head_or [] = 0
head_or (x ∷ l) = x

module _ (d : Domain) (w : Wired d) where
  -- one address is one device
  pub home_once : (s i j : ℕ) → i < length d → j < length d → Home d s i → Home d s j → i ≡ j
  home_once s i j h k (inl e) (inl f) = differ d w i j h k (e ∙ sym f)
  home_once s i j h k (inl e) (inr f) = absurd (w.apart j f.0 i f.1 h (f.2 ∙ sym e))
  home_once s i j h k (inr e) (inl f) = absurd (w.apart i e.0 j e.1 k (e.2 ∙ sym f))
  home_once s i j h k (inr e) (inr f) = w.one_place i e.0 j f.0 e.1 f.1 (e.2 ∙ sym f.2)

  home_held : (s i : ℕ) → Home d s i → T (address_at d i s)
  home_held s i (inl e) = held-self d i s e
  home_held s i (inr e) = held-phy d i s e.0 (end-attached (phy_at d i e.0) e.1) e.2

  -- what is attached is borne
  far_home : (s i p : ℕ) → T (to_expander (phy_at d i p)) → address_of (phy_at d i p) ≡ s → Home d s (far_end d i p)
  far_home s i p u e = inl (sym (far-is d w i p u).address ∙ e)

  attached-borne : (s i p : ℕ) → T (attached (phy_at d i p)) → address_of (phy_at d i p) ≡ s → Borne d s
  attached-borne s i p t e =
      ⊎_elim (λ u. (i, (in_range_lem d i p t).0, inr (p, u, e))) (λ u. (far_end d i p, far-below d w i p u, far_home s i p u e)) (attached_cases (phy_at d i p) t)

  -- where a trace ends, a device bears the address
  abbrev EndsBorne : ℕ → Traced → Type 0
  EndsBorne s t = (t.last < length d) × EndsAt d s t.last t.phy

  -- an arrival says so, whatever the words
  arrived_borne : (words : List ℕ) (s k i arrival : ℕ) → i < length d → (trace_from k d words i arrival s).outcome ≡ Arrived
      → EndsBorne s (trace_from k d words i arrival s)
  unfolding trace_from after_step
  arrived_borne words s zero i arrival h e = let z : ◌≡◌ {A = ℕ} 0 1 = cc in absurd (omega arith)
  arrived_borne words s (suc k) i arrival h e = go (step d words i arrival s) (stepped d words i s arrival) (λ j q m. arrived_borne words s k j q m) e
    where
      go : (st : Step) → Stepped d words i s (came_from d i arrival) st
          → ((j q : ℕ) → j < length d → (trace_from k d words j q s).outcome ≡ Arrived → EndsBorne s (trace_from k d words j q s))
          → (after_step i (λ j q. trace_from k d words j q s) st).outcome ≡ Arrived → EndsBorne s (after_step i (λ j q. trace_from k d words j q s) st)
      go st (is_here f) r o = (h, inl (f, refl))
      go st (is_end p t f n) r o = (h, inr (t, f))
      go st (is_bad p t f g) r o = let z : ◌≡◌ {A = ℕ} 0 1 = cc in absurd (omega arith)
      go st (is_lost n a u g) r o = let z : ◌≡◌ {A = ℕ} 0 1 = cc in absurd (omega arith)
      go st (is_move p n x f c) r o = r (far_end d i p) (attached_phy_of (phy_at d i p)) (far-below d w i p x) o

  pub traced-borne : (words : List ℕ) (s i arrival : ℕ) → i < length d → (traced d words (request i arrival s)).outcome ≡ Arrived
      → EndsBorne s (traced d words (request i arrival s))
  unfolding traced
  traced-borne words s i arrival h = arrived_borne words s (length d) i arrival h

  module _ {chain : ℕ} (r : Routable chain d) where
    -- a chain joins any two expanders
    pub joined-all : (i m : ℕ) → i < length d → m < length d → Joined (length d) (neighbours d) i m
    joined-all = all-joined d r.linked.chained

    pub one-chain : (i m : ℕ) (p q : List ℕ) → ChainIn d i m p → ChainIn d i m q → p ≡ q
    one-chain i m p q = same-chain (length d) (neighbours d) (adj_symmetric d) r.linked.no_loop i m p q

    same_first : (i m a b : ℕ) (p q : List ℕ) → ChainTail d i m (a ∷ p) → ChainTail d i m (b ∷ q) → a ≡ b
    same_first i m a b p q c e = ap head_or (same_rest (length d) (neighbours d) (adj_symmetric d) r.linked.no_loop i m (a ∷ p) (b ∷ q) c e)

    moves_off : (i m j : ℕ) (l : List ℕ) → ChainTail d i m (j ∷ l) → i ≢ m
    moves_off i m j l c e = c.diff.0 (in_cast (j ∷ l) (e ∙ sym c.ends) (last_in j l))

    way_end : (i m j : ℕ) (l : List ℕ) → ChainTail d i m (j ∷ l) → m < length d
    way_end i m j l c = c.below m (in_cast (i ∷ j ∷ l) (sym c.ends) (inr (last_in j l)))

    module _ (words : List ℕ) (given : StretchesAreTables d words) (s : ℕ) (z : s ≢ 0) where
      in_stretch : (i p : ℕ) → T (is_table (phy_at d i p)) → In s (stretch d words i p) ↔ In s (level_list d i p)
      in_stretch i p t = subst (λ l. In s l ↔ In s (level_list d i p)) (sym (given i p t)) (in_table d i p (r.fits i p t) s z)

      -- in a stretch: borne beyond the phy, and not here
      stretch-beyond : (i p : ℕ) → T (to_expander (phy_at d i p)) → T (is_table (phy_at d i p)) → In s (stretch d words i p)
          → (¬ (T (address_at d i s))) × ((m : ℕ) × (l : List ℕ) × ChainTail d i m (far_end d i p ∷ l) × Home d s m)
      stretch-beyond i p x t h =
          list-beyond d w r.linked i p (far_end d i p) s (far-below d w i p x) (far-is d w i p x) t z ((in_stretch i p t).0 h)

      -- where no device bears the address, the outcome is NO DESTINATION
      nobody : ¬ (Borne d s) → (k i arrival : ℕ) → i < length d → (trace_from k d words i arrival s).outcome ≡ NoDestination
      unfolding trace_from after_step
      nobody b zero i arrival h = refl
      nobody b (suc k) i arrival h = go (step d words i arrival s) (stepped d words i s arrival) (λ j q m. nobody b k j q m)
        where
          unlisted : (p : ℕ) → T (to_expander (phy_at d i p)) → T (is_table (phy_at d i p)) → In s (stretch d words i p) → ⊥
          unlisted p x t o = let e = (stretch-beyond i p x t o).1 in b (e.0, way_end i e.0 (far_end d i p) e.1 e.2, e.3)

          go : (st : Step) → Stepped d words i s (came_from d i arrival) st
              → ((j q : ℕ) → j < length d → (trace_from k d words j q s).outcome ≡ NoDestination)
              → (after_step i (λ j q. trace_from k d words j q s) st).outcome ≡ NoDestination
          go st (is_here f) o = absurd (b (i, h, inl f))
          go st (is_end p t f n) o = absurd (b (i, h, inr (p, t, f)))
          go st (is_bad p t f (inl g)) o = absurd (b (attached-borne s i p t g))
          go st (is_bad p t f (inr g)) o = absurd (unlisted p g.0 g.1 g.2)
          go st (is_lost n a u g) o = refl
          go st (is_move p n x f c) o = o (far_end d i p) (attached_phy_of (phy_at d i p)) (far-below d w i p x)

      pub ends_nowhere : (i arrival : ℕ) → i < length d → ¬ (Borne d s) → (traced d words (request i arrival s)).outcome ≡ NoDestination
      unfolding traced
      ends_nowhere i arrival h b = nobody b (length d) i arrival h

      not_held : (i : ℕ) → (expander_at d i).address ≢ s → ((p : ℕ) → T (attached (phy_at d i p)) → address_of (phy_at d i p) ≢ s) → ¬ (T (address_at d i s))
      not_held i n a t = ⊎_elim n (λ o. a o.0 o.1 o.2) (held_cases d i s t)

      -- the device is at expander m
      module _ (m : ℕ) (below : m < length d) (home : Home d s m) where
        -- a listing phy leads along the chain
        leads : (i p j : ℕ) (l : List ℕ) → ChainTail d i m (j ∷ l) → T (to_expander (phy_at d i p)) → T (is_table (phy_at d i p)) → In s (stretch d words i p)
            → far_end d i p ≡ j
        leads i p j l c x t o =
            let e = (stretch-beyond i p x t o).1 in
            let n = far_end d i p in
            let q : e.0 ≡ m = home_once s e.0 m (way_end i e.0 n e.1 e.2) below e.3 home in
            same_first i m n j e.1 l (subst (λ v. ChainTail d i v (n ∷ e.1)) q e.2) c

        -- a table phy along a clear chain lists the address
        lists : (i j : ℕ) (l : List ℕ) → ChainTail d i m (j ∷ l) → Clear d i (j ∷ l) → ¬ (T (address_at d i s)) → (t : Table d i j) → In s (stretch d words i t.phy)
        lists i j l c q f t =
            (in_stretch i t.phy t.routed).1 (beyond-list d w r.linked i t.phy j s t.end t.to t.routed f m l c q home)

        link-of : (i j : ℕ) (l : List ℕ) → ChainTail d i m (j ∷ l) → Clear d i (j ∷ l) → Sub d i j ⊎ Table d i j
        link-of i j l c q = adj_cases d w i j (c.below i (inl refl)) (c.below j (inr (inl refl))) c.steps.0 q.0

        -- an expander on the way does not bear the address and does not have it at a phy of an end device
        not_home : (i j : ℕ) (l : List ℕ) → ChainTail d i m (j ∷ l) → ¬ (Home d s i)
        not_home i j l c e = moves_off i m j l c (home_once s i m (c.below i (inl refl)) below e home)

        -- the phy chosen leads along the chain
        next : (i j p : ℕ) (l : List ℕ) → ChainTail d i m (j ∷ l) → Clear d i (j ∷ l) → (expander_at d i).address ≢ s → T (to_expander (phy_at d i p))
            → Chosen d words i s p → far_end d i p ≡ j
        next i j p l c cl n x (at_once e) =
            let q = home_once s (far_end d i p) m (far-below d w i p x) below (far_home s i p x e) home in
            let t : T (neighbours d i m) = subst (λ v. T (neighbours d i v)) q (to-adj d w i p (far_end d i p) (far-is d w i p x)) in
            q ∙ same_first i m m j [] l (one-step d i m (c.below i (inl refl)) below (moves_off i m j l c) t) c
        next i j p l c cl n x (listed a t o) = leads i p j l c x t o
        next i j p l c cl n x (upward a u t) =
            ⊎_elim
            (λ v. one-sub d w i (far_end d i p) j (record { phy = p; to = far-is d w i p x; routed = t; end = far-below d w i p x }) v)
            (λ v. absurd (u v.phy v.to.expander v.routed (lists i j l c cl (not_held i n a) v)))
            (link-of i j l c cl)

        -- a subtractive link along the chain is a way up
        up-is_open : (i j came : ℕ) → (expander_at d j).address ≢ came → Sub d i j → NoWayUp d words i s came → ⊥
        up-is_open i j came k v (inl f) = f v.phy v.to.expander v.routed
        up-is_open i j came k v (inr f) =
            let x = expander-attached (phy_at d i v.phy) v.to.expander in
            let y = expander-attached (phy_at d i f.0) f.1 in
            k (sym v.to.address ∙ w.one_way i v.phy f.0 x y v.routed f.2 ∙ f.3)

        -- so each step goes on along the chain
        along : (i j came : ℕ) (l : List ℕ) → ChainTail d i m (j ∷ l) → Clear d i (j ∷ l) → (expander_at d j).address ≢ came → s ≢ came
            → (st : Step) → Stepped d words i s came st → (q : ℕ) × (st ≡ onward j q) × (came_from d j q ≡ (expander_at d i).address)
        along i j came l c cl k y st (is_here e) = absurd (not_home i j l c (inl e))
        along i j came l c cl k y st (is_end p t e n) = absurd (not_home i j l c (inr (p, t, e)))
        along i j came l c cl k y st (is_bad p t e (inl f)) = absurd (y (sym f ∙ e))
        along i j came l c cl k y st (is_bad p t e (inr f)) =
            let q = leads i p j l c f.0 f.1 f.2 in
            absurd (k (ap (λ v. (expander_at d v).address) (sym q) ∙ sym (far-is d w i p f.0).address ∙ e))
        along i j came l c cl k y st (is_lost n a u o) =
            absurd (⊎_elim (λ v. up-is_open i j came k v o)
            (λ v. u v.phy v.to.expander v.routed (lists i j l c cl (not_held i n a) v)) (link-of i j l c cl))
        along i j came l c cl k y st (is_move p n x f why) =
            let q = attached_phy_of (phy_at d i p) in
            let e = next i j p l c cl n x why in
            (q, ap (λ v. onward v q) e, subst (λ v. came_from d v q ≡ (expander_at d i).address) e (came-far d w i p x))

        -- at the expander where the device is, the request arrives
        at_home : (i came : ℕ) → i ≡ m → s ≢ came → (go : ℕ → ℕ → Traced) (st : Step) → Stepped d words i s came st → Reaches d s m (after_step i go st) (i ∷ [])
        unfolding after_step
        at_home i came q y go st (is_here e) =
            record { outcome = refl; last = q; phy = inl (subst (λ v. (expander_at d v).address ≡ s) q e, refl); passed = refl }
        at_home i came q y go st (is_end p t e n) =
            let phy = subst (λ v. T (to_end (phy_at d v p)) × (address_of (phy_at d v p) ≡ s)) q (t, e) in
            record { outcome = refl; last = q; phy = inr phy; passed = refl }
        at_home i came q y go st (is_bad p t e (inl f)) = absurd (y (sym f ∙ e))
        at_home i came q y go st (is_bad p t e (inr f)) = absurd ((stretch-beyond i p f.0 f.1 f.2).0 (home_held s i (subst (Home d s) (sym q) home)))
        at_home i came q y go st (is_lost n a u o) = absurd (not_held i n a (home_held s i (subst (Home d s) (sym q) home)))
        at_home i came q y go st (is_move p n x f (at_once e)) =
            let g = home_once s (far_end d i p) m (far-below d w i p x) below (far_home s i p x e) home in
            let t : T (neighbours d i i) = subst (λ v. T (neighbours d i v)) (g ∙ sym q) (to-adj d w i p (far_end d i p) (far-is d w i p x)) in
            absurd (r.linked.no_loop (self i (in_range_lem d i p (expander-attached (phy_at d i p) x)).0 t))
        at_home i came q y go st (is_move p n x f (listed a t o)) = absurd ((stretch-beyond i p x t o).0 (home_held s i (subst (Home d s) (sym q) home)))
        at_home i came q y go st (is_move p n x f (upward a u t)) = absurd (not_held i n a (home_held s i (subst (Home d s) (sym q) home)))

        go_on : (t : Traced) (i j : ℕ) (l : List ℕ) → Reaches d s m t (j ∷ l) → Reaches d s m (after (i ∷ []) t) (i ∷ j ∷ l)
        go_on t i j l a = record { outcome = a.outcome; last = a.last; phy = a.phy; passed = ap (λ v. i ∷ v) a.passed }

        fresh-next : (i j : ℕ) (l : List ℕ) → ChainTail d i m (j ∷ l) → Fresh d (expander_at d i).address l
        fresh-next i j [] c = tt
        fresh-next i j (y ∷ l) c = λ e. c.diff.0 (inr (inl (sym (differ d w y i (c.below y (inr (inr (inl refl)))) (c.below i (inl refl)) e))))

        -- from any expander on the way, along the chain
        arrives : (l : List ℕ) (k i arrival : ℕ) → ChainTail d i m l → Clear d i l → length l < k → s ≢ came_from d i arrival → Fresh d (came_from d i arrival) l
            → Reaches d s m (trace_from k d words i arrival s) (i ∷ l)
        unfolding trace_from after_step
        arrives l zero i arrival c cl h y f = absurd (omega arith)
        arrives [] (suc k) i arrival c cl h y f =
            at_home i (came_from d i arrival) c.ends y (λ j q. trace_from k d words j q s) (step d words i arrival s) (stepped d words i s arrival)
        arrives (j ∷ l) (suc k) i arrival c cl h y f =
            let e = along i j (came_from d i arrival) l c cl f y (step d words i arrival s) (stepped d words i s arrival) in
            let new : s ≢ came_from d j e.0 = λ o. not_home i j l c (inl (sym (o ∙ e.2))) in
            let fresh = subst (λ v. Fresh d v l) (sym e.2) (fresh-next i j l c) in
            let rest = arrives l k j e.0 (rest_of (length d) (neighbours d) i m j l c) cl.1 (omega arith) new fresh in
            subst (λ st. Reaches d s m (after_step i (λ a b. trace_from k d words a b s) st) (i ∷ j ∷ l)) (sym e.1)
            (go_on (trace_from k d words j e.0 s) i j l rest)

      -- where a request comes from is neither the address nor an expander
      starts-fresh : (i arrival : ℕ) → Starts d (request i arrival s)
          → (s ≢ came_from d i arrival) × ((j : ℕ) → j < length d → (expander_at d j).address ≢ came_from d i arrival)
      starts-fresh i arrival (inl e) = rw (is_true (eqb arrival 255) (eq→eqb arrival 255 e)) (z, w.borne)
      starts-fresh i arrival (inr e) =
          let h = w.few i arrival (end-attached (phy_at d i arrival) e.0) in
          rw (neqb arrival 255 (omega arith)) (λ o. e.1 (sym o), λ j k o. w.apart i arrival j e.0 k (sym o))

      fresh-all : (i came m : ℕ) (l : List ℕ) → ChainTail d i m l → ((j : ℕ) → j < length d → (expander_at d j).address ≢ came) → Fresh d came l
      fresh-all i came m [] c f = tt
      fresh-all i came m (j ∷ l) c f = f j (c.below j (inr (inl refl)))

      -- a request whose chain is clear arrives along it
      pub traced-arrives : (i arrival m : ℕ) → i < length d → Starts d (request i arrival s) → m < length d → Home d s m → (l : List ℕ) → ChainIn d i m l → ClearChain d l
          → Reaches d s m (traced d words (request i arrival s)) l
      unfolding traced
      traced-arrives i arrival m h st k home [] c cl = absurd c
      traced-arrives i arrival m h st k home (x ∷ l) c cl =
          let f = starts-fresh i arrival st in
          let way = subst (λ v. ChainTail d v m l) c.0 c.1 in
          let size = at_most (length d) (i ∷ l) way.below way.diff in
          let clear = subst (λ v. Clear d v l) c.0 cl in
          subst (λ v. Reaches d s m (traced d words (request i arrival s)) (v ∷ l)) (sym c.0)
          (arrives m k home l (length d) i arrival way clear (omega arith) f.0 (fresh-all i (came_from d i arrival) m l way f.1))
