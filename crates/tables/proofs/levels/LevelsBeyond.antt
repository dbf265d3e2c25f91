-- The levels of a table phy are the expanders beyond it: those to which a chain leads that begins by that phy.
use mathlib.Core.Path.{◌≡◌, refl, sym, ap, subst, subst₂, ◌∙◌}
use mathlib.Core.Logic.{◌⊎◌, inl, inr, ◌≢◌, ◌↔◌, ⊎_elim, by_cases}
use mathlib.Core.List.{List, [], ◌∷◌, ◌++◌, flat_map, map}
use mathlib.Core.Bool.{Bool, true, false, cond, not, ◌&&◌}
use Prim.Native.Nat.{ℕ, zero, suc, ◌+◌, ◌≤◌, ◌<◌}
use native.Mathlib.Omega.{arith}
use native.Mathlib.Decide.{dec_lt}
use lib.ListN.{length, length-append}
use lib.Dec.{T, not_T, T_not}
use Rattle.files.specs.declared.Phy.TheVariants.{Vacant}
use Rattle.files.specs.Lists.{keep, is_in, In, Distinct, Below, last}
use Rattle.files.specs.Domain.{Domain, expander_at, phy_at, address_of, attached_phy_of, has_attribute, is_table, attached, to_expander, number_of}
use Rattle.wiring.specs.phys.PhyCauses.{far_phy}
use Rattle.wiring.specs.graph.Graph.{Steps}
use Rattle.wiring.specs.graph.Devices.{TableToTable, Clear, NoTableToTable}
use Rattle.wiring.specs.graph.Neighbours.{neighbours}
use Rattle.files.proofs.ListMembers.{tests, and_both, keep-more, in_cast, all_cons, in_append, in_left, in_right, in_get_d, get_d_in, keeps, kept, in_map, map_in, in_flat_map, flat_map_in, of-is_in, last_in, distinct_append, at_most}
use Rattle.wiring.proofs.graph.GraphWalks.{NoBack, noback, repeats-nothing, same_rest}
use Rattle.wiring.proofs.phys.WiredPhys.{ChainTail, AttachedTo, Wired, far-below, far-is, to_start, to_back, to_number, adj-to, to-adj, adj_symmetric, differ, alike}
use Rattle.files.proofs.Domains.{expander-attached, in_range_lem}
use Rattle.wiring.specs.WiringCauses.{Linked}
use Rattle.tables.specs.levels.Levels.{each_once, down, downstream_of_phys, downstream, next_level, levels_from, levels}
use Rattle.tables.proofs.levels.EachOnce.{in_once, once_in, once-distinct}

-- the far end of phy p of expander i is a table phy
abbrev pub FarTable : Domain → ℕ → ℕ → Type 0
FarTable d i p = T (is_table (far_phy d (phy_at d i p)))

-- expander i has a phy with this routing attribute that is attached to expander j
pub record Link (d : Domain) (attribute i j : ℕ) : Type 0 where
  pub phy : ℕ
  pub to : AttachedTo d i phy j
  pub routed : T (has_attribute attribute (phy_at d i phy))
  pub end : j < length d

-- phy p of expander i leads down: a table phy attached to an expander, and not to a table phy
pub record Leads (d : Domain) (i p : ℕ) : Type 0 where
  pub expander : T (to_expander (phy_at d i p))
  pub routed : T (is_table (phy_at d i p))
  pub single : ¬ (FarTable d i p)

-- expander i has a table phy that is attached to expander j, and not to a table phy
pub record Table (d : Domain) (i j : ℕ) : Type 0 where
  pub phy : ℕ
  pub to : AttachedTo d i phy j
  pub routed : T (is_table (phy_at d i phy))
  pub end : j < length d
  pub single : ¬ (FarTable d i phy)

-- expander i has a subtractive phy that is attached to expander j
abbrev pub Sub : Domain → ℕ → ℕ → Type 0
Sub d i j = Link d 1 i j

-- the walk i ∷ l goes by table phys that are not attached to table phys
abbrev pub Descent : Domain → ℕ → List ℕ → Type 0
Descent d i [] = Unit {0}
Descent d i (j ∷ l) = Table d i j × Descent d j l

-- the walk i ∷ l goes by table phys, of which the last alone may be attached to a table phy
abbrev pub Fall : Domain → ℕ → List ℕ → Type 0
Fall d i [] = Unit {0}
Fall d i (j ∷ []) = Link d 2 i j
Fall d i (j ∷ k ∷ l) = Table d i j × Fall d j (k ∷ l)

-- the walk i ∷ l crosses no table-to-table link but for its last
abbrev pub ClearBut : Domain → ℕ → List ℕ → Type 0
ClearBut d i [] = Unit {0}
ClearBut d i (j ∷ []) = Unit {0}
ClearBut d i (j ∷ k ∷ l) = ¬ (TableToTable d i j) × ClearBut d j (k ∷ l)

-- a level has each of its expanders once
pub next-distinct : (d : Domain) (before level : List ℕ) → Distinct (next_level d before level)
unfolding next_level
next-distinct d before level = (once-distinct [] (keep (λ i. not (is_in i before)) (flat_map (downstream d) level))).0

pub last_snoc : (x : ℕ) (l : List ℕ) (v : ℕ) → last x (l ++ (v ∷ [])) ≡ v
last_snoc x [] v = refl
last_snoc x (y ∷ l) v = last_snoc y l v

-- where there is no table-to-table link, every walk is clear
pub all-clear : (d : Domain) → NoTableToTable d → (x : ℕ) (l : List ℕ) → Clear d x l
all-clear d n x [] = tt
all-clear d n x (y ∷ l) = (n x y, all-clear d n y l)

module _ (d : Domain) (w : Wired d) where
  pub table-start : (i j : ℕ) → Table d i j → i < length d
  table-start i j t = to_start d w i t.phy j t.to

  table-adj : (i j : ℕ) → Table d i j → T (neighbours d i j)
  table-adj i j t = to-adj d w i t.phy j t.to

  link-adj : (a i j : ℕ) → Link d a i j → T (neighbours d i j)
  link-adj a i j t = to-adj d w i t.phy j t.to

  -- neighbours are linked by a subtractive phy, or by a table phy whose far end is none
  pub adj_cases : (i j : ℕ) → i < length d → j < length d → T (neighbours d i j) → ¬ (TableToTable d i j) → Sub d i j ⊎ Table d i j
  adj_cases i j h k t n =
      let r = adj-to d w i j h t in
      ⊎_elim (λ u. inl (record { phy = r.0; to = r.1; routed = u; end = k }))
      (λ u. inr (record { phy = r.0; to = r.1; routed = u; end = k; single = λ v. n (record { phy = r.0; to = r.1; routed = u; double = v }) }))
      (w.routing i r.0 r.1.expander)

  link-attached : (k i j : ℕ) → (t : Link d k i j) → T (attached (phy_at d i t.phy))
  link-attached k i j t = expander-attached (phy_at d i t.phy) t.to.expander

  pub table-link : (i j : ℕ) → Table d i j → Link d 2 i j
  table-link i j t = record { phy = t.phy; to = t.to; routed = t.routed; end = t.end }

  -- 9: not both subtractive and table phys from one expander to another, and subtractive phys to one expander only
  pub link-both : (i j : ℕ) → Sub d i j → Link d 2 i j → ⊥
  link-both i j s t =
      alike d w i s.phy t.phy (link-attached 1 i j s) (link-attached 2 i j t) (s.to.address ∙ sym t.to.address) s.routed t.routed

  pub not_both : (i j : ℕ) → Sub d i j → Table d i j → ⊥
  not_both i j s t = link-both i j s (table-link i j t)

  pub one-sub : (i j k : ℕ) → Sub d i j → Sub d i k → j ≡ k
  one-sub i j k s t =
      let e = w.one_way i s.phy t.phy (link-attached 1 i j s) (link-attached 1 i k t) s.routed t.routed in
      differ d w j k s.end t.end (sym s.to.address ∙ e ∙ t.to.address)

  module _ (r : Linked d) where
    -- the far end of such a table phy is subtractive
    pub table-back : (i j : ℕ) → Table d i j → Sub d j i
    table-back i j t =
        let p = t.phy in
        let q = attached_phy_of (phy_at d i p) in
        let b = to_back d w i p j t.end t.to in
        let e = to_number d w i p j t.end t.to in
        record {
          phy = q;
          to = b;
          end = table-start i j t;
          routed = ⊎_elim (λ u. u) (λ u. absurd (t.single (subst (λ v. T (is_table (phy_at d v q))) (sym e) u))) (w.routing j q b.expander);
        }

    fall_steps : (x : ℕ) (l : List ℕ) → Fall d x l → Steps (neighbours d) x l
    fall_steps x [] t = tt
    fall_steps x (y ∷ []) t = (link-adj 2 x y t, tt)
    fall_steps x (y ∷ z ∷ l) t = (table-adj x y t.0, fall_steps y (z ∷ l) t.1)

    fall_below : (x : ℕ) (l : List ℕ) → x < length d → Fall d x l → Below (length d) (x ∷ l)
    fall_below x [] h t = all_cons (λ v. v < length d) x [] h (λ v k. absurd k)
    fall_below x (y ∷ []) h t = all_cons (λ v. v < length d) x (y ∷ []) h (fall_below y [] t.end tt)
    fall_below x (y ∷ z ∷ l) h t = all_cons (λ v. v < length d) x (y ∷ z ∷ l) h (fall_below y (z ∷ l) t.0.end t.1)

    fall_noback : (x : ℕ) (l : List ℕ) → Fall d x l → NoBack x l
    fall_noback x [] t = tt
    fall_noback x (y ∷ []) t = (tt, tt)
    fall_noback x (y ∷ z ∷ []) t = (λ e. link-both y z (subst (Sub d y) e (table-back x y t.0)) t.1, (tt, tt))
    fall_noback x (y ∷ z ∷ u ∷ l) t =
        (λ e. not_both y z (subst (Sub d y) e (table-back x y t.0)) t.1.0, fall_noback y (z ∷ u ∷ l) t.1)

    -- such a walk is a chain: where there is no loop, a walk that never turns straight back repeats nothing
    pub fall_chain : (x m : ℕ) (l : List ℕ) → x < length d → Fall d x l → last x l ≡ m → ChainTail d x m l
    fall_chain x m l h t e = record {
      diff = repeats-nothing (length d) (neighbours d) r.no_loop x l (fall_steps x l t) (fall_noback x l t) (fall_below x l h t);
      below = fall_below x l h t;
      steps = fall_steps x l t;
      ends = e;
    }

    pub descent_fall : (x : ℕ) (l : List ℕ) → Descent d x l → Fall d x l
    descent_fall x [] t = tt
    descent_fall x (y ∷ []) t = table-link x y t.0
    descent_fall x (y ∷ z ∷ l) t = (t.0, descent_fall y (z ∷ l) t.1)

    pub fall_snoc : (x : ℕ) (l : List ℕ) (v : ℕ) → Descent d x l → Link d 2 (last x l) v → Fall d x (l ++ (v ∷ []))
    fall_snoc x [] v t k = k
    fall_snoc x (y ∷ []) v t k = (t.0, k)
    fall_snoc x (y ∷ z ∷ l) v t k = (t.0, fall_snoc y (z ∷ l) v t.1 k)

    pub descent-chain : (x m : ℕ) (l : List ℕ) → x < length d → Descent d x l → last x l ≡ m → ChainTail d x m l
    descent-chain x m l h t e = fall_chain x m l h (descent_fall x l t) e

    -- a link whose far end is subtractive is not also one whose far end is a table phy
    tied_back : (i j : ℕ) → TableToTable d i j → j < length d → Link d 2 j i
    tied_back i j t h =
        let p = t.phy in
        let b = to_back d w i p j h t.to in
        record {
          phy = attached_phy_of (phy_at d i p);
          to = b;
          end = to_start d w i p j t.to;
          routed = subst (λ v. T (is_table (phy_at d v (attached_phy_of (phy_at d i p))))) (to_number d w i p j h t.to) t.double;
        }

    pub table-untied : (i j : ℕ) → Table d i j → ¬ (TableToTable d i j)
    table-untied i j t o = link-both j i (table-back i j t) (tied_back i j o t.end)

    pub descent-clear : (x : ℕ) (l : List ℕ) → Descent d x l → Clear d x l
    descent-clear x [] t = tt
    descent-clear x (y ∷ l) t = (table-untied x y t.0, descent-clear y l t.1)

    pub fall_clear : (x : ℕ) (l : List ℕ) → Fall d x l → ClearBut d x l
    fall_clear x [] t = tt
    fall_clear x (y ∷ []) t = tt
    fall_clear x (y ∷ z ∷ l) t = (table-untied x y t.0, fall_clear y (z ∷ l) t.1)

    -- a walk that begins by a table phy and never turns straight back goes on by table phys, up to a table-to-table link
    after_table : (a b c : ℕ) → Table d a b → c < length d → T (neighbours d b c) → a ≢ c → Link d 2 b c
    after_table a b c t h s n =
        let k = adj-to d w b c t.end s in
        let link : (m : ℕ) → T (has_attribute m (phy_at d b k.0)) → Link d m b c = λ m u. record { phy = k.0; to = k.1; routed = u; end = h } in
        ⊎_elim (λ u. absurd (n (one-sub b a c (table-back a b t) (link 1 u)))) (link 2) (w.routing b k.0 k.1.expander)

    single-link : (i j : ℕ) → Link d 2 i j → ¬ (TableToTable d i j) → Table d i j
    single-link i j k n = record {
      phy = k.phy;
      to = k.to;
      routed = k.routed;
      end = k.end;
      single = λ v. n (record { phy = k.phy; to = k.to; routed = k.routed; double = v });
    }

    walk_fall : (a b : ℕ) (l : List ℕ) → Table d a b → Steps (neighbours d) b l → NoBack a (b ∷ l) → Below (length d) l → ClearBut d b l → Fall d b l
    walk_fall a b [] t s nb h n = tt
    walk_fall a b (c ∷ []) t s nb h n = after_table a b c t (h c (inl refl)) s.0 nb.0
    walk_fall a b (c ∷ e ∷ l) t s nb h n =
        let k = single-link b c (after_table a b c t (h c (inl refl)) s.0 nb.0) n.0 in
        (k, walk_fall b c (e ∷ l) k s.1 nb.1 (λ v m. h v (inr m)) n.1)

    pub chain_fall : (x n m : ℕ) (l : List ℕ) → Table d x n → ChainTail d x m (n ∷ l) → ClearBut d n l → Fall d n l
    chain_fall x n m l t c k =
        walk_fall x n l t c.steps.1 (noback (length d) (neighbours d) x (n ∷ l) c.diff) (λ v h. c.below v (inr (inr h))) k

    walk-descent : (a b : ℕ) (l : List ℕ) → Table d a b → Steps (neighbours d) b l → NoBack a (b ∷ l) → Below (length d) l → Clear d b l → Descent d b l
    walk-descent a b [] t s nb h n = tt
    walk-descent a b (c ∷ l) t s nb h n =
        let k = single-link b c (after_table a b c t (h c (inl refl)) s.0 nb.0) n.0 in
        (k, walk-descent b c l k s.1 nb.1 (λ v m. h v (inr m)) n.1)

    -- a clear chain that begins by a table phy goes down the tables
    pub chain-descent : (x n m : ℕ) (l : List ℕ) → Table d x n → ChainTail d x m (n ∷ l) → Clear d n l → Descent d n l
    chain-descent x n m l t c k =
        walk-descent x n l t c.steps.1 (noback (length d) (neighbours d) x (n ∷ l) c.diff) (λ v h. c.below v (inr (inr h))) k

    pub descent_snoc : (x : ℕ) (l : List ℕ) (v : ℕ) → Descent d x l → Table d (last x l) v → Descent d x (l ++ (v ∷ []))
    descent_snoc x [] v t k = (k, tt)
    descent_snoc x (y ∷ l) v t k = (t.0, descent_snoc y l v t.1 k)

    -- the levels go on at phys that lead down
    pub down-leads : (i p : ℕ) → T (down d (phy_at d i p)) → Leads d i p
    down-leads i p t =
        let far = is_table (far_phy d (phy_at d i p)) in
        record { expander = search tests; routed = search tests; single = T_not far (search tests) }

    leads-down : (i p : ℕ) → Leads d i p → T (down d (phy_at d i p))
    leads-down i p l =
        let φ = phy_at d i p in
        let far = is_table (far_phy d φ) in
        and_both (to_expander φ) (is_table φ && not far) l.expander (and_both (is_table φ) (not far) l.routed (not_T far l.single))

    -- an expander below is one to which a table phy leads
    pub in_downstream : (i v : ℕ) → In v (downstream d i) → Table d i v
    unfolding downstream downstream_of_phys
    in_downstream i v h =
        let m = in_map (λ φ. number_of d (address_of φ)) (keep (down d) (expander_at d i).phys) v h in
        let k = kept (down d) (expander_at d i).phys m.0 m.1 in
        let g = get_d_in (expander_at d i).phys (Vacant 0) m.0 k.0 in
        let l = down-leads i g.0 (subst (λ φ. T (down d φ)) (sym g.2) k.1) in
        let to = far-is d w i g.0 l.expander in
        subst (Table d i) (sym (m.2 ∙ ap (λ φ. number_of d (address_of φ)) (sym g.2)))
        (record { phy = g.0; to = to; routed = l.routed; end = far-below d w i g.0 l.expander; single = l.single })

    downstream_in : (i v : ℕ) → Table d i v → In v (downstream d i)
    unfolding downstream downstream_of_phys
    downstream_in i v t =
        let p = t.phy in
        let φs = (expander_at d i).phys in
        let x = t.to.expander in
        let down? = leads-down i p (record { expander = x; routed = t.routed; single = t.single }) in
        let here = in_get_d φs (Vacant 0) p (in_range_lem d i p (expander-attached (phy_at d i p) x)).1 in
        subst (λ u. In u (downstream_of_phys d φs)) (to_number d w i p v t.end t.to)
        (map_in (λ φ. number_of d (address_of φ)) (keep (down d) φs) (phy_at d i p) (keeps (down d) φs (phy_at d i p) here down?))

    -- the next level: below one of this level, and not in the one before
    pub in_next : (before level : List ℕ) (v : ℕ) → In v (next_level d before level) → (u : ℕ) × In u level × Table d u v
    unfolding next_level
    in_next before level v h =
        let all = flat_map (downstream d) level in
        let k = kept (λ i. not (is_in i before)) all v (in_once [] (keep (λ i. not (is_in i before)) all) v h) in
        let f = in_flat_map (downstream d) level v k.0 in
        (f.0, f.1, in_downstream f.0 v f.2)

    next_in : (before level : List ℕ) (u v : ℕ) → In u level → Table d u v → ¬ (In v before) → In v (next_level d before level)
    unfolding next_level
    next_in before level u v h t k =
        let all = flat_map (downstream d) level in
        let new = not_T (is_in v before) (λ o. k (of-is_in v before o)) in
        let m = keeps (λ i. not (is_in i before)) all v (flat_map_in (downstream d) level v u h (downstream_in u v t)) new in
        ⊎_elim (λ o. absurd o) (λ o. o) (once_in [] (keep (λ i. not (is_in i before)) all) v m)

    -- what is in a level lies down the tables from the first level
    in_levels_from : (k : ℕ) (before level : List ℕ) (m : ℕ) → In m (levels_from k d before level)
        → (u : ℕ) × In u level × ((l : List ℕ) × Descent d u l × (last u l ≡ m))
    unfolding levels_from
    in_levels_from zero before level m h = absurd h
    in_levels_from (suc k) before level m h =
        ⊎_elim (λ o. (m, o, ([], tt, refl)))
        (λ o. let s = in_levels_from k level (next_level d before level) m o in
        let e = in_next before level s.0 s.1 in
        (e.0, e.1, (s.0 ∷ s.2.0, (e.2, s.2.1), s.2.2)))
        (in_append level (levels_from k d level (next_level d before level)) m h)

    module _ (x n : ℕ) (a : Table d x n) where
      -- v is k levels below n
      pub record Deep (k v : ℕ) : Type 0 where
        pub way : List ℕ
        pub descent : Descent d n way
        pub ends : last n way ≡ v
        pub size : length way ≡ k

      pub top : (v : ℕ) → In v (n ∷ []) → Deep 0 v
      top v = ⊎_elim (λ e. record { way = []; descent = tt; ends = sym e; size = refl }) (λ o. absurd o)

      pub deeper : (k u v : ℕ) → Deep k u → Table d u v → Deep (suc k) v
      deeper k u v p t = record {
        way = p.way ++ (v ∷ []);
        descent = descent_snoc n p.way v p.descent (subst (λ y. Table d y v) (sym p.ends) t);
        ends = last_snoc n p.way v;
        size = simp length-append (omega (arith, p.size));
      }

      deep_chain : (k v : ℕ) → (p : Deep k v) → ChainTail d x v (n ∷ p.way)
      deep_chain k v p = descent-chain x v (n ∷ p.way) (table-start x n a) (a, p.descent) p.ends

      -- at one depth only
      pub deep_once : (k m v : ℕ) → Deep k v → Deep m v → k ≡ m
      deep_once k m v p q =
          let c = deep_chain k v p in
          let e = deep_chain m v q in
          let same = ap length (same_rest (length d) (neighbours d) (adj_symmetric d) r.no_loop x v (n ∷ p.way) (n ∷ q.way) c e) in
          omega (arith, p.size, q.size)

      pub next_deep : (j : ℕ) (before level : List ℕ) → ((v : ℕ) → In v level → Deep j v) → (v : ℕ) → In v (next_level d before level) → Deep (suc j) v
      next_deep j before level f v o = let e = in_next before level v o in deeper j e.0 v (f e.0 e.1) e.2

      -- what lies down the tables from the first level is in a level: nothing is left out for being in the level before
      levels_from_in : (k j : ℕ) (before level : List ℕ) → ((v : ℕ) → In v level → Deep j v) → ((u v : ℕ) → In u before → In v level → Table d v u → ⊥)
          → (u : ℕ) → In u level → (l : List ℕ) → Descent d u l → length l < k → In (last u l) (levels_from k d before level)
      unfolding levels_from
      levels_from_in zero j before level f g u h l t s = absurd (omega arith)
      levels_from_in (suc k) j before level f g u h [] t s = in_left level (levels_from k d level (next_level d before level)) u h
      levels_from_in (suc k) j before level f g u h (y ∷ l) t s =
          in_right level (levels_from k d level (next_level d before level)) (last y l)
          (levels_from_in k (suc j) level (next_level d before level) (next_deep j before level f)
          (λ b v o q z. let same = deep_once j (suc (suc j)) b (f b o) (deeper (suc j) v b (next_deep j before level f v q) z) in omega arith)
          y (next_in before level u y h t.0 (λ o. g y u o h t.0)) l t.1 (omega arith))

      levels_deep : (k j : ℕ) (before level : List ℕ) → ((v : ℕ) → In v level → Deep j v) → (m : ℕ) → In m (levels_from k d before level)
          → (i : ℕ) × (j ≤ i) × Deep i m
      unfolding levels_from
      levels_deep zero j before level f m h = absurd h
      levels_deep (suc k) j before level f m h =
          ⊎_elim (λ o. (j, omega arith, f m o))
          (λ o. let e = levels_deep k (suc j) level (next_level d before level) (next_deep j before level f) m o in (e.0, omega (arith, e.1), e.2))
          (in_append level (levels_from k d level (next_level d before level)) m h)

      -- so no expander is in two levels
      distinct-levels : (k j : ℕ) (before level : List ℕ) → ((v : ℕ) → In v level → Deep j v) → Distinct level → Distinct (levels_from k d before level)
      unfolding levels_from
      distinct-levels zero j before level f g = tt
      distinct-levels (suc k) j before level f g =
          let next = next_level d before level in
          distinct_append level (levels_from k d level next) g
          (distinct-levels k (suc j) level next (next_deep j before level f) (next-distinct d before level))
          (λ m o q. let e = levels_deep k (suc j) level next (next_deep j before level f) m q in
          let same = deep_once j e.0 m (f m o) e.2 in omega (arith, e.1))

      pub deep_small : (k v : ℕ) → Deep k v → suc (suc k) ≤ length d
      deep_small k v p = let c = deep_chain k v p in omega (arith, at_most (length d) (x ∷ n ∷ p.way) c.below c.diff, p.size)

      -- deep enough, there are no more levels
      settle : (k j : ℕ) (before level : List ℕ) → ((v : ℕ) → In v level → Deep j v) → length d ≤ suc (k + j)
          → levels_from (suc k) d before level ≡ levels_from k d before level
      unfolding levels_from
      settle zero j before [] f h = refl
      settle zero j before (v ∷ level) f h = absurd (omega (arith, deep_small j v (f v (inl refl))))
      settle (suc k) j before level f h =
          ap (λ l. level ++ l) (settle k (suc j) level (next_level d before level) (next_deep j before level f) (omega arith))

      -- the levels of n, seen from x
      from-x : (m : ℕ) → In m (levels_from (length d) d (x ∷ []) (n ∷ [])) ↔ ((l : List ℕ) × ChainTail d x m (n ∷ l) × Clear d n l)
      from-x m = (
        λ h. let s = in_levels_from (length d) (x ∷ []) (n ∷ []) m h in
            let l = s.2.0 in
            let e : s.0 ≡ n = ⊎_elim (λ o. o) (λ o. absurd o) s.1 in
            let t = subst (λ v. Descent d v l) e s.2.1 in
            (l, descent-chain x m (n ∷ l) (table-start x n a) (a, t) (subst (λ v. last v l ≡ m) e s.2.2), descent-clear n l t),
        λ c. let size = at_most (length d) (x ∷ n ∷ c.0) c.1.below c.1.diff in
            subst (λ v. In v (levels_from (length d) d (x ∷ []) (n ∷ []))) c.1.ends
            (levels_from_in (length d) 0 (x ∷ []) (n ∷ []) top
            (λ u v. ⊎_elim (λ e. ⊎_elim (λ f t. not_both n x (table-back x n a) (subst₂ (Table d) f e t)) (λ o. absurd o)) (λ o. absurd o))
            n (inl refl) c.0 (chain-descent x n m c.0 a c.1 c.2) (omega arith)),
      )

    first_level_lem : (x p n : ℕ) → n < length d → AttachedTo d x p n → T (is_table (phy_at d x p)) → ¬ (FarTable d x p) → downstream_of_phys d (phy_at d x p ∷ []) ≡ n ∷ []
    unfolding downstream_of_phys keep
    first_level_lem x p n h t u v =
        rw (keep-more (down d) (phy_at d x p) [] (leads-down x p (record { expander = t.expander; routed = u; single = v })))
        (ap (λ k. k ∷ []) (to_number d w x p n h t))

    -- as many levels as there are expanders are enough: those after them have no expander
    pub levels-enough : (x p n : ℕ) → n < length d → AttachedTo d x p n → T (is_table (phy_at d x p)) → ¬ (FarTable d x p)
        → (count : ℕ) → length d ≤ count → levels_from count d (x ∷ []) (downstream_of_phys d (phy_at d x p ∷ [])) ≡ levels d x p
    unfolding levels
    levels-enough x p n h t u s zero k = absurd (omega arith)
    levels-enough x p n h t u s (suc c) k =
        let a : Table d x n = record { phy = p; to = t; routed = u; end = h; single = s } in
        by_cases (dec_lt (length d) (suc c))
        (λ l. subst (λ v. levels_from (suc c) d (x ∷ []) v ≡ levels_from c d (x ∷ []) v) (sym (first_level_lem x p n h t u s))
        (settle x n a c 0 (x ∷ []) (n ∷ []) (top x n a) (omega arith)) ∙ levels-enough x p n h t u s c (omega arith))
        (λ l. ap (λ (m : ℕ). levels_from m d (x ∷ []) (downstream_of_phys d (phy_at d x p ∷ []))) (omega arith))

    -- the levels hold different expanders, and not x
    pub levels-few : (x p n : ℕ) → n < length d → AttachedTo d x p n → T (is_table (phy_at d x p)) → ¬ (FarTable d x p)
        → Distinct (x ∷ levels d x p) × (length (levels d x p) < length d)
    unfolding levels
    levels-few x p n h t u s = (all, at_most (length d) (x ∷ levels d x p) downstream-all all)
      where
        a : Table d x n
        a = record { phy = p; to = t; routed = u; end = h; single = s }

        chain : (m : ℕ) → In m (levels d x p) → (l : List ℕ) × ChainTail d x m (n ∷ l) × Clear d n l
        chain m o =
            (from-x x n a m).0 (subst (λ v. In m (levels_from (length d) d (x ∷ []) v)) (first_level_lem x p n h t u s) o)

        all : Distinct (x ∷ levels d x p)
        all = (
          λ o. let c = chain x o in c.1.diff.0 (in_cast (n ∷ c.0) (sym c.1.ends) (last_in n c.0)),
          subst (λ v. Distinct (levels_from (length d) d (x ∷ []) v)) (sym (first_level_lem x p n h t u s))
              (distinct-levels x n a (length d) 0 (x ∷ []) (n ∷ []) (top x n a) (λ o. o, tt)),
        )

        downstream-all : Below (length d) (x ∷ levels d x p)
        downstream-all =
            all_cons (λ v. v < length d) x (levels d x p) (table-start x n a)
            (λ m o. let c = chain m o in c.1.below m (subst (λ v. In v (x ∷ n ∷ c.0)) c.1.ends (inr (last_in n c.0))))

    -- the levels of a table phy to n are the expanders beyond n, seen from x
    pub levels_are_beyond : (x p n m : ℕ) → n < length d → AttachedTo d x p n → T (is_table (phy_at d x p)) → ¬ (FarTable d x p)
        → In m (levels d x p) ↔ ((l : List ℕ) × ChainTail d x m (n ∷ l) × Clear d n l)
    unfolding levels
    levels_are_beyond x p n m h t u s =
        subst (λ v. In m (levels_from (length d) d (x ∷ []) v) ↔ ((l : List ℕ) × ChainTail d x m (n ∷ l) × Clear d n l)) (sym (first_level_lem x p n h t u s))
        (from-x x n (record { phy = p; to = t; routed = u; end = h; single = s }) m)

-- no level where the phy does not lead down
pub levels-none : (k : ℕ) (d : Domain) (before : List ℕ) → levels_from k d before [] ≡ []
unfolding levels_from next_level flat_map keep each_once
levels-none zero d before = refl
levels-none (suc k) d before = levels-none k d []

pub levels-down : (d : Domain) (x p m : ℕ) → In m (levels d x p) → T (down d (phy_at d x p))
unfolding levels downstream_of_phys keep
levels-down d x p m h = go (down d (phy_at d x p)) h
  where
    go : (b : Bool) → In m (levels_from (length d) d (x ∷ []) (map (λ φ. number_of d (address_of φ)) (cond b (phy_at d x p ∷ []) []))) → T b
    go true o = tt
    go false o = subst (λ l. In m l) (levels-none (length d) d (x ∷ [])) o
