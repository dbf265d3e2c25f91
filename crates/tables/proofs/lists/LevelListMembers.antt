-- What a level list holds: a non-zero address that is neither X's nor attached at X is in it exactly when a device beyond bears it, to which
-- no table-to-table link is crossed, or the first expander beyond such a link.
use mathlib.Core.Path.{◌≡◌, refl, sym, ap, subst, ◌∙◌}
use mathlib.Core.Logic.{◌⊎◌, inl, inr, ◌≢◌, ◌↔◌, ⊎_elim}
use mathlib.Core.List.{List, [], ◌∷◌, ◌++◌}
use mathlib.Core.Bool.{Bool, true, false, cond, not, ◌&&◌}
use Prim.Native.Nat.{ℕ, ◌<◌}
use native.Mathlib.Omega.{arith}
use lib.ListN.{length}
use lib.Dec.{T, eqb, eqb→eq, not_T, T_not}
use Rattle.files.specs.declared.Phy.{Phy}
use Rattle.files.specs.declared.Phy.TheVariants.{Vacant}
use Rattle.files.specs.Lists.{any, is_in, In, last}
use Rattle.files.specs.Domain.{Domain, expander_at, phy_at, address_of, is_table, is_direct, attached, to_end, to_expander, bears, number_of}
use Rattle.files.proofs.ListMembers.{tests, or_cases, or_left, or_right, is_true, was_true, not_not, eq→eqb, any_of, of-any, in_cast, in_append, in_left, in_right, in_get_d, get_d_in, in_flat_map, flat_map_in, of-is_in, last_in}
use Rattle.wiring.proofs.phys.WiredPhys.{ChainTail, AttachedTo, Wired, Home, far-below, far-is}
use Rattle.files.proofs.Domains.{end-attached, expander-attached, attached_cases, attribute-one, in_range_lem}
use Rattle.wiring.specs.graph.Devices.{TableToTable, Clear}
use Rattle.wiring.specs.WiringCauses.{Linked}
use Rattle.tables.specs.levels.Levels.{levels}
use Rattle.tables.specs.filling.Tables.{word, address_at, gives, give, give_all, level_list}
use Rattle.tables.specs.lists.GrowingLists.{phys_of}
use Rattle.tables.proofs.levels.LevelsBeyond.{FarTable, Link, Table, Sub, Descent, Fall, ClearBut, last_snoc, table-start, table-back, table-untied, one-sub, fall_chain, fall_snoc, fall_clear, chain_fall, descent-chain, descent_fall, descent-clear, chain-descent, down-leads, levels-down, levels_are_beyond}

module _ (d : Domain) (x s : ℕ) where
  -- x holds s: it bears s, or has it at an attached phy
  pub held_cases : T (address_at d x s) → ((expander_at d x).address ≡ s) ⊎ ((p : ℕ) × T (attached (phy_at d x p)) × (address_of (phy_at d x p) ≡ s))
  unfolding address_at
  held_cases t =
      ⊎_elim (λ u. inl (sym (eqb→eq s (expander_at d x).address u)))
      (λ u. let r = of-any (bears s) (expander_at d x).phys u in
      let g = get_d_in (expander_at d x).phys (Vacant 0) r.0 r.1 in
      let b = subst (λ φ. T (bears s φ)) (sym g.2) r.2 in
      inr (g.0, search tests, search tests))
      (or_cases (eqb s (expander_at d x).address) (any (bears s) (expander_at d x).phys) t)

  pub held-self : (expander_at d x).address ≡ s → T (address_at d x s)
  unfolding address_at
  held-self e = or_left (eqb s (expander_at d x).address) (any (bears s) (expander_at d x).phys) (eq→eqb s (expander_at d x).address (sym e))

  pub held-phy : (p : ℕ) → T (attached (phy_at d x p)) → address_of (phy_at d x p) ≡ s → T (address_at d x s)
  unfolding address_at
  held-phy p t e =
      or_right (eqb s (expander_at d x).address) (any (bears s) (expander_at d x).phys)
      (any_of (bears s) (expander_at d x).phys (phy_at d x p) (in_get_d (expander_at d x).phys (Vacant 0) p (in_range_lem d x p t).1) (search tests))

  -- why a phy gives s
  abbrev GivenBy : Phy → Type 0
  GivenBy φ = T (attached φ) × (address_of φ ≡ s) × (T (is_direct φ) ⊎ ¬ (T (address_at d x s)))

  word-is : (φ : Phy) → s ≢ 0 → word φ ≡ s → T (attached φ) × (address_of φ ≡ s)
  word-is φ k e = go (attached φ) refl e
    where
      go : (b : Bool) → attached φ ≡ b → cond b (address_of φ) 0 ≡ s → T (attached φ) × (address_of φ ≡ s)
      go true q f = (was_true (attached φ) q, f)
      go false q f = absurd (k (sym f))

  pub in_give : (l : List ℕ) (φ : Phy) → s ≢ 0 → In s (give d x l φ) → In s l ⊎ GivenBy φ
  unfolding give gives
  in_give l φ k h = go (gives d x l φ) refl h
    where
      why : T (gives d x l φ) → address_of φ ≡ s → T (is_direct φ) ⊎ ¬ (T (address_at d x s))
      why t e =
          ⊎_elim inl
          (λ u. inr (λ v. T_not (address_at d x (address_of φ)) (search tests) (subst (λ a. T (address_at d x a)) (sym e) v)))
          (or_cases (is_direct φ) (attached φ && (not (address_at d x (address_of φ)) && not (is_in (address_of φ) l))) t)

      go : (b : Bool) → gives d x l φ ≡ b → In s (cond b (l ++ (word φ ∷ [])) l) → In s l ⊎ GivenBy φ
      go true q o =
          ⊎_elim inl
          (⊎_elim (λ e. let r = word-is φ k (sym e) in inr (r.0, r.1, why (was_true (gives d x l φ) q) r.1)) (λ z. absurd z))
          (in_append l (word φ ∷ []) s o)
      go false q o = inl o

  in_give_all : (φs : List Phy) (l : List ℕ) → s ≢ 0 → In s (give_all d x l φs) → In s l ⊎ ((φ : Phy) × In φ φs × GivenBy φ)
  unfolding give_all
  in_give_all [] l k h = inl h
  in_give_all (φ ∷ φs) l k h =
      ⊎_elim (λ o. ⊎_elim inl (λ g. inr (φ, inl refl, g)) (in_give l φ k o)) (λ g. inr (g.0, inr g.1, g.2)) (in_give_all φs (give d x l φ) k h)

  -- what is in the list stays, and an attached address that x does not hold is in it afterwards
  pub give-old : (l : List ℕ) (φ : Phy) → In s l → In s (give d x l φ)
  unfolding give
  give-old l φ h = go (gives d x l φ)
    where
      go : (b : Bool) → In s (cond b (l ++ (word φ ∷ [])) l)
      go true = in_left l (word φ ∷ []) s h
      go false = h

  give_all-old : (φs : List Phy) (l : List ℕ) → In s l → In s (give_all d x l φs)
  unfolding give_all
  give_all-old [] l h = h
  give_all-old (φ ∷ φs) l h = give_all-old φs (give d x l φ) (give-old l φ h)

  pub give-new : (l : List ℕ) (φ : Phy) → T (attached φ) → address_of φ ≡ s → ¬ (T (address_at d x s)) → In s (give d x l φ)
  unfolding give gives
  give-new l φ t e k = go (gives d x l φ) refl
    where
      go : (b : Bool) → gives d x l φ ≡ b → In s (cond b (l ++ (word φ ∷ [])) l)
      go true q = in_right l (word φ ∷ []) s (inl (sym (subst (λ b. cond b (address_of φ) 0 ≡ s) (sym (is_true (attached φ) t)) e)))
      go false q =
          of-is_in s l (not_not (is_in s l) (λ u. subst T q
          (let far = not_T (address_at d x (address_of φ)) (λ v. k (subst (λ a. T (address_at d x a)) e v)) in
          let new = subst (λ a. T (not (is_in a l))) (sym e) u in
          search tests)))

  give_all-new : (φs : List Phy) (l : List ℕ) (φ : Phy) → In φ φs → T (attached φ) → address_of φ ≡ s → ¬ (T (address_at d x s)) → In s (give_all d x l φs)
  unfolding give_all
  give_all-new [] l φ h t e k = absurd h
  give_all-new (ψ ∷ φs) l φ (inl q) t e k =
      give_all-old φs (give d x l ψ) (give-new l ψ (subst (λ χ. T (attached χ)) q t) (sym (ap address_of q) ∙ e) k)
  give_all-new (ψ ∷ φs) l φ (inr h) t e k = give_all-new φs (give d x l ψ) φ h t e k

  -- in what these expanders give: some phy of theirs gives it
  pub in_given : (es : List ℕ) → s ≢ 0 → In s (give_all d x [] (phys_of d es)) → (m q : ℕ) × In m es × GivenBy (phy_at d m q)
  in_given es k o =
      ⊎_elim (λ z. absurd z)
      (λ g. let f = in_flat_map (λ i. (expander_at d i).phys) es g.0 g.1 in
      let c = get_d_in (expander_at d f.0).phys (Vacant 0) g.0 f.2 in
      (f.0, c.0, f.1, subst GivenBy (sym c.2) g.2))
      (in_give_all (phys_of d es) [] k o)

  -- an address attached to one of them that x does not hold is in it
  pub given_in : (es : List ℕ) (m q : ℕ) → In m es → T (attached (phy_at d m q)) → address_of (phy_at d m q) ≡ s → ¬ (T (address_at d x s))
      → In s (give_all d x [] (phys_of d es))
  given_in es m q h u e k =
      give_all-new (phys_of d es) [] (phy_at d m q)
      (flat_map_in (λ i. (expander_at d i).phys) es (phy_at d m q) m h (in_get_d (expander_at d m).phys (Vacant 0) q (in_range_lem d m q u).1)) u e k

  -- who gives an address that is in a level list: an expander of the levels
  pub in_list : (p : ℕ) → s ≢ 0 → In s (level_list d x p) → (m q : ℕ) × In m (levels d x p) × GivenBy (phy_at d m q)
  unfolding level_list
  in_list p k o = in_given (levels d x p) k o

  pub list_in_lem : (p m q : ℕ) → In m (levels d x p) → T (attached (phy_at d m q)) → address_of (phy_at d m q) ≡ s → ¬ (T (address_at d x s)) → In s (level_list d x p)
  unfolding level_list
  list_in_lem p m q h u e k = given_in (levels d x p) m q h u e k

module _ (d : Domain) (w : Wired d) (r : Linked d) where
  -- up from the end of a descent is where it came from
  up-again : (a b v : ℕ) (l : List ℕ) → Table d a b → Descent d b l → Sub d (last b l) v → (v ≡ a) ⊎ ((l' : List ℕ) × Descent d b l' × (last b l' ≡ v))
  up-again a b v [] t k u = inl (one-sub d w b v a u (table-back d w r a b t))
  up-again a b v (c ∷ l) t k u =
      ⊎_elim (λ e. inr ([], tt, sym e)) (λ o. inr (c ∷ o.0, (k.0, o.1), o.2)) (up-again b c v l k.0 k.1 u)

  last_step : (b c : ℕ) (l : List ℕ) → Fall d b (c ∷ l) → (l' : List ℕ) × Descent d b l' × Link d 2 (last b l') (last c l)
  last_step b c [] k = ([], tt, k)
  last_step b c (e ∷ l) k = let o = last_step c e l k.1 in (c ∷ o.0, (k.0, o.1), o.2)

  -- the address of an end device elsewhere is not held here
  pub end-far : (m q x s : ℕ) → T (to_end (phy_at d m q)) → address_of (phy_at d m q) ≡ s → m ≢ x → x < length d → ¬ (T (address_at d x s))
  end-far m q x s t e k h n =
      ⊎_elim (λ f. w.apart m q x t h (e ∙ sym f))
      (λ o. let p = o.0 in
      ⊎_elim (λ u. k (w.one_place m q x p t u (e ∙ sym o.2)))
      (λ u. w.apart m q (number_of d (address_of (phy_at d x p))) t (far-below d w x p u) (e ∙ sym o.2 ∙ (far-is d w x p u).address))
      (attached_cases (phy_at d x p) o.1))
      (held_cases d x s n)

  no_direct : (m q : ℕ) → T (to_expander (phy_at d m q)) → T (is_direct (phy_at d m q)) → ⊥
  no_direct m q e y =
      ⊎_elim (λ v. let c = attribute-one 0 1 (phy_at d m q) y v in omega arith) (λ v. let c = attribute-one 0 2 (phy_at d m q) y v in omega arith) (w.routing m q e)

  -- phy p of expander x is a table phy attached to expander n
  module _ (x p n s : ℕ) (h : n < length d) (t : AttachedTo d x p n) (u : T (is_table (phy_at d x p))) where
    -- expander m bears s, at the end of a chain that crosses no table-to-table link but for its last; or an end device at m does, and the
    -- chain crosses none
    abbrev Entered : ℕ → List ℕ → Type 0
    Entered m l =
        (ClearBut d x (n ∷ l) × ((expander_at d m).address ≡ s))
        ⊎ (Clear d x (n ∷ l) × ((q : ℕ) × T (to_end (phy_at d m q)) × (address_of (phy_at d m q) ≡ s)))

    -- beyond n, seen from x, such a device bears s
    abbrev Beyond : Type 0
    Beyond = (m : ℕ) × (l : List ℕ) × ChainTail d x m (n ∷ l) × Entered m l

    entered_home : (m : ℕ) (l : List ℕ) → Entered m l → Home d s m
    entered_home m l = ⊎_elim (λ e. inl e.1) (λ e. inr e.1)

    module _ (single : ¬ (FarTable d x p)) where
      a : Table d x n
      a = record { phy = p; to = t; routed = u; end = h; single = single }

      descended : (l : List ℕ) (m : ℕ) → Descent d n l → last n l ≡ m → ChainTail d x m (n ∷ l)
      descended l m k e = descent-chain d w r x m (n ∷ l) (table-start d w x n a) (a, k) e

      -- an address at a phy that leads to an expander is borne by that expander: one level up, or one down
      through : (m q : ℕ) (l : List ℕ) → T (to_expander (phy_at d m q)) → address_of (phy_at d m q) ≡ s → ¬ (T (address_at d x s))
          → Descent d n l → last n l ≡ m → Beyond
      through m q l e f far k ends =
          let v = number_of d (address_of (phy_at d m q)) in
          let to = far-is d w m q e in
          let end = far-below d w m q e in
          let home : (expander_at d v).address ≡ s = sym to.address ∙ f in
          ⊎_elim
          (λ y. let up : Sub d (last n l) v = subst (λ i. Sub d i v) (sym ends) (record { phy = q; to = to; routed = y; end = end }) in
          ⊎_elim
          (λ c. absurd (far (held-self d x s (ap (λ i. (expander_at d i).address) (sym c) ∙ home))))
          (λ c. (v, c.0, descended c.0 v c.1 c.2, inl (fall_clear d w r x (n ∷ c.0) (descent_fall d w r x (n ∷ c.0) (a, c.1)), home)))
          (up-again x n v l a k up))
          (λ y. let link : Link d 2 (last n l) v = subst (λ i. Link d 2 i v) (sym ends) (record { phy = q; to = to; routed = y; end = end }) in
          let fall = fall_snoc d w r x (n ∷ l) v (a, k) link in
          (v, l ++ (v ∷ []), fall_chain d w r x v (n ∷ (l ++ (v ∷ []))) (table-start d w x n a) fall (last_snoc n l v), inl (fall_clear d w r x (n ∷ (l ++ (v ∷ []))) fall, home)))
          (w.routing m q e)

      down-beyond : s ≢ 0 → In s (level_list d x p) → (¬ (T (address_at d x s))) × Beyond
      down-beyond z o =
          let g = in_list d x s p z o in
          let m = g.0 in
          let q = g.1 in
          let c = (levels_are_beyond d w r x p n m h t u single).0 g.2 in
          let l = c.0 in
          let k = chain-descent d w r x n m l a c.1 c.2 in
          let other : m ≢ x = λ f. c.1.diff.0 (in_cast (n ∷ l) (sym f ∙ sym c.1.ends) (last_in n l)) in
          ⊎_elim
          (λ e. (end-far m q x s e g.3.1 other (table-start d w x n a), (m, l, c.1, inr ((table-untied d w r x n a, c.2), (q, e, g.3.1)))))
          (λ e. let far : ¬ (T (address_at d x s)) = ⊎_elim (λ y. absurd (no_direct m q e y)) (λ y. y) g.3.2 in
          (far, through m q l e g.3.1 far k c.1.ends))
          (attached_cases (phy_at d m q) g.3.0)

      -- an expander's address is at the phy of the level before that leads to it
      self-listed : (m : ℕ) (l : List ℕ) → ¬ (T (address_at d x s)) → Fall d n l → last n l ≡ m → (expander_at d m).address ≡ s → In s (level_list d x p)
      self-listed m [] far k e f =
          absurd (far (held-phy d x s p (expander-attached (phy_at d x p) t.expander) (t.address ∙ ap (λ i. (expander_at d i).address) e ∙ f)))
      self-listed m (y ∷ l) far k e f =
          let o = last_step n y l k in
          let i = last n o.0 in
          let b = o.2 in
          let level = (levels_are_beyond d w r x p n i h t u single).1 (o.0, descended o.0 i o.1 refl, descent-clear d w r n o.0 o.1) in
          list_in_lem d x s p i b.phy level (expander-attached (phy_at d i b.phy) b.to.expander)
          (b.to.address ∙ ap (λ j. (expander_at d j).address) e ∙ f) far

      end-listed : (m q : ℕ) (l : List ℕ) → ¬ (T (address_at d x s)) → ChainTail d x m (n ∷ l) → Clear d n l → T (to_end (phy_at d m q)) → address_of (phy_at d m q) ≡ s
          → In s (level_list d x p)
      end-listed m q l far c clear e f =
          let level = (levels_are_beyond d w r x p n m h t u single).1 (l, c, clear) in
          list_in_lem d x s p m q level (end-attached (phy_at d m q) e) f far

    untied : ¬ (TableToTable d x n) → ¬ (FarTable d x p)
    untied k v = k (record { phy = p; to = t; routed = u; double = v })

    listed-beyond : s ≢ 0 → In s (level_list d x p) → (¬ (T (address_at d x s))) × Beyond
    listed-beyond z o =
        let g = in_list d x s p z o in
        down-beyond (down-leads d w r x p (levels-down d x p g.0 g.2)).single z o

    -- what is listed is borne beyond the phy, and not held at x
    pub list-beyond : s ≢ 0 → In s (level_list d x p) → (¬ (T (address_at d x s))) × ((m : ℕ) × (l : List ℕ) × ChainTail d x m (n ∷ l) × Home d s m)
    list-beyond z o = let b = listed-beyond z o in (b.0, (b.1.0, b.1.1, b.1.2, entered_home b.1.0 b.1.1 b.1.3))

    clear_but : (i : ℕ) (l : List ℕ) → Clear d i l → ClearBut d i l
    clear_but i [] c = tt
    clear_but i (j ∷ []) c = tt
    clear_but i (j ∷ k ∷ l) c = (c.0, clear_but j (k ∷ l) c.1)

    entered_list : ¬ (T (address_at d x s)) → (m : ℕ) (l : List ℕ) → ChainTail d x m (n ∷ l) → Entered m l → In s (level_list d x p)
    entered_list far m [] c (inl e) =
        absurd (far (held-phy d x s p (expander-attached (phy_at d x p) t.expander) (t.address ∙ ap (λ i. (expander_at d i).address) c.ends ∙ e.1)))
    entered_list far m (y ∷ l) c (inl e) =
        let single = untied e.0.0 in
        self-listed single m (y ∷ l) far (chain_fall d w r x n m (y ∷ l) (a single) c e.0.1) c.ends e.1
    entered_list far m [] c (inr e) = end-listed (untied e.0.0) m e.1.0 [] far c tt e.1.1 e.1.2
    entered_list far m (y ∷ l) c (inr e) = end-listed (untied e.0.0) m e.1.0 (y ∷ l) far c e.0.1 e.1.1 e.1.2

    -- what is borne at the end of a clear chain through the phy is listed
    pub beyond-list : ¬ (T (address_at d x s)) → (m : ℕ) (l : List ℕ) → ChainTail d x m (n ∷ l) → Clear d x (n ∷ l) → Home d s m → In s (level_list d x p)
    beyond-list far m l c clear home = entered_list far m l c (⊎_elim (λ e. inl (clear_but x (n ∷ l) clear, e)) (λ e. inr (clear, e)) home)

    -- a non-zero address that x does not hold is in the list exactly when a device beyond n bears it, to which no table-to-table link is
    -- crossed, or the first expander beyond such a link
    pub listed_iff : s ≢ 0 → ¬ (T (address_at d x s)) → In s (level_list d x p) ↔ ((m : ℕ) × (l : List ℕ) × ChainTail d x m (n ∷ l)
        × ((ClearBut d x (n ∷ l) × ((expander_at d m).address ≡ s))
        ⊎ (Clear d x (n ∷ l) × ((q : ℕ) × T (to_end (phy_at d m q)) × (address_of (phy_at d m q) ≡ s)))))
    listed_iff z far = (λ o. (listed-beyond z o).1, λ b. entered_list far b.0 b.1 b.2 b.3)
