-- The law of level lists: past causes 1 to 12, each expander of the levels gives its own list, whatever the table.
use mathlib.Core.Path.{◌≡◌, refl, sym, ap, subst, ◌∙◌}
use mathlib.Core.Logic.{◌⊎◌, inl, inr, ◌≢◌, ◌↔◌, ⊎_elim}
use mathlib.Core.List.{List, [], ◌∷◌, ◌++◌, flat_map, append_assoc, append-nil, append_cancel_right}
use mathlib.Core.Bool.{Bool, true, false, cond, not, and-false}
use Prim.Native.Nat.{ℕ, zero, suc, ◌≤◌, ◌<◌}
use native.Mathlib.Omega.{arith}
use lib.ListN.{length}
use lib.Dec.{T, eqb}
use Rattle.files.specs.declared.Phy.{Phy}
use Rattle.files.specs.declared.Phy.TheVariants.{Vacant}
use Rattle.files.specs.Lists.{any, is_in, In, Distinct, last}
use Rattle.files.specs.Domain.{Domain, expander_at, phy_at, address_of, attribute_of, is_table, is_subtractive, is_direct, attached, to_expander, bears, number_of}
use Rattle.files.proofs.ListMembers.{tests, or_cases, or_left, or_right, T?, is_true, is_false, same_test, in_cast, in_append, in_left, in_right, get_d_in, is_in-of, of-is_in}
use Rattle.wiring.specs.graph.Neighbours.{neighbours}
use Rattle.wiring.proofs.graph.GraphWalks.{same_rest}
use Rattle.wiring.proofs.phys.WiredPhys.{ChainTail, AttachedTo, Wired, one-step, plain-attribute, differ, far-below, far-is, to-adj, adj_symmetric}
use Rattle.files.proofs.Domains.{expander-attached, attached_cases, attribute-one, in_range_lem}
use Rattle.wiring.specs.WiringCauses.{Linked}
use Rattle.tables.specs.levels.Levels.{down, next_level, levels_from, levels}
use Rattle.tables.specs.filling.Tables.{word, address_at, gives, give, give_all, level_list}
use Rattle.tables.specs.lists.OwnLists.{owns, own_words_from, own_words, own_words_of_levels}
use Rattle.tables.specs.lists.GrowingLists.{phys_of}
use Rattle.tables.proofs.levels.LevelsBeyond.{Leads, Link, Table, Descent, last_snoc, table-link, table-back, one-sub, fall_chain, fall_snoc, descent_snoc, in_next, down-leads, levels-few, levels-none}
use Rattle.tables.proofs.lists.LevelListMembers.{held_cases, held-self, held-phy, in_give, give-old, give-new, in_given, given_in, end-far}
use Rattle.tables.proofs.lists.GrowingLists.{flat_append, give_all-append}
use Rattle.tables.proofs.levels.DownstreamLists.{downstream-none, downstream-one}

-- the phys of one expander, after the list `before`
module _ (d : Domain) (x : ℕ) (before : List ℕ) where
  -- an address that x does not hold, and that is not in the list before
  record New (s : ℕ) : Type 0 where
    borne : s ≢ 0
    far : ¬ (T (address_at d x s))
    fresh : ¬ (In s before)

  -- a phy of it: nothing attached, direct, subtractive with an address that x holds or that is listed, or table with a new one
  data Fits (φ : Phy) : Type 0 where
    unattached : ¬ (T (attached φ)) → Fits φ
    direct : T (is_direct φ) → Fits φ
    held : T (is_subtractive φ) → T (address_at d x (address_of φ)) → Fits φ
    listed : T (is_subtractive φ) → In (address_of φ) before → Fits φ
    beyond : T (attached φ) → T (is_table φ) → New (address_of φ) → Fits φ

  -- the list so far, and the lower phys: what was listed stays, and a new address is listed where a lower phy bears it
  record Agree (l : List ℕ) (lower : List Phy) : Type 0 where
    old : (s : ℕ) → In s before → In s l
    new : (s : ℕ) → New s → T (is_in s l) ↔ T (any (bears s) lower)

  no_table : (φ : Phy) → T (is_subtractive φ) → is_table φ ≡ false
  no_table φ t = is_false (is_table φ) (λ u. let e = attribute-one 1 2 φ t u in omega arith)

  -- a phy gives its word to the list where its expander's own list has it
  gives-owns : (φ : Phy) (lower : List Phy) (l : List ℕ) → Agree l lower → Fits φ → gives d x l φ ≡ owns lower φ
  unfolding gives owns
  gives-owns φ lower l g (unattached k) = rw (is_false (attached φ) k, and-false (is_table φ)) refl
  gives-owns φ lower l g (direct t) = rw (is_true (is_direct φ) t) refl
  gives-owns φ lower l g (held t o) = rw (no_table φ t, is_true (address_at d x (address_of φ)) o, and-false (attached φ)) refl
  gives-owns φ lower l g (listed t o) =
      let s = address_of φ in
      rw (no_table φ t, is_true (is_in s l) (is_in-of s l (g.old s o)), and-false (not (address_at d x s)), and-false (attached φ)) refl
  gives-owns φ lower l g (beyond t u n) =
      let s = address_of φ in
      let same = same_test (is_in s l) (any (bears s) lower) (g.new s n).0 (g.new s n).1 in
      rw (is_true (attached φ) t, is_true (is_table φ) u, is_false (address_at d x s) n.far, same) refl

  agree_next : (φ : Phy) (lower : List Phy) (l : List ℕ) → Agree l lower → Agree (give d x l φ) (φ ∷ lower)
  unfolding any
  agree_next φ lower l g = record {
    old = λ s h. give-old d x s l φ (g.old s h);
    new = λ s n. (
      λ t. ⊎_elim (λ o. or_right (bears s φ) (any (bears s) lower) ((g.new s n).0 (is_in-of s l o)))
          (λ o. let y = o.0 in let e = o.1 in or_left (bears s φ) (any (bears s) lower) (search tests))
          (in_give d x s l φ n.borne (of-is_in s (give d x l φ) t)),
      λ t. is_in-of s (give d x l φ)
          (⊎_elim (λ o. give-new d x s l φ (search tests) (search tests) n.far) (λ o. give-old d x s l φ (of-is_in s l ((g.new s n).1 o)))
          (or_cases (bears s φ) (any (bears s) lower) t)),
    );
  }

  -- a word, or none, and the rest
  joins : (b : Bool) (l rest : List ℕ) (v : ℕ) → cond b (l ++ (v ∷ [])) l ++ rest ≡ l ++ cond b (v ∷ rest) rest
  joins true l rest v = append_assoc l (v ∷ []) rest
  joins false l rest v = refl

  -- the phys of an expander give its own list
  gives_own : (φs lower : List Phy) (l : List ℕ) → ((φ : Phy) → In φ φs → Fits φ) → Agree l lower → give_all d x l φs ≡ l ++ own_words_from lower φs
  unfolding give_all own_words_from give
  gives_own [] lower l f g = sym (append-nil l)
  gives_own (φ ∷ φs) lower l f g =
      gives_own φs (φ ∷ lower) (give d x l φ) (λ ψ h. f ψ (inr h)) (agree_next φ lower l g)
      ∙ rw (gives-owns φ lower l g (f φ (inl refl))) (joins (owns lower φ) l (own_words_from (φ ∷ lower) φs) (word φ))

-- cause 6 leaves direct, subtractive and table
attribute_cases : (m : ℕ) → m ≤ 2 → T (eqb m 0) ⊎ (T (eqb m 1) ⊎ T (eqb m 2))
attribute_cases zero h = inl tt
attribute_cases (suc zero) h = inr (inl tt)
attribute_cases (suc (suc zero)) h = inr (inr tt)
attribute_cases (suc (suc (suc m))) h = absurd (omega arith)

module _ (d : Domain) (w : Wired d) (r : Linked d) where
  -- the link of a table phy attached to an expander
  abbrev link-to : (i p : ℕ) → T (to_expander (phy_at d i p)) → T (is_table (phy_at d i p)) → Link d 2 i (number_of d (address_of (phy_at d i p)))
  link-to i p t u = record { phy = p; to = far-is d w i p t; routed = u; end = far-below d w i p t }

  -- an expander has one expander above it: the one whose levels go on at it
  pub one-above : (u v e : ℕ) → Table d u e → Table d v e → u ≡ v
  one-above u v e s t = one-sub d w e u v (table-back d w r u e s) (table-back d w r v e t)

  -- the subtractive phys of an expander bear the address of the one above it
  sub-address : (u e q : ℕ) → Table d u e → T (attached (phy_at d e q)) → T (is_subtractive (phy_at d e q))
      → address_of (phy_at d e q) ≡ (expander_at d u).address
  sub-address u e q k t y =
      let b = table-back d w r u e k in
      w.one_way e q b.phy t (expander-attached (phy_at d e b.phy) b.to.expander) y b.routed ∙ b.to.address

  module _ (x : ℕ) (start : x < length d) where
    -- expander v is x, or lies down the tables from x
    abbrev Under : ℕ → Type 0
    Under v = (l : List ℕ) × Descent d x l × (last x l ≡ v)

    under_next : (u v : ℕ) → Under u → Table d u v → Under v
    under_next u v b t = (b.0 ++ (v ∷ []), descent_snoc d w r x b.0 v b.1 (subst (λ y. Table d y v) (sym b.2) t), last_snoc x b.0 v)

    -- from there by a table phy to v, whether it is attached to a table phy or not: a chain
    way-to : (u v : ℕ) → (b : Under u) → Link d 2 u v → ChainTail d x v (b.0 ++ (v ∷ []))
    way-to u v b k =
        let fall = fall_snoc d w r x b.0 v b.1 (subst (λ y. Link d 2 y v) (sym b.2) k) in
        fall_chain d w r x v (b.0 ++ (v ∷ [])) start fall (last_snoc x b.0 v)

    link-off : (u v : ℕ) → Under u → Link d 2 u v → v ≢ x
    link-off u v b k e = (way-to u v b k).diff.0 (in_cast (b.0 ++ (v ∷ [])) (sym e) (in_right b.0 (v ∷ []) v (inl refl)))

    -- so one of them alone has a table phy to v
    one_link : (u m v : ℕ) → Under u → Under m → Link d 2 u v → Link d 2 m v → u ≡ m
    one_link u m v b c k j =
        let same = same_rest (length d) (neighbours d) (adj_symmetric d) r.no_loop x v (b.0 ++ (v ∷ [])) (c.0 ++ (v ∷ [])) (way-to u v b k) (way-to m v c j) in
        sym b.2 ∙ ap (last x) (append_cancel_right b.0 c.0 (v ∷ []) same) ∙ c.2

    -- and only x itself neighbours x's neighbour
    one-near : (u v : ℕ) → Under u → Link d 2 u v → T (neighbours d x v) → u ≡ x
    one-near u v b k t =
        let one = one-step d x v start k.end (λ e. link-off u v b k (sym e)) t in
        let same = same_rest (length d) (neighbours d) (adj_symmetric d) r.no_loop x v (b.0 ++ (v ∷ [])) (v ∷ []) (way-to u v b k) one in
        sym b.2 ∙ ap (last x) (append_cancel_right b.0 [] (v ∷ []) same)

    -- the address at a table phy of such an expander other than x is not held by x
    table-far : (e q : ℕ) → Under e → e ≢ x → T (attached (phy_at d e q)) → T (is_table (phy_at d e q)) → ¬ (T (address_at d x (address_of (phy_at d e q))))
    table-far e q b k t u o =
        let s = address_of (phy_at d e q) in
        ⊎_elim (λ y. end-far d w r e q x s y refl k start o)
        (λ y. let v = number_of d s in
        let j = link-to e q y u in
        ⊎_elim (λ g. link-off e v b j (differ d w v x j.end start (sym j.to.address ∙ sym g)))
        (λ g. ⊎_elim (λ z. w.apart x g.0 v z j.end (g.2 ∙ j.to.address))
        (λ z. k (one-near e v b j (to-adj d w x g.0 v (record { expander = z; address = g.2 ∙ j.to.address }))))
        (attached_cases (phy_at d x g.0) g.1))
        (held_cases d x s o))
        (attached_cases (phy_at d e q) t)

    -- expander e lies below x or below one of those done
    record Follows (done : List ℕ) (e : ℕ) : Type 0 where
      above : ℕ
      earlier : In above (x ∷ done)
      link : Table d above e
      from : Under above

    follows_under : (done : List ℕ) (e : ℕ) → Follows done e → Under e
    follows_under done e o = under_next o.above e o.from o.link

    -- so does each of those done
    abbrev Closed : List ℕ → Type 0
    Closed done = (m : ℕ) → In m done → Follows done m

    follows_more : (done more : List ℕ) (e : ℕ) → Follows done e → Follows (done ++ more) e
    follows_more done more e o =
        let h = ⊎_elim inl (λ h. inr (in_left done more o.above h)) o.earlier in
        record { above = o.above; earlier = h; link = o.link; from = o.from }

    closed_more : (done : List ℕ) (e : ℕ) → Closed done → Follows done e → Closed (done ++ (e ∷ []))
    closed_more done e c o m h =
        follows_more done (e ∷ []) m (⊎_elim (c m) (⊎_elim (λ q. subst (Follows done) (sym q) o) (λ z. absurd z)) (in_append done (e ∷ []) m h))

    -- levels in order: each expander comes after the one above it
    abbrev Ordered : List ℕ → List ℕ → Type 0
    Ordered done [] = Unit {0}
    Ordered done (e ∷ es) = Follows done e × Ordered (done ++ (e ∷ [])) es

    ordered-append : (done es fs : List ℕ) → ((e : ℕ) → In e es → Follows done e) → Ordered (done ++ es) fs → Ordered done (es ++ fs)
    ordered-append done [] fs f g = subst (λ v. Ordered v fs) (append-nil done) g
    ordered-append done (e ∷ es) fs f g = (
      f e (inl refl),
      ordered-append (done ++ (e ∷ [])) es fs (λ m h. follows_more done (e ∷ []) m (f m (inr h)))
          (subst (λ v. Ordered v fs) (sym (append_assoc done (e ∷ []) es)) g),
    )

    ordered-levels : (k : ℕ) (done before level : List ℕ) → ((e : ℕ) → In e level → Follows done e) → Ordered done (levels_from k d before level)
    unfolding levels_from
    ordered-levels zero done before level f = tt
    ordered-levels (suc k) done before level f =
        ordered-append done level (levels_from k d level (next_level d before level)) f
        (ordered-levels k (done ++ level) level (next_level d before level)
        (λ e h. let o = in_next d w r before level e h in
        record { above = o.0; earlier = inr (in_right done level o.0 o.1); link = o.2; from = follows_under done o.0 (f o.0 o.1) }))

    -- what those done give to x's list
    abbrev given : List ℕ → List ℕ
    given done = give_all d x [] (phys_of d done)

    given-more : (done : List ℕ) (e : ℕ) → given (done ++ (e ∷ [])) ≡ give_all d x (given done) (expander_at d e).phys
    unfolding flat_map
    given-more done e =
        let φs = (expander_at d e).phys in
        ap (give_all d x []) (flat_append (λ i. (expander_at d i).phys) done (e ∷ []) ∙ ap (λ v. phys_of d done ++ v) (append-nil φs))
        ∙ give_all-append d x [] (phys_of d done) φs

    module _ (done : List ℕ) (c : Closed done) where
      done-under : (m : ℕ) → In m (x ∷ done) → Under m
      done-under m (inl f) = ([], tt, sym f)
      done-under m (inr h) = follows_under done m (c m h)

      -- an address attached at x or at one of those done is held by x or listed, and so is the address of such an expander
      attached-old : (m q s : ℕ) → In m (x ∷ done) → T (attached (phy_at d m q)) → address_of (phy_at d m q) ≡ s → T (address_at d x s) ⊎ In s (given done)
      attached-old m q s (inl f) t e = inl (subst (λ v. T (address_at d v s)) f (held-phy d m s q t e))
      attached-old m q s (inr h) t e = ⊎_elim inl (λ k. inr (given_in d x s done m q h t e k)) (T? (address_at d x s))

      expander-old : (m s : ℕ) → In m (x ∷ done) → (expander_at d m).address ≡ s → T (address_at d x s) ⊎ In s (given done)
      expander-old m s (inl f) e = inl (subst (λ v. T (address_at d v s)) f (held-self d m s e))
      expander-old m s (inr h) e =
          let o = c m h in
          let k = o.link in
          attached-old o.above k.phy s o.earlier (expander-attached (phy_at d o.above k.phy) k.to.expander) (k.to.address ∙ e)

      -- the next expander: its table phys have new addresses, its subtractive phys old ones
      module _ (e : ℕ) (o : Follows done e) (out : ¬ (In e done)) where
        under : Under e
        under = follows_under done e o

        off : e ≢ x
        off = link-off o.above e o.from (table-link d w o.above e o.link)

        -- x and those done have no table phy to an expander to which e has one
        only : (v m : ℕ) → Link d 2 e v → In m (x ∷ done) → Link d 2 m v → ⊥
        only v m k h j = let same = one_link e m v under (done-under m h) k j in ⊎_elim (λ f. off (same ∙ f)) (λ i. out (in_cast done same i)) h

        -- and no phy to it at all
        no_link : (v m p : ℕ) → Link d 2 e v → In m done → AttachedTo d m p v → ⊥
        no_link v m p k h t =
            ⊎_elim
            (λ y. let o = c m h in
            let up = one-sub d w m v o.above (record { phy = p; to = t; routed = y; end = k.end }) (table-back d w r o.above m o.link) in
            ⊎_elim (λ f. link-off e v under k (up ∙ f))
            (λ i. let a = c o.above i in
            only v a.above k a.earlier (subst (Link d 2 a.above) (sym up) (table-link d w a.above o.above a.link)))
            o.earlier)
            (λ y. only v m k (inr h) (record { phy = p; to = t; routed = y; end = k.end }))
            (w.routing m p t.expander)

        table-fresh : (q : ℕ) → T (attached (phy_at d e q)) → T (is_table (phy_at d e q)) → ¬ (In (address_of (phy_at d e q)) (given done))
        table-fresh q t u h =
            let s = address_of (phy_at d e q) in
            let g = in_given d x s done (w.attached_borne e q t) h in
            let m = g.0 in
            ⊎_elim
            (λ y. end-far d w r e q m s y refl (λ f. out (in_cast done f g.2)) (in_range_lem d m g.1 g.3.0).0 (held-phy d m s g.1 g.3.0 g.3.1))
            (λ y. let v = number_of d s in
            let k = link-to e q y u in
            let same = g.3.1 ∙ k.to.address in
            ⊎_elim (λ z. w.apart m g.1 v z k.end same) (λ z. no_link v m g.1 k g.2 (record { expander = z; address = same }))
            (attached_cases (phy_at d m g.1) g.3.0))
            (attached_cases (phy_at d e q) t)

        table-new : (q : ℕ) → T (attached (phy_at d e q)) → T (is_table (phy_at d e q)) → New d x (given done) (address_of (phy_at d e q))
        table-new q t u = record {
          borne = w.attached_borne e q t;
          far = table-far e q under off t u;
          fresh = table-fresh q t u;
        }

        phy-fits : (q : ℕ) → Fits d x (given done) (phy_at d e q)
        phy-fits q =
            let φ = phy_at d e q in
            ⊎_elim
            (λ t. ⊎_elim direct (⊎_elim
            (λ u. ⊎_elim (held u) (listed u) (expander-old o.above (address_of φ) o.earlier (sym (sub-address o.above e q o.link t u))))
            (λ u. beyond t u (table-new q t u)))
            (attribute_cases (attribute_of φ) (plain-attribute φ (w.plain e q) t)))
            unattached (T? (attached φ))

        one-gives : given (done ++ (e ∷ [])) ≡ given done ++ own_words d e
        unfolding own_words any
        one-gives =
            given-more done e
            ∙ gives_own d x (given done) (expander_at d e).phys [] (given done)
            (λ φ h. let g = get_d_in (expander_at d e).phys (Vacant 0) φ h in subst (Fits d x (given done)) g.2 (phy-fits g.0))
            (record { old = λ s h. h; new = λ s n. (λ t. absurd (n.fresh (of-is_in s (given done) t)), λ t. absurd t) })

    -- one expander after the other
    all_give : (es done : List ℕ) → Closed done → Ordered done es → Distinct es → ((e : ℕ) → In e es → ¬ (In e done))
        → given (done ++ es) ≡ given done ++ flat_map (own_words d) es
    unfolding flat_map
    all_give [] done c o di out = ap given (append-nil done) ∙ sym (append-nil (given done))
    all_give (e ∷ es) done c o di out =
        ap given (sym (append_assoc done (e ∷ []) es))
        ∙ all_give es (done ++ (e ∷ [])) (closed_more done e c o.0) o.1 di.1
        (λ m h i. ⊎_elim (out m (inr h)) (⊎_elim (λ q. di.0 (in_cast es (sym q) h)) (λ z. z)) (in_append done (e ∷ []) m i))
        ∙ ap (λ l. l ++ flat_map (own_words d) es) (one-gives done c e o.0 (out e (inl refl)))
        ∙ append_assoc (given done) (own_words d e) (flat_map (own_words d) es)

-- the law, whether the phy leads down or not
pub levels-empty : (d : Domain) (x p : ℕ) → ¬ (T (down d (phy_at d x p))) → levels d x p ≡ []
unfolding levels
levels-empty d x p k = ap (levels_from (length d) d (x ∷ [])) (downstream-none d (phy_at d x p) (is_false (down d (phy_at d x p)) k)) ∙ levels-none (length d) d (x ∷ [])

law-down : (d : Domain) → Wired d → Linked d → (x p : ℕ) → T (down d (phy_at d x p)) → level_list d x p ≡ own_words_of_levels d x p
unfolding level_list own_words_of_levels levels give_all flat_map
law-down d w r x p t =
    all_give d w r x start (levels d x p) [] (λ m h. absurd h)
    (subst (λ v. Ordered d w r x start [] (levels_from (length d) d (x ∷ []) v)) (sym (downstream-one d φ (is_true (down d φ) t)))
    (ordered-levels d w r x start (length d) [] (x ∷ []) (n ∷ []) (λ e. ⊎_elim (λ q. subst (Follows d w r x start []) (sym q) first) (λ z. absurd z))))
    (levels-few d w r x p n (far-below d w x p l.expander) (far-is d w x p l.expander) l.routed l.single).0.1 (λ e h k. k)
  where
    φ : Phy
    φ = phy_at d x p

    n : ℕ
    n = number_of d (address_of φ)

    l : Leads d x p
    l = down-leads d w r x p t

    start : x < length d
    start = (in_range_lem d x p (expander-attached φ l.expander)).0

    a : Table d x n
    a = record { phy = p; to = far-is d w x p l.expander; routed = l.routed; end = far-below d w x p l.expander; single = l.single }

    first : Follows d w r x start [] n
    first = record { above = x; earlier = inl refl; link = a; from = ([], tt, refl) }

pub law : (d : Domain) → Wired d → Linked d → (x p : ℕ) → level_list d x p ≡ own_words_of_levels d x p
unfolding level_list own_words_of_levels flat_map give_all
law d w r x p = ⊎_elim (law-down d w r x p) (λ k. rw (levels-empty d x p k) refl) (T? (down d (phy_at d x p)))
