-- Every entry earns its index (document 02, paper 11): an address struck from the tables of all phys to one neighbour is not reached from there.
use Prim.Native.Nat.{ℕ, zero, suc, ◌+◌, ◌≤◌, ◌<◌}
use mathlib.Core.Path.{◌≡◌, refl, sym, ap, subst, ◌∙◌}
use mathlib.Core.Logic.{◌⊎◌, inl, inr, ◌≢◌, ⊎_elim}
use mathlib.Core.Bool.{Bool, true, false, cond, ◌&&◌}
use mathlib.Core.List.{List, [], ◌∷◌, ◌++◌, map, append-nil}
use native.Mathlib.Omega.{arith}
use lib.ListN.{length, get_or, take, drop, length-map, length-drop, get_or-append}
use lib.Seq.{get_or-append-add, get_or-drop, get_or-take, length-take-le}
use lib.Dec.{T, eqb}
use borrow.Author.Tests.{eqb-true}
use Rattle.tables.specs.WiringDefinitions.{bits_of, packed_in, good, Result, In, Distinct, Below, Place, place, places, Setting, Domain, expander_at, phy_at, address_of, is_table, to_end, to_expander, number_of, Steps, neighbours, NoTableToTable, Home}
use Rattle.tables.specs.filling.Tables.{address_at, level_list, table, tables, size, sizes, needed, offset_in, offset, stretch}
use Rattle.tables.specs.filling.Entries.{Entries, Room, room_of, Enough, counted_by, counted}
use Rattle.tables.specs.JudgingCall.{judged, table_call, TablesDone}
use Rattle.tables.specs.TableCauses.{Routable}
use Rattle.tables.proofs.WiringLemmas.{tests, is_true, eq→eqb, in_cast, last_in, take_in, Bits, length-bits_of, length-packed_in, bit-packed, bits-bits_of, same_rest, ChainTail, Wired, wired-file, adj_symmetric, end-attached, expander-attached, far-below, far-is, to-adj}
use Rattle.tables.proofs.levels.LevelsBeyond.{Sub, levels-down, link-both}
use Rattle.tables.proofs.lists.LevelListMembers.{in_list, held-phy, list-beyond}
use Rattle.tables.proofs.filling.TableLengths.{in_table}
use Rattle.tables.proofs.filling.CountedWords.{counted-length, counted-at}
use Rattle.tables.proofs.filling.TableStretches.{is_place, is-place, place_is, size-here, in_all, stretch-is, stretch-within, index-tables}
use Rattle.tables.proofs.AcceptedDomains.{judged-routable, judged-file, judged_wires, table-call}
use Rattle.tables.proofs.TableRefusals.{TablesOf, tables-of}
use Rattle.tracing.specs.Steps.{Step, onward, came_from, step}
use Rattle.tracing.specs.Trace.{Traced, Request, request, trace_call}
use Rattle.tracing.specs.Demand3.{Starts, Taken, TracedOver, Demand3}
use Rattle.tracing.specs.StruckEntries.{beside, struck, zeroed, with_set, disabled, Listed, NeverArrives, EarnsIndex}
use Rattle.tracing.specs.declared.Outcome.{Outcome}
use Rattle.tracing.specs.declared.Outcome.TheVariants.{Arrived}
use Rattle.tracing.specs.declared.End.{End}
use Rattle.tracing.proofs.StepReasons.{Chosen, at_once, listed, upward, Stepped, is_here, is_end, is_bad, is_lost, is_move, stepped}
use Rattle.tracing.proofs.Arrival.{home_once}
use Rattle.tracing.proofs.Demand3.{demand3-file, demand3-clear, ends_home}

-- a word that counts where it could be 0
was-kept : (m v s : ℕ) → s ≢ 0 → cond (eqb m 0) v 0 ≡ s → (m ≡ 0) × (v ≡ s)
was-kept m v s z e = go (eqb m 0) refl e
  where
    go : (b : Bool) → eqb m 0 ≡ b → cond b v 0 ≡ s → (m ≡ 0) × (v ≡ s)
    go true q f = (eqb-true m 0 q, f)
    go false q f = absurd (z (sym f))

map_at : (f : ℕ → ℕ) (l : List ℕ) (k : ℕ) → k < length l → get_or (map f l) k 0 ≡ f (get_or l k 0)
map_at f [] k h = absurd (omega arith)
map_at f (a ∷ l) zero h = refl
map_at f (a ∷ l) (suc k) h = map_at f l k (omega arith)

set_at : (marks bits : List ℕ) (k : ℕ) → k < length bits → get_or (with_set marks bits) k 0 ≡ cond (eqb (get_or marks k 0) 0) (get_or bits k 0) 1
unfolding with_set
set_at marks [] k h = absurd (omega arith)
set_at [] (b ∷ bits) k h = refl
set_at (m ∷ marks) (b ∷ bits) zero h = refl
set_at (m ∷ marks) (b ∷ bits) (suc k) h = set_at marks bits k (omega arith)

set-bits : (marks bits : List ℕ) → Bits bits → Bits (with_set marks bits)
unfolding with_set
set-bits marks [] h = tt
set-bits [] (b ∷ bits) h = h
set-bits (m ∷ marks) (b ∷ bits) h = (go (eqb m 0), set-bits marks bits h.1)
  where
    go : (t : Bool) → cond t b 1 < 2
    go true = h.0
    go false = omega arith

module _ (d : Domain) (x p s : ℕ) where
  -- what stands for a word of the table at a place
  abbrev mark : Place → ℕ → ℕ
  mark q w = cond (beside d x p q && eqb w s) 1 0

  -- index k of the table of a phy, among the tables at some places
  module _ (a : ℕ) (t : T (is_table (phy_at d x a))) (k : ℕ) (h : k < (expander_at d x).route_indexes) where
    struck_in : (qs : List Place) (words : List ℕ) → In (place x a) qs → sizes d qs ≤ length words
        → get_or (struck d x p s qs words) (offset_in d x a qs + k) 0 ≡ mark (place x a) (get_or words (offset_in d x a qs + k) 0)
    unfolding struck offset_in sizes
    struck_in [] words o n = absurd o
    struck_in (q ∷ qs) words o n = go (is_place x a q) refl o (λ i. struck_in qs (drop (size d q) words) i (omega (arith, length-drop (size d q) words)))
      where
        front : List ℕ
        front = map (mark q) (take (size d q) words)

        long : length (take (size d q) words) ≡ size d q
        long = length-take-le (size d q) words (omega arith)

        size-front : length front ≡ size d q
        size-front = length-map (take (size d q) words) (mark q) ∙ long

        rest : List ℕ
        rest = struck d x p s qs (drop (size d q) words)

        here : T (is_place x a q) → get_or (front ++ rest) k 0 ≡ mark (place x a) (get_or words k 0)
        here b =
            let e = is-place x a q b in
            let n = size-here d x a t q e in
            get_or-append front rest 0 k (omega (arith, size-front)) ∙ map_at (mark q) (take (size d q) words) k (omega (arith, long))
            ∙ ap (mark q) (get_or-take (size d q) words k 0 (omega arith)) ∙ ap (λ v. mark v (get_or words k 0)) e

        go : (b : Bool) → is_place x a q ≡ b → In (place x a) (q ∷ qs)
            → (In (place x a) qs → get_or rest (offset_in d x a qs + k) 0 ≡ mark (place x a) (get_or (drop (size d q) words) (offset_in d x a qs + k) 0))
            → get_or (front ++ rest) (cond b 0 (size d q + offset_in d x a qs) + k) 0
            ≡ mark (place x a) (get_or words (cond b 0 (size d q + offset_in d x a qs) + k) 0)
        go true e i r = let z : 0 + k ≡ k = omega arith in rw z (here (search tests))
        go false e (inl i) r = absurd (subst T e (place_is x a q i))
        go false e (inr i) r =
            let m : size d q + offset_in d x a qs + k ≡ length front + (offset_in d x a qs + k) = omega (arith, size-front) in
            let l : size d q + (offset_in d x a qs + k) ≡ size d q + offset_in d x a qs + k = omega arith in
            ap (λ v. get_or (front ++ rest) v 0) m ∙ get_or-append-add front rest (offset_in d x a qs + k) 0 ∙ r i
            ∙ ap (mark (place x a)) (get_or-drop (size d q) words (offset_in d x a qs + k) 0 ∙ ap (λ v. get_or words v 0) l)

    struck-at : (words : List ℕ) → needed d ≤ length words
        → get_or (struck d x p s (places d) words) (offset d x a + k) 0 ≡ mark (place x a) (get_or words (offset d x a + k) 0)
    struck-at words n = struck_in (places d) words (in_all d x a t) n

  -- a word beside phy p that is s is struck
  gone : (a : ℕ) → T (beside d x p (place x a)) → (m w : ℕ) → m ≡ mark (place x a) w → m ≡ 0 → w ≢ s
  gone a b m w e z f =
      let g : mark (place x a) w ≡ 1 = rw (is_true (beside d x p (place x a)) b, is_true (eqb w s) (eq→eqb w s f)) refl in
      let y : ◌≡◌ {A = ℕ} 0 1 = sym z ∙ e ∙ g in
      omega arith

-- words in which no table phy of x to the neighbour of phy p has s
abbrev Cleared : Domain → ℕ → ℕ → ℕ → List ℕ → Type 0
Cleared d x p s words =
    (a : ℕ) → T (to_expander (phy_at d x a)) → T (is_table (phy_at d x a)) → address_of (phy_at d x a) ≡ address_of (phy_at d x p) → In s (stretch d words x a) → ⊥

module _ (d : Domain) (x p s : ℕ) (z : s ≢ 0) (t : Entries) (enough : Enough (needed d) (room_of t)) where
  abbrev marks : List ℕ
  marks = struck d x p s (places d) t.words

  -- words are cleared where each word that is s in a table beside phy p has no mark
  cleared : (words : List ℕ) → ((k : ℕ) → k < needed d → get_or words k 0 ≡ s → (get_or marks k 0 ≡ 0) × (get_or t.words k 0 ≡ s)) → Cleared d x p s words
  unfolding stretch
  cleared words f a u v e o =
      let g = take_in (expander_at d x).route_indexes (drop (offset d x a) words) 0 s o in
      let k = offset d x a + g.0 in
      let y = f k (omega (arith, stretch-within d x a v, g.1)) (sym (get_or-drop (offset d x a) words g.0 0) ∙ g.3) in
      let b : T (beside d x p (place x a)) = let same = eq→eqb x x refl in let there = eq→eqb (address_of (phy_at d x a)) (address_of (phy_at d x p)) e in search tests in
      gone d x p s a b (get_or marks k 0) (get_or t.words k 0) (struck-at d x p s a v g.0 g.1 t.words enough.words) y.0 y.1

  zeroed-cleared : Cleared d x p s (counted (zeroed d x p s t))
  zeroed-cleared = cleared (counted (zeroed d x p s t)) (λ k h e.
      let n = counted-length marks t.words in
      let w = enough.words in
      let a = was-kept (get_or (bits_of t.bits) k 0) (get_or (counted_by marks t.words) k 0) s z (sym (counted-at (bits_of t.bits) (counted_by marks t.words) k (omega arith)) ∙ e) in
      was-kept (get_or marks k 0) (get_or t.words k 0) s z (sym (counted-at marks t.words k (omega arith)) ∙ a.1))

  abbrev bits_set : List ℕ
  bits_set = with_set marks (bits_of t.bits)

  bit_is : (k : ℕ) → k < needed d → get_or (bits_of (packed_in (length t.bits) bits_set)) k 0 ≡ cond (eqb (get_or marks k 0) 0) (get_or (bits_of t.bits) k 0) 1
  bit_is k h =
      let n = length-bits_of t.bits in
      let b = enough.bits in
      ap (λ l. get_or (bits_of l) k 0) (sym (append-nil (packed_in (length t.bits) bits_set)))
      ∙ bit-packed (length t.bits) bits_set [] k (set-bits marks (bits_of t.bits) (bits-bits_of t.bits)) (omega arith)
      ∙ set_at marks (bits_of t.bits) k (omega arith)

  clear-mark : (m b : ℕ) → cond (eqb m 0) b 1 ≡ 0 → m ≡ 0
  clear-mark m b e = go (eqb m 0) refl e
    where
      go : (t : Bool) → eqb m 0 ≡ t → cond t b 1 ≡ 0 → m ≡ 0
      go true q f = eqb-true m 0 q
      go false q f = absurd (omega arith)

  disabled-cleared : Cleared d x p s (counted (disabled d x p s t))
  disabled-cleared = cleared (counted (disabled d x p s t)) (λ k h e.
      let w = enough.words in
      let new = bits_of (packed_in (length t.bits) bits_set) in
      let a = was-kept (get_or new k 0) (get_or t.words k 0) s z (sym (counted-at new t.words k (omega arith)) ∙ e) in
      (clear-mark (get_or marks k 0) (get_or (bits_of t.bits) k 0) (sym (bit_is k h) ∙ a.0), a.1))

-- a request that moves on moves to a neighbour
module _ (d : Domain) (w : Wired d) (words : List ℕ) (s : ℕ) where
  move_adj : (i arrival j q : ℕ) → step d words i arrival s ≡ onward j q → T (neighbours d i j)
  move_adj i arrival j q e = go (step d words i arrival s) (stepped d words i s arrival) e
    where
      go : (st : Step) → Stepped d words i s (came_from d i arrival) st → st ≡ onward j q → T (neighbours d i j)
      go st (is_here f) o = let y : ◌≡◌ {A = ℕ} 0 1 = cc in absurd (omega arith)
      go st (is_end a t f n) o = let y : ◌≡◌ {A = ℕ} 0 1 = cc in absurd (omega arith)
      go st (is_bad a t f g) o = let y : ◌≡◌ {A = ℕ} 0 1 = cc in absurd (omega arith)
      go st (is_lost n a u g) o = let y : ◌≡◌ {A = ℕ} 0 1 = cc in absurd (omega arith)
      go st (is_move a n t f c) o =
          let k : number_of d (address_of (phy_at d i a)) ≡ j = cc in
          subst (λ v. T (neighbours d i v)) k (to-adj d w i a (number_of d (address_of (phy_at d i a))) (far-is d w i a t))

  taken-steps : (i arrival : ℕ) (l : List ℕ) (o : Outcome) (p : ℕ) → Taken d words s i arrival l o p → Steps (neighbours d) i l
  taken-steps i arrival [] o p t = tt
  taken-steps i arrival (j ∷ l) o p t = (move_adj i arrival j t.0 t.1, taken-steps j t.0 l o p t.2)

module _ (d : Domain) (w : Wired d) {chain : ℕ} (r : Routable chain d) (x p s : ℕ) (z : s ≢ 0) (u : T (is_table (phy_at d x p))) (h : In s (level_list d x p)) where
  -- a phy whose list has an address leads to an expander
  leads : T (to_expander (phy_at d x p))
  leads = let g = in_list d x s p z h in let t = levels-down d x p g.0 g.2 in search tests

  abbrev n : ℕ
  n = number_of d (address_of (phy_at d x p))

  far : n < length d
  far = far-below d w x p leads

  beyond : (¬ (T (address_at d x s))) × ((m : ℕ) × (l : List ℕ) × ChainTail d x m (n ∷ l) × Home d s m)
  beyond = list-beyond d w r.linked x p n s far (far-is d w x p leads) u z h

  end_below : (m : ℕ) (l : List ℕ) → ChainTail d x m (n ∷ l) → m < length d
  end_below m l c = c.below m (in_cast (x ∷ n ∷ l) (sym c.ends) (inr (last_in n l)))

  -- over cleared words the first step does not go to that neighbour
  no_move : (words : List ℕ) → Cleared d x p s words → (arrival q : ℕ) → step d words x arrival s ≢ onward n q
  no_move words less arrival q e = go (step d words x arrival s) (stepped d words x s arrival) e
    where
      why : (a : ℕ) → T (to_expander (phy_at d x a)) → number_of d (address_of (phy_at d x a)) ≡ n → Chosen d words x s a → ⊥
      why a t k (at_once f) = beyond.0 (held-phy d x s a (expander-attached (phy_at d x a) t) f)
      why a t k (listed b v f) =
          less a t v ((far-is d w x a t).address ∙ ap (λ i. (expander_at d i).address) k ∙ sym (far-is d w x p leads).address) f
      why a t k (upward b c v) =
          link-both d w x n (subst (Sub d x) k (record { phy = a; to = far-is d w x a t; routed = v; end = far-below d w x a t }))
          (record { phy = p; to = far-is d w x p leads; routed = u; end = far })

      go : (st : Step) → Stepped d words x s (came_from d x arrival) st → st ≡ onward n q → ⊥
      go st (is_here f) o = let y : ◌≡◌ {A = ℕ} 0 1 = cc in omega arith
      go st (is_end a t f k) o = let y : ◌≡◌ {A = ℕ} 0 1 = cc in omega arith
      go st (is_bad a t f g) o = let y : ◌≡◌ {A = ℕ} 0 1 = cc in omega arith
      go st (is_lost k a v g) o = let y : ◌≡◌ {A = ℕ} 0 1 = cc in omega arith
      go st (is_move a k t f c) o = let e : number_of d (address_of (phy_at d x a)) ≡ n = cc in why a t e c

  module _ (table_called : Room → Result Domain) (trace_called : Entries → ℕ → Request → Result Traced) (c : Demand3 d table_called trace_called chain) where
    -- but a request that arrives passes the one chain, which goes to that neighbour first
    never : (t : Entries) (arrival : ℕ) (e : End) (lent after : List ℕ) → TracedOver d table_called trace_called t (request x arrival s) e lent after
        → Cleared d x p s (counted t) → e.outcome ≢ Arrived
    never t arrival e lent after o less f =
        let q = request x arrival s in
        let b = c.borne t q e lent after o f in
        let v = c.steps t q e lent after o in
        let k = (c.once t q e lent after o).1 in
        let m = beyond.1.0 in
        let same : e.last.0 ≡ m = home_once d w s e.last.0 m b.0 (end_below m beyond.1.1 beyond.1.2) (ends_home d s e.last.0 e.phy.0 b.1) beyond.1.3 in
        let way : ChainTail d x m v.rest = record {
          diff = subst Distinct v.from_start k.0;
          below = subst (Below (length d)) v.from_start k.1;
          steps = taken-steps d w (counted t) s x arrival v.rest e.outcome e.phy.0 v.taken;
          ends = v.ends ∙ same;
        } in
        let rest = same_rest (length d) (neighbours d) (adj_symmetric d) r.linked.no_loop x m v.rest (n ∷ beyond.1.1) way beyond.1.2 in
        let taken = subst (λ l. Taken d (counted t) s x arrival l e.outcome e.phy.0) rest v.taken in
        no_move (counted t) less arrival taken.0 taken.1

-- of the calls on an accepted file
module _ (setting : Setting) (file : List ℕ) (d : Domain) (j : judged setting file ≡ good d) where
  w : Wired d
  w = (judged_wires setting file d j).0

  r : Routable setting.chain d
  r = (judged_wires setting file d j).1

  demands : Demand3 d (table_call setting file) (trace_call setting file) setting.chain
  demands = let a = (judged-file setting file d).0 j in demand3-file setting file d ((wired-file setting file d).1 (a.0, (judged-routable setting.chain d d a.1).1))

  module _ (p : ℕ) (q : Request) (t : Entries) (o : Listed d (table_call setting file) (trace_call setting file) p q t) where
    tables_are : TablesOf setting.chain d o.before t
    tables_are =
        tables-of setting.chain d o.table_count o.word_count o.before t
        (subst (λ y. TablesDone y (good (record { table_count = o.table_count; word_count = o.word_count })) o.before t) (table-call setting file d ((judged-file setting file d).0 j).0 (room_of o.before)) o.given)

    enough : Enough (needed d) (room_of t)
    enough = let e = (index-tables d o.before r.fits tables_are.enough).size in
        subst (Enough (needed d)) (sym (ap room_of tables_are.left ∙ e)) tables_are.enough

    in_list-of : In q.address (level_list d q.start p)
    in_list-of =
        let i = q.start in
        let s : stretch d t.words i p ≡ table d i p = ap (λ y. stretch d y.words i p) tables_are.left ∙ stretch-is d i p o.routed (drop (length (tables d)) o.before.words) in
        (in_table d i p (r.fits i p o.routed) q.address o.nonzero).0 (subst (In q.address) s o.listed)

    never-over : (l : Entries) → Cleared d q.start p q.address (counted l) → NeverArrives d (table_call setting file) (trace_call setting file) l q
    never-over l less e lent after v =
        never d w r q.start p q.address o.nonzero o.routed in_list-of (table_call setting file) (trace_call setting file) demands l q.arrival e lent after v less

    arrives-before : NoTableToTable d → (q.arrival ≡ 255) ⊎ T (to_end (phy_at d q.start q.arrival))
        → (e : End) (lent after : List ℕ) → TracedOver d (table_call setting file) (trace_call setting file) t q e lent after → e.outcome ≡ Arrived
    arrives-before clear by e lent after v =
        let i = q.start in
        let b = beyond d w r i p q.address o.nonzero o.routed in_list-of in
        let starts : Starts d q = ⊎_elim inl (λ k. inr (k, λ f. b.0 (held-phy d i q.address q.arrival (end-attached (phy_at d i q.arrival) k) f))) by in
        let m = b.1.0 in
        ((demand3-clear d (table_call setting file) (trace_call setting file) setting.chain demands clear q e lent after
        (record { before = o.before; filled = t; table_count = o.table_count; word_count = o.word_count; given = o.given; over = v })
        ).arrives starts).1 (m, end_below d w r i p q.address o.nonzero o.routed in_list-of m b.1.1 b.1.2, b.1.3)

  -- every entry earns its index
  pub entries_earn : EarnsIndex d (table_call setting file) (trace_call setting file)
  entries_earn = record {
    arrives = λ clear p q t o. arrives-before p q t o clear;
    without_words = λ p q t o. never-over p q t o (zeroed d q.start p q.address t) (zeroed-cleared d q.start p q.address o.nonzero t (enough p q t o));
    without_bits = λ p q t o. never-over p q t o (disabled d q.start p q.address t) (disabled-cleared d q.start p q.address o.nonzero t (enough p q t o));
    room = λ p q t. (
      ap (λ (k : ℕ). record { words = k; bits = length t.bits }) (counted-length (struck d q.start p q.address (places d) t.words) t.words),
      ap (λ (k : ℕ). record { words = length t.words; bits = k }) (length-packed_in (length t.bits) (with_set (struck d q.start p q.address (places d) t.words) (bits_of t.bits))),
    );
  }
