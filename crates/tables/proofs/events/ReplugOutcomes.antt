-- A drive plugged or pulled over rows: what was prepared for the domain as lent serves the edited one, and the outcomes of the call.
use Prim.Native.Nat.{ℕ, zero, suc, ◌+◌, ◌*◌, ◌/◌, ◌%◌, ◌≤◌, ◌<◌}
use mathlib.Core.Path.{◌≡◌, refl, sym, ap, ap₂, subst, ◌∙◌}
use mathlib.Core.Bool.{Bool, true, false, cond, not}
use mathlib.Core.Logic.{by_cases}
use native.Mathlib.Decide.{ℕ_discrete}
use mathlib.Core.List.{List, [], ◌∷◌, ◌++◌, flat_map}
use native.Mathlib.Omega.{arith}
use lib.ListN.{length, get_or, take, drop, length-append, get_or-eq_default}
use lib.Dec.{T, eqb, leb, ltb, leb→le}
use borrow.Author.Tests.{ne_eqb, le-leb, lt-leb}
use Rattle.wiring.specs.FrameDefinitions.{bytes_for, Refusal, Result, refused, good, unless, then, refusal}
use Rattle.files.specs.declared.Phy.{Phy}
use Rattle.files.specs.declared.Phy.TheVariants.{Vacant, Present}
use Rattle.files.specs.Domain.{Domain, expander_at, phy_at, address_of, to_expander, number_of}
use Rattle.wiring.specs.phys.Checks.{check_answer, checked_in}
use Rattle.files.specs.Rows.{phy_in, phy_in_row, domain_in, row_words}
use Rattle.wiring.specs.index.AddressIndex.{slot_of}
use Rattle.files.specs.PhyReplaced.{set_phy, with_words, phy_from_words, PhySet}
use Rattle.wiring.specs.phys.PhyCauses.{clashing, first_in, first_of}
use Rattle.files.proofs.CallResults.{unless-good, then-good}
use Rattle.files.proofs.ListMembers.{is_true}
use Rattle.files.proofs.RowsAsDomain.{phy-held}
use Rattle.tables.specs.lists.OwnLists.{own_words}
use Rattle.tables.specs.filling.Tables.{needed}
use Rattle.tables.specs.JudgingCall.{tables_for}
use Rattle.tables.specs.filling.Entries.{Entries, Room, room_of, Enough}
use Rattle.tables.specs.lists.GrowingLists.{places_at}
use Rattle.tables.specs.levels.Levels.{each_once, downstream_of_phys}
use Rattle.tables.specs.lists.PreparedLists.{OwnListsHeld, DownstreamListsHeld, downstream_once, queue, order_of, own_words_of_order, own_overlong, AttachedExpandersKnown, Fillable, OrderRoom, own_list_words, downstream_bytes}
use Rattle.tables.proofs.CallOutcomes.{fillable-by, own_checked}
use Rattle.wiring.proofs.index.SlotDevices.{short_in}
use Rattle.tables.specs.declared.Moved.{Moved}
use Rattle.tables.specs.events.TouchedTables.{moved_by}
use Rattle.tables.specs.events.ReplugCall.{pluggable, replug, replugged, claimed_with, retested, fitted, admitted, replug_call, rows_after, own_touched, own_refilled, ReplugDone, RetestReady, ReplugRun, OwnListsHeldBut}
use Rattle.tables.proofs.events.LevelsAfterEvent.{phy-there, size_same, number_same, route_indexes_same, by-phy, attribute-same, downstream-same, first_level_same, own_other, needed-same, unattached, replug-unattached}

-- a phy held in two words is held as it is once a drive is plugged into it or pulled from it
held_in : (a b w : ℕ) → T (pluggable (phy_in b w)) → phy_from_words (replug a (phy_in b w)) ≡ replug a (phy_in b w)
held_in a b w t = go (eqb (w % 2) 0) t
  where
    fields : (n : ℕ) → n ≤ 1 → (k : ℕ) → k < 4 → phy_in a (1 + 2 * n + 8 * k + 32 * 0) ≡ Present (record { device_type = n; attribute = k; address = a; attached_phy = record { 0 = 0 } })
    fields n h k l =
        let v : ℕ = 1 + 2 * n + 8 * k + 32 * 0 in
        let x : v / 2 % 4 ≡ n = omega arith in
        let y : v / 8 % 4 ≡ k = omega arith in
        let z : v / 32 % 256 ≡ 0 = omega arith in
        simp (ne_eqb (v % 2) 0 (omega arith), x, y, z)

    type : (c : Bool) → cond c 0 1 ≤ 1
    type true = omega arith
    type false = omega arith

    held : Bool → Phy
    held c = cond c (Vacant (w / 2 % 256)) (Present (record { device_type = w / 2 % 4; attribute = w / 8 % 4; address = b; attached_phy = record { 0 = w / 32 % 256 } }))

    go : (c : Bool) → T (pluggable (held c)) → phy_from_words (replug a (held c)) ≡ replug a (held c)
    go true s = absurd s
    go false s = fields (cond (eqb a 0) 0 1) (type (eqb a 0)) (w / 8 % 4) (omega arith)

-- ws are rows, and expander e's phy p takes a drive
module _ (ws : List ℕ) (e p a : ℕ) (f : T (pluggable (phy_at (domain_in ws) e p))) where
  abbrev d : Domain
  d = domain_in ws

  abbrev d' : Domain
  d' = replugged d e p a

  held-replug : phy_from_words (replug a (phy_at d e p)) ≡ replug a (phy_at d e p)
  unfolding phy_in_row
  held-replug =
      let h = phy-held ws e p (phy-there d e p a f) in
      subst (λ φ. phy_from_words (replug a φ) ≡ replug a φ) h (held_in a (get_or ws (row_words * e + 2 + 2 * p) 0) (get_or ws (row_words * e + 2 + 2 * p + 1) 0) (subst (λ φ. T (pluggable φ)) (sym h) f))

  -- the rows after the phy is set hold the edited domain
  pub rows-replugged : (ws' : List ℕ) → PhySet ws ws' e p (replug a (phy_at d e p)) → domain_in ws' ≡ d'
  rows-replugged ws' s = s.domain ∙ ap (set_phy d e p) held-replug

  -- the rows after the phy was found, replugged and set hold the edited domain
  pub rows_are : (ws' : List ℕ) (f' g : Phy) → f' ≡ phy_at d e p → g ≡ replug a f' → PhySet ws ws' e p g → domain_in ws' ≡ d'
  rows_are ws' f' g u v s = rows-replugged ws' (subst (PhySet ws ws' e p) (v ∙ ap (replug a) u) s)

  -- a phy attached to an expander is as it was
  same-far : (i q : ℕ) → T (to_expander (phy_at d' i q)) → (T (to_expander (phy_at d i q))) × (address_of (phy_at d' i q) ≡ address_of (phy_at d i q))
  same-far i q t =
      let there : to_expander (phy_at d' i q) ≡ to_expander (phy_at d i q) = by-phy d e p a f to_expander (replug-unattached a (phy_at d e p) f ∙ sym (unattached (phy_at d e p) f)) i q in
      let new : far (replug a (phy_at d e p)) ≡ 0 = ap (λ b. cond b (address_of (replug a (phy_at d e p))) 0) (replug-unattached a (phy_at d e p) f) in
      let old : far (phy_at d e p) ≡ 0 = ap (λ b. cond b (address_of (phy_at d e p)) 0) (unattached (phy_at d e p) f) in
      let u : T (to_expander (phy_at d i q)) = subst T there t in
      (u, attached (phy_at d' i q) t ∙ by-phy d e p a f far (new ∙ sym old) i q ∙ sym (attached (phy_at d i q) u))
    where
      far : Phy → ℕ
      far φ = cond (to_expander φ) (address_of φ) 0

      attached : (φ : Phy) → T (to_expander φ) → address_of φ ≡ far φ
      attached φ k = rw (is_true (to_expander φ) k)

  -- which expanders the phys are attached to is known of it, too
  pub fars-replugged : (first : List ℕ) → AttachedExpandersKnown d first → AttachedExpandersKnown d' first
  fars-replugged first k i q t =
      let v : ℕ = get_or first (slot_of i q) 0 in
      let s = same-far i q t in
      ap (λ n. cond (ltb v 64) v n) (size_same d e p a f) ∙ k i q s.0 ∙ ap (number_of d) (sym s.1) ∙ sym (number_same d e p a f (address_of (phy_at d' i q)))

  -- the own lists of all expanders but e are as they were
  pub owns-replugged : (lists : List ℕ) → OwnListsHeld d lists → OwnListsHeldBut d' e lists
  owns-replugged lists h =
      record {
        enough = subst (λ n. own_list_words * n ≤ length lists) (sym (size_same d e p a f)) h.enough;
        cell = λ i l o. subst (λ x. take (suc (length x)) (drop (own_list_words * i) lists) ≡ length x ∷ x) (sym (own_other d e p a f i o)) (h.cell i (subst (λ n. i < n) (size_same d e p a f) l));
      }

-- the expanders downstream of each, and the order of each phy, are as they were
module _ (d : Domain) (e p a : ℕ) (f : T (pluggable (phy_at d e p))) where
  abbrev edited : Domain
  edited = replugged d e p a

  once-same : (i : ℕ) → downstream_once edited i ≡ downstream_once d i
  once-same i = ap (each_once []) (downstream-same d e p a f i)

  queue-same : (turns : ℕ) (waiting : List ℕ) → queue turns edited waiting ≡ queue turns d waiting
  unfolding queue
  queue-same zero waiting = refl
  queue-same (suc turns) [] = refl
  queue-same (suc turns) (i ∷ waiting) = ap (λ l. i ∷ l) (ap (λ l. queue turns edited (waiting ++ l)) (once-same i) ∙ queue-same turns (waiting ++ downstream_once d i))

  order_same : (i q : ℕ) → order_of edited (phy_at edited i q) ≡ order_of d (phy_at d i q)
  unfolding order_of
  order_same i q = ap₂ (λ n l. queue n edited l) (size_same d e p a f) (first_level_same d e p a f i q) ∙ queue-same (length d) (downstream_of_phys d (phy_at d i q ∷ []))

  -- lists are no longer than they were where e's own list is not
  shorter : length (own_words edited e) ≤ length (own_words d e) → (is : List ℕ) → length (flat_map (own_words edited) is) ≤ length (flat_map (own_words d) is)
  unfolding flat_map
  shorter h [] = omega arith
  shorter h (i ∷ is) =
      omega (
        arith,
        shorter h is,
        length-append (own_words edited i) (flat_map (own_words edited) is),
        length-append (own_words d i) (flat_map (own_words d) is),
        by_cases (ℕ_discrete i e) (λ k. subst (λ j. length (own_words edited j) ≤ length (own_words d j)) (sym k) h) (λ k. subst (λ l. length l ≤ length (own_words d i)) (sym (own_other d e p a f i k)) (omega arith)),
      )

  -- so the tables can be filled as before
  pub fills-replugged : Fillable d → length (own_words edited e) ≤ length (own_words d e) → Fillable edited
  unfolding own_words_of_order
  fills-replugged h k i q t =
      let old = h i q (subst T (attribute-same d e p a f 2 i q) t) in
      let l = shorter k (order_of d (phy_at d i q)) in
      omega (arith, old, subst (λ o. length (flat_map (own_words edited) o) ≤ length (flat_map (own_words d) (order_of d (phy_at d i q)))) (sym (order_same i q)) l, route_indexes_same d e p a f i)

-- what is known of a domain that is the edited one
module _ (ws : List ℕ) (e p a : ℕ) (f : T (pluggable (phy_at (domain_in ws) e p))) (d₂ : Domain) (is : d₂ ≡ replugged (domain_in ws) e p a) where
  pub fars-then : (first : List ℕ) → AttachedExpandersKnown (domain_in ws) first → AttachedExpandersKnown d₂ first
  fars-then first k = subst (λ x. AttachedExpandersKnown x first) (sym is) (fars-replugged ws e p a f first k)

  pub owns-then : (lists : List ℕ) → OwnListsHeld (domain_in ws) lists → OwnListsHeldBut d₂ e lists
  owns-then lists h = subst (λ x. OwnListsHeldBut x e lists) (sym is) (owns-replugged ws e p a f lists h)

  pub size-then : length d₂ ≡ length (domain_in ws)
  size-then = ap length is ∙ size_same (domain_in ws) e p a f

  pub below_then : (bytes : List ℕ) → DownstreamListsHeld (domain_in ws) bytes → DownstreamListsHeld d₂ bytes
  below_then bytes h =
      subst (λ x. DownstreamListsHeld x bytes) (sym is)
      (record {
        enough = subst (λ n. downstream_bytes * n ≤ length bytes) (sym (size_same (domain_in ws) e p a f)) h.enough;
        cell = λ i l. subst (λ x. take (suc (length x)) (drop (downstream_bytes * i) bytes) ≡ length x ∷ x) (sym (once-same (domain_in ws) e p a f i)) (h.cell i (subst (λ n. i < n) (size_same (domain_in ws) e p a f) l));
      })

  -- it can be tested as the domain as lent can, once e's own list is written anew
  pub ready_then : (n : ℕ) → n ≡ length (own_words (domain_in ws) e) → (order : List ℕ)
      → OrderRoom (domain_in ws) order → Fillable (domain_in ws) → RetestReady d₂ e n order
  ready_then n was order room fills =
      record {
        room = record { enough = omega (arith, size-then, room.enough); few = room.few };
        fills = λ k. subst Fillable (sym is) (fills-replugged (domain_in ws) e p a f fills (omega (arith, was, subst (λ x. length (own_words x e) ≤ n) is k)));
      }

  pub enough-then : (room : Room) → Enough (needed (domain_in ws)) room → Enough (needed d₂) room
  enough-then room h = subst (λ n. Enough n room) (sym (ap needed is ∙ needed-same (domain_in ws) e p a f)) h

flip : (b c : Bool) → not b ≡ c → b ≡ not c
flip true c h = ap not h
flip false c h = ap not h

-- 20, 16 and 18, where so many words and bytes are lent
module _ (d : Domain) (e p words bits : ℕ) where
  abbrev admission : Result Domain
  admission = unless (pluggable (phy_at d e p)) (refusal 20 0 0) (tables_for (record { words = words; bits = bits }) d)

  pub admit_20 : (b : Bool) → b ≡ pluggable (phy_at d e p) → not b ≡ true → (r : Result Unit) → r ≡ refused (refusal 20 0 0) → check_answer d r ≡ admission
  admit_20 b f n r a = rw (a, sym f ∙ flip b _ n) refl

  pub admit_16 : (b : Bool) → b ≡ pluggable (phy_at d e p) → not b ≡ false → words < needed d → (r : Result Unit) → r ≡ refused (refusal 16 0 0) → check_answer d r ≡ admission
  admit_16 b f n h r a = rw (a, sym f ∙ flip b _ n, lt-leb (needed d) words h) refl

  pub admit_18 : (b : Bool) → b ≡ pluggable (phy_at d e p) → not b ≡ false → needed d ≤ words → bits < bytes_for (needed d) → (r : Result Unit) → r ≡ refused (refusal 18 0 0) → check_answer d r ≡ admission
  admit_18 b f n g h r a = rw (a, sym f ∙ flip b _ n, le-leb (needed d) words g, lt-leb (bytes_for (needed d)) bits h) refl

  pub admit-all : (b : Bool) → b ≡ pluggable (phy_at d e p) → not b ≡ false → needed d ≤ words → bytes_for (needed d) ≤ bits → good d ≡ admission
  admit-all b f n g h = rw (sym f ∙ flip b _ n, le-leb (needed d) words g, le-leb (bytes_for (needed d)) bits h) refl

-- past 14 of the edited domain, its tables can be filled
pub retested-fills : (e s : ℕ) (d x : Domain) → retested e s d ≡ good x → Fillable d
unfolding retested
retested-fills e s d x j =
    let a = then-good (first_of 8 (claimed_with s d) d) _ x j in
    let b = then-good (first_in 9 (clashing d) (places_at d e) d) _ x a.2 in
    fillable-by d x b.2

-- refused, and done
pub replug-refused : (o : Result Domain) (e : ℕ) (r : Refusal) (before : Entries) → o ≡ refused r → ReplugDone o e (refused r) before before
replug-refused o e r before q = rw q (record { left = refl; answers = refl })

pub replug-done : (o : Result Domain) (e : ℕ) (d : Domain) (answer : Result Moved) (before after : Entries) → o ≡ good d → after ≡ own_refilled d e before
    → answer ≡ good (moved_by d (own_touched d e) before after) → ReplugDone o e answer before after
replug-done o e d answer before after q l m = rw q (record { left = l; answers = m })

pub replug_as : (o x : Result Domain) (e : ℕ) (answer : Result Moved) (before after : Entries) → o ≡ x → ReplugDone x e answer before after → ReplugDone o e answer before after
replug_as o x e answer before after q h = rw q h

-- the outcomes past causes 7 to 12 and 23, as 14 and the tests after it come out
module _ (room : Room) (e p a : ℕ) (d : Domain) where
  abbrev admission-of : Result Domain
  admission-of = unless (pluggable (phy_at d e p)) (refusal 20 0 0) (tables_for room d)

  abbrev run : Result Domain
  run = then (fitted room e p d) (λ _. retested e a (replugged d e p a))

  pub unfitted : (r : Refusal) → first_of 14 (own_overlong d) d ≡ refused r → (fitted room e p d ≡ refused r) × (run ≡ refused r)
  unfitted r q = (rw q refl, rw q refl)

  pub unadmitted : (x : Domain) (r : Refusal) → first_of 14 (own_overlong d) d ≡ good x → admission-of ≡ refused r → (fitted room e p d ≡ refused r) × (run ≡ refused r)
  unadmitted x r q s = let k : fitted room e p d ≡ refused r = rw q s in (k, ap (λ y. then y (λ _. retested e a (replugged d e p a))) k)

  pub as_retested : (x y : Domain) → first_of 14 (own_overlong d) d ≡ good x → admission-of ≡ good y → (fitted room e p d ≡ good y) × (run ≡ retested e a (replugged d e p a))
  as_retested x y q s = let k : fitted room e p d ≡ good y = rw q s in (k, ap (λ z. then z (λ _. retested e a (replugged d e p a))) k)

  -- past 20, 16 and 18: a drive can be plugged or pulled, and there is room
  pub admitted_facts : (y : Domain) → admission-of ≡ good y → (T (pluggable (phy_at d e p))) × Enough (needed d) room
  admitted_facts y s =
      let f = unless-good (pluggable (phy_at d e p)) (refusal 20 0 0) (tables_for room d) y s in
      let g = unless-good (leb (needed d) room.words) (refusal 16 0 0) _ y f.1 in
      let h = unless-good (leb (bytes_for (needed d)) room.bits) (refusal 18 0 0) (good d) y g.1 in
      (f.0, record { words = leb→le (needed d) room.words g.0; bits = leb→le (bytes_for (needed d)) room.bits h.0 })

  -- the outcomes of the call, as causes 7 to 12 and 23 come out
  module _ (chain first low : ℕ) where
    pub unchecked : (r : Refusal) → checked_in chain first low d ≡ refused r → (admitted chain first low room e p d ≡ refused r) × (replug_call chain first low room e p a d ≡ refused r)
    unfolding replug_call
    unchecked r q = let j = own_checked chain first low d (refused r) q in (rw j refl, rw j refl)

    pub as_run : (x : Domain) → checked_in chain first low d ≡ good x → (admitted chain first low room e p d ≡ fitted room e p d) × (replug_call chain first low room e p a d ≡ run)
    unfolding replug_call
    as_run x q =
        let k : admitted chain first low room e p d ≡ fitted room e p d = ap (λ (y : Result Domain). then y (λ _. admission-of)) (own_checked chain first low d (good x) q) in
        (k, ap (λ y. then y (λ _. retested e a (replugged d e p a))) k)

-- the rows after a call that was not admitted, or was
pub rows_stay : (o : Result Domain) (r : Refusal) (ws : List ℕ) (e p : ℕ) (φ : Phy) → o ≡ refused r → ws ≡ rows_after o ws e p φ
rows_stay o r ws e p φ q = rw q refl

pub rows-set : (o : Result Domain) (d : Domain) (ws ws' : List ℕ) (e p : ℕ) (φ : Phy) → o ≡ good d → ws' ≡ with_words ws e p φ → ws' ≡ rows_after o ws e p φ
rows-set o d ws ws' e p φ q s = rw q s

pub rows_as : (o x : Result Domain) (ws ws' : List ℕ) (e p : ℕ) (φ : Phy) → o ≡ x → ws' ≡ rows_after x ws e p φ → ws' ≡ rows_after o ws e p φ
rows_as o x ws ws' e p φ q h = rw q h

-- what a refused call leaves, and one that goes on
module _ (ws : List ℕ) (e p a : ℕ) (before : Entries) where
  abbrev lent : Domain
  lent = domain_in ws

  pub run-refused : (r : Refusal) → (fitted (room_of before) e p lent ≡ refused r) × (run (room_of before) e p a lent ≡ refused r) → ReplugRun ws ws e p a (refused r) before before
  run-refused r q = record { rows = rows_stay _ r ws e p _ q.0; done = replug-refused _ e r before q.1 }

  pub run-done : (y : Domain) (ws' : List ℕ) (answer : Result Moved) (after : Entries)
      → (fitted (room_of before) e p lent ≡ good y) × (run (room_of before) e p a lent ≡ retested e a (replugged lent e p a)) → ws' ≡ with_words ws e p (replug a (phy_at lent e p))
      → ReplugDone (retested e a (replugged lent e p a)) e answer before after → ReplugRun ws ws' e p a answer before after
  run-done y ws' answer after q s t = record { rows = rows-set _ y ws ws' e p _ q.0 s; done = replug_as _ _ e answer before after q.1 t }

  vacant : (q : ℕ) → 128 ≤ q → phy_at lent e q ≡ Vacant 0
  vacant q h = get_or-eq_default (expander_at lent e).phys (Vacant 0) (omega (arith, short_in ws e))

  -- at phys from 128 on it is refused with one refusal
  past : (x : Result Domain) → first_of 14 (own_overlong lent) lent ≡ x → (r : Refusal) × ((q : ℕ) → 128 ≤ q → fitted (room_of before) e q lent ≡ refused r)
  past (refused r) j = (r, λ q h. rw j refl)
  past (good x) j = (refusal 20 0 0, λ q h. rw (j, vacant q h) refl)

  pub run_past : (ws' : List ℕ) (answer : Result Moved) (after : Entries) → 128 ≤ p → ReplugRun ws ws' e 128 a answer before after → ReplugRun ws ws' e p a answer before after
  run_past ws' answer after h k =
      let s = past (first_of 14 (own_overlong lent) lent) refl in
      let there : fitted (room_of before) e 128 lent ≡ refused s.0 = s.1 128 (omega arith) in
      let here : fitted (room_of before) e p lent ≡ refused s.0 = s.1 p h in
      record {
        rows = k.rows ∙ ap (λ y. rows_after y ws e 128 (replug a (phy_at lent e 128))) there ∙ sym (ap (λ y. rows_after y ws e p (replug a (phy_at lent e p))) here);
        done =
            replug_as _ _ e answer before after (ap (λ y. then y (λ _. retested e a (replugged lent e p a))) here)
            (replug_as _ _ e answer before after (sym (ap (λ y. then y (λ _. retested e a (replugged lent e 128 a))) there)) k.done);
      }
