-- How much one plug can move (document 02, paper 10): at most one index of each table, and as many words of all tables as there are table phys
-- attached to expanders.
use Prim.Native.Nat.{ℕ, zero, suc, ◌+◌, ◌≤◌, ◌<◌, ◌^◌}
use mathlib.Core.Path.{◌≡◌, refl, sym, ap, subst, ◌∙◌}
use mathlib.Core.List.{List, [], ◌∷◌, ◌++◌, flat_map}
use mathlib.Core.Bool.{Bool, true, false, cond}
use native.Mathlib.Omega.{arith}
use lib.ListN.{length, take, drop, set, take-append-drop}
use lib.Seq.{take_at}
use lib.Dec.{T, eqb, eqb_refl}
use Rattle.frames.specs.Refusals.{good}
use Rattle.files.specs.declared.Phy.{Phy}
use Rattle.files.specs.declared.Setting.{Setting}
use Rattle.files.specs.Lists.{any, keep, is_in, In}
use Rattle.files.specs.Domain.{Domain, expander_at, phy_at, is_table, is_direct, to_expander}
use Rattle.wiring.specs.phys.PhyCauses.{Place, places}
use Rattle.files.specs.PhyReplaced.{set_phy}
use Rattle.wiring.specs.WiringCauses.{Linked}
use Rattle.files.proofs.ListMembers.{tests, is_true, kept}
use Rattle.files.proofs.CallResults.{good-one, then-good}
use Rattle.wiring.proofs.phys.WiredPhys.{Wired}
use Rattle.tables.specs.filling.Tables.{word, table_places, tables, size, needed, stretch}
use Rattle.tables.specs.filling.Entries.{Entries, room_of}
use Rattle.tables.specs.JudgingCall.{judged}
use Rattle.tables.proofs.lists.LevelListLaw.{levels-empty}
use Rattle.tables.proofs.filling.TableLengths.{table-length, tables-length as All-words}
use Rattle.tables.proofs.filling.TableStretches.{stretch-is}
use Rattle.tables.proofs.AcceptedDomains.{judged_wires}
use Rattle.tables.specs.declared.Moved.{Moved}
use Rattle.tables.specs.events.TouchedTables.{touched, table_at, renewed, refilled, moved}
use Rattle.tables.specs.filling.WordsChanged.{changed}
use Rattle.tables.specs.events.ReplugCall.{pluggable, replug}
use Rattle.events.specs.declared.Event.{Event}
use Rattle.events.specs.Events.{named, edited}
use Rattle.events.specs.EventFile.{file_edited}
use Rattle.events.specs.Calls.{event_call, file_after, entries_after, EventDone, Lab}
use Rattle.events.specs.EventLists.{Configured}
use Rattle.events.specs.WordsMoved.{OnDirect, Unaltered, table_links, MovesLittle}
use Rattle.tables.proofs.filling.WordsChanged.{changed-self}
use Rattle.tables.proofs.events.LevelsAfterEvent.{route_indexes_same, attribute-same, touched-same, table-places-same}
use Rattle.events.proofs.TouchedTablesRefilled.{renewed-is, table_same, tables-length}
use Rattle.events.proofs.EventLists.{accepted-is}
use Rattle.events.proofs.OneWordChanged.{list_length, table-one}

-- words changed: of a list with a place set, and of two lists one after the other
changed-set : (l : List ℕ) (j v : ℕ) → changed l (set l j v) ≤ 1
unfolding changed
changed-set [] j v = omega arith
changed-set (x ∷ l) zero v = go (eqb x v)
  where
    go : (b : Bool) → cond b 0 1 + changed l l ≤ 1
    go true = omega (arith, changed-self l)
    go false = omega (arith, changed-self l)
changed-set (x ∷ l) (suc j) v = rw (is_true (eqb x x) (eqb_refl x)) (omega (arith, changed-set l j v))

changed-append : (l m l' m' : List ℕ) → length l ≡ length m → changed (l ++ l') (m ++ m') ≡ changed l m + changed l' m'
unfolding changed
changed-append [] [] l' m' h = omega arith
changed-append [] (y ∷ m) l' m' h = absurd (omega arith)
changed-append (x ∷ l) [] l' m' h = absurd (omega arith)
changed-append (x ∷ l) (y ∷ m) l' m' h = let r = changed-append l m l' m' (omega arith) in omega arith

-- the domain d, and d with phy q of expander e, which is direct, plugged or pulled; both are past causes 1 to 12
module _ (d : Domain) (e q a : ℕ) (f : T (pluggable (phy_at d e q))) (was : T (is_direct (phy_at d e q)))
    (w : Wired d) (l : Linked d) (w' : Wired (set_phy d e q (replug a (phy_at d e q)))) (l' : Linked (set_phy d e q (replug a (phy_at d e q)))) where
  abbrev ψ : Phy
  ψ = replug a (phy_at d e q)

  abbrev d' : Domain
  d' = set_phy d e q ψ

  -- only table phys attached to expanders have levels
  untouched : (v : Place) → ¬ (T (to_expander (phy_at d v.expander v.phy))) → touched d e v ≡ false
  unfolding touched is_in any
  untouched v k = ap (is_in e) (levels-empty d v.expander v.phy (λ t. k (search tests)))

  same_length : (v : Place) → length (table_at d v) ≡ length (table_at d' v)
  same_length v = table-length d v.expander v.phy ∙ sym (route_indexes_same d e q a f v.expander) ∙ sym (table-length d' v.expander v.phy)

  changed-tables : (qs : List Place) → changed (flat_map (table_at d) qs) (flat_map (table_at d') qs) ≤ length (keep (λ v. to_expander (phy_at d v.expander v.phy)) qs)
  unfolding flat_map keep changed
  changed-tables [] = omega arith
  changed-tables (v ∷ qs) = go (to_expander (phy_at d v.expander v.phy)) refl (changed-tables qs)
    where
      links : List Place
      links = keep (λ v. to_expander (phy_at d v.expander v.phy)) qs

      rest : changed (table_at d v ++ flat_map (table_at d) qs) (table_at d' v ++ flat_map (table_at d') qs) ≡ changed (table_at d v) (table_at d' v) + changed (flat_map (table_at d) qs) (flat_map (table_at d') qs)
      rest = changed-append (table_at d v) (table_at d' v) (flat_map (table_at d) qs) (flat_map (table_at d') qs) (same_length v)

      go : (b : Bool) → to_expander (phy_at d v.expander v.phy) ≡ b → changed (flat_map (table_at d) qs) (flat_map (table_at d') qs) ≤ length links
          → changed (table_at d v ++ flat_map (table_at d) qs) (table_at d' v ++ flat_map (table_at d') qs) ≤ length (cond b (v ∷ links) links)
      go true k r =
          let o = table-one d e q a f was w l w' l' v.expander v.phy in
          let c : changed (table_at d v) (table_at d' v) ≤ 1 = subst (λ y. changed (table_at d v) y ≤ 1) (sym o.1) (changed-set (table_at d v) o.0 (word ψ)) in
          omega (arith, rest)
      go false k r =
          let s = table_same d e q a f w l w' l' v (untouched v (λ t. subst T k t)) in
          let c : changed (table_at d v) (table_at d' v) ≡ 0 = subst (λ y. changed (table_at d v) y ≡ 0) s (changed-self (table_at d v)) in
          omega (arith, rest)

  -- of all tables, whatever words stand after them
  pub few-changed : (rest : List ℕ) → changed (tables d ++ rest) (tables d' ++ rest) ≤ length (table_links d)
  unfolding tables table_links
  few-changed rest =
      let r = changed-tables (table_places d) in
      let c : changed (tables d) (tables d') ≤ length (table_links d) = subst (λ vs. changed (tables d) (flat_map (table_at d') vs) ≤ length (table_links d)) (sym (table-places-same d e q a f)) r in
      omega (arith, changed-append (tables d) (tables d') rest rest (sym (tables-length d e q a f w l w' l')), changed-self rest)

  size_of : (v : Place) → In v (table_places d') → size d' v ≡ (expander_at d v.expander).route_indexes
  unfolding size table_places
  size_of v h =
      let t = (kept (λ u. is_table (phy_at d' u.expander u.phy)) (places d') v h).1 in
      rw (is_true (is_table (phy_at d' v.expander v.phy)) t) (route_indexes_same d e q a f v.expander)

  -- written afresh where e is in the levels, over the tables of d, the words are the tables of d'
  pub renewed-tables : (rest : List ℕ) → renewed (touched d' e) (size d') (table_at d') (table_places d') (tables d ++ rest) ≡ tables d' ++ rest
  unfolding tables
  renewed-tables rest =
      ap (λ vs. renewed (touched d' e) (size d') (table_at d') (table_places d') (flat_map (table_at d) vs ++ rest)) (sym (table-places-same d e q a f))
      ∙ renewed-is (touched d' e) (size d') (table_at d') (table_at d) (table_places d') rest
      (λ v h. (table-length d v.expander v.phy ∙ sym (size_of v h), λ k. table_same d e q a f w l w' l' v (sym (touched-same d e q a f v) ∙ k)))

-- an accepted event, by the call's own promise, over words that are the tables of the file as lent
module _ (setting : Setting) (file : List ℕ) (d : Domain) (j : judged setting file ≡ good d) (v : Event) (large : v.address < 2 ^ 64)
    (direct : OnDirect d v) (before : Entries) (lent : Unaltered d before) where
  abbrev e : ℕ
  e = v.expander.0

  abbrev rest : List ℕ
  rest = drop (needed d) before.words

  words-lent : before.words ≡ tables d ++ rest
  words-lent = sym (take-append-drop (needed d) before.words) ∙ ap (λ l. l ++ rest) lent

  module _ (f : T (pluggable (named d v))) (k : judged setting (file_edited file v) ≡ good (edited d v)) where
    w : Wired d
    w = (judged_wires setting file d j).0

    l : Linked d
    l = (judged_wires setting file d j).1.linked

    w' : Wired (edited d v)
    w' = (judged_wires setting (file_edited file v) (edited d v) k).0

    l' : Linked (edited d v)
    l' = (judged_wires setting (file_edited file v) (edited d v) k).1.linked

    words-after : (refilled (edited d v) e before).words ≡ tables (edited d v) ++ rest
    words-after =
        ap (renewed (touched (edited d v) e) (size (edited d v)) (table_at (edited d v)) (table_places (edited d v))) words-lent
        ∙ renewed-tables d e v.phy.0 v.address f direct w l w' l' rest

    few-here : changed before.words (refilled (edited d v) e before).words ≤ length (table_links d)
    few-here =
        subst (λ m. changed before.words m ≤ length (table_links d)) (sym words-after)
        (subst (λ m. changed m (tables (edited d v) ++ rest) ≤ length (table_links d)) (sym words-lent) (few-changed d e v.phy.0 v.address f direct w l w' l' rest))

    one-here : (x p : ℕ) → T (is_table (phy_at d x p)) → (i u : ℕ) × (stretch (edited d v) (refilled (edited d v) e before).words x p ≡ set (stretch d before.words x p) i u)
    one-here x p t =
        let o = table-one d e v.phy.0 v.address f direct w l w' l' x p in
        let t' = subst T (sym (attribute-same d e v.phy.0 v.address f 2 x p)) t in (
          o.0,
          word (replug v.address (named d v)),
          ap (λ m. stretch (edited d v) m x p) words-after ∙ stretch-is (edited d v) x p t' rest ∙ o.1
              ∙ ap (λ m. set m o.0 (word (replug v.address (named d v)))) (sym (ap (λ m. stretch d m x p) words-lent ∙ stretch-is d x p t rest)),
        )

  pub moves_little : (file' : List ℕ) (after : Entries) (t c : ℕ) → EventDone (event_call setting file v (room_of before)) v (good (record { table_count = t; word_count = c })) file file' before after
      → (d₂ : Domain) × (judged setting file' ≡ good d₂) × MovesLittle d d₂ before after c
  moves_little file' after t c o =
      let m : Moved = record { table_count = t; word_count = c } in
      let x = then-good (event_call setting file v (room_of before)) (λ y. good (moved y e before after)) m (sym o.answers) in
      let y = accepted-is setting file v (room_of before) d x.0 (let z : 2 ^ 64 ≡ 256 ^ 8 = refl in subst (λ n. v.address < n) z large) j x.1 in
      let f = y.free in
      let k = y.new in
      let call = x.1 ∙ ap good y.is in
      let left : after ≡ refilled (edited d v) e before = o.left ∙ ap (λ z. entries_after z v before) call in
      let edits : file' ≡ file_edited file v = o.edits ∙ ap (λ z. file_after z v file) call in
      let count : c ≡ changed before.words after.words = sym (ap (λ z. z.word_count) (good-one (moved x.0 e before after) m x.2)) in (
        edited d v,
        ap (judged setting) edits ∙ k,
        record {
          one_index = λ i p u. subst (λ (y : Entries). (m n : ℕ) × (stretch (edited d v) y.words i p ≡ set (stretch d before.words i p) m n)) (sym left) (one-here f k i p u);
          same_length = list_length d e v.phy.0 v.address f direct (w f k) (l f k) (w' f k) (l' f k);
          few = subst (λ n. n ≤ length (table_links d)) (sym count) (subst (λ (y : Entries). changed before.words y.words ≤ length (table_links d)) (sym left) (few-here f k));
        },
      )

-- a configured domain, which any events from one leave (`paper_9`), has tables that nothing else has altered
pub configured_unaltered : (setting : Setting) (before : Entries) (l : Lab) (c : Configured setting before l) → Unaltered c.domain l.entries
configured_unaltered setting before l c =
    let d = c.domain in
    ap (λ (y : Entries). take (needed d) y.words) c.given ∙ take_at (tables d) (drop (length (tables d)) before.words) (needed d) (All-words d)
