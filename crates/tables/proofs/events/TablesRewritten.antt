-- The touched tables written afresh, one after the other: one table, a place after others, and all places.
use Prim.Native.Nat.{ℕ, zero, suc, ◌+◌, ◌*◌, ◌-◌, ◌≤◌, ◌<◌}
use mathlib.Core.Path.{◌≡◌, refl, sym, ◌∙◌, ap, ap₂, subst}
use mathlib.Core.Bool.{◌&&◌, Bool, true, false, cond}
use mathlib.Core.List.{List, [], ◌∷◌, ◌++◌, append-nil, append_assoc}
use native.Mathlib.Omega.{arith}
use native.Mathlib.Nat.{add-zero, zero-add}
use native.Mathlib.Numerals.{add-one}
use lib.ListN.{length, get_or, take, drop, length-append, length-drop, length-map, take-append-drop}
use lib.Seq.{sets, take_all, take_at, drop_at, length-take-le}
use lib.Dec.{T}
use Rattle.frames.specs.Bits.{bits_of, packed_in, zero_bit, zero_bits}
use Rattle.frames.proofs.PackedBits.{length-bits_of}
use Rattle.frames.proofs.PackedRows.{Bytes, packed-back}
use Rattle.frames.proofs.ValuesPut.{sets_mid}
use Rattle.files.specs.declared.Phy.{Phy}
use Rattle.files.specs.Lists.{any, keep, is_in}
use Rattle.files.specs.Domain.{Domain, Expander, no_expander, expander_at, phy_at, is_table, to_expander}
use Rattle.wiring.specs.phys.PhyCauses.{Place, place, phy_places, places_from, places}
use Rattle.files.proofs.ListMembers.{by-test, is_false, was_true, and_left, and_right, and_both, keep_append}
use Rattle.tables.specs.levels.Levels.{down}
use Rattle.tables.specs.filling.Tables.{table_places, size, sizes, needed}
use Rattle.tables.specs.filling.Entries.{Entries, entries, room_of, Room}
use Rattle.tables.specs.filling.WordsChanged.{changed}
use Rattle.tables.specs.lists.GrowingLists.{places_at}
use Rattle.tables.specs.lists.PreparedLists.{order_of, own_words_of_order, filled_to}
use Rattle.tables.specs.declared.Moved.{Moved}
use Rattle.tables.specs.events.TouchedTables.{moved_by}
use Rattle.tables.specs.events.ReplugCall.{own_touched, own_table_at, own_refilled}
use Rattle.tables.specs.events.TablesRewritten.{renewed_at, table_link, Passed, TallyBounds, Rewritten}
use Rattle.tables.specs.declared.events.refilling.Tally.{Tally}
use Rattle.tables.proofs.filling.FilledTable.{length-filled}
use Rattle.tables.proofs.levels.LevelOrders.{order-none}
use Rattle.tables.proofs.filling.TablesPut.{sizes-append}
use Rattle.tables.proofs.filling.WordsChanged.{changed-self, changed-part, changed_then}
use Rattle.tables.proofs.events.NumbersRenewed.{renewed_at-after, renewed_at-before, renewed_at-then, renewed_at-none, renewed_at-new, renewed_at-old, renewed_at-all, keep-keep}

-- one table in its words and bits
module _ (ws : List ℕ) (at to : ℕ) (h : at ≤ to) (i : to ≤ length ws) (r l : List ℕ) (q : r ≡ filled_to (length (take (to - at) (drop at ws))) l) where
  abbrev after : List ℕ
  after = take at ws ++ (r ++ drop (to - at) (drop at ws))

  part_length : length (take (to - at) (drop at ws)) ≡ to - at
  part_length = length-take-le (to - at) (drop at ws) (omega (arith, length-drop at ws))

  new-length : length r ≡ to - at
  new-length = ap length q ∙ length-filled (length (take (to - at) (drop at ws))) l ∙ part_length

  new_is : r ≡ filled_to (to - at) l
  new_is = q ∙ ap (λ (n : ℕ). filled_to n l) part_length

  pub renew_words : after ≡ sets ws at (filled_to (to - at) l)
  renew_words = sets_mid ws r at (to - at) new-length (omega arith) ∙ ap (sets ws at) new_is

  pub renew_changed : changed (take (to - at) (drop at ws)) r ≡ changed ws after
  renew_changed =
      let p : List ℕ = take (to - at) (drop at ws) in
      let s : List ℕ = drop (to - at) (drop at ws) in
      let w : take at ws ++ (p ++ s) ≡ ws = ap (λ (x : List ℕ). take at ws ++ x) (take-append-drop (to - at) (drop at ws)) ∙ take-append-drop at ws in
      sym (changed-part (take at ws) p r s (part_length ∙ sym new-length)) ∙ ap (λ (x : List ℕ). changed x after) w

  pub renew_bits : (bits bits' : List ℕ) → bits_of bits' ≡ sets (bits_of bits) at (zero_bits (take (to - at) (drop at after)))
      → bits_of bits' ≡ sets (bits_of bits) at (zero_bits (filled_to (to - at) l))
  renew_bits bits bits' e =
      let a : drop at after ≡ r ++ drop (to - at) (drop at ws) = drop_at (take at ws) (r ++ drop (to - at) (drop at ws)) at (length-take-le at ws (omega arith)) in
      let b : take (to - at) (drop at after) ≡ r = ap (take (to - at)) a ∙ take_at r (drop (to - at) (drop at ws)) (to - at) new-length in
      e ∙ ap (λ (x : List ℕ). sets (bits_of bits) at (zero_bits x)) (b ∙ new_is)

abbrev answer : ℕ → ℕ → Moved
answer t w = record { table_count = t; word_count = w }

-- only tables are touched, and a touched table is as wide as its place
module _ (d : Domain) (e : ℕ) where
  abbrev is_table_at : Place → Bool
  is_table_at v = is_table (phy_at d v.expander v.phy)

  not_linked : (v : Place) → table_link (phy_at d v.expander v.phy) ≡ false → own_touched d e v ≡ false
  unfolding own_touched is_in any
  not_linked v h =
      let φ : Phy = phy_at d v.expander v.phy in
      let n : down d φ ≡ false = is_false (down d φ) (λ t. subst T h (and_both (is_table φ) _ (and_left (is_table φ) _ (and_right (to_expander φ) _ t)) (and_left (to_expander φ) _ t))) in
      ap (is_in e) (order-none d φ n)

  not_touched : (v : Place) → is_table_at v ≡ false → (own_touched d e v ≡ false) × (size d v ≡ 0)
  unfolding size
  not_touched v h =
      (not_linked v (ap (λ (b : Bool). b && to_expander (phy_at d v.expander v.phy)) h), ap (λ (b : Bool). cond b (expander_at d v.expander).route_indexes 0) h)

  touched-table : (v : Place) → T (own_touched d e v) → is_table_at v ≡ true
  touched-table v t = by-test (is_table_at v) (λ q. q) (λ q. absurd (subst T (not_touched v q).0 t))

  pub touched-attribute : (i p : ℕ) → own_touched d e (place i p) ≡ true → is_table (phy_at d i p) ≡ true
  touched-attribute i p q = touched-table (place i p) (was_true (own_touched d e (place i p)) q)

  pub touched-size : (v : Place) → T (own_touched d e v) → size d v ≡ (expander_at d v.expander).route_indexes
  unfolding size
  touched-size v t = ap (λ (b : Bool). cond b (expander_at d v.expander).route_indexes 0) (touched-table v t)

  words-fit : (v : Place) → T (own_touched d e v) → length (own_table_at d v) ≡ size d v
  words-fit v t = length-filled (expander_at d v.expander).route_indexes (own_words_of_order d v.expander v.phy) ∙ sym (touched-size v t)

  bits_fit : (v : Place) → T (own_touched d e v) → length (zero_bits (own_table_at d v)) ≡ size d v
  bits_fit v t = length-map (own_table_at d v) zero_bit ∙ words-fit v t

  pub touched-is : (i p : ℕ) (order : List ℕ) {b : Bool} → order ≡ order_of d (phy_at d i p) → b ≡ is_in e order → own_touched d e (place i p) ≡ b
  unfolding own_touched
  touched-is i p order q z = sym (z ∙ ap (is_in e) q)

  count-one : (v : Place) {b : Bool} → own_touched d e v ≡ b → length (keep (own_touched d e) (v ∷ [])) ≡ cond b 1 0
  unfolding keep
  count-one v {b} q = ap (λ (x : Bool). length (cond x (v ∷ []) [])) q ∙ go b
    where
      go : (x : Bool) → length (cond x (v ∷ []) []) ≡ cond x 1 0
      go true = refl
      go false = refl

  one_size : (v : Place) → sizes d (v ∷ []) ≡ size d v
  unfolding sizes
  one_size v = add-zero (size d v)

  -- no place
  pub rewritten_none : (s : Tally) (a : Entries) → Rewritten d e [] s s a a
  unfolding sizes keep
  rewritten_none s a =
      record {
        same = refl;
        words = sym (renewed_at-none d (own_touched d e) (own_table_at d) words-fit s.at a.words);
        bits = sym (renewed_at-none d (own_touched d e) (λ q. zero_bits (own_table_at d q)) bits_fit s.at (bits_of a.bits));
        next = sym (add-zero s.at);
        counted = sym (add-zero s.tables);
        differs = omega (arith, changed-self a.words);
      }

  -- one place that is not touched
  pub rewritten_old : (v : Place) (s r : Tally) (a : Entries) → own_touched d e v ≡ false → r.at ≡ s.at + size d v → r.tables ≡ s.tables → r.words ≡ s.words
      → Rewritten d e (v ∷ []) s r a a
  rewritten_old v s r a q x y z =
      record {
        same = refl;
        words = sym (renewed_at-old d (own_touched d e) (own_table_at d) words-fit v s.at a.words q);
        bits = sym (renewed_at-old d (own_touched d e) (λ q. zero_bits (own_table_at d q)) bits_fit v s.at (bits_of a.bits) q);
        next = omega (arith, one_size v);
        counted = omega (arith, count-one v q);
        differs = omega (arith, changed-self a.words);
      }

  -- one place that is
  pub rewritten_new : (v : Place) (s r : Tally) (a b : Entries) (k : ℕ) → own_touched d e v ≡ true → room_of b ≡ room_of a → k ≡ size d v
      → s.at + k ≤ length a.words → s.at + k ≤ 8 * length a.bits → b.words ≡ sets a.words s.at (filled_to k (own_words_of_order d v.expander v.phy))
      → bits_of b.bits ≡ sets (bits_of a.bits) s.at (zero_bits (filled_to k (own_words_of_order d v.expander v.phy)))
      → r.at ≡ s.at + size d v → r.tables ≡ s.tables + 1 → r.words ≡ s.words + changed a.words b.words → Rewritten d e (v ∷ []) s r a b
  rewritten_new v s r a b k q room n f g w m x y z =
      let l : List ℕ = own_words_of_order d v.expander v.phy in
      let t : filled_to k l ≡ own_table_at d v = ap (λ (j : ℕ). filled_to j l) (n ∙ touched-size v (was_true (own_touched d e v) q)) in
      record {
        same = room;
        words = w ∙ ap (sets a.words s.at) t ∙ sym (renewed_at-new d (own_touched d e) (own_table_at d) words-fit v s.at a.words q (omega arith));
        bits = m ∙ ap (λ (j : List ℕ). sets (bits_of a.bits) s.at (zero_bits j)) t
            ∙ sym (renewed_at-new d (own_touched d e) (λ q. zero_bits (own_table_at d q)) bits_fit v s.at (bits_of a.bits) q (omega (arith, length-bits_of a.bits)));
        next = omega (arith, one_size v);
        counted = omega (arith, count-one v q);
        differs = z;
      }

  -- places, and then others
  pub rewritten_then : (qs rs : List Place) (s t r : Tally) (a b c : Entries) → Rewritten d e qs s t a b → Rewritten d e rs t r b c
      → s.at + sizes d qs ≤ length a.words → s.at + sizes d qs ≤ 8 * length a.bits → Rewritten d e (qs ++ rs) s r a c
  rewritten_then qs rs s t r a b c u v h k =
      let test : Place → Bool = own_touched d e in
      let new : Place → List ℕ = own_table_at d in
      let bit : Place → List ℕ = λ (q : Place). zero_bits (own_table_at d q) in
      let m : ℕ = s.at + sizes d qs in
      let lb : length b.words ≡ length a.words = ap (λ (x : Room). x.words) u.same in
      let drops : drop m b.words ≡ drop m a.words = ap (drop m) u.words ∙ renewed_at-after d test new words-fit qs s.at a.words h in
      let takes : take m c.words ≡ take m b.words =
      ap (take m) (v.words ∙ ap (λ (n : ℕ). renewed_at d test new rs n b.words) u.next) ∙ renewed_at-before d test new words-fit rs m b.words (omega arith) in
      record {
        same = v.same ∙ u.same;
        words = v.words ∙ ap₂ (λ (n : ℕ) (l : List ℕ). renewed_at d test new rs n l) u.next u.words ∙ renewed_at-then d test new words-fit qs rs s.at a.words h;
        bits = v.bits ∙ ap₂ (λ (n : ℕ) (l : List ℕ). renewed_at d test bit rs n l) u.next u.bits
            ∙ renewed_at-then d test bit bits_fit qs rs s.at (bits_of a.bits) (omega (arith, length-bits_of a.bits));
        next = omega (arith, u.next, v.next, sizes-append d qs rs);
        counted = omega (arith, u.counted, v.counted, ap length (keep_append test qs rs), length-append (keep test qs) (keep test rs));
        differs = omega (arith, u.differs, v.differs, changed_then m a.words b.words c.words drops takes);
      }

  -- all places: the tables among them
  module _ (s r : Tally) (ws bs ws' bs' : List ℕ) (qs : List Place) (all : qs ≡ places d) (z : s.at ≡ 0) (u : Rewritten d e qs s r (entries ws bs) (entries ws' bs')) where
    pub all-refilled : Bytes bs' → entries ws' bs' ≡ own_refilled d e (entries ws bs)
    unfolding table_places
    all-refilled bytes =
        let test : Place → Bool = own_touched d e in
        let new : Place → List ℕ = own_table_at d in
        let bit : Place → List ℕ = λ (q : Place). zero_bits (own_table_at d q) in
        let w = u.words ∙ ap₂ (λ (n : ℕ) (l : List Place). renewed_at d test new l n ws) z all ∙ renewed_at-all d test new words-fit is_table_at not_touched (places d) ws in
        let b = u.bits ∙ ap₂ (λ (n : ℕ) (l : List Place). renewed_at d test bit l n (bits_of bs)) z all ∙ renewed_at-all d test bit bits_fit is_table_at not_touched (places d) (bits_of bs) in
        let n : length bs' ≡ length bs = ap (λ (x : Room). x.bits) u.same in
        ap₂ entries w (sym (packed-back bs' bytes) ∙ ap₂ packed_in n b)

    pub all-counted : s.tables ≡ 0 → r.tables ≡ length (keep (own_touched d e) (table_places d))
    unfolding table_places
    all-counted y =
        let k = keep-keep (own_touched d e) is_table_at (λ v h. (not_touched v h).0) (places d) in
        let l : length (keep (own_touched d e) qs) ≡ length (keep (own_touched d e) (places d)) = ap (λ (x : List Place). length (keep (own_touched d e) x)) all in
        omega (arith, u.counted, ap length k)

    pub all-answered : s.tables ≡ 0 → s.words ≡ 0 → answer r.tables r.words ≡ moved_by d (own_touched d e) (entries ws bs) (entries ws' bs')
    all-answered y x = ap₂ answer (all-counted y) (omega (arith, u.differs))

-- one phy more, and one expander more
pub phys-more : (i p k : ℕ) → phy_places i p (suc k) ≡ phy_places i p k ++ (place i (p + k) ∷ [])
unfolding phy_places
phys-more i p zero = let e : p + 0 ≡ p = add-zero p in rw e
phys-more i p (suc k) =
    let e : p + 1 + k ≡ p + suc k = omega arith in
    ap (λ (l : List Place). place i p ∷ l) (phys-more i (p + 1) k ∙ ap (λ (n : ℕ). phy_places i (p + 1) k ++ (place i n ∷ [])) e)

from_more : (k : ℕ) (l : List Expander) (j : ℕ) → j < length l
    → places_from k (take (suc j) l) ≡ places_from k (take j l) ++ phy_places (k + j) 0 (length (get_or l j no_expander).phys)
unfolding places_from
from_more k [] j h = absurd (omega arith)
from_more k (x ∷ l) zero h = let e : k + 0 ≡ k = add-zero k in rw e (append-nil (phy_places k 0 (length x.phys)))
from_more k (x ∷ l) (suc j) h =
    let m : List Place = phy_places k 0 (length x.phys) in
    let last : List Place = phy_places (k + suc j) 0 (length (get_or l j no_expander).phys) in
    let e : k + 1 + j ≡ k + suc j = omega arith in
    ap (λ (y : List Place). m ++ y) (from_more (k + 1) l j (omega arith) ∙ ap (λ (n : ℕ). places_from (k + 1) (take j l) ++ phy_places n 0 (length (get_or l j no_expander).phys)) e)
    ∙ sym (append_assoc m (places_from (k + 1) (take j l)) last)

pub expanders-more : (d : Domain) (i : ℕ) → i < length d → places_from 0 (take (i + 1) d) ≡ places_from 0 (take i d) ++ places_at d i
expanders-more d i h =
    let e : 0 + i ≡ i = zero-add i in
    rw (add-one i) (from_more 0 d i h ∙ ap (λ (n : ℕ). places_from 0 (take i d) ++ phy_places n 0 (length (expander_at d i).phys)) e)

pub expanders-all : (d : Domain) (i : ℕ) → length d ≤ i → places_from 0 (take i d) ≡ places d
expanders-all d i h = ap (places_from 0) (take_all i d h)

-- the tables of the first expanders have no more words than all
expanders_le : (d : Domain) (i : ℕ) → i ≤ length d → sizes d (places_from 0 (take i d)) ≤ needed d
expanders_le d i h = go (length d - i) i (omega arith) h
  where
    go : (k i : ℕ) → k ≡ length d - i → i ≤ length d → sizes d (places_from 0 (take i d)) ≤ needed d
    go zero i q h = omega (arith, ap (sizes d) (expanders-all d i (omega arith)))
    go (suc k) i q h =
        omega (arith, ap (sizes d) (expanders-more d i (omega arith)), sizes-append d (places_from 0 (take i d)) (places_at d i), go k (i + 1) (omega arith) (omega arith))

pub expanders-fit : (d : Domain) (i : ℕ) → i < length d → sizes d (places_from 0 (take i d)) + sizes d (places_at d i) ≤ needed d
expanders-fit d i h =
    omega (arith, ap (sizes d) (expanders-more d i h), sizes-append d (places_from 0 (take i d)) (places_at d i), expanders_le d (i + 1) (omega arith))

-- the tables of an expander's first phys have no more words than all of its tables
module _ (d : Domain) (i n : ℕ) where
  phys-sum : (k : ℕ) → sizes d (phy_places i 0 (k + 1)) ≡ sizes d (phy_places i 0 k) + size d (place i k)
  phys-sum k =
      let e : 0 + k ≡ k = zero-add k in
      let m : phy_places i 0 (k + 1) ≡ phy_places i 0 k ++ (place i k ∷ []) =
      rw (add-one k) (phys-more i 0 k ∙ ap (λ (x : ℕ). phy_places i 0 k ++ (place i x ∷ [])) e) in
      ap (sizes d) m ∙ sizes-append d (phy_places i 0 k) (place i k ∷ []) ∙ ap (λ (x : ℕ). sizes d (phy_places i 0 k) + x) (one_size d 0 (place i k))

  phys_le : (k p : ℕ) → p + k ≡ n → sizes d (phy_places i 0 p) ≤ sizes d (phy_places i 0 n)
  phys_le zero p q = omega (arith, ap (λ (x : ℕ). sizes d (phy_places i 0 x)) (sym (add-zero p) ∙ q))
  phys_le (suc k) p q = omega (arith, phys-sum p, phys_le k (p + 1) (omega arith))

  pub phys-fit : (p : ℕ) → p < n → sizes d (phy_places i 0 p) + size d (place i p) ≤ sizes d (phy_places i 0 n)
  phys-fit p h = omega (arith, phys-sum p, phys_le (n - (p + 1)) (p + 1) (omega arith))

-- phy after phy, and expander after expander
module _ (d : Domain) (e : ℕ) where
  pub phys-start : (i : ℕ) (s : Tally) (a : Entries) → Rewritten d e (phy_places i 0 0) s s a a
  unfolding phy_places
  phys-start i s a = rewritten_none d e s a

  pub phys-turn : (i p : ℕ) (s t r : Tally) (a b c : Entries) → Rewritten d e (phy_places i 0 p) s t a b → Rewritten d e (place i p ∷ []) t r b c
      → s.at + sizes d (phy_places i 0 p) ≤ length a.words → s.at + sizes d (phy_places i 0 p) ≤ 8 * length a.bits → Rewritten d e (phy_places i 0 (p + 1)) s r a c
  phys-turn i p s t r a b c u v h k =
      let z : 0 + p ≡ p = zero-add p in
      let m : phy_places i 0 p ++ (place i p ∷ []) ≡ phy_places i 0 (p + 1) =
      rw (add-one p) (sym (phys-more i 0 p ∙ ap (λ (x : ℕ). phy_places i 0 p ++ (place i x ∷ [])) z)) in
      subst (λ (l : List Place). Rewritten d e l s r a c) m (rewritten_then d e (phy_places i 0 p) (place i p ∷ []) s t r a b c u v h k)

  -- a phy without levels is passed over
  pub phys_skip : (i p : ℕ) (s t r : Tally) (a b : Entries) → Rewritten d e (phy_places i 0 p) s t a b → {x : Bool} → x ≡ table_link (phy_at d i p) → x ≡ false → Passed d (place i p) t r
      → s.at + sizes d (phy_places i 0 p) ≤ length a.words → s.at + sizes d (phy_places i 0 p) ≤ 8 * length a.bits → Rewritten d e (phy_places i 0 (p + 1)) s r a b
  phys_skip i p s t r a b u {x} q k w h l =
      phys-turn i p s t r a b b u (rewritten_old d e (place i p) t r b (not_linked d e (place i p) (sym q ∙ k)) w.next w.tables w.words) h l

  pub phys-end : (i p : ℕ) (s r : Tally) (a b : Entries) → Rewritten d e (phy_places i 0 p) s r a b → p ≡ length (expander_at d i).phys → Rewritten d e (places_at d i) s r a b
  phys-end i p s r a b u q = subst (λ (n : ℕ). Rewritten d e (phy_places i 0 n) s r a b) q u

  pub expanders-start : (s : Tally) (a : Entries) → Rewritten d e (places_from 0 (take 0 d)) s s a a
  unfolding places_from
  expanders-start s a = rewritten_none d e s a

  pub expanders-turn : (i : ℕ) (s t r : Tally) (a b c : Entries) → Rewritten d e (places_from 0 (take i d)) s t a b → Rewritten d e (places_at d i) t r b c → i < length d
      → s.at + sizes d (places_from 0 (take i d)) ≤ length a.words → s.at + sizes d (places_from 0 (take i d)) ≤ 8 * length a.bits
      → Rewritten d e (places_from 0 (take (i + 1) d)) s r a c
  expanders-turn i s t r a b c u v l h k =
      subst (λ (x : List Place). Rewritten d e x s r a c) (sym (expanders-more d i l)) (rewritten_then d e (places_from 0 (take i d)) (places_at d i) s t r a b c u v h k)

-- tallies
pub near_none : (s : Tally) → TallyBounds 0 s s
near_none s = record { far = omega arith; few = omega arith; less = omega arith }

pub near-passed : (d : Domain) (q : Place) (s r : Tally) → Passed d q s r → TallyBounds 1 s r
near-passed d q s r w = record { far = omega (arith, w.next, w.few); few = omega (arith, w.tables); less = omega (arith, w.next, w.words) }

pub near-then : (m n k : ℕ) (s t r : Tally) → TallyBounds m s t → TallyBounds n t r → m + n ≤ k → TallyBounds k s r
near-then m n k s t r u v h =
    record { far = omega (arith, u.far, v.far); few = omega (arith, u.few, v.few); less = omega (arith, u.less, v.less) }
