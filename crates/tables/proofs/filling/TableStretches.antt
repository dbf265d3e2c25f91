-- Each table stands in its own stretch of the tables, in any domain; and in the words that the table call left, index for index.
use mathlib.Core.Path.{◌≡◌, refl, sym, ap, ap₂, subst, ◌∙◌}
use mathlib.Core.Logic.{inl, inr, ⊎_elim}
use mathlib.Core.List.{List, [], ◌∷◌, ◌++◌, append_assoc}
use mathlib.Core.Bool.{Bool, true, false, cond, ◌&&◌}
use Prim.Native.Nat.{ℕ, ◌+◌, ◌-◌, ◌≤◌, ◌<◌}
use native.Mathlib.Omega.{arith}
use lib.ListN.{length, get_or, take, drop, length-append, length-drop, get_or-append, get_or-eq_default}
use lib.Seq.{take_at, drop-append-add, get_or-append-add, get_or-take, get_or-drop}
use lib.Dec.{T, eqb}
use Rattle.wiring.specs.FrameDefinitions.{good, bytes_for, zero_bit, marked}
use Rattle.files.specs.Lists.{In}
use Rattle.files.specs.Domain.{Domain, expander_at, phy_at, is_table}
use Rattle.files.specs.declared.Setting.{Setting}
use Rattle.files.specs.File.{domain_read}
use Rattle.wiring.specs.phys.PhyCauses.{Place, place, places}
use Rattle.wiring.proofs.FrameLemmas.{length_marked, marked-bits, marked-padding, marked-after}
use Rattle.files.proofs.ListMembers.{tests, is_true}
use Rattle.files.proofs.Domains.{attribute-range}
use Rattle.wiring.proofs.phys.WiredPhys.{in_places}
use Rattle.tables.specs.filling.Tables.{level_list, table, tables, size, sizes, needed, offset_in, offset, stretch}
use Rattle.tables.specs.filling.Entries.{Entries, room_of, Enough, put_before}
use Rattle.tables.specs.JudgingCall.{judged_tables, table_call, TablesDone, IndexForIndex}
use Rattle.tables.proofs.filling.TableLengths.{table-length, table-entry, words_at, tables_at, tables-at, words-length, tables-length}
use Rattle.tables.proofs.AcceptedDomains.{table-call}
use Rattle.tables.proofs.TableRefusals.{tables-of}

-- the test by which the words before a table are counted
abbrev pub is_place : ℕ → ℕ → Place → Bool
is_place i p q = eqb q.expander i && eqb q.phy p

pub is-place : (i p : ℕ) (q : Place) → T (is_place i p q) → q ≡ place i p
is-place i p q t = let x : q.expander ≡ i = search tests in let y : q.phy ≡ p = search tests in ap₂ place x y

pub place_is : (i p : ℕ) (q : Place) → place i p ≡ q → T (is_place i p q)
place_is i p q e = let x : q.expander ≡ i = sym (ap (λ v. v.expander) e) in let y : q.phy ≡ p = sym (ap (λ v. v.phy) e) in search tests

module _ (d : Domain) (i p : ℕ) (t : T (is_table (phy_at d i p))) where
  words-here : (q : Place) → q ≡ place i p → words_at d q ≡ table d i p
  words-here q e = ap (words_at d) e ∙ rw (is_true (is_table (phy_at d i p)) t) refl

  pub size-here : (q : Place) → q ≡ place i p → size d q ≡ (expander_at d i).route_indexes
  unfolding size
  size-here q e = rw (e, is_true (is_table (phy_at d i p)) t) refl

  -- among the tables at some places
  found : (after : List ℕ) (qs : List Place) → In (place i p) qs
      → take (expander_at d i).route_indexes (drop (offset_in d i p qs) (tables_at d qs ++ after)) ≡ table d i p
  unfolding offset_in tables_at
  found after [] h = absurd h
  found after (q ∷ qs) h =
      ap (λ l. take (expander_at d i).route_indexes (drop (offset_in d i p (q ∷ qs)) l)) (append_assoc (words_at d q) (tables_at d qs) after)
      ∙ go (is_place i p q) refl (found after qs)
    where
      rest : List ℕ
      rest = tables_at d qs ++ after

      go : (b : Bool) → is_place i p q ≡ b → (In (place i p) qs → take (expander_at d i).route_indexes (drop (offset_in d i p qs) rest) ≡ table d i p)
          → take (expander_at d i).route_indexes (drop (cond b 0 (size d q + offset_in d i p qs)) (words_at d q ++ rest)) ≡ table d i p
      go true e r =
          ap (λ l. take (expander_at d i).route_indexes (l ++ rest)) (words-here q (is-place i p q (search tests)))
          ∙ take_at (table d i p) rest (expander_at d i).route_indexes (table-length d i p)
      go false e r = ⊎_elim (λ o. absurd (subst T e (place_is i p q o)))
          (λ o. ap (λ m. take (expander_at d i).route_indexes (drop (m + offset_in d i p qs) (words_at d q ++ rest))) (sym (words-length d q))
          ∙ ap (take (expander_at d i).route_indexes) (drop-append-add (words_at d q) rest (offset_in d i p qs)) ∙ r o) h

  fits_in : (qs : List Place) → In (place i p) qs → offset_in d i p qs + (expander_at d i).route_indexes ≤ sizes d qs
  unfolding offset_in sizes
  fits_in [] h = absurd h
  fits_in (q ∷ qs) h = go (is_place i p q) refl h (fits_in qs)
    where
      go : (b : Bool) → is_place i p q ≡ b → In (place i p) (q ∷ qs) → (In (place i p) qs → offset_in d i p qs + (expander_at d i).route_indexes ≤ sizes d qs)
          → cond b 0 (size d q + offset_in d i p qs) + (expander_at d i).route_indexes ≤ size d q + sizes d qs
      go true e o r = omega (arith, size-here q (is-place i p q (search tests)))
      go false e (inl o) r = absurd (subst T e (place_is i p q o))
      go false e (inr o) r = omega (arith, r o)

  pub in_all : In (place i p) (places d)
  in_all = in_places d i p (attribute-range d 2 i p t (omega arith))

  -- in words that begin with the tables, the stretch of a table phy is its table
  pub stretch-is : (after : List ℕ) → stretch d (tables d ++ after) i p ≡ table d i p
  unfolding stretch
  stretch-is after = ap (λ l. take (expander_at d i).route_indexes (drop (offset d i p) (l ++ after))) (tables-at d) ∙ found after (places d) in_all

  -- a stretch ends within the words that the tables need
  pub stretch-within : offset d i p + (expander_at d i).route_indexes ≤ needed d
  stretch-within = fits_in (places d) in_all

  -- an index of the stretch is that index of the table
  pub stretch-entry : (after : List ℕ) (k : ℕ) → k < (expander_at d i).route_indexes → get_or (tables d ++ after) (offset d i p + k) 0 ≡ get_or (table d i p) k 0
  unfolding stretch
  stretch-entry after k h =
      let ws = tables d ++ after in
      sym (get_or-drop (offset d i p) ws k 0) ∙ sym (get_or-take (expander_at d i).route_indexes (drop (offset d i p) ws) k 0 h)
      ∙ ap (λ l. get_or l k 0) (stretch-is after)

-- the front of what is put, and what stays after it
module _ (l before : List ℕ) (n : ℕ) (e : length l ≡ n) where
  put_same : n ≤ length before → length (l ++ drop (length l) before) ≡ length before
  put_same h = length-append l (drop (length l) before) ∙ omega (arith, length-drop (length l) before)

  put-stays : (k : ℕ) → n ≤ k → get_or (l ++ drop (length l) before) k 0 ≡ get_or before k 0
  put-stays k h =
      let m : length l + (k - length l) ≡ k = omega arith in
      ap (λ v. get_or (l ++ drop (length l) before) v 0) (sym m) ∙ get_or-append-add l (drop (length l) before) (k - length l) 0
      ∙ get_or-drop (length l) before (k - length l) 0 ∙ ap (λ v. get_or before v 0) m

-- bytes from n on are those of another row
after-stays : (n : ℕ) (s before : List ℕ) → drop n s ≡ drop n before → (k : ℕ) → n ≤ k → get_or s k 0 ≡ get_or before k 0
after-stays n s before e k h =
    let m : n + (k - n) ≡ k = omega arith in
    ap (λ v. get_or s v 0) (sym m) ∙ sym (get_or-drop n s (k - n) 0) ∙ ap (λ l. get_or l (k - n) 0) e ∙ get_or-drop n before (k - n) 0 ∙ ap (λ v. get_or before v 0) m

-- where every list fits: the words are the tables with their bits and, after them, what was lent
pub index-tables : (d : Domain) (before : Entries) → ((i p : ℕ) → T (is_table (phy_at d i p)) → length (level_list d i p) ≤ (expander_at d i).route_indexes)
    → Enough (needed d) (room_of before) → IndexForIndex d before (put_before (tables d) before)
index-tables d before fits h =
    let e = tables-length d in
    let b : bytes_for (length (tables d)) ≤ length before.bits = rw e h.bits in
    let after = drop (length (tables d)) before.words in record {
      size = ap₂ (λ (a b : ℕ). record { words = a; bits = b }) (put_same (tables d) before.words (needed d) e h.words) (length_marked (tables d) before.bits);
      within = stretch-within d;
      lent = h;
      fits = fits;
      listed = λ i p k t u. let f = fits i p t in stretch-entry d i p t after k (omega arith) ∙ table-entry d i p (fits i p t) k;
      disabled = λ i p k t u v. stretch-entry d i p t after k v ∙ table-entry d i p (fits i p t) k ∙ get_or-eq_default (level_list d i p) 0 u;
      stay = put-stays (tables d) before.words (needed d) e;
      bit = λ k u. marked-bits (tables d) before.bits b k (omega arith) ∙ ap zero_bit (sym (get_or-append (tables d) after 0 k (omega arith)));
      padding = λ k u v. marked-padding (tables d) before.bits b k (omega arith) (omega arith);
      stay_bytes = λ k u. after-stays (bytes_for (length (tables d))) (marked (tables d) before.bits) before.bits (marked-after (tables d) before.bits b) k (omega arith);
    }

-- a table call that answers counts leaves each table in its own stretch, index for index: on a domain, and on a file
pub index_for_index : (chain : ℕ) (d : Domain) (before after : Entries) (c w : ℕ) → TablesDone (judged_tables chain d (room_of before)) (good (record { table_count = c; word_count = w })) before after
    → IndexForIndex d before after
index_for_index chain d before after c w t =
    let o = tables-of chain d c w before after t in
    subst (IndexForIndex d before) (sym o.left) (index-tables d before o.routable.fits o.enough)

pub index_for_index-file : (setting : Setting) (file : List ℕ) (d : Domain) (before after : Entries) (c w : ℕ) → domain_read setting file ≡ good d
    → TablesDone (table_call setting file (room_of before)) (good (record { table_count = c; word_count = w })) before after → IndexForIndex d before after
index_for_index-file setting file d before after c w e t =
    index_for_index setting.chain d before after c w (subst (λ x. TablesDone x (good (record { table_count = c; word_count = w })) before after) (table-call setting file d e (room_of before)) t)
