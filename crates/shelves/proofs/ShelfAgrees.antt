-- A shelf and the plain table: for every list of frames from a fresh shelf the two answer and hold the same.
use Prim.Native.Nat.{ℕ, zero, suc, ◌/◌, ◌%◌, ◌-◌, ◌<◌, min}
use mathlib.Core.Path.{◌≡◌, refl, sym, ◌∙◌, ap}
use mathlib.Core.Logic.{by_cases}
use native.Mathlib.Decide.{ℕ_discrete}
use mathlib.Core.Bool.{Bool, true, false, cond}
use mathlib.Core.List.{List, [], ◌∷◌, ◌++◌}
use native.Mathlib.Omega.{arith}
use lib.ListN.{length, get_or, set, replicate, length-set, length-replicate, get_or-replicate}
use lib.Seq.{get_or-set_same, get_or-set_other, ext_get_or}
use lib.Dec.{eqb}
use borrow.Author.Tests.{eq-eqb, ne_eqb, eqb-true}
use Rattle.frames.specs.Refusals.{Result, refused, good}
use Rattle.frames.specs.ConfigureRoute.{route_read}
use Rattle.frames.specs.declared.Route.{Route}
use Rattle.shelves.specs.PlainTable.{Table, empty, replaced, result_of, answer_to, table_after, table_answers, table_left}
use Rattle.shelves.specs.Shelf.{CanBeTold, kind_in, bit_of, fresh_shelf, made, shelf_result, place, loaded, after_read, Done, entry_at, disabled_at, shelf_entries}
use Rattle.shelves.specs.Calls.{Call, Sent, frames_in, answers_in, left, HoldsTable}
use Rattle.shelves.specs.declared.Shelf.{Shelf}
use Rattle.shelves.proofs.ToldKinds.{told-says, made_told}
use Rattle.shelves.proofs.FrameResults.{Exists, exists}

-- vacant phys after those told change no kind
padded : (ks : List ℕ) (n p : ℕ) → get_or (ks ++ replicate n 0) p 0 ≡ get_or ks p 0
padded [] zero p = refl
padded [] (suc n) zero = refl
padded [] (suc n) (suc p) = padded [] n p
padded (k ∷ ks) n zero = refl
padded (k ∷ ks) n (suc p) = padded ks n p

-- the entry that a request names, and the others
pub put_same : (t : Table) (q : Route) → replaced t q q.phy.0 q.index.0 ≡ (q.address, q.disabled)
put_same t q = simp (eq-eqb q.phy.0 q.phy.0 refl, eq-eqb q.index.0 q.index.0 refl)

pub put-other-phy : (t : Table) (q : Route) (p i : ℕ) → (p ≡ q.phy.0 → ⊥) → replaced t q p i ≡ t p i
put-other-phy t q p i n = simp (ne_eqb p q.phy.0 n)

pub put-other-index : (t : Table) (q : Route) (i : ℕ) → (i ≡ q.index.0 → ⊥) → replaced t q q.phy.0 i ≡ t q.phy.0 i
put-other-index t q i n = simp (eq-eqb q.phy.0 q.phy.0 refl, ne_eqb i q.index.0 n)

-- a shelf that was told these numbers and kinds
module _ (phys route_indexes : ℕ) (kinds : List ℕ) (numbers : CanBeTold phys route_indexes kinds) where
  abbrev SameTable : Shelf → Table → Type 0
  SameTable = HoldsTable phys route_indexes kinds

  module _ (s : Shelf) (t : Table) (same : SameTable s t) where
    pub result-same : (phy index : ℕ) → shelf_result s phy index ≡ result_of phys route_indexes (kind_in kinds) phy index
    unfolding result_of
    result-same phy index =
        let a : min 16 s.phys ≡ phys = let e = same.phys_are in let f = numbers.few in omega arith in
        let b : min 64 s.route_indexes ≡ route_indexes = let e = same.route_indexes_are in let f = numbers.short in omega arith in
        let k : kind_in s.kinds phy ≡ kind_in kinds phy = ap (λ (l : List ℕ). get_or l phy 0) same.kinds_are ∙ padded kinds (16 - length kinds) phy in
        simp (a, b, k)

    module _ (q : Route) (l : Exists phys route_indexes (kind_in kinds) q.phy.0 q.index.0) where
      abbrev at : ℕ
      at = place q.phy.0 q.index.0

      within : at < shelf_entries
      within = let a = l.there in let b = l.below in let c = numbers.few in let d = numbers.short in omega arith

      -- by the place: the one that is set, and every other
      by_place : (a b : List ℕ) (e : ℕ) (f : ℕ × Bool → ℕ) → length a ≡ shelf_entries → b ≡ set a at e → e ≡ f (q.address, q.disabled)
          → ((p i : ℕ) → p < 16 → i < 64 → get_or a (place p i) 0 ≡ f (t p i)) → (p i : ℕ) → p < 16 → i < 64 → get_or b (place p i) 0 ≡ f (replaced t q p i)
      by_place a b e f n eb ee all p i hp hi =
          let w = within in
          let k = l.below in
          let c = numbers.short in
          let other : (place p i ≡ at → ⊥) → get_or b (place p i) 0 ≡ f (t p i) = λ z. ap (λ (x : List ℕ). get_or x (place p i) 0) eb ∙ (get_or-set_other a at (place p i) e 0 z ∙ all p i hp hi) in
          by_cases (ℕ_discrete p q.phy.0)
          (λ x. by_cases (ℕ_discrete i q.index.0)
          (λ y. rw (x, y) (ap (λ (v : List ℕ). get_or v at 0) eb ∙ (get_or-set_same a at e 0 (omega arith) ∙ (ee ∙ ap f (sym (put_same t q))))))
          (λ y. other (λ z. y (omega arith)) ∙ ap f (sym (rw x (put-other-index t q i y)))))
          (λ x. other (λ z. x (omega arith)) ∙ ap f (sym (put-other-phy t q p i x)))

      loaded-same : SameTable (loaded s q) (replaced t q)
      unfolding loaded
      loaded-same = record {
        phys_are = same.phys_are;
        route_indexes_are = same.route_indexes_are;
        kinds_are = same.kinds_are;
        entry-count = length-set s.entries at q.address ∙ same.entry-count;
        bit-count = length-set s.disabled at (bit_of q.disabled) ∙ same.bit-count;
        entries_are = by_place s.entries (set s.entries at q.address) q.address (λ e. e.0) same.entry-count refl refl same.entries_are;
        bits_are = by_place s.disabled (set s.disabled at (bit_of q.disabled)) (bit_of q.disabled) (λ e. bit_of e.1) same.bit-count refl refl same.bits_are;
      }

    by_result : (q : Route) (b : Bool) → eqb (result_of phys route_indexes (kind_in kinds) q.phy.0 q.index.0) 0x00 ≡ b → SameTable (cond b (loaded s q) s) (cond b (replaced t q) t)
    by_result q true e = loaded-same q (exists phys route_indexes (kind_in kinds) q.phy.0 q.index.0 (eqb-true _ _ e))
    by_result q false e = same

    read_same : (r : Result Route) → ((after_read s r).answer ≡ answer_to phys route_indexes (kind_in kinds) r) × SameTable (after_read s r).shelf (table_after phys route_indexes (kind_in kinds) t r)
    unfolding after_read table_after
    read_same (refused r) = (refl, same)
    read_same (good q) =
        let e = result-same q.phy.0 q.index.0 in
        (ap good e, rw e (by_result q (eqb (result_of phys route_indexes (kind_in kinds) q.phy.0 q.index.0) 0x00) refl))

  -- by induction on the calls: each leaves the same, by its own promise
  pub run : (cs : List Call) (s : Shelf) (t : Table) → SameTable s t → Sent s cs
      → (answers_in cs ≡ table_answers phys route_indexes (kind_in kinds) (frames_in cs)) × SameTable (left s cs) (table_left phys route_indexes (kind_in kinds) t (frames_in cs))
  unfolding table_answers table_left
  run [] s t same sent = (refl, same)
  run (c ∷ cs) s t same sent =
      let one = read_same s t same (route_read c.frame) in
      let here : SameTable c.after (table_after phys route_indexes (kind_in kinds) t (route_read c.frame)) = rw sent.0.left one.1 in
      let rest = run cs c.after (table_after phys route_indexes (kind_in kinds) t (route_read c.frame)) here sent.1 in
      let first = sent.0.answers ∙ one.0 in
      (λ i. first i ∷ rest.0 i, rest.1)

  pub fresh-same : SameTable (fresh_shelf phys route_indexes kinds) empty
  fresh-same = record {
    phys_are = refl;
    route_indexes_are = refl;
    kinds_are = refl;
    entry-count = length-replicate {A = ℕ} shelf_entries 0;
    bit-count = length-replicate {A = ℕ} shelf_entries 1;
    entries_are = λ p i hp hi. get_or-replicate {A = ℕ} shelf_entries (place p i) 0 0 (omega arith);
    bits_are = λ p i hp hi. get_or-replicate {A = ℕ} shelf_entries (place p i) 1 0 (omega arith);
  }

-- for every list of frames from a fresh shelf, shelf and table return the same, and hold the same
pub agrees : (before s : Shelf) (phys route_indexes : ℕ) (kinds : List ℕ) (cs : List Call) → Done (made before phys route_indexes kinds) (good 0x00) s → Sent s cs
    → (answers_in cs ≡ table_answers phys route_indexes (kind_in kinds) (frames_in cs))
    × HoldsTable phys route_indexes kinds (left s cs) (table_left phys route_indexes (kind_in kinds) empty (frames_in cs))
agrees before s phys route_indexes kinds cs done sent =
    let m = made_told before phys route_indexes kinds s done in
    let n = told-says phys route_indexes kinds m.0 in
    run phys route_indexes kinds n cs s empty (rw m.1 (fresh-same phys route_indexes kinds n)) sent

-- a table that is equal everywhere is held as well
pub holds_also : (phys route_indexes : ℕ) (kinds : List ℕ) (s : Shelf) (t u : Table) → HoldsTable phys route_indexes kinds s t → ((p i : ℕ) → t p i ≡ u p i) → HoldsTable phys route_indexes kinds s u
holds_also phys route_indexes kinds s t u h e = record {
  phys_are = h.phys_are;
  route_indexes_are = h.route_indexes_are;
  kinds_are = h.kinds_are;
  entry-count = h.entry-count;
  bit-count = h.bit-count;
  entries_are = λ p i hp hi. h.entries_are p i hp hi ∙ ap (λ e. e.0) (e p i);
  bits_are = λ p i hp hi. h.bits_are p i hp hi ∙ ap (λ e. bit_of e.1) (e p i);
}

-- one table is held by one shelf: lists that agree at every place are equal
by-places : (a b : List ℕ) → length a ≡ shelf_entries → length b ≡ shelf_entries → ((p i : ℕ) → p < 16 → i < 64 → get_or a (place p i) 0 ≡ get_or b (place p i) 0) → a ≡ b
by-places a b la lb h =
    ext_get_or 0 a b (la ∙ sym lb) (λ k l.
    let e : place (k / 64) (k % 64) ≡ k = omega arith in
    let g : get_or a (place (k / 64) (k % 64)) 0 ≡ get_or b (place (k / 64) (k % 64)) 0 = h (k / 64) (k % 64) (omega arith) (omega arith) in
    rw e at g)

pub one-shelf : (phys route_indexes : ℕ) (kinds : List ℕ) (s u : Shelf) (t : Table) → HoldsTable phys route_indexes kinds s t → HoldsTable phys route_indexes kinds u t → s ≡ u
one-shelf phys route_indexes kinds s u t h k =
    let a = by-places s.entries u.entries h.entry-count k.entry-count (λ p i x y. h.entries_are p i x y ∙ sym (k.entries_are p i x y)) in
    let b = by-places s.disabled u.disabled h.bit-count k.bit-count (λ p i x y. h.bits_are p i x y ∙ sym (k.bits_are p i x y)) in
    let c = h.kinds_are ∙ sym k.kinds_are in
    let d = h.route_indexes_are ∙ sym k.route_indexes_are in
    let e = h.phys_are ∙ sym k.phys_are in
    λ i. record { entries = a i; disabled = b i; kinds = c i; route_indexes = d i; phys = e i }

-- what the two readers of a shelf say is what the table holds
module _ (phys route_indexes : ℕ) (kinds : List ℕ) (numbers : CanBeTold phys route_indexes kinds) (s : Shelf) (t : Table) (same : HoldsTable phys route_indexes kinds s t) (phy index : ℕ) where
  abbrev exists-here : Bool
  exists-here = eqb (result_of phys route_indexes (kind_in kinds) phy index) 0x00

  entry-by : (b : Bool) → exists-here ≡ b → cond b (get_or s.entries (place phy index) 0) 0 ≡ cond b (t phy index).0 0
  entry-by false e = refl
  entry-by true e =
      let x = exists phys route_indexes (kind_in kinds) phy index (eqb-true _ _ e) in
      let a = x.there in
      let b = x.below in
      let c = numbers.few in
      let d = numbers.short in
      same.entries_are phy index (omega arith) (omega arith)

  bit-read : (b : Bool) → cond (eqb (bit_of b) 0) 0 1 ≡ bit_of b
  bit-read true = refl
  bit-read false = refl

  bit-by : (b : Bool) → exists-here ≡ b → cond b (cond (eqb (get_or s.disabled (place phy index) 0) 0) 0 1) 2 ≡ cond b (bit_of (t phy index).1) 2
  bit-by false e = refl
  bit-by true e =
      let x = exists phys route_indexes (kind_in kinds) phy index (eqb-true _ _ e) in
      let a = x.there in
      let b = x.below in
      let c = numbers.few in
      let d = numbers.short in
      let f = same.bits_are phy index (omega arith) (omega arith) in
      ap (λ (n : ℕ). cond (eqb n 0) 0 1) f ∙ bit-read (t phy index).1

  pub entry_read : entry_at s phy index ≡ cond exists-here (t phy index).0 0
  unfolding entry_at
  entry_read = rw (result-same phys route_indexes kinds numbers s t same phy index) (entry-by exists-here refl)

  pub disabled-read : disabled_at s phy index ≡ cond exists-here (bit_of (t phy index).1) 2
  unfolding disabled_at
  disabled-read = rw (result-same phys route_indexes kinds numbers s t same phy index) (bit-by exists-here refl)
