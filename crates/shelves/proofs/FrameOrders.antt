-- The frames written from one table, sent to a shelf in any order: they leave that table, and every other entry as it was. The
-- same frames again change nothing.
use Prim.Native.Nat.{ℕ, zero, suc, ◌+◌, ◌^◌, ◌≤◌, ◌<◌}
use mathlib.Core.Path.{◌≡◌, refl, sym, ◌∙◌, ap}
use mathlib.Core.Logic.{by_cases}
use mathlib.Core.Bool.{Bool, true, false, cond}
use mathlib.Core.List.Permᴰ
use mathlib.Core.List.{List, [], ◌∷◌, Memᴰ, Permᴰ}
use native.Mathlib.Decide.{ℕ_discrete, dec_lt}
use native.Mathlib.Omega.{arith}
use lib.ListN.{length, get_or, replicate}
use lib.Dec.{eqb}
use borrow.Author.Tests.{eq-eqb, ne_eqb, le-leb, lt-leb, lt-ltb, le-ltb}
use Rattle.frames.specs.Bits.{bits_of, bytes_for, zero_bit, marked}
use Rattle.frames.specs.Refusals.{good}
use Rattle.frames.specs.ConfigureRoute.{is_length, route_frame, route_written, route_read}
use Rattle.frames.specs.declared.Route.{Route}
use Rattle.frames.proofs.RouteRequests.{round_trip}
use Rattle.frames.proofs.DisableBits.{marked-bits}
use Rattle.shelves.specs.PlainTable.{Table, empty, replaced, result_of, answer_to, table_after, table_answers, table_left}
use Rattle.shelves.specs.Shelf.{CanBeTold, kind_in, made, Done}
use Rattle.shelves.specs.Calls.{Call, Sent, frames_in, answers_in, left, HoldsTable}
use Rattle.shelves.specs.TableFrames.{entry_in, request, written, frames_from, frames_of, with_table}
use Rattle.shelves.specs.declared.Shelf.{Shelf}
use Rattle.shelves.proofs.ToldKinds.{told-says, made_told}
use Rattle.shelves.proofs.ShelfAgrees.{put_same, put-other-phy, put-other-index, run, fresh-same, holds_also, one-shelf}

-- a member of a list is one of each list in another order
moved : {A : Type 0} {a : A} {l m : List A} → Permᴰ l m → Memᴰ a l → Memᴰ a m
moved Permᴰ.nil x = x
moved (Permᴰ.cons e d) (Memᴰ.head q) = Memᴰ.head (q ∙ e)
moved (Permᴰ.cons e d) (Memᴰ.tail x) = Memᴰ.tail (moved d x)
moved (Permᴰ.swap e f) (Memᴰ.head q) = Memᴰ.tail (Memᴰ.head (q ∙ e))
moved (Permᴰ.swap e f) (Memᴰ.tail (Memᴰ.head q)) = Memᴰ.head (q ∙ f)
moved (Permᴰ.swap e f) (Memᴰ.tail (Memᴰ.tail x)) = Memᴰ.tail (Memᴰ.tail x)
moved (Permᴰ.trans d d') x = moved d' (moved d x)

-- R entries at a phy, and every other entry as it was
module _ (t : Table) (phy route_indexes : ℕ) (entry : ℕ → ℕ × Bool) where
  table_in : (i : ℕ) → i < route_indexes → with_table t phy route_indexes entry phy i ≡ entry i
  table_in i h = simp (eq-eqb phy phy refl, lt-ltb i route_indexes h)

  table-past : (i : ℕ) → route_indexes ≤ i → with_table t phy route_indexes entry phy i ≡ t phy i
  table-past i h = simp (eq-eqb phy phy refl, le-ltb i route_indexes h)

  table_beside : (p i : ℕ) → (p ≡ phy → ⊥) → with_table t phy route_indexes entry p i ≡ t p i
  table_beside p i n = simp (ne_eqb p phy n)

-- two tables put there are equal where they are equal entry by entry
table_same : (t u : Table) (phy route_indexes : ℕ) (e f : ℕ → ℕ × Bool) → ((p i : ℕ) → (p ≡ phy → i < route_indexes → ⊥) → t p i ≡ u p i) → ((i : ℕ) → i < route_indexes → e i ≡ f i)
    → (p i : ℕ) → with_table t phy route_indexes e p i ≡ with_table u phy route_indexes f p i
table_same t u phy route_indexes e f other same p i =
    by_cases (ℕ_discrete p phy)
    (λ a. by_cases (dec_lt i route_indexes)
    (λ h. rw a (table_in t phy route_indexes e i h ∙ (same i h ∙ sym (table_in u phy route_indexes f i h))))
    (λ h. rw a (table-past t phy route_indexes e i (omega arith) ∙ (other phy i (λ _ k. h k) ∙ sym (table-past u phy route_indexes f i (omega arith))))))
    (λ a. table_beside t phy route_indexes e p i a ∙ (other p i (λ b _. a b) ∙ sym (table_beside u phy route_indexes f p i a)))

-- a table that can be loaded: its phy is a table phy, REQUEST LENGTH is 00h or 09h, and its entries are 64-bit words
pub record Loadable (phys route_indexes : ℕ) (kinds : List ℕ) (stated phy : ℕ) (entry : ℕ → ℕ × Bool) : Type 0 where
  pub byte : is_length stated ≡ true
  pub there : phy < phys
  pub table : kind_in kinds phy ≡ 1
  pub word : (i : ℕ) → i < route_indexes → (entry i).0 < 2 ^ 64

module _ (phys route_indexes : ℕ) (kinds : List ℕ) (numbers : CanBeTold phys route_indexes kinds) (stated phy : ℕ) (entry : ℕ → ℕ × Bool) (can : Loadable phys route_indexes kinds stated phy entry) where
  abbrev q : ℕ → Route
  q = request stated phy entry

  -- the writer writes every frame of the table
  writes : (i : ℕ) → written stated phy entry i ≡ route_frame (q i)
  unfolding route_written
  writes i =
      let a = numbers.few in
      let b = can.there in
      let l : phy ≤ 127 = omega arith in
      simp (can.byte, le-leb phy 127 l)

  -- a frame of the table
  record From (frame : List ℕ) : Type 0 where
    index : ℕ
    below : index < route_indexes
    is : frame ≡ route_frame (q index)

  read_back : (i : ℕ) → i < route_indexes → route_read (route_frame (q i)) ≡ good (q i)
  read_back i h =
      let a = numbers.few in
      let b = numbers.short in
      let c = can.there in
      round_trip (q i) (record { length = can.byte; phy = omega arith; index = omega arith; address = can.word i h })

  gives_00h : (i : ℕ) → i < route_indexes → result_of phys route_indexes (kind_in kinds) phy i ≡ 0x00
  unfolding result_of
  gives_00h i h = simp (lt-leb phys phy can.there, can.table, lt-ltb i route_indexes h)

  one : (t : Table) (i : ℕ) → i < route_indexes → table_after phys route_indexes (kind_in kinds) t (route_read (route_frame (q i))) ≡ replaced t (q i)
  unfolding table_after
  one t i h = simp (read_back i h, gives_00h i h)

  abbrev last : Table → List (List ℕ) → Table
  last = table_left phys route_indexes (kind_in kinds)

  abbrev step : Table → List ℕ → Table
  step t frame = table_after phys route_indexes (kind_in kinds) t (route_read frame)

  -- the frames of the table, and no others
  from : (i count : ℕ) → i + count ≤ route_indexes → (f : List ℕ) → Memᴰ f (frames_from stated phy entry i count) → From f
  unfolding frames_from
  from i zero h f m = elim m [ ]
  from i (suc count) h f (Memᴰ.head e) = record { index = i; below = omega arith; is = e ∙ writes i }
  from i (suc count) h f (Memᴰ.tail m) = from (i + 1) count (omega arith) f m

  among : (j i count : ℕ) → i ≤ j → j < i + count → Memᴰ (route_frame (q j)) (frames_from stated phy entry i count)
  unfolding frames_from
  among j i zero a b = absurd (omega arith)
  among j i (suc count) a b =
      by_cases (ℕ_discrete j i) (λ e. Memᴰ.head (ap (λ (n : ℕ). route_frame (q n)) e ∙ sym (writes i))) (λ e. Memᴰ.tail (among j (i + 1) count (omega arith) (omega arith)))

  answer_00h : (fs : List (List ℕ)) → ((f : List ℕ) → Memᴰ f fs → From f) → table_answers phys route_indexes (kind_in kinds) fs ≡ replicate (length fs) (good 0x00)
  unfolding table_answers
  answer_00h [] all = refl
  answer_00h (f ∷ fs) all =
      let w = all f (Memᴰ.head refl) in
      let s : answer_to phys route_indexes (kind_in kinds) (route_read f) ≡ good 0x00 =
      ap (λ (g : List ℕ). answer_to phys route_indexes (kind_in kinds) (route_read g)) w.is
      ∙ (ap (answer_to phys route_indexes (kind_in kinds)) (read_back w.index w.below) ∙ ap good (gives_00h w.index w.below)) in
      let r = answer_00h fs (λ g m. all g (Memᴰ.tail m)) in
      λ i. s i ∷ r i

  module _ (t₀ : Table) where
    -- the table that is to be left
    abbrev goal : Table
    goal = with_table t₀ phy route_indexes entry

    -- a frame of the table leaves what is right as it is
    keeps : (t : Table) (i : ℕ) → i < route_indexes → (p j : ℕ) → t p j ≡ goal p j → replaced t (q i) p j ≡ goal p j
    keeps t i h p j e =
        by_cases (ℕ_discrete p phy)
        (λ a. by_cases (ℕ_discrete j i)
        (λ b. rw (a, b) (put_same t (q i) ∙ sym (table_in t₀ phy route_indexes entry i h)))
        (λ b. let f : t phy j ≡ goal phy j = rw a at e in rw a (put-other-index t (q i) j b ∙ f)))
        (λ a. put-other-phy t (q i) p j a ∙ e)

    -- what is right stays right
    stays : (fs : List (List ℕ)) → ((f : List ℕ) → Memᴰ f fs → From f) → (t : Table) (p j : ℕ) → t p j ≡ goal p j → last t fs p j ≡ goal p j
    unfolding table_left
    stays [] all t p j e = e
    stays (f ∷ fs) all t p j e =
        let w = all f (Memᴰ.head refl) in
        let s : step t f ≡ replaced t (q w.index) = ap (step t) w.is ∙ one t w.index w.below in
        rw s (stays fs (λ g m. all g (Memᴰ.tail m)) (replaced t (q w.index)) p j (keeps t w.index w.below p j e))

    -- once its frame came, an entry is right
    reached : (fs : List (List ℕ)) → ((f : List ℕ) → Memᴰ f fs → From f) → (t : Table) (j : ℕ) → j < route_indexes → Memᴰ (route_frame (q j)) fs → last t fs phy j ≡ goal phy j
    unfolding table_left
    reached [] all t j h m = elim m [ ]
    reached (f ∷ fs) all t j h (Memᴰ.head e) =
        let s : step t f ≡ replaced t (q j) = ap (step t) (sym e) ∙ one t j h in
        rw s (stays fs (λ g m. all g (Memᴰ.tail m)) (replaced t (q j)) phy j (put_same t (q j) ∙ sym (table_in t₀ phy route_indexes entry j h)))
    reached (f ∷ fs) all t j h (Memᴰ.tail m) = reached fs (λ g x. all g (Memᴰ.tail x)) (step t f) j h m

  module _ (frames : List (List ℕ)) (order : Permᴰ (frames_of stated phy entry route_indexes) frames) where
    all : (f : List ℕ) → Memᴰ f frames → From f
    all f m = from 0 route_indexes (omega arith) f (moved (Permᴰ.symm order) m)

    table-left : (t : Table) (p j : ℕ) → last t frames p j ≡ with_table t phy route_indexes entry p j
    table-left t p j =
        by_cases (ℕ_discrete p phy)
        (λ a. by_cases (dec_lt j route_indexes)
        (λ h. rw a (reached t frames all t j h (moved order (among j 0 route_indexes (omega arith) (omega arith)))))
        (λ h. rw a (stays t frames all t phy j (sym (table-past t phy route_indexes entry j (omega arith))))))
        (λ a. stays t frames all t p j (sym (table_beside t phy route_indexes entry p j a)))

  -- from any shelf that holds a table, in any order: each answer is 00h, the table is there, and every other entry is as it was
  pub any_order : (s : Shelf) (t : Table) (cs : List Call) → HoldsTable phys route_indexes kinds s t → Sent s cs → Permᴰ (frames_of stated phy entry route_indexes) (frames_in cs)
      → (answers_in cs ≡ replicate (length (frames_in cs)) (good 0x00)) × HoldsTable phys route_indexes kinds (left s cs) (with_table t phy route_indexes entry)
  any_order s t cs holds sent order =
      let r = run phys route_indexes kinds numbers cs s t holds sent in
      (r.0 ∙ answer_00h (frames_in cs) (all (frames_in cs) order), holds_also phys route_indexes kinds _ _ (with_table t phy route_indexes entry) r.1 (table-left (frames_in cs) order t))

  -- the same frames again, in any order, change nothing
  pub again : (s : Shelf) (t : Table) (cs ds : List Call) → HoldsTable phys route_indexes kinds s t → Sent s cs → Permᴰ (frames_of stated phy entry route_indexes) (frames_in cs)
      → Sent (left s cs) ds → Permᴰ (frames_of stated phy entry route_indexes) (frames_in ds) → left (left s cs) ds ≡ left s cs
  again s t cs ds holds sent order sent' order' =
      let a = (any_order s t cs holds sent order).1 in
      let b = (any_order (left s cs) (with_table t phy route_indexes entry) ds a sent' order').1 in
      one-shelf phys route_indexes kinds _ _ (with_table t phy route_indexes entry)
      (holds_also phys route_indexes kinds _ _ (with_table t phy route_indexes entry) b
      (table_same (with_table t phy route_indexes entry) t phy route_indexes entry entry (λ p i n. by_cases (ℕ_discrete p phy)
      (λ x. rw x (table-past t phy route_indexes entry i (let m : i < route_indexes → ⊥ = λ k. n x k in omega arith)))
      (λ x. table_beside t phy route_indexes entry p i x)) (λ i h. refl))) a

-- words of which each has its disable bit set exactly where it is 0, as the table call leaves them: so is each entry
entry_zero : (words bits : List ℕ) (first i : ℕ) (value : ℕ → ℕ) → get_or words (first + i) 0 ≡ value i
    → get_or (bits_of bits) (first + i) 0 ≡ zero_bit (get_or words (first + i) 0) → entry_in words bits first i ≡ (value i, eqb (value i) 0)
entry_zero words bits first i value e f =
    let g : eqb (get_or (bits_of bits) (first + i) 0) 1 ≡ eqb (value i) 0 = ap (λ (n : ℕ). eqb n 1) (f ∙ ap zero_bit e) ∙ is_zero (eqb (value i) 0) in
    λ j. (e j, g j)
  where
    is_zero : (b : Bool) → eqb (cond b 1 0) 1 ≡ b
    is_zero true = refl
    is_zero false = refl

-- one configured table: R words from word `first` on, which are these values, with their bits
pub record Configured (route_indexes : ℕ) (words bits : List ℕ) (first : ℕ) (value : ℕ → ℕ) : Type 0 where
  pub listed : (i : ℕ) → i < route_indexes → get_or words (first + i) 0 ≡ value i
  pub bit : (i : ℕ) → i < route_indexes → get_or (bits_of bits) (first + i) 0 ≡ zero_bit (get_or words (first + i) 0)

-- its frames, sent to a fresh shelf of the same R whose phy is a table phy in any order: each is answered 00h, and they leave exactly
-- that table, an entry disabled exactly where it is 0, and every other entry zero and disabled as it was
pub table_obeyed : (before s : Shelf) (phys route_indexes : ℕ) (kinds : List ℕ) (stated phy first : ℕ) (words bits : List ℕ) (value : ℕ → ℕ) (cs : List Call)
    → Done (made before phys route_indexes kinds) (good 0x00) s → Configured route_indexes words bits first value → Loadable phys route_indexes kinds stated phy (entry_in words bits first)
    → Sent s cs → Permᴰ (frames_of stated phy (entry_in words bits first) route_indexes) (frames_in cs)
    → (answers_in cs ≡ replicate (length (frames_in cs)) (good 0x00)) × HoldsTable phys route_indexes kinds (left s cs) (with_table empty phy route_indexes (λ i. (value i, eqb (value i) 0)))
table_obeyed before s phys route_indexes kinds stated phy first words bits value cs done table can sent order =
    let m = made_told before phys route_indexes kinds s done in
    let n = told-says phys route_indexes kinds m.0 in
    let e = entry_in words bits first in
    let r = any_order phys route_indexes kinds n stated phy e can s empty cs (rw m.1 (fresh-same phys route_indexes kinds n)) sent order in (
      r.0,
      holds_also phys route_indexes kinds _ _ (with_table empty phy route_indexes (λ i. (value i, eqb (value i) 0))) r.1
          (table_same empty empty phy route_indexes e (λ i. (value i, eqb (value i) 0)) (λ p i _. refl) (λ i h. entry_zero words bits first i value (table.listed i h) (table.bit i h))),
    )

-- R words, and the bytes into which the table call's bits of them were put, are such a table
pub configured : (words before : List ℕ) → bytes_for (length words) ≤ length before → Configured (length words) words (marked words before) 0 (λ i. get_or words i 0)
configured words before room = record {
  listed = λ i h. let e : 0 + i ≡ i = omega arith in ap (λ (k : ℕ). get_or words k 0) e;
  bit = λ i h. let e : 0 + i ≡ i = omega arith in
      ap (λ (k : ℕ). get_or (bits_of (marked words before)) k 0) e ∙ (marked-bits words before room i h ∙ ap (λ (k : ℕ). zero_bit (get_or words k 0)) (sym e));
}
