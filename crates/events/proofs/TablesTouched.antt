-- Paper 9: an accepted event writes exactly the tables with the named expander in one of their levels, whatever was lent.
use mathlib.Core.Path.{◌≡◌, refl, sym, ap, ap₂, subst, ◌∙◌}
use mathlib.Core.Logic.{⊎_elim}
use mathlib.Core.List.{List, [], ◌∷◌, ◌++◌, append-nil}
use mathlib.Core.Bool.{Bool, true, false, cond}
use Prim.Native.Nat.{ℕ, zero, suc, ◌+◌, ◌*◌, ◌-◌, ◌≤◌, ◌<◌, ◌^◌}
use native.Mathlib.Omega.{arith}
use lib.ListN.{length, take, drop, replicate, length-append, length-drop, length-map}
use lib.Seq.{take_at, drop_at, drop-drop}
use lib.Dec.{T}
use Rattle.frames.specs.Bits.{bits_of, packed_in, zero_bit, zero_bits}
use Rattle.frames.specs.Refusals.{good}
use Rattle.frames.proofs.PackedBits.{Bits, length-bits_of, bits-drop}
use Rattle.frames.proofs.NumberBits.{bits-append}
use Rattle.frames.proofs.PackedRows.{bits-bits_of, unpacked}
use Rattle.files.specs.declared.Setting.{Setting}
use Rattle.files.specs.Lists.{In, any, is_in}
use Rattle.files.specs.Domain.{Domain, expander_at, phy_at, is_table, to_expander}
use Rattle.wiring.specs.phys.PhyCauses.{Place, place, places}
use Rattle.files.proofs.ListMembers.{is_true, was_true, and_left, and_right}
use Rattle.files.proofs.Domains.{attribute-range}
use Rattle.wiring.proofs.phys.WiredPhys.{in_places}
use Rattle.tables.specs.filling.Tables.{level_list, table, table_places, size, sizes, needed, offset_in, offset, stretch}
use Rattle.tables.specs.filling.Entries.{Entries, room_of, Enough}
use Rattle.tables.specs.JudgingCall.{judged}
use Rattle.tables.specs.events.TouchedTables.{touched, table_at, renewed, refilled}
use Rattle.tables.proofs.lists.LevelListLaw.{levels-empty}
use Rattle.tables.proofs.filling.FilledTable.{length-filled}
use Rattle.tables.proofs.filling.TableStretches.{is_place, is-place, place_is}
use Rattle.events.specs.declared.Event.{Event}
use Rattle.events.specs.Events.{edited}
use Rattle.events.specs.Calls.{event_call}
use Rattle.events.specs.EventLists.{Touches}
use Rattle.tables.proofs.events.NumbersRenewed.{length-piece, renewed-after, renewed-kept}
use Rattle.tables.proofs.events.LevelsAfterEvent.{levels-same, touched-same, attribute-same, needed-same, stretch-same}
use Rattle.frames.proofs.DisableBits.{bits-zero_bits}
use Rattle.events.proofs.EventLists.{accepted-is}

-- numbers renewed at places, each as wide as the table there
module _ (y : Domain) (test : Place → Bool) (new : Place → List ℕ) (fits : (v : Place) → T (test v) → length (new v) ≡ size y v) where
  abbrev piece : Place → List ℕ → List ℕ
  piece v l = cond (test v) (new v) (take (size y v) l)

  renewed-stretch : (i p : ℕ) (qs : List Place) (l : List ℕ) → In (place i p) qs → sizes y qs ≤ length l
      → take (size y (place i p)) (drop (offset_in y i p qs) (renewed test (size y) new qs l)) ≡ cond (test (place i p)) (new (place i p)) (take (size y (place i p)) (drop (offset_in y i p qs) l))
  unfolding renewed offset_in sizes
  renewed-stretch i p [] l m h = absurd m
  renewed-stretch i p (v ∷ qs) l m h = go (is_place i p v) refl (λ t. renewed-stretch i p qs (drop (size y v) l) t (omega (arith, length-drop (size y v) l)))
    where
      rest : List ℕ
      rest = renewed test (size y) new qs (drop (size y v) l)

      n : length (piece v l) ≡ size y v
      n = length-piece y test new fits v l (omega arith)

      go : (b : Bool) → is_place i p v ≡ b
          → (In (place i p) qs → take (size y (place i p)) (drop (offset_in y i p qs) rest) ≡ cond (test (place i p)) (new (place i p)) (take (size y (place i p)) (drop (offset_in y i p qs) (drop (size y v) l))))
          → take (size y (place i p)) (drop (cond b 0 (size y v + offset_in y i p qs)) (piece v l ++ rest))
          ≡ cond (test (place i p)) (new (place i p)) (take (size y (place i p)) (drop (cond b 0 (size y v + offset_in y i p qs)) l))
      go true q more =
          let z : v ≡ place i p = is-place i p v (was_true (is_place i p v) q) in
          subst (λ w. take (size y w) (piece v l ++ rest) ≡ cond (test w) (new w) (take (size y w) l)) z (take_at (piece v l) rest (size y v) n)
      go false q more =
          let t : In (place i p) qs = ⊎_elim (λ z. absurd (subst T q (place_is i p v z))) (λ k. k) m in
          let o : ℕ = offset_in y i p qs in
          let a : drop (size y v + o) (piece v l ++ rest) ≡ drop o rest = sym (drop-drop o (size y v) (piece v l ++ rest)) ∙ ap (drop o) (drop_at (piece v l) rest (size y v) n) in
          ap (take (size y (place i p))) a ∙ more t
          ∙ ap (λ m. cond (test (place i p)) (new (place i p)) (take (size y (place i p)) m)) (drop-drop o (size y v) l)

  renewed-length : (qs : List Place) (l : List ℕ) → sizes y qs ≤ length l → length (renewed test (size y) new qs l) ≡ length l
  unfolding renewed sizes
  renewed-length [] l h = refl
  renewed-length (v ∷ qs) l h =
      let rest : List ℕ = renewed test (size y) new qs (drop (size y v) l) in
      let k = length-drop (size y v) l in
      length-append (piece v l) rest ∙ omega (arith, length-piece y test new fits v l (omega arith), renewed-length qs (drop (size y v) l) (omega arith))

  bits-take : (n : ℕ) (l : List ℕ) → Bits l → Bits (take n l)
  bits-take zero l h = tt
  bits-take (suc n) [] h = tt
  bits-take (suc n) (x ∷ l) h = (h.0, bits-take n l h.1)

  renewed-bits : ((v : Place) → Bits (new v)) → (qs : List Place) (l : List ℕ) → Bits l → Bits (renewed test (size y) new qs l)
  unfolding renewed
  renewed-bits h [] l k = k
  renewed-bits h (v ∷ qs) l k =
      bits-append (piece v l) (renewed test (size y) new qs (drop (size y v) l)) (go (test v)) (renewed-bits h qs (drop (size y v) l) (bits-drop (size y v) l k))
    where
      go : (b : Bool) → Bits (cond b (new v) (take (size y v) l))
      go true = h v
      go false = bits-take (size y v) l k

-- a table is touched only where there is one
not_touched : (y : Domain) (e : ℕ) (v : Place) → is_table (phy_at y v.expander v.phy) ≡ false → (touched y e v ≡ false) × (size y v ≡ 0)
unfolding touched size is_in any
not_touched y e v h =
    let φ = phy_at y v.expander v.phy in (
      ap (is_in e) (levels-empty y v.expander v.phy (λ t. subst T h (and_left (is_table φ) _ (and_right (to_expander φ) _ t)))),
      ap (λ b. cond b (expander_at y v.expander).route_indexes 0) h,
    )

touched-table : (y : Domain) (e : ℕ) (v : Place) → T (touched y e v) → size y v ≡ (expander_at y v.expander).route_indexes
unfolding size
touched-table y e v t = go (is_table (phy_at y v.expander v.phy)) refl
  where
    go : (b : Bool) → is_table (phy_at y v.expander v.phy) ≡ b → cond b (expander_at y v.expander).route_indexes 0 ≡ (expander_at y v.expander).route_indexes
    go true q = refl
    go false q = absurd (subst T (not_touched y e v q).0 t)

module _ (y : Domain) (e : ℕ) where
  words-fit : (v : Place) → T (touched y e v) → length (table_at y v) ≡ size y v
  unfolding table
  words-fit v t = length-filled (expander_at y v.expander).route_indexes (level_list y v.expander v.phy) ∙ sym (touched-table y e v t)

  bits_fit : (v : Place) → T (touched y e v) → length (zero_bits (table_at y v)) ≡ size y v
  bits_fit v t = length-map (table_at y v) zero_bit ∙ words-fit v t

  abbrev is_table_at : Place → Bool
  is_table_at v = is_table (phy_at y v.expander v.phy)

  words-all : (l : List ℕ) → renewed (touched y e) (size y) (table_at y) (table_places y) l ≡ renewed (touched y e) (size y) (table_at y) (places y) l
  unfolding table_places
  words-all l = renewed-kept y (touched y e) (table_at y) words-fit is_table_at (not_touched y e) (places y) l

  bits-all : (l : List ℕ) → renewed (touched y e) (size y) (λ v. zero_bits (table_at y v)) (table_places y) l ≡ renewed (touched y e) (size y) (λ v. zero_bits (table_at y v)) (places y) l
  unfolding table_places
  bits-all l = renewed-kept y (touched y e) (λ v. zero_bits (table_at y v)) bits_fit is_table_at (not_touched y e) (places y) l

  module _ (before : Entries) (enough : Enough (needed y) (room_of before)) where
    long : needed y ≤ length (bits_of before.bits)
    long = omega (arith, length-bits_of before.bits, enough.bits)

    bits_are : bits_of (refilled y e before).bits ≡ renewed (touched y e) (size y) (λ v. zero_bits (table_at y v)) (places y) (bits_of before.bits)
    bits_are =
        let r : List ℕ = renewed (touched y e) (size y) (λ v. zero_bits (table_at y v)) (places y) (bits_of before.bits) in
        let n : length r ≡ length (bits_of before.bits) = renewed-length y (touched y e) (λ v. zero_bits (table_at y v)) bits_fit (places y) (bits_of before.bits) long in
        let m = length-bits_of before.bits in
        let o : 8 * length before.bits - length r ≡ 0 = omega arith in
        ap (λ l. bits_of (packed_in (length before.bits) l)) (bits-all (bits_of before.bits))
        ∙ unpacked (length before.bits) r (renewed-bits y (touched y e) (λ v. zero_bits (table_at y v)) bits_fit (λ v. bits-zero_bits (table_at y v)) (places y) (bits_of before.bits) (bits-bits_of before.bits)) (omega arith)
        ∙ ap (λ k. r ++ replicate k 0) o ∙ append-nil r

    wide : (i p : ℕ) → T (is_table (phy_at y i p)) → size y (place i p) ≡ (expander_at y i).route_indexes
    unfolding size
    wide i p t = ap (λ b. cond b (expander_at y i).route_indexes 0) (is_true (is_table (phy_at y i p)) t)

    there : (i p : ℕ) → T (is_table (phy_at y i p)) → In (place i p) (places y)
    there i p t = in_places y i p (attribute-range y 2 i p t (omega arith))

    words-touched : (i p : ℕ) → T (is_table (phy_at y i p))
        → stretch y (refilled y e before).words i p ≡ cond (touched y e (place i p)) (table y i p) (stretch y before.words i p)
    unfolding stretch
    words-touched i p t =
        let w = wide i p t in
        ap (λ l. take (expander_at y i).route_indexes (drop (offset y i p) l)) (words-all before.words)
        ∙ subst (λ k. take k (drop (offset y i p) (renewed (touched y e) (size y) (table_at y) (places y) before.words)) ≡ cond (touched y e (place i p)) (table y i p) (take k (drop (offset y i p) before.words))) w
        (renewed-stretch y (touched y e) (table_at y) words-fit i p (places y) before.words (there i p t) enough.words)

    bits-touched : (i p : ℕ) → T (is_table (phy_at y i p))
        → stretch y (bits_of (refilled y e before).bits) i p ≡ cond (touched y e (place i p)) (zero_bits (table y i p)) (stretch y (bits_of before.bits) i p)
    unfolding stretch
    bits-touched i p t =
        let w = wide i p t in
        ap (λ l. take (expander_at y i).route_indexes (drop (offset y i p) l)) bits_are
        ∙ subst (λ k. take k (drop (offset y i p) (renewed (touched y e) (size y) (λ v. zero_bits (table_at y v)) (places y) (bits_of before.bits))) ≡ cond (touched y e (place i p)) (zero_bits (table y i p)) (take k (drop (offset y i p) (bits_of before.bits)))) w
        (renewed-stretch y (touched y e) (λ v. zero_bits (table_at y v)) bits_fit i p (places y) (bits_of before.bits) (there i p t) long)

    words-after : drop (needed y) (refilled y e before).words ≡ drop (needed y) before.words
    words-after = ap (drop (needed y)) (words-all before.words) ∙ renewed-after y (touched y e) (table_at y) words-fit (places y) before.words enough.words

    bits-after : drop (needed y) (bits_of (refilled y e before).bits) ≡ drop (needed y) (bits_of before.bits)
    bits-after = ap (drop (needed y)) bits_are ∙ renewed-after y (touched y e) (λ v. zero_bits (table_at y v)) bits_fit (places y) (bits_of before.bits) long

-- an accepted event
pub touches : (setting : Setting) (file : List ℕ) (v : Event) (d d₂ : Domain) (before : Entries) → v.address < 2 ^ 64 → judged setting file ≡ good d
    → Enough (needed d) (room_of before) → event_call setting file v (room_of before) ≡ good d₂ → Touches d d₂ v.expander.0 before (refilled d₂ v.expander.0 before)
touches setting file v d d₂ before fits j enough h =
    let z : 2 ^ 64 ≡ 256 ^ 8 = refl in
    let k = accepted-is setting file v (room_of before) d d₂ (subst (λ y. v.address < y) z fits) j h in
    let e : ℕ = v.expander.0 in
    let q : ℕ = v.phy.0 in
    let a : ℕ = v.address in
    let y : Domain = edited d v in
    let n = needed-same d e q a k.free in
    let enough' : Enough (needed y) (room_of before) = subst (λ m. Enough m (room_of before)) (sym n) enough in
    subst (λ x. Touches d x e before (refilled x e before)) (sym k.is) (record {
      levels = levels-same d e q a k.free;
      words = λ i p t. words-touched y e before enough' i p (subst T (sym (attribute-same d e q a k.free 2 i p)) t)
          ∙ ap₂ (λ b l. cond b (table y i p) l) (touched-same d e q a k.free (place i p)) (stretch-same d e q a k.free before.words i p);
      bits = λ i p t. bits-touched y e before enough' i p (subst T (sym (attribute-same d e q a k.free 2 i p)) t)
          ∙ ap₂ (λ b l. cond b (zero_bits (table y i p)) l) (touched-same d e q a k.free (place i p)) (stretch-same d e q a k.free (bits_of before.bits) i p);
      words_after = subst (λ m. drop m (refilled y e before).words ≡ drop m before.words) n (words-after y e before enough');
      bits_after = subst (λ m. drop m (bits_of (refilled y e before).bits) ≡ drop m (bits_of before.bits)) n (bits-after y e before enough');
    })
