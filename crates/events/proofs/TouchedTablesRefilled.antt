-- Writing the touched tables afresh over configured entries is configuring afresh: a level list is the own lists of its levels, one after
-- the other, and an event changes the own list of the named expander alone.
use mathlib.Core.Path.{◌≡◌, refl, sym, ap, ap₂, subst, ◌∙◌}
use mathlib.Core.Logic.{inl, inr}
use mathlib.Core.List.{List, [], ◌∷◌, ◌++◌, flat_map, append_assoc, map-append}
use mathlib.Core.Bool.{Bool, true, false, cond}
use Prim.Native.Nat.{ℕ, ◌+◌, ◌*◌, ◌-◌, ◌≤◌}
use native.Mathlib.Omega.{arith}
use lib.ListN.{length, take, drop, replicate, length-append, length-map}
use lib.Seq.{take_at, drop_at}
use lib.Dec.{T}
use Rattle.frames.specs.Bits.{bits_of, packed_in, bytes_for, packed, zero_bit, zero_bits, marked}
use Rattle.frames.proofs.PackedRows.{Bytes, bytes-append, bytes_drop, bits_of-append, packed-back, unpacked, bytes-packed_in}
use Rattle.frames.proofs.DisableBits.{bits-zero_bits, marked-room, length_marked}
use Rattle.files.specs.Lists.{In}
use Rattle.files.specs.Domain.{Domain, expander_at, phy_at, is_table}
use Rattle.wiring.specs.phys.PhyCauses.{Place, places}
use Rattle.files.specs.PhyReplaced.{set_phy}
use Rattle.wiring.specs.WiringCauses.{Linked}
use Rattle.files.proofs.ListMembers.{is_true, kept, is_in-of}
use Rattle.wiring.proofs.phys.WiredPhys.{Wired}
use Rattle.tables.specs.levels.Levels.{levels}
use Rattle.tables.specs.filling.Tables.{level_list, table, table_places, tables, size}
use Rattle.tables.specs.filling.Entries.{Entries, entries, put_before}
use Rattle.tables.specs.lists.OwnLists.{own_words, own_words_of_levels}
use Rattle.tables.specs.events.TouchedTables.{touched, table_at, renewed, refilled}
use Rattle.tables.specs.events.ReplugCall.{pluggable, replug}
use Rattle.tables.proofs.lists.LevelListLaw.{law}
use Rattle.tables.proofs.filling.FilledTable.{length-filled}
use Rattle.tables.proofs.events.LevelsAfterEvent.{flat_map_same, route_indexes_same, levels-same, touched-same, own_other, table-places-same, width_same}

-- at places where old numbers stand one after the other, new ones where they differ
pub renewed-is : (test : Place → Bool) (width : Place → ℕ) (new old : Place → List ℕ) (qs : List Place) (rest : List ℕ)
    → ((v : Place) → In v qs → (length (old v) ≡ width v) × ((test v ≡ false) → old v ≡ new v)) → renewed test width new qs (flat_map old qs ++ rest) ≡ flat_map new qs ++ rest
unfolding renewed flat_map
renewed-is test width new old [] rest h = refl
renewed-is test width new old (v ∷ qs) rest h =
    let k = h v (inl refl) in
    let a : (old v ++ flat_map old qs) ++ rest ≡ old v ++ (flat_map old qs ++ rest) = append_assoc (old v) (flat_map old qs) rest in
    let t : take (width v) ((old v ++ flat_map old qs) ++ rest) ≡ old v = ap (take (width v)) a ∙ take_at (old v) (flat_map old qs ++ rest) (width v) k.0 in
    let o : drop (width v) ((old v ++ flat_map old qs) ++ rest) ≡ flat_map old qs ++ rest = ap (drop (width v)) a ∙ drop_at (old v) (flat_map old qs ++ rest) (width v) k.0 in
    ap₂ ◌++◌ (piece (test v) refl t) (ap (renewed test width new qs) o ∙ renewed-is test width new old qs rest (λ w m. h w (inr m)))
    ∙ sym (append_assoc (new v) (flat_map new qs) rest)
  where
    piece : (b : Bool) → test v ≡ b → take (width v) ((old v ++ flat_map old qs) ++ rest) ≡ old v → cond b (new v) (take (width v) ((old v ++ flat_map old qs) ++ rest)) ≡ new v
    piece true q t = refl
    piece false q t = t ∙ (h v (inl refl)).1 q

zero_bits_flat : (f : Place → List ℕ) (qs : List Place) → zero_bits (flat_map f qs) ≡ flat_map (λ v. zero_bits (f v)) qs
unfolding flat_map
zero_bits_flat f [] = refl
zero_bits_flat f (v ∷ qs) = map-append zero_bit (f v) (flat_map f qs) ∙ ap (λ l. zero_bits (f v) ++ l) (zero_bits_flat f qs)

-- padding bits and the bits of the bytes after
abbrev after_bits : ℕ → List ℕ → List ℕ
after_bits n bits = replicate (8 * bytes_for n - n) 0 ++ bits_of (drop (bytes_for n) bits)

module _ (words bits : List ℕ) (h : bytes_for (length words) ≤ length bits) where
  marked-is : bits_of (marked words bits) ≡ zero_bits words ++ after_bits (length words) bits
  marked-is =
      let n : ℕ = bytes_for (length words) in
      let l : length (zero_bits words) ≡ length words = length-map words zero_bit in
      let p : packed (zero_bits words) ≡ packed_in n (zero_bits words) = ap (λ k. packed_in (bytes_for k) (zero_bits words)) l in
      let u : bits_of (packed_in n (zero_bits words)) ≡ zero_bits words ++ replicate (8 * n - length (zero_bits words)) 0 = unpacked n (zero_bits words) (bits-zero_bits words) (omega arith) in
      ap bits_of (marked-room words bits h) ∙ bits_of-append (packed (zero_bits words)) (drop n bits) ∙ ap (λ s. bits_of s ++ bits_of (drop n bits)) p
      ∙ ap (λ s. s ++ bits_of (drop n bits)) (u ∙ ap (λ k. zero_bits words ++ replicate (8 * n - k) 0) l)
      ∙ append_assoc (zero_bits words) (replicate (8 * n - length words) 0) (bits_of (drop n bits))

  marked-bytes : Bytes bits → Bytes (marked words bits)
  marked-bytes b =
      let n : ℕ = bytes_for (length words) in
      subst Bytes (sym (marked-room words bits h))
      (bytes-append (packed (zero_bits words)) (drop n bits) (bytes-packed_in (bytes_for (length (zero_bits words))) (zero_bits words) (bits-zero_bits words)) (bytes_drop n bits b))

-- d, and d with phy q of expander e plugged or pulled, both accepted
module _ (d : Domain) (e q a : ℕ) (f : T (pluggable (phy_at d e q))) (wires : Wired d) (linked : Linked d)
    (wires' : Wired (set_phy d e q (replug a (phy_at d e q)))) (linked' : Linked (set_phy d e q (replug a (phy_at d e q)))) where
  abbrev d' : Domain
  d' = set_phy d e q (replug a (phy_at d e q))

  list_same : (v : Place) → touched d e v ≡ false → level_list d' v.expander v.phy ≡ level_list d v.expander v.phy
  unfolding own_words_of_levels touched
  list_same v k =
      let x : ℕ = v.expander in
      let p : ℕ = v.phy in
      law d' wires' linked' x p ∙ ap (flat_map (own_words d')) (levels-same d e q a f x p)
      ∙ flat_map_same (own_words d') (own_words d) (levels d x p) (λ i m. own_other d e q a f i (λ o. subst T k (is_in-of e (levels d x p) (subst (λ w. In w (levels d x p)) o m))))
      ∙ sym (law d wires linked x p)

  pub table_same : (v : Place) → touched d e v ≡ false → table_at d v ≡ table_at d' v
  unfolding table
  table_same v k = ap₂ (λ n l. take n (l ++ replicate n 0)) (sym (route_indexes_same d e q a f v.expander)) (sym (list_same v k))

  -- a table at its place has as many words as the place is wide
  wide : (y : Domain) (v : Place) → In v (table_places y) → length (table_at y v) ≡ size y v
  unfolding table table_places size
  wide y v h =
      let t = (kept (λ w. is_table (phy_at y w.expander w.phy)) (places y) v h).1 in
      length-filled (expander_at y v.expander).route_indexes (level_list y v.expander v.phy) ∙ sym (ap (λ b. cond b (expander_at y v.expander).route_indexes 0) (is_true (is_table (phy_at y v.expander v.phy)) t))

  here : (v : Place) → In v (table_places d') → In v (table_places d)
  here v = subst (In v) (table-places-same d e q a f)

  words-at : (v : Place) → In v (table_places d') → (length (table_at d v) ≡ size d' v) × ((touched d' e v ≡ false) → table_at d v ≡ table_at d' v)
  words-at v h = (wide d v (here v h) ∙ sym (width_same d e q a f v), λ k. table_same v (sym (touched-same d e q a f v) ∙ k))

  bits_at : (v : Place) → In v (table_places d') → (length (zero_bits (table_at d v)) ≡ size d' v) × ((touched d' e v ≡ false) → zero_bits (table_at d v) ≡ zero_bits (table_at d' v))
  bits_at v h = let w = words-at v h in (length-map (table_at d v) zero_bit ∙ w.0, λ k. ap zero_bits (w.1 k))

  old-tables : tables d ≡ flat_map (table_at d) (table_places d')
  unfolding tables
  old-tables = ap (flat_map (table_at d)) (sym (table-places-same d e q a f))

  new-tables : tables d' ≡ flat_map (table_at d') (table_places d')
  unfolding tables
  new-tables = refl

  pub tables-length : length (tables d') ≡ length (tables d)
  unfolding flat_map
  tables-length = ap length new-tables ∙ sym (same (table_places d') (λ v h. ((words-at v h).0, wide d' v h))) ∙ sym (ap length old-tables)
    where
      same : (qs : List Place) → ((v : Place) → In v qs → (length (table_at d v) ≡ size d' v) × (length (table_at d' v) ≡ size d' v)) → length (flat_map (table_at d) qs) ≡ length (flat_map (table_at d') qs)
      same [] h = refl
      same (v ∷ qs) h =
          length-append (table_at d v) (flat_map (table_at d) qs) ∙ ap₂ ◌+◌ ((h v (inl refl)).0 ∙ sym (h v (inl refl)).1) (same qs (λ w m. h w (inr m)))
          ∙ sym (length-append (table_at d' v) (flat_map (table_at d') qs))

  -- over configured entries
  pub refilled-is : (before : Entries) → bytes_for (length (tables d)) ≤ length before.bits → Bytes before.bits
      → refilled d' e (put_before (tables d) before) ≡ put_before (tables d') before
  refilled-is before h b = ap₂ entries words bits
    where
      n : length (tables d') ≡ length (tables d)
      n = tables-length

      words : renewed (touched d' e) (size d') (table_at d') (table_places d') (tables d ++ drop (length (tables d)) before.words) ≡ tables d' ++ drop (length (tables d')) before.words
      words =
          ap (λ l. renewed (touched d' e) (size d') (table_at d') (table_places d') (l ++ drop (length (tables d)) before.words)) old-tables
          ∙ renewed-is (touched d' e) (size d') (table_at d') (table_at d) (table_places d') (drop (length (tables d)) before.words) words-at
          ∙ ap₂ (λ l k. l ++ drop k before.words) (sym new-tables) (sym n)

      row : renewed (touched d' e) (size d') (λ v. zero_bits (table_at d' v)) (table_places d') (bits_of (marked (tables d) before.bits)) ≡ bits_of (marked (tables d') before.bits)
      row =
          ap (renewed (touched d' e) (size d') (λ v. zero_bits (table_at d' v)) (table_places d'))
          (marked-is (tables d) before.bits h ∙ ap (λ l. l ++ after_bits (length (tables d)) before.bits) (ap zero_bits old-tables ∙ zero_bits_flat (table_at d) (table_places d')))
          ∙ renewed-is (touched d' e) (size d') (λ v. zero_bits (table_at d' v)) (λ v. zero_bits (table_at d v)) (table_places d') (after_bits (length (tables d)) before.bits) bits_at
          ∙ ap₂ (λ l k. l ++ after_bits k before.bits) (sym (ap zero_bits new-tables ∙ zero_bits_flat (table_at d') (table_places d'))) (sym n)
          ∙ sym (marked-is (tables d') before.bits (subst (λ k. bytes_for k ≤ length before.bits) (sym n) h))

      bits : packed_in (length (marked (tables d) before.bits)) (renewed (touched d' e) (size d') (λ v. zero_bits (table_at d' v)) (table_places d') (bits_of (marked (tables d) before.bits))) ≡ marked (tables d') before.bits
      bits =
          ap₂ packed_in (length_marked (tables d) before.bits ∙ sym (length_marked (tables d') before.bits)) row
          ∙ packed-back (marked (tables d') before.bits) (marked-bytes (tables d') before.bits (subst (λ k. bytes_for k ≤ length before.bits) (sym n) h) b)
