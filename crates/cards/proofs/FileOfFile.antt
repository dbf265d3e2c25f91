-- The file of a file's domain, in bytes of the file: unit by unit, by what reading the unit yields.
use Prim.Native.Nat.{ℕ, zero, suc, ◌+◌, ◌-◌, ◌*◌, ◌/◌, ◌%◌}
use mathlib.Core.Path.{◌≡◌, refl, sym, ◌∙◌, ap}
use mathlib.Core.Bool.{Bool, true, false, ◌&&◌}
use mathlib.Core.List.{List, [], ◌∷◌, ◌++◌, append_assoc}
use native.Mathlib.Omega.{arith}
use lib.ListN.{length, take, drop, replicate}
use lib.Dec.{eqb}
use borrow.Author.Tests.{eqb-true}
use Rattle.frames.specs.Bytes.{byte, bits, number_at, bytes_of}
use Rattle.frames.specs.Refusals.{Result, refused, good, unless, then, refusal}
use Rattle.frames.specs.Sizes.{frame_size, by_itself}
use Rattle.frames.specs.ReportGeneral.{general_fields, general_read}
use Rattle.frames.specs.Discovery.{discover_fixed, discover_fields, by_result, discovered, discover_in, discover_read}
use Rattle.frames.specs.declared.Discovered.{Discovered}
use Rattle.cards.specs.ShortFrames.{short_general, short_vacant, short_discover}
use Rattle.frames.specs.declared.Discover.{Discover}
use Rattle.frames.specs.declared.Response.{Response}
use Rattle.frames.specs.declared.Response.TheVariants.{ReportGeneral, Discover as DiscoverResponse}
use Rattle.files.specs.declared.Setting.{Setting}
use Rattle.files.specs.declared.ExpanderUnit.{ExpanderUnit}
use Rattle.files.specs.declared.Phy.{Phy}
use Rattle.files.specs.declared.Phy.TheVariants.{Vacant, Present}
use Rattle.files.specs.Settings.{in_range}
use Rattle.files.specs.Domain.{Domain}
use Rattle.files.specs.ReadDomain.{Bytes}
use Rattle.files.specs.File.{parsed, placed, size_at, frame_at, fields_of, ranged, phy_of, phy_unit, phy_units, unit_of, unit_tested, expander_unit, expander_of, expanders, header_unit, domain_read}
use Rattle.files.specs.declared.Parsed.{Parsed}
use Rattle.files.specs.ShortFile.{or_stay}
use Rattle.files.proofs.ListMembers.{and_left, and_right, is_true}
use Rattle.files.proofs.CallResults.{never, good-one, unless-good, then-good}
use Rattle.files.proofs.ReadDomain.{part}
use Rattle.files.proofs.UnitReading.{general-is, tested-same, phys-count}
use Rattle.cards.specs.FileOf.{general_of, discover_of, phy_frame, phys_frames, unit_head, units_of, file_of}
use Rattle.cards.specs.FileOfFile.{eight, kept_general, kept_end, kept_by, kept_discover, kept_phys, kept_expanders, kept_file}

-- the bytes of a number are those that it was read of
bytes-of : (s : List ℕ) (i k : ℕ) → Bytes s → bytes_of (suc k) (number_at s i (suc k)) ≡ bytes_of k (number_at s i k) ++ (byte s (i + k) ∷ [])
unfolding bytes_of number_at
bytes-of s i k b =
    let h = b (i + k) in
    let q : (number_at s i k * 256 + byte s (i + k)) / 256 ≡ number_at s i k = omega arith in
    let r : (number_at s i k * 256 + byte s (i + k)) % 256 ≡ byte s (i + k) = omega arith in
    rw (q, r)

two-of : (s : List ℕ) (i : ℕ) → Bytes s → bytes_of 2 (number_at s i 2) ≡ byte s (i + 0) ∷ byte s (i + 1) ∷ []
unfolding bytes_of number_at
two-of s i b = bytes-of s i 1 b ∙ ap (λ (l : List ℕ). l ++ (byte s (i + 1) ∷ [])) (bytes-of s i 0 b)

eight-of : (s : List ℕ) (i : ℕ) → Bytes s → bytes_of 8 (number_at s i 8) ≡ eight s i
eight-of s i b =
    let z : i + 0 ≡ i = omega arith in
    bytes-of s i 7 b ∙ ap (λ (l : List ℕ). l ++ (byte s (i + 7) ∷ [])) (bytes-of s i 6 b
    ∙ ap (λ (l : List ℕ). l ++ (byte s (i + 6) ∷ [])) (bytes-of s i 5 b
    ∙ ap (λ (l : List ℕ). l ++ (byte s (i + 5) ∷ [])) (bytes-of s i 4 b
    ∙ ap (λ (l : List ℕ). l ++ (byte s (i + 4) ∷ [])) (bytes-of s i 3 b
    ∙ ap (λ (l : List ℕ). l ++ (byte s (i + 3) ∷ [])) (bytes-of s i 2 b
    ∙ ap (λ (l : List ℕ). l ++ (byte s (i + 2) ∷ [])) (two-of s i b)))))) ∙ rw z

-- a frame that was read
by_itself_lem : {A : Type 0} (kind : Response) (rest : List ℕ → Result A) (s : List ℕ) (a : A) → by_itself kind rest s ≡ good a → rest s ≡ good a
by_itself_lem kind rest s a e =
    let t = then-good (frame_size kind s) (λ size. unless (eqb (length s) size) (refusal 1 0 0) (rest s)) a e in
    (unless-good (eqb (length s) t.0) (refusal 1 0 0) (rest s) a t.2).1

discover-read : (s : List ℕ) (D : Discovered) → discover_read s ≡ good D → discovered s ≡ D
unfolding discover_read
discover-read s D e = good-one (discovered s) D (unless-good (discover_fixed s) (refusal 2 0 0) (good (discovered s)) D (by_itself_lem DiscoverResponse discover_in s D e)).1

-- a unit's frame, and what was read of it
record Framed {A : Type 0} (read : List ℕ → Result A) (file : List ℕ) (from : ℕ) (f : Parsed A) : Type 0 where
  size : ℕ
  reads : read (take size (drop from file)) ≡ good f.value
  next : f.next ≡ from + size

framed : {A : Type 0} (kind : Response) (read : List ℕ → Result A) (i p : ℕ) (file : List ℕ) (from : ℕ) (f : Parsed A) → placed i p (frame_at kind read file from) ≡ good f
    → Framed read file from f
framed kind read i p file from f e = go (frame_at kind read file from) refl e
  where
    inner : frame_at kind read file from ≡ good f → Framed read file from f
    inner q =
        let t = then-good (size_at kind file from) (λ size. then (read (take size (drop from file))) (λ a. good (parsed a (from + size)))) f q in
        let s = then-good (read (take t.0 (drop from file))) (λ a. good (parsed a (from + t.0))) f t.2 in
        let z : parsed s.0 (from + t.0) ≡ f = good-one (parsed s.0 (from + t.0)) f s.2 in
        record { size = t.0; reads = s.1 ∙ ap (λ (y : Parsed _). good y.value) z; next = sym (ap (λ (y : Parsed _). y.next) z) }

    go : (x : Result (Parsed _)) → frame_at kind read file from ≡ x → placed i p x ≡ good f → Framed read file from f
    go (refused r) q h = never (refusal r.number i p) f h
    go (good g) q h = inner (q ∙ h)

-- DISCOVER
no_bytes : bytes_of 8 0 ≡ replicate 8 0
unfolding bytes_of
no_bytes = refl

discover-kept : (s : List ℕ) (b : Bytes s) (own_address p : ℕ) (t : Bool) → eqb (bits 4 3 (byte s 12)) 0 ≡ t → byte s 9 ≡ p → number_at s 16 8 ≡ own_address
    → short_discover (discover_of own_address p (fields_of t (discover_fields s)))
    ≡ 0x41 ∷ 0x10 ∷ 0 ∷ 0 ∷ 0 ∷ 0 ∷ 0 ∷ 0 ∷ 0 ∷ byte s 9 ∷ 0 ∷ 0 ∷ bits 4 3 (byte s 12) * 16 ∷ 0 ∷ 0 ∷ 0 ∷ (eight s 16 ++ (kept_end t s ++ (replicate 11 0 ++ (bits 0 4 (byte s 44) ∷ replicate 7 0))))
unfolding short_discover
discover-kept s b own_address p true q h o =
    let d : bits 4 3 (byte s 12) % 8 ≡ bits 4 3 (byte s 12) = omega arith in
    let a : bits 0 4 (byte s 44) % 16 ≡ bits 0 4 (byte s 44) = omega arith in
    let w : bytes_of 8 own_address ≡ eight s 16 = ap (bytes_of 8) (sym o) ∙ eight-of s 16 b in
    rw (w, no_bytes, d, a, h)
discover-kept s b own_address p false q h o =
    let d : bits 4 3 (byte s 12) % 8 ≡ bits 4 3 (byte s 12) = omega arith in
    let a : bits 0 4 (byte s 44) % 16 ≡ bits 0 4 (byte s 44) = omega arith in
    let w : bytes_of 8 own_address ≡ eight s 16 = ap (bytes_of 8) (sym o) ∙ eight-of s 16 b in
    let v : bytes_of 8 (number_at s 24 8) ≡ eight s 24 = eight-of s 24 b in
    rw (w, v, d, a, h)

phy-kept : (s : List ℕ) (own_address i p : ℕ) (φ : Phy) → Bytes s → phy_of own_address i p (discovered s) ≡ good φ → phy_frame own_address p φ ≡ kept_discover s
unfolding kept_discover short_vacant
phy-kept s own_address i p φ b e = go (eqb (byte s 2) 0) e
  where
    go : (t : Bool) → phy_of own_address i p (by_result t (byte s 2) (discover_fields s)) ≡ good φ → phy_frame own_address p φ ≡ kept_by t s
    go false h = ap (phy_frame own_address p) (sym (good-one (Vacant (byte s 2)) φ h))
    go true h =
        let f : Discover = discover_fields s in
        let u = unless-good (eqb (byte s 9) p && eqb (number_at s 16 8) own_address) (refusal 5 i p) (unless (ranged (fields_of (eqb (bits 4 3 (byte s 12)) 0) (discover_fields s))) (refusal 6 i p) (good (Present (fields_of (eqb (bits 4 3 (byte s 12)) 0) (discover_fields s))))) φ h in
        let v = unless-good (ranged (fields_of (eqb (bits 4 3 (byte s 12)) 0) (discover_fields s))) (refusal 6 i p) (good (Present (fields_of (eqb (bits 4 3 (byte s 12)) 0) (discover_fields s)))) φ u.1 in
        let z : Present (fields_of (eqb (bits 4 3 (byte s 12)) 0) (discover_fields s)) ≡ φ = good-one (Present (fields_of (eqb (bits 4 3 (byte s 12)) 0) (discover_fields s))) φ v.1 in
        let x = eqb-true (byte s 9) p (is_true (eqb (byte s 9) p) (and_left (eqb (byte s 9) p) (eqb (number_at s 16 8) own_address) u.0)) in
        let y = eqb-true (number_at s 16 8) own_address (is_true (eqb (number_at s 16 8) own_address) (and_right (eqb (byte s 9) p) (eqb (number_at s 16 8) own_address) u.0)) in
        ap (phy_frame own_address p) (sym z) ∙ discover-kept s b own_address p (eqb (bits 4 3 (byte s 12)) 0) refl x y

module _ (file : List ℕ) (b : Bytes file) where
  unit_kept : (own_address i p at : ℕ) (u : Parsed Phy) → phy_unit file own_address i p at ≡ good u → phy_frame own_address p u.value ≡ kept_discover (take (u.next - at) (drop at file))
  unfolding phy_unit
  unit_kept own_address i p at u e =
      let t = then-good (placed i p (frame_at DiscoverResponse discover_read file at)) (λ f. then (phy_of own_address i p f.value) (λ φ. good (parsed φ f.next))) u e in
      let s = then-good (phy_of own_address i p t.0.value) (λ φ. good (parsed φ t.0.next)) u t.2 in
      let z : parsed s.0 t.0.next ≡ u = good-one (parsed s.0 t.0.next) u s.2 in
      let f = framed DiscoverResponse discover_read i p file at t.0 t.1 in
      let frame : List ℕ = take f.size (drop at file) in
      let k : u.next - at ≡ f.size = omega (arith, ap (λ (y : Parsed Phy). y.next) z, f.next) in
      let d = discover-read (take f.size (drop at file)) t.0.value f.reads in
      let g = phy-kept (take f.size (drop at file)) own_address i p s.0 (part f.size at file b) (ap (phy_of own_address i p) d ∙ s.1) in
      ap (λ (y : Parsed Phy). phy_frame own_address p y.value) (sym z) ∙ g ∙ ap (λ (n : ℕ). kept_discover (take n (drop at file))) (sym k)

  phys-kept : (own_address i count p at : ℕ) (us : Parsed (List Phy)) (rest : ℕ → List ℕ) → phy_units file own_address i count p at ≡ good us
      → phys_frames own_address p us.value ++ rest us.next ≡ kept_phys file own_address i count p at rest
  unfolding phy_units phys_frames kept_phys
  phys-kept own_address i zero p at us rest e =
      let z : parsed [] at ≡ us = good-one (parsed [] at) us e in
      sym (ap (λ (y : Parsed (List Phy)). phys_frames own_address p y.value ++ rest y.next) z)
  phys-kept own_address i (suc count) p at us rest e =
      let t = then-good (phy_unit file own_address i p at) (λ u. then (phy_units file own_address i count (p + 1) u.next) (λ vs. good (parsed (u.value ∷ vs.value) vs.next))) us e in
      let s = then-good (phy_units file own_address i count (p + 1) t.0.next) (λ vs. good (parsed (t.0.value ∷ vs.value) vs.next)) us t.2 in
      let z : parsed (t.0.value ∷ s.0.value) s.0.next ≡ us = good-one (parsed (t.0.value ∷ s.0.value) s.0.next) us s.2 in
      let u = unit_kept own_address i p at t.0 t.1 in
      let r = phys-kept own_address i count (p + 1) t.0.next s.0 rest s.1 in
      sym (ap (λ (y : Parsed (List Phy)). phys_frames own_address p y.value ++ rest y.next) z)
      ∙ append_assoc (phy_frame own_address p t.0.value) (phys_frames own_address (p + 1) s.0.value) (rest s.0.next)
      ∙ ap (λ (l : List ℕ). phy_frame own_address p t.0.value ++ l) r
      ∙ ap (λ (l : List ℕ). l ++ kept_phys file own_address i count (p + 1) t.0.next rest) u
      ∙ sym (ap (λ (x : Result (Parsed Phy)). or_stay [] x (λ v. kept_discover (take (v.next - at) (drop at file)) ++ kept_phys file own_address i count (p + 1) v.next rest)) t.1)

-- REPORT GENERAL
general-kept : (s : List ℕ) → Bytes s → short_general (general_fields s) ≡ kept_general s
unfolding short_general kept_general
general-kept s b = rw (two-of s 6 b)

module _ (most : Setting) (file : List ℕ) (b : Bytes file) where
  head-kept : (used : List ℕ) (i at : ℕ) (u : Parsed ExpanderUnit) (φs : List Phy) → expander_unit most file used i at ≡ good u → length φs ≡ u.value.phys
      → unit_head (expander_of u.value φs) ≡ eight file at ++ kept_general (take (u.next - (at + 8)) (drop (at + 8) file))
  unfolding expander_unit unit_head
  head-kept used i at u φs e c =
      let t = then-good (placed i 0 (frame_at ReportGeneral general_read file (at + 8))) (λ g. then (unit_tested most used i (unit_of (number_at file at 8) g.value)) (λ v. good (parsed v g.next))) u e in
      let s = then-good (unit_tested most used i (unit_of (number_at file at 8) t.0.value)) (λ v. good (parsed v t.0.next)) u t.2 in
      let z : parsed s.0 t.0.next ≡ u = good-one (parsed s.0 t.0.next) u s.2 in
      let f = framed ReportGeneral general_read i 0 file (at + 8) t.0 t.1 in
      let k : u.next - (at + 8) ≡ f.size = omega (arith, ap (λ (y : Parsed ExpanderUnit). y.next) z, f.next) in
      let d = general-is (take f.size (drop (at + 8) file)) t.0.value f.reads in
      let v : unit_of (number_at file at 8) t.0.value ≡ u.value = tested-same most used i (unit_of (number_at file at 8) t.0.value) s.0 s.1 ∙ ap (λ (y : Parsed ExpanderUnit). y.value) z in
      let g : general_of (expander_of u.value φs) ≡ t.0.value =
      ap (λ (n : ℕ). record { route_indexes = u.value.route_indexes; phys = n; configurable = u.value.configurable }) c
      ∙ sym (ap (λ (w : ExpanderUnit). record { route_indexes = w.route_indexes; phys = w.phys; configurable = w.configurable }) v) in
      let a : bytes_of 8 u.value.address ≡ eight file at = sym (ap (λ (w : ExpanderUnit). bytes_of 8 w.address) v) ∙ eight-of file at b in
      ap (λ (l : List ℕ). l ++ short_general (general_of (expander_of u.value φs))) a
      ∙ ap (λ (l : List ℕ). eight file at ++ l) (ap short_general (g ∙ sym d) ∙ general-kept (take f.size (drop (at + 8) file)) (part f.size (at + 8) file b)
      ∙ ap (λ (n : ℕ). kept_general (take n (drop (at + 8) file))) (sym k))

  expanders-kept : (count i at : ℕ) (used : List ℕ) (d : Domain) → expanders most file count i at used ≡ good d → units_of d ≡ kept_expanders most file count i at used
  unfolding expanders units_of kept_expanders
  expanders-kept zero i at used d e =
      let t = unless-good (eqb at (length file)) (refusal 1 i 0) (good []) d e in
      sym (ap units_of (good-one [] d t.1))
  expanders-kept (suc count) i at used d e =
      let next : Parsed ExpanderUnit → List ℕ = λ u. used ++ (u.value.address ∷ []) in
      let t = then-good (expander_unit most file used i at) (λ u. then (phy_units file u.value.address i u.value.phys 0 u.next) (λ φs. then (expanders most file count (i + 1) φs.next (used ++ (u.value.address ∷ []))) (λ r. good (expander_of u.value φs.value ∷ r)))) d e in
      let u : Parsed ExpanderUnit = t.0 in
      let s = then-good (phy_units file t.0.value.address i t.0.value.phys 0 t.0.next) (λ φs. then (expanders most file count (i + 1) φs.next (used ++ (t.0.value.address ∷ []))) (λ r. good (expander_of t.0.value φs.value ∷ r))) d t.2 in
      let r = then-good (expanders most file count (i + 1) s.0.next (used ++ (t.0.value.address ∷ []))) (λ r. good (expander_of t.0.value s.0.value ∷ r)) d s.2 in
      let z : expander_of t.0.value s.0.value ∷ r.0 ≡ d = good-one (expander_of t.0.value s.0.value ∷ r.0) d r.2 in
      let c = phys-count file t.0.value.address i t.0.value.phys 0 t.0.next s.0 s.1 in
      let h = head-kept used i at t.0 s.0.value t.1 c in
      let k = expanders-kept count (i + 1) s.0.next (used ++ (t.0.value.address ∷ [])) r.0 r.1 in
      let p = phys-kept file b t.0.value.address i t.0.value.phys 0 t.0.next s.0 (λ n. kept_expanders most file count (i + 1) n (used ++ (t.0.value.address ∷ []))) s.1 in
      sym (ap units_of z)
      ∙ ap (λ (l : List ℕ). unit_head (expander_of t.0.value s.0.value) ++ (phys_frames t.0.value.address 0 s.0.value ++ l)) k
      ∙ ap (λ (l : List ℕ). unit_head (expander_of t.0.value s.0.value) ++ l) p
      ∙ ap (λ (l : List ℕ). l ++ kept_phys file t.0.value.address i t.0.value.phys 0 t.0.next (λ n. kept_expanders most file count (i + 1) n (used ++ (t.0.value.address ∷ [])))) h
      ∙ sym (ap (λ (x : Result (Parsed ExpanderUnit)). or_stay [] x (λ v. (eight file at ++ kept_general (take (v.next - (at + 8)) (drop (at + 8) file)))
      ++ kept_phys file v.value.address i v.value.phys 0 v.next (λ n. kept_expanders most file count (i + 1) n (used ++ (v.value.address ∷ []))))) t.1)

  -- as many expanders as the header says
  count-expanders : (count i at : ℕ) (used : List ℕ) (d : Domain) → expanders most file count i at used ≡ good d → length d ≡ count
  unfolding expanders
  count-expanders zero i at used d e = sym (ap length (good-one [] d (unless-good (eqb at (length file)) (refusal 1 i 0) (good []) d e).1))
  count-expanders (suc count) i at used d e =
      let t = then-good (expander_unit most file used i at) (λ u. then (phy_units file u.value.address i u.value.phys 0 u.next) (λ φs. then (expanders most file count (i + 1) φs.next (used ++ (u.value.address ∷ []))) (λ r. good (expander_of u.value φs.value ∷ r)))) d e in
      let s = then-good (phy_units file t.0.value.address i t.0.value.phys 0 t.0.next) (λ φs. then (expanders most file count (i + 1) φs.next (used ++ (t.0.value.address ∷ []))) (λ r. good (expander_of t.0.value φs.value ∷ r))) d t.2 in
      let r = then-good (expanders most file count (i + 1) s.0.next (used ++ (t.0.value.address ∷ []))) (λ r. good (expander_of t.0.value s.0.value ∷ r)) d s.2 in
      sym (ap length (good-one (expander_of t.0.value s.0.value ∷ r.0) d r.2)) ∙ ap suc (count-expanders count (i + 1) s.0.next (used ++ (t.0.value.address ∷ [])) r.0 r.1)

  -- the file of the domain keeps the file's fields, and has zeros elsewhere
  pub kept-file : (d : Domain) → domain_read most file ≡ good d → file_of d ≡ kept_file most file
  unfolding domain_read file_of kept_file
  kept-file d e =
      let o = unless-good (in_range most) (refusal 22 0 0) (then (header_unit most file) (λ n. expanders most file n 0 2 [])) d e in
      let t = then-good (header_unit most file) (λ n. expanders most file n 0 2 []) d o.1 in
      let k = expanders-kept t.0 0 2 [] d t.2 in
      let c = count-expanders t.0 0 2 [] d t.2 in
      ap (λ (l : List ℕ). 0x10 ∷ length d ∷ l) k ∙ ap (λ (n : ℕ). 0x10 ∷ n ∷ kept_expanders most file t.0 0 2 []) c
      ∙ sym (ap (λ (x : Result ℕ). or_stay [] x (λ n. 0x10 ∷ n ∷ kept_expanders most file n 0 2 [])) t.1)
