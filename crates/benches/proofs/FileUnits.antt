-- The units of a file as bytes: a file that was read is its units one after the other, and units one after the other read alike in any file.
use Prim.Native.Nat.{ℕ, zero, suc, ◌+◌, ◌≤◌, ◌<◌, ◌^◌}
use mathlib.Core.Path.{◌≡◌, refl, sym, ◌∙◌, ap, ap₂, subst}
use mathlib.Core.Logic.{◌≢◌, inl, inr, ⊎_elim}
use mathlib.Core.Bool.{true, false}
use mathlib.Core.List.{List, [], ◌∷◌, ◌++◌, append_assoc}
use native.Mathlib.Omega.{arith}
use lib.ListN.{length, get_or, take, drop, set, take-append-drop, length-append, length-drop, drop_of_length-le}
use lib.Seq.{take_at, drop_at, drop-drop, length-take-le, get_or-take, take-add, drop-append-le, take_all}
use lib.Dec.{eqb, leb, eqb→eq}
use borrow.Author.Tests.{le-leb, eq-eqb, ne_eqb}
use Rattle.frames.specs.Bytes.{byte, number_at}
use Rattle.frames.specs.Refusals.{Result, refused, good, then, refusal}
use Rattle.frames.specs.Sizes.{size_stated, frame_size, short_size}
use Rattle.frames.specs.ReportGeneral.{general_read}
use Rattle.frames.specs.declared.General.{General}
use Rattle.frames.specs.declared.Response.TheVariants.{ReportGeneral, Discover}
use Rattle.frames.proofs.LongFrames.{size-least}
use Rattle.frames.proofs.ByteNumbers.{number-left, number-drop}
use Rattle.files.specs.declared.Setting.{Setting}
use Rattle.files.specs.declared.ExpanderUnit.{ExpanderUnit}
use Rattle.files.specs.declared.Phy.{Phy}
use Rattle.files.specs.declared.Phy.TheVariants.{Vacant}
use Rattle.files.specs.Lists.{In, Distinct, is_in}
use Rattle.files.specs.ReadDomain.{ReadExpander, addresses}
use Rattle.files.proofs.ListMembers.{is_false, of-is_in, in_cast, in_append}
use Rattle.files.specs.Domain.{Expander, Domain, expander_at, phy_at, attribute_of}
use Rattle.files.specs.PhyReplaced.{with_phy, set_phy}
use Rattle.files.specs.File.{parsed, phy_unit, phy_units, unit_of, unit_tested, expander_unit, expander_of, expanders}
use Rattle.files.specs.declared.Parsed.{Parsed}
use Rattle.files.specs.UnitAnswers.{ends_at}
use Rattle.files.proofs.CallResults.{good-one, unless-good, then-good}
use Rattle.files.proofs.UnitReading.{size-whole, expander-unit-by, phys-count, tested-same}
use Rattle.benches.specs.Bytes.{cabled_frame, cabled_at}
use Rattle.offsets.specs.Offsets.{size_from, phys_after, phys_from, expanders_after}
use Rattle.benches.specs.Joined.{cabled_to}
use Rattle.offsets.proofs.Offsets.{unit-found, phy-found, phys-after, head-found, unit-after}
use Rattle.benches.proofs.JoinedFileWritten.{frame-left, cabled_right}
use Rattle.benches.proofs.CabledFrames.{FrameOf, size-there, frame-reads, frame-of, cabled-frame}

-- a phy with its frame
pub record Framed : Type 0 where
  pub phy : Phy
  pub bytes : List ℕ

abbrev pub phys_all : List Framed → List Phy
phys_all [] = []
phys_all (x ∷ xs) = x.phy ∷ phys_all xs

abbrev pub bytes_all : List Framed → List ℕ
bytes_all [] = []
bytes_all (x ∷ xs) = x.bytes ++ bytes_all xs

abbrev pub FramesOf : ℕ → ℕ → List Framed → Type 0
FramesOf own_address p [] = Unit {0}
FramesOf own_address p (x ∷ xs) = FrameOf own_address p x.phy x.bytes × FramesOf own_address (p + 1) xs

pub length-phys : (xs : List Framed) → length (phys_all xs) ≡ length xs
length-phys [] = refl
length-phys (x ∷ xs) = ap suc (length-phys xs)

-- what stands after the front
rest-after : (file : List ℕ) (at : ℕ) (f rest : List ℕ) → drop at file ≡ f ++ rest → drop (at + length f) file ≡ rest
rest-after file at f rest q = sym (drop-drop (length f) at file) ∙ ap (drop (length f)) q ∙ drop_at f rest (length f) refl

pub frames-read : (xs : List Framed) (own_address p : ℕ) → FramesOf own_address p xs → (file : List ℕ) (at i : ℕ) (rest : List ℕ) → drop at file ≡ bytes_all xs ++ rest
    → (phy_units file own_address i (length xs) p at ≡ good (parsed (phys_all xs) (at + length (bytes_all xs)))) × (drop (at + length (bytes_all xs)) file ≡ rest)
unfolding phy_units
frames-read [] own_address p o file at i rest q = let z : at + 0 ≡ at = omega arith in (rw z, rw z q)
frames-read (x ∷ xs) own_address p o file at i rest q =
    let e : drop at file ≡ x.bytes ++ (bytes_all xs ++ rest) = q ∙ append_assoc x.bytes (bytes_all xs) rest in
    let u = frame-reads own_address p x.phy x.bytes o.0 file at i (bytes_all xs ++ rest) e in
    let r = frames-read xs own_address (p + 1) o.1 file (at + length x.bytes) i rest (rest-after file at x.bytes (bytes_all xs ++ rest) e) in
    let l = length-append x.bytes (bytes_all xs) in
    let z : at + length x.bytes + length (bytes_all xs) ≡ at + length (x.bytes ++ bytes_all xs) = omega arith in
    (rw (u, r.0, z), subst (λ (n : ℕ). drop n file ≡ rest) z r.1)

-- the frames of phys that were read
pub record Cut (file : List ℕ) (own_address p at : ℕ) (us : Parsed (List Phy)) : Type 0 where
  pub frames : List Framed
  pub each : FramesOf own_address p frames
  pub phys : phys_all frames ≡ us.value
  pub bytes : drop at file ≡ bytes_all frames ++ drop us.next file
  pub place : (k : ℕ) → k ≤ length frames → phys_after file k at ≡ at + length (bytes_all (take k frames))

pub phys-cut : (file : List ℕ) (own_address i count p at : ℕ) (us : Parsed (List Phy)) → phy_units file own_address i count p at ≡ good us → Cut file own_address p at us
unfolding phy_units phys_after
phys-cut file own_address i zero p at us e =
    let q = good-one (parsed [] at) us e in
    record {
      frames = [];
      each = tt;
      phys = ap (λ (v : Parsed (List Phy)). v.value) q;
      bytes = ap (λ (v : Parsed (List Phy)). drop v.next file) q;
      place = none;
    }
  where
    none : (k : ℕ) → k ≤ 0 → phys_after file k at ≡ at + length (bytes_all (take k []))
    none zero h = omega arith
    none (suc k) h = absurd (omega arith)
phys-cut file own_address i (suc count) p at us e =
    let one = then-good (phy_unit file own_address i p at) _ us e in
    let u = one.0 in
    let more = then-good (phy_units file own_address i count (p + 1) u.next) _ us one.2 in
    let tail = more.0 in
    let q = good-one (parsed (u.value ∷ tail.value) tail.next) us more.2 in
    let f = phy-found file own_address i p at u one.1 in
    let r = phys-cut file own_address i count (p + 1) u.next tail more.1 in
    let b : List ℕ = take f.size (drop at file) in
    let w = size-whole Discover file at f.size f.found in
    let l : length b ≡ f.size = length-take-le f.size (drop at file) w.bytes in
    let s : drop at file ≡ b ++ drop u.next file = sym (take-append-drop f.size (drop at file)) ∙ ap (λ (v : List ℕ). b ++ v) (drop-drop f.size at file ∙ ap (λ (n : ℕ). drop n file) (sym f.next)) in
    record {
      frames = record { phy = u.value; bytes = b } ∷ r.frames;
      each = (frame-of file own_address i p at u f, r.each);
      phys = ap (λ (v : List Phy). u.value ∷ v) r.phys ∙ ap (λ (v : Parsed (List Phy)). v.value) q;
      bytes = s ∙ ap (λ (v : List ℕ). b ++ v) (r.bytes ∙ ap (λ (v : Parsed (List Phy)). bytes_all r.frames ++ drop v.next file) q) ∙ sym (append_assoc b (bytes_all r.frames) (drop us.next file));
      place = next r.frames b u.value u.next f.size l f.next f.is r.place;
    }
  where
    next : (fs : List Framed) (b : List ℕ) (v : Phy) (m n : ℕ) → length b ≡ n → m ≡ at + n → n ≡ size_from Discover file at
        → ((k : ℕ) → k ≤ length fs → phys_after file k m ≡ m + length (bytes_all (take k fs)))
        → (k : ℕ) → k ≤ suc (length fs) → phys_after file k at ≡ at + length (bytes_all (take k (record { phy = v; bytes = b } ∷ fs)))
    next fs b v m n l o z h zero g = omega arith
    next fs b v m n l o z h (suc k) g =
        let a = h k (omega arith) in
        let c = length-append b (bytes_all (take k fs)) in
        ap (λ (x : ℕ). phys_after file k (at + x)) (sym z) ∙ ap (phys_after file k) (sym o) ∙ a ∙ omega arith

-- one phy's frame with the cable
abbrev pub cable_in : List Framed → ℕ → ℕ → ℕ → List Framed
cable_in [] k s q = []
cable_in (x ∷ xs) zero s q = record { phy = cabled_to s q; bytes = cabled_frame x.bytes s q } ∷ xs
cable_in (x ∷ xs) (suc k) s q = x ∷ cable_in xs k s q

module _ (s q : ℕ) (z : s ≢ 0) (fits : s < 2 ^ 64) where
  pub frames-cabled : (xs : List Framed) (own_address p k : ℕ) → FramesOf own_address p xs → attribute_of (get_or (phys_all xs) k (Vacant 0)) ≡ 1 → FramesOf own_address p (cable_in xs k s q)
  frames-cabled [] own_address p k o h = tt
  frames-cabled (x ∷ xs) own_address p zero o h = (cabled-frame own_address p x.phy x.bytes o.0 h s q z fits, o.1)
  frames-cabled (x ∷ xs) own_address p (suc k) o h = (o.0, frames-cabled xs own_address (p + 1) k o.1 h)

  pub phys-cabled : (xs : List Framed) (k : ℕ) → phys_all (cable_in xs k s q) ≡ set (phys_all xs) k (cabled_to s q)
  phys-cabled [] k = refl
  phys-cabled (x ∷ xs) zero = refl
  phys-cabled (x ∷ xs) (suc k) = ap (λ (v : List Phy). x.phy ∷ v) (phys-cabled xs k)

  pub bytes-cabled : (xs : List Framed) (own_address p k : ℕ) (rest : List ℕ) → FramesOf own_address p xs → k < length xs
      → cabled_at (bytes_all xs ++ rest) (length (bytes_all (take k xs))) s q ≡ bytes_all (cable_in xs k s q) ++ rest
  unfolding cabled_at
  bytes-cabled [] own_address p k rest o h = absurd (omega arith)
  bytes-cabled (x ∷ xs) own_address p zero rest o h =
      let l = o.0.whole in
      let m = o.0.least in
      ap (λ (v : List ℕ). cabled_frame v s q) (append_assoc x.bytes (bytes_all xs) rest) ∙ frame-left s q x.bytes (bytes_all xs ++ rest) (omega arith)
      ∙ sym (append_assoc (cabled_frame x.bytes s q) (bytes_all xs) rest)
  bytes-cabled (x ∷ xs) own_address p (suc k) rest o h =
      ap₂ (λ (u : List ℕ) (n : ℕ). cabled_at u n s q) (append_assoc x.bytes (bytes_all xs) rest) (length-append x.bytes (bytes_all (take k xs)))
      ∙ cabled_right s q x.bytes (bytes_all xs ++ rest) (length (bytes_all (take k xs))) ∙ ap (λ (v : List ℕ). x.bytes ++ v) (bytes-cabled xs own_address (p + 1) k rest o.1 (omega arith))
      ∙ sym (append_assoc x.bytes (bytes_all (cable_in xs k s q)) rest)

pub length_cables : (xs : List Framed) (k s q : ℕ) → length (cable_in xs k s q) ≡ length xs
length_cables [] k s q = refl
length_cables (x ∷ xs) zero s q = refl
length_cables (x ∷ xs) (suc k) s q = ap suc (length_cables xs k s q)

-- an expander's address and REPORT GENERAL response, which read as these fields wherever they stand
pub record HeadOf (u : ExpanderUnit) (h : List ℕ) : Type 0 where
  pub size : ℕ
  pub whole : length h ≡ 8 + size
  pub least : short_size ReportGeneral ≤ size
  pub states : size_stated ReportGeneral (byte (drop 8 h) 3) ≡ good size
  pub general : General
  pub reads : general_read (drop 8 h) ≡ good general
  pub is : unit_of (number_at h 0 8) general ≡ u

pub head-reads : (u : ExpanderUnit) (h : List ℕ) → HeadOf u h → (most : Setting) (file used : List ℕ) (i at : ℕ) (rest : List ℕ) → drop at file ≡ h ++ rest
    → expander_unit most file used i at ≡ then (unit_tested most used i u) (ends_at (at + length h))
head-reads u h o most file used i at rest q =
    let n = o.size in
    let l = o.whole in
    let m = o.least in
    let ld = length-drop 8 h in
    let e : drop (at + 8) file ≡ drop 8 h ++ rest = sym (drop-drop 8 at file) ∙ ap (drop 8) q ∙ drop-append-le 8 h rest (omega arith) in
    let a : number_at file at 8 ≡ number_at h 0 8 = number-drop file at 8 ∙ ap (λ (v : List ℕ). number_at v 0 8) q ∙ number-left h rest 0 8 (omega arith) in
    let z : at + 8 + n ≡ at + length h = omega arith in
    expander-unit-by most file used i at (number_at h 0 8) a n (good o.general) (size-there ReportGeneral file (at + 8) n (drop 8 h) rest e (omega arith) (omega arith) o.states)
    (ap (λ (v : List ℕ). general_read (take n v)) e ∙ ap general_read (take_at (drop 8 h) rest n (omega arith)) ∙ o.reads)
    ∙ ap₂ (λ (v : ExpanderUnit) (m : ℕ). then (unit_tested most used i v) (ends_at m)) o.is z

pub head_of : (most : Setting) (file used : List ℕ) (i at : ℕ) (u : Parsed ExpanderUnit) → expander_unit most file used i at ≡ good u
    → (h : List ℕ) × HeadOf u.value h × (drop at file ≡ h ++ drop u.next file) × (u.next ≡ at + length h)
unfolding expander_unit frame_size
head_of most file used i at u e =
    let own_address = number_at file at 8 in
    let f = unit-found ReportGeneral general_read (λ g. unit_tested most used i (unit_of own_address g)) i 0 file (at + 8) u e in
    let n = f.size in
    let w = size-whole ReportGeneral file (at + 8) n f.found in
    let m = size-least ReportGeneral (drop (at + 8) file) n w.size in
    let s = unless-good (leb 4 (length (drop (at + 8) file))) (refusal 1 0 0) (size_stated ReportGeneral (byte (drop (at + 8) file) 3)) n w.size in
    let inside = f.inside in
    let h : List ℕ = take (8 + n) (drop at file) in
    let la = length-drop at file in
    let l : length h ≡ 8 + n = length-take-le (8 + n) (drop at file) (omega arith) in
    let d8 : drop 8 (drop at file) ≡ drop (at + 8) file = drop-drop 8 at file in
    let t8 = length-take-le 8 (drop at file) (omega arith) in
    let e8 : drop 8 h ≡ take n (drop (at + 8) file) = ap (drop 8) (take-add 8 n (drop at file)) ∙ drop_at (take 8 (drop at file)) (take n (drop 8 (drop at file))) 8 t8 ∙ ap (take n) d8 in
    let a : number_at h 0 8 ≡ own_address = sym (number-left h (drop (8 + n) (drop at file)) 0 8 (omega arith)) ∙ ap (λ (v : List ℕ). number_at v 0 8) (take-append-drop (8 + n) (drop at file)) ∙ sym (number-drop file at 8) in
    let z : at + (8 + n) ≡ u.next = omega (arith, f.next) in (
      h,
      record {
        size = n;
        whole = l;
        least = m;
        states = ap (λ (v : List ℕ). size_stated ReportGeneral (byte v 3)) e8 ∙ ap (size_stated ReportGeneral) (get_or-take n (drop (at + 8) file) 3 0 (omega arith)) ∙ s.1;
        general = f.fields;
        reads = ap general_read e8 ∙ f.reads;
        is = ap (λ (x : ℕ). unit_of x f.fields) a ∙ tested-same most used i (unit_of own_address f.fields) u.value f.tested;
      },
      sym (take-append-drop (8 + n) (drop at file)) ∙ ap (λ (v : List ℕ). h ++ v) (drop-drop (8 + n) at file ∙ ap (λ (x : ℕ). drop x file) z),
      omega (arith, f.next),
    )

-- an expander with its bytes
pub record UnitBytes : Type 0 where
  pub fields : ExpanderUnit
  pub head : List ℕ
  pub frames : List Framed

pub record UnitOf (x : UnitBytes) : Type 0 where
  pub heads : HeadOf x.fields x.head
  pub each : FramesOf x.fields.address 0 x.frames
  pub count : length x.frames ≡ x.fields.phys

abbrev pub UnitsOf : List UnitBytes → Type 0
UnitsOf [] = Unit {0}
UnitsOf (x ∷ xs) = UnitOf x × UnitsOf xs

abbrev pub units_bytes : List UnitBytes → List ℕ
units_bytes [] = []
units_bytes (x ∷ xs) = x.head ++ (bytes_all x.frames ++ units_bytes xs)

abbrev pub expanders_all : List UnitBytes → Domain
expanders_all [] = []
expanders_all (x ∷ xs) = expander_of x.fields (phys_all x.frames) ∷ expanders_all xs

-- 3 and 4 of units one after the other, and their expanders
unfoldable pub tested_all : Setting → ℕ → List ℕ → List UnitBytes → Result Domain
tested_all most i used [] = good []
tested_all most i used (x ∷ xs) =
    then (unit_tested most used i x.fields) (λ u.
    then (tested_all most (i + 1) (used ++ (u.address ∷ [])) xs) (λ d.
    good (expander_of u (phys_all x.frames) ∷ d)))

-- units one after the other to the end of a file read as the tests of 3 and 4 say
pub units-read : (most : Setting) (xs : List UnitBytes) → UnitsOf xs → (file used : List ℕ) (i at : ℕ) → at ≤ length file → drop at file ≡ units_bytes xs
    → expanders most file (length xs) i at used ≡ tested_all most i used xs
unfolding expanders tested_all
units-read most [] o file used i at h q = let l = length-drop at file in let c = ap length q in rw (eq-eqb at (length file) (omega arith))
units-read most (x ∷ xs) o file used i at h q =
    let hd = x.head in
    let bs = bytes_all x.frames in
    let e = head-reads x.fields hd o.0.heads most file used i at (bs ++ units_bytes xs) q in
    go (λ more to l k. units-read most xs o.1 file more (i + 1) to l k) (unit_tested most used i x.fields) refl e
  where
    go : ((more : List ℕ) (to : ℕ) → to ≤ length file → drop to file ≡ units_bytes xs → expanders most file (length xs) (i + 1) to more ≡ tested_all most (i + 1) more xs)
        → (y : Result ExpanderUnit) → unit_tested most used i x.fields ≡ y → expander_unit most file used i at ≡ then y (ends_at (at + length x.head))
        → expanders most file (suc (length xs)) i at used
        ≡ then y (λ u. then (tested_all most (i + 1) (used ++ (u.address ∷ [])) xs) (λ d. good (expander_of u (phys_all x.frames) ∷ d)))
    go again (refused r) t e = rw e
    go again (good u) t e =
        let same = tested-same most used i x.fields u t in
        let hd = x.head in
        let bs = bytes_all x.frames in
        let next = at + length hd in
        let q1 = rest-after file at hd (bs ++ units_bytes xs) q in
        let f = frames-read x.frames x.fields.address 0 o.0.each file next i (units_bytes xs) q1 in
        let f1 : phy_units file u.address i u.phys 0 next ≡ good (parsed (phys_all x.frames) (next + length bs)) =
        subst (λ (v : ExpanderUnit). phy_units file v.address i v.phys 0 next ≡ good (parsed (phys_all x.frames) (next + length bs))) same
        (ap (λ (n : ℕ). phy_units file x.fields.address i n 0 next) (sym o.0.count) ∙ f.0) in
        let lf = length-drop at file in
        let lq = ap length q in
        let l1 = length-append hd (bs ++ units_bytes xs) in
        let l2 = length-append bs (units_bytes xs) in
        let w = o.0.heads.whole in
        let r = again (used ++ (u.address ∷ [])) (next + length bs) (omega arith) f.1 in
        rw (e, f1, r)

-- where the frame of phy p of unit k stands among the bytes of units
abbrev pub place_in : List UnitBytes → ℕ → ℕ → ℕ
place_in [] k p = 0
place_in (x ∷ xs) zero p = length x.head + length (bytes_all (take p x.frames))
place_in (x ∷ xs) (suc k) p = length x.head + (length (bytes_all x.frames) + place_in xs k p)

-- unit k has phy p, or ends with it
abbrev pub HasPhy : List UnitBytes → ℕ → ℕ → Type 0
HasPhy [] k p = ⊥
HasPhy (x ∷ xs) zero p = p ≤ length x.frames
HasPhy (x ∷ xs) (suc k) p = HasPhy xs k p

-- the units of a file that was read
pub record CutUnits (file : List ℕ) (at : ℕ) (d : Domain) : Type 0 where
  pub units : List UnitBytes
  pub each : UnitsOf units
  pub domain : expanders_all units ≡ d
  pub bytes : drop at file ≡ units_bytes units
  pub place : (k p : ℕ) → HasPhy units k p → phys_after file p (phys_from file (expanders_after file k at)) ≡ at + place_in units k p

pub units-cut : (most : Setting) (file : List ℕ) (count i at : ℕ) (used : List ℕ) (d : Domain) → expanders most file count i at used ≡ good d → CutUnits file at d
unfolding expanders expanders_after
units-cut most file zero i at used d e =
    let u = unless-good (eqb at (length file)) (refusal 1 i 0) (good []) d e in
    let q = eqb→eq at (length file) u.0 in
    record { units = []; each = tt; domain = good-one [] d u.1; bytes = drop_of_length-le file {i = at} (omega arith); place = λ k p h. absurd h }
units-cut most file (suc count) i at used d e =
    let one = then-good (expander_unit most file used i at) _ d e in
    let u = one.0 in
    let two = then-good (phy_units file u.value.address i u.value.phys 0 u.next) _ d one.2 in
    let φs = two.0 in
    let next = used ++ (u.value.address ∷ []) in
    let more = then-good (expanders most file count (i + 1) φs.next next) _ d two.2 in
    let q = good-one (expander_of u.value φs.value ∷ more.0) d more.2 in
    let h = head_of most file used i at u one.1 in
    let c = phys-cut file u.value.address i u.value.phys 0 u.next φs two.1 in
    let r = units-cut most file count (i + 1) φs.next next more.0 more.1 in
    let n = phys-count file u.value.address i u.value.phys 0 u.next φs two.1 in
    let x : UnitBytes = record { fields = u.value; head = h.0; frames = c.frames } in
    record {
      units = x ∷ r.units;
      each = (record { heads = h.1; each = c.each; count = sym (length-phys c.frames) ∙ ap length c.phys ∙ n }, r.each);
      domain = ap₂ (λ (v : List Phy) (t : Domain). expander_of u.value v ∷ t) c.phys r.domain ∙ q;
      bytes = h.2 ∙ ap (λ (v : List ℕ). h.0 ++ v) (c.bytes ∙ ap (λ (v : List ℕ). bytes_all c.frames ++ v) r.bytes);
      place = placed x r.units u.next φs.next h.3 (head-found most file used i at u one.1).next c.place (unit-after most file used i at u φs one.1 two.1)
          (phys-after file u.value.address i u.value.phys 0 u.next φs two.1) (sym (length-phys c.frames) ∙ ap length c.phys ∙ n) r.place;
    }
  where
    placed : (x : UnitBytes) (xs : List UnitBytes) (next after : ℕ) → next ≡ at + length x.head → next ≡ phys_from file at
        → ((k : ℕ) → k ≤ length x.frames → phys_after file k next ≡ next + length (bytes_all (take k x.frames)))
        → after ≡ phys_after file (byte file (at + 17)) (phys_from file at) → {m : ℕ} → after ≡ phys_after file m next → length x.frames ≡ m
        → ((k p : ℕ) → HasPhy xs k p → phys_after file p (phys_from file (expanders_after file k after)) ≡ after + place_in xs k p)
        → (k p : ℕ) → HasPhy (x ∷ xs) k p → phys_after file p (phys_from file (expanders_after file k at)) ≡ at + place_in (x ∷ xs) k p
    placed x xs next after a b f g h l r zero p o = let z = f p o in ap (phys_after file p) (sym b) ∙ z ∙ omega arith
    placed x xs next after a b f g {m} h l r (suc k) p o =
        let z = r k p o in
        let y = f (length x.frames) (omega arith) in
        let t : take (length x.frames) x.frames ≡ x.frames = take_all (length x.frames) x.frames (omega arith) in
        let v : after ≡ next + length (bytes_all x.frames) = h ∙ ap (λ (n : ℕ). phys_after file n next) (sym l) ∙ y ∙ ap (λ (w : List Framed). next + length (bytes_all w)) t in
        ap (λ (n : ℕ). phys_after file p (phys_from file (expanders_after file k n))) (sym g) ∙ z ∙ omega arith

-- one phy of one unit with the cable
abbrev pub cable_units : List UnitBytes → ℕ → ℕ → ℕ → ℕ → List UnitBytes
cable_units [] k p s q = []
cable_units (x ∷ xs) zero p s q = record { fields = x.fields; head = x.head; frames = cable_in x.frames p s q } ∷ xs
cable_units (x ∷ xs) (suc k) p s q = x ∷ cable_units xs k p s q

module _ (s q : ℕ) (z : s ≢ 0) (fits : s < 2 ^ 64) where
  pub units-cabled : (xs : List UnitBytes) (k p : ℕ) → UnitsOf xs → attribute_of (phy_at (expanders_all xs) k p) ≡ 1 → UnitsOf (cable_units xs k p s q)
  units-cabled [] k p o h = tt
  units-cabled (x ∷ xs) zero p o h =
      (record { heads = o.0.heads; each = frames-cabled s q z fits x.frames x.fields.address 0 p o.0.each h; count = length_cables x.frames p s q ∙ o.0.count }, o.1)
  units-cabled (x ∷ xs) (suc k) p o h = (o.0, units-cabled xs k p o.1 h)

  pub domain-cabled : (xs : List UnitBytes) (k p : ℕ) → expanders_all (cable_units xs k p s q) ≡ set_phy (expanders_all xs) k p (cabled_to s q)
  unfolding set_phy with_phy
  domain-cabled [] k p = refl
  domain-cabled (x ∷ xs) zero p = ap (λ (v : List Phy). expander_of x.fields v ∷ expanders_all xs) (phys-cabled s q z fits x.frames p)
  domain-cabled (x ∷ xs) (suc k) p = ap (λ (v : Domain). expander_of x.fields (phys_all x.frames) ∷ v) (domain-cabled xs k p)

  pub bytes-units : (xs : List UnitBytes) (k p : ℕ) → UnitsOf xs → HasPhy xs k (suc p) → cabled_at (units_bytes xs) (place_in xs k p) s q ≡ units_bytes (cable_units xs k p s q)
  bytes-units [] k p o h = absurd h
  bytes-units (x ∷ xs) zero p o h =
      cabled_right s q x.head (bytes_all x.frames ++ units_bytes xs) (length (bytes_all (take p x.frames)))
      ∙ ap (λ (v : List ℕ). x.head ++ v) (bytes-cabled s q z fits x.frames x.fields.address 0 p (units_bytes xs) o.0.each (omega arith))
  bytes-units (x ∷ xs) (suc k) p o h =
      cabled_right s q x.head (bytes_all x.frames ++ units_bytes xs) (length (bytes_all x.frames) + place_in xs k p)
      ∙ ap (λ (v : List ℕ). x.head ++ v) (cabled_right s q (bytes_all x.frames) (units_bytes xs) (place_in xs k p) ∙ ap (λ (v : List ℕ). bytes_all x.frames ++ v) (bytes-units xs k p o.1 h))

-- a phy that there is
pub has-phy : (xs : List UnitBytes) (k p : ℕ) → p < length (expander_at (expanders_all xs) k).phys → HasPhy xs k (suc p)
has-phy [] k p h = absurd (omega arith)
has-phy (x ∷ xs) zero p h = let l = length-phys x.frames in omega arith
has-phy (x ∷ xs) (suc k) p h = has-phy xs k p h

pub has-less : (xs : List UnitBytes) (k p : ℕ) → HasPhy xs k (suc p) → HasPhy xs k p
has-less [] k p h = h
has-less (x ∷ xs) zero p h = omega arith
has-less (x ∷ xs) (suc k) p h = has-less xs k p h

-- two lists of units
pub bytes-append : (xs ys : List UnitBytes) → units_bytes (xs ++ ys) ≡ units_bytes xs ++ units_bytes ys
bytes-append [] ys = refl
bytes-append (x ∷ xs) ys =
    ap (λ (v : List ℕ). x.head ++ (bytes_all x.frames ++ v)) (bytes-append xs ys)
    ∙ ap (λ (v : List ℕ). x.head ++ v) (sym (append_assoc (bytes_all x.frames) (units_bytes xs) (units_bytes ys)))
    ∙ sym (append_assoc x.head (bytes_all x.frames ++ units_bytes xs) (units_bytes ys))

pub domain-append : (xs ys : List UnitBytes) → expanders_all (xs ++ ys) ≡ expanders_all xs ++ expanders_all ys
domain-append [] ys = refl
domain-append (x ∷ xs) ys = ap (λ (v : Domain). expander_of x.fields (phys_all x.frames) ∷ v) (domain-append xs ys)

pub units-append : (xs ys : List UnitBytes) → UnitsOf xs → UnitsOf ys → UnitsOf (xs ++ ys)
units-append [] ys o p = p
units-append (x ∷ xs) ys o p = (o.0, units-append xs ys o.1 p)

pub length-units : (xs : List UnitBytes) → length (expanders_all xs) ≡ length xs
length-units [] = refl
length-units (x ∷ xs) = ap suc (length-units xs)

-- what passes 3 and 4 is the expanders
pub tested-is : (most : Setting) (xs : List UnitBytes) (i : ℕ) (used : List ℕ) (d : Domain) → tested_all most i used xs ≡ good d → expanders_all xs ≡ d
unfolding tested_all
tested-is most [] i used d e = good-one [] d e
tested-is most (x ∷ xs) i used d e =
    let a = then-good (unit_tested most used i x.fields) _ d e in
    let b = then-good (tested_all most (i + 1) (used ++ (a.0.address ∷ [])) xs) _ d a.2 in
    ap₂ (λ (u : ExpanderUnit) (t : Domain). expander_of u (phys_all x.frames) ∷ t) (tested-same most used i x.fields a.0 a.1) (tested-is most xs (i + 1) (used ++ (a.0.address ∷ [])) b.0 b.1)
    ∙ good-one (expander_of a.0 (phys_all x.frames) ∷ b.0) d b.2

-- and where addresses differ, none is zero and phys are within the limit, all pass
pub tested_pass : (most : Setting) (xs : List UnitBytes) (i : ℕ) (used : List ℕ) → UnitsOf xs → ((e : Expander) → In e (expanders_all xs) → ReadExpander most e)
    → Distinct (addresses (expanders_all xs)) → ((s : ℕ) → In s (addresses (expanders_all xs)) → ¬ (In s used)) → tested_all most i used xs ≡ good (expanders_all xs)
unfolding tested_all
tested_pass most [] i used o each differ new = refl
tested_pass most (x ∷ xs) i used o each differ new =
    let u = x.fields in
    let r = each (expander_of u (phys_all x.frames)) (inl refl) in
    let l = length-phys x.frames in
    let c = o.0.count in
    let a : leb 1 u.phys ≡ true = le-leb 1 u.phys (omega (arith, r.some)) in
    let b : leb u.phys most.phys ≡ true = le-leb u.phys most.phys (omega (arith, r.few)) in
    let f : is_in u.address used ≡ false = is_false (is_in u.address used) (λ t. new u.address (inl refl) (of-is_in u.address used t)) in
    let t = tested_pass most xs (i + 1) (used ++ (u.address ∷ [])) o.1 (λ e h. each e (inr h)) differ.1
    (λ s h k. ⊎_elim (λ m. new s (inr h) m) (λ m. ⊎_elim (λ n. differ.0 (in_cast (addresses (expanders_all xs)) (sym n) h)) (λ n. n) m) (in_append used (u.address ∷ []) s k)) in
    rw (a, b, ne_eqb u.address 0 r.borne, f, t)
