-- What a file reads as, by one induction over the definitions of the file: for each unit a record of all its facts. The domain is one
-- that causes 22 and 1 to 6 leave, it fits where the file is of bytes, and the second reading gets it again. A file that is refused is refused
-- with a number from 1 to 6, or with 22.
use Prim.Native.Nat.{ℕ, zero, suc, ◌+◌, ◌^◌, ◌≤◌, ◌<◌}
use mathlib.Core.Path.{◌≡◌, refl, sym, ap, ◌∙◌}
use mathlib.Core.Logic.{◌≢◌, inl, inr, ⊎_elim}
use mathlib.Core.Bool.{Bool, true, false, not, ◌&&◌}
use mathlib.Core.List.{List, [], ◌∷◌, ◌++◌}
use native.Mathlib.Nat.{pow-suc}
use native.Mathlib.Omega.{arith}
use lib.ListN.{length, take, drop}
use lib.Seq.{get_or-drop}
use lib.Dec.{T, eqb, leb, leb→le}
use borrow.Author.Tests.{ne_eqb, eqb-false, leb-true, not-true}
use Rattle.frames.specs.Bytes.{byte, number_at}
use Rattle.frames.specs.Refusals.{Result, refused, good, unless, then, refusal}
use Rattle.frames.specs.Sizes.{long_length, frame_size, by_itself}
use Rattle.frames.specs.ReportGeneral.{general_fixed, general_in, general_read}
use Rattle.frames.specs.Discovery.{discover_fixed, discover_in, discover_read}
use Rattle.frames.specs.declared.Discovered.{Discovered}
use Rattle.frames.specs.declared.Discovered.TheVariants.{Vacant as vacant, Fields as fields}
use Rattle.frames.specs.declared.Refusal.{Refusal}
use Rattle.frames.specs.declared.General.{General}
use Rattle.frames.specs.declared.Discover.{Discover}
use Rattle.frames.specs.declared.Response.{Response}
use Rattle.frames.specs.declared.Response.TheVariants.{ReportGeneral, Discover as DiscoverResponse}
use Rattle.frames.proofs.FrameRefusals.{ResultHolds, Numbered, unless_holds, then-holds}
use Rattle.files.specs.declared.Setting.{Setting}
use Rattle.files.specs.declared.ExpanderUnit.{ExpanderUnit}
use Rattle.files.specs.declared.PhyFields.{PhyFields}
use Rattle.files.specs.declared.Phy.{Phy}
use Rattle.files.specs.declared.Phy.TheVariants.{Present}
use Rattle.files.specs.Lists.{any, In, is_in, Distinct}
use Rattle.files.specs.Settings.{within, in_range}
use Rattle.files.specs.Domain.{Expander, Domain}
use Rattle.files.specs.ReadDomain.{ReadPhy, ReadExpander, addresses, Read, Bytes, FitsPhy, FitsExpander, FitsDomain, read_number}
use Rattle.files.specs.File.{parsed, placed, size_at, frame_at, fields_of, ranged, phy_of, phy_unit, phy_units, unit_of, unit_tested, expander_unit, expander_of, expanders, header_unit, domain_read}
use Rattle.files.specs.declared.Parsed.{Parsed}
use Rattle.files.specs.SecondReading.{phys_got, domain_got}
use Rattle.files.proofs.SettingRanges.{range_iff}
use Rattle.files.proofs.CallResults.{held, weaker, both}
use Rattle.files.proofs.ListMembers.{tests, by-test, was_true, was_false, in_cast, all_cons, in_left, in_right, is_in-of}

-- what reading yields: a refusal with a number from 1 to 6 or 22, or something of which P holds
module _ {A : Type 0} (P : A → Type 0) where
  abbrev Reads : Result A → Type 0
  Reads = ResultHolds read_number P

  tested : (b : Bool) (r : Refusal) (x : Result A) → T (leb 1 r.number && leb r.number 6) → (b ≡ true → Reads x) → Reads (unless b r x)
  tested b r x t = unless_holds read_number P b r x (inl (search (tests, leb→le), search (tests, leb→le)))

next : {A B : Type 0} (P : A → Type 0) (Q : B → Type 0) (x : Result A) (k : A → Result B) → Reads P x
    → ((a : A) → x ≡ good a → P a → Reads Q (k a)) → Reads Q (then x k)
next = then-holds read_number

-- bytes and the numbers in them
pub part : (n at : ℕ) (s : List ℕ) → Bytes s → Bytes (take n (drop at s))
part n at s b = taken n (drop at s) (λ k. rw get_or-drop (b (at + k)))
  where
    taken : (n : ℕ) (s : List ℕ) → Bytes s → Bytes (take n s)
    taken zero s b k = omega arith
    taken (suc n) [] b k = omega arith
    taken (suc n) (x ∷ s) b zero = b zero
    taken (suc n) (x ∷ s) b (suc k) = taken n s (λ j. b (suc j)) k

pub number_fits : (s : List ℕ) (i width : ℕ) → Bytes s → number_at s i width < 256 ^ width
unfolding number_at
number_fits s i zero b = omega arith
number_fits s i (suc width) b =
    let h = number_fits s i width b in
    let k = b (i + width) in
    rw (pow-suc 256 width) (omega arith)

-- a frame's size is refused with 1 or 2
size-reads : (kind : Response) (s : List ℕ) → Reads (λ _. Unit {0}) (frame_size kind s)
unfolding frame_size
size-reads kind s = tested (λ _. Unit {0}) (leb 4 (length s)) (refusal 1 0 0) _ tt (λ _.
    by-test (eqb (byte s 3) 0x00) (λ e. rw e tt) (λ e. by-test (eqb (byte s 3) (long_length kind)) (λ f. rw (e, f) tt) (λ f. rw (e, f) (inl (omega arith, omega arith)))))

-- one frame
itself-holds : {A : Type 0} (P : A → Type 0) (kind : Response) (rest : List ℕ → Result A) (s : List ℕ) → Reads P (rest s) → Reads P (by_itself kind rest s)
itself-holds P kind rest s h =
    next (λ _. Unit {0}) P (frame_size kind s) _ (size-reads kind s) (λ n _ _. tested P (eqb (length s) n) (refusal 1 0 0) (rest s) tt (λ _. h))

record GeneralFacts (s : List ℕ) (g : General) : Type 0 where
  configurable : g.configurable ≤ 1
  route_indexes : Bytes s → g.route_indexes < 65536
  phys : Bytes s → g.phys < 256

general_facts : (s : List ℕ) → Reads (GeneralFacts s) (general_read s)
unfolding general_read
general_facts s =
    itself-holds (GeneralFacts s) ReportGeneral general_in s (tested (GeneralFacts s) (general_fixed s) (refusal 2 0 0) _ tt (λ _.
    record { configurable = omega arith; route_indexes = λ b. number_fits s 6 2 b; phys = λ b. b 9 }))

abbrev DiscoveredFacts : List ℕ → Discovered → Type 0
DiscoveredFacts s (vacant result) = (result ≢ 0) × (Bytes s → result < 256)
DiscoveredFacts s (fields f) = Bytes s → (f.attached_address < 2 ^ 64) × (f.attached_phy.0 < 256)

discover_facts : (s : List ℕ) → Reads (DiscoveredFacts s) (discover_read s)
unfolding discover_read
discover_facts s =
    itself-holds (DiscoveredFacts s) DiscoverResponse discover_in s (tested (DiscoveredFacts s) (discover_fixed s) (refusal 2 0 0) _ tt (λ _.
    by-test (eqb (byte s 2) 0) (λ q. rw q (λ b. (number_fits s 24 8 b, b 32))) (λ q. rw q (eqb-false (byte s 2) 0 q, λ b. b 2))))

placed-holds : {A : Type 0} (P : A → Type 0) (i p : ℕ) (x : Result A) → Reads P x → Reads P (placed i p x)
placed-holds P i p (refused r) h = h
placed-holds P i p (good a) h = h

-- a frame in a file, of either size: what holds of it read by itself
frame-holds : {A : Type 0} (P : A → Type 0) (kind : Response) (read : List ℕ → Result A) (file : List ℕ) (from : ℕ)
    → ((n : ℕ) → Reads P (read (take n (drop from file)))) → Reads (λ f. P f.value) (frame_at kind read file from)
unfolding size_at
frame-holds {A} P kind read file from h =
    let s = drop from file in
    let Q : Parsed A → Type 0 = λ f. P f.value in
    let N : ℕ → Type 0 = λ _. Unit {0} in
    next N Q (size_at kind file from) _
    (next N N (frame_size kind s) _ (size-reads kind s) (λ n _ _. tested N (leb n (length s)) (refusal 1 0 0) _ tt (λ _. tt)))
    (λ n _ _. next P Q (read (take n s)) _ (h n) (λ a _ f. f))

general-at : (file : List ℕ) (from n : ℕ) → Reads (GeneralFacts file) (general_read (take n (drop from file)))
general-at file from n =
    let s = take n (drop from file) in
    weaker read_number read_number (GeneralFacts s) (GeneralFacts file) (general_read s) (general_facts s) (λ _ k. k) (λ g f.
    record { configurable = f.configurable; route_indexes = λ b. f.route_indexes (part n from file b); phys = λ b. f.phys (part n from file b) })

discover-at : (file : List ℕ) (from n : ℕ) → Reads (DiscoveredFacts file) (discover_read (take n (drop from file)))
discover-at file from n =
    let s = take n (drop from file) in
    weaker read_number read_number (DiscoveredFacts s) (DiscoveredFacts file) (discover_read s) (discover_facts s) (λ _ k. k) whole
  where
    whole : (f : Discovered) → DiscoveredFacts (take n (drop from file)) f → DiscoveredFacts file f
    whole (vacant result) h = (h.0, λ b. h.1 (part n from file b))
    whole (fields f) h = λ b. h (part n from file b)

-- a phy
record PhyFacts (s : List ℕ) (φ : Phy) : Type 0 where
  read : ReadPhy φ
  fits : Bytes s → FitsPhy φ

-- fields that cause 6 leaves
ranged_facts : (f : PhyFields) → ranged f ≡ true → (f.device_type ≤ 3) × ((f.attribute ≤ 2) × (f.device_type ≢ 0 → f.address ≢ 0))
ranged_facts f t =
    let u = both (leb f.device_type 3) _ t in
    let v = both (leb f.attribute 2) _ u.1 in
    (leb-true f.device_type 3 u.0, (leb-true f.attribute 2 v.0, λ n. eqb-false f.address 0 (not-true _ (rw (ne_eqb f.device_type 0 n) at v.1))))

fields_facts : (s : List ℕ) (f : Discover) (none : Bool) → eqb f.device_type 0 ≡ none → ranged (fields_of none f) ≡ true → DiscoveredFacts s (fields f)
    → PhyFacts s (Present (fields_of none f))
fields_facts s f true q t d =
    let r = ranged_facts (fields_of true f) t in
    record { read = record { device_type = r.0; attribute = r.1.0; borne = r.1.1; bare = λ _. (refl, refl) }; fits = λ b. (omega arith, omega arith) }
fields_facts s f false q t d =
    let r = ranged_facts (fields_of false f) t in
    record { read = record { device_type = r.0; attribute = r.1.0; borne = r.1.1; bare = λ e. absurd (eqb-false f.device_type 0 q e) }; fits = d }

phy_of_facts : (s : List ℕ) (own_address i p : ℕ) (f : Discovered) → DiscoveredFacts s f → Reads (PhyFacts s) (phy_of own_address i p f)
phy_of_facts s own_address i p (vacant result) h = record { read = h.0; fits = h.1 }
phy_of_facts s own_address i p (fields f) h =
    tested (PhyFacts s) (eqb f.identifier.0 p && eqb f.own_address own_address) (refusal 5 i p) _ tt (λ _.
    tested (PhyFacts s) (ranged (fields_of (eqb f.device_type 0) f)) (refusal 6 i p) _ tt (λ t. fields_facts s f (eqb f.device_type 0) refl t h))

module _ (file : List ℕ) where
  abbrev UnitFacts : Parsed Phy → Type 0
  UnitFacts u = PhyFacts file u.value

  phy_unit_facts : (own_address i p at : ℕ) → Reads UnitFacts (phy_unit file own_address i p at)
  unfolding phy_unit
  phy_unit_facts own_address i p at =
      let P : Parsed Discovered → Type 0 = λ f. DiscoveredFacts file f.value in
      let x = frame_at DiscoverResponse discover_read file at in
      next P UnitFacts (placed i p x) _ (placed-holds P i p x (frame-holds (DiscoveredFacts file) DiscoverResponse discover_read file at (discover-at file at))) (λ f _ d.
      next (PhyFacts file) UnitFacts (phy_of own_address i p f.value) _ (phy_of_facts file own_address i p f.value d) (λ φ _ g. g))

  -- as many phys
  record PhysFacts (own_address i count p at : ℕ) (us : Parsed (List Phy)) : Type 0 where
    size : length us.value ≡ count
    each : (φ : Phy) → In φ us.value → PhyFacts file φ
    again : phys_got file own_address i count p at ≡ us

  phy_units_facts : (own_address i count p at : ℕ) → Reads (PhysFacts own_address i count p at) (phy_units file own_address i count p at)
  unfolding phy_units phys_got
  phy_units_facts own_address i zero p at = record { size = refl; each = λ φ h. absurd h; again = refl }
  phy_units_facts own_address i (suc count) p at =
      let P = PhysFacts own_address i (suc count) p at in
      next UnitFacts P (phy_unit file own_address i p at) _ (phy_unit_facts own_address i p at) (λ u q f.
      next (PhysFacts own_address i count (p + 1) u.next) P (phy_units file own_address i count (p + 1) u.next) _ (phy_units_facts own_address i count (p + 1) u.next) (λ us _ r.
      record { size = ap suc r.size; each = all_cons (PhyFacts file) u.value us.value f r.each; again = simp (q, r.again) }))

-- an expander's unit: one that passes where addresses were used passes where none were
record ExpanderFacts (most : Setting) (file used : List ℕ) (i at : ℕ) (u : Parsed ExpanderUnit) : Type 0 where
  borne : u.value.address ≢ 0
  new : ¬ (In u.value.address used)
  configurable : u.value.configurable ≤ 1
  some : 1 ≤ u.value.phys
  few : u.value.phys ≤ most.phys
  fits : Bytes file → (u.value.address < 2 ^ 64) × ((u.value.route_indexes < 65536) × (u.value.phys < 256))
  again : expander_unit most file [] i at ≡ good u

module _ (most : Setting) (file : List ℕ) where
  expander_unit_facts : (used : List ℕ) (i at : ℕ) → Reads (ExpanderFacts most file used i at) (expander_unit most file used i at)
  unfolding expander_unit is_in any
  expander_unit_facts used i at =
      let own_address = number_at file at 8 in
      let P = ExpanderFacts most file used i at in
      let Q : Parsed General → Type 0 = λ g. GeneralFacts file g.value in
      let x = frame_at ReportGeneral general_read file (at + 8) in
      next Q P (placed i 0 x) _ (placed-holds Q i 0 x (frame-holds (GeneralFacts file) ReportGeneral general_read file (at + 8) (general-at file (at + 8)))) (λ g q f.
      let w = unit_of own_address g.value in
      let R : ExpanderUnit → Type 0 = λ u. P (parsed u g.next) in
      next R P (unit_tested most used i w) _
      (tested R (within most.phys w.phys) (refusal 3 i 0) _ tt (λ three.
      tested R (not (eqb own_address 0) && not (is_in own_address used)) (refusal 4 i 0) _ tt (λ four.
      let n = both (leb 1 w.phys) _ three in
      let o = both (not (eqb own_address 0)) _ four in
      let free = o.0 in
      record {
        borne = eqb-false own_address 0 (not-true _ o.0);
        new = λ h. was_false (is_in own_address used) (not-true _ o.1) (is_in-of own_address used h);
        configurable = f.configurable;
        some = leb-true 1 w.phys n.0;
        few = leb-true w.phys most.phys n.1;
        fits = λ b. (number_fits file at 8 b, (f.route_indexes b, f.phys b));
        again = simp (q, three, free);
      }))) (λ u _ r. r))

  -- the expanders that follow those with the addresses in `used`
  record RestFacts (used : List ℕ) (count i at : ℕ) (d : Domain) : Type 0 where
    size : length d ≡ count
    new : (s : ℕ) → In s (addresses d) → ¬ (In s used)
    differ : Distinct (addresses d)
    each : (e : Expander) → In e d → ReadExpander most e
    fits : Bytes file → (e : Expander) → In e d → FitsExpander e
    again : domain_got most file count i at ≡ d

  expanders_facts : (count i at : ℕ) (used : List ℕ) → Reads (RestFacts used count i at) (expanders most file count i at used)
  unfolding expanders domain_got
  expanders_facts zero i at used = tested (RestFacts used 0 i at) (eqb at (length file)) (refusal 1 i 0) _ tt (λ _.
      record { size = refl; new = λ s h. absurd h; differ = tt; each = λ e h. absurd h; fits = λ b e h. absurd h; again = refl })
  expanders_facts (suc count) i at used =
      let P = RestFacts used (suc count) i at in
      next (ExpanderFacts most file used i at) P (expander_unit most file used i at) _ (expander_unit_facts used i at) (λ u _ x.
      let own_address = u.value.address in
      let n = u.value.phys in
      next (PhysFacts file own_address i n 0 u.next) P (phy_units file own_address i n 0 u.next) _ (phy_units_facts file own_address i n 0 u.next) (λ φs _ y.
      let more = used ++ (own_address ∷ []) in
      next (RestFacts more count (i + 1) φs.next) P (expanders most file count (i + 1) φs.next more) _ (expanders_facts count (i + 1) φs.next more) (λ d _ z.
      let k = y.size in
      let read : ReadExpander most (expander_of u.value φs.value) = record {
        borne = x.borne;
        configurable = x.configurable;
        some = omega (arith, x.some);
        few = omega (arith, x.few);
        phys = λ φ h. (y.each φ h).read;
      } in
      record {
        size = ap suc z.size;
        new = λ s. ⊎_elim (λ o h. x.new (in_cast used (sym o) h)) (λ o h. z.new s o (in_left used (own_address ∷ []) s h));
        differ = (λ h. z.new own_address h (in_right used (own_address ∷ []) own_address (inl refl)), z.differ);
        each = all_cons (ReadExpander most) (expander_of u.value φs.value) d read z.each;
        fits = λ b. all_cons FitsExpander (expander_of u.value φs.value) d
            (record { address = (x.fits b).0; route_indexes = (x.fits b).1.0; count = omega (arith, (x.fits b).1.1); phys = λ φ h. (y.each φ h).fits b }) (z.fits b);
        again = simp (x.again, y.again, z.again);
      })))

  -- the count of expanders
  record HeaderFacts (n : ℕ) : Type 0 where
    stated : n ≡ byte file 1
    some : 1 ≤ n
    few : n ≤ most.expanders

  header_facts : Reads HeaderFacts (header_unit most file)
  unfolding header_unit
  header_facts =
      let n = byte file 1 in
      tested HeaderFacts (leb 2 (length file)) (refusal 1 0 0) _ tt (λ _.
      tested HeaderFacts (eqb (byte file 0) 0x10) (refusal 2 0 0) _ tt (λ _.
      tested HeaderFacts (within most.expanders n) (refusal 3 0 0) _ tt (λ three.
      let k = both (leb 1 n) _ three in
      record { stated = refl; some = leb-true 1 n k.0; few = leb-true n most.expanders k.1 })))

  -- all that is known of the domain of a file
  record FileFacts (d : Domain) : Type 0 where
    read : Read most d
    fits : Bytes file → FitsDomain d
    stated : length d ≡ byte file 1
    again : domain_got most file (length d) 0 2 ≡ d

  file_facts : Reads FileFacts (domain_read most file)
  unfolding domain_read
  file_facts =
      unless_holds read_number FileFacts (in_range most) (refusal 22 0 0) _ (inr refl) (λ set.
      next HeaderFacts FileFacts (header_unit most file) _ header_facts (λ n _ k.
      weaker read_number read_number (RestFacts [] n 0 2) FileFacts (expanders most file n 0 2 []) (expanders_facts n 0 2 []) (λ _ k. k) (λ d r.
      let e = r.size in
      record {
        read = record { range = (range_iff most).0 (was_true (in_range most) set); some = omega (arith, k.some); few = omega (arith, k.few); differ = r.differ; each = r.each };
        fits = λ b. record { count = omega (arith, k.stated, b 1); each = r.fits b };
        stated = r.size ∙ k.stated;
        again = rw r.size r.again;
      })))

  -- what a file reads as, causes 22 and 1 to 6 leave
  pub read-good : (d : Domain) → domain_read most file ≡ good d → Read most d
  read-good d q = (held read_number FileFacts (domain_read most file) d file_facts q).read

  -- and it fits, where the file is of bytes
  pub read_fits : (d : Domain) → Bytes file → domain_read most file ≡ good d → FitsDomain d
  read_fits d b q = (held read_number FileFacts (domain_read most file) d file_facts q).fits b

  -- its second byte states the number of expanders
  pub stated-expanders : (d : Domain) → domain_read most file ≡ good d → length d ≡ byte file 1
  stated-expanders d q = (held read_number FileFacts (domain_read most file) d file_facts q).stated

  -- the second reading gets it again
  pub read_again : (d : Domain) → domain_read most file ≡ good d → domain_got most file (length d) 0 2 ≡ d
  read_again d q = (held read_number FileFacts (domain_read most file) d file_facts q).again

  -- it is refused with a number from 1 to 6, with 22, or with none
  pub read-numbered : (N : ℕ → Type 0) → ((n : ℕ) → read_number n → N n) → Numbered N (domain_read most file)
  read-numbered N h = weaker read_number N FileFacts (λ _. Unit {0}) (domain_read most file) file_facts h (λ _ _. tt)

  pub few-phys : (used : List ℕ) (i at : ℕ) (u : Parsed ExpanderUnit) → expander_unit most file used i at ≡ good u → u.value.phys ≤ most.phys
  few-phys used i at u q = (held read_number (ExpanderFacts most file used i at) (expander_unit most file used i at) u (expander_unit_facts used i at) q).few
