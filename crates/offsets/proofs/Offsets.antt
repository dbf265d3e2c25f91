-- Where the frames of a file that was read stand: the places found by byte 3 of each frame are the reader's own.
use Prim.Native.Nat.{ℕ, zero, suc, ◌+◌, ◌-◌, ◌*◌, ◌≤◌, ◌<◌}
use mathlib.Core.Path.{◌≡◌, refl, sym, ◌∙◌, ap, subst}
use mathlib.Core.Bool.{Bool, true, false, cond}
use mathlib.Core.List.{List, [], ◌∷◌, ◌++◌}
use native.Mathlib.Omega.{arith}
use lib.ListN.{length, get_or, take, drop}
use lib.Seq.{get_or-drop, get_or-take}
use lib.Dec.{eqb, leb, eqb→eq, leb→le}
use Rattle.frames.specs.Bytes.{byte, number_at}
use Rattle.frames.specs.Refusals.{Result, refused, good, refusal}
use Rattle.frames.specs.Sizes.{short_size, long_size, long_length, size_stated, frame_size}
use Rattle.frames.specs.ReportGeneral.{general_read}
use Rattle.frames.specs.Discovery.{discover_read}
use Rattle.frames.specs.declared.General.{General}
use Rattle.frames.specs.declared.Response.{Response}
use Rattle.frames.specs.declared.Response.TheVariants.{ReportGeneral, Discover}
use Rattle.files.specs.declared.Setting.{Setting}
use Rattle.files.specs.declared.ExpanderUnit.{ExpanderUnit}
use Rattle.files.specs.declared.Phy.{Phy}
use Rattle.files.specs.declared.Phy.TheVariants.{Vacant}
use Rattle.files.specs.Settings.{in_range, most_phys}
use Rattle.files.specs.Domain.{Expander, Domain, expander_at}
use Rattle.files.specs.File.{parsed, size_at, phy_of, phy_unit, phy_units, unit_of, unit_tested, expander_unit, expander_of, expanders, header_unit, domain_read}
use Rattle.files.specs.declared.Parsed.{Parsed}
use Rattle.files.specs.UnitAnswers.{ends_at}
use Rattle.frames.proofs.LongFrames.{size-least}
use Rattle.files.proofs.ReadDomain.{read-good, few-phys}
use Rattle.files.proofs.Domains.{expander-range}
use Rattle.files.proofs.CallResults.{never, good-one, unless-good, then-good}
use Rattle.files.proofs.UnitReading.{size-whole, size-within, unit_at, unit-cut, unit-by, general-is, tested-same, phys-count}
use Rattle.offsets.specs.Offsets.{Placed, longest_unit}
use Rattle.offsets.specs.Offsets.{size_from, phys_after, phys_from, expanders_after, expander_offset, phy_offset}

-- a frame whose size was found has the size that its byte 3 says
stated : (kind : Response) (b n : ℕ) → size_stated kind b ≡ good n → n ≡ cond (eqb b 0) (short_size kind) (long_size kind)
stated kind b n e = go (eqb b 0) (eqb b (long_length kind)) e
  where
    go : (x y : Bool) → cond x (good (short_size kind)) (cond y (good (long_size kind)) (refused (refusal 2 0 0))) ≡ good n → n ≡ cond x (short_size kind) (long_size kind)
    go true y e = sym (good-one (short_size kind) n e)
    go false true e = sym (good-one (long_size kind) n e)
    go false false e = never (refusal 2 0 0) n e

pub size-from : (kind : Response) (file : List ℕ) (at n : ℕ) → size_at kind file at ≡ good n → n ≡ size_from kind file at
unfolding frame_size
size-from kind file at n e =
    let w = size-whole kind file at n e in
    let s = unless-good (leb 4 (length (drop at file))) (refusal 1 0 0) (size_stated kind (byte (drop at file) 3)) n w.size in
    stated kind (byte (drop at file) 3) n s.1 ∙ ap (λ (b : ℕ). cond (eqb b 0) (short_size kind) (long_size kind)) (get_or-drop at file 3 0)

-- a unit that was read: its frame's size, its fields, and the place after it
pub record Found {A B : Type 0} (kind : Response) (read : List ℕ → Result A) (test : A → Result B) (file : List ℕ) (from : ℕ) (u : Parsed B) : Type 0 where
  pub size : ℕ
  pub found : size_at kind file from ≡ good size
  pub is : size ≡ size_from kind file from
  pub fields : A
  pub reads : read (take size (drop from file)) ≡ good fields
  pub tested : test fields ≡ good u.value
  pub next : u.next ≡ from + size
  pub inside : from + size ≤ length file

module _ {A B : Type 0} (kind : Response) (read : List ℕ → Result A) (test : A → Result B) (i p : ℕ) (file : List ℕ) (from : ℕ) where
  pub unit-found : (u : Parsed B) → unit_at kind read test i p file from ≡ good u → Found kind read test file from u
  unit-found u e = go (size_at kind file from) refl
    where
      by_read : (n : ℕ) → size_at kind file from ≡ good n → (x : Result A) → read (take n (drop from file)) ≡ x → Found kind read test file from u
      by_read n f (refused r) g = never (refusal r.number i p) u (sym (unit-by kind read test i p file from n (refused r) f g) ∙ e)
      by_read n f (good a) g =
          let b = then-good (test a) (ends_at (from + n)) u (sym (unit-by kind read test i p file from n (good a) f g) ∙ e) in
          let q = good-one (parsed b.0 (from + n)) u b.2 in
          record {
            size = n;
            found = f;
            is = size-from kind file from n f;
            fields = a;
            reads = g;
            tested = b.1 ∙ ap (λ (v : Parsed B). good v.value) q;
            next = sym (ap (λ (v : Parsed B). v.next) q);
            inside = (size-within kind file from n f).1;
          }

      go : (x : Result ℕ) → size_at kind file from ≡ x → Found kind read test file from u
      go (refused r) f = never (refusal r.number i p) u (sym (unit-cut kind read test i p file from r f) ∙ e)
      go (good n) f = by_read n f (read (take n (drop from file))) refl

module _ (file : List ℕ) (own_address i : ℕ) where
  pub phy-found : (p at : ℕ) (u : Parsed Phy) → phy_unit file own_address i p at ≡ good u → Found Discover discover_read (phy_of own_address i p) file at u
  unfolding phy_unit
  phy-found p at u e = unit-found Discover discover_read (phy_of own_address i p) i p file at u e

  phy-next : (p at : ℕ) (u : Parsed Phy) → phy_unit file own_address i p at ≡ good u → u.next ≡ at + size_from Discover file at
  phy-next p at u e = let f = phy-found p at u e in f.next ∙ ap (λ (n : ℕ). at + n) f.is

  -- the place after the phys
  pub phys-after : (count p at : ℕ) (us : Parsed (List Phy)) → phy_units file own_address i count p at ≡ good us → us.next ≡ phys_after file count at
  unfolding phy_units phys_after
  phys-after zero p at us e = sym (ap (λ (v : Parsed (List Phy)). v.next) (good-one (parsed [] at) us e))
  phys-after (suc count) p at us e =
      let one = then-good (phy_unit file own_address i p at) _ us e in
      let u = one.0 in
      let more = then-good (phy_units file own_address i count (p + 1) u.next) _ us one.2 in
      let tail = more.0 in
      let q = good-one (parsed (u.value ∷ tail.value) tail.next) us more.2 in
      sym (ap (λ (v : Parsed (List Phy)). v.next) q) ∙ phys-after count (p + 1) u.next tail more.1 ∙ ap (phys_after file count) (phy-next p at u one.1)

  -- phy k of them stands where it is looked for
  pub phy-there : (count p at : ℕ) (us : Parsed (List Phy)) → phy_units file own_address i count p at ≡ good us → (k : ℕ) → k < count
      → (u : Parsed Phy) × (phy_unit file own_address i (p + k) (phys_after file k at) ≡ good u) × (u.value ≡ get_or us.value k (Vacant 0))
  unfolding phy_units phys_after
  phy-there zero p at us e k h = absurd (omega arith)
  phy-there (suc count) p at us e zero h =
      let one = then-good (phy_unit file own_address i p at) _ us e in
      let u = one.0 in
      let more = then-good (phy_units file own_address i count (p + 1) u.next) _ us one.2 in
      let tail = more.0 in
      let q = good-one (parsed (u.value ∷ tail.value) tail.next) us more.2 in
      let z : p + 0 ≡ p = omega arith in
      (u, ap (λ (m : ℕ). phy_unit file own_address i m at) z ∙ one.1, ap (λ (v : Parsed (List Phy)). get_or v.value 0 (Vacant 0)) q)
  phy-there (suc count) p at us e (suc k) h =
      let one = then-good (phy_unit file own_address i p at) _ us e in
      let u = one.0 in
      let more = then-good (phy_units file own_address i count (p + 1) u.next) _ us one.2 in
      let tail = more.0 in
      let q = good-one (parsed (u.value ∷ tail.value) tail.next) us more.2 in
      let r = phy-there count (p + 1) u.next tail more.1 k (omega arith) in
      let z : p + suc k ≡ p + 1 + k = omega arith in (
        r.0,
        ap (λ (m : ℕ). phy_unit file own_address i m (phys_after file k (at + size_from Discover file at))) z
            ∙ ap (λ (m : ℕ). phy_unit file own_address i (p + 1 + k) (phys_after file k m)) (sym (phy-next p at u one.1)) ∙ r.1,
        r.2 ∙ ap (λ (v : Parsed (List Phy)). get_or v.value (suc k) (Vacant 0)) q,
      )

-- an expander that was read
pub record HeadFound (most : Setting) (file : List ℕ) (at : ℕ) (u : Parsed ExpanderUnit) : Type 0 where
  pub next : u.next ≡ phys_from file at
  pub phys : u.value.phys ≡ byte file (at + 17)
  pub address : u.value.address ≡ number_at file at 8
  pub inside : u.next ≤ length file

module _ (most : Setting) (file : List ℕ) where
  pub head-found : (used : List ℕ) (i at : ℕ) (u : Parsed ExpanderUnit) → expander_unit most file used i at ≡ good u → HeadFound most file at u
  unfolding expander_unit
  head-found used i at u e =
      let own_address = number_at file at 8 in
      let f = unit-found ReportGeneral general_read (λ g. unit_tested most used i (unit_of own_address g)) i 0 file (at + 8) u e in
      let q = tested-same most used i (unit_of own_address f.fields) u.value f.tested in
      let s : List ℕ = take f.size (drop (at + 8) file) in
      let g = general-is s f.fields f.reads in
      let l = (size-within ReportGeneral file (at + 8) f.size f.found).0 in
      let z : at + 8 + 9 ≡ at + 17 = omega arith in
      record {
        next = f.next ∙ ap (λ (n : ℕ). at + 8 + n) f.is;
        phys = sym (ap (λ (v : ExpanderUnit). v.phys) q) ∙ sym (ap (λ (v : General). v.phys) g) ∙ get_or-take f.size (drop (at + 8) file) 9 0 (omega arith)
            ∙ get_or-drop (at + 8) file 9 0 ∙ ap (byte file) z;
        address = sym (ap (λ (v : ExpanderUnit). v.address) q);
        inside = omega (arith, f.inside, f.next);
      }

  -- expander k of those that were read stands where it is looked for
  pub record There (i at : ℕ) (e : Expander) : Type 0 where
    pub used : List ℕ
    pub unit : Parsed ExpanderUnit
    pub phys : Parsed (List Phy)
    pub head : expander_unit most file used i at ≡ good unit
    pub after : phy_units file unit.value.address i unit.value.phys 0 unit.next ≡ good phys
    pub is : expander_of unit.value phys.value ≡ e

  -- the place after one expander
  pub unit-after : (used : List ℕ) (i at : ℕ) (u : Parsed ExpanderUnit) (φs : Parsed (List Phy)) → expander_unit most file used i at ≡ good u
      → phy_units file u.value.address i u.value.phys 0 u.next ≡ good φs → φs.next ≡ phys_after file (byte file (at + 17)) (phys_from file at)
  unit-after used i at u φs e f =
      let h = head-found used i at u e in
      phys-after file u.value.address i u.value.phys 0 u.next φs f ∙ ap (λ (n : ℕ). phys_after file n u.next) h.phys ∙ ap (phys_after file (byte file (at + 17))) h.next

  pub expander-there : (count i at : ℕ) (used : List ℕ) (d : Domain) → expanders most file count i at used ≡ good d → (k : ℕ) → k < count → There (i + k) (expanders_after file k at) (expander_at d k)
  unfolding expanders expanders_after
  expander-there zero i at used d e k h = absurd (omega arith)
  expander-there (suc count) i at used d e zero h =
      let one = then-good (expander_unit most file used i at) _ d e in
      let u = one.0 in
      let two = then-good (phy_units file u.value.address i u.value.phys 0 u.next) _ d one.2 in
      let φs = two.0 in
      let more = then-good (expanders most file count (i + 1) φs.next (used ++ (u.value.address ∷ []))) _ d two.2 in
      let q = good-one (expander_of u.value φs.value ∷ more.0) d more.2 in
      let z : i + 0 ≡ i = omega arith in
      record {
        used = used;
        unit = u;
        phys = φs;
        head = ap (λ (m : ℕ). expander_unit most file used m at) z ∙ one.1;
        after = ap (λ (m : ℕ). phy_units file u.value.address m u.value.phys 0 u.next) z ∙ two.1;
        is = ap (λ (v : Domain). expander_at v 0) q;
      }
  expander-there (suc count) i at used d e (suc k) h =
      let one = then-good (expander_unit most file used i at) _ d e in
      let u = one.0 in
      let two = then-good (phy_units file u.value.address i u.value.phys 0 u.next) _ d one.2 in
      let φs = two.0 in
      let next = used ++ (u.value.address ∷ []) in
      let more = then-good (expanders most file count (i + 1) φs.next next) _ d two.2 in
      let q = good-one (expander_of u.value φs.value ∷ more.0) d more.2 in
      let r = expander-there count (i + 1) φs.next next more.0 more.1 k (omega arith) in
      let a = unit-after used i at u φs one.1 two.1 in
      let z : i + suc k ≡ i + 1 + k = omega arith in
      subst (λ (m : ℕ). There m (expanders_after file k (phys_after file (byte file (at + 17)) (phys_from file at))) (expander_at d (suc k))) (sym z)
      (subst (λ (m : ℕ). There (i + 1 + k) (expanders_after file k m) (expander_at d (suc k))) a
      (subst (λ (v : Domain). There (i + 1 + k) (expanders_after file k φs.next) (expander_at v (suc k))) q r))

  -- the place after the last unit is the end
  pub expanders-end : (count i at : ℕ) (used : List ℕ) (d : Domain) → expanders most file count i at used ≡ good d → (length file ≡ expanders_after file count at) × (length d ≡ count)
  unfolding expanders expanders_after
  expanders-end zero i at used d e =
      let u = unless-good (eqb at (length file)) (refusal 1 i 0) (good []) d e in
      (sym (eqb→eq at (length file) u.0), sym (ap length (good-one [] d u.1)))
  expanders-end (suc count) i at used d e =
      let one = then-good (expander_unit most file used i at) _ d e in
      let u = one.0 in
      let two = then-good (phy_units file u.value.address i u.value.phys 0 u.next) _ d one.2 in
      let φs = two.0 in
      let next = used ++ (u.value.address ∷ []) in
      let more = then-good (expanders most file count (i + 1) φs.next next) _ d two.2 in
      let q = good-one (expander_of u.value φs.value ∷ more.0) d more.2 in
      let r = expanders-end count (i + 1) φs.next next more.0 more.1 in
      let a = unit-after used i at u φs one.1 two.1 in
      (r.0 ∙ ap (expanders_after file count) a, sym (ap length q) ∙ ap suc r.1)

  -- a file that reads as a domain: its expanders stand after the header
  pub units_of : (d : Domain) → domain_read most file ≡ good d → (2 ≤ length file) × (expanders most file (length d) 0 2 [] ≡ good d)
  unfolding domain_read header_unit
  units_of d e =
      let r = (unless-good (in_range most) (refusal 22 0 0) _ d e).1 in
      let h = then-good (header_unit most file) (λ n. expanders most file n 0 2 []) d r in
      let a = unless-good (leb 2 (length file)) (refusal 1 0 0) _ h.0 h.1 in
      (leb→le 2 (length file) a.0, ap (λ (n : ℕ). expanders most file n 0 2 []) (expanders-end h.0 0 2 [] d h.2).1 ∙ h.2)

-- how far frames reach
size_bound : (file : List ℕ) (at : ℕ) → (size_from Discover file at ≤ long_size Discover) × (size_from ReportGeneral file at ≤ long_size ReportGeneral)
size_bound file at = go (eqb (byte file (at + 3)) 0)
  where
    go : (b : Bool) → (cond b (short_size Discover) (long_size Discover) ≤ long_size Discover) × (cond b (short_size ReportGeneral) (long_size ReportGeneral) ≤ long_size ReportGeneral)
    go true = (omega arith, omega arith)
    go false = (omega arith, omega arith)

pub phys_bound : (file : List ℕ) (n at : ℕ) → (at ≤ phys_after file n at) × (phys_after file n at ≤ at + long_size Discover * n)
unfolding phys_after
phys_bound file zero at = (omega arith, omega arith)
phys_bound file (suc n) at =
    let r = phys_bound file n (at + size_from Discover file at) in
    let s = (size_bound file at).0 in
    (omega arith, omega arith)

pub place_after : (file : List ℕ) (i at : ℕ) → at ≤ expanders_after file i at
unfolding expanders_after
place_after file zero at = omega arith
place_after file (suc i) at =
    let n = byte file (at + 17) in
    let r = place_after file i (phys_after file n (phys_from file at)) in
    let s = (phys_bound file n (phys_from file at)).0 in
    omega arith

module _ (most : Setting) (file : List ℕ) (few : most.phys ≤ 128) where
  file_bound : (count i at : ℕ) (used : List ℕ) (d : Domain) → expanders most file count i at used ≡ good d → length file ≤ at + longest_unit most_phys * count
  unfolding expanders
  file_bound zero i at used d e =
      let u = unless-good (eqb at (length file)) (refusal 1 i 0) (good []) d e in
      let q = eqb→eq at (length file) u.0 in
      omega arith
  file_bound (suc count) i at used d e =
      let one = then-good (expander_unit most file used i at) _ d e in
      let u = one.0 in
      let two = then-good (phy_units file u.value.address i u.value.phys 0 u.next) _ d one.2 in
      let φs = two.0 in
      let next = used ++ (u.value.address ∷ []) in
      let more = then-good (expanders most file count (i + 1) φs.next next) _ d two.2 in
      let r = file_bound count (i + 1) φs.next next more.0 more.1 in
      let h = (head-found most file used i at u one.1).next in
      let a = phys-after file u.value.address i u.value.phys 0 u.next φs two.1 in
      let b = (phys_bound file u.value.phys u.next).1 in
      let c = few-phys most file used i at u one.1 in
      let s = (size_bound file (at + 8)).1 in
      omega arith

-- how many bytes a file that reads as a domain has at most
pub length_bound : (most : Setting) (file : List ℕ) (d : Domain) → domain_read most file ≡ good d → length file ≤ 2 + longest_unit most_phys * length d
length_bound most file d e = let g = read-good most file d e in file_bound most file g.range.phys.1 (length d) 0 2 [] d (units_of most file d e).1

-- the frame of a phy that there is stands within the file
pub phy-placed : (most : Setting) (file : List ℕ) (d : Domain) → domain_read most file ≡ good d → (i p : ℕ) → p < length (expander_at d i).phys → Placed file i p
phy-placed most file d e i p h =
    let k = expander-range d i p h in
    let t = expander-there most file (length d) 0 2 [] d (units_of most file d e).1 i k in
    let u = t.unit in
    let o = head-found most file t.used (0 + i) (expander_offset file i) u t.head in
    let c = phys-count file u.value.address (0 + i) u.value.phys 0 u.next t.phys t.after in
    let l : length t.phys.value ≡ length (expander_at d i).phys = ap (λ (x : Expander). length x.phys) t.is in
    let v = phy-there file u.value.address (0 + i) u.value.phys 0 u.next t.phys t.after p (omega arith) in
    let w = phy-found file u.value.address (0 + i) (0 + p) (phys_after file p u.next) v.0 v.1 in
    let n = size-whole Discover file (phys_after file p u.next) w.size w.found in
    let m = size-least Discover (drop (phys_after file p u.next) file) w.size n.size in
    let q : phys_after file p u.next ≡ phy_offset file i p = ap (phys_after file p) o.next in
    let a = (phys_bound file p (phys_from file (expander_offset file i))).0 in
    let b = place_after file i 2 in
    let inside = w.inside in
    record { after = omega arith; within = omega arith }

-- one turn of each loop, and its end
pub phys-go : (file : List ℕ) (n p next v : ℕ) → phys_after file (n - p) next ≡ v → p < n → phys_after file (n - (p + 1)) (next + size_from Discover file next) ≡ v
unfolding phys_after
phys-go file n p next v inv h =
    let e : n - p ≡ suc (n - (p + 1)) = omega arith in
    sym (ap (λ (k : ℕ). phys_after file k next) e) ∙ inv

pub phys-end : (file : List ℕ) (n p next v : ℕ) → phys_after file (n - p) next ≡ v → n ≤ p → next ≡ v
unfolding phys_after
phys-end file n p next v inv h = let e : n - p ≡ 0 = omega arith in sym (ap (λ (k : ℕ). phys_after file k next) e) ∙ inv

pub places-go : (file : List ℕ) (n k at v : ℕ) → expanders_after file (n - k) at ≡ v → k < n → expanders_after file (n - (k + 1)) (phys_after file (byte file (at + 17)) (phys_from file at)) ≡ v
unfolding expanders_after
places-go file n k at v inv h =
    let e : n - k ≡ suc (n - (k + 1)) = omega arith in
    sym (ap (λ (m : ℕ). expanders_after file m at) e) ∙ inv

pub places-end : (file : List ℕ) (n k at v : ℕ) → expanders_after file (n - k) at ≡ v → n ≤ k → at ≡ v
unfolding expanders_after
places-end file n k at v inv h = let e : n - k ≡ 0 = omega arith in sym (ap (λ (m : ℕ). expanders_after file m at) e) ∙ inv
