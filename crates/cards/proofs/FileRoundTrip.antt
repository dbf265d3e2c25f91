-- The file of a domain gives it back.
use Prim.Native.Nat.{ℕ, suc, ◌+◌, ◌*◌, ◌≤◌, ◌<◌, ◌^◌}
use mathlib.Core.Path.{◌≡◌, refl, sym, ◌∙◌, ap}
use mathlib.Core.Bool.{Bool, true, false}
use mathlib.Core.List.{List, [], ◌∷◌, ◌++◌, append_assoc}
use native.Mathlib.Omega.{arith}
use lib.ListN.{length, take, drop, length-append, length-drop}
use lib.Seq.{take_at, drop_at, drop-drop}
use lib.Dec.{eqb}
use borrow.Author.Tests.{eq-eqb, eqb-true, le-leb}
use Rattle.frames.specs.Bytes.{number_at, bytes_of}
use Rattle.frames.specs.Refusals.{good, refusal}
use Rattle.frames.specs.Sizes.{frame_size, short_size}
use Rattle.frames.specs.ReportGeneral.{general_read}
use Rattle.frames.specs.Discovery.{discover_read}
use Rattle.frames.specs.declared.Discovered.TheVariants.{Vacant as vacant, Fields as fields}
use Rattle.frames.specs.declared.Response.{Response}
use Rattle.frames.specs.declared.Response.TheVariants.{ReportGeneral, Discover as DiscoverResponse}
use Rattle.cards.specs.ShortFrames.{short_general, short_vacant, short_discover}
use Rattle.frames.proofs.ByteNumbers.{number-back, number-left, length-bytes_of, number-drop}
use Rattle.cards.proofs.ShortFrames.{length-general, length-vacant, length-discover, size-general, size-vacant, size-discover, general-back, vacant-back, discover-back}
use Rattle.files.specs.declared.Setting.{Setting}
use Rattle.files.specs.declared.ExpanderUnit.{ExpanderUnit}
use Rattle.files.specs.declared.Phy.{Phy}
use Rattle.files.specs.declared.Phy.TheVariants.{Vacant, Present}
use Rattle.files.specs.declared.PhyFields.{PhyFields}
use Rattle.files.specs.Settings.{in_range}
use Rattle.files.specs.Domain.{Expander, Domain}
use Rattle.files.specs.File.{parsed, size_at, fields_of, ranged, phy_of, phy_unit, phy_units, unit_tested, expander_unit, expanders, header_unit, domain_read}
use Rattle.files.proofs.ListMembers.{is_true}
use Rattle.files.proofs.SettingRanges.{range_iff}
use Rattle.files.proofs.UnitReading.{size-by, phy-unit-by, expander-unit-by, tested-same}
use Rattle.files.proofs.CallResults.{unless-good, then-good}
use Rattle.cards.specs.CardRead.{phy_ranged, phys_tested, unit_fields, units_tested}
use Rattle.cards.specs.FileOf.{general_of, discover_of, phy_frame, phys_frames, unit_head, units_of, file_of, head_bytes}
use Rattle.cards.proofs.DomainRanges.{FieldsRange, PhyRange, PhysRange, ExpanderRange, ExpandersRange, Legal}
use Rattle.cards.proofs.CardDomain.{phys_pass}
use Rattle.cards.proofs.CardRoundTrip.{bare-is}

pub length-phy : (own_address p : ℕ) (φ : Phy) → length (phy_frame own_address p φ) ≡ short_size DiscoverResponse
length-phy own_address p (Vacant r) = length-vacant r
length-phy own_address p (Present f) = length-discover (discover_of own_address p f)

pub length-frames : (own_address p : ℕ) (φs : List Phy) → length (phys_frames own_address p φs) ≡ short_size DiscoverResponse * length φs
unfolding phys_frames
length-frames own_address p [] = refl
length-frames own_address p (φ ∷ φs) =
    let e = length-frames own_address (p + 1) φs in
    let n = length-phy own_address p φ in
    rw (length-append (phy_frame own_address p φ)) (omega arith)

pub length-head : (e : Expander) → length (unit_head e) ≡ head_bytes
unfolding unit_head
length-head e =
    let a = length-bytes_of 8 e.address in
    let g = length-general (general_of e) in
    rw (length-append (bytes_of 8 e.address)) (omega arith)

-- what stands at an offset of a file
module _ (file : List ℕ) (at : ℕ) (frame rest : List ℕ) (q : drop at file ≡ frame ++ rest) where
  fits : (n : ℕ) → length frame ≡ n → 0 < n → at + n ≤ length file
  fits n e h = omega (arith, length-drop at file, length-append frame rest, ap length q)

  frame_at : (n : ℕ) → length frame ≡ n → take n (drop at file) ≡ frame
  frame_at n e = ap (take n) q ∙ take_at frame rest n e

  after : (n : ℕ) → length frame ≡ n → drop (at + n) file ≡ rest
  after n e = sym (drop-drop n at file) ∙ ap (drop n) q ∙ drop_at frame rest n e

  -- its size is found
  size-there : (kind : Response) (n : ℕ) → length frame ≡ n → 0 < n → frame_size kind (frame ++ rest) ≡ good n → size_at kind file at ≡ good n
  size-there kind n e h s =
      let l = fits n e h in
      size-by kind file at n (ap (frame_size kind) q ∙ s) (omega arith) (le-leb (at + n) (length file) l)

-- a phy's fields, read again
same-fields : (own_address p : ℕ) (f : PhyFields) (b : Bool) → eqb f.device_type 0 ≡ b → FieldsRange f → fields_of b (discover_of own_address p f) ≡ f
same-fields own_address p f true q h = bare-is f (h.bare_in (eqb-true f.device_type 0 q))
same-fields own_address p f false q h = refl

phy_of-back : (own_address i p : ℕ) (f : PhyFields) → FieldsRange f → ranged f ≡ true → phy_of own_address i p (fields (discover_of own_address p f)) ≡ good (Present f)
phy_of-back own_address i p f h r =
    let s = same-fields own_address p f (eqb f.device_type 0) refl h in
    rw (eq-eqb p p refl, eq-eqb own_address own_address refl, s, r)

module _ (file : List ℕ) (own_address i : ℕ) (o : own_address < 2 ^ 64) where
  phy-unit : (p at : ℕ) (φ : Phy) (rest : List ℕ) → drop at file ≡ phy_frame own_address p φ ++ rest → PhyRange φ → phy_ranged φ ≡ true
      → phy_unit file own_address i p at ≡ good (parsed φ (at + short_size DiscoverResponse))
  phy-unit p at (Vacant r) rest q h k =
      let n = length-vacant r in
      let frame : List ℕ = short_vacant r in
      phy-unit-by file own_address i p at (short_size DiscoverResponse) (good (vacant r)) (size-there file at frame rest q DiscoverResponse (short_size DiscoverResponse) n (omega arith) (size-vacant r rest))
      (ap discover_read (frame_at file at frame rest q (short_size DiscoverResponse) n) ∙ vacant-back r h.0)
  phy-unit p at (Present f) rest q h k =
      let d = discover_of own_address p f in
      let n = length-discover d in
      let frame : List ℕ = short_discover (discover_of own_address p f) in
      let e = phy_of-back own_address i p f h k in
      phy-unit-by file own_address i p at (short_size DiscoverResponse) (good (fields d)) (size-there file at frame rest q DiscoverResponse (short_size DiscoverResponse) n (omega arith) (size-discover d rest))
      (ap discover_read (frame_at file at frame rest q (short_size DiscoverResponse) n) ∙ discover-back d o h.address_in_lem h.device_type_in (omega (arith, h.attribute_in)))
      ∙ rw e

  phy-units : (φs : List Phy) (p at : ℕ) (rest : List ℕ) (x : Domain) → drop at file ≡ phys_frames own_address p φs ++ rest → PhysRange φs → phys_tested i p φs (good x) ≡ good x
      → phy_units file own_address i (length φs) p at ≡ good (parsed φs (at + short_size DiscoverResponse * length φs))
  unfolding phy_units phys_frames phys_tested
  phy-units [] p at rest x q h k = let e : at + short_size DiscoverResponse * 0 ≡ at = omega arith in rw e
  phy-units (φ ∷ φs) p at rest x q h k =
      let frame : List ℕ = phy_frame own_address p φ in
      let t = unless-good (phy_ranged φ) (refusal 6 i p) (phys_tested i (p + 1) φs (good x)) x k in
      let q' : drop at file ≡ frame ++ (phys_frames own_address (p + 1) φs ++ rest) = q ∙ append_assoc frame (phys_frames own_address (p + 1) φs) rest in
      let u = phy-unit p at φ (phys_frames own_address (p + 1) φs ++ rest) q' h.0 (is_true (phy_ranged φ) t.0) in
      let r = phy-units φs (p + 1) (at + short_size DiscoverResponse) rest x (after file at frame (phys_frames own_address (p + 1) φs ++ rest) q' (short_size DiscoverResponse) (length-phy own_address p φ)) h.1 t.1 in
      let e : at + short_size DiscoverResponse + short_size DiscoverResponse * length φs ≡ at + short_size DiscoverResponse * suc (length φs) = omega arith in
      rw (u, r, e)

module _ (most : Setting) (file : List ℕ) where
  expander-unit : (used : List ℕ) (i at : ℕ) (e : Expander) (rest : List ℕ) (u : ExpanderUnit) → drop at file ≡ unit_head e ++ rest → ExpanderRange e
      → unit_tested most used i (unit_fields e) ≡ good u → expander_unit most file used i at ≡ good (parsed u (at + head_bytes))
  unfolding unit_head
  expander-unit used i at e rest u q h t =
      let a : List ℕ = bytes_of 8 e.address in
      let g : List ℕ = short_general (general_of e) in
      let b = length-bytes_of 8 e.address in
      let q' : drop at file ≡ a ++ (g ++ rest) = q ∙ append_assoc a g rest in
      let o : number_at file at 8 ≡ e.address =
      number-drop file at 8 ∙ ap (λ (m : List ℕ). number_at m 0 8) q' ∙ number-left a (g ++ rest) 0 8 (omega arith) ∙ number-back 8 e.address h.own_address_in in
      let q1 : drop (at + 8) file ≡ g ++ rest = after file at a (g ++ rest) q' 8 b in
      let n = length-general (general_of e) in
      let z : at + 8 + short_size ReportGeneral ≡ at + head_bytes = omega arith in
      expander-unit-by most file used i at e.address o (short_size ReportGeneral) (good (general_of e))
      (size-there file (at + 8) g rest q1 ReportGeneral (short_size ReportGeneral) n (omega arith) (size-general (general_of e) rest))
      (ap general_read (frame_at file (at + 8) g rest q1 (short_size ReportGeneral) n) ∙ general-back (general_of e) h.route_indexes_in h.configurable_in)
      ∙ rw (t, z)

  expanders-back : (d : Domain) (i at : ℕ) (used : List ℕ) (x : Domain) → drop at file ≡ units_of d → at ≤ length file → ExpandersRange d
      → units_tested most i used d (good x) ≡ good x → expanders most file (length d) i at used ≡ good d
  unfolding expanders units_of units_tested
  expanders-back [] i at used x q m h k =
      let l : at ≡ length file = omega (arith, length-drop at file, ap length q) in
      rw (eq-eqb at (length file) l)
  expanders-back (e ∷ d) i at used x q m h k =
      let ps : List ℕ = phys_frames e.address 0 e.phys in
      let n : ℕ = length e.phys in
      let next : List ℕ = used ++ (e.address ∷ []) in
      let t = then-good (unit_tested most used i (unit_fields e)) (λ u. phys_tested i 0 e.phys (units_tested most (i + 1) next d (good x))) x k in
      let s : unit_tested most used i (unit_fields e) ≡ good (unit_fields e) = t.1 ∙ ap good (sym (tested-same most used i (unit_fields e) t.0 t.1)) in
      let p = phys_pass i 0 e.phys (units_tested most (i + 1) next d (good x)) x t.2 in
      let u = expander-unit used i at e (ps ++ units_of d) (unit_fields e) q h.0 s in
      let q3 : drop (at + head_bytes) file ≡ ps ++ units_of d = after file at (unit_head e) (ps ++ units_of d) q head_bytes (length-head e) in
      let v = phy-units file e.address i h.0.own_address_in e.phys 0 (at + head_bytes) (units_of d) x q3 h.0.phys_in_lem (p.1 (good x)) in
      let q4 : drop (at + head_bytes + short_size DiscoverResponse * n) file ≡ units_of d = after file (at + head_bytes) ps (units_of d) q3 (short_size DiscoverResponse * n) (length-frames e.address 0 e.phys) in
      let m4 : at + head_bytes + short_size DiscoverResponse * n ≤ length file = omega (arith, length-drop (at + head_bytes) file, ap length q3, length-append ps (units_of d), length-frames e.address 0 e.phys, h.0.some-phys) in
      let r = expanders-back d (i + 1) (at + head_bytes + short_size DiscoverResponse * n) next x q4 m4 h.1 p.0 in
      rw (u, v, r)

-- the file of a domain reads as the domain
pub file-of : (most : Setting) (d : Domain) → Legal most d → domain_read most (file_of d) ≡ good d
unfolding domain_read header_unit file_of
file-of most d h =
    let r = expanders-back most (file_of d) d 0 2 [] d refl (omega arith) h.ranges (h.units (good d)) in
    let o : in_range most ≡ true = is_true (in_range most) ((range_iff most).1 h.range) in
    let l : 2 ≤ length (file_of d) = omega arith in
    rw (o, le-leb 2 (length (file_of d)) l, le-leb 1 (length d) h.some, le-leb (length d) most.expanders h.few, r)
