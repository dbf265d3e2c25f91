-- One DISCOVER response as bytes: it reads alike wherever it stands, and with the cable it reads as the cabled phy.
use Prim.Native.Nat.{ℕ, ◌+◌, ◌≤◌, ◌<◌, ◌^◌}
use mathlib.Core.Path.{◌≡◌, refl, sym, ◌∙◌, ap, subst}
use mathlib.Core.Logic.{◌≢◌}
use mathlib.Core.Bool.{Bool, true, false, ◌&&◌}
use mathlib.Core.List.{List, ◌++◌}
use native.Mathlib.Omega.{arith}
use lib.ListN.{length, take, drop, length-append, length-drop, get_or-append}
use lib.Seq.{take_at, length-take-le, get_or-take}
use lib.Dec.{T, eqb, leb}
use borrow.Author.Tests.{le-leb, eq-eqb, ne_eqb}
use Rattle.frames.specs.Bytes.{byte, bits, number_at, bytes_of}
use Rattle.frames.specs.Refusals.{good, refusal}
use Rattle.frames.specs.Sizes.{size_stated, frame_size, short_size}
use Rattle.frames.specs.Discovery.{discover_fixed, discover_fields, by_result, discovered, discover_read}
use Rattle.frames.specs.declared.Discovered.{Discovered}
use Rattle.frames.specs.declared.Discovered.TheVariants.{Vacant as vacant, Fields as fields}
use Rattle.frames.specs.declared.Discover.{Discover}
use Rattle.frames.specs.declared.Response.{Response}
use Rattle.frames.specs.declared.Response.TheVariants.{Discover as DiscoverResponse}
use Rattle.frames.proofs.LongFrames.{size-least}
use Rattle.frames.proofs.ByteNumbers.{number-back}
use Rattle.files.specs.declared.Phy.{Phy}
use Rattle.files.specs.declared.Phy.TheVariants.{Vacant, Present}
use Rattle.files.specs.Domain.{attribute_of}
use Rattle.files.specs.File.{parsed, size_at, fields_of, ranged, phy_of, phy_unit}
use Rattle.files.specs.declared.Parsed.{Parsed}
use Rattle.files.proofs.ListMembers.{is_true}
use Rattle.files.proofs.CallResults.{good-one, unless-good, good-unless, then-good}
use Rattle.files.proofs.UnitReading.{size-whole, size-by, phy-unit-by}
use Rattle.benches.specs.Bytes.{typed_two, cabled_frame}
use Rattle.benches.specs.Joined.{cabled_to}
use Rattle.offsets.proofs.Offsets.{Found}
use Rattle.benches.proofs.JoinedFileWritten.{listed, all_firsts, frame-length}

pub record FrameOf (own_address p : ℕ) (φ : Phy) (f : List ℕ) : Type 0 where
  pub size : ℕ
  pub whole : length f ≡ size
  pub least : short_size DiscoverResponse ≤ size
  pub states : size_stated DiscoverResponse (byte f 3) ≡ good size
  pub got : Discovered
  pub reads : discover_read f ≡ good got
  pub is : (i : ℕ) → phy_of own_address i p got ≡ good φ

-- the size of a frame that stands at an offset, by its byte 3
pub size-there : (kind : Response) (file : List ℕ) (at n : ℕ) (f rest : List ℕ) → drop at file ≡ f ++ rest → length f ≡ n → 4 ≤ n → size_stated kind (byte f 3) ≡ good n
    → size_at kind file at ≡ good n
unfolding frame_size
size-there kind file at n f rest q l h e =
    let a = length-append f rest in
    let b = length-drop at file in
    let c = ap length q in
    let z : frame_size kind (f ++ rest) ≡ good n = rw (le-leb 4 (length (f ++ rest)) (omega arith), get_or-append f rest 0 3 (omega arith)) e in
    size-by kind file at n (ap (frame_size kind) q ∙ z) (omega arith) (le-leb (at + n) (length file) (omega arith))

pub frame-reads : (own_address p : ℕ) (φ : Phy) (f : List ℕ) → FrameOf own_address p φ f → (file : List ℕ) (at i : ℕ) (rest : List ℕ) → drop at file ≡ f ++ rest
    → phy_unit file own_address i p at ≡ good (parsed φ (at + length f))
frame-reads own_address p φ f o file at i rest q =
    let n = o.size in
    let l = o.whole in
    let m = o.least in
    phy-unit-by file own_address i p at n (good o.got) (size-there DiscoverResponse file at n f rest q l (omega arith) o.states)
    (ap (λ (s : List ℕ). discover_read (take n s)) q ∙ ap discover_read (take_at f rest n l) ∙ o.reads)
    ∙ rw (o.is i, l)

-- which expander it is matters to refusals alone
phy-any : (own_address p : ℕ) (x : Discovered) (φ : Phy) (i : ℕ) → phy_of own_address i p x ≡ good φ → (k : ℕ) → phy_of own_address k p x ≡ good φ
phy-any own_address p (vacant r) φ i e k = e
phy-any own_address p (fields f) φ i e k =
    let a = unless-good (eqb f.identifier.0 p && eqb f.own_address own_address) (refusal 5 i p) _ φ e in
    let b = unless-good (ranged (fields_of (eqb f.device_type 0) f)) (refusal 6 i p) _ φ a.1 in
    good-unless (eqb f.identifier.0 p && eqb f.own_address own_address) (refusal 5 k p) _ a.0
    ∙ good-unless (ranged (fields_of (eqb f.device_type 0) f)) (refusal 6 k p) (good (Present (fields_of (eqb f.device_type 0) f))) b.0 ∙ b.1

-- a frame that was read
pub frame-of : (file : List ℕ) (own_address i p at : ℕ) (u : Parsed Phy) (o : Found DiscoverResponse discover_read (phy_of own_address i p) file at u) → FrameOf own_address p u.value (take o.size (drop at file))
unfolding frame_size
frame-of file own_address i p at u o =
    let w = size-whole DiscoverResponse file at o.size o.found in
    let l = size-least DiscoverResponse (drop at file) o.size w.size in
    let s = unless-good (leb 4 (length (drop at file))) (refusal 1 0 0) (size_stated DiscoverResponse (byte (drop at file) 3)) o.size w.size in
    record {
      size = o.size;
      whole = length-take-le o.size (drop at file) w.bytes;
      least = l;
      states = ap (size_stated DiscoverResponse) (get_or-take o.size (drop at file) 3 0 (omega arith)) ∙ s.1;
      got = o.fields;
      reads = o.reads;
      is = phy-any own_address p o.fields u.value i o.tested;
    }

-- what reading one frame says of its bytes, and back
discover-is : (f : List ℕ) (x : Discovered) → discover_read f ≡ good x → T (discover_fixed f) × (discovered f ≡ x)
unfolding discover_read
discover-is f x e =
    let a = then-good (frame_size DiscoverResponse f) _ x e in
    let b = unless-good (eqb (length f) a.0) (refusal 1 0 0) _ x a.2 in
    let c = unless-good (discover_fixed f) (refusal 2 0 0) (good (discovered f)) x b.1 in
    (c.0, good-one (discovered f) x c.1)

is-discover : (f : List ℕ) (n : ℕ) → length f ≡ n → 4 ≤ n → size_stated DiscoverResponse (byte f 3) ≡ good n → discover_fixed f ≡ true → discover_read f ≡ good (discovered f)
unfolding discover_read frame_size
is-discover f n l h e t = rw (le-leb 4 (length f) (omega arith), e, eq-eqb (length f) n l, t)

-- the bytes that the cable leaves, and those that it sets
record Cabled (f g : List ℕ) (s q : ℕ) : Type 0 where
  zeroth : byte g 0 ≡ byte f 0
  first : byte g 1 ≡ byte f 1
  second : byte g 2 ≡ byte f 2
  third : byte g 3 ≡ byte f 3
  ninth : byte g 9 ≡ byte f 9
  device_type : byte g 12 ≡ typed_two (byte f 12)
  own_address : number_at g 16 8 ≡ number_at f 16 8
  attached_address : number_at g 24 8 ≡ number_at (bytes_of 8 s) 0 8
  attached_phy : byte g 32 ≡ q
  attribute : byte g 44 ≡ byte f 44

cabled-listed : (g : ℕ → ℕ) (r : List ℕ) (s q : ℕ) → Cabled (listed g r) (cabled_frame (listed g r) s q) s q
unfolding cabled_frame bytes_of number_at
cabled-listed g r s q = record { zeroth = refl; first = refl; second = refl; third = refl; ninth = refl; device_type = refl; own_address = refl; attached_address = refl; attached_phy = refl; attribute = refl }

cabled-bytes : (f : List ℕ) (s q : ℕ) → 33 ≤ length f → Cabled f (cabled_frame f s q) s q
cabled-bytes f s q h =
    let e : f ≡ listed (λ k. byte f k) (drop 33 f) = all_firsts 33 0 f (omega arith) in
    subst (λ (v : List ℕ). Cabled v (cabled_frame v s q) s q) (sym e) (cabled-listed (λ k. byte f k) (drop 33 f) s q)

same-fixed : (f g : List ℕ) (s q : ℕ) → Cabled f g s q → discover_fixed g ≡ discover_fixed f
unfolding discover_fixed
same-fixed f g s q c = rw (c.zeroth, c.first)

-- the fields of the cabled frame
cabled-fields : (f g : List ℕ) (s q : ℕ) → Cabled f g s q → s < 2 ^ 64
    → discover_fields g ≡ record { identifier = record { 0 = byte f 9 }; device_type = 2; own_address = number_at f 16 8; attached_address = s; attached_phy = record { 0 = q }; attribute = bits 0 4 (byte f 44) }
cabled-fields f g s q c h =
    let b = byte f 12 in
    let t : bits 4 3 (typed_two b) ≡ 2 = omega arith in
    let a : number_at g 24 8 ≡ s = c.attached_address ∙ number-back 8 s h in
    rw (c.ninth, c.device_type, t, c.own_address, a, c.attached_phy, c.attribute)

-- the attribute of a phy that was read of fields
read-attribute : (own_address i p : ℕ) (d : Discover) (φ : Phy) → phy_of own_address i p (fields d) ≡ good φ → attribute_of φ ≡ 1 → (d.attribute ≡ 1) × T (eqb d.identifier.0 p && eqb d.own_address own_address)
read-attribute own_address i p d φ e h =
    let a = unless-good (eqb d.identifier.0 p && eqb d.own_address own_address) (refusal 5 i p) _ φ e in
    let b = unless-good (ranged (fields_of (eqb d.device_type 0) d)) (refusal 6 i p) (good (Present (fields_of (eqb d.device_type 0) d))) φ a.1 in
    let q = good-one (Present (fields_of (eqb d.device_type 0) d)) φ b.1 in
    (sym (same (eqb d.device_type 0)) ∙ ap attribute_of q ∙ h, a.0)
  where
    same : (b : Bool) → (fields_of b d).attribute ≡ d.attribute
    same true = refl
    same false = refl

-- the result of such a phy is zero
result-zero : (own_address i p : ℕ) (f : List ℕ) (φ : Phy) → phy_of own_address i p (discovered f) ≡ good φ → attribute_of φ ≡ 1 → (eqb (byte f 2) 0 ≡ true) × (discovered f ≡ fields (discover_fields f))
result-zero own_address i p f φ e h = go (eqb (byte f 2) 0) refl e
  where
    go : (b : Bool) → eqb (byte f 2) 0 ≡ b → phy_of own_address i p (by_result b (byte f 2) (discover_fields f)) ≡ good φ → (b ≡ true) × (by_result b (byte f 2) (discover_fields f) ≡ fields (discover_fields f))
    go true q e = (refl, refl)
    go false q e = let z : attribute_of (Vacant (byte f 2)) ≡ 1 = ap attribute_of (good-one (Vacant (byte f 2)) φ e) ∙ h in absurd (omega arith)

pub cabled-frame : (own_address p : ℕ) (φ : Phy) (f : List ℕ) → FrameOf own_address p φ f → attribute_of φ ≡ 1 → (s q : ℕ) → s ≢ 0 → s < 2 ^ 64 → FrameOf own_address p (cabled_to s q) (cabled_frame f s q)
cabled-frame own_address p φ f o h s q z k =
    let l = o.whole in
    let m = o.least in
    let g = cabled_frame f s q in
    let c = cabled-bytes f s q (omega arith) in
    let d = discover-is f o.got o.reads in
    let r = result-zero own_address 0 p f φ (ap (phy_of own_address 0 p) d.1 ∙ o.is 0) h in
    let lg : length g ≡ o.size = frame-length s q f (omega arith) ∙ l in
    let st : size_stated DiscoverResponse (byte g 3) ≡ good o.size = ap (size_stated DiscoverResponse) c.third ∙ o.states in
    let x : Discover = record { identifier = record { 0 = byte f 9 }; device_type = 2; own_address = number_at f 16 8; attached_address = s; attached_phy = record { 0 = q }; attribute = bits 0 4 (byte f 44) } in
    let e : discovered g ≡ fields x = ap (λ (v : ℕ). by_result (eqb v 0) v (discover_fields g)) c.second ∙ ap (λ (b : Bool). by_result b (byte f 2) (discover_fields g)) r.0 ∙ ap fields (cabled-fields f g s q c k) in
    let a = read-attribute own_address 0 p (discover_fields f) φ (ap (phy_of own_address 0 p) (sym r.1 ∙ d.1) ∙ o.is 0) h in
    let at : bits 0 4 (byte f 44) ≡ 1 = a.0 in
    let t : (eqb (byte f 9) p && eqb (number_at f 16 8) own_address) ≡ true = is_true _ a.1 in
    record {
      size = o.size;
      whole = lg;
      least = m;
      states = st;
      got = fields x;
      reads = is-discover g o.size lg (omega arith) st (same-fixed f g s q c ∙ is_true (discover_fixed f) d.0) ∙ ap good e;
      is = λ i. rw (t, at, ne_eqb s 0 z);
    }
