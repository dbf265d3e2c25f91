-- A file and its short file read to the same result: by induction over the definitions of the file, with an offset in each; the short
-- file has from its offset on what the definition makes of the file from the other on.
use Prim.Native.Nat.{ℕ, zero, suc, ◌+◌, ◌-◌, ◌*◌, ◌≤◌, ◌<◌}
use mathlib.Core.Path.{◌≡◌, refl, sym, ◌∙◌, ap}
use mathlib.Core.List.{List, [], ◌∷◌, ◌++◌}
use native.Mathlib.Omega.{arith}
use lib.ListN.{length, take, drop, length-append, length-drop, get_or-append}
use lib.Seq.{get_or-drop, get_or-take, drop-drop, take_at, drop_at, length-take-le}
use lib.Dec.{eqb, eqb→eq, leb, leb→le}
use borrow.Author.Tests.{eq-eqb, ne_eqb, le-leb, eqb-true, eqb-false}
use Rattle.frames.specs.Bytes.{byte, number_at}
use Rattle.frames.specs.Refusals.{Result, refused, good, unless, then, refusal}
use Rattle.frames.specs.Sizes.{short_size, frame_size, short_frame}
use Rattle.frames.specs.ReportGeneral.{general_read}
use Rattle.frames.specs.Discovery.{discover_read}
use Rattle.frames.specs.declared.General.{General}
use Rattle.frames.specs.declared.Refusal.{Refusal}
use Rattle.frames.specs.declared.Response.{Response}
use Rattle.frames.specs.declared.Response.TheVariants.{ReportGeneral, Discover}
use Rattle.frames.proofs.LongFrames.{number-alike, short-length, short-size, short-general, short-discover}
use Rattle.files.specs.declared.Setting.{Setting}
use Rattle.files.specs.declared.ExpanderUnit.{ExpanderUnit}
use Rattle.files.specs.declared.Phy.{Phy}
use Rattle.files.specs.Domain.{Domain}
use Rattle.files.specs.Settings.{in_range}
use Rattle.files.specs.File.{parsed, placed, size_at, phy_of, phy_unit, phy_units, unit_of, unit_tested, expander_unit, expander_of, expanders, header_unit, domain_read}
use Rattle.files.specs.declared.Parsed.{Parsed}
use Rattle.files.specs.UnitAnswers.{ends_at}
use Rattle.files.specs.ShortFile.{or_stay, short_phys, short_expanders, short_file}
use Rattle.files.proofs.ListMembers.{by-test}
use Rattle.files.proofs.CallResults.{never, good-one, unless-good, then-good}
use Rattle.files.proofs.UnitReading.{size-whole, size-within, unit_at, unit-cut, unit-by}

-- the size of a frame depends on the bytes from its offset on
size_same : (kind : Response) (file other : List ℕ) (a b : ℕ) → drop b other ≡ drop a file → size_at kind other b ≡ size_at kind file a
unfolding size_at
size_same kind file other a b d = rw d

-- the short frame is one whole frame, whatever bytes follow it
short-found : (kind : Response) (file other : List ℕ) (a b n : ℕ) (more : List ℕ) → size_at kind file a ≡ good n → drop b other ≡ short_frame kind (drop a file) ++ more
    → size_at kind other b ≡ good (short_size kind)
unfolding size_at
short-found kind file other a b n more f d =
    let w = size-whole kind file a n f in
    let s = drop a file in
    let l = short-length kind s n w.size w.bytes in
    let k : short_size kind ≤ length (short_frame kind s ++ more) = rw (length-append (short_frame kind s) more) (omega arith) in
    rw d (simp (short-size kind s n w.size w.bytes more, le-leb (short_size kind) (length (short_frame kind s ++ more)) k))

-- a unit u of the one file, cut in the other: its value, the bytes after it, and that both end within their files
record Shortened {B : Type 0} (kind : Response) (file other : List ℕ) (b : ℕ) (u : Parsed B) (more : List ℕ) (y : Result (Parsed B)) : Type 0 where
  value : y ≡ good (parsed u.value (b + short_size kind))
  rest : drop (b + short_size kind) other ≡ more
  within : b + short_size kind ≤ length other
  before : u.next ≤ length file

module _ {A : Type 0} where
  -- the same refusal, or the same value: the one ends at m, the other at n
  abbrev Alike : ℕ → ℕ → Result (Parsed A) → Result (Parsed A) → Type 0
  Alike m n (refused r) y = y ≡ refused r
  Alike m n (good u) y = (y ≡ good (parsed u.value n)) × (u.next ≡ m)

  refused-alike : (m n : ℕ) (x y : Result (Parsed A)) (r : Refusal) → Alike m n x y → x ≡ refused r → y ≡ refused r
  refused-alike m n (refused q) y r h e = h ∙ e
  refused-alike m n (good u) y r h e = never r u (sym e)

  good-alike : (m n : ℕ) (x y : Result (Parsed A)) (u : Parsed A) → Alike m n x y → x ≡ good u → (y ≡ good (parsed u.value n)) × (u.next ≡ m)
  good-alike m n (refused q) y u h e = never q u e
  good-alike m n (good v) y u h e = let q : v ≡ u = good-one v u e in rw (← q) h

module _ {A B : Type 0} (kind : Response) (read : List ℕ → Result A) (test : A → Result B) (i p : ℕ) where
  -- the frame that was read, with its unit ending at one place or another
  abbrev ending : Result A → ℕ → Result (Parsed B)
  ending x n = then (placed i p x) (λ v. then (test v) (ends_at n))

  ending-alike : (x : Result A) (m n : ℕ) → Alike m n (ending x m) (ending x n)
  ending-alike (refused r) m n = refl
  ending-alike (good v) m n = tested (test v)
    where
      tested : (y : Result B) → Alike m n (then y (ends_at m)) (then y (ends_at n))
      tested (refused r) = refl
      tested (good u) = (refl, refl)

  module _ (file other : List ℕ) (a b : ℕ) where
    abbrev here : Result (Parsed B)
    here = unit_at kind read test i p file a

    abbrev there : Result (Parsed B)
    there = unit_at kind read test i p other b

    -- where the other file has the same bytes from b on, its unit is refused alike
    unit-stays : (r : Refusal) → drop b other ≡ drop a file → here ≡ refused r → there ≡ refused r
    unit-stays r d e = go (size_at kind file a) refl
      where
        go : (x : Result ℕ) → size_at kind file a ≡ x → there ≡ refused r
        go (refused q) f =
            unit-cut kind read test i p other b q (size_same kind file other a b d ∙ f) ∙ sym (unit-cut kind read test i p file a q f) ∙ e
        go (good n) f =
            let x = read (take n (drop a file)) in
            let y = unit-by kind read test i p other b n x (size_same kind file other a b d ∙ f) (ap (λ (s : List ℕ). read (take n s)) d) in
            y ∙ refused-alike (a + n) (b + n) (ending x (a + n)) (ending x (b + n)) r (ending-alike x (a + n) (b + n))
            (sym (unit-by kind read test i p file a n x f refl) ∙ e)

    -- where the other file has the short frame from b on, and then other bytes, its unit has the same value
    unit_shortened : (u : Parsed B) (more : List ℕ)
        → ((s : List ℕ) (n : ℕ) → frame_size kind s ≡ good n → n ≤ length s → read (take n s) ≡ read (short_frame kind s))
        → drop b other ≡ short_frame kind (drop a file) ++ more → here ≡ good u → Shortened kind file other b u more there
    unit_shortened u more reads d e = go (size_at kind file a) refl
      where
        go : (x : Result ℕ) → size_at kind file a ≡ x → Shortened kind file other b u more there
        go (refused q) f = never (refusal q.number i p) u (sym (unit-cut kind read test i p file a q f) ∙ e)
        go (good n) f =
            let w = size-whole kind file a n f in
            let x = read (take n (drop a file)) in
            let m = short_size kind in
            let l = short-length kind (drop a file) n w.size w.bytes in
            let z = short-found kind file other a b n more f d in
            let c : read (take m (drop b other)) ≡ x = ap (λ (s : List ℕ). read (take m s)) d ∙ ap read (take_at (short_frame kind (drop a file)) more m l)
            ∙ sym (reads (drop a file) n w.size w.bytes) in
            let g = good-alike (a + n) (b + m) (ending x (a + n)) (ending x (b + m)) u (ending-alike x (a + n) (b + m))
            (sym (unit-by kind read test i p file a n x f refl) ∙ e) in
            let k = g.1 in
            record {
              value = unit-by kind read test i p other b m x z c ∙ g.0;
              rest = sym (drop-drop m b other) ∙ ap (drop m) d ∙ drop_at (short_frame kind (drop a file)) more m l;
              within = (size-within kind other b m z).1;
              before = omega (arith, (size-within kind file a n f).1);
            }

-- the phys of an expander: the same refusal, or the same phys, and the rest of the other file from the place after them on
record ShortenedPhys (file other : List ℕ) (rest : ℕ → List ℕ) (us : Parsed (List Phy)) (y : Result (Parsed (List Phy))) : Type 0 where
  next : ℕ
  value : y ≡ good (parsed us.value next)
  left : drop next other ≡ rest us.next
  within : next ≤ length other
  before : us.next ≤ length file

module _ (file other : List ℕ) (own_address i : ℕ) (rest : ℕ → List ℕ) where
  abbrev PhysAlike : Result (Parsed (List Phy)) → Result (Parsed (List Phy)) → Type 0
  PhysAlike (refused r) y = y ≡ refused r
  PhysAlike (good us) y = ShortenedPhys file other rest us y

  one_more : (φ : Phy) (x y : Result (Parsed (List Phy))) → PhysAlike x y
      → PhysAlike (then x (λ us. good (parsed (φ ∷ us.value) us.next))) (then y (λ us. good (parsed (φ ∷ us.value) us.next)))
  one_more φ (refused r) y h = rw h
  one_more φ (good us) y h = record { next = h.next; value = rw h.value; left = h.left; within = h.within; before = h.before }

  abbrev PhysRead : ℕ → ℕ → ℕ → ℕ → Type 0
  PhysRead count p a b =
      a ≤ length file → b ≤ length other → drop b other ≡ short_phys file own_address i count p a rest
      → PhysAlike (phy_units file own_address i count p a) (phy_units other own_address i count p b)

  phys-step : (count p a b : ℕ) → ((m n : ℕ) → PhysRead count (p + 1) m n) → (x : Result (Parsed Phy)) → phy_unit file own_address i p a ≡ x
      → drop b other ≡ or_stay (drop a file) x (λ u. short_frame Discover (drop a file) ++ short_phys file own_address i count (p + 1) u.next rest)
      → PhysAlike (then x (λ u. then (phy_units file own_address i count (p + 1) u.next) (λ us. good (parsed (u.value ∷ us.value) us.next))))
      (phy_units other own_address i (suc count) p b)
  unfolding phy_units phy_unit
  phys-step count p a b more (refused r) e d = rw (unit-stays Discover discover_read (phy_of own_address i p) i p file other a b r d e)
  phys-step count p a b more (good u) e d =
      let c = unit_shortened Discover discover_read (phy_of own_address i p) i p file other a b u (short_phys file own_address i count (p + 1) u.next rest) short-discover d e in
      rw c.value
      (one_more u.value (phy_units file own_address i count (p + 1) u.next) (phy_units other own_address i count (p + 1) (b + short_size Discover))
      (more u.next (b + short_size Discover) c.before c.within c.rest))

  phys-read : (count p a b : ℕ) → PhysRead count p a b
  unfolding phy_units short_phys
  phys-read zero p a b h k d = record { next = b; value = refl; left = d; within = k; before = h }
  phys-read (suc count) p a b h k d = phys-step count p a b (λ m n. phys-read count (p + 1) m n) (phy_unit file own_address i p a) refl d

-- what follows the phys
after-phys : (file other : List ℕ) (own_address i : ℕ) (rest : ℕ → List ℕ) (x y : Result (Parsed (List Phy))) (f g : Parsed (List Phy) → Result Domain)
    → PhysAlike file other own_address i rest x y
    → ((us : Parsed (List Phy)) (n : ℕ) → drop n other ≡ rest us.next → n ≤ length other → us.next ≤ length file → g (parsed us.value n) ≡ f us)
    → then y g ≡ then x f
after-phys file other own_address i rest (refused r) y f g h same = rw h
after-phys file other own_address i rest (good us) y f g h same = rw h.value (same us h.next h.left h.within h.before)

-- the address before an expander's frame, and the bytes of the frame
byte-from : (file : List ℕ) (a j : ℕ) → byte file (a + j) ≡ byte (drop a file) j
byte-from file a j = sym (get_or-drop a file j 0)

module _ (most : Setting) (file other : List ℕ) where
  module _ (used : List ℕ) (i a b : ℕ) where
    abbrev tested : ℕ → General → Result ExpanderUnit
    tested own_address g = unit_tested most used i (unit_of own_address g)

    expander-stays : (r : Refusal) → drop b other ≡ drop a file → expander_unit most file used i a ≡ refused r → expander_unit most other used i b ≡ refused r
    unfolding expander_unit
    expander-stays r d e =
        let o = number-alike other file b a 8 (λ j l. byte-from other b j ∙ ap (λ (s : List ℕ). byte s j) d ∙ sym (byte-from file a j)) in
        let d8 = sym (drop-drop 8 b other) ∙ ap (drop 8) d ∙ drop-drop 8 a file in
        rw o (unit-stays ReportGeneral general_read (tested (number_at file a 8)) i 0 file other (a + 8) (b + 8) r d8 e)

    -- the address of an expander that was read is there
    address-there : (u : Parsed ExpanderUnit) → expander_unit most file used i a ≡ good u → a + 8 ≤ length file
    unfolding expander_unit
    address-there u e = go (size_at ReportGeneral file (a + 8)) refl
      where
        go : (x : Result ℕ) → size_at ReportGeneral file (a + 8) ≡ x → a + 8 ≤ length file
        go (refused q) f = never (refusal q.number i 0) u (sym (unit-cut ReportGeneral general_read (tested (number_at file a 8)) i 0 file (a + 8) q f) ∙ e)
        go (good n) f = let h = size-within ReportGeneral file (a + 8) n f in omega arith

    expander_shortened : (u : Parsed ExpanderUnit) (more : List ℕ) → drop b other ≡ take 8 (drop a file) ++ (short_frame ReportGeneral (drop (a + 8) file) ++ more)
        → expander_unit most file used i a ≡ good u → Shortened ReportGeneral file other (b + 8) u more (expander_unit most other used i b)
    unfolding expander_unit
    expander_shortened u more d e =
        let h = address-there u e in
        let k = length-drop a file in
        let l : length (take 8 (drop a file)) ≡ 8 = length-take-le 8 (drop a file) (omega arith) in
        let o = number-alike other file b a 8 (λ j m. byte-from other b j ∙ ap (λ (s : List ℕ). byte s j) d
        ∙ get_or-append (take 8 (drop a file)) (short_frame ReportGeneral (drop (a + 8) file) ++ more) 0 j (omega arith)
        ∙ get_or-take 8 (drop a file) j 0 m ∙ sym (byte-from file a j)) in
        let d8 = sym (drop-drop 8 b other) ∙ ap (drop 8) d ∙ drop_at (take 8 (drop a file)) (short_frame ReportGeneral (drop (a + 8) file) ++ more) 8 l in
        rw o (unit_shortened ReportGeneral general_read (tested (number_at file a 8)) i 0 file other (a + 8) (b + 8) u more short-general d8 e)

  -- both files end, or both have bytes left
  ends-alike : (a b : ℕ) → a ≤ length file → b ≤ length other → drop b other ≡ drop a file → eqb b (length other) ≡ eqb a (length file)
  ends-alike a b h k d =
      let l : length other - b ≡ length file - a = sym (length-drop b other) ∙ ap length d ∙ length-drop a file in
      by-test (eqb a (length file)) (λ q. let e = eqb-true a (length file) q in rw q (eq-eqb b (length other) (omega arith)))
      (λ q. let n = eqb-false a (length file) q in rw q (ne_eqb b (length other) (λ e. n (omega arith))))

  abbrev RestRead : ℕ → ℕ → ℕ → ℕ → List ℕ → Type 0
  RestRead count i a b used =
      a ≤ length file → b ≤ length other → drop b other ≡ short_expanders most file count i a used
      → expanders most other count i b used ≡ expanders most file count i a used

  expander-step : (count i a b : ℕ) (used : List ℕ) → ((m n : ℕ) (more : List ℕ) → RestRead count (i + 1) m n more)
      → (x : Result (Parsed ExpanderUnit)) → expander_unit most file used i a ≡ x
      → drop b other ≡ or_stay (drop a file) x (λ u.
      take 8 (drop a file) ++ (short_frame ReportGeneral (drop (a + 8) file)
      ++ short_phys file u.value.address i u.value.phys 0 u.next (λ next.
      short_expanders most file count (i + 1) next (used ++ (u.value.address ∷ [])))))
      → expanders most other (suc count) i b used
      ≡ then x (λ u.
      then (phy_units file u.value.address i u.value.phys 0 u.next) (λ φs.
      then (expanders most file count (i + 1) φs.next (used ++ (u.value.address ∷ []))) (λ d.
      good (expander_of u.value φs.value ∷ d))))
  unfolding expanders
  expander-step count i a b used more (refused r) e d = rw (expander-stays used i a b r d e)
  expander-step count i a b used more (good u) e d =
      let own_address = u.value.address in
      let rest : ℕ → List ℕ = λ next. short_expanders most file count (i + 1) next (used ++ (own_address ∷ [])) in
      let c = expander_shortened used i a b u (short_phys file own_address i u.value.phys 0 u.next rest) d e in
      rw c.value
      (after-phys file other own_address i rest (phy_units file own_address i u.value.phys 0 u.next) (phy_units other own_address i u.value.phys 0 (b + 8 + short_size ReportGeneral)) _ _
      (phys-read file other own_address i rest u.value.phys 0 u.next (b + 8 + short_size ReportGeneral) c.before c.within c.rest)
      (λ us n left within before. ap (λ x. then x (λ d. good (expander_of u.value us.value ∷ d))) (more us.next n (used ++ (own_address ∷ [])) before within left)))

  rest_read : (count i a b : ℕ) (used : List ℕ) → RestRead count i a b used
  unfolding expanders short_expanders
  rest_read zero i a b used h k d = rw (ends-alike a b h k d)
  rest_read (suc count) i a b used h k d = expander-step count i a b used (λ m n more. rest_read count (i + 1) m n more) (expander_unit most file used i a) refl d

-- the header
module _ (most : Setting) (file more : List ℕ) where
  header_there : (n : ℕ) → header_unit most file ≡ good n → 2 ≤ length file
  unfolding header_unit
  header_there n e = leb→le 2 (length file) (unless-good (leb 2 (length file)) (refusal 1 0 0) _ n e).0

  header_same : 2 ≤ length file → header_unit most (take 2 file ++ more) ≡ header_unit most file
  unfolding header_unit
  header_same h =
      let l = length-take-le 2 file h in
      let b : (j : ℕ) → j < 2 → byte (take 2 file ++ more) j ≡ byte file j = λ j k. get_or-append (take 2 file) more 0 j (omega arith) ∙ get_or-take 2 file j 0 k in
      let k : 2 ≤ length (take 2 file ++ more) = rw (length-append (take 2 file) more) (omega arith) in
      rw (le-leb 2 (length (take 2 file ++ more)) k, le-leb 2 (length file) h, b 0 (omega arith), b 1 (omega arith))

-- a file and its short file read to the same result, domain or refusal with its place
pub short-file : (most : Setting) (file : List ℕ) → domain_read most (short_file most file) ≡ domain_read most file
unfolding domain_read short_file
short-file most file = ap (unless (in_range most) (refusal 22 0 0)) (go (header_unit most file) refl)
  where
    go : (x : Result ℕ) → header_unit most file ≡ x
        → then (header_unit most (or_stay file x (λ n. take 2 file ++ short_expanders most file n 0 2 []))) (λ n.
        expanders most (or_stay file x (λ n. take 2 file ++ short_expanders most file n 0 2 [])) n 0 2 [])
        ≡ then x (λ n. expanders most file n 0 2 [])
    go (refused r) e = rw e
    go (good n) e =
        let h = header_there most file [] n e in
        let l = length-take-le 2 file h in
        let more = short_expanders most file n 0 2 [] in
        let other = take 2 file ++ more in
        let k : 2 ≤ length other = rw (length-append (take 2 file) more) (omega arith) in
        rw (header_same most file more h ∙ e) (rest_read most file other n 0 2 2 [] h k (drop_at (take 2 file) more 2 l))

-- every frame of a short file is short: it ends with the bytes of its short units
abbrev pub short_bytes : Domain → ℕ
short_bytes [] = 0
short_bytes (e ∷ d) = 8 + short_size ReportGeneral + short_size Discover * length e.phys + short_bytes d

module _ {A B : Type 0} (kind : Response) (read : List ℕ → Result A) (test : A → Result B) (i p : ℕ) (file : List ℕ) (a : ℕ) where
  frame-short : (u : Parsed B) → unit_at kind read test i p file a ≡ good u → length (short_frame kind (drop a file)) ≡ short_size kind
  frame-short u e = go (size_at kind file a) refl
    where
      go : (x : Result ℕ) → size_at kind file a ≡ x → length (short_frame kind (drop a file)) ≡ short_size kind
      go (refused q) f = never (refusal q.number i p) u (sym (unit-cut kind read test i p file a q f) ∙ e)
      go (good n) f = let w = size-whole kind file a n f in short-length kind (drop a file) n w.size w.bytes

phys-bytes : (file : List ℕ) (own_address i : ℕ) (rest : ℕ → List ℕ) (count p a : ℕ) (us : Parsed (List Phy)) → phy_units file own_address i count p a ≡ good us
    → length (short_phys file own_address i count p a rest) ≡ short_size Discover * length us.value + length (rest us.next)
unfolding phy_units short_phys phy_unit
phys-bytes file own_address i rest zero p a us e = rw (← good-one (parsed [] a) us e) (omega arith)
phys-bytes file own_address i rest (suc count) p a us e =
    let one = then-good (unit_at Discover discover_read (phy_of own_address i p) i p file a) _ us e in
    let u = one.0 in
    let more = then-good (phy_units file own_address i count (p + 1) u.next) _ us one.2 in
    let tail = more.0 in
    let q = good-one (parsed (u.value ∷ tail.value) tail.next) us more.2 in
    let l = frame-short Discover discover_read (phy_of own_address i p) i p file a u one.1 in
    let h = phys-bytes file own_address i rest count (p + 1) u.next tail more.1 in
    let v : length us.value ≡ suc (length tail.value) = sym (ap (λ (w : Parsed (List Phy)). length w.value) q) in
    let n : length (rest us.next) ≡ length (rest tail.next) = sym (ap (λ (w : Parsed (List Phy)). length (rest w.next)) q) in
    ap (λ x. length (or_stay (drop a file) x (λ w. short_frame Discover (drop a file) ++ short_phys file own_address i count (p + 1) w.next rest))) one.1
    ∙ length-append (short_frame Discover (drop a file)) (short_phys file own_address i count (p + 1) u.next rest) ∙ omega arith

rest-bytes : (most : Setting) (file : List ℕ) (count i a : ℕ) (used : List ℕ) (d : Domain) → expanders most file count i a used ≡ good d
    → length (short_expanders most file count i a used) ≡ short_bytes d
unfolding expanders short_expanders expander_unit
rest-bytes most file zero i a used d e =
    let u = unless-good (eqb a (length file)) (refusal 1 i 0) (good []) d e in
    let l = length-drop a file in
    let h = eqb→eq a (length file) u.0 in
    rw (← good-one [] d u.1) (omega arith)
rest-bytes most file (suc count) i a used d e =
    let own_address = number_at file a 8 in
    let one = then-good (unit_at ReportGeneral general_read (λ g. unit_tested most used i (unit_of own_address g)) i 0 file (a + 8)) _ d e in
    let u = one.0 in
    let s = u.value.address in
    let phys = then-good (phy_units file s i u.value.phys 0 u.next) _ d one.2 in
    let φs = phys.0 in
    let rest : ℕ → List ℕ = λ next. short_expanders most file count (i + 1) next (used ++ (s ∷ [])) in
    let more = then-good (expanders most file count (i + 1) φs.next (used ++ (s ∷ []))) _ d phys.2 in
    let tail = more.0 in
    let q = good-one (expander_of u.value φs.value ∷ tail) d more.2 in
    let l = frame-short ReportGeneral general_read (λ g. unit_tested most used i (unit_of own_address g)) i 0 file (a + 8) u one.1 in
    let h = phys-bytes file s i rest u.value.phys 0 u.next φs phys.1 in
    let k = rest-bytes most file count (i + 1) φs.next (used ++ (s ∷ [])) tail more.1 in
    let b = address-there most file [] used i a 0 u one.1 in
    let n = length-drop a file in
    let m : length (take 8 (drop a file)) ≡ 8 = length-take-le 8 (drop a file) (omega arith) in
    let v : short_bytes d ≡ 8 + short_size ReportGeneral + short_size Discover * length φs.value + short_bytes tail = sym (ap short_bytes q) in
    let frame = short_frame ReportGeneral (drop (a + 8) file) in
    let after = short_phys file s i u.value.phys 0 u.next rest in
    ap (λ x. length (or_stay (drop a file) x (λ w. take 8 (drop a file) ++ (frame
    ++ short_phys file w.value.address i w.value.phys 0 w.next (λ next. short_expanders most file count (i + 1) next (used ++ (w.value.address ∷ []))))))) one.1
    ∙ length-append (take 8 (drop a file)) (frame ++ after) ∙ ap (λ (k : ℕ). length (take 8 (drop a file)) + k) (length-append frame after) ∙ omega arith

pub short-file-bytes : (most : Setting) (file : List ℕ) (d : Domain) → domain_read most file ≡ good d → length (short_file most file) ≡ 2 + short_bytes d
unfolding domain_read short_file
short-file-bytes most file d e =
    let read = (unless-good (in_range most) (refusal 22 0 0) _ d e).1 in
    let head = then-good (header_unit most file) _ d read in
    let n = head.0 in
    let h = header_there most file [] n head.1 in
    let l = length-take-le 2 file h in
    let k = rest-bytes most file n 0 2 [] d head.2 in
    ap (λ x. length (or_stay file x (λ m. take 2 file ++ short_expanders most file m 0 2 []))) head.1
    ∙ length-append (take 2 file) (short_expanders most file n 0 2 []) ∙ omega arith
