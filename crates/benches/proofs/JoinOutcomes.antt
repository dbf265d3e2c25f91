-- The outcomes of the join call.
use Prim.Native.Nat.{ℕ, ◌+◌, ◌-◌, ◌≤◌, ◌<◌, min}
use mathlib.Core.Path.{◌≡◌, refl, sym, ◌∙◌, ap, ap₂}
use mathlib.Core.Bool.{Bool, true, false, not, ◌&&◌}
use mathlib.Core.List.{List, ◌++◌}
use native.Mathlib.Omega.{arith}
use lib.ListN.{length, take, drop}
use lib.Dec.{T, leb, leb→le}
use borrow.Author.Tests.{le-leb, lt-leb, leb-false}
use Rattle.frames.specs.Bytes.{byte}
use Rattle.frames.specs.Refusals.{Result, refused, good, unless, then, refusal, fitting}
use Rattle.frames.specs.declared.Refusal.{Refusal}
use Rattle.files.specs.declared.Setting.{Setting}
use Rattle.files.specs.Lists.{any}
use Rattle.files.specs.Settings.{in_range}
use Rattle.files.specs.Domain.{Domain, expander_at, phy_at, is_subtractive, attached}
use Rattle.wiring.specs.phys.Checks.{FileRoom}
use Rattle.files.specs.File.{header_unit, domain_read}
use Rattle.files.proofs.ListMembers.{tests, is_true, and_left, and_right}
use Rattle.files.proofs.SettingRanges.{range_iff}
use Rattle.files.proofs.ReadDomain.{read-good, stated-expanders}
use Rattle.files.proofs.CallResults.{never, good-one, unless-good, then-good}
use Rattle.files.proofs.PastLimits.{header_cut}
use Rattle.wiring.proofs.FileRows.{file-room}
use Rattle.files.proofs.Domains.{attribute-range}
use Rattle.tables.specs.JudgingCall.{judged_domain, judged}
use Rattle.tables.proofs.AcceptedDomains.{judged-file}
use Rattle.benches.specs.Bytes.{joined_file}
use Rattle.benches.specs.BenchRows.{check_of}
use Rattle.benches.specs.JoinCall.{upward, free, shifted, join_for, join_call, JoinDone}
use Rattle.benches.specs.declared.SideFound.{SideFound}
use Rattle.benches.specs.declared.Counts.{Counts}
use Rattle.benches.specs.SidesFound.{Accepted, side_of, counts_for, files_for, Ready, stated_both, JoinRoom}
use Rattle.offsets.specs.Offsets.{Placed}
use Rattle.benches.proofs.RefusalBounds.{up-refused, judged-up}
use Rattle.offsets.proofs.Offsets.{units_of, length_bound, phy-placed}
use Rattle.benches.proofs.JoinedFileWritten.{length-joined}

-- refused, and done
pub join-refused : (o : Result (List ℕ)) (r : Refusal) (answer : Result ℕ) (before : List ℕ) → o ≡ refused r → answer ≡ refused r → JoinDone o answer before before
join-refused o r answer before e a = rw e (record { answers = a; bytes = refl })

pub join-good : (o : Result (List ℕ)) (new : List ℕ) (n : ℕ) (before after : List ℕ) → o ≡ good new → n ≡ length new → after ≡ new ++ drop n before → JoinDone o (good n) before after
join-good o new n before after e l w = rw e (record { answers = ap good l; bytes = w ∙ ap (λ (k : ℕ). new ++ drop k before) l })

-- what judging the rows answers
pub not_passed : (x : Result Domain) (r : Refusal) → refused r ≡ check_of x → x ≡ refused r
not_passed (refused s) r e = let q : r ≡ s = cc in ap refused (sym q)
not_passed (good d) r e = let z : ◌≡◌ {A = ℕ} 0 1 = cc in absurd (omega arith)

pub was-passed : (x : Result Domain) → (good tt) ≡ check_of x → (d : Domain) × (x ≡ good d)
was-passed (refused s) e = let z : ◌≡◌ {A = ℕ} 0 1 = cc in absurd (omega arith)
was-passed (good d) e = (d, refl)

-- what judging one file answers
pub not_side : (x : Result Domain) (i p : ℕ) (r : Refusal) → ◌≡◌ {A = Result SideFound} (refused r) (then x (side_of i p)) → x ≡ refused r
not_side (refused s) i p r e = let q : r ≡ s = cc in ap refused (sym q)
not_side (good d) i p r e = let z : ◌≡◌ {A = ℕ} 0 1 = cc in absurd (omega arith)

-- an accepted file of n expanders, whose named phy can take the cable, or not
pub record SideAs (setting : Setting) (file : List ℕ) (i p n : ℕ) (f : Bool) : Type 0 where
  pub one : Accepted setting file n
  pub can : f ≡ free one.domain i p

pub side_as : (setting : Setting) (file : List ℕ) (i p n : ℕ) (f : Bool) → ◌≡◌ {A = Result SideFound} (good (record { count = n; free = f })) (then (judged setting file) (side_of i p))
    → SideAs setting file i p n f
side_as setting file i p n f e = go (judged setting file) refl e
  where
    go : (x : Result Domain) → judged setting file ≡ x → ◌≡◌ {A = Result SideFound} (good (record { count = n; free = f })) (then x (side_of i p)) → SideAs setting file i p n f
    go (refused s) q e = let z : ◌≡◌ {A = ℕ} 0 1 = cc in absurd (omega arith)
    go (good d) q e =
        let s : ◌≡◌ {A = SideFound} (record { count = n; free = f }) (record { count = length d; free = free d i p }) = good-one _ _ e in
        record { one = record { domain = d; accepted = q; count = ap (λ (v : SideFound). v.count) s }; can = ap (λ (v : SideFound). v.free) s }

pub side_refused : (setting : Setting) (file : List ℕ) (i p : ℕ) (r : Refusal) → domain_read setting file ≡ refused r → ◌≡◌ {A = Result SideFound} (refused r) (then (judged setting file) (side_of i p))
side_refused setting file i p r e = rw e

pub side_good : (setting : Setting) (file : List ℕ) (i p n : ℕ) (f : Bool) (d : Domain) → judged setting file ≡ good d → n ≡ length d → f ≡ free d i p
    → ◌≡◌ {A = Result SideFound} (good (record { count = n; free = f })) (then (judged setting file) (side_of i p))
side_good setting file i p n f d e a b = ap₂ (λ (k : ℕ) (g : Bool). good (record { count = k; free = g })) a b ∙ sym (ap (λ (x : Result Domain). then x (side_of i p)) e)

-- a file that was read into rows and judged there
pub judged-by : (setting : Setting) (file : List ℕ) (d : Domain) (x : Result Domain) → domain_read setting file ≡ good d → judged_domain setting.chain d ≡ x → judged setting file ≡ x
judged-by setting file d x e q = rw e q

-- 21 and 3 where the expanders are too many, or the joined file is judged
counted : {A B : Type 0} (b l : Bool) (c : A) (x : Result Domain) (k : Result B) → (l ≡ false → x ≡ refused (refusal 3 0 0))
    → unless b (refusal 21 0 0) (then x (λ _. k)) ≡ then (unless b (refusal 21 0 0) (unless l (refusal 3 0 0) (good c))) (λ _. then x (λ _. k))
counted false l c x k z = refl
counted true true c x k z = refl
counted true false c x k z = rw (z refl) refl

-- what is good was not shifted
pub shifted-good : (n : ℕ) (x : Result Domain) (d : Domain) → shifted n x ≡ good d → x ≡ good d
shifted-good n (refused r) d e = never _ _ e
shifted-good n (good a) d e = e

module _ (setting : Setting) (first : List ℕ) (i p : ℕ) (second : List ℕ) (j q room : ℕ) where
  abbrev call : Result (List ℕ)
  call = join_call setting first i p second j q room

  -- past both judgements
  pub both-accepted : (d₁ d₂ : Domain) → judged setting first ≡ good d₁ → judged setting second ≡ good d₂ → call ≡ join_for setting first i p d₁ second j q d₂ room
  unfolding join_call
  both-accepted d₁ d₂ e f = rw (e, f)

  module _ (n m : ℕ) (a : Accepted setting first n) (b : Accepted setting second m) where
    -- the header of the joined file states the sum
    pub sum-stated : byte first 1 + byte second 1 ≡ n + m
    sum-stated =
        let e = stated-expanders setting first a.domain ((judged-file setting first a.domain).0 a.accepted).0 in
        let f = stated-expanders setting second b.domain ((judged-file setting second b.domain).0 b.accepted).0 in
        omega (arith, a.count, b.count)

    -- 3 where there are too many expanders for the setting
    pub too_many : setting.expanders < n + m → judged setting (joined_file first i p second j q) ≡ refused (refusal 3 0 0)
    unfolding domain_read header_unit joined_file
    too_many h =
        let g = read-good setting first a.domain ((judged-file setting first a.domain).0 a.accepted).0 in
        let o : in_range setting ≡ true = is_true (in_range setting) ((range_iff setting).1 g.range) in
        let s = sum-stated in
        let z : 2 ≤ length (joined_file first i p second j q) = omega arith in
        let l : leb (byte first 1 + byte second 1) setting.expanders ≡ false = lt-leb (byte first 1 + byte second 1) setting.expanders (omega arith) in
        let k : leb 1 (byte first 1 + byte second 1) ≡ true = le-leb 1 (byte first 1 + byte second 1) (omega (arith, g.some, a.count)) in
        simp (o, le-leb 2 (length (joined_file first i p second j q)) z, k, l)

  abbrev files : Result Counts
  files = files_for setting first i p second j q

  -- what both files give
  pub files-first : (r : Refusal) → judged setting first ≡ refused r → files ≡ refused r
  unfolding files_for
  files-first r e = rw e

  pub files-second : (n : ℕ) (r : Refusal) → Accepted setting first n → judged setting second ≡ refused r
      → files ≡ refused (refusal r.number (n + r.expander.0) r.phy.0)
  unfolding files_for
  files-second n r a e = let c : length a.domain ≡ n = sym a.count in rw (a.accepted, e, c)

  pub files-both : (n m : ℕ) (f g : Bool) → SideAs setting first i p n f → SideAs setting second j q m g → files ≡ counts_for setting.expanders n m (f && g)
  unfolding files_for
  files-both n m f g a b = rw (a.one.accepted, b.one.accepted, a.one.count, b.one.count, a.can, b.can)

  -- the call: what both files give, then the joined file judged, then 16
  call-is : call ≡ then files (λ _. then (judged setting (joined_file first i p second j q)) (λ _. fitting room (joined_file first i p second j q)))
  unfolding join_call files_for
  call-is = go (judged setting first) (judged setting second) refl refl
    where
      go : (x y : Result Domain) → judged setting first ≡ x → judged setting second ≡ y
          → then x (λ d₁. then (shifted (length d₁) y) (λ d₂. join_for setting first i p d₁ second j q d₂ room))
          ≡ then (then x (λ d₁. then (shifted (length d₁) y) (λ d₂. counts_for setting.expanders (length d₁) (length d₂) (free d₁ i p && free d₂ j q))))
          (λ _. then (judged setting (joined_file first i p second j q)) (λ _. fitting room (joined_file first i p second j q)))
      go (refused r) y e f = refl
      go (good d₁) (refused r) e f = refl
      go (good d₁) (good d₂) e f =
          counted (free d₁ i p && free d₂ j q) (leb (length d₁ + length d₂) setting.expanders) _ (judged setting (joined_file first i p second j q)) _ (λ z.
          too_many (length d₁) (length d₂) (record { domain = d₁; accepted = e; count = refl }) (record { domain = d₂; accepted = f; count = refl }) (leb-false (length d₁ + length d₂) setting.expanders z))

  pub files-refused : (r : Refusal) → files ≡ refused r → call ≡ refused r
  files-refused r e = call-is ∙ rw e

  -- both files can be joined
  pub files_ready : (n m : ℕ) → files ≡ good (record { one = n; other = m }) → Ready setting first n i p second m j q
  unfolding files_for
  files_ready n m e =
      let a = then-good (judged setting first) _ _ e in
      let b = then-good (shifted (length a.0) (judged setting second)) _ _ a.2 in
      let u = unless-good (free a.0 i p && free b.0 j q) (refusal 21 0 0) _ _ b.2 in
      let v = unless-good (leb (length a.0 + length b.0) setting.expanders) (refusal 3 0 0) _ _ u.1 in
      let s : ◌≡◌ {A = Counts} (record { one = length a.0; other = length b.0 }) (record { one = n; other = m }) = good-one _ _ v.1 in
      let x = ap (λ (w : Counts). w.one) s in
      let y = ap (λ (w : Counts). w.other) s in
      record {
        one = record { domain = a.0; accepted = a.1; count = sym x };
        other = record { domain = b.0; accepted = shifted-good (length a.0) (judged setting second) b.0 b.1; count = sym y };
        few = omega (arith, leb→le (length a.0 + length b.0) setting.expanders v.0);
        free_one = and_left (free a.0 i p) (free b.0 j q) u.0;
        free_other = and_right (free a.0 i p) (free b.0 j q) u.0;
      }

  -- a phy that can take the cable is there
  free-there : (d : Domain) (x y : ℕ) → T (free d x y) → y < length (expander_at d x).phys
  unfolding free
  free-there d x y t = attribute-range d 1 x y (search tests) (omega arith)

  module _ (n m : ℕ) (c : Ready setting first n i p second m j q) where
    read_first : domain_read setting first ≡ good c.one.domain
    read_first = ((judged-file setting first c.one.domain).0 c.one.accepted).0

    read-second : domain_read setting second ≡ good c.other.domain
    read-second = ((judged-file setting second c.other.domain).0 c.other.accepted).0

    pub placed_first : Placed first i p
    placed_first = phy-placed setting first c.one.domain read_first i p (free-there c.one.domain i p c.free_one)

    pub placed-second : Placed second j q
    placed-second = phy-placed setting second c.other.domain read-second j q (free-there c.other.domain j q c.free_other)

    pub header_fits : byte first 1 + byte second 1 < 256
    header_fits =
        let s = sum-stated n m c.one c.other in
        let g = read-good setting first c.one.domain read_first in
        omega (arith, c.few, g.range.expanders.1)

    -- room for so many expanders as the files state, and at most 64, is enough
    pub ready_room : (rows rows' who who' low low' : List ℕ) → length rows' ≡ length rows → length who' ≡ length who → length low' ≡ length low
        → JoinRoom (stated_both first second) rows who low → JoinRoom (n + m) rows' who' low'
    ready_room rows rows' who who' low low' l k h room =
        let s = sum-stated n m c.one c.other in
        let g = read-good setting first c.one.domain read_first in
        let e : stated_both first second ≡ n + m = omega (arith, c.few, g.range.expanders.1) in
        let a = room.words in
        let b = room.slots in
        let d = room.phys in
        record { words = omega arith; slots = omega arith; phys = omega arith }

    pub joined-size : length (joined_file first i p second j q) ≡ length first + (length second - 2)
    joined-size =
        let a = placed_first in
        let b = placed-second in
        length-joined first second i p j q (units_of setting first c.one.domain read_first).0 (units_of setting second c.other.domain read-second).0 a.after a.within b.after b.within

    abbrev new : List ℕ
    new = joined_file first i p second j q

    passed : call ≡ then (judged setting new) (λ _. fitting room new)
    passed = both-accepted c.one.domain c.other.domain c.one.accepted c.other.accepted
        ∙ rw (is_true (free c.one.domain i p) c.free_one, is_true (free c.other.domain j q) c.free_other)

    pub joined-refused : (r : Refusal) → judged setting new ≡ refused r → call ≡ refused r
    joined-refused r e = passed ∙ rw e

    pub joined-short : (d : Domain) → judged setting new ≡ good d → room < length first + (length second - 2) → call ≡ refused (refusal 16 0 0)
    joined-short d e h = let l = joined-size in passed ∙ rw (e, lt-leb (length new) room (omega arith))

    pub joined-good : (d : Domain) → judged setting new ≡ good d → length first + (length second - 2) ≤ room → call ≡ good new
    joined-good d e h = let l = joined-size in passed ∙ rw (e, le-leb (length new) room (omega arith))

-- the second file's refusal stays a byte
pub shift_fits : (setting : Setting) (first second : List ℕ) (n : ℕ) (r : Refusal) → Accepted setting first n → judged setting second ≡ refused r → n + r.expander.0 < 256
shift_fits setting first second n r a e =
    let h = up-refused 64 (judged setting second) r (judged-up setting second) e in
    let g = read-good setting first a.domain ((judged-file setting first a.domain).0 a.accepted).0 in
    omega (arith, a.count, g.few, g.range.expanders.1)

-- 21, test by test
pub free-by : (d : Domain) (x y : ℕ) {a b c : Bool} → is_subtractive (phy_at d x y) ≡ a → attached (phy_at d x y) ≡ b → any upward (expander_at d x).phys ≡ c → free d x y ≡ (a && (not b && not c))
unfolding free
free-by d x y p q r = rw (p, q, r)

-- an accepted file: at least its header, and no longer than the most expanders with the most phys and long frames
module _ (setting : Setting) (file : List ℕ) (n : ℕ) (a : Accepted setting file n) where
  pub accepted-read : domain_read setting file ≡ good a.domain
  accepted-read = ((judged-file setting file a.domain).0 a.accepted).0

  pub accepted-few : n ≤ 64
  accepted-few = let g = read-good setting file a.domain accepted-read in omega (arith, a.count, g.few, g.range.expanders.1)

  pub accepted_bound : length file ≤ 529154
  accepted_bound = omega (arith, length_bound setting file a.domain accepted-read, a.count, accepted-few)

-- room for as many expanders as the file states, and at most 64, is enough for its domain
pub side_room : (setting : Setting) (file rows who low : List ℕ) → JoinRoom (min 64 (byte file 1)) rows who low → FileRoom setting file rows who low
side_room setting file rows who low room =
    file-room setting (min 64 (byte file 1)) file rows who low
    (λ d e. let g = read-good setting file d e in omega (arith, stated-expanders setting file d e, g.few, g.range.expanders.1)) room.words room.slots room.phys

-- a first file that states more than 64 expanders is refused as its first two bytes are
pub join-cut : (setting : Setting) (first : List ℕ) (i p : ℕ) (second : List ℕ) (j q room : ℕ) → 2 < length first → 64 < byte first 1
    → join_call setting (take 2 first) i p second j q room ≡ join_call setting first i p second j q room
join-cut setting first i p second j q room h k = go (domain_read setting first) refl
  where
    same : (file : List ℕ) (r : Refusal) → domain_read setting file ≡ refused r → join_call setting file i p second j q room ≡ refused r
    same file r e = files-refused setting file i p second j q room r (files-first setting file i p second j q room r (rw e))

    go : (x : Result Domain) → domain_read setting first ≡ x → join_call setting (take 2 first) i p second j q room ≡ join_call setting first i p second j q room
    go (refused r) e = same (take 2 first) r (header_cut setting first h k ∙ e) ∙ sym (same first r e)
    go (good d) e = let g = read-good setting first d e in absurd (omega (arith, stated-expanders setting first d e, g.few, g.range.expanders.1))
