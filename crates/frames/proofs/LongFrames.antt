-- Frames of either size: what a frame whose size was found has, and what the readers show from a long frame.
use Prim.Native.Nat.{ℕ, zero, suc, ◌+◌, ◌≤◌, ◌<◌}
use mathlib.Core.Path.{◌≡◌, refl, sym, ◌∙◌, ap}
use mathlib.Core.Logic.{◌⊎◌, inl, inr, ⊎_elim, ◌≢◌}
use mathlib.Core.Bool.{Bool, true, false, cond}
use mathlib.Core.List.{List, [], ◌++◌, append-nil}
use native.Mathlib.Omega.{arith}
use lib.ListN.{length, take, length-set, length-append, get_or-append}
use lib.Seq.{get_or-set_same, get_or-set_other, get_or-take, length-take-le, take_all}
use lib.Dec.{eqb, leb}
use borrow.Author.Tests.{eq-eqb, le-leb, eqb-true, leb-true}
use Rattle.frames.specs.Bytes.{byte, number_at}
use Rattle.frames.specs.Refusals.{Result, refused, good, unless, then, refusal}
use Rattle.frames.specs.Sizes.{short_size, long_size, long_length, size_stated, Sized, frame_size, by_itself, short_frame}
use Rattle.frames.specs.ReportGeneral.{general_fixed, general_in, general_read}
use Rattle.frames.specs.Discovery.{discover_fixed, discover_in, discover_read}
use Rattle.frames.specs.declared.General.{General}
use Rattle.frames.specs.declared.Response.{Response}
use Rattle.frames.specs.declared.Response.TheVariants.{ReportGeneral, Discover}

sized-by : (a b c : Bool) (m l n : ℕ) → unless a (refusal 1 0 0) (cond b (good m) (cond c (good l) (refused (refusal 2 0 0)))) ≡ good n
    → (a ≡ true) × (((b ≡ true) × (n ≡ m)) ⊎ ((c ≡ true) × (n ≡ l)))
sized-by true true c m l n e = (refl, inl (refl, cc))
sized-by true false true m l n e = (refl, inr (refl, cc))
sized-by true false false m l n e = let z : ◌≡◌ {A = ℕ} 0 1 = cc in absurd (omega arith)
sized-by false b c m l n e = let z : ◌≡◌ {A = ℕ} 0 1 = cc in absurd (omega arith)

module _ (kind : Response) (s : List ℕ) (n : ℕ) (e : frame_size kind s ≡ good n) where
  pub sized : (4 ≤ length s) × Sized kind (byte s 3) n
  unfolding frame_size
  sized =
      let t = sized-by (leb 4 (length s)) (eqb (byte s 3) 0x00) (eqb (byte s 3) (long_length kind)) (short_size kind) (long_size kind) n e in (
        leb-true 4 (length s) t.0,
        ⊎_elim (λ h. inl (eqb-true (byte s 3) 0x00 h.0, h.1)) (λ h. inr (eqb-true (byte s 3) (long_length kind) h.0, h.1)) t.1,
      )

longer : (kind : Response) → short_size kind ≤ long_size kind
longer ReportGeneral = omega arith
longer Discover = omega arith

-- a frame has at least the bytes of a short one
pub size-least : (kind : Response) (s : List ℕ) (n : ℕ) → frame_size kind s ≡ good n → short_size kind ≤ n
size-least kind s n e =
    let l = longer kind in
    ⊎_elim {C = short_size kind ≤ n} (λ h. let k = h.1 in omega arith) (λ h. let k = h.1 in omega arith) (sized kind s n e).1

-- what was read has at least the bytes of a short frame
pub general-least : (s : List ℕ) (g : General) → general_read s ≡ good g → short_size ReportGeneral ≤ length s
unfolding general_read
general-least s g e = found (frame_size ReportGeneral s) refl e
  where
    exact : (n : ℕ) (b : Bool) (x : Result General) → short_size ReportGeneral ≤ n → eqb (length s) n ≡ b → unless b (refusal 1 0 0) x ≡ good g → short_size ReportGeneral ≤ length s
    exact n true x h q e = let l = eqb-true (length s) n q in omega arith
    exact n false x h q e = let z : ◌≡◌ {A = ℕ} 0 1 = cc in absurd (omega arith)

    found : (y : Result ℕ) → frame_size ReportGeneral s ≡ y → then y (λ n. unless (eqb (length s) n) (refusal 1 0 0) (general_in s)) ≡ good g → short_size ReportGeneral ≤ length s
    found (refused r) q e = let z : ◌≡◌ {A = ℕ} 0 1 = cc in absurd (omega arith)
    found (good n) q e = exact n (eqb (length s) n) _ (size-least ReportGeneral s n q) refl e

-- the size is what byte 3 states
size_of : (kind : Response) (s : List ℕ) → 4 ≤ length s → frame_size kind s ≡ size_stated kind (byte s 3)
unfolding frame_size
size_of kind s h = rw (le-leb 4 (length s) h)

-- bytes that are alike, byte 3 apart
abbrev Alike : ℕ → List ℕ → List ℕ → Type 0
Alike m s t = (k : ℕ) → k < m → k ≢ 3 → byte s k ≡ byte t k

pub number-alike : (s t : List ℕ) (i i' k : ℕ) → ((j : ℕ) → j < k → byte s (i + j) ≡ byte t (i' + j)) → number_at s i k ≡ number_at t i' k
unfolding number_at
number-alike s t i i' zero h = refl
number-alike s t i i' (suc k) h =
    let e = number-alike s t i i' k (λ j l. h j (omega arith)) in
    rw (e, h k (omega arith))

general-alike : (s t : List ℕ) → Alike (short_size ReportGeneral) s t → general_in s ≡ general_in t
unfolding general_fixed
general-alike s t h =
    let a : (k : ℕ) → k < short_size ReportGeneral → 4 ≤ k → byte s k ≡ byte t k = λ k l m. h k l (λ e. omega arith) in
    let r = number-alike s t 6 6 2 (λ j l. a (6 + j) (omega arith) (omega arith)) in
    rw (
      h 0 (omega arith) (λ e. omega arith),
      h 1 (omega arith) (λ e. omega arith),
      h 2 (omega arith) (λ e. omega arith),
      r,
      a 9 (omega arith) (omega arith),
      a 10 (omega arith) (omega arith),
    )

discover-alike : (s t : List ℕ) → Alike (short_size Discover) s t → discover_in s ≡ discover_in t
unfolding discover_fixed
discover-alike s t h =
    let a : (k : ℕ) → k < short_size Discover → 4 ≤ k → byte s k ≡ byte t k = λ k l m. h k l (λ e. omega arith) in
    let own_address = number-alike s t 16 16 8 (λ j l. a (16 + j) (omega arith) (omega arith)) in
    let attached_address = number-alike s t 24 24 8 (λ j l. a (24 + j) (omega arith) (omega arith)) in
    rw (
      h 0 (omega arith) (λ e. omega arith),
      h 1 (omega arith) (λ e. omega arith),
      h 2 (omega arith) (λ e. omega arith),
      a 9 (omega arith) (omega arith),
      a 12 (omega arith) (omega arith),
      own_address,
      attached_address,
      a 32 (omega arith) (omega arith),
      a 44 (omega arith) (omega arith),
    )

-- the short frame of a frame that is whole: its size, and its bytes
module _ (kind : Response) (s : List ℕ) (n : ℕ) (e : frame_size kind s ≡ good n) (h : n ≤ length s) where
  least : (4 ≤ short_size kind) × (short_size kind ≤ length s)
  least = let l = size-least kind s n e in (four kind, omega arith)
    where
      four : (kind : Response) → 4 ≤ short_size kind
      four ReportGeneral = omega arith
      four Discover = omega arith

  pub short-length : length (short_frame kind s) ≡ short_size kind
  short-length = length-set (take (short_size kind) s) 3 0x00 ∙ length-take-le (short_size kind) s least.1

  -- whatever bytes follow it
  pub short-size : (more : List ℕ) → frame_size kind (short_frame kind s ++ more) ≡ good (short_size kind)
  short-size more =
      let l = short-length in
      let m = least.0 in
      let t = length-take-le (short_size kind) s least.1 in
      let z : byte (short_frame kind s ++ more) 3 ≡ 0 =
      get_or-append (short_frame kind s) more 0 3 (omega arith) ∙ get_or-set_same (take (short_size kind) s) 3 0x00 0 (omega arith) in
      size_of kind (short_frame kind s ++ more) (rw (length-append (short_frame kind s) more) (omega arith)) ∙ ap (size_stated kind) z

  short-alike : Alike (short_size kind) (take n s) (short_frame kind s)
  short-alike k l m =
      let o = size-least kind s n e in
      get_or-take n s k 0 (omega arith) ∙ sym (get_or-set_other (take (short_size kind) s) 3 k 0x00 0 m ∙ get_or-take (short_size kind) s k 0 l)

  whole-size : frame_size kind (take n s) ≡ good n
  whole-size =
      let o = size-least kind s n e in
      let m = least.0 in
      let l = length-take-le n s h in
      size_of kind (take n s) (omega arith) ∙ ap (size_stated kind) (get_or-take n s 3 0 (omega arith)) ∙ sym (size_of kind s (omega arith)) ∙ e

  -- reading a frame, long or short, is reading its short frame
  short-reads : {A : Type 0} (rest : List ℕ → Result A) → ((s t : List ℕ) → Alike (short_size kind) s t → rest s ≡ rest t)
      → by_itself kind rest (take n s) ≡ by_itself kind rest (short_frame kind s)
  short-reads rest alike =
      let z : frame_size kind (short_frame kind s) ≡ good (short_size kind) = rw append-nil at (short-size []) in
      let a : by_itself kind rest (take n s) ≡ rest (take n s) = simp (whole-size, eq-eqb (length (take n s)) n (length-take-le n s h)) in
      let b : by_itself kind rest (short_frame kind s) ≡ rest (short_frame kind s) = simp (z, eq-eqb (length (short_frame kind s)) (short_size kind) short-length) in
      a ∙ alike (take n s) (short_frame kind s) short-alike ∙ sym b

pub short-general : (s : List ℕ) (n : ℕ) → frame_size ReportGeneral s ≡ good n → n ≤ length s → general_read (take n s) ≡ general_read (short_frame ReportGeneral s)
unfolding general_read
short-general s n e h = short-reads ReportGeneral s n e h general_in general-alike

pub short-discover : (s : List ℕ) (n : ℕ) → frame_size Discover s ≡ good n → n ≤ length s → discover_read (take n s) ≡ discover_read (short_frame Discover s)
unfolding discover_read
short-discover s n e h = short-reads Discover s n e h discover_in discover-alike

-- the SAS-1.1 reader shows from a long frame exactly what it shows from its first 28 or 52 bytes with byte 3 zero
long-size : (kind : Response) (s : List ℕ) → length s ≡ long_size kind → byte s 3 ≡ long_length kind → frame_size kind s ≡ good (long_size kind)
long-size ReportGeneral s l b = size_of ReportGeneral s (omega arith) ∙ ap (size_stated ReportGeneral) b
long-size Discover s l b = size_of Discover s (omega arith) ∙ ap (size_stated Discover) b

pub long-general : (s : List ℕ) → length s ≡ long_size ReportGeneral → byte s 3 ≡ 0x10 → general_read s ≡ general_read (short_frame ReportGeneral s)
long-general s l b = sym (ap general_read (take_all (long_size ReportGeneral) s (omega arith))) ∙ short-general s (long_size ReportGeneral) (long-size ReportGeneral s l b) (omega arith)

pub long-discover : (s : List ℕ) → length s ≡ long_size Discover → byte s 3 ≡ 0x0f → discover_read s ≡ discover_read (short_frame Discover s)
long-discover s l b = sym (ap discover_read (take_all (long_size Discover) s (omega arith))) ∙ short-discover s (long_size Discover) (long-size Discover s l b) (omega arith)
