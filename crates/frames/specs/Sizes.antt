-- The size of a REPORT GENERAL or DISCOVER response, by its byte 3, RESPONSE LENGTH.
use Rattle.std.specs.Prelude.{ℕ, ◌≡◌, ◌⊎◌, cond, List, length, take, set, eqb, leb}
use Rattle.frames.specs.Bytes.{byte}
use Rattle.frames.specs.Refusals.{Result, refused, good, unless, then, refusal}
use Rattle.frames.specs.declared.Response.{Response}
use Rattle.frames.specs.declared.Response.TheVariants.{ReportGeneral, Discover}

-- a short response, with byte 3 zero
abbrev pub short_size : Response → ℕ
short_size ReportGeneral = 28
short_size Discover = 52

-- a long response, and its byte 3: so many 32-bit words follow byte 3
abbrev pub long_size : Response → ℕ
long_size ReportGeneral = 68
long_size Discover = 64

abbrev pub long_length : Response → ℕ
long_length ReportGeneral = 0x10
long_length Discover = 0x0f

-- the size that byte 3 states; every other value is 2
abbrev pub size_stated : Response → ℕ → Result ℕ
size_stated kind b =
    cond (eqb b 0x00) (good (short_size kind))
    (cond (eqb b (long_length kind)) (good (long_size kind)) (refused (refusal 2 0 0)))

-- byte 3 and the size of a short frame, or those of a long one
abbrev pub Sized : Response → ℕ → ℕ → Type 0
Sized kind b n = ((b ≡ 0x00) × (n ≡ short_size kind)) ⊎ ((b ≡ long_length kind) × (n ≡ long_size kind))

-- the size of the frame that starts with these bytes, by the first four of them: fewer are 1
unfoldable pub frame_size : Response → List ℕ → Result ℕ
frame_size kind s = unless (leb 4 (length s)) (refusal 1 0 0) (size_stated kind (byte s 3))

module _ {A : Type 0} where
  -- reading one frame by itself: its size by the first four bytes (1, 2), exactly so many bytes (1), then what its other bytes say
  abbrev pub by_itself : Response → (List ℕ → Result A) → List ℕ → Result A
  by_itself kind rest s = then (frame_size kind s) (λ size. unless (eqb (length s) size) (refusal 1 0 0) (rest s))

-- the short frame of the frame that starts with these bytes: its first bytes, with byte 3 zero
abbrev pub short_frame : Response → List ℕ → List ℕ
short_frame kind s = set (take (short_size kind) s) 3 0x00
