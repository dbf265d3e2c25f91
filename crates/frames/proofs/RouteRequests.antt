-- Writing and reading requests: when a request is written, and that reading gives back what was written.
use Prim.Native.Nat.{ℕ, ◌/◌, ◌%◌, ◌^◌, ◌≤◌, ◌<◌}
use mathlib.Core.Path.{◌≡◌, refl, sym, ◌∙◌, ap}
use mathlib.Core.Bool.{Bool, true, false, cond}
use mathlib.Core.List.{List}
use native.Mathlib.Omega.{arith}
use lib.Dec.{eqb, leb}
use borrow.Author.Tests.{le-leb, leb-true}
use Rattle.frames.specs.Bytes.{number_at, bytes_of}
use Rattle.frames.specs.Refusals.{Result, good, unless, refusal}
use Rattle.frames.specs.ConfigureRoute.{is_length, route_frame, route_written, part_after, route_fixed, route_read}
use Rattle.frames.specs.declared.Refusal.{Refusal}
use Rattle.frames.specs.declared.Route.{Route}
use Rattle.frames.proofs.ByteNumbers.{number-back}

-- a written request has its length, its phy and its room
pub record Fits (room : ℕ) (q : Route) : Type 0 where
  pub length : is_length q.length ≡ true
  pub phy : q.phy.0 ≤ 127
  pub bytes : 40 ≤ room

fits_by : (a b c : Bool) (r s t : Refusal) (x l : List ℕ) → unless a r (unless b s (unless c t (good x))) ≡ good l → (a ≡ true) × ((b ≡ true) × (c ≡ true))
fits_by true true true r s t x l e = (refl, (refl, refl))
fits_by true true false r s t x l e = let z : ◌≡◌ {A = ℕ} 0 1 = cc in absurd (omega arith)
fits_by true false c r s t x l e = let z : ◌≡◌ {A = ℕ} 0 1 = cc in absurd (omega arith)
fits_by false b c r s t x l e = let z : ◌≡◌ {A = ℕ} 0 1 = cc in absurd (omega arith)

pub fits : (room : ℕ) (q : Route) (l : List ℕ) → route_written room q ≡ good l → Fits room q
unfolding route_written
fits room q l e =
    let t = fits_by (is_length q.length) (leb q.phy.0 127) (leb 40 room) (refusal 2 0 0) (refusal 15 0 0) (refusal 16 0 0) (route_frame q) l e in
    record { length = t.0; phy = leb-true q.phy.0 127 t.1.0; bytes = leb-true 40 room t.1.1 }

-- the numbers of a request that its types allow, and the lengths and phys that can be written
pub record Allowed (q : Route) : Type 0 where
  pub length : is_length q.length ≡ true
  pub phy : q.phy.0 ≤ 127
  pub index : q.index.0 < 2 ^ 16
  pub address : q.address < 2 ^ 64

-- bit 7 of byte 12 says whether the entry is disabled
disabled-back : (b : Bool) → eqb (cond b 128 0 / 2 ^ 7 % 2 ^ 1) 1 ≡ b
disabled-back true = refl
disabled-back false = refl

-- reading a written request yields it
pub round_trip : (q : Route) → Allowed q → route_read (route_frame q) ≡ good q
unfolding route_read route_fixed route_frame number_at bytes_of
round_trip q a =
    let i : number_at (bytes_of 2 q.index.0) 0 2 ≡ q.index.0 = number-back 2 q.index.0 a.index in
    let e : number_at (bytes_of 8 q.address) 0 8 ≡ q.address = number-back 8 q.address a.address in
    simp (a.length, le-leb q.phy.0 127 a.phy, i, e, disabled-back q.disabled)

-- two different requests never give equal frames
pub frames-differ : (q r : Route) → Allowed q → Allowed r → route_frame q ≡ route_frame r → q ≡ r
frames-differ q r a b e =
    let s : ◌≡◌ {A = Result Route} (good q) (good r) = sym (round_trip q a) ∙ ap route_read e ∙ round_trip r b in
    cc

-- over the two functions' promises: what was read of the part that was handed back is what was written
pub promised_back : (room : ℕ) (q : Route) (part : List ℕ) (answer : Result Route) → Allowed q → 40 ≤ room
    → part ≡ part_after (route_written room q) → answer ≡ route_read part → answer ≡ good q
unfolding route_written
promised_back room q part answer a h e r =
    let p : part ≡ route_frame q = e ∙ simp (a.length, le-leb q.phy.0 127 a.phy, le-leb 40 room h) in
    r ∙ ap route_read p ∙ round_trip q a
