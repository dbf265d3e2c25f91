-- A file that reads as a domain under one setting reads as the same domain under any setting in range and no smaller.
use Prim.Native.Nat.{ℕ, zero, suc, ◌+◌, ◌≤◌}
use mathlib.Core.Path.{◌≡◌, ◌∙◌}
use mathlib.Core.Bool.{Bool}
use mathlib.Core.List.{List, [], ◌∷◌, ◌++◌}
use native.Mathlib.Omega.{arith}
use lib.ListN.{length}
use lib.Dec.{T, eqb, leb, leb→le, le→leb}
use Rattle.frames.specs.Bytes.{byte, number_at}
use Rattle.frames.specs.Refusals.{Result, good, unless, refusal}
use Rattle.frames.specs.ReportGeneral.{general_read}
use Rattle.frames.specs.declared.Refusal.{Refusal}
use Rattle.frames.specs.declared.Response.TheVariants.{ReportGeneral}
use Rattle.files.specs.declared.Setting.{Setting}
use Rattle.files.specs.declared.ExpanderUnit.{ExpanderUnit}
use Rattle.files.specs.Domain.{Domain}
use Rattle.files.specs.Settings.{within, in_range, InRange, NoSmaller}
use Rattle.files.specs.File.{placed, frame_at, phy_units, unit_of, unit_tested, expander_unit, expanders, header_unit, domain_read}
use Rattle.files.specs.declared.Parsed.{Parsed}
use Rattle.files.proofs.CallResults.{unless-good, good-unless, then-good, good-then}
use Rattle.files.proofs.SettingRanges.{range_iff}
use Rattle.files.proofs.ListMembers.{and_left, and_right, and_both}

-- a test that a wider setting passes, too
pub more-unless : {A : Type 0} (b c : Bool) (r : Refusal) (x y : Result A) (a : A) → (T b → T c) → (x ≡ good a → y ≡ good a)
    → unless b r x ≡ good a → unless c r y ≡ good a
more-unless b c r x y a f g e = let u = unless-good b r x a e in good-unless c r y (f u.0) ∙ g u.1

within_more : (a b n : ℕ) → a ≤ b → T (within a n) → T (within b n)
within_more a b n h t =
    and_both (leb 1 n) (leb n b) (and_left (leb 1 n) (leb n a) t) (le→leb n b (omega (arith, leb→le n a (and_right (leb 1 n) (leb n a) t))))

module _ (most other : Setting) (m : NoSmaller most other) where
  unit-more : (used : List ℕ) (i : ℕ) (u v : ExpanderUnit) → unit_tested most used i u ≡ good v → unit_tested other used i u ≡ good v
  unit-more used i u v =
      more-unless (within most.phys u.phys) (within other.phys u.phys) (refusal 3 i 0) _ _ v
      (within_more most.phys other.phys u.phys m.phys) (λ e. e)

  expander-more : (file used : List ℕ) (i at : ℕ) (u : Parsed ExpanderUnit) → expander_unit most file used i at ≡ good u → expander_unit other file used i at ≡ good u
  unfolding expander_unit
  expander-more file used i at u e =
      let x = placed i 0 (frame_at ReportGeneral general_read file (at + 8)) in
      let g = then-good x _ u e in
      let w = unit_of (number_at file at 8) g.0.value in
      let v = then-good (unit_tested most used i w) _ u g.2 in
      good-then x _ g.0 u g.1 (good-then (unit_tested other used i w) _ v.0 u (unit-more used i w v.0 v.1) v.2)

  expanders-more : (file : List ℕ) (count i at : ℕ) (used : List ℕ) (d : Domain) → expanders most file count i at used ≡ good d → expanders other file count i at used ≡ good d
  unfolding expanders
  expanders-more file zero i at used d e = e
  expanders-more file (suc count) i at used d e =
      let u = then-good (expander_unit most file used i at) _ d e in
      let own_address = u.0.value.address in
      let φs = then-good (phy_units file own_address i u.0.value.phys 0 u.0.next) _ d u.2 in
      let rest = then-good (expanders most file count (i + 1) φs.0.next (used ++ (own_address ∷ []))) _ d φs.2 in
      good-then (expander_unit other file used i at) _ u.0 d (expander-more file used i at u.0 u.1)
      (good-then (phy_units file own_address i u.0.value.phys 0 u.0.next) _ φs.0 d φs.1
      (good-then (expanders other file count (i + 1) φs.0.next (used ++ (own_address ∷ []))) _ rest.0 d
      (expanders-more file count (i + 1) φs.0.next (used ++ (own_address ∷ [])) rest.0 rest.1) rest.2))

  header_more : (file : List ℕ) (n : ℕ) → header_unit most file ≡ good n → header_unit other file ≡ good n
  unfolding header_unit
  header_more file n =
      more-unless (leb 2 (length file)) (leb 2 (length file)) (refusal 1 0 0) _ _ n (λ t. t)
      (more-unless (eqb (byte file 0) 0x10) (eqb (byte file 0) 0x10) (refusal 2 0 0) _ _ n (λ t. t)
      (more-unless (within most.expanders (byte file 1)) (within other.expanders (byte file 1)) (refusal 3 0 0) _ _ n
      (within_more most.expanders other.expanders (byte file 1) m.expanders) (λ e. e)))

  pub read_more : InRange other → (file : List ℕ) (d : Domain) → domain_read most file ≡ good d → domain_read other file ≡ good d
  unfolding domain_read
  read_more r file d =
      more-unless (in_range most) (in_range other) (refusal 22 0 0) _ _ d (λ _. (range_iff other).1 r) (λ e.
      let n = then-good (header_unit most file) _ d e in
      good-then (header_unit other file) _ n.0 d (header_more file n.0 n.1) (expanders-more file n.0 0 2 [] d n.2))
