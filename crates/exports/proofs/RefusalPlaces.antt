-- The refusals of frames, of reading a file of bytes and of judging it have three bytes. And a file that is read is not long: `read_short`.
use Prim.Native.Nat.{ℕ, zero, suc, ◌+◌, ◌*◌, ◌^◌, ◌≤◌, ◌<◌}
use mathlib.Core.Path.{◌≡◌, refl, sym, subst}
use mathlib.Core.Bool.{Bool, true, false, cond, not, ◌&&◌}
use mathlib.Core.List.{List, [], ◌∷◌, ◌++◌}
use mathlib.Core.Logic.{inl, inr}
use native.Mathlib.Omega.{arith}
use lib.ListN.{length, take, drop}
use lib.Dec.{eqb, leb, eqb→eq}
use borrow.Author.Tests.{leb-true}
use Rattle.frames.specs.Bytes.{byte, number_at}
use Rattle.frames.specs.Refusals.{Result, refused, good, refusal}
use Rattle.frames.specs.Sizes.{short_size, long_size, long_length, frame_size, by_itself}
use Rattle.frames.specs.ReportGeneral.{general_fixed, general_fields, general_in, general_read}
use Rattle.frames.specs.Discovery.{discover_fixed, discovered, discover_in, discover_read}
use Rattle.frames.specs.declared.Discovered.{Discovered}
use Rattle.frames.specs.declared.Discovered.TheVariants.{Vacant as vacant, Fields as fields}
use Rattle.frames.specs.declared.General.{General}
use Rattle.frames.specs.declared.Response.{Response}
use Rattle.frames.specs.declared.Response.TheVariants.{ReportGeneral, Discover}
use Rattle.files.specs.declared.Setting.{Setting}
use Rattle.files.specs.declared.ExpanderUnit.{ExpanderUnit}
use Rattle.files.specs.Lists.{In, numbers, up_to, is_in}
use Rattle.files.specs.Settings.{within, in_range}
use Rattle.files.specs.Domain.{Expander, Domain}
use Rattle.files.specs.ReadDomain.{Read, Bytes, FitsDomain}
use Rattle.files.specs.File.{placed, size_at, frame_at, fields_of, ranged, phy_of, phy_unit, phy_units, unit_of, unit_tested, expander_unit, expanders, header_unit, domain_read}
use Rattle.files.specs.declared.Parsed.{Parsed}
use Rattle.files.proofs.ReadDomain.{read-good, read_fits}
use Rattle.files.proofs.ListMembers.{by-test, was_true}
use Rattle.files.proofs.SettingRanges.{range_iff}
use Rattle.files.proofs.CallResults.{both}
use Rattle.wiring.specs.phys.PhyCauses.{Place, phy_places, places_from, places, first_in, first_of, unanswered, claimed, clashing, fixed, wired_domain, wired}
use Rattle.wiring.specs.graph.LongChains.{unlong, chains_within}
use Rattle.wiring.specs.graph.Neighbours.{neighbours}
use Rattle.wiring.specs.graph.Graph.{loopfree}
use Rattle.wiring.specs.graph.LinkCauses.{unlooped, joined, joined_in, linked_domain}
use Rattle.wiring.proofs.WiredAndLinked.{wired-same}
use Rattle.tables.specs.JudgingCall.{overlong, judged_domain, judged}
use Rattle.tables.proofs.AcceptedDomains.{judged-file}
use Rattle.exports.proofs.RefusalBit.{Any, Tells, tells-unless, tells_more, tells-weaker, tells-then, at_place, no_place}

-- frames: the longest has 68 bytes
size-tells : (kind : Response) (s : List ℕ) → Tells (λ n. n ≤ 68) (frame_size kind s)
unfolding frame_size
size-tells kind s =
    tells-unless (λ n. n ≤ 68) (leb 4 (length s)) (refusal 1 0 0) _ (no_place 1 (omega arith)) (λ _.
    by-test (eqb (byte s 3) 0x00) (λ e. rw e (few kind).0) (λ e. by-test (eqb (byte s 3) (long_length kind)) (λ f. rw (e, f) (few kind).1) (λ f. rw (e, f) (no_place 2 (omega arith)))))
  where
    few : (k : Response) → (short_size k ≤ 68) × (long_size k ≤ 68)
    few ReportGeneral = (omega arith, omega arith)
    few Discover = (omega arith, omega arith)

itself-tells : {A : Type 0} (P : A → Type 0) (kind : Response) (rest : List ℕ → Result A) (s : List ℕ) → Tells P (rest s) → Tells P (by_itself kind rest s)
itself-tells P kind rest s h =
    tells-then (λ n. n ≤ 68) P (frame_size kind s) _ (size-tells kind s) (λ n _ _. tells-unless P (eqb (length s) n) (refusal 1 0 0) (rest s) (no_place 1 (omega arith)) (λ _. h))

-- REPORT GENERAL: what holds of the fields as the bytes have them
pub general-tells : (P : General → Type 0) (s : List ℕ) → P (general_fields s) → Tells P (general_read s)
unfolding general_read
general-tells P s h = itself-tells P ReportGeneral general_in s (tells-unless P (general_fixed s) (refusal 2 0 0) _ (no_place 2 (omega arith)) (λ _. h))

-- the same of DISCOVER
pub discover-tells : (P : Discovered → Type 0) (s : List ℕ) → P (discovered s) → Tells P (discover_read s)
unfolding discover_read
discover-tells P s h = itself-tells P Discover discover_in s (tells-unless P (discover_fixed s) (refusal 2 0 0) _ (no_place 2 (omega arith)) (λ _. h))

module _ {A : Type 0} where
  -- what is read ends so many bytes further on at most
  abbrev Within : ℕ → Parsed A → Type 0
  Within to f = f.next ≤ to

  frame-tells : (kind : Response) (read : List ℕ → Result A) (file : List ℕ) (from : ℕ) → ((s : List ℕ) → Tells Any (read s)) → Tells (Within (from + 68)) (frame_at kind read file from)
  unfolding size_at
  frame-tells kind read file from h =
      let s = drop from file in
      let P : ℕ → Type 0 = λ n. n ≤ 68 in
      tells-then P (Within (from + 68)) (size_at kind file from) _
      (tells-then P P (frame_size kind s) _ (size-tells kind s) (λ n _ k. tells-unless P (leb n (length s)) (refusal 1 0 0) (good n) (no_place 1 (omega arith)) (λ _. k)))
      (λ n _ k. tells-then Any (Within (from + 68)) (read (take n s)) _ (h (take n s)) (λ a _ _. omega arith))

  placed-tells : (P : A → Type 0) (i p : ℕ) (x : Result A) → i < 256 → p < 256 → Tells P x → Tells P (placed i p x)
  placed-tells P i p (refused r) h k t = at_place r.number i p t.number h k
  placed-tells P i p (good a) h k t = t

-- units of a file
phy_of-tells : (own_address i p : ℕ) (f : Discovered) → i < 256 → p < 256 → Tells Any (phy_of own_address i p f)
phy_of-tells own_address i p (vacant r) h k = tt
phy_of-tells own_address i p (fields f) h k =
    tells-unless Any (eqb f.identifier.0 p && eqb f.own_address own_address) (refusal 5 i p) _ (at_place 5 i p (omega arith) h k) (λ _.
    tells-unless Any (ranged (fields_of (eqb f.device_type 0) f)) (refusal 6 i p) _ (at_place 6 i p (omega arith) h k) (λ _. tt))

module _ (file : List ℕ) (own_address i : ℕ) (h : i < 256) where
  phy_unit-tells : (p at : ℕ) → p < 256 → Tells (Within (at + 68)) (phy_unit file own_address i p at)
  unfolding phy_unit
  phy_unit-tells p at k =
      let x = frame_at Discover discover_read file at in
      tells-then (Within (at + 68)) (Within (at + 68)) (placed i p x) _
      (placed-tells (Within (at + 68)) i p x h k (frame-tells Discover discover_read file at (λ s. discover-tells Any s tt)))
      (λ f _ l. tells-then Any (Within (at + 68)) (phy_of own_address i p f.value) _ (phy_of-tells own_address i p f.value h k) (λ φ _ _. l))

  phy_units-tells : (count p at : ℕ) → p + count ≤ 256 → Tells (Within (at + 68 * count)) (phy_units file own_address i count p at)
  unfolding phy_units
  phy_units-tells zero p at k = omega arith
  phy_units-tells (suc count) p at k =
      tells-then (Within (at + 68)) (Within (at + 68 * suc count)) (phy_unit file own_address i p at) _ (phy_unit-tells p at (omega arith)) (λ u _ l.
      tells-then (Within (u.next + 68 * count)) (Within (at + 68 * suc count)) (phy_units file own_address i count (p + 1) u.next) _ (phy_units-tells count (p + 1) u.next (omega arith))
      (λ us _ m. omega arith))

-- 3 and 4: the phys are within the limit
pub unit-tells : (most : Setting) (used : List ℕ) (i : ℕ) (u : ExpanderUnit) → i < 256 → Tells (λ v. (v ≡ u) × (u.phys ≤ most.phys)) (unit_tested most used i u)
unit-tells most used i u h =
    let P : ExpanderUnit → Type 0 = λ v. (v ≡ u) × (u.phys ≤ most.phys) in
    tells-unless P (within most.phys u.phys) (refusal 3 i 0) _ (at_place 3 i 0 (omega arith) h (omega arith)) (λ t.
    tells-unless P (not (eqb u.address 0) && not (is_in u.address used)) (refusal 4 i 0) (good u) (at_place 4 i 0 (omega arith) h (omega arith)) (λ _.
    (refl, leb-true u.phys most.phys (both (leb 1 u.phys) _ t).1)))

module _ (most : Setting) (file : List ℕ) where
  abbrev UnitFits : ℕ → Parsed ExpanderUnit → Type 0
  UnitFits at u = (u.value.phys ≤ most.phys) × Within (at + 76) u

  expander_unit-tells : (used : List ℕ) (i at : ℕ) → i < 256 → Tells (UnitFits at) (expander_unit most file used i at)
  unfolding expander_unit
  expander_unit-tells used i at h =
      let x = frame_at ReportGeneral general_read file (at + 8) in
      let P : Parsed General → Type 0 = Within (at + 8 + 68) in
      tells-then P (UnitFits at) (placed i 0 x) _
      (placed-tells P i 0 x h (omega arith) (frame-tells ReportGeneral general_read file (at + 8) (λ s. general-tells Any s tt))) (λ g _ l.
      let u = unit_of (number_at file at 8) g.value in
      tells-then (λ v. (v ≡ u) × (u.phys ≤ most.phys)) (UnitFits at) (unit_tested most used i u) _ (unit-tells most used i u h)
      (λ v _ k. (subst (λ w. w.phys ≤ most.phys) (sym k.0) k.1, omega arith)))

  -- an expander takes its own 76 bytes and 68 for each phy
  expanders-tells : most.phys ≤ 128 → (count i at : ℕ) (used : List ℕ) → i + count < 256 → Tells (λ d. length file ≤ at + 8780 * count) (expanders most file count i at used)
  unfolding expanders
  expanders-tells m zero i at used h =
      tells-unless (λ d. length file ≤ at + 8780 * 0) (eqb at (length file)) (refusal 1 i 0) (good []) (at_place 1 i 0 (omega arith) (omega arith) (omega arith))
      (λ t. let e = eqb→eq at (length file) (was_true (eqb at (length file)) t) in omega arith)
  expanders-tells m (suc count) i at used h =
      let P : Domain → Type 0 = λ d. length file ≤ at + 8780 * suc count in
      tells-then (UnitFits at) P (expander_unit most file used i at) _ (expander_unit-tells used i at (omega arith)) (λ u _ f.
      let own = u.value.address in
      let n = u.value.phys in
      let k = f.0 in
      let l = f.1 in
      tells-then (Within (u.next + 68 * n)) P (phy_units file own i n 0 u.next) _ (phy_units-tells file own i (omega arith) n 0 u.next (omega arith)) (λ φs _ v.
      tells-then (λ d. length file ≤ φs.next + 8780 * count) P (expanders most file count (i + 1) φs.next (used ++ (own ∷ []))) _
      (expanders-tells m count (i + 1) φs.next (used ++ (own ∷ [])) (omega arith)) (λ d _ w. omega arith)))

  header_tells : Bytes file → Tells (λ n. n < 256) (header_unit most file)
  unfolding header_unit
  header_tells b =
      let P : ℕ → Type 0 = λ n. n < 256 in
      tells-unless P (leb 2 (length file)) (refusal 1 0 0) _ (no_place 1 (omega arith)) (λ _.
      tells-unless P (eqb (byte file 0) 0x10) (refusal 2 0 0) _ (no_place 2 (omega arith)) (λ _.
      tells-unless P (within most.expanders (byte file 1)) (refusal 3 0 0) (good (byte file 1)) (no_place 3 (omega arith)) (λ _. b 1)))

-- what a file of bytes is read as
pub record ReadBytes (most : Setting) (d : Domain) : Type 0 where
  pub read : Read most d
  pub fits : FitsDomain d

module _ (most : Setting) (file : List ℕ) (b : Bytes file) where
  file-tells : Tells (λ d. length file < 2 ^ 32) (domain_read most file)
  unfolding domain_read
  file-tells =
      let P : Domain → Type 0 = λ d. length file < 2 ^ 32 in
      tells-unless P (in_range most) (refusal 22 0 0) _ (no_place 22 (omega arith)) (λ t.
      let m = ((range_iff most).0 (was_true (in_range most) t)).phys.1 in
      tells-then (λ n. n < 256) P (header_unit most file) _ (header_tells most file b) (λ n _ k.
      let Q : Domain → Type 0 = λ d. length file ≤ 2 + 8780 * n in
      let x = expanders most file n 0 2 [] in
      tells-weaker Q P x (expanders-tells most file (omega arith) n 0 2 [] (omega arith)) (λ d l. omega arith)))

  -- reading a file of bytes
  pub read-tells : Tells (ReadBytes most) (domain_read most file)
  read-tells =
      tells_more (λ d. length file < 2 ^ 32) (ReadBytes most) (domain_read most file) file-tells (λ d e. record { read = read-good most file d e; fits = read_fits most file d b e })

  -- a file that is read has fewer than 2 to the power 32 bytes
  pub read_short : (d : Domain) → domain_read most file ≡ good d → length file < 2 ^ 32
  read_short d e = subst (Tells (λ x. length file < 2 ^ 32)) e file-tells

-- places of a domain
abbrev Placed : List Place → Type 0
Placed [] = Unit {0}
Placed (q ∷ qs) = (q.expander < 256) × (q.phy < 256) × Placed qs

placed-append : (qs rs : List Place) → Placed qs → Placed rs → Placed (qs ++ rs)
placed-append [] rs a b = b
placed-append (q ∷ qs) rs a b = (a.0, a.1, placed-append qs rs a.2 b)

phys-placed : (i p count : ℕ) → i < 256 → p + count ≤ 256 → Placed (phy_places i p count)
unfolding phy_places
phys-placed i p zero h k = tt
phys-placed i p (suc count) h k = (h, omega arith, phys-placed i (p + 1) count h (omega arith))

from-placed : (i : ℕ) (d : Domain) → i + length d ≤ 256 → ((e : Expander) → In e d → length e.phys ≤ 256) → Placed (places_from i d)
unfolding places_from
from-placed i [] h k = tt
from-placed i (e ∷ d) h k =
    let m = k e (inl refl) in
    placed-append (phy_places i 0 (length e.phys)) (places_from (i + 1) d) (phys-placed i 0 (length e.phys) (omega arith) (omega arith))
    (from-placed (i + 1) d (omega arith) (λ x j. k x (inr j)))

first-tells : (k : ℕ) (test : ℕ → ℕ → Bool) (qs : List Place) (d : Domain) → k < 256 → Placed qs → Tells Any (first_in k test qs d)
unfolding first_in
first-tells k test [] d l h = tt
first-tells k test (q ∷ qs) d l h = go (test q.expander q.phy) (first-tells k test qs d l h.2)
  where
    go : (b : Bool) → Tells Any (first_in k test qs d) → Tells Any (cond b (refused (refusal k q.expander q.phy)) (first_in k test qs d))
    go true r = at_place k q.expander q.phy l h.0 h.1
    go false r = r

joined-tells : (i count : ℕ) (d : Domain) → i + count ≤ 256 → Tells Any (joined_in (numbers i count) d)
unfolding joined_in numbers
joined-tells i zero d h = tt
joined-tells i (suc count) d h = go (joined d i) (joined-tells (i + 1) count d (omega arith))
  where
    go : (b : Bool) → Tells Any (joined_in (numbers (i + 1) count) d) → Tells Any (cond b (joined_in (numbers (i + 1) count) d) (refused (refusal 12 i 0)))
    go true r = r
    go false r = at_place 12 i 0 (omega arith) (omega arith) (omega arith)

module _ (d : Domain) (f : FitsDomain d) where
  all_placed : Placed (places d)
  all_placed = let n = f.count in from-placed 0 d (omega arith) (λ e j. let m = (f.each e j).count in omega arith)

  -- 7 to 10
  wired-tells : Tells Any (wired_domain d)
  unfolding wired_domain
  wired-tells =
      tells-then Any Any (first_of 7 (unanswered d) d) _ (first-tells 7 (unanswered d) (places d) d (omega arith) all_placed) (λ _ _ _.
      tells-then Any Any (first_of 8 (claimed d) d) _ (first-tells 8 (claimed d) (places d) d (omega arith) all_placed) (λ _ _ _.
      tells-then Any Any (first_of 9 (clashing d) d) _ (first-tells 9 (clashing d) (places d) d (omega arith) all_placed) (λ _ _ _.
      first-tells 10 (fixed d) (places d) d (omega arith) all_placed)))

  -- 7 to 12, 23 and 14
  judged-domain-tells : (chain : ℕ) → Tells Any (judged_domain chain d)
  unfolding judged_domain linked_domain unlooped unlong
  judged-domain-tells chain =
      let n = f.count in
      tells-then Any Any (wired_domain d) _ wired-tells (λ _ _ _.
      tells-then Any Any (linked_domain chain d) _
      (tells-then Any Any (unlooped d) _ (tells-unless Any (loopfree (length d) (neighbours d)) (refusal 11 0 0) (good d) (no_place 11 (omega arith)) (λ _. tt)) (λ _ _ _.
      tells-then Any Any (joined_in (up_to (length d)) d) _ (joined-tells 0 (length d) d (omega arith)) (λ _ _ _.
      tells-unless Any (chains_within chain d) (refusal 23 0 0) (good d) (no_place 23 (omega arith)) (λ _. tt))))
      (λ _ _ _. first-tells 14 (overlong d) (places d) d (omega arith) all_placed))

module _ (setting : Setting) (file : List ℕ) (b : Bytes file) where
  -- reading a file of bytes and testing 7 to 10
  pub wired-file-tells : Tells (ReadBytes setting) (wired setting file)
  wired-file-tells =
      tells-then (ReadBytes setting) (ReadBytes setting) (domain_read setting file) wired_domain (read-tells setting file b) (λ d _ r.
      tells_more Any (ReadBytes setting) (wired_domain d) (wired-tells d r.fits) (λ e q. subst (ReadBytes setting) (wired-same d e q) r))

  -- judging a file of bytes
  pub judged-tells : Tells (ReadBytes setting) (judged setting file)
  judged-tells =
      tells_more Any (ReadBytes setting) (judged setting file)
      (tells-then (ReadBytes setting) Any (domain_read setting file) (judged_domain setting.chain) (read-tells setting file b) (λ d _ r. judged-domain-tells d r.fits setting.chain))
      (λ d e. let q = ((judged-file setting file d).0 e).0 in record { read = read-good setting file d q; fits = read_fits setting file d b q })
