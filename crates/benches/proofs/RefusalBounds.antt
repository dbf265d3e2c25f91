-- The expander of a refusal is at most the number of expanders: with the first's count added it is still a byte.
use Prim.Native.Nat.{ℕ, zero, suc, ◌+◌, ◌≤◌}
use mathlib.Core.Path.{◌≡◌, refl, subst}
use mathlib.Core.Bool.{Bool, true, false, cond, not, ◌&&◌}
use mathlib.Core.List.{List, [], ◌∷◌, ◌++◌}
use native.Mathlib.Omega.{arith}
use lib.ListN.{length}
use lib.Dec.{T, eqb, leb, leb→le}
use Rattle.frames.specs.Bytes.{byte, number_at}
use Rattle.frames.specs.Refusals.{Result, refused, good, unless, then, refusal}
use Rattle.frames.specs.ReportGeneral.{general_read}
use Rattle.frames.specs.Discovery.{discover_read}
use Rattle.frames.specs.declared.Discovered.{Discovered}
use Rattle.frames.specs.declared.Discovered.TheVariants.{Vacant as vacant, Fields as fields}
use Rattle.frames.specs.declared.Refusal.{Refusal}
use Rattle.frames.specs.declared.Response.TheVariants.{ReportGeneral, Discover}
use Rattle.files.specs.declared.Setting.{Setting}
use Rattle.files.specs.Lists.{numbers, up_to, is_in}
use Rattle.files.specs.Settings.{within, in_range}
use Rattle.files.specs.Domain.{Domain}
use Rattle.files.specs.File.{placed, frame_at, fields_of, ranged, phy_of, phy_unit, phy_units, unit_of, unit_tested, expander_unit, expanders, header_unit, domain_read}
use Rattle.wiring.specs.phys.PhyCauses.{Place, phy_places, places_from, places, first_in, first_of, unanswered, claimed, clashing, fixed, wired_domain}
use Rattle.wiring.specs.graph.LongChains.{unlong, chains_within}
use Rattle.wiring.specs.graph.Neighbours.{neighbours}
use Rattle.wiring.specs.graph.Graph.{loopfree}
use Rattle.wiring.specs.graph.LinkCauses.{unlooped, joined, joined_in, linked_domain}
use Rattle.files.proofs.ReadDomain.{read-good}
use Rattle.files.proofs.ListMembers.{tests}
use Rattle.files.proofs.SettingRanges.{range_iff}
use Rattle.files.proofs.CallResults.{unless-good, good-one}
use Rattle.tables.specs.JudgingCall.{overlong, judged_domain, judged}

-- a refusal names an expander up to n
abbrev pub UpTo : {A : Type 0} → ℕ → Result A → Type 0
UpTo n (refused r) = r.expander.0 ≤ n
UpTo n (good a) = Unit {0}

module _ {A : Type 0} (n : ℕ) where
  up-unless : (b : Bool) (r : Refusal) (x : Result A) → r.expander.0 ≤ n → UpTo n x → UpTo n (unless b r x)
  up-unless true r x h k = k
  up-unless false r x h k = h

  up_when : (b : Bool) (r : Refusal) (x : Result A) → r.expander.0 ≤ n → (T b → UpTo n x) → UpTo n (unless b r x)
  up_when true r x h k = k tt
  up_when false r x h k = h

  up-placed : (i p : ℕ) (x : Result A) → i ≤ n → UpTo n (placed i p x)
  up-placed i p (refused r) h = h
  up-placed i p (good a) h = tt

  pub up-refused : (x : Result A) (r : Refusal) → UpTo n x → x ≡ refused r → r.expander.0 ≤ n
  up-refused x r h e = subst (UpTo n) e h

module _ {A B : Type 0} (n : ℕ) where
  up-then : (x : Result A) (k : A → Result B) → UpTo n x → ((a : A) → x ≡ good a → UpTo n (k a)) → UpTo n (then x k)
  up-then (refused r) k h f = h
  up-then (good a) k h f = f a refl

-- units of a file
phy_of-up : (n own_address i p : ℕ) (f : Discovered) → i ≤ n → UpTo n (phy_of own_address i p f)
phy_of-up n own_address i p (vacant r) h = tt
phy_of-up n own_address i p (fields f) h =
    up-unless n (eqb f.identifier.0 p && eqb f.own_address own_address) (refusal 5 i p) _ h (up-unless n (ranged (fields_of (eqb f.device_type 0) f)) (refusal 6 i p) _ h tt)

module _ (file : List ℕ) (n own_address i : ℕ) (h : i ≤ n) where
  phy_unit-up : (p at : ℕ) → UpTo n (phy_unit file own_address i p at)
  unfolding phy_unit
  phy_unit-up p at =
      up-then n (placed i p (frame_at Discover discover_read file at)) _ (up-placed n i p (frame_at Discover discover_read file at) h) (λ f _.
      up-then n (phy_of own_address i p f.value) _ (phy_of-up n own_address i p f.value h) (λ φ _. tt))

  phy_units-up : (count p at : ℕ) → UpTo n (phy_units file own_address i count p at)
  unfolding phy_units
  phy_units-up zero p at = tt
  phy_units-up (suc count) p at =
      up-then n (phy_unit file own_address i p at) _ (phy_unit-up p at) (λ u _.
      up-then n (phy_units file own_address i count (p + 1) u.next) _ (phy_units-up count (p + 1) u.next) (λ us _. tt))

module _ (most : Setting) (file : List ℕ) where
  expander_unit-up : (n i at : ℕ) (used : List ℕ) → i ≤ n → UpTo n (expander_unit most file used i at)
  unfolding expander_unit
  expander_unit-up n i at used h =
      let own_address = number_at file at 8 in
      up-then n (placed i 0 (frame_at ReportGeneral general_read file (at + 8))) _ (up-placed n i 0 (frame_at ReportGeneral general_read file (at + 8)) h) (λ g _.
      let u = unit_of own_address g.value in
      up-then n (unit_tested most used i u) _
      (up-unless n (within most.phys u.phys) (refusal 3 i 0) _ h (up-unless n (not (eqb u.address 0) && not (is_in u.address used)) (refusal 4 i 0) (good u) h tt)) (λ v _. tt))

  expanders-up : (count n i at : ℕ) (used : List ℕ) → i + count ≤ n → UpTo n (expanders most file count i at used)
  unfolding expanders
  expanders-up zero n i at used h = up-unless n (eqb at (length file)) (refusal 1 i 0) (good []) (omega arith) tt
  expanders-up (suc count) n i at used h =
      up-then n (expander_unit most file used i at) _ (expander_unit-up n i at used (omega arith)) (λ u _.
      up-then n (phy_units file u.value.address i u.value.phys 0 u.next) _ (phy_units-up file n u.value.address i (omega arith) u.value.phys 0 u.next) (λ φs _.
      up-then n (expanders most file count (i + 1) φs.next (used ++ (u.value.address ∷ []))) _ (expanders-up count n (i + 1) φs.next (used ++ (u.value.address ∷ [])) (omega arith)) (λ d _. tt)))

  header_few : (k : ℕ) → header_unit most file ≡ good k → k ≤ most.expanders
  unfolding header_unit
  header_few k e =
      let a = unless-good (leb 2 (length file)) (refusal 1 0 0) _ k e in
      let b = unless-good (eqb (byte file 0) 0x10) (refusal 2 0 0) _ k a.1 in
      let c = unless-good (within most.expanders (byte file 1)) (refusal 3 0 0) (good (byte file 1)) k b.1 in
      let q = good-one (byte file 1) k c.1 in
      let w = c.0 in
      let l = leb→le (byte file 1) most.expanders (search tests) in
      omega arith

  read_up : UpTo 64 (domain_read most file)
  unfolding domain_read header_unit
  read_up =
      up_when 64 (in_range most) (refusal 22 0 0) _ (omega arith) (λ t.
      up-then 64 (header_unit most file) _
      (up-unless 64 (leb 2 (length file)) (refusal 1 0 0) _ (omega arith)
      (up-unless 64 (eqb (byte file 0) 0x10) (refusal 2 0 0) _ (omega arith)
      (up-unless 64 (within most.expanders (byte file 1)) (refusal 3 0 0) (good (byte file 1)) (omega arith) tt)))
      (λ k e. let f = header_few k e in let g = ((range_iff most).0 t).expanders.1 in expanders-up k 64 0 2 [] (omega arith)))

-- places of a domain
abbrev Placed : ℕ → List Place → Type 0
Placed n [] = Unit {0}
Placed n (q ∷ qs) = (q.expander ≤ n) × Placed n qs

placed-append : (n : ℕ) (qs rs : List Place) → Placed n qs → Placed n rs → Placed n (qs ++ rs)
placed-append n [] rs a b = b
placed-append n (q ∷ qs) rs a b = (a.0, placed-append n qs rs a.1 b)

phys-placed : (n i p count : ℕ) → i ≤ n → Placed n (phy_places i p count)
unfolding phy_places
phys-placed n i p zero h = tt
phys-placed n i p (suc count) h = (h, phys-placed n i (p + 1) count h)

from-placed : (n i : ℕ) (d : Domain) → i + length d ≤ n → Placed n (places_from i d)
unfolding places_from
from-placed n i [] h = tt
from-placed n i (e ∷ d) h = placed-append n (phy_places i 0 (length e.phys)) (places_from (i + 1) d) (phys-placed n i 0 (length e.phys) (omega arith)) (from-placed n (i + 1) d (omega arith))

first-up : (n k : ℕ) (test : ℕ → ℕ → Bool) (qs : List Place) (d : Domain) → Placed n qs → UpTo n (first_in k test qs d)
unfolding first_in
first-up n k test [] d h = tt
first-up n k test (q ∷ qs) d h = go (test q.expander q.phy) (first-up n k test qs d h.1)
  where
    go : (b : Bool) → UpTo n (first_in k test qs d) → UpTo n (cond b (refused (refusal k q.expander q.phy)) (first_in k test qs d))
    go true r = h.0
    go false r = r

joined-up : (n i count : ℕ) (d : Domain) → i + count ≤ n → UpTo n (joined_in (numbers i count) d)
unfolding joined_in numbers
joined-up n i zero d h = tt
joined-up n i (suc count) d h = go (joined d i) (joined-up n (i + 1) count d (omega arith))
  where
    go : (b : Bool) → UpTo n (joined_in (numbers (i + 1) count) d) → UpTo n (cond b (joined_in (numbers (i + 1) count) d) (refused (refusal 12 i 0)))
    go true r = r
    go false r = omega arith

domain-up : (n chain : ℕ) (d : Domain) → length d ≤ n → UpTo n (judged_domain chain d)
unfolding judged_domain wired_domain linked_domain unlooped unlong
domain-up n chain d h =
    let qs = from-placed n 0 d (omega arith) in
    up-then n (wired_domain d) _
    (up-then n (first_of 7 (unanswered d) d) _ (first-up n 7 (unanswered d) (places d) d qs) (λ _ _.
    up-then n (first_of 8 (claimed d) d) _ (first-up n 8 (claimed d) (places d) d qs) (λ _ _.
    up-then n (first_of 9 (clashing d) d) _ (first-up n 9 (clashing d) (places d) d qs) (λ _ _.
    first-up n 10 (fixed d) (places d) d qs))))
    (λ _ _. up-then n (linked_domain chain d) _
    (up-then n (unlooped d) _ (up-unless n (loopfree (length d) (neighbours d)) (refusal 11 0 0) (good d) (omega arith) tt) (λ _ _.
    up-then n (joined_in (up_to (length d)) d) _ (joined-up n 0 (length d) d (omega arith)) (λ _ _.
    up-unless n (chains_within chain d) (refusal 23 0 0) (good d) (omega arith) tt)))
    (λ _ _. first-up n 14 (overlong d) (places d) d qs))

-- a file is refused at an expander up to 64
pub judged-up : (setting : Setting) (file : List ℕ) → UpTo 64 (judged setting file)
judged-up setting file =
    up-then 64 (domain_read setting file) (judged_domain setting.chain) (read_up setting file) (λ d e.
    let g = read-good setting file d e in
    let f = g.few in
    let m = g.range.expanders.1 in
    domain-up 64 setting.chain d (omega arith))
