-- Reading a file unit by unit: one turn of each loop, and its end.
use Prim.Native.Nat.{ℕ, suc, ◌+◌, ◌-◌, ◌≤◌, ◌<◌, zero}
use mathlib.Core.Path.{◌≡◌, refl, sym, ◌∙◌, ap}
use mathlib.Core.Bool.{Bool, true, false, ◌||◌, not, ◌&&◌}
use mathlib.Core.List.{List, [], ◌∷◌, ◌++◌}
use native.Mathlib.Omega.{arith}
use native.Mathlib.Numerals.{add-one}
use native.Mathlib.Nat.{zero-add}
use lib.ListN.{length, get_or, take, drop, length-drop, drop_of_length-le}
use lib.Seq.{drop-cons, take_all}
use lib.Dec.{eqb, leb, leb→le}
use borrow.Author.Tests.{eq-eqb, ne_eqb, le-leb, lt-leb, leb-true, leb-false}
use Rattle.frames.specs.Refusals.{Result, refused, good, unless, then, refusal}
use Rattle.frames.specs.Bytes.{byte, number_at}
use Rattle.frames.specs.Sizes.{short_size, frame_size}
use Rattle.frames.specs.Discovery.{discover_read}
use Rattle.frames.specs.declared.Discovered.{Discovered}
use Rattle.frames.specs.ReportGeneral.{general_read, general_fields, general_fixed}
use Rattle.frames.specs.declared.General.{General}
use Rattle.frames.specs.declared.Refusal.{Refusal}
use Rattle.frames.specs.declared.Response.{Response}
use Rattle.frames.specs.declared.Response.TheVariants.{ReportGeneral, Discover as DiscoverResponse}
use Rattle.frames.proofs.LongFrames.{size-least}
use Rattle.files.specs.declared.Setting.{Setting}
use Rattle.files.specs.Settings.{within, in_range}
use Rattle.files.specs.declared.ExpanderUnit.{ExpanderUnit}
use Rattle.files.specs.declared.Phy.{Phy}
use Rattle.files.specs.Lists.{any, is_in}
use Rattle.files.specs.Domain.{Expander, Domain}
use Rattle.files.specs.File.{parsed, placed, size_at, frame_at, phy_of, phy_unit, phy_units, unit_of, unit_tested, expander_unit, expander_of, expanders, header_unit, domain_read}
use Rattle.files.specs.declared.Parsed.{Parsed}
use Rattle.files.specs.Rows.{count_of}
use Rattle.files.specs.UnitAnswers.{phys_next, ends_at, expander_checked}
use Rattle.files.proofs.ListMembers.{by-test}
use Rattle.files.proofs.CallResults.{never, good-one, then-good, unless-good}

-- a number among those that are left
module _ (a i : ℕ) (s : List ℕ) where
  in_next : (b : Bool) → i < length s → eqb a (get_or s i 0) ≡ b → is_in a (drop i s) ≡ (b || is_in a (drop (i + 1) s))
  unfolding is_in any
  in_next b h q = rw (drop-cons s i 0 h, add-one, q)

  in_none : length s ≤ i → is_in a (drop i s) ≡ false
  unfolding is_in any
  in_none h = simp (drop_of_length-le s h)

  -- a turn of the loop that finds it, one that goes on, and the end
  module _ {v : Bool} (inv : is_in a (drop i s) ≡ v) where
    pub in_stop : a ≡ get_or s i 0 → i < length s → true ≡ v
    in_stop e h = sym (in_next true h (eq-eqb _ _ e)) ∙ inv

    pub in_go : (a ≡ get_or s i 0 → ⊥) → i < length s → is_in a (drop (i + 1) s) ≡ v
    in_go e h = sym (in_next false h (ne_eqb _ _ e)) ∙ inv

    pub in_end : length s ≤ i → false ≡ v
    in_end h = sym (in_none h) ∙ inv

next_more : (φ : Phy) (r : Result (Parsed (List Phy))) → phys_next (then r (λ us. good (parsed (φ ∷ us.value) us.next))) ≡ phys_next r
next_more φ (refused r) = refl
next_more φ (good us) = refl

-- the phys that are left
module _ (file : List ℕ) (own_address i n p at : ℕ) where
  phys-next : (u : Result (Parsed Phy)) → phy_unit file own_address i p at ≡ u → p < n
      → phy_units file own_address i (n - p) p at
      ≡ then u (λ u. then (phy_units file own_address i (n - (p + 1)) (p + 1) u.next) (λ us. good (parsed (u.value ∷ us.value) us.next)))
  unfolding phy_units
  phys-next u q h = let e : n - p ≡ suc (n - (p + 1)) = omega arith in simp (e, q)

  phys-none : n ≤ p → phy_units file own_address i (n - p) p at ≡ good (parsed [] at)
  unfolding phy_units
  phys-none h = let e : n - p ≡ 0 = omega arith in rw e

  module _ {v : Result ℕ} (inv : phys_next (phy_units file own_address i (n - p) p at) ≡ v) where
    pub phys-stop : {r : Refusal} → phy_unit file own_address i p at ≡ refused r → p < n → refused r ≡ v
    phys-stop q h = sym (ap phys_next (phys-next _ q h)) ∙ inv

    pub phys-go : {φ : Phy} {next : ℕ} → phy_unit file own_address i p at ≡ good (parsed φ next) → p < n → phys_next (phy_units file own_address i (n - (p + 1)) (p + 1) next) ≡ v
    phys-go {φ} {next} q h = sym (ap phys_next (phys-next _ q h) ∙ next_more φ (phy_units file own_address i (n - (p + 1)) (p + 1) next)) ∙ inv

    pub phys-end : n ≤ p → good at ≡ v
    phys-end h = sym (ap phys_next (phys-none h)) ∙ inv

-- the number of expanders, i of them read before
abbrev pub count_from : ℕ → Domain → Result ℕ
count_from i d = good (i + length d)

pub count-all : (r : Result Domain) → then r (count_from 0) ≡ then r count_of
count-all (refused r) = refl
count-all (good d) = ap good (zero-add (length d))

count-more : (i : ℕ) (e : Expander) (r : Result Domain) → then (then r (λ d. good (e ∷ d))) (count_from i) ≡ then r (count_from (i + 1))
count-more i e (refused r) = refl
count-more i e (good d) = ap good (omega arith)

-- one expander and those after it: `after` reads these, from a place and an address on
module _ (i : ℕ) (after : ℕ → ℕ → Result Domain) where
  abbrev phys-whole : ExpanderUnit → Result (Parsed (List Phy)) → Result Domain
  phys-whole u y = then y (λ φs. then (after φs.next u.address) (λ d. good (expander_of u φs.value ∷ d)))

  stop-phys : (u : ExpanderUnit) (y : Result (Parsed (List Phy))) (r : Refusal) → then (phys_next y) (λ next. good (parsed u next)) ≡ refused r
      → then (phys-whole u y) (count_from i) ≡ refused r
  stop-phys u (refused q) r e = cc
  stop-phys u (good φs) r e = never r (parsed u φs.next) (sym e)

  go-phys : (u h : ExpanderUnit) (next : ℕ) (y : Result (Parsed (List Phy))) → then (phys_next y) (λ next. good (parsed u next)) ≡ good (parsed h next)
      → then (phys-whole u y) (count_from i) ≡ then (after next h.address) (count_from (i + 1))
  go-phys u h next (refused q) e = never q (parsed h next) e
  go-phys u h next (good φs) e =
      let q : parsed u φs.next ≡ parsed h next = cc in
      let a : u ≡ h = ap (λ (z : Parsed ExpanderUnit). z.value) q in
      let b : φs.next ≡ next = ap (λ (z : Parsed ExpanderUnit). z.next) q in
      rw (a, b) (count-more i (expander_of h φs.value) (after next h.address))

  module _ (phys : Parsed ExpanderUnit → Result (Parsed (List Phy))) where
    stop-unit : (x : Result (Parsed ExpanderUnit)) (r : Refusal) → then x (λ u. then (phys_next (phys u)) (λ next. good (parsed u.value next))) ≡ refused r
        → then (then x (λ u. phys-whole u.value (phys u))) (count_from i) ≡ refused r
    stop-unit (refused q) r e = cc
    stop-unit (good u) r e = stop-phys u.value (phys u) r e

    go-unit : (x : Result (Parsed ExpanderUnit)) (h : ExpanderUnit) (next : ℕ)
        → then x (λ u. then (phys_next (phys u)) (λ next. good (parsed u.value next))) ≡ good (parsed h next)
        → then (then x (λ u. phys-whole u.value (phys u))) (count_from i) ≡ then (after next h.address) (count_from (i + 1))
    go-unit (refused q) h next e = never q (parsed h next) e
    go-unit (good u) h next e = go-phys u.value h next (phys u) e

-- the expanders that are left
module _ (most : Setting) (file : List ℕ) (n i at : ℕ) (used : List ℕ) where
  module _ {v : Result ℕ} (inv : then (expanders most file (n - i) i at used) (count_from i) ≡ v) where
    pub expander-stop : {r : Refusal} → expander_checked most file used i at ≡ refused r → i < n → refused r ≡ v
    unfolding expanders expander_checked
    expander-stop {r} q h =
        let e : n - i ≡ suc (n - (i + 1)) = omega arith in
        let inv' = rw e at inv in
        sym (stop-unit i (λ next own_address. expanders most file (n - (i + 1)) (i + 1) next (used ++ (own_address ∷ [])))
        (λ u. phy_units file u.value.address i u.value.phys 0 u.next) (expander_unit most file used i at) r q) ∙ inv'

    pub expander-go : {h : ExpanderUnit} {next : ℕ} → expander_checked most file used i at ≡ good (parsed h next) → i < n
        → then (expanders most file (n - (i + 1)) (i + 1) next (used ++ (h.address ∷ []))) (count_from (i + 1)) ≡ v
    unfolding expanders expander_checked
    expander-go {h} {next} q l =
        let e : n - i ≡ suc (n - (i + 1)) = omega arith in
        let inv' = rw e at inv in
        sym (go-unit i (λ next own_address. expanders most file (n - (i + 1)) (i + 1) next (used ++ (own_address ∷ [])))
        (λ u. phy_units file u.value.address i u.value.phys 0 u.next) (expander_unit most file used i at) h next q) ∙ inv'

    pub expanders-end : n ≡ i → at ≡ length file → good n ≡ v
    unfolding expanders
    expanders-end e a =
        let z : n - i ≡ 0 = omega arith in
        let k : i + 0 ≡ n = omega arith in
        sym (simp (z, eq-eqb _ _ a, k)) ∙ inv

    pub expanders-more : n ≡ i → (at ≡ length file → ⊥) → refused (refusal 1 n 0) ≡ v
    unfolding expanders
    expanders-more e a =
        let z : n - i ≡ 0 = omega arith in
        sym (simp (z, ne_eqb _ _ a) (ap (λ (k : ℕ). refused (refusal 1 k 0)) (sym e))) ∙ inv

-- a file, by what the tests of the setting and of its first two bytes answer
pub file-by : (most : Setting) (file : List ℕ) {o a b c : Bool} → in_range most ≡ o → leb 2 (length file) ≡ a → eqb (byte file 0) 0x10 ≡ b
    → within most.expanders (byte file 1) ≡ c
    → then (domain_read most file) count_of
    ≡ then (unless o (refusal 22 0 0) (then (unless a (refusal 1 0 0) (unless b (refusal 2 0 0) (unless c (refusal 3 0 0) (good (byte file 1))))) (λ n. expanders most file n 0 2 []))) count_of
unfolding domain_read header_unit
file-by most file s p q r = rw (s, p, q, r)

-- n bytes are there from offset a on
pub bytes-there : (a n l : ℕ) → a ≤ l → leb n (l - a) ≡ leb (a + n) l
bytes-there a n l h = by-test (leb n (l - a))
    (λ q. q ∙ sym (le-leb (a + n) l (omega (arith, leb-true n (l - a) q))))
    (λ q. q ∙ sym (lt-leb (a + n) l (omega (arith, leb-false n (l - a) q))))

-- all bytes from an offset on
pub rest-whole : (file : List ℕ) (from : ℕ) → take (length file - from) (drop from file) ≡ drop from file
rest-whole file from = let l = length-drop from file in take_all (length file - from) (drop from file) (omega arith)

-- a frame whose size was found, and that is whole
pub record WholeFrame (kind : Response) (s : List ℕ) (n : ℕ) : Type 0 where
  pub size : frame_size kind s ≡ good n
  pub bytes : n ≤ length s

-- the size of a frame in a file
module _ (kind : Response) (file : List ℕ) (from : ℕ) where
  -- fewer than four bytes
  pub size-cut : length file < from + 4 → size_at kind file from ≡ refused (refusal 1 0 0)
  unfolding size_at frame_size
  size-cut h = let l : length (drop from file) ≡ length file - from = length-drop from file in simp (lt-leb 4 (length (drop from file)) (omega arith))

  pub size-refused : (r : Refusal) → frame_size kind (drop from file) ≡ refused r → size_at kind file from ≡ refused r
  unfolding size_at
  size-refused r e = rw e

  -- by whether its bytes are there
  pub size-by : (n : ℕ) {b : Bool} → frame_size kind (drop from file) ≡ good n → from ≤ length file → leb (from + n) (length file) ≡ b
      → size_at kind file from ≡ unless b (refusal 1 0 0) (good n)
  unfolding size_at
  size-by n e h q =
      let t : leb n (length (drop from file)) ≡ _ = ap (leb n) (length-drop from file) ∙ bytes-there from n (length file) h ∙ q in
      simp (e, t)

  pub size-whole : (n : ℕ) → size_at kind file from ≡ good n → WholeFrame kind (drop from file) n
  unfolding size_at
  size-whole n e =
      let a = then-good (frame_size kind (drop from file)) _ n e in
      let b = unless-good (leb a.0 (length (drop from file))) (refusal 1 0 0) (good a.0) n a.2 in
      let k = good-one a.0 n b.1 in
      record { size = a.1 ∙ ap good k; bytes = omega (arith, leb→le a.0 (length (drop from file)) b.0) }

  pub size-within : (n : ℕ) → size_at kind file from ≡ good n → (short_size ReportGeneral ≤ n) × (from + n ≤ length file)
  size-within n e =
      let w = size-whole n e in
      let l = length-drop from file in
      let m = size-least kind (drop from file) n w.size in
      let k = shortest kind in
      (omega arith, omega (arith, w.bytes))
    where
      shortest : (kind : Response) → short_size ReportGeneral ≤ short_size kind
      shortest ReportGeneral = omega arith
      shortest DiscoverResponse = omega arith

-- a unit with its frame at offset `from`: the frame is read, and then its fields are tested
module _ {A B : Type 0} (kind : Response) (read : List ℕ → Result A) (test : A → Result B) (i p : ℕ) (file : List ℕ) (from : ℕ) where
  abbrev pub unit_at : Result (Parsed B)
  unit_at = then (placed i p (frame_at kind read file from)) (λ f. then (test f.value) (λ u. good (parsed u f.next)))

  -- by what finding the size of the frame and reading it answer
  pub unit-cut : (r : Refusal) → size_at kind file from ≡ refused r → unit_at ≡ refused (refusal r.number i p)
  unit-cut r e = rw e

  pub unit-by : (n : ℕ) (x : Result A) → size_at kind file from ≡ good n → read (take n (drop from file)) ≡ x
      → unit_at ≡ then (placed i p x) (λ v. then (test v) (ends_at (from + n)))
  unit-by n (refused r) e q = rw (e, q)
  unit-by n (good v) e q = rw (e, q)

module _ (file : List ℕ) (own_address i p at : ℕ) where
  pub phy-unit-by : (n : ℕ) (x : Result Discovered) → size_at DiscoverResponse file at ≡ good n → discover_read (take n (drop at file)) ≡ x
      → phy_unit file own_address i p at ≡ then (placed i p x) (λ f. then (phy_of own_address i p f) (ends_at (at + n)))
  unfolding phy_unit
  phy-unit-by = unit-by DiscoverResponse discover_read (phy_of own_address i p) i p file at

module _ (most : Setting) (file used : List ℕ) (i at own_address : ℕ) (o : number_at file at 8 ≡ own_address) where
  pub expander-unit-cut : (r : Refusal) → size_at ReportGeneral file (at + 8) ≡ refused r → expander_unit most file used i at ≡ refused (refusal r.number i 0)
  unfolding expander_unit
  expander-unit-cut r e = rw o (unit-cut ReportGeneral general_read (λ g. unit_tested most used i (unit_of own_address g)) i 0 file (at + 8) r e)

  pub expander-unit-by : (n : ℕ) (x : Result General) → size_at ReportGeneral file (at + 8) ≡ good n → general_read (take n (drop (at + 8) file)) ≡ x
      → expander_unit most file used i at ≡ then (placed i 0 x) (λ g. then (unit_tested most used i (unit_of own_address g)) (ends_at (at + 8 + n)))
  unfolding expander_unit
  expander-unit-by n x e q = rw o (unit-by ReportGeneral general_read (λ g. unit_tested most used i (unit_of own_address g)) i 0 file (at + 8) n x e q)

-- what is read of REPORT GENERAL
pub general-is : (s : List ℕ) (g : General) → general_read s ≡ good g → general_fields s ≡ g
unfolding general_read
general-is s g e =
    let a = then-good (frame_size ReportGeneral s) _ g e in
    let b = unless-good (eqb (length s) a.0) (refusal 1 0 0) _ g a.2 in
    let c = unless-good (general_fixed s) (refusal 2 0 0) (good (general_fields s)) g b.1 in
    good-one (general_fields s) g c.1

-- the tests of an expander's fields yield the fields
pub tested-same : (most : Setting) (used : List ℕ) (i : ℕ) (v u : ExpanderUnit) → unit_tested most used i v ≡ good u → v ≡ u
tested-same most used i v u t =
    let a = unless-good (within most.phys v.phys) (refusal 3 i 0) _ u t in
    let b = unless-good (not (eqb v.address 0) && not (is_in v.address used)) (refusal 4 i 0) (good v) u a.1 in
    good-one v u b.1

-- as many phys as were counted
module _ (file : List ℕ) (own_address i : ℕ) where
  pub phys-count : (count p at : ℕ) (us : Parsed (List Phy)) → phy_units file own_address i count p at ≡ good us → length us.value ≡ count
  unfolding phy_units
  phys-count zero p at us e = sym (ap (λ (v : Parsed (List Phy)). length v.value) (good-one (parsed [] at) us e))
  phys-count (suc count) p at us e =
      let one = then-good (phy_unit file own_address i p at) _ us e in
      let u = one.0 in
      let more = then-good (phy_units file own_address i count (p + 1) u.next) _ us one.2 in
      let tail = more.0 in
      let q = good-one (parsed (u.value ∷ tail.value) tail.next) us more.2 in
      sym (ap (λ (v : Parsed (List Phy)). length v.value) q) ∙ ap suc (phys-count count (p + 1) u.next tail more.1)
