-- A file that was read under one setting, and the file and the card of its domain, read alike under any other setting: as that domain, or with
-- the same refusal at the same place.
use Prim.Native.Nat.{ℕ, zero, suc, ◌+◌}
use mathlib.Core.Path.{◌≡◌, refl, sym, ◌∙◌, ap, subst}
use mathlib.Core.Logic.{◌⊎◌, inl, inr}
use mathlib.Core.Bool.{Bool, true, false}
use mathlib.Core.List.{List, [], ◌∷◌, ◌++◌}
use lib.ListN.{length}
use lib.Dec.{eqb, leb}
use borrow.Author.Tests.{ne_eqb}
use Rattle.frames.specs.Bytes.{byte, number_at}
use Rattle.frames.specs.Refusals.{Result, refused, good, unless, then, refusal}
use Rattle.frames.specs.ReportGeneral.{general_read}
use Rattle.frames.specs.declared.Refusal.{Refusal}
use Rattle.frames.specs.declared.General.{General}
use Rattle.frames.specs.declared.Response.TheVariants.{ReportGeneral}
use Rattle.frames.proofs.FrameRefusals.{Numbered, numbered-unless, numbered-then}
use Rattle.files.specs.declared.Setting.{Setting}
use Rattle.files.specs.declared.ExpanderUnit.{ExpanderUnit}
use Rattle.files.specs.declared.Phy.{Phy}
use Rattle.files.specs.Lists.{In, Distinct}
use Rattle.files.specs.Settings.{within, in_range}
use Rattle.files.specs.Domain.{Expander, Domain}
use Rattle.files.specs.ReadDomain.{ReadPhy, ReadExpander, addresses}
use Rattle.files.specs.File.{parsed, placed, frame_at, phy_units, unit_of, unit_tested, expander_unit, expander_of, expanders, header_unit, domain_read}
use Rattle.files.specs.declared.Parsed.{Parsed}
use Rattle.files.proofs.CallResults.{good-one, unless-good, good-unless, then-good}
use Rattle.files.proofs.ReadDomain.{read-good, stated-expanders}
use Rattle.files.proofs.UnitReading.{tested-same, phys-count}
use Rattle.cards.specs.Card.{card_of}
use Rattle.cards.specs.CardRead.{unit_fields, phys_tested, units_tested, card_read_by, card_read}
use Rattle.cards.specs.FileOf.{file_of}
use Rattle.cards.proofs.DomainRanges.{Legal}
use Rattle.cards.proofs.CardRoundTrip.{card-gives, card-formed}
use Rattle.cards.proofs.CardDomain.{units_pass}
use Rattle.cards.proofs.FileRoundTrip.{file-of}
use Rattle.cards.proofs.ReadDomainsFit.{phys-tested, Unused, unused_first, unused_next}

-- a domain under a setting: 22, then 3 for the count, then unit by unit
abbrev pub limited : Setting → Domain → Result Domain
limited most d =
    unless (in_range most) (refusal 22 0 0)
    (unless (within most.expanders (length d)) (refusal 3 0 0)
    (units_tested most 0 [] d (good d)))

-- it is that domain, or refused
pub limited-same : (most : Setting) (d x : Domain) → limited most d ≡ good x → d ≡ x
limited-same most d x e =
    let o = unless-good (in_range most) (refusal 22 0 0) _ x e in
    let w = unless-good (within most.expanders (length d)) (refusal 3 0 0) _ x o.1 in
    good-one d x (units_pass most 0 [] d (good d) x w.1).0

then-last : (x : Result Domain) → then x good ≡ x
then-last (refused r) = refl
then-last (good d) = refl

then-cons : (x : Result Domain) (e : Expander) (k : Domain → Result Domain) → then (then x (λ d. good (e ∷ d))) k ≡ then x (λ d. k (e ∷ d))
then-cons (refused r) e k = refl
then-cons (good d) e k = refl

then-unless : (b : Bool) (r : Refusal) (n : ℕ) (f : ℕ → Result Domain) → then (unless b r (good n)) f ≡ unless b r (f n)
then-unless true r n f = refl
then-unless false r n f = refl

-- the phys of all expanders are ones that cause 6 leaves
abbrev PhysRead : Domain → Type 0
PhysRead d = (e : Expander) → In e d → (φ : Phy) → In φ e.phys → ReadPhy φ

module _ (one other : Setting) (file : List ℕ) where
  -- an expander's unit is tested for 3 and 4 by the other setting, and nothing else changes
  expander-other : (used : List ℕ) (i at : ℕ) (u : Parsed ExpanderUnit) → expander_unit one file used i at ≡ good u
      → expander_unit other file used i at ≡ then (unit_tested other used i u.value) (λ v. good (parsed v u.next))
  unfolding expander_unit
  expander-other used i at u e =
      let x = placed i 0 (frame_at ReportGeneral general_read file (at + 8)) in
      let f : Parsed General → Result (Parsed ExpanderUnit) = λ g. then (unit_tested other used i (unit_of (number_at file at 8) g.value)) (λ v. good (parsed v g.next)) in
      let g = then-good x _ u e in
      let w = unit_of (number_at file at 8) g.0.value in
      let v = then-good (unit_tested one used i w) _ u g.2 in
      let z : parsed w g.0.next ≡ u = ap (λ y. parsed y g.0.next) (tested-same one used i w v.0 v.1) ∙ good-one (parsed v.0 g.0.next) u v.2 in
      ap (λ y. then y f) g.1 ∙ ap (λ (y : Parsed ExpanderUnit). then (unit_tested other used i y.value) (λ v. good (parsed v y.next))) z

  -- what follows an expander's unit
  abbrev following : ℕ → ℕ → List ℕ → Parsed ExpanderUnit → Result Domain
  following count i used u =
      then (phy_units file u.value.address i u.value.phys 0 u.next) (λ φs.
      then (expanders other file count (i + 1) φs.next (used ++ (u.value.address ∷ []))) (λ d.
      good (expander_of u.value φs.value ∷ d)))

  unit-other : (count i : ℕ) (used : List ℕ) (u : Parsed ExpanderUnit) (φs : Parsed (List Phy)) (k : Domain → Result Domain) (y : Result Domain) (t : Result ExpanderUnit)
      → unit_tested other used i u.value ≡ t → phy_units file u.value.address i u.value.phys 0 u.next ≡ good φs → ((φ : Phy) → In φ φs.value → ReadPhy φ)
      → then (expanders other file count (i + 1) φs.next (used ++ (u.value.address ∷ []))) (λ l. k (expander_of u.value φs.value ∷ l)) ≡ y
      → then (then (then t (λ v. good (parsed v u.next))) (following count i used)) k ≡ then t (λ _. phys_tested i 0 φs.value y)
  unit-other count i used u φs k y (refused r) q p g n = refl
  unit-other count i used u φs k y (good v) q p g n =
      let next : Parsed (List Phy) → Result Domain = λ us. then (expanders other file count (i + 1) us.next (used ++ (u.value.address ∷ []))) (λ d. good (expander_of u.value us.value ∷ d)) in
      ap (λ (w : ExpanderUnit). then (following count i used (parsed w u.next)) k) (sym (tested-same other used i u.value v q))
      ∙ ap (λ z. then (then z next) k) p
      ∙ then-cons (expanders other file count (i + 1) φs.next (used ++ (u.value.address ∷ []))) (expander_of u.value φs.value) k
      ∙ n ∙ sym (phys-tested i 0 φs.value g y)

  expanders-other : (count i at : ℕ) (used : List ℕ) (d : Domain) (k : Domain → Result Domain) → PhysRead d → expanders one file count i at used ≡ good d
      → then (expanders other file count i at used) k ≡ units_tested other i used d (k d)
  unfolding expanders units_tested
  expanders-other zero i at used d k g e =
      let t = unless-good (eqb at (length file)) (refusal 1 i 0) (good []) d e in
      ap (λ x. then x k) (good-unless (eqb at (length file)) (refusal 1 i 0) (good []) t.0) ∙ ap (λ x. units_tested other i used x (k x)) (good-one [] d t.1)
  expanders-other (suc count) i at used d k g e =
      let u = then-good (expander_unit one file used i at) _ d e in
      let a = u.0.value.address in
      let φs = then-good (phy_units file a i u.0.value.phys 0 u.0.next) _ d u.2 in
      let rest = then-good (expanders one file count (i + 1) φs.0.next (used ++ (a ∷ []))) _ d φs.2 in
      let x = expander_of u.0.value φs.0.value in
      let z : x ∷ rest.0 ≡ d = good-one (x ∷ rest.0) d rest.2 in
      let h : PhysRead (x ∷ rest.0) = subst PhysRead (sym z) g in
      let y = units_tested other (i + 1) (used ++ (a ∷ [])) rest.0 (k (x ∷ rest.0)) in
      let n = expanders-other count (i + 1) φs.0.next (used ++ (a ∷ [])) rest.0 (λ l. k (x ∷ l)) (λ v j. h v (inr j)) rest.1 in
      let c : unit_fields x ≡ u.0.value = ap (λ (m : ℕ). record { address = a; route_indexes = x.route_indexes; phys = m; configurable = x.configurable }) (phys-count file a i u.0.value.phys 0 u.0.next φs.0 φs.1) in
      ap (λ v. then (then v (following count i used)) k) (expander-other used i at u.0 u.1)
      ∙ unit-other count i used u.0 φs.0 k y (unit_tested other used i u.0.value) refl φs.1 (h x (inl refl)) n
      ∙ ap (λ (w : ExpanderUnit). then (unit_tested other used i w) (λ _. phys_tested i 0 φs.0.value y)) (sym c)
      ∙ ap (λ l. units_tested other i used l (k l)) z

  header_other : (n : ℕ) → header_unit one file ≡ good n → (byte file 1 ≡ n) × (header_unit other file ≡ unless (within other.expanders n) (refusal 3 0 0) (good n))
  unfolding header_unit
  header_other n e =
      let a = unless-good (leb 2 (length file)) (refusal 1 0 0) _ n e in
      let b = unless-good (eqb (byte file 0) 0x10) (refusal 2 0 0) _ n a.1 in
      let c = unless-good (within one.expanders (byte file 1)) (refusal 3 0 0) (good (byte file 1)) n b.1 in
      let z : byte file 1 ≡ n = good-one (byte file 1) n c.1 in (
        z,
        good-unless (leb 2 (length file)) (refusal 1 0 0) _ a.0 ∙ good-unless (eqb (byte file 0) 0x10) (refusal 2 0 0) _ b.0
            ∙ ap (λ m. unless (within other.expanders m) (refusal 3 0 0) (good m)) z,
      )

  -- a file that reads as a domain under one setting is under another what the domain is
  pub read-other : (d : Domain) → domain_read one file ≡ good d → domain_read other file ≡ limited other d
  unfolding domain_read
  read-other d e =
      let o = unless-good (in_range one) (refusal 22 0 0) _ d e in
      let n = then-good (header_unit one file) _ d o.1 in
      let h = header_other n.0 n.1 in
      let f : ℕ → Result Domain = λ m. expanders other file m 0 2 [] in
      let t = expanders-other n.0 0 2 [] d good (λ x j. ((read-good one file d e).each x j).phys) n.2 in
      let l : n.0 ≡ length d = sym h.0 ∙ sym (stated-expanders one file d e) in
      ap (unless (in_range other) (refusal 22 0 0))
      (ap (λ x. then x f) h.1 ∙ then-unless (within other.expanders n.0) (refusal 3 0 0) n.0 f
      ∙ ap (unless (within other.expanders n.0) (refusal 3 0 0)) (sym (then-last (f n.0)) ∙ t)
      ∙ ap (λ m. unless (within other.expanders m) (refusal 3 0 0) (units_tested other 0 [] d (good d))) l)

-- 22 and 3: the limits of a setting
abbrev pub limit_number : ℕ → Type 0
limit_number n = (n ≡ 22) ⊎ (n ≡ 3)

units-limited : (one other : Setting) (i : ℕ) (used : List ℕ) (d : Domain) → Unused used (addresses d) → Distinct (addresses d) → ((e : Expander) → In e d → ReadExpander one e)
    → (k : Result Domain) → Numbered limit_number k → Numbered limit_number (units_tested other i used d k)
unfolding units_tested
units-limited one other i used [] u v g k h = h
units-limited one other i used (e ∷ d) u v g k h =
    let r = g e (inl refl) in
    let n = units-limited one other (i + 1) (used ++ (e.address ∷ [])) d (unused_next used e.address (addresses d) u v) v.1 (λ x j. g x (inr j)) k h in
    rw (ne_eqb e.address 0 r.borne, unused_first used e.address (addresses d) u)
    (numbered-then limit_number (unless (within other.phys (length e.phys)) (refusal 3 i 0) (good (unit_fields e))) _
    (numbered-unless limit_number (within other.phys (length e.phys)) (refusal 3 i 0) (good (unit_fields e)) (inr refl) tt)
    (λ _. subst (Numbered limit_number) (sym (phys-tested i 0 e.phys r.phys (units_tested other (i + 1) (used ++ (e.address ∷ [])) d k))) n))

-- a file that was read under one setting is refused under another for its limits alone
pub limits_alone : (one other : Setting) (file : List ℕ) (d : Domain) → domain_read one file ≡ good d → Numbered limit_number (domain_read other file)
limits_alone one other file d e =
    let r = read-good one file d e in
    subst (Numbered limit_number) (sym (read-other one other file d e))
    (numbered-unless limit_number (in_range other) (refusal 22 0 0) _ (inl refl)
    (numbered-unless limit_number (within other.expanders (length d)) (refusal 3 0 0) _ (inr refl)
    (units-limited one other 0 [] d (λ a j z. z) r.differ r.each (good d) tt)))

-- as the file, so the file and the card of a domain that a setting leaves
module _ (one other : Setting) (d : Domain) (h : Legal one d) where
  pub file-other : domain_read other (file_of d) ≡ limited other d
  file-other = read-other one other (file_of d) d (file-of one d h)

  pub card-other : card_read other (card_of d) ≡ limited other d
  unfolding card_read
  card-other =
      let next : Domain → Result Domain = λ x. unless (within other.expanders (length x)) (refusal 3 0 0) (units_tested other 0 [] x (good x)) in
      ap (unless (in_range other) (refusal 22 0 0))
      (ap (card_read_by other (card_of d)) (card-gives one d h) ∙ ap (λ b. unless b (refusal 19 0 0) (next d)) (card-formed one d h))
