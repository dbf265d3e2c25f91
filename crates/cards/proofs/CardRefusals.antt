-- When the two card calls answer, and with which numbers they refuse.
use Prim.Native.Nat.{ℕ, ◌+◌, ◌≤◌}
use mathlib.Core.Path.{◌≡◌, refl, ap, subst, ◌∙◌}
use mathlib.Core.Logic.{inl, inr}
use mathlib.Core.Bool.{true, not, ◌&&◌}
use mathlib.Core.List.{List, [], ◌∷◌, ◌++◌}
use native.Mathlib.Omega.{arith}
use lib.ListN.{length}
use lib.Dec.{eqb, leb, leb→le, le→leb}
use borrow.Author.Tests.{le-leb}
use Rattle.frames.specs.Bits.{bits_of}
use Rattle.frames.specs.Refusals.{Result, good, then, refusal, fitting, length_of}
use Rattle.frames.specs.RefusesExactly.{RefusesExactly}
use Rattle.frames.proofs.PackedRows.{bits-bits_of}
use Rattle.frames.proofs.FrameRefusals.{Numbered, numbered-unless, numbered-then, exactly}
use Rattle.files.specs.declared.Setting.{Setting}
use Rattle.files.specs.declared.ExpanderUnit.{ExpanderUnit}
use Rattle.files.specs.declared.Phy.{Phy}
use Rattle.files.specs.declared.Phy.TheVariants.{Vacant, Present}
use Rattle.files.specs.Lists.{In, is_in}
use Rattle.files.specs.Settings.{within, in_range}
use Rattle.files.specs.Domain.{Expander, Domain}
use Rattle.files.specs.ReadDomain.{ReadPhy, ReadExpander}
use Rattle.files.specs.File.{unit_tested, domain_read}
use Rattle.files.proofs.ListMembers.{is_true}
use Rattle.files.proofs.SettingRanges.{range_iff}
use Rattle.files.proofs.CallResults.{unless-good, good-unless, then-good, good-then}
use Rattle.files.proofs.ReadDomain.{read-good, read-numbered}
use Rattle.cards.specs.Card.{card_of, domain_on}
use Rattle.cards.specs.CardRead.{all_fine, formed, phy_ranged, phys_tested, unit_fields, units_tested, card_read}
use Rattle.cards.specs.FileOf.{file_of}
use Rattle.cards.specs.Calls.{card_call, file_call, MadeDone}
use Rattle.cards.specs.CardCauses.{NoCardCause, card_number, RangedPhy, NoFileCause, file_number}
use Rattle.cards.proofs.DomainRanges.{PhyRange, ExpandersRange}
use Rattle.cards.proofs.CardRoundTrip.{formed-is}
use Rattle.cards.proofs.CardDomain.{domain-read, card-holds}
use Rattle.cards.proofs.ReadDomainsFit.{legal-read, range_in, ranges_in, units-tested}

-- a call that reads a domain and then makes bytes of it (16): when it answers, and with which numbers it refuses
module _ (make : Domain → List ℕ) (room : ℕ) (x : Result Domain) where
  abbrev making : Result ℕ
  making = then (then x (λ d. fitting room (make d))) length_of

  making-numbered : (P : ℕ → Type 0) → P 16 → Numbered P x → Numbered P making
  making-numbered P sixteen h =
      numbered-then P (then x (λ d. fitting room (make d))) length_of
      (numbered-then P x (λ d. fitting room (make d)) h (λ d. numbered-unless P (leb (length (make d)) room) (refusal 16 0 0) (good (make d)) sixteen tt)) (λ _. tt)

  making-from : (n : ℕ) → making ≡ good n → (d : Domain) × (x ≡ good d) × (length (make d) ≤ room)
  making-from n e =
      let a = then-good (then x (λ d. fitting room (make d))) length_of n e in
      let b = then-good x (λ d. fitting room (make d)) a.0 a.1 in
      (b.0, b.1, leb→le (length (make b.0)) room (unless-good (leb (length (make b.0)) room) (refusal 16 0 0) (good (make b.0)) a.0 b.2).0)

  making-to : (d : Domain) → x ≡ good d → length (make d) ≤ room → (n : ℕ) × (making ≡ good n)
  making-to d e h =
      let f = good-unless (leb (length (make d)) room) (refusal 16 0 0) (good (make d)) (le→leb (length (make d)) room h) in
      (length (make d), good-then (then x (λ d. fitting room (make d))) length_of (make d) (length (make d)) (good-then x (λ d. fitting room (make d)) d (make d) e f) refl)

-- the call that makes a card of a file answers exactly when none of its causes holds, and refuses with no other number
pub card-exactly : (setting : Setting) (file before after : List ℕ) (answer : Result ℕ) → MadeDone (card_call setting file (length before)) answer before after
    → RefusesExactly answer (NoCardCause setting file (length before)) card_number
unfolding card_call
card-exactly setting file before after answer o =
    let room = length before in
    let x = domain_read setting file in
    exactly card_number answer (making card_of room x) (NoCardCause setting file room) o.answers
    (making-numbered card_of room x card_number (inr refl) (read-numbered setting file card_number (λ n h. inl h)))
    (λ n e. let a = making-from card_of room x n e in record { domain = a.0; range = (read-good setting file a.0 a.1).range; read = a.1; enough = a.2 })
    (λ c. making-to card_of room x c.domain c.read c.enough)

-- reading a card refuses with its numbers
three : file_number 3
three = inr (inr (inl refl))

unit-numbered : (most : Setting) (used : List ℕ) (i : ℕ) (u : ExpanderUnit) → Numbered file_number (unit_tested most used i u)
unit-numbered most used i u =
    numbered-unless file_number (within most.phys u.phys) (refusal 3 i 0) _ three
    (numbered-unless file_number (not (eqb u.address 0) && not (is_in u.address used)) (refusal 4 i 0) (good u) (inr (inr (inr (inl refl)))) tt)

phys-numbered : (i p : ℕ) (φs : List Phy) (k : Result Domain) → Numbered file_number k → Numbered file_number (phys_tested i p φs k)
unfolding phys_tested
phys-numbered i p [] k h = h
phys-numbered i p (φ ∷ φs) k h = numbered-unless file_number (phy_ranged φ) (refusal 6 i p) (phys_tested i (p + 1) φs k) (inr (inr (inr (inr (inl refl))))) (phys-numbered i (p + 1) φs k h)

units-numbered : (most : Setting) (i : ℕ) (used : List ℕ) (d : Domain) (k : Result Domain) → Numbered file_number k → Numbered file_number (units_tested most i used d k)
unfolding units_tested
units-numbered most i used [] k h = h
units-numbered most i used (e ∷ d) k h =
    numbered-then file_number (unit_tested most used i (unit_fields e)) _ (unit-numbered most used i (unit_fields e))
    (λ _. phys-numbered i 0 e.phys _ (units-numbered most (i + 1) (used ++ (e.address ∷ [])) d k h))

read-card-numbered : (most : Setting) (card : List ℕ) → Numbered file_number (card_read most card)
unfolding card_read
read-card-numbered most card =
    let d = domain_on (bits_of card) in
    numbered-unless file_number (in_range most) (refusal 22 0 0) _ (inl refl)
    (numbered-unless file_number (formed card d) (refusal 19 0 0) _ (inr (inl refl))
    (numbered-unless file_number (within most.expanders (length d)) (refusal 3 0 0) _ three (units-numbered most 0 [] d (good d) tt)))

-- what 6 leaves of a phy that was read of bits
read-phy : (φ : Phy) → PhyRange φ → RangedPhy φ → ReadPhy φ
read-phy (Vacant r) h g = λ z. omega (arith, h.0)
read-phy (Present f) h g = record { device_type = g.device_type; attribute = g.attribute; borne = g.borne; bare = h.bare_in }

ranged-phy : (φ : Phy) → ReadPhy φ → RangedPhy φ
ranged-phy (Vacant r) g = tt
ranged-phy (Present f) g = record { device_type = g.device_type; attribute = g.attribute; borne = g.borne }

-- where none of 22, 19, 3, 4 and 6 holds, the card reads as what stands on it
no_cause_read : (setting : Setting) (card : List ℕ) (room : ℕ) (c : NoFileCause setting card room) → card_read setting card ≡ good c.domain
unfolding card_read
no_cause_read setting card room c =
    let d = c.domain in
    let r : ExpandersRange d = subst ExpandersRange c.on (domain-read (bits_of card) (bits-bits_of card) (ap all_fine c.on ∙ c.formed.results)) in
    let each : (e : Expander) → In e d → ReadExpander setting e = λ e k.
    let x = ranges_in d r e k in
    record {
      borne = c.borne e k;
      configurable = omega (arith, x.configurable_in);
      some = (c.phys e k).0;
      few = (c.phys e k).1;
      phys = λ φ j. read-phy φ (range_in e.phys x.phys_in_lem φ j) (c.ranged e k φ j);
    } in
    let i : in_range setting ≡ true = is_true (in_range setting) ((range_iff setting).1 c.range) in
    let w : within setting.expanders (length d) ≡ true = rw (le-leb 1 (length d) c.expanders.0, le-leb (length d) setting.expanders c.expanders.1) in
    rw (i, c.on, formed-is card d c.formed, w) (units-tested setting 0 [] d (λ a j z. z) c.differ each (good d))

-- the call that makes a file of a card answers exactly when none of its causes holds, and refuses with no other number
pub file-exactly : (setting : Setting) (card before after : List ℕ) (answer : Result ℕ) → MadeDone (file_call setting card (length before)) answer before after
    → RefusesExactly answer (NoFileCause setting card (length before)) file_number
unfolding file_call
file-exactly setting card before after answer o =
    exactly file_number answer (making file_of room x) (NoFileCause setting card room) o.answers
    (making-numbered file_of room x file_number sixteen (read-card-numbered setting card)) from (λ c. making-to file_of room x c.domain (no_cause_read setting card room c) c.enough)
  where
    room : ℕ
    room = length before

    x : Result Domain
    x = card_read setting card

    sixteen : file_number 16
    sixteen = inr (inr (inr (inr (inr refl))))

    from : (n : ℕ) → making file_of room x ≡ good n → NoFileCause setting card room
    from n e =
        let a = making-from file_of room x n e in
        let c = card-holds setting card a.0 a.1 in
        let r = legal-read setting a.0 c.legal in
        record {
          domain = a.0;
          on = c.on;
          range = r.range;
          formed = c.formed;
          expanders = (r.some, r.few);
          phys = λ e k. ((r.each e k).some, (r.each e k).few);
          borne = λ e k. (r.each e k).borne;
          differ = r.differ;
          ranged = λ e k φ j. ranged-phy φ ((r.each e k).phys φ j);
          enough = a.2;
        }
