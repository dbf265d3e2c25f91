-- Bit 63 of the answers of the calls that make a card of a file, a file of a card, and a file of an exercise.
use Prim.Native.Nat.{ℕ, ◌+◌, ◌*◌, ◌^◌, ◌≤◌, ◌<◌}
use mathlib.Core.Path.{◌≡◌, refl, sym, subst}
use mathlib.Core.Logic.{inl, inr, ⊎_elim}
use mathlib.Core.Bool.{not}
use mathlib.Core.List.{List, [], ◌∷◌, ◌++◌}
use native.Mathlib.Omega.{arith}
use lib.ListN.{length, length-append, length-map}
use lib.Dec.{leb, T_not}
use borrow.Author.Tests.{leb-true}
use Rattle.frames.specs.Bits.{bits_of}
use Rattle.frames.specs.Refusals.{Result, good, then, refusal, fitting, length_of}
use Rattle.files.specs.declared.Setting.{Setting}
use Rattle.files.specs.declared.Phy.{Phy}
use Rattle.files.specs.Lists.{In}
use Rattle.files.specs.Settings.{within, in_range}
use Rattle.files.specs.Domain.{Expander, Domain}
use Rattle.files.specs.ReadDomain.{Bytes}
use Rattle.files.specs.File.{unit_tested, domain_read}
use Rattle.files.proofs.CallResults.{both}
use Rattle.files.proofs.ListMembers.{was_true}
use Rattle.files.proofs.SettingRanges.{range_iff}
use Rattle.cards.specs.Card.{expanders_size, card_of, domain_on}
use Rattle.cards.specs.CardRead.{formed, phy_ranged, phys_tested, unit_fields, units_tested, card_read}
use Rattle.cards.specs.FileOf.{phys_frames, unit_head, units_of, file_of}
use Rattle.cards.specs.Calls.{card_for, card_call, file_for, file_call}
use Rattle.cards.proofs.CallOutcomes.{length-card}
use Rattle.cards.proofs.CardPlaces.{sizes-few}
use Rattle.cards.proofs.CardDomain.{card-holds}
use Rattle.cards.proofs.FilePuts.{length-file}
use Rattle.cards.proofs.FileRoundTrip.{length-frames, length-head}
use Rattle.cards.proofs.ReadDomainsFit.{legal-read, legal-fits}
use Rattle.exercises.specs.Rig.{trimmed, drive, made, no_rig}
use Rattle.exercises.specs.Call.{make_call}
use Rattle.exercises.proofs.Exercise.{makable}
use Rattle.exports.specs.Packing.{number}
use Rattle.exports.specs.AnswerParts.{Itself}
use Rattle.exports.specs.RefusalBit.{ToldApart}
use Rattle.exports.proofs.RefusalBit.{Any, Tells, Yields, tells, tells-unless, tells_more, tells-then, at_place, no_place}
use Rattle.exports.proofs.RefusalPlaces.{ReadBytes, read-tells, unit-tells}
use Rattle.exports.proofs.DomainCounts.{few-expanders, few-phys}

-- a domain in which no expander has more than 128 phys
abbrev FewPhys : Domain → Type 0
FewPhys d = (e : Expander) → In e d → length e.phys ≤ 128

-- its card, 88 bits for each expander and up to 78 for each phy
card-few : (d : Domain) → FewPhys d → expanders_size d ≤ 10072 * length d
unfolding expanders_size
card-few [] h = omega arith
card-few (e ∷ d) h =
    let a = sizes-few e.phys in
    let b = h e (inl refl) in
    let r = card-few d (λ x j. h x (inr j)) in
    omega arith

-- its file, 36 bytes for each expander and 52 for each phy
units-few : (d : Domain) → FewPhys d → length (units_of d) ≤ 6692 * length d
unfolding units_of
units-few [] h = omega arith
units-few (e ∷ d) h =
    let a = length-append (unit_head e) (phys_frames e.address 0 e.phys ++ units_of d) in
    let b = length-append (phys_frames e.address 0 e.phys) (units_of d) in
    let c = length-head e in
    let f = length-frames e.address 0 e.phys in
    let g = h e (inl refl) in
    let r = units-few d (λ x j. h x (inr j)) in
    omega arith

-- so it is short
file-short : (d : Domain) → FewPhys d → length d ≤ 64 → length (file_of d) < 2 ^ 32
file-short d h n = let a = length-file d in let c = units-few d h in omega arith

-- fewer than 2 to the power 32 bytes are made
abbrev pub Short : List ℕ → Type 0
Short new = length new < 2 ^ 32

-- 16
pub fitting-tells : (room : ℕ) (new : List ℕ) → Short new → Tells Short (fitting room new)
fitting-tells room new h = tells-unless Short (leb (length new) room) (refusal 16 0 0) (good new) (no_place 16 (omega arith)) (λ _. h)

-- the answer of every call that makes bytes
pub length-apart : (x : Result (List ℕ)) → Tells Short x → ToldApart number Itself (then x length_of)
length-apart x t = tells number Itself _ (tells-then Short (Yields number Itself) x length_of t (λ new _ k. (omega arith, refl)))

-- a card of a file
pub card-apart : (setting : Setting) (file : List ℕ) (room : ℕ) → Bytes file → ToldApart number Itself (then (card_call setting file room) length_of)
unfolding card_call
card-apart setting file room b =
    length-apart (card_call setting file room) (tells-then (ReadBytes setting) Short (domain_read setting file) (card_for room) (read-tells setting file b) (λ d _ r.
    let a = length-card d in
    let c = card-few d (few-phys setting d r) in
    let n = few-expanders setting d r in
    fitting-tells room (card_of d) (omega arith)))

-- reading a card: 6, then 3, 4 and 6 unit by unit
phys-tells : (P : Domain → Type 0) (i p : ℕ) (φs : List Phy) (k : Result Domain) → i < 256 → p + length φs ≤ 256 → Tells P k → Tells P (phys_tested i p φs k)
unfolding phys_tested
phys-tells P i p [] k h l t = t
phys-tells P i p (φ ∷ φs) k h l t =
    tells-unless P (phy_ranged φ) (refusal 6 i p) (phys_tested i (p + 1) φs k) (at_place 6 i p (omega arith) h (omega arith)) (λ _. phys-tells P i (p + 1) φs k h (omega arith) t)

units-tells : (P : Domain → Type 0) (most : Setting) → most.phys ≤ 128 → (i : ℕ) (used : List ℕ) (d : Domain) (k : Result Domain) → i + length d ≤ 256 → Tells P k
    → Tells P (units_tested most i used d k)
unfolding units_tested
units-tells P most m i used [] k h t = t
units-tells P most m i used (e ∷ d) k h t =
    let u = unit_fields e in
    tells-then (λ v. (v ≡ u) × (u.phys ≤ most.phys)) P (unit_tested most used i u) _ (unit-tells most used i u (omega arith)) (λ v _ l.
    let n = l.1 in
    phys-tells P i 0 e.phys _ (omega arith) (omega arith) (units-tells P most m (i + 1) (used ++ (e.address ∷ [])) d k (omega arith) t))

card-tells : (most : Setting) (card : List ℕ) → Tells (ReadBytes most) (card_read most card)
unfolding card_read
card-tells most card =
    let d = domain_on (bits_of card) in
    tells_more Any (ReadBytes most) (card_read most card)
    (tells-unless Any (in_range most) (refusal 22 0 0) _ (no_place 22 (omega arith)) (λ t.
    let r = (range_iff most).0 (was_true (in_range most) t) in
    let m = r.phys.1 in
    let n = r.expanders.1 in
    tells-unless Any (formed card d) (refusal 19 0 0) _ (no_place 19 (omega arith)) (λ _.
    tells-unless Any (within most.expanders (length d)) (refusal 3 0 0) _ (no_place 3 (omega arith)) (λ w.
    let l = leb-true (length d) most.expanders (both (leb 1 (length d)) _ w).1 in
    units-tells Any most m 0 [] d (good d) (omega arith) tt))))
    (λ x e. let c = (card-holds most card x e).legal in record { read = legal-read most x c; fits = legal-fits most x c })

-- a file of a card
pub file-apart : (setting : Setting) (card : List ℕ) (room : ℕ) → ToldApart number Itself (then (file_call setting card room) length_of)
unfolding file_call
file-apart setting card room =
    length-apart (file_call setting card room) (tells-then (ReadBytes setting) Short (card_read setting card) (file_for room) (card-tells setting card) (λ d _ r.
    let n = few-expanders setting d r in
    fitting-tells room (file_of d) (file-short d (few-phys setting d r) (omega arith))))

-- the file of an exercise
pub make-apart : (a b : ℕ) (ws : List ℕ) (room : ℕ) → ToldApart number Itself (then (make_call a b ws room) length_of)
unfolding make_call made
make-apart a b ws room =
    length-apart (make_call a b ws room) (tells-unless Short (not (no_rig a b ws)) (refusal 24 0 0) _ (no_place 24 (omega arith)) (λ t.
    let m = (makable a b ws (T_not (no_rig a b ws) (was_true (not (no_rig a b ws)) t))).phys in
    let l = length-map (trimmed ws) drive in
    fitting-tells room (file_of (made a b ws)) (file-short (made a b ws) (λ e. ⊎_elim (λ q. subst (λ x. length x.phys ≤ 128) (sym q) (omega arith))
    (⊎_elim (λ q. subst (λ x. length x.phys ≤ 128) (sym q) (omega arith)) (λ n. absurd n))) (omega arith))))
