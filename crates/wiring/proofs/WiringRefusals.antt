-- When the wiring call answers, and with which numbers it refuses.
use Prim.Native.Nat.{ℕ, ◌≤◌}
use mathlib.Core.Path.{◌≡◌, refl}
use mathlib.Core.Logic.{inl, inr, ⊎_elim}
use mathlib.Core.Bool.{Bool}
use mathlib.Core.List.{List, [], ◌∷◌}
use native.Mathlib.Omega.{arith}
use lib.ListN.{length}
use lib.Dec.{leb, leb→le, le→leb}
use Rattle.frames.specs.Refusals.{Result, good, then, refusal}
use Rattle.frames.specs.RefusesExactly.{RefusesExactly}
pub use Rattle.frames.proofs.FrameRefusals.{Numbered, numbered-unless, numbered-then, exactly}
use Rattle.files.specs.declared.Setting.{Setting}
use Rattle.files.specs.Domain.{Domain}
use Rattle.files.specs.File.{domain_read}
use Rattle.wiring.specs.phys.PhyCauses.{Place, unanswered, claimed, clashing, fixed, first_in, first_of, wired_domain, wired}
use Rattle.wiring.specs.graph.Neighbours.{neighbour_words, bits_in, words_for, wiring_call, bits_set, WiringDone}
use Rattle.wiring.specs.WiringCauses.{NoWiringCause, wiring_number}
use Rattle.files.proofs.ListMembers.{by-test}
use Rattle.files.proofs.CallResults.{unless-good, good-unless, then-good, good-then}
use Rattle.files.proofs.ReadDomain.{read-good, read-numbered}
use Rattle.wiring.proofs.WiredAndLinked.{passed_iff, wired-file}

-- number k, or none
pub first-numbered : (P : ℕ → Type 0) (k : ℕ) (test : ℕ → ℕ → Bool) (qs : List Place) (d : Domain) → P k → Numbered P (first_in k test qs d)
unfolding first_in
first-numbered P k test [] d h = tt
first-numbered P k test (q ∷ qs) d h = by-test (test q.expander q.phy) (λ e. rw e h) (λ e. rw e (first-numbered P k test qs d h))

-- causes 7 to 10 refuse with their numbers
pub wired-numbered : (P : ℕ → Type 0) → ((n : ℕ) → 7 ≤ n → n ≤ 10 → P n) → (d : Domain) → Numbered P (wired_domain d)
unfolding wired_domain
wired-numbered P h d =
    numbered-then P (first_of 7 (unanswered d) d) _ (first-numbered P 7 (unanswered d) _ d (h 7 (omega arith) (omega arith)))
    (λ a. numbered-then P (first_of 8 (claimed d) d) _ (first-numbered P 8 (claimed d) _ d (h 8 (omega arith) (omega arith)))
    (λ b. numbered-then P (first_of 9 (clashing d) d) _ (first-numbered P 9 (clashing d) _ d (h 9 (omega arith) (omega arith)))
    (λ c. first-numbered P 10 (fixed d) _ d (h 10 (omega arith) (omega arith)))))

-- the wiring call answers exactly when none of its causes holds, and refuses with no other number
pub wiring-exactly : (setting : Setting) (file before after : List ℕ) (answer : Result ℕ) → WiringDone (wiring_call setting file (length before)) answer before after
    → RefusesExactly answer (NoWiringCause setting file (length before)) wiring_number
unfolding wiring_call
wiring-exactly setting file before after answer w =
    exactly wiring_number answer _ (NoWiringCause setting file (length before)) w.answers numbered from to
  where
    room : ℕ
    room = length before

    numbered : Numbered wiring_number (then (wiring_call setting file room) bits_set)
    numbered =
        numbered-then wiring_number (wiring_call setting file room) bits_set
        (numbered-then wiring_number (wired setting file) (words_for room)
        (numbered-then wiring_number (domain_read setting file) wired_domain (read-numbered setting file wiring_number (λ n. ⊎_elim (λ h. inl (h.0, omega arith)) (λ h. inr (inr h))))
        (wired-numbered wiring_number (λ n a b. inl (omega arith, b))))
        (λ d. numbered-unless wiring_number (leb (length d) room) (refusal 16 0 0) _ (inr (inl refl)) tt))
        (λ ws. tt)

    from : (n : ℕ) → then (wiring_call setting file room) bits_set ≡ good n → NoWiringCause setting file room
    from n e =
        let a = then-good (wiring_call setting file room) bits_set n e in
        let b = then-good (wired setting file) (words_for room) a.0 a.1 in
        let c = unless-good (leb (length b.0) room) (refusal 16 0 0) _ a.0 b.2 in
        let r = (wired-file setting file b.0).0 b.1 in
        record { domain = b.0; range = (read-good setting file b.0 r.0).range; read = r.0; passed = (passed_iff b.0).0 r.1; enough = leb→le (length b.0) room c.0 }

    to : NoWiringCause setting file room → (n : ℕ) × (then (wiring_call setting file room) bits_set ≡ good n)
    to c =
        let d = c.domain in
        let a = (wired-file setting file d).1 (c.read, (passed_iff d).1 c.passed) in
        let b = good-unless (leb (length d) room) (refusal 16 0 0) (good (neighbour_words d)) (le→leb (length d) room c.enough) in
        let e = good-then (wired setting file) (words_for room) d (neighbour_words d) a b in
        (bits_in (neighbour_words d), good-then (wiring_call setting file room) bits_set (neighbour_words d) (bits_in (neighbour_words d)) e refl)
