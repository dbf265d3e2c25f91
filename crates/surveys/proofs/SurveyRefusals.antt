-- When `needed` and `word_place` answer, and with which numbers they refuse.
use Prim.Native.Nat.{ℕ, ◌<◌}
use mathlib.Core.Path.{◌≡◌, refl, sym, subst, ◌∙◌}
use mathlib.Core.Logic.{inl, inr, by_cases}
use mathlib.Core.List.{List}
use native.Mathlib.Omega.{arith}
use native.Mathlib.Decide.{dec_lt}
use lib.ListN.{length}
use Rattle.wiring.specs.FrameDefinitions.{Result, good, then, RefusesExactly}
use Rattle.files.specs.declared.Setting.{Setting}
use Rattle.files.specs.Domain.{Domain}
use Rattle.files.proofs.CallResults.{never, then-good, good-then}
use Rattle.tables.specs.filling.Tables.{table_places, needed}
use Rattle.tables.specs.JudgingCall.{judged, counts_in}
use Rattle.tables.specs.declared.Counted.{Counted}
use Rattle.tables.specs.TableCauses.{NoJudgingCause, judging_number}
use Rattle.tables.proofs.TableRefusals.{Numbered, numbered-then, exactly, judged-numbered, judged_causes, causes_judged}
use Rattle.surveys.specs.declared.Entry.{Entry}
use Rattle.surveys.specs.WordEntries.{entry, word_place}
use Rattle.surveys.specs.SurveyCauses.{NoWordCause, word_number}
use Rattle.surveys.proofs.WordEntries.{entry-of-word, no_word}

-- `needed` answers exactly when the judging call does, and refuses with no other number
pub needed-exactly : (setting : Setting) (file : List ℕ) (answer : Result Counted) → answer ≡ then (judged setting file) counts_in
    → RefusesExactly answer (NoJudgingCause setting file) judging_number
needed-exactly setting file answer q =
    exactly judging_number answer (then (judged setting file) counts_in) (NoJudgingCause setting file) q
    (numbered-then judging_number (judged setting file) counts_in (judged-numbered judging_number (λ n h. h) setting file) (λ d. tt))
    (λ n e. let a = then-good (judged setting file) counts_in n e in (judged_causes setting file a.0 a.1).0)
    (λ c.
    let n : Counted = record { table_count = length (table_places c.domain); word_count = needed c.domain } in
    (n, good-then (judged setting file) counts_in c.domain n (causes_judged setting file c) refl))

-- a word that the tables have is an entry, and any other is 15
word-numbered : (k : ℕ) (d : Domain) → Numbered word_number (word_place k d)
word-numbered k d =
    by_cases (dec_lt k (needed d))
    (λ h. subst (Numbered word_number) (sym (entry-of-word d k h).found) tt)
    (λ h. subst (Numbered word_number) (sym (no_word d k (omega arith))) (inr refl))

word-there : (k : ℕ) (d : Domain) (e : Entry) → word_place k d ≡ good e → k < needed d
word-there k d e q = by_cases (dec_lt k (needed d)) (λ h. h) (λ h. never _ e (sym (no_word d k (omega arith)) ∙ q))

-- `word_place` answers exactly when none of its causes holds, and refuses with no other number
pub word-exactly : (setting : Setting) (file : List ℕ) (k : ℕ) (answer : Result Entry) → answer ≡ then (judged setting file) (word_place k)
    → RefusesExactly answer (NoWordCause setting file k) word_number
word-exactly setting file k answer q =
    exactly word_number answer (then (judged setting file) (word_place k)) (NoWordCause setting file k) q
    (numbered-then word_number (judged setting file) (word_place k) (judged-numbered word_number (λ n h. inl h) setting file) (word-numbered k)) from to
  where
    from : (e : Entry) → then (judged setting file) (word_place k) ≡ good e → NoWordCause setting file k
    from e p =
        let a = then-good (judged setting file) (word_place k) e p in
        let c = judged_causes setting file a.0 a.1 in
        record { judging = c.0; word = subst (λ d. k < needed d) (sym c.1) (word-there k a.0 e a.2) }

    to : NoWordCause setting file k → (e : Entry) × (then (judged setting file) (word_place k) ≡ good e)
    to c =
        let d = c.judging.domain in
        let w = entry-of-word d k c.word in
        let e : Entry = entry w.expander w.phy w.index in
        (e, good-then (judged setting file) (word_place k) d e (causes_judged setting file c.judging) w.found)
