-- The calls' promises, by their tests.
use Prim.Native.Nat.{ℕ, suc, ◌*◌, ◌≤◌, ◌<◌}
use mathlib.Core.Path.{◌≡◌, sym, ◌∙◌, ap, subst}
use mathlib.Core.Bool.{true, false}
use mathlib.Core.List.{List, [], ◌++◌}
use native.Mathlib.Omega.{arith}
use lib.ListN.{length, take, drop}
use lib.Seq.{sets, take_at}
use borrow.Author.Tests.{le-leb, lt-leb}
use Rattle.frames.specs.Bits.{field, bits_of, bytes_for}
use Rattle.frames.specs.Refusals.{Result, refused, good, refusal, fitting}
use Rattle.frames.specs.declared.Refusal.{Refusal}
use Rattle.frames.proofs.PackedBits.{length-packed_in}
use Rattle.frames.proofs.PackedRows.{Bytes}
use Rattle.files.specs.declared.Setting.{Setting}
use Rattle.files.specs.Settings.{within, in_range}
use Rattle.files.specs.Domain.{Domain}
use Rattle.files.specs.ReadDomain.{Read}
use Rattle.files.specs.File.{domain_read}
use Rattle.files.specs.Rows.{rows_of, domain_in, most_row_words, row_words}
use Rattle.frames.proofs.ValuesPut.{sets-front}
use Rattle.wiring.proofs.FileRows.{Roomy}
use Rattle.files.proofs.ReadDomain.{read-good}
use Rattle.files.proofs.RowsRoundTrip.{length-rows_of, domain-back}
use Rattle.cards.specs.Card.{card_bits, card_of, card_size, domain_on}
use Rattle.cards.specs.CardRead.{formed, units_tested, card_read}
use Rattle.cards.specs.Calls.{card_for, card_call, file_for, file_call, MadeDone}
use Rattle.cards.specs.CardWalks.{after_check}
use Rattle.cards.proofs.CardRoundTrip.{size-card}
use Rattle.cards.proofs.CardDomain.{card-is, count-expanders}
use Rattle.cards.proofs.RowPuts.{domain-on}
use Rattle.cards.proofs.ReadDomainsFit.{legal-read, legal-fits}

-- what was made did not fit, or it fitted
pub not_fitted : (new before : List ℕ) (answer : Result ℕ) → length before < length new → answer ≡ refused (refusal 16 0 0) → MadeDone (fitting (length before) new) answer before before
not_fitted new before answer h e =
    let t = lt-leb (length new) (length before) h in
    record { answers = e ∙ rw t; bytes = rw t }

pub fitted : (new before after : List ℕ) (n : ℕ) → length new ≤ length before → n ≡ length new → after ≡ new ++ drop n before → MadeDone (fitting (length before) new) (good n) before after
fitted new before after n h e q =
    let t = le-leb (length new) (length before) h in
    record { answers = rw t (ap good e); bytes = rw t (q ∙ rw e) }

pub length-card : (d : Domain) → length (card_of d) ≡ bytes_for (card_size d)
length-card d = length-packed_in (bytes_for (length (card_bits d))) (card_bits d) ∙ ap bytes_for (size-card d)

-- 64 rows have room for every domain
pub rows-room : (setting : Setting) (file before : List ℕ) → length before ≡ most_row_words → Roomy setting file before
rows-room setting file before l d e = let g = read-good setting file d e in omega (arith, g.few, g.range.expanders.1)

-- file to card, by the outcome of reading the file
pub card-refused : (setting : Setting) (file before : List ℕ) (r : Refusal) → domain_read setting file ≡ refused r → MadeDone (card_call setting file (length before)) (refused r) before before
unfolding card_call
card-refused setting file before r q = record { answers = rw q; bytes = rw q }

pub card-made : (setting : Setting) (file before after : List ℕ) (d : Domain) (answer : Result ℕ) → domain_read setting file ≡ good d → MadeDone (card_for (length before) d) answer before after
    → MadeDone (card_call setting file (length before)) answer before after
unfolding card_call
card-made setting file before after d answer q m = rw q m

-- card to file, by the tests of the card
module _ (setting : Setting) (card before : List ℕ) where
  abbrev D : Domain
  D = domain_on (bits_of card)

  pub file_out : (answer : Result ℕ) → in_range setting ≡ false → answer ≡ refused (refusal 22 0 0) → MadeDone (file_call setting card (length before)) answer before before
  unfolding file_call card_read
  file_out answer o e = record { answers = rw o e; bytes = rw o }

  module _ (o : in_range setting ≡ true) where
    pub file_unformed : (answer : Result ℕ) → formed card D ≡ false → answer ≡ refused (refusal 19 0 0) → MadeDone (file_call setting card (length before)) answer before before
    unfolding file_call card_read
    file_unformed answer q e = record { answers = rw (o, q) e; bytes = rw (o, q) }

    module _ (n : ℕ) (q : formed card D ≡ true) (e : n ≡ length D) where
      pub file-many : (answer : Result ℕ) → within setting.expanders n ≡ false → answer ≡ refused (refusal 3 0 0) → MadeDone (file_call setting card (length before)) answer before before
      unfolding file_call card_read
      file-many answer w a = let w' : within setting.expanders (length D) ≡ false = rw e at w in record { answers = rw (o, q, w') a; bytes = rw (o, q, w') }

      module _ (w : within setting.expanders n ≡ true) (check : Result Unit) (f : (k : Result Domain) → after_check check k ≡ units_tested setting 0 [] D k) where
        read_by : (x : Result Domain) → after_check check (good D) ≡ x → card_read setting card ≡ x
        unfolding card_read
        read_by x g = let w' : within setting.expanders (length D) ≡ true = rw e at w in rw (o, q, w') (sym (f (good D)) ∙ g)

        pub file-refused : (r : Refusal) → check ≡ refused r → MadeDone (file_call setting card (length before)) (refused r) before before
        unfolding file_call
        file-refused r g =
            let z : card_read setting card ≡ refused r = read_by (refused r) (ap (λ (c : Result Unit). after_check c (good D)) g) in
            record { answers = rw z; bytes = rw z }

        module _ (g : check ≡ (good tt)) (b : Bytes card) where
          read : card_read setting card ≡ good D
          read = read_by (good D) (ap (λ (c : Result Unit). after_check c (good D)) g)

          pub read_is : Read setting D
          read_is = legal-read setting D (card-is setting card D b read).legal

          -- the rows that were filled give the domain back
          pub rows_hold_lem : (rows after : List ℕ) (k : ℕ) → k ≡ row_words * n → row_words * n ≤ length rows → after ≡ sets rows 0 (rows_of D) → domain_in (take k after) ≡ D
          rows_hold_lem rows after k qk h s =
              let l = length-rows_of setting D read_is in
              let t : after ≡ rows_of D ++ drop (length (rows_of D)) rows = s ∙ sets-front (rows_of D) rows (omega arith) in
              ap (λ (m : List ℕ). domain_in (take k m)) t ∙ ap domain_in (take_at (rows_of D) _ k (omega arith))
              ∙ domain-back setting D read_is (legal-fits setting D (card-is setting card D b read).legal)

          pub file-made : (d : Domain) (answer : Result ℕ) (after : List ℕ) → d ≡ D → MadeDone (file_for (length before) d) answer before after → MadeDone (file_call setting card (length before)) answer before after
          unfolding file_call
          file-made d answer after z m = rw read (subst (λ (x : Domain). MadeDone (file_for (length before) x) answer before after) z m)

-- what was counted is the expanders of the card's domain
pub count-on : (card : List ℕ) (n : ℕ) → n ≡ suc (field 6 (drop 4 (bits_of card))) → n ≡ length (domain_on (bits_of card))
count-on card n e = sym (ap length (sym (domain-on (bits_of card) n e)) ∙ count-expanders n (drop 16 (bits_of card)))
