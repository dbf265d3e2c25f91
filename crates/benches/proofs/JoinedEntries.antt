-- Existing tables don't change, over what the table call promises: the words and disable bits that it gives for the joined file are those that it
-- gives for the first, then those that it gives for the second.
use Prim.Native.Nat.{ℕ, ◌+◌, ◌<◌}
use mathlib.Core.Path.{◌≡◌, refl, sym, ◌∙◌, ap, ap₂, subst}
use mathlib.Core.List.{List, ◌++◌}
use native.Mathlib.Omega.{arith}
use lib.ListN.{length, get_or, drop, length-append, get_or-append}
use lib.Seq.{get_or-append-add}
use Rattle.frames.specs.Refusals.{Result, good, then}
use Rattle.frames.specs.Bits.{bits_of, zero_bit}
use Rattle.files.specs.declared.Setting.{Setting}
use Rattle.files.specs.Domain.{Domain}
use Rattle.files.specs.ReadDomain.{Bytes}
use Rattle.files.proofs.ReadDomain.{read-good}
use Rattle.files.proofs.CallResults.{good-one}
use Rattle.tables.specs.filling.Tables.{tables, needed}
use Rattle.tables.specs.filling.Entries.{Entries, room_of}
use Rattle.tables.specs.declared.Counted.{Counted}
use Rattle.tables.specs.JudgingCall.{judged, judged_tables, table_call, counts_in, TablesDone}
use Rattle.tables.proofs.filling.TableLengths.{tables-length}
use Rattle.tables.proofs.AcceptedDomains.{judged-file, table-call, tables-same}
use Rattle.tables.proofs.TableRefusals.{counts_iff, tables-of}
use Rattle.tables.proofs.filling.TableStretches.{index_for_index}
use Rattle.benches.specs.AcrossBench.{OneAfterOther}
use Rattle.benches.specs.Bytes.{joined_file}
use Rattle.benches.specs.Joined.{joined}
use Rattle.benches.proofs.JoinedAccepted.{same_tables}
use Rattle.benches.proofs.JoinedReads.{joined-exactly}
use Rattle.benches.proofs.JoinRefusals.{Conditions}

-- a table call on a file that is accepted as d, and that answered counts
module _ (setting : Setting) (file : List ℕ) (d : Domain) (e : judged setting file ≡ good d) (t n : ℕ) (before after : Entries)
    (done : TablesDone (table_call setting file (room_of before)) (good (record { table_count = t; word_count = n })) before after) where
  over : TablesDone (judged_tables setting.chain d (room_of before)) (good (record { table_count = t; word_count = n })) before after
  over = subst (λ (x : Result Domain). TablesDone x (good (record { table_count = t; word_count = n })) before after) (table-call setting file d ((judged-file setting file d).0 e).0 (room_of before)) done

  count-is : n ≡ needed d
  count-is =
      let c = (counts_iff (judged_tables setting.chain d (room_of before)) (good (record { table_count = t; word_count = n })) before after over).0 (t, n, refl) in
      let s = tables-same setting.chain d c.0 (room_of before) c.1 in
      ap (λ (x : Counted). x.word_count) (good-one _ _ (over.answers ∙ ap (λ (x : Result Domain). then x counts_in) c.1)) ∙ ap needed (sym s.0)

  word_at : (k : ℕ) → k < n → get_or after.words k 0 ≡ get_or (tables d) k 0
  word_at k h =
      ap (λ (x : Entries). get_or x.words k 0) (tables-of setting.chain d t n before after over).left
      ∙ get_or-append (tables d) (drop (length (tables d)) before.words) 0 k (omega (arith, tables-length d, count-is))

  bit_at : (k : ℕ) → k < n → get_or (bits_of after.bits) k 0 ≡ zero_bit (get_or (tables d) k 0)
  bit_at k h = (index_for_index setting.chain d before after t n over).bit k (omega (arith, count-is)) ∙ ap zero_bit (word_at k h)

module _ (setting : Setting) (first : List ℕ) (i p : ℕ) (second : List ℕ) (j q : ℕ) (d₁ d₂ : Domain)
    (e₁ : judged setting first ≡ good d₁) (e₂ : judged setting second ≡ good d₂) (b₁ : Bytes first) (b₂ : Bytes second)
    (c : Conditions setting d₁ i p d₂ j q) where
  -- under the conditions of paper 12 the joined file is accepted, as the joined domain
  pub accepted : judged setting (joined_file first i p second j q) ≡ good (joined d₁ i p d₂ j q)
  accepted =
      let r₁ = (judged-file setting first d₁).0 e₁ in
      let r₂ = (judged-file setting second d₂).0 e₂ in
      (joined-exactly setting first i p second j q d₁ d₂ r₁.0 r₂.0 b₁ b₂ c.first c.second r₁.1 r₂.1).1 (c.few, (c.apart, c.short))

  parts : tables (joined d₁ i p d₂ j q) ≡ tables d₁ ++ tables d₂
  parts =
      let r₁ = (judged-file setting first d₁).0 e₁ in
      let r₂ = (judged-file setting second d₂).0 e₂ in
      same_tables setting d₁ i p d₂ j q (read-good setting first d₁ r₁.0) (read-good setting second d₂ r₂.0) setting.chain r₁.1 r₂.1
      (record { first = c.first; second = c.second; apart = c.apart })

  -- table calls on the two files and on the joined one, each with its own lent entries
  pub joined-entries : (t₁ n₁ t₂ n₂ t n : ℕ) (before₁ one before₂ other before both : Entries)
      → TablesDone (table_call setting first (room_of before₁)) (good (record { table_count = t₁; word_count = n₁ })) before₁ one
      → TablesDone (table_call setting second (room_of before₂)) (good (record { table_count = t₂; word_count = n₂ })) before₂ other
      → TablesDone (table_call setting (joined_file first i p second j q) (room_of before)) (good (record { table_count = t; word_count = n })) before both
      → OneAfterOther n₁ n₂ n one other both
  joined-entries t₁ n₁ t₂ n₂ t n before₁ one before₂ other before both o₁ o₂ o =
      record {
        count = sum;
        first_word = λ k h. w k (omega (arith, sum)) ∙ front k h ∙ sym (w₁ k h);
        first_bit = λ k h. b k (omega (arith, sum)) ∙ ap zero_bit (front k h) ∙ sym (bit_at setting first d₁ e₁ t₁ n₁ before₁ one o₁ k h);
        second_word = λ k h. w (n₁ + k) (omega (arith, sum)) ∙ back k ∙ sym (w₂ k h);
        second_bit = λ k h. b (n₁ + k) (omega (arith, sum)) ∙ ap zero_bit (back k) ∙ sym (bit_at setting second d₂ e₂ t₂ n₂ before₂ other o₂ k h);
      }
    where
      new : List ℕ
      new = joined_file first i p second j q

      e : Domain
      e = joined d₁ i p d₂ j q

      m₁ : length (tables d₁) ≡ n₁
      m₁ = tables-length d₁ ∙ sym (count-is setting first d₁ e₁ t₁ n₁ before₁ one o₁)

      m₂ : length (tables d₂) ≡ n₂
      m₂ = tables-length d₂ ∙ sym (count-is setting second d₂ e₂ t₂ n₂ before₂ other o₂)

      sum : n ≡ n₁ + n₂
      sum =
          count-is setting new e accepted t n before both o ∙ sym (tables-length e) ∙ ap (λ (l : List ℕ). length l) parts
          ∙ length-append (tables d₁) (tables d₂) ∙ ap₂ (λ (x y : ℕ). x + y) m₁ m₂

      w : (k : ℕ) → k < n → get_or both.words k 0 ≡ get_or (tables e) k 0
      w = word_at setting new e accepted t n before both o

      b : (k : ℕ) → k < n → get_or (bits_of both.bits) k 0 ≡ zero_bit (get_or (tables e) k 0)
      b = bit_at setting new e accepted t n before both o

      w₁ : (k : ℕ) → k < n₁ → get_or one.words k 0 ≡ get_or (tables d₁) k 0
      w₁ = word_at setting first d₁ e₁ t₁ n₁ before₁ one o₁

      w₂ : (k : ℕ) → k < n₂ → get_or other.words k 0 ≡ get_or (tables d₂) k 0
      w₂ = word_at setting second d₂ e₂ t₂ n₂ before₂ other o₂

      front : (k : ℕ) → k < n₁ → get_or (tables e) k 0 ≡ get_or (tables d₁) k 0
      front k h = ap (λ (l : List ℕ). get_or l k 0) parts ∙ get_or-append (tables d₁) (tables d₂) 0 k (omega (arith, m₁))

      back : (k : ℕ) → get_or (tables e) (n₁ + k) 0 ≡ get_or (tables d₂) k 0
      back k =
          ap₂ (λ (l : List ℕ) (x : ℕ). get_or l (x + k) 0) parts (sym m₁) ∙ get_or-append-add (tables d₁) (tables d₂) k 0
