-- A file read into words that are enough for the rows of its domain.
use Prim.Native.Nat.{ℕ, ◌*◌, ◌≤◌, min}
use mathlib.Core.Path.{◌≡◌, refl, sym, ◌∙◌, ap, subst}
use mathlib.Core.List.{List}
use native.Mathlib.Omega.{arith}
use lib.ListN.{length, take, replicate, length-replicate}
use borrow.Author.Tests.{le-leb}
use Rattle.frames.specs.Refusals.{Result, refused, good, then}
use Rattle.frames.specs.declared.Refusal.{Refusal}
use Rattle.files.specs.declared.Setting.{Setting}
use Rattle.files.specs.Domain.{Domain}
use Rattle.files.specs.File.{domain_read}
use Rattle.files.specs.Rows.{domain_in, rows_read, count_of, RowsRead, row_words}
use Rattle.wiring.specs.index.AddressIndex.{slots_before}
use Rattle.wiring.specs.phys.Checks.{FileRoom, RoomFor}
use Rattle.files.proofs.ReadDomain.{read-good, stated-expanders}
use Rattle.frames.specs.Bytes.{byte}

-- what the answer of the reader says of the file
abbrev pub ReaderSays : Setting → List ℕ → Result ℕ → List ℕ → Type 0
ReaderSays setting file (refused r) rows = domain_read setting file ≡ refused r
ReaderSays setting file (good n) rows = (domain_read setting file ≡ good (domain_in (take (row_words * n) rows))) × ((n ≤ 64) × (n ≡ length (domain_in (take (row_words * n) rows))))

-- room for the rows
abbrev pub Roomy : Setting → List ℕ → List ℕ → Type 0
Roomy setting file before = (d : Domain) → domain_read setting file ≡ good d → row_words * length d ≤ length before

-- and for the entries, where there are at most n expanders
pub file-room : (setting : Setting) (n : ℕ) (file rows first low : List ℕ) → ((d : Domain) → domain_read setting file ≡ good d → length d ≤ n)
    → row_words * n ≤ length rows → slots_before n ≤ length first → 128 * n ≤ length low → FileRoom setting file rows first low
file-room setting n file rows first low most a b c = record {
  rows = λ d e. omega (arith, most d e);
  index = λ d e. let h = most d e in record { slots = omega arith; phys = omega arith };
}

-- room of a size that is enough for what the file states, as it is taken: filled with zeros
pub room-for : (setting : Setting) (file : List ℕ) (words slots phys : ℕ) → RoomFor (byte file 1) words slots phys
    → FileRoom setting file (replicate words 0) (replicate slots 0) (replicate phys 0)
room-for setting file words slots phys room =
    file-room setting (min 64 (byte file 1)) file _ _ _ (λ d e. let r = read-good setting file d e in omega (arith, stated-expanders setting file d e, r.few, r.range.expanders.1))
    (omega (arith, length-replicate {A = ℕ} words 0, room.rows)) (omega (arith, length-replicate {A = ℕ} slots 0, room.slots)) (omega (arith, length-replicate {A = ℕ} phys 0, room.phys))

module _ (setting : Setting) (file before after : List ℕ) (e : Roomy setting file before) where
  -- reading with room for every row
  roomy : (d : Domain) → domain_read setting file ≡ good d → rows_read setting file (length before) ≡ good d
  unfolding rows_read
  roomy d q = simp (q, le-leb (row_words * length d) (length before) (e d q))

  bad : (r : Refusal) → domain_read setting file ≡ refused r → rows_read setting file (length before) ≡ refused r
  unfolding rows_read
  bad r q = simp q

  pub opened : (answer : Result ℕ) → RowsRead setting file answer before after → ReaderSays setting file answer after
  opened answer r = go (domain_read setting file) refl answer r
    where
      go : (x : Result Domain) → domain_read setting file ≡ x → (answer : Result ℕ) → RowsRead setting file answer before after → ReaderSays setting file answer after
      go (refused s) q (refused t) r =
          let a : ◌≡◌ {A = Result ℕ} (refused t) (refused s) = r.answers ∙ ap (λ y. then y count_of) (bad s q) in
          let b : t ≡ s = cc in q ∙ ap refused (sym b)
      go (refused s) q (good n) r =
          let a : ◌≡◌ {A = Result ℕ} (good n) (refused s) = r.answers ∙ ap (λ y. then y count_of) (bad s q) in
          let z : ◌≡◌ {A = ℕ} 0 1 = cc in absurd (omega arith)
      go (good d) q (refused t) r =
          let a : ◌≡◌ {A = Result ℕ} (refused t) (good (length d)) = r.answers ∙ ap (λ y. then y count_of) (roomy d q) in
          let z : ◌≡◌ {A = ℕ} 0 1 = cc in absurd (omega arith)
      go (good d) q (good n) r =
          let a : ◌≡◌ {A = Result ℕ} (good n) (good (length d)) = r.answers ∙ ap (λ y. then y count_of) (roomy d q) in
          let b : n ≡ length d = cc in
          let h : domain_in (take (row_words * length d) after) ≡ d = rw (roomy d q) at r.holds in
          let k : domain_in (take (row_words * n) after) ≡ d = ap (λ (m : ℕ). domain_in (take (row_words * m) after)) b ∙ h in
          let g = read-good setting file d q in
          let f = g.few in
          let o = g.range.expanders.1 in
          (q ∙ ap good (sym k), (omega arith, b ∙ ap length (sym k)))

-- what an answer that was matched says
pub opened_as : (setting : Setting) (file before after : List ℕ) (answer known : Result ℕ) → Roomy setting file before → RowsRead setting file answer before after → answer ≡ known
    → ReaderSays setting file known after
opened_as setting file before after answer known e r q = subst (λ a. ReaderSays setting file a after) q (opened setting file before after e answer r)

-- 258 words for each of its expanders fit
pub opened-fits : (setting : Setting) (file before after : List ℕ) (answer : Result ℕ) (n : ℕ) → Roomy setting file before → RowsRead setting file answer before after
    → answer ≡ good n → length after ≡ length before → row_words * n ≤ length after
opened-fits setting file before after answer n e r q l =
    let o = opened_as setting file before after answer (good n) e r q in
    omega (arith, e _ o.0, o.1.1)
