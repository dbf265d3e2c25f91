-- Bit 63 of the answers of the calls that judge a file: judging, what is needed, tables, where a word is.
use Prim.Native.Nat.{ℕ, ◌+◌, ◌*◌, ◌^◌, ◌<◌}
use mathlib.Core.Path.{refl, sym, subst}
use mathlib.Core.Logic.{by_cases}
use mathlib.Core.List.{List}
use native.Mathlib.Omega.{arith}
use native.Mathlib.Decide.{dec_lt}
use lib.ListN.{length}
use lib.Dec.{leb}
use Rattle.frames.specs.Bits.{bytes_for}
use Rattle.frames.specs.Refusals.{good, then, refusal}
use Rattle.files.specs.declared.Setting.{Setting}
use Rattle.files.specs.Domain.{Domain}
use Rattle.files.specs.ReadDomain.{Bytes}
use Rattle.files.proofs.Domains.{attribute-range, expander-range}
use Rattle.tables.specs.filling.Tables.{table_places, needed}
use Rattle.tables.specs.filling.Entries.{Room}
use Rattle.tables.specs.JudgingCall.{judged, expanders_in, tables_for, table_call, counts_in}
use Rattle.surveys.specs.WordEntries.{entry, word_place}
use Rattle.surveys.proofs.WordEntries.{entry-of-word, no_word}
use Rattle.exports.specs.Packing.{number, counts, entry_packed}
use Rattle.exports.specs.AnswerParts.{Itself, Halves, CountsBack, EntryBack}
use Rattle.exports.specs.RefusalBit.{ToldApart}
use Rattle.exports.proofs.RefusalBit.{Tells, Yields, tells, tells-unless, tells-then, no_place}
use Rattle.exports.proofs.RefusalPlaces.{ReadBytes, judged-tells}
use Rattle.exports.proofs.DomainCounts.{fits-at, few-expanders, few-tables, few_words}

-- two counts come back, and leave bit 63 clear
pub halves : (high low : ℕ) → high < 2 ^ 31 → low < 2 ^ 32 → (high * 2 ^ 32 + low < 2 ^ 63) × Halves high low (high * 2 ^ 32 + low)
halves high low h k = (omega arith, (omega arith, omega arith))

module _ (setting : Setting) where
  -- the counts of a domain
  pub counts_yield : (d : Domain) → ReadBytes setting d → Tells (Yields counts CountsBack) (counts_in d)
  counts_yield d b =
      let t = few-tables setting d b in
      halves (length (table_places d)) (needed d) (omega arith) (few_words setting d b)

  -- 16 and 18
  pub room-tells : (room : Room) (d : Domain) → ReadBytes setting d → Tells (ReadBytes setting) (tables_for room d)
  room-tells room d b =
      tells-unless (ReadBytes setting) (leb (needed d) room.words) (refusal 16 0 0) _ (no_place 16 (omega arith)) (λ _.
      tells-unless (ReadBytes setting) (leb (bytes_for (needed d)) room.bits) (refusal 18 0 0) (good d) (no_place 18 (omega arith)) (λ _. b))

  module _ (file : List ℕ) (b : Bytes file) where
    -- judging
    pub judge-apart : ToldApart number Itself (then (judged setting file) expanders_in)
    judge-apart =
        tells number Itself _ (tells-then (ReadBytes setting) (Yields number Itself) (judged setting file) expanders_in (judged-tells setting file b)
        (λ d _ r. let n = few-expanders setting d r in (omega arith, refl)))

    -- what is needed
    pub needed-apart : ToldApart counts CountsBack (then (judged setting file) counts_in)
    needed-apart =
        tells counts CountsBack _ (tells-then (ReadBytes setting) (Yields counts CountsBack) (judged setting file) counts_in (judged-tells setting file b) (λ d _. counts_yield d))

    -- tables
    pub tables-apart : (room : Room) → ToldApart counts CountsBack (then (table_call setting file room) counts_in)
    unfolding table_call
    tables-apart room =
        tells counts CountsBack _ (tells-then (ReadBytes setting) (Yields counts CountsBack) (table_call setting file room) counts_in
        (tells-then (ReadBytes setting) (ReadBytes setting) (judged setting file) (tables_for room) (judged-tells setting file b) (λ d _. room-tells room d)) (λ d _. counts_yield d))

    -- where a word is
    pub word-apart : (k : ℕ) → ToldApart entry_packed EntryBack (then (judged setting file) (word_place k))
    word-apart k =
        tells entry_packed EntryBack _ (tells-then (ReadBytes setting) (Yields entry_packed EntryBack) (judged setting file) (word_place k) (judged-tells setting file b) (λ d _. found d))
      where
        packs : (i p j : ℕ) → i < 256 → p < 256 → j < 65536 → Yields entry_packed EntryBack (entry i p j)
        packs i p j h l m = (omega arith, record { expander = omega arith; phy = omega arith; index = omega arith })

        found : (d : Domain) → ReadBytes setting d → Tells (Yields entry_packed EntryBack) (word_place k d)
        found d r =
            by_cases (dec_lt k (needed d)) (λ h.
            let e = entry-of-word d k h in
            let p = attribute-range d 2 e.expander e.phy e.table (omega arith) in
            let i = expander-range d e.expander e.phy p in
            let n = few-expanders setting d r in
            let f = fits-at d r.fits e.expander in
            let w = e.within in
            let c = f.count in
            let x = f.route_indexes in
            subst (Tells (Yields entry_packed EntryBack)) (sym e.found) (packs e.expander e.phy e.index (omega arith) (omega arith) (omega arith)))
            (λ h. subst (Tells (Yields entry_packed EntryBack)) (sym (no_word d k (omega arith))) (no_place 15 (omega arith)))
