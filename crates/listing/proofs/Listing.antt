-- What is listed: for each word of each table its expander, phy, index and entry, in the order of the tables, then the totals.
use Prim.Native.Nat.{ℕ, zero, suc, ◌+◌, ◌*◌, ◌≤◌, ◌<◌}
use mathlib.Core.Path.{◌≡◌, refl, sym, ◌∙◌, ap, ap₂}
use mathlib.Core.Bool.{Bool, true, false, cond}
use mathlib.Core.List.{List, [], ◌∷◌, ◌++◌, flat_map, append_assoc}
use native.Mathlib.Omega.{arith}
use lib.ListN.{length, get_or, take, drop, length-append}
use Rattle.tables.specs.WiringDefinitions.{most_slots, most_domain_phys, most_row_words, row_words}
use Rattle.tables.specs.WiringDefinitions.{Result, good, then, keep, Domain, expander_at, phy_at, is_table, Place, places, domain_in, RowsRead, Setting, IndexRoom}
use Rattle.tables.proofs.WiringLemmas.{good-one, then-good, read-good, opened}
use Rattle.tables.specs.filling.Tables.{table, table_places, tables, size, needed}
use Rattle.tables.specs.lists.GrowingLists.{with_tables}
use Rattle.tables.specs.filling.Entries.{Entries, room_of}
use Rattle.tables.specs.declared.Counted.{Counted}
use Rattle.tables.specs.JudgingCall.{judged, tables_for, table_call, counts_in, tables_after}
use Rattle.tables.specs.lists.PreparedLists.{judged_in, OwnDone}
use Rattle.tables.proofs.filling.TableLengths.{table-length, tables-length}
use Rattle.tables.proofs.AcceptedDomains.{judged-file, table_call_iff}
use Rattle.tables.proofs.lists.LevelListsByOwn.{judged_own, call-done}
use Rattle.listing.specs.Text.{line_of, totals_of}
use Rattle.listing.specs.Lines.{Entry, table_entries, place_entries, word_lines, lines_from, cursor, table_lines, text_of, chunks_from, entry_lines, listing_of}
use Rattle.listing.proofs.Chunks.{all-chunks}
use Rattle.listing.proofs.Cursors.{expander-on}

-- line k of a table's words says index k and word k
pub entry_line : (i p from : ℕ) (ws : List ℕ) (k : ℕ) → k < length ws → get_or (table_lines i p from ws) k [] ≡ line_of i p (from + k) (get_or ws k 0)
unfolding table_lines
entry_line i p from [] k h = absurd (omega arith)
entry_line i p from (w ∷ ws) zero h = let e : from ≡ from + 0 = omega arith in ap (λ (x : ℕ). line_of i p x w) e
entry_line i p from (w ∷ ws) (suc k) h =
    let e : from + 1 + k ≡ from + suc k = omega arith in
    entry_line i p (from + 1) ws k (omega arith) ∙ ap (λ (x : ℕ). line_of i p x (get_or ws k 0)) e

length-lines : (i p from : ℕ) (ws : List ℕ) → length (table_lines i p from ws) ≡ length ws
unfolding table_lines
length-lines i p from [] = refl
length-lines i p from (w ∷ ws) = ap suc (length-lines i p (from + 1) ws)

-- the lines of a table's words
table-words : (i p k : ℕ) (t : List ℕ) (es : List Entry) (ws : List ℕ)
    → word_lines (table_entries i p k (length t) ++ es) (t ++ ws) ≡ table_lines i p k t ++ word_lines es ws
unfolding word_lines table_entries table_lines
table-words i p k [] es ws = refl
table-words i p k (w ∷ t) es ws = ap (λ (ls : List (List ℕ)). line_of i p k w ∷ ls) (table-words i p (k + 1) t es ws)

module _ (d : Domain) where
  length-places : (qs : List Place)
      → length (flat_map (λ q. table_lines q.expander q.phy 0 (table d q.expander q.phy)) qs)
      ≡ length (flat_map (λ q. table d q.expander q.phy) qs)
  unfolding flat_map
  length-places [] = refl
  length-places (q ∷ qs) =
      let t : List ℕ = table d q.expander q.phy in
      length-append (table_lines q.expander q.phy 0 t) _ ∙ ap₂ ◌+◌ (length-lines q.expander q.phy 0 t) (length-places qs) ∙ sym (length-append t _)

  -- as many lines as the totals say entries
  pub lines-needed : length (entry_lines d) ≡ needed d
  unfolding entry_lines tables
  lines-needed = length-places (table_places d) ∙ tables-length d

  place-lines : (qs : List Place) (rest : List ℕ)
      → word_lines (place_entries d qs) (flat_map (λ q. table d q.expander q.phy) (with_tables d qs) ++ rest)
      ≡ flat_map (λ q. table_lines q.expander q.phy 0 (table d q.expander q.phy)) (with_tables d qs)
  unfolding word_lines place_entries table_entries size keep flat_map
  place-lines [] rest = refl
  place-lines (q ∷ qs) rest = go (is_table (phy_at d q.expander q.phy)) (place-lines qs rest)
    where
      go : (b : Bool)
          → word_lines (place_entries d qs) (flat_map (λ q. table d q.expander q.phy) (with_tables d qs) ++ rest)
          ≡ flat_map (λ q. table_lines q.expander q.phy 0 (table d q.expander q.phy)) (with_tables d qs)
          → word_lines (table_entries q.expander q.phy 0 (cond b (expander_at d q.expander).route_indexes 0) ++ place_entries d qs)
          (flat_map (λ q. table d q.expander q.phy) (cond b (q ∷ with_tables d qs) (with_tables d qs)) ++ rest)
          ≡ flat_map (λ q. table_lines q.expander q.phy 0 (table d q.expander q.phy)) (cond b (q ∷ with_tables d qs) (with_tables d qs))
      go true h =
          let i : ℕ = q.expander in
          let p : ℕ = q.phy in
          let t : List ℕ = table d i p in
          let ts : List ℕ = flat_map (λ q. table d q.expander q.phy) (with_tables d qs) in
          ap₂ (λ (n : ℕ) (ws : List ℕ). word_lines (table_entries i p 0 n ++ place_entries d qs) ws) (sym (table-length d i p)) (append_assoc t ts rest)
          ∙ table-words i p 0 t (place_entries d qs) (ts ++ rest) ∙ ap (λ (ls : List (List ℕ)). table_lines i p 0 t ++ ls) h
      go false h = h

  -- words that begin with the domain's tables
  pub tables-lines : (rest : List ℕ) → lines_from d (tables d ++ rest) (cursor 0 0 0 0) ≡ entry_lines d
  unfolding tables entry_lines table_places
  tables-lines rest = ap (λ (es : List Entry). word_lines es (tables d ++ rest)) (sym (expander-on d 0)) ∙ place-lines (places d) rest

-- what `routes` lists of a file accepted under a setting (its own is the widest): its lines, the lines and totals as one text, and the chunks and totals one after the
-- other, as many chunks as there are entries or more (the last ones have no line)
pub record Listed (setting : Setting) (file : List ℕ) (t w : ℕ) (rows words : List ℕ) : Type 0 where
  pub domain : Domain
  pub accepted : judged setting file ≡ good domain
  pub lines : lines_from (domain_in rows) words (cursor 0 0 0 0) ≡ entry_lines domain
  pub text : text_of (lines_from (domain_in rows) words (cursor 0 0 0 0)) ++ totals_of t w ≡ listing_of domain
  pub chunks : (n : ℕ) → needed domain ≤ n → chunks_from (domain_in rows) words (cursor 0 0 0 0) n ++ totals_of t w ≡ listing_of domain

-- from what `read_domain` promises, and `give_rows` over the rows that it wrote
pub listed : (setting : Setting) (file before after first low : List ℕ) (lent left : Entries) (n t w : ℕ) → length before ≡ most_row_words → length first ≡ most_slots → length low ≡ most_domain_phys
    → RowsRead setting file (good n) before after
    → OwnDone (then (judged_in setting.chain (length first) (length low) (domain_in (take (row_words * n) after))) (tables_for (room_of lent))) (good (record { table_count = t; word_count = w })) lent left
    → Listed setting file t w (take (row_words * n) after) left.words
unfolding listing_of
listed setting file before after first low lent left n t w eb ef el r done =
    let o = opened setting file before after (λ x q. let g = read-good setting file x q in omega (arith, g.few, g.range.expanders.1)) (good n) r in
    let here : Domain = domain_in (take (row_words * n) after) in
    let room : IndexRoom here first low = let few = o.1 in record { slots = omega (arith, few.0, few.1); phys = omega (arith, few.0, few.1) } in
    let g = call-done setting file lent left here (judged_in setting.chain (length first) (length low) here) (good (record { table_count = t; word_count = w })) o.0 (judged_own setting file first low here o.0 room) done in
    let a = then-good (table_call setting file (room_of lent)) counts_in (record { table_count = t; word_count = w }) (sym g.answers) in
    let d : Domain = a.0 in
    let c = (table_call_iff setting file d (room_of lent)).0 a.1 in
    let e : here ≡ d = good-one _ _ (sym o.0 ∙ ((judged-file setting file d).0 c.0).0) in
    let f = good-one _ _ a.2 in
    let q : left.words ≡ tables d ++ drop (length (tables d)) lent.words = ap (λ (x : Entries). x.words) (g.left ∙ ap (λ (x : Result Domain). tables_after x lent) a.1) in
    let l : lines_from (domain_in (take (row_words * n) after)) left.words (cursor 0 0 0 0) ≡ entry_lines d =
    ap₂ (λ (x : Domain) (y : List ℕ). lines_from x y (cursor 0 0 0 0)) e q ∙ tables-lines d (drop (length (tables d)) lent.words) in
    let x : text_of (lines_from (domain_in (take (row_words * n) after)) left.words (cursor 0 0 0 0)) ++ totals_of t w ≡ listing_of d =
    ap₂ (λ (ls : List (List ℕ)) (y : Counted). text_of ls ++ totals_of y.table_count y.word_count) l (sym f) in
    record {
      domain = d;
      accepted = c.0;
      lines = l;
      text = x;
      chunks = λ k h.
          ap (λ (ls : List ℕ). ls ++ totals_of t w)
          (all-chunks k (domain_in (take (row_words * n) after)) left.words (cursor 0 0 0 0) (omega (arith, ap length l, lines-needed d))) ∙ x;
    }
