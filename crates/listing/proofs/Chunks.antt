-- How many of some lines a chunk takes, and that the chunks one after the other are all lines.
use Prim.Native.Nat.{ℕ, zero, suc, ◌+◌, ◌≤◌, ◌<◌}
use mathlib.Core.Path.{◌≡◌, refl, sym, ◌∙◌, ap, ap₂}
use mathlib.Core.Bool.{Bool, true, false, cond}
use mathlib.Core.List.{List, [], ◌∷◌, ◌++◌, append_assoc}
use mathlib.Core.Logic.{by_cases}
use native.Mathlib.Decide.{dec_lt}
use native.Mathlib.Omega.{arith}
use lib.ListN.{length, get_or, drop, length-drop, drop_of_length-le}
use lib.Seq.{drop-drop}
use lib.Dec.{leb}
use borrow.Author.Tests.{le-leb, lt-leb}
use Rattle.tables.specs.WiringDefinitions.{Domain}
use Rattle.tables.specs.lists.GrowingLists.{WordsPut}
use Rattle.listing.specs.declared.Cursor.{Cursor}
use Rattle.listing.specs.Text.{line_of}
use Rattle.listing.specs.Lines.{Entry, word_lines, text_of, fitting, entries_from, lines_from, cursor_at, cursor_after, chunk_from, chunks_from, ChunkPut}
use Rattle.listing.proofs.Cursors.{entries-after}
use Rattle.listing.proofs.BytesPut.{Going, go-start, go-turn, go-end, put-within}
use Rattle.tables.proofs.WiringLemmas.{drop-next}

module _ (end : ℕ) where
  fit-go : (l : List ℕ) (ls : List (List ℕ)) → end + 80 ≤ 65536 → fitting end (l ∷ ls) ≡ l ∷ fitting (end + length l) ls
  unfolding fitting
  fit-go l ls h = rw (le-leb (end + 80) 65536 h)

  pub fit_full : (ls : List (List ℕ)) → 65456 < end → fitting end ls ≡ []
  unfolding fitting
  fit_full [] h = refl
  fit_full (l ∷ ls) h = rw (lt-leb (end + 80) 65536 (omega arith))

fit_line : (end : ℕ) (e : Entry) (es : List Entry) (w : ℕ) (ws : List ℕ) → end ≤ 65456
    → fitting end (word_lines (e ∷ es) (w ∷ ws))
    ≡ line_of e.expander e.phy e.index w ∷ fitting (end + length (line_of e.expander e.phy e.index w)) (word_lines es ws)
unfolding word_lines
fit_line end e es w ws h = fit-go end (line_of e.expander e.phy e.index w) (word_lines es ws) (omega arith)

fit-rest : (end : ℕ) (ls : List (List ℕ)) → fitting end ls ++ drop (length (fitting end ls)) ls ≡ ls
unfolding fitting
fit-rest end [] = refl
fit-rest end (l ∷ ls) = go (leb (end + 80) 65536) (fit-rest (end + length l) ls)
  where
    go : (b : Bool) → fitting (end + length l) ls ++ drop (length (fitting (end + length l) ls)) ls ≡ ls
        → cond b (l ∷ fitting (end + length l) ls) [] ++ drop (length (cond b (l ∷ fitting (end + length l) ls) [])) (l ∷ ls) ≡ l ∷ ls
    go true q = ap (λ (x : List (List ℕ)). l ∷ x) q
    go false q = refl

text-append : (ls ms : List (List ℕ)) → text_of (ls ++ ms) ≡ text_of ls ++ text_of ms
unfolding text_of
text-append [] ms = refl
text-append (l ∷ ls) ms = ap (λ (x : List ℕ). l ++ x) (text-append ls ms) ∙ sym (append_assoc l (text_of ls) (text_of ms))

text-next : (ls : List (List ℕ)) (l : List ℕ) (rest : List (List ℕ)) → ls ≡ l ∷ rest → text_of ls ≡ l ++ text_of rest
unfolding text_of
text-next ls l rest e = ap text_of e

text-none : (ls : List (List ℕ)) → ls ≡ [] → text_of ls ≡ []
unfolding text_of
text-none ls e = ap text_of e

no_element : (ls : List (List ℕ)) → length ls ≡ 0 → ls ≡ []
no_element [] h = refl
no_element (l ∷ ls) h = absurd (omega arith)

text-some : (ls : List (List ℕ)) → 0 < length (text_of ls) → 0 < length ls
unfolding text_of
text-some [] h = absurd (omega arith)
text-some (l ∷ ls) h = omega arith

lines_none : (es : List Entry) → word_lines es [] ≡ []
unfolding word_lines
lines_none [] = refl
lines_none (e ∷ es) = refl

-- where no word is left there is no line, as where no entry is
pub lines_end : (end : ℕ) (es : List Entry) (ws : List ℕ) (w : ℕ) → length ws ≤ w → fitting end (word_lines es (drop w ws)) ≡ []
unfolding fitting
lines_end end es ws w h = ap (λ (x : List ℕ). fitting end (word_lines es x)) (drop_of_length-le ws h) ∙ ap (fitting end) (lines_none es)

pub entries-end : (end : ℕ) (es : List Entry) (ws : List ℕ) → es ≡ [] → fitting end (word_lines es ws) ≡ []
unfolding fitting word_lines
entries-end end es ws q = ap (λ (x : List Entry). fitting end (word_lines x ws)) q

-- with as many entries and words left out, as many lines are
lines-drop : (n : ℕ) (es : List Entry) (ws : List ℕ) → word_lines (drop n es) (drop n ws) ≡ drop n (word_lines es ws)
unfolding word_lines
lines-drop zero es ws = refl
lines-drop (suc n) [] ws = refl
lines-drop (suc n) (e ∷ es) [] = lines_none (drop n es)
lines-drop (suc n) (e ∷ es) (w ∷ ws) = lines-drop n es ws

at-word : (d : Domain) (es : List Entry) (w : ℕ) → (cursor_at d es w).word ≡ w
at-word d [] w = refl
at-word d (e ∷ es) w = refl

module _ (ws : List ℕ) where
  -- the lines that still fit, of the entries es with the words from word w on, after `end` bytes
  abbrev to_put : List Entry → ℕ → ℕ → List (List ℕ)
  to_put es w end = fitting end (word_lines es (drop w ws))

  -- on the way: what is left to put of the lines of es₀, and where that ends
  pub record Putting (es₀ : List Entry) (w₀ : ℕ) (out₀ : List ℕ) (es : List Entry) (w : ℕ) (out : List ℕ) (end : ℕ) : Type 0 where
    pub entries : drop (length (to_put es w end)) es ≡ drop (length (to_put es₀ w₀ 0)) es₀
    pub word : w + length (to_put es w end) ≡ w₀ + length (to_put es₀ w₀ 0)
    pub text : Going out₀ 0 (text_of (to_put es₀ w₀ 0)) out end (text_of (to_put es w end))

  pub putting_start : {es : List Entry} {w : ℕ} {out : List ℕ} → Putting es w out es w out 0
  putting_start = record { entries = refl; word = refl; text = go-start }

  pub putting_same : {es₀ : List Entry} {w₀ : ℕ} {out₀ : List ℕ} {es es' : List Entry} {w w' : ℕ} {out : List ℕ} {end : ℕ}
      → es ≡ es' → w ≡ w' → Putting es₀ w₀ out₀ es w out end → Putting es₀ w₀ out₀ es' w' out end
  putting_same e f g = rw (e, f) at g

  module _ {es₀ : List Entry} {w₀ : ℕ} {out₀ : List ℕ} {es : List Entry} {w : ℕ} {out : List ℕ} {end : ℕ} (g : Putting es₀ w₀ out₀ es w out end) where
    -- one line more
    pub putting_line : {out' : List ℕ} {end' : ℕ} (e : Entry) (es' : List Entry) → es ≡ e ∷ es' → w < length ws → end ≤ 65456
        → WordsPut out out' end end' (line_of e.expander e.phy e.index (get_or ws w 0))
        → Putting es₀ w₀ out₀ es' (w + 1) out' end'
    putting_line {out'} {end'} e es' q h f u =
        let l : List ℕ = line_of e.expander e.phy e.index (get_or ws w 0) in
        let c = drop-next 0 ws w h in
        let t : to_put es w end ≡ l ∷ to_put es' (w + 1) end' =
        ap₂ (λ (x : List Entry) (y : List ℕ). fitting end (word_lines x y)) q c ∙ fit_line end e es' (get_or ws w 0) (drop (w + 1) ws) f
        ∙ ap (λ (n : ℕ). l ∷ fitting n (word_lines es' (drop (w + 1) ws))) (sym u.next) in
        record {
          entries = sym (ap₂ (λ (x : List (List ℕ)) (y : List Entry). drop (length x) y) t q) ∙ g.entries;
          word = omega (arith, ap length t, g.word);
          text = go-turn g.text _ u (text-next _ _ _ t);
        }

module _ {d : Domain} {ws : List ℕ} {from : Cursor} {out₀ : List ℕ} {es : List Entry} {w : ℕ} {out : List ℕ} {end : ℕ}
    (g : Putting ws (entries_from d from) from.word out₀ es w out end) where
  -- no line more: the chunk is put, and the cursor that remains stands at the entries left
  pub putting_end : (next : Cursor) → next ≡ cursor_at d es w → to_put ws es w end ≡ [] → end ≤ length out₀ → ChunkPut d ws from out₀ out next end
  putting_end next c q h =
      let n : ℕ = length (chunk_from d ws from) in
      let a : es ≡ drop n (entries_from d from) = sym (ap (λ (x : List (List ℕ)). drop (length x) es) q) ∙ g.entries in
      let b : w ≡ from.word + n = omega (arith, ap length q, g.word) in
      let t = go-end g.text (text-none _ q) in
      record { text = t; counts = put-within t h; place = c ∙ ap₂ (cursor_at d) a b }

-- a chunk that has text moves the cursor on to a later word
pub chunk_moves : {d : Domain} {ws : List ℕ} {from next : Cursor} {before after : List ℕ} {end : ℕ}
    → ChunkPut d ws from before after next end → 0 < end → from.word < next.word
chunk_moves {d} {ws} {from} u h =
    let n : ℕ = length (chunk_from d ws from) in
    let w = ap (λ (x : Cursor). x.word) u.place ∙ at-word d (drop n (entries_from d from)) (from.word + n) in
    omega (arith, text-some (chunk_from d ws from) (omega (arith, u.text.next)))

module _ (d : Domain) (ws : List ℕ) (from : Cursor) where
  -- the lines from the cursor so many lines on are those that were not put
  pub lines_after : (n : ℕ) → lines_from d ws (cursor_after d from n) ≡ drop n (lines_from d ws from)
  lines_after n =
      let es : List Entry = entries_from d from in
      ap₂ (λ (x : List Entry) (w : ℕ). word_lines x (drop w ws)) (entries-after d from n) (at-word d (drop n es) (from.word + n))
      ∙ ap (word_lines (drop n es)) (sym (drop-drop n from.word ws)) ∙ lines-drop n es (drop from.word ws)

  -- the text of a chunk, and then that of the lines from the cursor after it, is the text of all lines
  pub chunk_rest : text_of (chunk_from d ws from) ++ text_of (lines_from d ws (cursor_after d from (length (chunk_from d ws from))))
      ≡ text_of (lines_from d ws from)
  chunk_rest =
      let ls : List (List ℕ) = chunk_from d ws from in
      ap (λ (x : List (List ℕ)). text_of ls ++ text_of x) (lines_after (length ls))
      ∙ sym (text-append ls (drop (length ls) (lines_from d ws from))) ∙ ap text_of (fit-rest 0 (lines_from d ws from))

  -- a chunk has a line where one is left
  pub chunk_some : 0 < length (lines_from d ws from) → 0 < length (chunk_from d ws from)
  chunk_some h = some (lines_from d ws from) h
    where
      some : (ls : List (List ℕ)) → 0 < length ls → 0 < length (fitting 0 ls)
      some [] h = absurd (omega arith)
      some (l ∷ ls) h = omega (arith, ap length (fit-go 0 l ls (omega arith)))

-- as many chunks as there are lines, or more, are the text of all lines
pub all-chunks : (n : ℕ) (d : Domain) (ws : List ℕ) (c : Cursor) → length (lines_from d ws c) ≤ n → chunks_from d ws c n ≡ text_of (lines_from d ws c)
unfolding chunks_from
all-chunks zero d ws c h = sym (text-none (lines_from d ws c) (no_element (lines_from d ws c) (omega arith)))
all-chunks (suc n) d ws c h =
    let k : ℕ = length (chunk_from d ws c) in
    let l = ap length (lines_after d ws c k) ∙ length-drop k (lines_from d ws c) in
    let s : 0 < length (lines_from d ws c) → 0 < k = chunk_some d ws c in
    let f : length (lines_from d ws (cursor_after d c k)) ≤ n =
    by_cases (dec_lt 0 (length (lines_from d ws c))) (λ g. omega (arith, s g)) (λ g. omega arith) in
    ap (λ (x : List ℕ). text_of (chunk_from d ws c) ++ x) (all-chunks n d ws (cursor_after d c k) f) ∙ chunk_rest d ws c
