-- What exceeds the limits says nothing: the bytes after a header that states too many expanders, and the words after 64 rows.
use Prim.Native.Nat.{ℕ, zero, suc, ◌+◌, ◌*◌, ◌/◌, ◌%◌, ◌<◌, min}
use mathlib.Core.Path.{◌≡◌, refl, sym, ◌∙◌, ap}
use mathlib.Core.Bool.{Bool, true, false, cond}
use mathlib.Core.List.{List, [], ◌∷◌}
use native.Mathlib.Omega.{arith}
use lib.ListN.{length, get_or, take, drop}
use lib.Seq.{get_or-take, get_or-drop, length-take-le}
use lib.Dec.{eqb}
use borrow.Author.Tests.{le-leb, lt-leb}
use Rattle.frames.specs.Bytes.{byte}
use Rattle.frames.specs.Refusals.{refused, refusal}
use Rattle.files.specs.declared.Setting.{Setting}
use Rattle.files.specs.Settings.{in_range}
use Rattle.files.specs.File.{header_unit, domain_read}
use Rattle.files.specs.Rows.{phys_in, row_in, rows_in, domain_in, row_words, most_row_words}
use Rattle.files.proofs.ListMembers.{was_true}
use Rattle.files.proofs.SettingRanges.{range_iff}

module _ (setting : Setting) where
  -- 22 for a setting out of range, else 2 or 3
  too_many : (a b : ℕ) (rest : List ℕ) (o x : Bool) → in_range setting ≡ o → eqb a 0x10 ≡ x → 64 < b
      → domain_read setting (a ∷ (b ∷ rest)) ≡ refused (refusal (cond o (cond x 3 2) 22) 0 0)
  unfolding domain_read header_unit
  too_many a b rest false x r q k = rw r refl
  too_many a b rest true false r q k = simp (r, le-leb 2 (length (a ∷ (b ∷ rest))) (omega arith), q)
  too_many a b rest true true r q k =
      let few = ((range_iff setting).0 (was_true (in_range setting) r)).expanders.1 in
      simp (r, le-leb 2 (length (a ∷ (b ∷ rest))) (omega arith), q, le-leb 1 b (omega arith), lt-leb b setting.expanders (omega arith))

  -- a file that states more than 64 expanders reads as its first two bytes do
  pub header_cut : (file : List ℕ) → 2 < length file → 64 < byte file 1 → domain_read setting (take 2 file) ≡ domain_read setting file
  header_cut [] h k = absurd (omega arith)
  header_cut (a ∷ []) h k = absurd (omega arith)
  header_cut (a ∷ (b ∷ rest)) h k =
      too_many a b [] (in_range setting) (eqb a 0x10) refl refl k ∙ sym (too_many a b rest (in_range setting) (eqb a 0x10) refl refl k)

abbrev Alike : ℕ → List ℕ → List ℕ → Type 0
Alike n u v = (k : ℕ) → k < n → get_or u k 0 ≡ get_or v k 0

alike-drop : (n m : ℕ) (u v : List ℕ) → Alike (m + n) u v → Alike n (drop m u) (drop m v)
alike-drop n m u v h k l = get_or-drop m u k 0 ∙ h (m + k) (omega arith) ∙ sym (get_or-drop m v k 0)

phys-alike : (n : ℕ) (u v : List ℕ) → Alike (2 * n) u v → phys_in n u ≡ phys_in n v
unfolding phys_in
phys-alike zero u v h = refl
phys-alike (suc n) u v h = rw (h 0 (omega arith), h 1 (omega arith), phys-alike n (drop 2 u) (drop 2 v) (alike-drop (2 * n) 2 u v (λ k l. h k (omega arith)))) refl

row-alike : (u v : List ℕ) → Alike row_words u v → row_in u ≡ row_in v
unfolding row_in
row-alike u v h =
    let w = get_or v 1 0 in
    rw (h 0 (omega arith), h 1 (omega arith), phys-alike (min 128 (w / 65536 % 256)) (drop 2 u) (drop 2 v) (alike-drop _ 2 u v (λ k l. h k (omega arith)))) refl

rows_alike : (n : ℕ) (u v : List ℕ) → Alike (row_words * n) u v → rows_in n u ≡ rows_in n v
unfolding rows_in
rows_alike zero u v h = refl
rows_alike (suc n) u v h = rw (row-alike u v (λ k l. h k (omega arith)), rows_alike n (drop row_words u) (drop row_words v) (alike-drop (row_words * n) row_words u v (λ k l. h k (omega arith)))) refl

-- words are read as their first 64 rows are
pub rows_cut : (ws : List ℕ) → most_row_words < length ws → domain_in (take most_row_words ws) ≡ domain_in ws
unfolding domain_in
rows_cut ws h =
    let n = length-take-le most_row_words ws (omega arith) in
    let m : min 64 (length (take most_row_words ws) / row_words) ≡ min 64 (length ws / row_words) = omega (arith, n) in
    ap (λ k. rows_in k (take most_row_words ws)) m ∙ rows_alike (min 64 (length ws / row_words)) (take most_row_words ws) ws (λ k l. get_or-take most_row_words ws k 0 (omega arith))
