-- Lists in words, each with its length before it, one every `stride` words: putting them one after the other, and reading them.
use Prim.Native.Nat.{ℕ, zero, suc, ◌+◌, ◌-◌, ◌*◌, ◌≤◌, ◌<◌}
use mathlib.Core.Path.{◌≡◌, sym, ◌∙◌, ap, subst}
use mathlib.Core.Logic.{by_cases}
use mathlib.Core.List.{List, [], ◌∷◌, ◌++◌}
use native.Mathlib.Decide.{dec_lt}
use native.Mathlib.Omega.{arith}
use native.Mathlib.Nat.{zero-add, suc-add, add-zero, mul-suc, mul-le-mul_left}
use native.Mathlib.Numerals.{add-one}
use lib.ListN.{length, get_or, take, drop, set, length-take, length-drop, length-append}
use lib.Seq.{take-nil, take-take, drop_at, drop-drop, get_or-take, get_or-drop, length-take-le, take-append-le, take-set-le, set_split}
use Rattle.tables.specs.lists.GrowingLists.{Grown}
use Rattle.tables.specs.lists.PreparedLists.{Cells}

module _ {A : Type 0} where
  drop-take : (a c : ℕ) (l : List A) → drop a (take (a + c) l) ≡ take c (drop a l)
  drop-take zero c l = rw (zero-add c)
  drop-take (suc a) c [] = rw (suc-add a c) (sym (take-nil c))
  drop-take (suc a) c (x ∷ l) = rw (suc-add a c) (drop-take a c l)

  -- what stands among the first n depends on these only
  pub within : (n a c : ℕ) (l m : List A) → a + c ≤ n → take n l ≡ take n m → take c (drop a l) ≡ take c (drop a m)
  within n a c l m h q =
      let s : take (a + c) l ≡ take (a + c) m = sym (take-take (a + c) n l h) ∙ ap (take (a + c)) q ∙ take-take (a + c) n m h in
      sym (drop-take a c l) ∙ ap (drop a) s ∙ drop-take a c m

-- one list, put into a lent part, and its length before it
module _ (ws : List ℕ) (a k : ℕ) (r : List ℕ) (m : ℕ) (fits : a + 1 + k ≤ length ws) where
  abbrev lent : List ℕ
  lent = take (a + 1) ws ++ (r ++ drop k (drop (a + 1) ws))

  long : length (take (a + 1) ws) ≡ a + 1
  long = length-take-le (a + 1) ws (omega arith)

  put-before : take a (set lent a m) ≡ take a ws
  put-before =
      take-set-le a lent a m (omega arith) ∙ take-append-le a (take (a + 1) ws) (r ++ drop k (drop (a + 1) ws)) (omega (arith, long))
      ∙ take-take a (a + 1) ws (omega arith)

  put-cell : (l : List ℕ) → m ≤ length r → take m r ≡ l → take (suc (length l)) (drop a (set lent a m)) ≡ length l ∷ l
  put-cell l h q =
      let z : List ℕ = r ++ drop k (drop (a + 1) ws) in
      let n : length l ≡ m = sym (ap length q) ∙ length-take-le m r h in
      let s : a < length lent = omega (arith, length-append (take (a + 1) ws) z, long) in
      let b : length (take a lent) ≡ a = length-take-le a lent (omega arith) in
      let e : drop (suc a) lent ≡ z = rw (sym (add-one a)) (drop_at (take (a + 1) ws) z (a + 1) long) in
      let f : drop a (set lent a m) ≡ m ∷ z = ap (drop a) (set_split lent a m s) ∙ drop_at (take a lent) (m ∷ drop (suc a) lent) a b ∙ rw e in
      let t : take m z ≡ l = take-append-le m r (drop k (drop (a + 1) ws)) h ∙ q in
      ap (take (suc (length l))) f ∙ rw (n, t)

module _ (stride : ℕ) (list : ℕ → List ℕ) where
  -- one cell more, where the cells before stay
  pub cells_next : (i : ℕ) (ws ws' : List ℕ) → Cells stride list i ws → ((j : ℕ) → length (list j) < stride)
      → take (stride * i) ws' ≡ take (stride * i) ws → take (suc (length (list i))) (drop (stride * i) ws') ≡ length (list i) ∷ list i
      → Cells stride list (i + 1) ws'
  cells_next i ws ws' cells few q e j h =
      by_cases (dec_lt j i)
      (λ k. let s : stride * suc j ≤ stride * i = mul-le-mul_left stride (omega arith) in
      within (stride * i) (stride * j) (suc (length (list j))) ws' ws (omega (arith, s, mul-suc stride j, few j)) q ∙ cells j k)
      (λ k. let s : i ≡ j = omega arith in
      subst (λ (x : ℕ). take (suc (length (list x))) (drop (stride * x) ws') ≡ length (list x) ∷ list x) s e)

  -- one list more, put by a call that was lent k words
  pub cells_put : (i : ℕ) (ws : List ℕ) → Cells stride list i ws → ((j : ℕ) → length (list j) < stride) → {part r : List ℕ} {m : ℕ}
      → Grown part r m (list i) → (a k : ℕ) → a ≡ stride * i → length part ≡ k → a + 1 + k ≤ length ws
      → Cells stride list (i + 1) (set (take (a + 1) ws ++ (r ++ drop k (drop (a + 1) ws))) a m)
  cells_put i ws cells few {part} {r} {m} g a k q n h =
      let ws' : List ℕ = set (take (a + 1) ws ++ (r ++ drop k (drop (a + 1) ws))) a m in
      let s = g.same in
      let f = g.fits in
      let b : take (stride * i) ws' ≡ take (stride * i) ws = rw (sym q) (put-before ws a k r m h) in
      let c : take (suc (length (list i))) (drop (stride * i) ws') ≡ length (list i) ∷ list i =
      rw (sym q) (put-cell ws a k r m h (list i) (omega arith) g.whole) in
      cells_next i ws ws' cells few b c

  -- the length and the list of a cell
  module _ (n : ℕ) (words : List ℕ) (cells : Cells stride list n words) (i : ℕ) (h : i < n) where
    pub cell-count : get_or words (stride * i) 0 ≡ length (list i)
    cell-count =
        let w : List ℕ = drop (stride * i) words in
        let e : get_or w 0 0 ≡ get_or words (stride * i) 0 = get_or-drop (stride * i) words 0 0 ∙ rw add-zero in
        sym e ∙ sym (get_or-take (suc (length (list i))) w 0 0 (omega arith)) ∙ ap (λ (l : List ℕ). get_or l 0 0) (cells i h)

    pub cell-list : take (length (list i)) (drop (stride * i + 1) words) ≡ list i
    cell-list =
        let k : ℕ = length (list i) in
        let w : List ℕ = drop (stride * i) words in
        let e : 1 + k ≡ suc k = omega arith in
        ap (take k) (sym (drop-drop 1 (stride * i) words)) ∙ sym (drop-take 1 k w) ∙ ap (λ (x : ℕ). drop 1 (take x w)) e ∙ ap (drop 1) (cells i h)

    pub cell-fits : stride * i + 1 + length (list i) ≤ length words
    cell-fits =
        let k : ℕ = length (list i) in
        let w : List ℕ = drop (stride * i) words in
        let e : length (take (suc k) w) ≡ suc k = ap length (cells i h) in
        omega (arith, length-take (suc k) w, length-drop (stride * i) words)

-- the words of a cell after its count
pub part-long : (stride a : ℕ) (l : List ℕ) → a + stride ≤ length l → length (take (a + stride - (a + 1)) (drop (a + 1) l)) ≡ a + stride - (a + 1)
part-long stride a l h = length-take-le (a + stride - (a + 1)) (drop (a + 1) l) (omega (arith, length-drop (a + 1) l))
