-- The loops that set a word's bits and write one word for each expander, turn by turn.
use Prim.Native.Nat.{ℕ, zero, suc, ◌+◌, ◌*◌, ◌%◌, ◌^◌, ◌<◌}
use mathlib.Core.Path.{◌≡◌, refl, sym, ◌∙◌, ap, ap₂}
use mathlib.Core.Bool.{Bool, true, false}
use mathlib.Core.List.{List, [], ◌∷◌, ◌++◌, map, map-append}
use native.Mathlib.Omega.{arith}
use native.Mathlib.Nat.{one-mul, mod-eq_of_lt}
use native.Mathlib.Numerals.{add-one}
use lib.ListN.{length, get_or, drop, set, length-append, length-map, get_or-append}
use lib.Bits.{bit_or, or_shifted_r}
use lib.Pow.{pow-lt}
use lib.Count.{ones}
use Rattle.files.specs.Lists.{numbers}
use Rattle.files.specs.Domain.{Domain}
use Rattle.wiring.specs.graph.Neighbours.{neighbour_word, neighbour_words, bits_in}
use Rattle.wiring.specs.graph.Rounds.{WordEach}
use Rattle.files.proofs.ListMembers.{length-numbers, up_to-last}
use Rattle.wiring.proofs.graph.WordSets.{word_below, word_lt, word_set, word_skip}

-- a bit above those that are set
bit-set : (w j : ℕ) → w < 2 ^ j → j < 64 → bit_or w (1 * 2 ^ j % 18446744073709551616) ≡ w + 2 ^ j
bit-set w j h l =
    let e : 1 * 2 ^ j % 18446744073709551616 ≡ 1 * 2 ^ j = rw one-mul (mod-eq_of_lt (pow-lt l)) in
    let f = or_shifted_r 1 j w h in
    ap (bit_or w) e ∙ f ∙ omega arith

-- a turn of a loop that sets bit j where the test holds, and one where it does not
module _ (t : ℕ → Bool) (w j : ℕ) (inv : w ≡ word_below t j) where
  pub bit-go : j < 64 → t j ≡ true → bit_or w (1 * 2 ^ j % 18446744073709551616) ≡ word_below t (j + 1)
  bit-go l q =
      let h : w < 2 ^ j = rw inv (word_lt t j) in
      bit-set w j h l ∙ ap (λ (x : ℕ). x + 2 ^ j) inv ∙ sym (word_set t j q)

  pub bit_skip : t j ≡ false → w ≡ word_below t (j + 1)
  bit_skip q = inv ∙ sym (word_skip t j q)

-- one word more
store_next : (l s : List ℕ) (v : ℕ) → length l < length s → set (l ++ drop (length l) s) (length l) v ≡ (l ++ (v ∷ [])) ++ drop (suc (length l)) s
store_next l [] v h = absurd (omega arith)
store_next [] (x ∷ s) v h = refl
store_next (y ∷ l) (x ∷ s) v h = ap (λ (t : List ℕ). y ∷ t) (store_next l s v (omega arith))

-- one word for each of n expanders
length-row : (f : ℕ → ℕ) (n : ℕ) → length (map f (numbers 0 n)) ≡ n
length-row f n = length-map (numbers 0 n) f ∙ length-numbers 0 n

bits-last : (l : List ℕ) (w : ℕ) → bits_in (l ++ (w ∷ [])) ≡ bits_in l + ones w
unfolding bits_in
bits-last [] w = omega arith
bits-last (x ∷ l) w = omega (arith, bits-last l w)

module _ (f : ℕ → ℕ) (i : ℕ) where
  row_next : map f (numbers 0 (i + 1)) ≡ map f (numbers 0 i) ++ (f i ∷ [])
  row_next = rw add-one (ap (map f) (up_to-last i) ∙ map-append f (numbers 0 i) (i ∷ []))

  -- a turn of a loop that writes word i
  pub words-next : (words s : List ℕ) (v : ℕ) → words ≡ map f (numbers 0 i) ++ drop i s → v ≡ f i → i < length s
      → set words i v ≡ map f (numbers 0 (i + 1)) ++ drop (i + 1) s
  words-next words s v e q h =
      let n = length-row f i in
      let r : set (map f (numbers 0 i) ++ drop i s) i (f i) ≡ map f (numbers 0 (i + 1)) ++ drop (i + 1) s =
      rw (row_next, add-one) (rw n at (store_next (map f (numbers 0 i)) s (f i) (omega arith))) in
      ap₂ (λ (l : List ℕ) (x : ℕ). set l i x) e q ∙ r

  pub bits-next : bits_in (map f (numbers 0 (i + 1))) ≡ bits_in (map f (numbers 0 i)) + ones (f i)
  bits-next = rw row_next (bits-last (map f (numbers 0 i)) (f i))

-- one word for each expander
pub length-words : (d : Domain) → length (neighbour_words d) ≡ length d
unfolding neighbour_words
length-words d = length-row (neighbour_word d) (length d)

get_d_numbers : (f : ℕ → ℕ) (n v : ℕ) → v < n → get_or (map f (numbers 0 n)) v 0 ≡ f v
unfolding numbers
get_d_numbers f n v h = go n 0 v h ∙ ap f (omega arith)
  where
    go : (n i v : ℕ) → v < n → get_or (map f (numbers i n)) v 0 ≡ f (i + v)
    go zero i v h = absurd (omega arith)
    go (suc n) i zero h = ap f (omega arith)
    go (suc n) i (suc v) h = go n (i + 1) v (omega arith) ∙ ap f (omega arith)

-- such words at the front of lent words
pub each-held : (f : ℕ → ℕ) (n : ℕ) (words rest : List ℕ) → words ≡ map f (numbers 0 n) ++ rest → WordEach n f words
each-held f n words rest e =
    let l = length-row f n in
    record {
      enough = let m = ap length e ∙ length-append (map f (numbers 0 n)) rest in omega arith;
      word = λ v h. ap (λ s. get_or s v 0) e ∙ get_or-append (map f (numbers 0 n)) rest 0 v (omega arith) ∙ get_d_numbers f n v h;
    }
