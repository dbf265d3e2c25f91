-- One table in words of its own: the list and zeros after it.
use Prim.Native.Nat.{ℕ, ◌+◌, ◌-◌, ◌≤◌}
use mathlib.Core.Path.{◌≡◌, sym, ◌∙◌, ap}
use mathlib.Core.List.{List, ◌++◌, flat_map}
use native.Mathlib.Omega.{arith}
use lib.ListN.{length, take, replicate, length-append, length-replicate, replicate-append-replicate}
use lib.Seq.{take_at, take-append-add, length-take-le}
use Rattle.files.specs.Domain.{Domain}
use Rattle.tables.specs.lists.OwnLists.{own_words}
use Rattle.tables.specs.lists.GrowingLists.{Grown}
use Rattle.tables.specs.lists.PreparedLists.{own_words_of_order, filled_to, FilledFrom}
use Rattle.tables.proofs.lists.GrowingLists.{grown-length}

pub length-filled : (n : ℕ) (l : List ℕ) → length (filled_to n l) ≡ n
length-filled n l = length-take-le n (l ++ replicate n 0) (omega (arith, length-append l (replicate n 0), length-replicate {A = ℕ} n 0))

-- a list that has room, and as many zeros as there is room for
zeros-after : (l : List ℕ) (m n : ℕ) → length l + m ≡ n → filled_to n l ≡ l ++ replicate m 0
zeros-after l m n q =
    let o : ℕ = 0 in
    let u : n ≡ m + length l = omega arith in
    let t : replicate n o ≡ replicate m o ++ replicate (length l) o = ap (λ (y : ℕ). replicate y o) u ∙ sym (replicate-append-replicate m (length l) o) in
    ap (λ (y : ℕ). take y (l ++ replicate n o)) (sym q)
    ∙ take-append-add l (replicate n o) m
    ∙ ap (λ (y : List ℕ). l ++ take m y) t
    ∙ ap (λ (y : List ℕ). l ++ y) (take_at (replicate m o) (replicate (length l) o) m (length-replicate m o))

-- the own lists of its order, and zeros after them
module _ (d : Domain) (x p : ℕ) {order : List ℕ} {room : ℕ} (f : FilledFrom d x p order room) where
  pub from-order : flat_map (own_words d) order ≡ own_words_of_order d x p
  unfolding own_words_of_order
  from-order = ap (flat_map (own_words d)) f.ordered

  pub filled-room : length (flat_map (own_words d) order) ≤ room
  filled-room = omega (arith, ap length from-order, f.fits)

  pub order-filled : {part after end : List ℕ} {r : ℕ} → Grown part after r (flat_map (own_words d) order)
      → end ≡ take r after ++ replicate (length after - r) 0 → room ≡ length part → end ≡ filled_to (length part) (own_words_of_order d x p)
  order-filled {part} {after} {end} {r} g q e =
      let l : List ℕ = own_words_of_order d x p in
      let m : ℕ = length after - r in
      let n : r ≡ length l = grown-length g ∙ ap length from-order in
      q ∙ ap (λ (y : List ℕ). y ++ replicate m 0) (g.whole ∙ from-order)
      ∙ sym (zeros-after l m (length part) (omega (arith, g.same, g.fits)))
