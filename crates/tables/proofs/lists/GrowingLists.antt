-- Lists that grow in loops: numbers with room for so many, words and lists copied one after the other, zeros after them.
-- `inv` is the loop's invariant; a turn takes `piece` from what is left, `rest ≡ piece ++ rest'`.
use Prim.Native.Nat.{ℕ, ◌+◌, ◌-◌, ◌≤◌, ◌<◌}
use mathlib.Core.Path.{◌≡◌, refl, sym, ◌∙◌, ap}
use mathlib.Core.Bool.{Bool, cond, ◌||◌}
use mathlib.Core.List.{List, [], ◌∷◌, ◌++◌, flat_map, append-nil, append_assoc}
use native.Mathlib.Omega.{arith}
use lib.ListN.{length, get_or, take, drop, set, replicate, length-set, length-append, length-replicate}
use lib.ListN.{drop_of_length-le, take-append-drop, replicate-append-replicate}
use lib.Seq.{set_at, length-take-le}
use lib.Dec.{leb}
use Rattle.files.specs.declared.Phy.{Phy}
use Rattle.files.specs.Lists.{is_in}
use Rattle.files.specs.Domain.{Domain}
use Rattle.files.proofs.OneMore.{drop-next, set_next}
use Rattle.tables.specs.filling.Tables.{give, give_all}
use Rattle.tables.specs.lists.GrowingLists.{add, add_all, Grown}

-- one place in what is left to go through, place by place
module _ {A B : Type 0} (f : A → List B) where
  pub flat_append : (l m : List A) → flat_map f (l ++ m) ≡ flat_map f l ++ flat_map f m
  unfolding flat_map
  flat_append [] m = refl
  flat_append (a ∷ l) m = ap (λ (n : List B). f a ++ n) (flat_append l m) ∙ sym (append_assoc (f a) (flat_map f l) (flat_map f m))

  pub flat_next : (e : A) (l : List A) (k : ℕ) → k < length l → flat_map f (drop k l) ≡ f (get_or l k e) ++ flat_map f (drop (k + 1) l)
  unfolding flat_map
  flat_next e l k h = ap (flat_map f) (drop-next e l k h)

  pub flat_last : (l : List A) (k : ℕ) → length l ≤ k → flat_map f (drop k l) ≡ []
  unfolding flat_map
  flat_last l k h = ap (flat_map f) (drop_of_length-le l h)

-- one number more, where there is room and it is new
pub add-by : (room : ℕ) (l : List ℕ) (j : ℕ) {r a b : Bool} → r ≡ is_in j l → r ≡ a → leb room (length l) ≡ b
    → add_all room l (j ∷ []) ≡ cond (a || b) l (l ++ (j ∷ []))
unfolding add_all add
add-by room l j q e h = rw (sym q, e, h)

pub add_all-append : (room : ℕ) (l xs ys : List ℕ) → add_all room l (xs ++ ys) ≡ add_all room (add_all room l xs) ys
unfolding add_all
add_all-append room l [] ys = refl
add_all-append room l (x ∷ xs) ys = add_all-append room (add room l x) xs ys

pub add_all-none : (room : ℕ) (l : List ℕ) → add_all room l [] ≡ l
unfolding add_all
add_all-none room l = refl

pub grown-kept : (n : ℕ) (next : List ℕ) {l : List ℕ} → l ≡ take n next → n ≤ length next → Grown next next n l
grown-kept n next q h = record { same = refl; fits = h; whole = sym q }

pub grown-more : (n : ℕ) (next : List ℕ) {l : List ℕ} (j : ℕ) → l ≡ take n next ++ (j ∷ []) → n < length next → Grown next (set next n j) (n + 1) l
grown-more n next j q h = record { same = length-set next n j; fits = omega arith; whole = set_next next n j h ∙ sym q }

pub grown-again : {before after : List ℕ} {r : ℕ} {l : List ℕ} → Grown before after r l → Grown after after r l
grown-again {before} {after} {r} g = let s = g.same in let h = g.fits in record { same = refl; fits = omega arith; whole = g.whole }

pub grown-length : {before after : List ℕ} {r : ℕ} {l : List ℕ} → Grown before after r l → r ≡ length l
grown-length {before} {after} {r} {l} g =
    let s = g.same in
    let f = g.fits in
    sym (length-take-le r after (omega arith)) ∙ ap length g.whole

pub grown-same : {before after : List ℕ} {r : ℕ} {l m : List ℕ} → Grown before after r l → l ≡ m → Grown before after r m
grown-same g q = record { same = g.same; fits = g.fits; whole = g.whole ∙ q }

-- words copied one by one after the first ones
module _ (to k : ℕ) (part words : List ℕ) {v : List ℕ} (inv : take to part ++ drop k words ≡ v) where
  pub copy-go : to < length part → k < length words → take (to + 1) (set part to (get_or words k 0)) ++ drop (k + 1) words ≡ v
  copy-go h i =
      let w : List ℕ = get_or words k 0 ∷ [] in
      ap (λ (l : List ℕ). l ++ drop (k + 1) words) (set_next part to (get_or words k 0) h) ∙ append_assoc (take to part) w (drop (k + 1) words)
      ∙ ap (λ (l : List ℕ). take to part ++ l) (sym (drop-next 0 words k i)) ∙ inv

  pub copy-end : length words ≤ k → take to part ≡ v
  copy-end h = sym (append-nil (take to part)) ∙ ap (λ (l : List ℕ). take to part ++ l) (sym (drop_of_length-le words h)) ∙ inv

-- lists copied one after the other, by a call for each
module _ (f : ℕ → List ℕ) (m k : ℕ) (part order : List ℕ) {v : List ℕ} (inv : take m part ++ flat_map f (drop k order) ≡ v) where
  lists-next : k < length order → take m part ++ (f (get_or order k 0) ++ flat_map f (drop (k + 1) order)) ≡ v
  lists-next h = ap (λ (l : List ℕ). take m part ++ l) (sym (flat_next f 0 order k h)) ∙ inv

  pub lists-fit : k < length order → m ≤ length part → m + length (f (get_or order k 0)) ≤ length v
  lists-fit h i =
      let o : List ℕ = f (get_or order k 0) in
      let rest : List ℕ = flat_map f (drop (k + 1) order) in
      omega (arith, ap length (lists-next h), length-append (take m part) (o ++ rest), length-append o rest, length-take-le m part i)

  pub lists-go : {after : List ℕ} {r : ℕ} → Grown part after r (take m part ++ f (get_or order k 0)) → k < length order
      → take r after ++ flat_map f (drop (k + 1) order) ≡ v
  lists-go g h =
      let rest : List ℕ = flat_map f (drop (k + 1) order) in
      ap (λ (l : List ℕ). l ++ rest) g.whole ∙ append_assoc (take m part) (f (get_or order k 0)) rest ∙ lists-next h

  pub lists-end : length order ≤ k → take m part ≡ v
  lists-end h = sym (append-nil (take m part)) ∙ ap (λ (l : List ℕ). take m part ++ l) (sym (flat_last f order k h)) ∙ inv

-- what phys give, piece by piece
pub give_all-append : (d : Domain) (x : ℕ) (l : List ℕ) (xs ys : List Phy) → give_all d x l (xs ++ ys) ≡ give_all d x (give_all d x l xs) ys
unfolding give_all
give_all-append d x l [] ys = refl
give_all-append d x l (φ ∷ xs) ys = give_all-append d x (give d x l φ) xs ys

-- zeros from n on
pub fill_start : (n : ℕ) (l : List ℕ) → l ≡ (take n l ++ replicate (n - n) 0) ++ drop n l
fill_start n l =
    let e : n - n ≡ 0 = omega arith in
    rw (e, append-nil) (sym (take-append-drop n l))

-- one word set after p
set_after : (p l : List ℕ) (i v : ℕ) → length p ≡ i → i < length l → set (p ++ drop i l) i v ≡ (p ++ (v ∷ [])) ++ drop (i + 1) l
set_after p l i v q h =
    ap (λ (r : List ℕ). set (p ++ r) i v) (drop-next 0 l i h) ∙ set_at p (get_or l i 0) (drop (i + 1) l) v i q
    ∙ sym (append_assoc p (v ∷ []) (drop (i + 1) l))

module _ (n i : ℕ) (l m : List ℕ) (inv : m ≡ (take n l ++ replicate (i - n) 0) ++ drop i l) where
  pub fill-turn : n ≤ i → i < length l → set m i 0 ≡ (take n l ++ replicate (i + 1 - n) 0) ++ drop (i + 1) l
  fill-turn h k =
      let o : ℕ = 0 in
      let s : length (take n l ++ replicate (i - n) o) ≡ i =
      length-append (take n l) (replicate (i - n) o) ∙ omega (arith, length-take-le n l (omega arith), length-replicate {A = ℕ} (i - n) o) in
      let e : i - n + 1 ≡ i + 1 - n = omega arith in
      let z : replicate (i - n) o ++ (o ∷ []) ≡ replicate (i + 1 - n) o = replicate-append-replicate (i - n) 1 o ∙ ap (λ (x : ℕ). replicate x o) e in
      ap (λ (r : List ℕ). set r i o) inv ∙ set_after (take n l ++ replicate (i - n) o) l i o s k
      ∙ ap (λ (r : List ℕ). r ++ drop (i + 1) l) (append_assoc (take n l) (replicate (i - n) o) (o ∷ []) ∙ ap (λ (r : List ℕ). take n l ++ r) z)

  pub fill_end : i ≤ length l → length l ≤ i → m ≡ take n l ++ replicate (length l - n) 0
  fill_end h k =
      let e : i ≡ length l = omega arith in
      inv ∙ ap (λ (r : List ℕ). (take n l ++ replicate (i - n) 0) ++ r) (drop_of_length-le l k) ∙ append-nil (take n l ++ replicate (i - n) 0)
      ∙ ap (λ (x : ℕ). take n l ++ replicate (x - n) 0) e
