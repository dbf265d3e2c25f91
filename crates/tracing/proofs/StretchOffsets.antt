-- The offset of a stretch: the words of the expanders before its own, and of the phys below its own. What is among its words.
use Prim.Native.Nat.{ℕ, zero, suc, ◌+◌, ◌-◌, ◌≤◌, ◌<◌}
use mathlib.Core.Path.{◌≡◌, refl, sym, ◌∙◌, ap}
use mathlib.Core.Bool.{Bool, true, false, cond, not, ◌||◌, ◌&&◌, true≢false}
use mathlib.Core.List.{List, [], ◌∷◌, ◌++◌}
use mathlib.Core.Logic.{by_cases}
use native.Mathlib.Decide.{ℕ_discrete}
use native.Mathlib.Omega.{arith}
use native.Mathlib.Nat.{add-zero, zero-add, sub-zero}
use native.Mathlib.Numerals.{add-one}
use lib.ListN.{length, get_or, take, drop, drop_of_length-le}
use lib.Seq.{take-add, drop-drop}
use lib.Dec.{eqb}
use borrow.Author.Tests.{eq-eqb, ne_eqb, eqb-false}
use Rattle.tables.specs.WiringDefinitions.{Domain, Expander, no_expander, expander_at}
use Rattle.tables.specs.WiringDefinitions.{bits_of, any, is_in}
use Rattle.tables.specs.WiringDefinitions.{Place, place, phy_places, places_from}
use Rattle.tables.specs.filling.Tables.{size, sizes, offset_in, offset}
use Rattle.tables.specs.filling.Entries.{entries, counted}
use Rattle.tables.proofs.filling.CountedWords.{counted-at, counted-length}
use Rattle.tables.proofs.filling.TablesPut.{sizes-append}
use Rattle.tracing.specs.Answers.{words_before}
use Rattle.tables.proofs.WiringLemmas.{drop-next, any_append}

-- the words of the phys of expander i below a phy, one more at a time
phys-last : (d : Domain) (i q p : ℕ) → sizes d (phy_places i q (suc p)) ≡ sizes d (phy_places i q p) + size d (place i (q + p))
unfolding sizes phy_places
phys-last d i q zero = rw (add-zero q) (omega arith)
phys-last d i q (suc p) =
    let e : q + 1 + p ≡ q + suc p = omega arith in
    let h = rw e at (phys-last d i (q + 1) p) in
    omega arith

pub phys-next : (d : Domain) (i p : ℕ) → sizes d (phy_places i 0 (p + 1)) ≡ sizes d (phy_places i 0 p) + size d (place i p)
phys-next d i p = rw add-one (phys-last d i 0 p ∙ ap (λ (x : ℕ). sizes d (phy_places i 0 p) + size d (place i x)) (zero-add p))

pub phys-none : (d : Domain) (i : ℕ) → sizes d (phy_places i 0 0) ≡ 0
unfolding sizes phy_places
phys-none d i = refl

-- the offset of the table of phy p of expander i
module _ (d : Domain) (i p : ℕ) where
  offset-by : (q : Place) (l : List Place) {a b : Bool} → eqb q.expander i ≡ a → eqb q.phy p ≡ b
      → offset_in d i p (q ∷ l) ≡ cond (a && b) 0 (size d q + offset_in d i p l)
  unfolding offset_in
  offset-by q l e f = rw (e, f)

  -- the phys of another expander
  offset-past : (k q n : ℕ) (l : List Place) → (k ≡ i → ⊥) → offset_in d i p (phy_places k q n ++ l) ≡ sizes d (phy_places k q n) + offset_in d i p l
  unfolding sizes phy_places
  offset-past k q zero l f = omega arith
  offset-past k q (suc n) l f =
      let h = offset-past k (q + 1) n l f in
      let e = offset-by (place k q) (phy_places k (q + 1) n ++ l) (ne_eqb k i f) refl in
      omega arith

  -- its own expander's phys, from q on
  offset-among : (q n : ℕ) (l : List Place) → q ≤ p → p < q + n → offset_in d i p (phy_places i q n ++ l) ≡ sizes d (phy_places i q (p - q))
  unfolding sizes phy_places
  offset-among q zero l h k = absurd (omega arith)
  offset-among q (suc n) l h k = by_cases (ℕ_discrete q p) found (λ f. further f (offset-among (q + 1) n l (omega arith) (omega arith)))
    where
      found : q ≡ p → offset_in d i p (phy_places i q (suc n) ++ l) ≡ sizes d (phy_places i q (p - q))
      found e =
          let z : p - q ≡ 0 = omega arith in
          offset-by (place i q) (phy_places i (q + 1) n ++ l) (eq-eqb i i refl) (eq-eqb q p e) ∙ rw z

      further : (q ≡ p → ⊥) → offset_in d i p (phy_places i (q + 1) n ++ l) ≡ sizes d (phy_places i (q + 1) (p - (q + 1)))
          → offset_in d i p (phy_places i q (suc n) ++ l) ≡ sizes d (phy_places i q (p - q))
      further f r =
          let z : p - q ≡ suc (p - (q + 1)) = omega arith in
          offset-by (place i q) (phy_places i (q + 1) n ++ l) (eq-eqb i i refl) (ne_eqb q p f) ∙ ap (λ (x : ℕ). size d (place i q) + x) r ∙ rw z

  offset-from : (k : ℕ) (l : List Expander) (j : ℕ) → k + j ≡ i → p < length (get_or l j no_expander).phys
      → offset_in d i p (places_from k l) ≡ sizes d (places_from k (take j l)) + sizes d (phy_places i 0 p)
  unfolding sizes places_from
  offset-from k [] zero e h = absurd (omega arith)
  offset-from k [] (suc j) e h = absurd (omega arith)
  offset-from k (x ∷ l) zero e h =
      let z : k ≡ i = omega arith in
      let g = offset-among 0 (length x.phys) (places_from (i + 1) l) (omega arith) (omega arith) in
      let s : p - 0 ≡ p = omega arith in
      let f = rw s at g in
      rw z (omega arith)
  offset-from k (x ∷ l) (suc j) e h =
      let m : List Place = phy_places k 0 (length x.phys) in
      let f : k ≡ i → ⊥ = λ z. omega arith in
      let a = offset-past k 0 (length x.phys) (places_from (k + 1) l) f in
      let b = offset-from (k + 1) l j (omega arith) h in
      let c = sizes-append d m (places_from (k + 1) (take j l)) in
      omega arith

  pub offset-is : p < length (expander_at d i).phys → offset d i p ≡ words_before d i + sizes d (phy_places i 0 p)
  offset-is h = offset-from 0 d i (zero-add i) h

-- is s among so many words from k on: `inv` is the loop's invariant
module _ (s left k : ℕ) (l : List ℕ) {v : Bool} (inv : is_in s (take left (drop k l)) ≡ v) where
  pub lists_out : length l ≤ k → false ≡ v
  unfolding is_in any
  lists_out h = sym (rw (drop_of_length-le l h) (none left)) ∙ inv
    where
      none : (n : ℕ) → any (eqb s) (take n []) ≡ false
      none zero = refl
      none (suc n) = refl

  lists-next : 0 < left → k < length l → is_in s (take left (drop k l)) ≡ (eqb s (get_or l k 0) || is_in s (take (left - 1) (drop (k + 1) l)))
  unfolding is_in any
  lists-next h g =
      let e : left ≡ suc (left - 1) = omega arith in
      let f = drop-next 0 l k g in
      ap (λ (n : ℕ). is_in s (take n (drop k l))) e ∙ ap (λ (m : List ℕ). is_in s (take (suc (left - 1)) m)) f

  pub lists-stop : get_or l k 0 ≡ s → 0 < left → k < length l → true ≡ v
  lists-stop e h g = sym (lists-next h g ∙ rw (eq-eqb s (get_or l k 0) (sym e))) ∙ inv

  pub lists-go : (get_or l k 0 ≡ s → ⊥) → 0 < left → k < length l → is_in s (take (left - 1) (drop (k + 1) l)) ≡ v
  lists-go f h g = sym (lists-next h g ∙ rw (ne_eqb s (get_or l k 0) (λ e. f (sym e)))) ∙ inv

  pub lists-end : left ≤ 0 → false ≡ v
  unfolding is_in any
  lists-end h = let e : left ≡ 0 = omega arith in sym (rw e) ∙ inv

-- word k as it counts, beside s: with its bit clear and set
module _ (words bits : List ℕ) (k s : ℕ) (h : k < length words) where
  entry-by : {b : Bool} → eqb (get_or (bits_of bits) k 0) 0 ≡ b → get_or (counted (entries words bits)) k 0 ≡ cond b (get_or words k 0) 0
  entry-by e = counted-at (bits_of bits) words k h ∙ ap (λ (b : Bool). cond b (get_or words k 0) 0) e

  pub entry-clear : get_or words k 0 ≡ s → get_or (bits_of bits) k 0 ≡ 0 → true ≡ eqb (get_or (counted (entries words bits)) k 0) s
  entry-clear e b = sym (eq-eqb (get_or (counted (entries words bits)) k 0) s (entry-by (eq-eqb (get_or (bits_of bits) k 0) 0 b) ∙ e))

  pub entry_set : (get_or (bits_of bits) k 0 ≡ 0 → ⊥) → eqb 0 s ≡ eqb (get_or (counted (entries words bits)) k 0) s
  entry_set b = ap (λ (n : ℕ). eqb n s) (sym (entry-by (ne_eqb (get_or (bits_of bits) k 0) 0 b)))

  pub entry_other : (get_or words k 0 ≡ s → ⊥) → (s ≡ 0 → ⊥) → false ≡ eqb (get_or (counted (entries words bits)) k 0) s
  entry_other e z = go (eqb (get_or (bits_of bits) k 0) 0) refl
    where
      go : (b : Bool) → eqb (get_or (bits_of bits) k 0) 0 ≡ b → false ≡ eqb (get_or (counted (entries words bits)) k 0) s
      go true f = sym (ne_eqb (get_or (counted (entries words bits)) k 0) s (λ g. e (sym (entry-by f) ∙ g)))
      go false f = sym (ne_eqb (get_or (counted (entries words bits)) k 0) s (λ g. z (sym g ∙ entry-by f)))

  pub entry_zero : (get_or words k 0 ≡ s → ⊥) → s ≡ 0 → not (eqb (get_or (bits_of bits) k 0) 0) ≡ eqb (get_or (counted (entries words bits)) k 0) s
  entry_zero e z = go (eqb (get_or (bits_of bits) k 0) 0) refl
    where
      go : (b : Bool) → eqb (get_or (bits_of bits) k 0) 0 ≡ b → not (eqb (get_or (bits_of bits) k 0) 0) ≡ eqb (get_or (counted (entries words bits)) k 0) s
      go true f = ap not f ∙ sym (ne_eqb (get_or (counted (entries words bits)) k 0) s (λ g. e (sym (entry-by f) ∙ g)))
      go false f = ap not f ∙ sym (eq-eqb (get_or (counted (entries words bits)) k 0) s (entry-by f ∙ sym z))

-- r words without s and eight more without it
pub passed-more : (s r at : ℕ) (l : List ℕ) → is_in s (take r (drop at l)) ≡ false → is_in s (take 8 (drop (at + r) l)) ≡ false
    → is_in s (take (r + 8) (drop at l)) ≡ false
unfolding is_in
passed-more s r at l h e =
    let m : List ℕ = take r (drop at l) in
    let d : take 8 (drop r (drop at l)) ≡ take 8 (drop (at + r) l) = ap (take 8) (drop-drop r at l) in
    ap (any (eqb s)) (take-add r 8 (drop at l)) ∙ any_append (eqb s) m (take 8 (drop r (drop at l))) ∙ rw (h, d, e)

-- where s is not 0, it is among the words that count exactly when it is among those after r words without it
module _ (words bits : List ℕ) (s : ℕ) (z : s ≡ 0 → ⊥) where
  pub passed : (r at n : ℕ) → is_in s (take r (drop at words)) ≡ false → r ≤ n → r ≤ length words - at
      → is_in s (take (n - r) (drop (at + r) (counted (entries words bits)))) ≡ is_in s (take n (drop at (counted (entries words bits))))
  passed zero at n e h k = rw (add-zero at, sub-zero n) refl
  passed (suc r) at n e h k =
      let l : List ℕ = counted (entries words bits) in
      let c : length l ≡ length words = counted-length (bits_of bits) words in
      let f : get_or words at 0 ≡ s → ⊥ = λ q. true≢false (lists-stop s (suc r) at words e q (omega arith) (omega arith)) in
      let g : get_or l at 0 ≡ s → ⊥ = eqb-false (get_or l at 0) s (sym (entry_other words bits at s (omega arith) f z)) in
      let a : suc r - 1 ≡ r = omega arith in
      let rest = rw a at (lists-go s (suc r) at words e f (omega arith) (omega arith)) in
      let b : n - 1 - r ≡ n - suc r = omega arith in
      let d : at + 1 + r ≡ at + suc r = omega arith in
      rw (b, d) at (passed r (at + 1) (n - 1) rest (omega arith) (omega arith)) ∙ lists-go s n at l refl g (omega arith) (omega arith)
