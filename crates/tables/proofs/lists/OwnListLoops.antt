-- Own lists: which phys give words to them, by the lowest phy with their address, and lists that grow phy by phy.
use Prim.Native.Nat.{ℕ, zero, suc, ◌+◌, ◌*◌, ◌≤◌, ◌<◌}
use mathlib.Core.Path.{◌≡◌, refl, sym, ◌∙◌, ap, subst}
use mathlib.Core.Logic.{by_cases}
use mathlib.Core.Bool.{Bool, true, false, cond, not, ◌||◌, ◌&&◌}
use mathlib.Core.List.{List, [], ◌∷◌, ◌++◌, append-nil, append_assoc}
use native.Mathlib.Decide.{ℕ_discrete, dec_lt}
use native.Mathlib.Omega.{arith}
use native.Mathlib.Numerals.{add-one}
use lib.ListN.{length, get_or, take, drop, set, length-take, length-append, drop_of_length-le, get_or-eq_default}
use lib.Seq.{drop-cons, length-take-le, get_or-set_same, get_or-set_other}
use lib.Dec.{T, eqb}
use Rattle.files.specs.declared.Phy.{Phy}
use Rattle.files.specs.declared.Phy.TheVariants.{Vacant}
use Rattle.files.specs.Lists.{any}
use Rattle.files.specs.Domain.{Domain, Expander, no_expander, expander_at, phy_at, address_of, attached, is_table, is_direct, bears}
use Rattle.files.specs.Rows.{domain_in}
use Rattle.files.proofs.ListMembers.{or_right, is_true, was_true}
use Rattle.tables.specs.filling.Tables.{word}
use Rattle.tables.specs.lists.OwnLists.{lower, owns, own_words_from, own_words}
use Rattle.tables.specs.lists.GrowingLists.{Grown}
use Rattle.wiring.specs.index.AddressIndex.{IndexedLow, lowest_phy}
use Rattle.wiring.proofs.index.IndexEntries.{low_told}
use Rattle.wiring.proofs.index.SlotDevices.{short_in}
use borrow.Author.Tests.{eq-eqb, ne_eqb}
use Rattle.tables.specs.lists.PreparedLists.{OwnListsHeld, owns_by, own_list_words}
use Rattle.tables.proofs.lists.ListCells.{cell-count, cell-list, cell-fits}

pub lower-has : (s : ℕ) (φs : List Phy) (q : ℕ) → bears s (get_or φs q (Vacant 0)) ≡ true → (p : ℕ) → q < p → true ≡ any (bears s) (lower φs p)
unfolding any lower
lower-has s φs q t zero h = absurd (omega (arith, h))
lower-has s φs q t (suc p) h =
    by_cases (dec_lt q p)
    (λ k. sym (is_true _ (or_right (bears s (get_or φs p (Vacant 0))) _ (was_true _ (sym (lower-has s φs q t p k))))))
    (λ k. let e : q ≡ p = omega arith in sym (rw (sym e, t) refl))

lower-none : (s : ℕ) (φs : List Phy) (p : ℕ) → ((r : ℕ) → r < p → bears s (get_or φs r (Vacant 0)) ≡ false) → any (bears s) (lower φs p) ≡ false
unfolding any lower
lower-none s φs zero none = refl
lower-none s φs (suc p) none = rw (none p (omega arith)) (lower-none s φs p (λ r h. none r (omega arith)))

-- by the lowest phy with its address, a phy gives its word to the own list
pub owns-low : (d : Domain) (i p : ℕ) (low : List ℕ) (φ : Phy) → φ ≡ phy_at d i p → p < 128 → IndexedLow d low → owns_by low i p φ ≡ owns (lower (expander_at d i).phys p) φ
unfolding owns
owns-low d i p low φ e h index = ap (λ b. is_direct φ || (is_table φ && b)) (go (attached φ) refl)
  where
    first : T (attached φ) → eqb (lowest_phy low i p) p ≡ not (any (bears (address_of φ)) (lower (expander_at d i).phys p))
    first t =
        let l = low_told d i p h low index (subst (λ ψ. T (attached ψ)) e t) in
        let a : address_of (phy_at d i p) ≡ address_of φ = ap address_of (sym e) in
        by_cases (ℕ_discrete (lowest_phy low i p) p)
        (λ z. eq-eqb (lowest_phy low i p) p z ∙ sym (ap not (lower-none (address_of φ) (expander_at d i).phys p (λ r k. rw a at (l.none r (rw z k))))))
        (λ z. ne_eqb (lowest_phy low i p) p z
        ∙ ap not (lower-has (address_of φ) (expander_at d i).phys (lowest_phy low i p) (is_true _ (rw a at l.bearing)) p (let k = l.low in omega arith)))

    go : (b : Bool) → attached φ ≡ b → (attached φ && eqb (lowest_phy low i p) p) ≡ (attached φ && not (any (bears (address_of φ)) (lower (expander_at d i).phys p)))
    go true q = ap (λ b. attached φ && b) (first (was_true (attached φ) q))
    go false q = rw q

-- the words so far and what is left, phy by phy. `inv` is the loop's invariant
module _ (φs : List Phy) (p : ℕ) (l : List ℕ) {v : List ℕ} (inv : l ++ own_words_from (lower φs p) (drop p φs) ≡ v) where
  own_next : (φ : Phy) {b : Bool} → φ ≡ get_or φs p (Vacant 0) → owns (lower φs p) φ ≡ b → p < length φs
      → own_words_from (lower φs p) (drop p φs) ≡ cond b (word φ ∷ []) [] ++ own_words_from (lower φs (p + 1)) (drop (p + 1) φs)
  unfolding own_words_from lower
  own_next φ {b} q t h =
      let e : drop p φs ≡ φ ∷ drop (suc p) φs = drop-cons φs p (Vacant 0) h ∙ rw q in
      rw (add-one p, e, t, sym q) (by b)
    where
      by : (c : Bool) → cond c (word φ ∷ own_words_from (φ ∷ lower φs p) (drop (suc p) φs)) (own_words_from (φ ∷ lower φs p) (drop (suc p) φs))
          ≡ cond c (word φ ∷ []) [] ++ own_words_from (φ ∷ lower φs p) (drop (suc p) φs)
      by true = refl
      by false = refl

  pub count-go : (φ : Phy) {b : Bool} (m : ℕ) {m' w : ℕ} → φ ≡ get_or φs p (Vacant 0) → b ≡ owns (lower φs p) φ → m' ≡ m + cond b 1 0
      → p < length φs → m + length (own_words_from (lower φs p) (drop p φs)) ≡ w → m' + length (own_words_from (lower φs (p + 1)) (drop (p + 1) φs)) ≡ w
  count-go φ {b} m {m'} {w} q t e h c =
      let rest : List ℕ = own_words_from (lower φs (p + 1)) (drop (p + 1) φs) in
      let n = ap length (own_next φ q (sym t) h) ∙ length-append (cond b (word φ ∷ []) []) rest in
      let o : length (cond b (word φ ∷ []) []) ≡ cond b 1 0 = by b in
      omega arith
    where
      by : (c : Bool) → length (cond c (word φ ∷ []) []) ≡ cond c 1 0
      by true = refl
      by false = refl

  pub own_go : (φ : Phy) {b : Bool} {l' : List ℕ} → φ ≡ get_or φs p (Vacant 0) → b ≡ owns (lower φs p) φ → l' ≡ l ++ cond b (word φ ∷ []) []
      → p < length φs → l' ++ own_words_from (lower φs (p + 1)) (drop (p + 1) φs) ≡ v
  own_go φ {b} {l'} q t e h =
      let rest : List ℕ = own_words_from (lower φs (p + 1)) (drop (p + 1) φs) in
      ap (λ (x : List ℕ). x ++ rest) e ∙ append_assoc l (cond b (word φ ∷ []) []) rest ∙ sym (ap (λ (x : List ℕ). l ++ x) (own_next φ q (sym t) h)) ∙ inv

  pub count-end : (m : ℕ) {w : ℕ} → length φs ≤ p → m + length (own_words_from (lower φs p) (drop p φs)) ≡ w → m ≡ w
  unfolding own_words_from
  count-end m h c = let e : length (own_words_from (lower φs p) (drop p φs)) ≡ 0 = rw (drop_of_length-le φs h) in omega arith

  pub own_end : length φs ≤ p → l ≡ v
  unfolding own_words_from
  own_end h = sym (rw (drop_of_length-le φs h, append-nil)) ∙ inv

-- lengths, expander by expander
pub counts-next : (f : ℕ → ℕ) (counts : List ℕ) (i c : ℕ) → ((k : ℕ) → k < i → get_or counts k 0 ≡ f k) → c ≡ f i → i < length counts
    → (k : ℕ) → k < i + 1 → get_or (set counts i c) k 0 ≡ f k
counts-next f counts i c all here h k l = by_cases (ℕ_discrete k i)
    (λ e. let q : get_or (set counts i c) k 0 ≡ c = rw e (get_or-set_same counts i c 0 h) in q ∙ here ∙ ap f (sym e))
    (λ e. get_or-set_other counts i k c 0 e ∙ all k (omega arith))

pub one-most : (b : Bool) → cond {A = ℕ} b 1 0 ≤ 1
one-most true = omega arith
one-most false = omega arith

-- a phy gives one word at most
pub put-most : (m : ℕ) (b : Bool) (w : ℕ) {before after : List ℕ} {r : ℕ} → Grown before after r (take m before ++ cond b (w ∷ []) []) → r ≤ m + 1
put-most m b w {before} {after} {r} g =
    let s = g.same in
    let f = g.fits in
    let n : length (take r after) ≡ length (take m before) + length (cond b (w ∷ []) []) =
    ap length g.whole ∙ length-append (take m before) (cond b (w ∷ []) []) in
    omega (arith, length-take m before, length-take-le r after (omega arith), by b)
  where
    by : (c : Bool) → length (cond c (w ∷ []) []) ≤ 1
    by true = omega arith
    by false = omega arith

-- before the first phy
pub own_start : (d : Domain) (i : ℕ) → own_words_from (lower (expander_at d i).phys 0) (expander_at d i).phys ≡ own_words d i
unfolding own_words lower
own_start d i = refl

-- an own list has at most as many words as the expander has phys
from-few : (l φs : List Phy) → length (own_words_from l φs) ≤ length φs
unfolding own_words_from
from-few l [] = omega arith
from-few l (φ ∷ φs) = go (owns l φ) (from-few (φ ∷ l) φs)
  where
    go : (b : Bool) → length (own_words_from (φ ∷ l) φs) ≤ length φs
        → length (cond b (word φ ∷ own_words_from (φ ∷ l) φs) (own_words_from (φ ∷ l) φs)) ≤ suc (length φs)
    go true h = omega arith
    go false h = omega arith

pub own_few : (ws : List ℕ) (i : ℕ) → length (own_words (domain_in ws) i) ≤ 128
unfolding own_words
own_few ws i = omega (arith, from-few [] (expander_at (domain_in ws) i).phys, short_in ws i)

-- past the last expander
pub own_none : (d : Domain) (i : ℕ) → length d ≤ i → own_words d i ≡ []
unfolding own_words own_words_from
own_none d i h = ap (λ (e : Expander). own_words_from [] e.phys) (get_or-eq_default d no_expander h)

-- the own list of an expander, where they stand in words
module _ (d : Domain) (words : List ℕ) (held : OwnListsHeld d words) (i : ℕ) (h : i < length d) where
  pub own_count_lem : get_or words (own_list_words * i) 0 ≡ length (own_words d i)
  own_count_lem = cell-count own_list_words (own_words d) (length d) words held.cell i h

  pub own_list : take (length (own_words d i)) (drop (own_list_words * i + 1) words) ≡ own_words d i
  own_list = cell-list own_list_words (own_words d) (length d) words held.cell i h

  pub own_fits : own_list_words * i + 1 + length (own_words d i) ≤ length words
  own_fits = cell-fits own_list_words (own_words d) (length d) words held.cell i h
