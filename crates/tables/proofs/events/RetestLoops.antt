-- Testing a domain again after one phy was replaced, turn by turn: who has an address, clashes with lower phys, lower phys that bear an
-- address, and one own list more among those that stand. `inv` is the loop's invariant.
use Prim.Native.Nat.{ℕ, zero, suc, ◌+◌, ◌-◌, ◌*◌, ◌≤◌, ◌<◌}
use mathlib.Core.Path.{◌≡◌, refl, sym, ◌∙◌, ap, ap₂}
use mathlib.Core.Logic.{by_cases}
use mathlib.Core.Bool.{Bool, true, false, ◌||◌, ◌&&◌, or_assoc, or-false}
use mathlib.Core.List.{List, [], ◌∷◌, ◌++◌}
use native.Mathlib.Decide.{dec_lt}
use native.Mathlib.Omega.{arith}
use native.Mathlib.Nat.{zero-add, add-zero}
use native.Mathlib.Numerals.{add-one}
use lib.ListN.{length, get_or, take, drop, set, length-take}
use lib.Seq.{take-suc, get_or-take, drop-set-lt, drop-drop, length-take-le}
use lib.Dec.{eqb, ltb}
use Rattle.frames.proofs.PackedRows.{drop_past}
use Rattle.wiring.specs.FrameDefinitions.{Result, refused, good, then}
use Rattle.files.specs.declared.Phy.{Phy}
use Rattle.files.specs.declared.Phy.TheVariants.{Vacant}
use Rattle.files.specs.Lists.{any}
use Rattle.files.specs.Domain.{Domain, no_expander, expander_at, phy_at, address_of, attached, to_end, bears, number_of}
use Rattle.wiring.specs.phys.PhyCauses.{end_at, clash, clashing, phy_places, places_from, first_in, first_of}
use Rattle.wiring.specs.phys.Checks.{check_answer}
use Rattle.wiring.specs.index.AddressIndex.{is_taken}
use Rattle.files.proofs.ListMembers.{by-test, is_true, was_true, any_of, any_append, in_take}
use Rattle.wiring.proofs.phys.PlaceSearches.{any-go, any-end, from_next}
use Rattle.tables.specs.lists.GrowingLists.{Grown, places_at}
use Rattle.tables.specs.lists.OwnLists.{lower, own_words}
use Rattle.tables.specs.lists.PreparedLists.{Cells, own_overlong, own_list_words}
use Rattle.tables.specs.events.ReplugCall.{claimed_with, retested, OwnListsHeldBut}
use Rattle.tables.specs.events.EndDeviceTests.{is_end, ends_at, is_found}
use Rattle.tables.proofs.lists.ListCells.{cells_put}

-- booleans
and_yes : (a b : Bool) → (a && (b && true)) ≡ (a && b)
and_yes a true = refl
and_yes a false = refl

and_no : (a b : Bool) → (a && (b && false)) ≡ false
and_no true true = refl
and_no true false = refl
and_no false b = refl

-- the first place among the phys of one expander, by what the test says there
module _ (k : ℕ) (d : Domain) (i : ℕ) where
  first-same : (f g : ℕ → ℕ → Bool) → ((q : ℕ) → f i q ≡ g i q) → (n p : ℕ) → first_in k f (phy_places i p n) d ≡ first_in k g (phy_places i p n) d
  unfolding first_in phy_places
  first-same f g e zero p = refl
  first-same f g e (suc n) p = rw (e p, first-same f g e n (p + 1))

  first-none : (f : ℕ → ℕ → Bool) → ((q : ℕ) → f i q ≡ false) → (n p : ℕ) → first_in k f (phy_places i p n) d ≡ good d
  unfolding first_in phy_places
  first-none f e zero p = refl
  first-none f e (suc n) p = rw (e p) (first-none f e n (p + 1))

  -- a search finds something where the test holds of a phy
  abbrev failed : Result Domain → Bool
  failed (refused r) = true
  failed (good e) = false

  first_any : (f : ℕ → ℕ → Bool) (g : Phy → Bool) (φs : List Phy) (p : ℕ) → ((q : ℕ) → f i (p + q) ≡ g (get_or φs q (Vacant 0)))
      → failed (first_in k f (phy_places i p (length φs)) d) ≡ any g φs
  unfolding first_in phy_places any
  first_any f g [] p e = refl
  first_any f g (φ ∷ φs) p e =
      let here : f i p ≡ g φ = rw add-zero at (e 0) in
      by-test (g φ) (λ t. rw (here, t) refl)
      (λ t. rw (here, t) (first_any f g φs (p + 1) (λ q. let z : p + 1 + q ≡ p + suc q = omega arith in ap (f i) z ∙ e (suc q))))

  found-is : (a : Result Unit) → is_found a ≡ failed (check_answer d a)
  found-is (refused r) = refl
  found-is (good tt) = refl

-- before the first expander
pub taken_start : (s : ℕ) (d : Domain) {t : Bool} → t ≡ ltb (number_of d s) (length d) → t ≡ is_taken d 0 s
unfolding any
taken_start s d e = e ∙ sym (or-false (ltb (number_of d s) (length d)))

-- 8 of one address at one expander
module _ (s : ℕ) (d : Domain) (i : ℕ) where
  claim_all : is_taken d i s ≡ true → first_in 8 (claimed_with s d) (places_at d i) d ≡ first_in 8 (ends_at s d) (places_at d i) d
  unfolding claimed_with ends_at
  claim_all t = first-same 8 d i (claimed_with s d) (ends_at s d) (λ q. rw t (and_yes (to_end (phy_at d i q)) (eqb (address_of (phy_at d i q)) s))) (length (expander_at d i).phys) 0

  claim_none : is_taken d i s ≡ false → first_in 8 (claimed_with s d) (places_at d i) d ≡ good d
  unfolding claimed_with
  claim_none t = first-none 8 d i (claimed_with s d) (λ q. rw t (and_no (to_end (phy_at d i q)) (eqb (address_of (phy_at d i q)) s))) (length (expander_at d i).phys) 0

  found-end : (a : Result Unit) → check_answer d a ≡ first_in 8 (ends_at s d) (places_at d i) d → is_found a ≡ end_at s (expander_at d i)
  unfolding end_at ends_at
  found-end a e =
      found-is 8 d i a ∙ ap (failed 8 d i) e ∙ first_any 8 d i (ends_at s d) (is_end s) (expander_at d i).phys 0 (λ q. rw (zero-add q) refl)

  pub taken_next : (t f : Bool) (a : Result Unit) → t ≡ is_taken d i s → f ≡ is_found a → check_answer d a ≡ first_in 8 (ends_at s d) (places_at d i) d → i < length d
      → (t || f) ≡ is_taken d (i + 1) s
  unfolding any
  taken_next t f a p q e h =
      let x : Bool = ltb (number_of d s) (length d) in
      let y : Bool = any (end_at s) (take i d) in
      let n : take (i + 1) d ≡ take i d ++ (expander_at d i ∷ []) = rw add-one (take-suc d i no_expander h) in
      let z : any (end_at s) (take (i + 1) d) ≡ (y || end_at s (expander_at d i)) =
      ap (any (end_at s)) n ∙ any_append (end_at s) (take i d) (expander_at d i ∷ []) ∙ ap (λ (b : Bool). y || b) (or-false (end_at s (expander_at d i))) in
      ap₂ ◌||◌ p (q ∙ found-end a e) ∙ or_assoc x y (end_at s (expander_at d i)) ∙ ap (λ (b : Bool). x || b) (sym z)

  -- one turn
  module _ {v : Result Domain} (inv : first_in 8 (claimed_with s d) (places_from i (drop i d)) d ≡ v) where
    pub claim_stop : (t f : Bool) (a : Result Unit) → t ≡ is_taken d i s → f ≡ is_found a → check_answer d a ≡ first_in 8 (ends_at s d) (places_at d i) d → i < length d
        → (t && f) ≡ true → check_answer d a ≡ v
    claim_stop true f (refused r) p q e h z = from_next 8 (claimed_with s d) d i inv {r = refused r} (e ∙ sym (claim_all (sym p))) refl h
    claim_stop true f (good tt) p q e h z = absurd (was_true false (sym q ∙ z))
    claim_stop false f a p q e h z = absurd (was_true false z)

    pub claim_go : (t f : Bool) (a : Result Unit) → t ≡ is_taken d i s → f ≡ is_found a → check_answer d a ≡ first_in 8 (ends_at s d) (places_at d i) d → i < length d
        → (t && f) ≡ false → first_in 8 (claimed_with s d) (places_from (i + 1) (drop (i + 1) d)) d ≡ v
    claim_go true f (refused r) p q e h z = absurd (was_true false (sym z ∙ q))
    claim_go true f (good tt) p q e h z = from_next 8 (claimed_with s d) d i inv {r = (good tt)} (e ∙ sym (claim_all (sym p))) refl h
    claim_go false f a p q e h z = from_next 8 (claimed_with s d) d i inv {r = (good tt)} (sym (claim_none (sym p))) refl h

-- 9 at one phy
clash-none : (φ : Phy) → attached φ ≡ false → (l : List Phy) → any (clash φ) l ≡ false
unfolding any clash
clash-none φ e [] = refl
clash-none φ e (ψ ∷ l) = rw e (clash-none φ e l)

pub no_clash : (d : Domain) (i p : ℕ) {φ : Phy} → φ ≡ phy_at d i p → attached φ ≡ false → false ≡ clashing d i p
unfolding clashing
no_clash d i p q e = sym (clash-none (phy_at d i p) (ap attached (sym q) ∙ e) (take p (expander_at d i).phys))

pub clash-start : (d : Domain) (i p : ℕ) {φ : Phy} → φ ≡ phy_at d i p → any (clash φ) (take p (expander_at d i).phys) ≡ clashing d i p
unfolding clashing
clash-start d i p q = ap (λ (φ : Phy). any (clash φ) (take p (expander_at d i).phys)) q

module _ (φs : List Phy) (φ : Phy) (p q : ℕ) {v : Bool} (inv : any (clash φ) (drop q (take p φs)) ≡ v) where
  pub clash-go : {ψ : Phy} → ψ ≡ get_or φs q (Vacant 0) → q < p → clash φ ψ ≡ false → any (clash φ) (drop (q + 1) (take p φs)) ≡ v
  clash-go e h t = any-go (clash φ) (Vacant 0) (take p φs) q inv (ap (clash φ) (get_or-take p φs q (Vacant 0) h ∙ sym e) ∙ t)

  pub clash-end : p ≤ q → false ≡ v
  clash-end h = any-end (clash φ) (Vacant 0) (take p φs) q inv (omega (arith, length-take p φs))

pub clash-stop : (d : Domain) (i p q : ℕ) {φ ψ : Phy} → φ ≡ phy_at d i p → ψ ≡ phy_at d i q → q < p → p < length (expander_at d i).phys → clash φ ψ ≡ true
    → true ≡ clashing d i p
unfolding clashing
clash-stop d i p q {φ} {ψ} e f h k t =
    let x : clash (phy_at d i p) (phy_at d i q) ≡ true = sym (ap₂ clash e f) ∙ t in
    sym (is_true _ (any_of (clash (phy_at d i p)) (take p (expander_at d i).phys) (phy_at d i q) (in_take (expander_at d i).phys (Vacant 0) q p h (omega arith)) (was_true _ x)))

-- lower phys that bear an address, the highest first
lower-step : (φs : List Phy) (q : ℕ) → 0 < q → lower φs q ≡ get_or φs (q - 1) (Vacant 0) ∷ lower φs (q - 1)
unfolding lower
lower-step φs zero h = absurd (omega (arith, h))
lower-step φs (suc q) h = let e : suc q - 1 ≡ q = omega arith in rw e refl

module _ (φs : List Phy) (s q : ℕ) {v : Bool} (inv : any (bears s) (lower φs q) ≡ v) where
  lower-next : 0 < q → {φ : Phy} → φ ≡ get_or φs (q - 1) (Vacant 0) → any (bears s) (lower φs q) ≡ (bears s φ || any (bears s) (lower φs (q - 1)))
  unfolding any
  lower-next h e = ap (any (bears s)) (lower-step φs q h) ∙ ap (λ (ψ : Phy). bears s ψ || any (bears s) (lower φs (q - 1))) (sym e)

  pub lower-stop : 0 < q → {φ : Phy} → φ ≡ get_or φs (q - 1) (Vacant 0) → bears s φ ≡ true → true ≡ v
  lower-stop h e t = sym (lower-next h e ∙ ap (λ (b : Bool). b || any (bears s) (lower φs (q - 1))) t) ∙ inv

  pub lower-go : 0 < q → {φ : Phy} → φ ≡ get_or φs (q - 1) (Vacant 0) → bears s φ ≡ false → any (bears s) (lower φs (q - 1)) ≡ v
  lower-go h e t = sym (lower-next h e ∙ ap (λ (b : Bool). b || any (bears s) (lower φs (q - 1))) t) ∙ inv

  pub lower-end : q ≡ 0 → false ≡ v
  unfolding any lower
  lower-end e = sym (ap (λ (n : ℕ). any (bears s) (lower φs n)) e) ∙ inv

-- words after a list and its length were put into a lent part
put-after : (ws : List ℕ) (a k : ℕ) (r : List ℕ) (m n : ℕ) → length r ≡ k → a + 1 + k ≤ length ws → a + 1 + k ≤ n
    → drop n (set (take (a + 1) ws ++ (r ++ drop k (drop (a + 1) ws))) a m) ≡ drop n ws
put-after ws a k r m n e fits h =
    let t : ℕ = n - (a + 1 + k) in
    let x : List ℕ = drop k (drop (a + 1) ws) in
    let z : a + 1 + (k + t) ≡ n = omega arith in
    drop-set-lt n (take (a + 1) ws ++ (r ++ x)) a m (omega arith)
    ∙ drop_past (take (a + 1) ws) (r ++ x) (k + t) n (omega (arith, length-take-le (a + 1) ws (omega arith)))
    ∙ drop_past r x t (k + t) (omega arith) ∙ drop-drop t k (drop (a + 1) ws) ∙ drop-drop (k + t) (a + 1) ws ∙ ap (λ (j : ℕ). drop j ws) z

-- one own list put among the others
pub own_renewed : (d : Domain) (e : ℕ) (ws : List ℕ) → OwnListsHeldBut d e ws → ((j : ℕ) → length (own_words d j) < own_list_words) → e < length d → {part r : List ℕ} {m : ℕ}
    → Grown part r m (own_words d e) → (a k : ℕ) → a ≡ own_list_words * e → length part ≡ k → k ≡ 128 → a + 1 + k ≤ length ws
    → Cells own_list_words (own_words d) (length d) (set (take (a + 1) ws ++ (r ++ drop k (drop (a + 1) ws))) a m)
own_renewed d e ws but few l {part} {r} {m} g a k q n z h i b =
    let ws' : List ℕ = set (take (a + 1) ws ++ (r ++ drop k (drop (a + 1) ws))) a m in
    let s = g.same in
    by_cases (dec_lt i (e + 1))
    (λ y. cells_put own_list_words (own_words d) e ws (λ j y. but.cell j (omega arith) (λ x. absurd (omega arith))) few g a k q n h i y)
    (λ y. ap (take (suc (length (own_words d i)))) (put-after ws a k r m (own_list_words * i) (omega arith) h (omega arith)) ∙ but.cell i b (λ x. absurd (omega arith)))

-- 8, 9 and 14 in order, by what each search answers
in_order : {w x y a b c : Result Domain} → w ≡ a → x ≡ b → y ≡ c → then w (λ _. then x (λ _. y)) ≡ then a (λ _. then b (λ _. c))
in_order p q r = simp (p, q, r)

pub retested-by : (d : Domain) (e s : ℕ) {a b c : Result Domain} → first_of 8 (claimed_with s d) d ≡ a → first_in 9 (clashing d) (places_at d e) d ≡ b
    → first_of 14 (own_overlong d) d ≡ c → then a (λ _. then b (λ _. c)) ≡ retested e s d
unfolding retested
retested-by d e s p q r = sym (in_order p q r)
