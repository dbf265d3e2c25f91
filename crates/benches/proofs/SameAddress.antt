-- 4 of a domain: the number of an address, the lowest expander that has the address of one before it, and what the reader of units says of it.
use Prim.Native.Nat.{ℕ, suc, ◌+◌, ◌-◌, ◌≤◌, ◌<◌}
use mathlib.Core.Path.{◌≡◌, refl, sym, ◌∙◌, ap, ap₂}
use mathlib.Core.Logic.{◌≢◌, inl, inr}
use mathlib.Core.Bool.{Bool, true, false, cond, ◌||◌}
use mathlib.Core.List.{List, [], ◌∷◌, ◌++◌, append_assoc, append-nil, map-append}
use native.Mathlib.Omega.{arith}
use lib.ListN.{length, length-append}
use lib.Seq.{get_or-append_seam}
use lib.Dec.{eqb, leb, eqb→eq}
use borrow.Author.Tests.{eq-eqb, ne_eqb, le-leb, lt-leb}
use Rattle.frames.specs.declared.Refusal.{Refusal}
use Rattle.frames.specs.Refusals.{Result, refused, good, unless, then, refusal}
use Rattle.files.specs.declared.Setting.{Setting}
use Rattle.files.specs.Lists.{any, In, is_in}
use Rattle.files.specs.ReadDomain.{ReadExpander, addresses}
use Rattle.files.specs.Domain.{Expander, Domain, no_expander, expander_at, number_of}
use Rattle.wiring.specs.phys.Checks.{check_answer}
use Rattle.files.specs.File.{expander_of}
use Rattle.files.proofs.ListMembers.{was_true, by-test}
use Rattle.tables.specs.lists.PreparedLists.{judged_in}
use Rattle.benches.specs.BenchRows.{repeated_from, repeated, differing, apart_in}
use Rattle.benches.proofs.FileUnits.{UnitBytes, UnitOf, UnitsOf, phys_all, expanders_all, tested_all, length-phys}

-- the lowest expander that has the address of one before it
module _ (d : Domain) (n k : ℕ) {v : ℕ} (inv : repeated_from d (n - k) k ≡ v) where
  repeated-next : k < n → repeated_from d (n - k) k ≡ cond (eqb (number_of d (expander_at d k).address) k) (repeated_from d (n - (k + 1)) (k + 1)) k
  unfolding repeated_from
  repeated-next h = let e : n - k ≡ suc (n - (k + 1)) = omega arith in rw e refl

  pub repeated-stop : k < n → number_of d (expander_at d k).address ≢ k → k ≡ v
  repeated-stop h q = sym (repeated-next h ∙ rw (ne_eqb (number_of d (expander_at d k).address) k q) refl) ∙ inv

  pub repeated-go : k < n → number_of d (expander_at d k).address ≡ k → repeated_from d (n - (k + 1)) (k + 1) ≡ v
  repeated-go h q = sym (repeated-next h ∙ rw (eq-eqb (number_of d (expander_at d k).address) k q) refl) ∙ inv

  pub repeated-end : n ≤ k → k ≡ v
  unfolding repeated_from
  repeated-end h = let e : n - k ≡ 0 = omega arith in sym (rw e refl) ∙ inv

-- 4 is refused, or it does not hold and the rest is judged
pub apart-refused : (chain who low : ℕ) (d : Domain) (k : ℕ) (answer : Result Unit) → k ≡ repeated d → k < length d → answer ≡ refused (refusal 4 k 0)
    → check_answer d answer ≡ apart_in chain who low d
unfolding differing
apart-refused chain who low d k answer e h a = rw (a, ← e, lt-leb (length d) k h) refl

pub apart-judged : (chain who low : ℕ) (d : Domain) (answer : Result Unit) → length d ≤ repeated d → check_answer d answer ≡ judged_in chain who low d
    → check_answer d answer ≡ apart_in chain who low d
unfolding differing
apart-judged chain who low d answer h a = rw (le-leb (length d) (repeated d) h) a

-- an expander after others: its number is that of the first with its address
number-new : (before : Domain) (e : Expander) (after : Domain) → is_in e.address (addresses before) ≡ false → number_of (before ++ (e ∷ after)) e.address ≡ length before
unfolding number_of is_in any
number-new [] e after h = rw (eq-eqb e.address e.address refl) refl
number-new (x ∷ before) e after h = go (number-new before e after) (eqb e.address x.address) refl h
  where
    go : (any (eqb e.address) (addresses before) ≡ false → number_of (before ++ (e ∷ after)) e.address ≡ length before) → (b : Bool) → eqb e.address x.address ≡ b → (b || any (eqb e.address) (addresses before)) ≡ false
        → cond (eqb x.address e.address) 0 (suc (number_of (before ++ (e ∷ after)) e.address)) ≡ suc (length before)
    go again true q k = absurd (was_true false (sym k))
    go again false q k = rw (ne_eqb x.address e.address (λ z. absurd (was_true false (sym q ∙ eq-eqb e.address x.address (sym z))))) (ap suc (again k))

number-old : (before : Domain) (e : Expander) (after : Domain) → is_in e.address (addresses before) ≡ true → number_of (before ++ (e ∷ after)) e.address < length before
unfolding number_of is_in any
number-old [] e after h = absurd (was_true false h)
number-old (x ∷ before) e after h = go (number-old before e after) (eqb e.address x.address) refl h
  where
    go : (any (eqb e.address) (addresses before) ≡ true → number_of (before ++ (e ∷ after)) e.address < length before) → (b : Bool) → eqb e.address x.address ≡ b → (b || any (eqb e.address) (addresses before)) ≡ true
        → cond (eqb x.address e.address) 0 (suc (number_of (before ++ (e ∷ after)) e.address)) < suc (length before)
    go again true q k = rw (eq-eqb x.address e.address (sym (eqb→eq e.address x.address (was_true _ q)))) (omega arith)
    go again false q k =
        let r = again k in
        rw (ne_eqb x.address e.address (λ z. absurd (was_true false (sym q ∙ eq-eqb e.address x.address (sym z))))) (omega arith)

then-unless : (b : Bool) (r : Refusal) (e : Expander) (d : Domain) → then (unless b r (good d)) (λ (l : Domain). good (e ∷ l)) ≡ unless b r (good (e ∷ d))
then-unless true r e d = refl
then-unless false r e d = refl

-- one unit of which 3 does not hold and whose address is not zero: 4 holds of it, or of a later one
module _ (most : Setting) (x : UnitBytes) (xs : List UnitBytes) (d : Domain) (i : ℕ) (used : List ℕ) (o : UnitOf x) (r : ReadExpander most (expander_of x.fields (phys_all x.frames)))
    (at : expander_at d i ≡ expander_of x.fields (phys_all x.frames)) where
  some : leb 1 x.fields.phys ≡ true
  some = let l = length-phys x.frames in le-leb 1 x.fields.phys (omega (arith, r.some, o.count))

  few : leb x.fields.phys most.phys ≡ true
  few = let l = length-phys x.frames in le-leb x.fields.phys most.phys (omega (arith, r.few, o.count))

  tested-old : is_in x.fields.address used ≡ true → number_of d x.fields.address < i → i < length d
      → tested_all most i used (x ∷ xs) ≡ unless (leb (length d) (repeated_from d (length (x ∷ xs)) i)) (refusal 4 (repeated_from d (length (x ∷ xs)) i) 0) (good (expanders_all (x ∷ xs)))
  unfolding tested_all repeated_from
  tested-old q h k = rw (some, few, ne_eqb x.fields.address 0 r.borne, q, at, ne_eqb (number_of d x.fields.address) i (λ z. omega arith), lt-leb (length d) i k) refl

  tested-new : is_in x.fields.address used ≡ false → number_of d x.fields.address ≡ i
      → tested_all most (i + 1) (used ++ (x.fields.address ∷ [])) xs ≡ unless (leb (length d) (repeated_from d (length xs) (i + 1))) (refusal 4 (repeated_from d (length xs) (i + 1)) 0) (good (expanders_all xs))
      → tested_all most i used (x ∷ xs) ≡ unless (leb (length d) (repeated_from d (length (x ∷ xs)) i)) (refusal 4 (repeated_from d (length (x ∷ xs)) i) 0) (good (expanders_all (x ∷ xs)))
  unfolding tested_all repeated_from
  tested-new q h next =
      rw (some, few, ne_eqb x.fields.address 0 r.borne, q, next, at, eq-eqb (number_of d x.fields.address) i h)
      (then-unless (leb (length d) (repeated_from d (length xs) (i + 1))) (refusal 4 (repeated_from d (length xs) (i + 1)) 0) (expander_of x.fields (phys_all x.frames)) (expanders_all xs))

-- units after those of other expanders: 4 holds where the domain of all says
pub tested-apart : (most : Setting) (xs : List UnitBytes) (before d : Domain) (i : ℕ) (used : List ℕ) → UnitsOf xs → ((e : Expander) → In e (expanders_all xs) → ReadExpander most e)
    → d ≡ before ++ expanders_all xs → i ≡ length before → used ≡ addresses before
    → tested_all most i used xs ≡ unless (leb (length d) (repeated_from d (length xs) i)) (refusal 4 (repeated_from d (length xs) i) 0) (good (expanders_all xs))
unfolding tested_all repeated_from
tested-apart most [] before d i used o each e n s = let l : length d ≡ i = ap length (e ∙ append-nil before) ∙ sym n in rw (le-leb (length d) i (omega arith)) refl
tested-apart most (x ∷ xs) before d i used o each e n s =
    let y : Expander = expander_of x.fields (phys_all x.frames) in
    let l : length d ≡ length before + suc (length (expanders_all xs)) = ap length e ∙ length-append before (y ∷ expanders_all xs) in
    let at : expander_at d i ≡ y = ap₂ expander_at e n ∙ get_or-append_seam before y (expanders_all xs) no_expander in
    let next = tested-apart most xs (before ++ (y ∷ [])) d (i + 1) (used ++ (x.fields.address ∷ [])) o.1 (λ f h. each f (inr h)) (e ∙ sym (append_assoc before (y ∷ []) (expanders_all xs)))
    (let k = length-append before (y ∷ []) in omega arith) (ap (λ (v : List ℕ). v ++ (x.fields.address ∷ [])) s ∙ sym (map-append (λ f. f.address) before (y ∷ []))) in
    by-test (is_in x.fields.address used)
    (λ q. tested-old most x xs d i used o.0 (each y (inl refl)) at q
    (let h = number-old before y (expanders_all xs) (ap (is_in x.fields.address) (sym s) ∙ q) in let k = ap (λ (v : Domain). number_of v x.fields.address) e in omega arith) (omega arith))
    (λ q. tested-new most x xs d i used o.0 (each y (inl refl)) at q
    (ap (λ (v : Domain). number_of v x.fields.address) e ∙ number-new before y (expanders_all xs) (ap (is_in x.fields.address) (sym s) ∙ q) ∙ sym n) next)
