-- Walking through a card: one phy more, one expander more, and the ends.
use Prim.Native.Nat.{ℕ, suc, ◌+◌, ◌-◌, ◌*◌, ◌≤◌, ◌<◌}
use mathlib.Core.Path.{◌≡◌, sym, ◌∙◌, ap}
use mathlib.Core.Bool.{Bool, true, cond, ◌&&◌, and-true, and_assoc}
use mathlib.Core.List.{List, [], ◌∷◌, ◌++◌}
use native.Mathlib.Omega.{arith}
use lib.ListN.{length, take, drop, set, replicate}
use lib.Seq.{sets, drop-drop}
use lib.Dec.{eqb, leb}
use Rattle.frames.specs.Bits.{field}
use Rattle.frames.specs.Refusals.{good, Result, unless, then, refusal}
use Rattle.frames.proofs.PackedBits.{Bits, bits-drop}
use Rattle.frames.proofs.ValuesPut.{sets_mid_then}
use Rattle.files.specs.declared.Setting.{Setting}
use Rattle.files.specs.declared.ExpanderUnit.{ExpanderUnit}
use Rattle.files.specs.declared.Phy.{Phy}
use Rattle.files.specs.Domain.{Expander, Domain, address_of}
use Rattle.files.specs.File.{unit_tested}
use Rattle.files.specs.Rows.{phy_word, phy_words, head_word, row_of, rows_of, row_words}
use Rattle.files.proofs.RowFilling.{length-phy_words, length-row_of, stored_in_zeros}
use Rattle.cards.specs.declared.PhysWalk.{PhysWalk}
use Rattle.cards.specs.Card.{phy_size, phys_size, expanders_size, card_size, phy_on, phys_on, unit_on, expander_on, expanders_on, domain_on, head_size, most_card_size, most_phys_size}
use Rattle.cards.specs.CardRead.{result_fine, results_fine, all_fine, phy_ranged, units_tested}
use Rattle.cards.specs.CardWalks.{ranged_count, after_check, PhysStored, RowStored, CardStored}
use Rattle.frames.proofs.NumberBits.{field_lt}
use Rattle.cards.proofs.CardDomain.{count-phys, phys_in_lem}
use Rattle.cards.proofs.CardPlaces.{next-phys, no_phys, next-expanders, no_expanders, sizes-few}
use Rattle.cards.proofs.CardChecks.{ranged-go, ranged-end, tests-go}

-- one phy more, and the end
module _ (l : List ℕ) (n p at : ℕ) where
  pub past_next : (s : ℕ) → p < n → s ≡ phy_size (phy_on (drop at l)) → at + s + phys_size (phys_on (n - (p + 1)) (drop (at + s) l)) ≡ at + phys_size (phys_on (n - p) (drop at l))
  unfolding phys_size
  past_next s h e =
      let w : phys_size (phys_on (n - p) (drop at l)) ≡ s + phys_size (phys_on (n - (p + 1)) (drop (at + s) l)) = ap phys_size (next-phys l at n p h) ∙ rw e in
      omega arith

  pub past-none : n ≤ p → at + phys_size (phys_on (n - p) (drop at l)) ≡ at
  unfolding phys_size
  past-none h = let w = ap phys_size (no_phys l at n p h) in omega arith

  pub stored-go : (row : List ℕ) (a w s : ℕ) → a ≡ address_of (phy_on (drop at l)) → w ≡ phy_word (phy_on (drop at l)) → s ≡ phy_size (phy_on (drop at l)) → p < n
      → sets (set (set row (2 + 2 * p) a) (2 + 2 * p + 1) w) (2 + 2 * (p + 1)) (phy_words (phys_on (n - (p + 1)) (drop (at + s) l)))
      ≡ sets row (2 + 2 * p) (phy_words (phys_on (n - p) (drop at l)))
  stored-go row a w s qa qw qs h =
      let g : 2 + 2 * p + 1 ≡ suc (2 + 2 * p) = omega arith in
      let k : 2 + 2 * (p + 1) ≡ suc (suc (2 + 2 * p)) = omega arith in
      rw (next-phys l at n p h, g, k, qa, qw, qs)

  pub stored-end : (row : List ℕ) → n ≤ p → row ≡ sets row (2 + 2 * p) (phy_words (phys_on (n - p) (drop at l)))
  stored-end row h = rw (no_phys l at n p h)

  pub fine_go : (fine b v : Bool) (s : ℕ) → (fine && results_fine (phys_on (n - p) (drop at l))) ≡ v → b ≡ result_fine (phy_on (drop at l)) → s ≡ phy_size (phy_on (drop at l)) → p < n
      → ((fine && b) && results_fine (phys_on (n - (p + 1)) (drop (at + s) l))) ≡ v
  unfolding results_fine
  fine_go fine b v s inv q e h =
      rw (q, e) (and_assoc fine (result_fine (phy_on (drop at l))) _ ∙ sym (ap (λ (φs : List Phy). fine && results_fine φs) (next-phys l at n p h)) ∙ inv)

  pub fine_end : (fine v : Bool) → (fine && results_fine (phys_on (n - p) (drop at l))) ≡ v → n ≤ p → fine ≡ v
  unfolding results_fine
  fine_end fine v inv h = sym (ap (λ (φs : List Phy). fine && results_fine φs) (no_phys l at n p h) ∙ and-true fine) ∙ inv

  pub count-go : (r s v k : ℕ) → r ≤ p → cond (eqb r p) (p + ranged_count (phys_on (n - p) (drop at l))) r ≡ v → k ≡ cond (eqb r p && phy_ranged (phy_on (drop at l))) (r + 1) r → s ≡ phy_size (phy_on (drop at l)) → p < n
      → (k ≤ p + 1) × (cond (eqb k (p + 1)) (p + 1 + ranged_count (phys_on (n - (p + 1)) (drop (at + s) l))) k ≡ v)
  count-go r s v k g inv q e h =
      rw e (ranged-go (phy_on (drop at l)) (phys_on (n - (p + 1)) (drop (at + phy_size (phy_on (drop at l))) l)) r p v k g (sym (ap (λ (φs : List Phy). cond (eqb r p) (p + ranged_count φs) r) (next-phys l at n p h)) ∙ inv) q)

  pub count-end : (r v : ℕ) → cond (eqb r p) (p + ranged_count (phys_on (n - p) (drop at l))) r ≡ v → n ≤ p → r ≡ v
  count-end r v inv h = ranged-end r p v (sym (ap (λ (φs : List Phy). cond (eqb r p) (p + ranged_count φs) r) (no_phys l at n p h)) ∙ inv)

-- an expander's row
pub row_made : (l : List ℕ) (at : ℕ) (row before after : List ℕ) (u : ExpanderUnit) (w : ℕ) (walk : PhysWalk) → u ≡ unit_on (drop at l) → u.phys ≤ 128 → w ≡ head_word u.route_indexes u.phys u.configurable
    → row ≡ replicate row_words 0 → before ≡ set (set row 0 u.address) 1 w → PhysStored (phys_on u.phys (drop (at + head_size) l)) (at + head_size) walk before after → RowStored (expander_on (drop at l)) at walk after
unfolding row_of expander_on
row_made l at row before after u w walk qu h qw qr qb s =
    let m : List ℕ = drop at l in
    let φs : List Phy = phys_on (suc (field 7 (drop 81 m))) (drop head_size m) in
    let c : length φs ≡ suc (field 7 (drop 81 m)) = count-phys (suc (field 7 (drop 81 m))) (drop head_size m) in
    let n : u.phys ≡ suc (field 7 (drop 81 m)) = ap (λ (x : ExpanderUnit). x.phys) qu in
    let k : length (phy_words φs) ≡ 2 * length φs = length-phy_words φs in
    let p : phys_on u.phys (drop (at + head_size) l) ≡ φs = ap (λ (x : ExpanderUnit). phys_on x.phys (drop (at + head_size) l)) qu ∙ ap (phys_on (suc (field 7 (drop 81 m)))) (sym (drop-drop head_size at l)) in
    let v : w ≡ head_word (field 16 (drop 64 m)) (length φs) (field 1 (drop 80 m)) = qw ∙ ap (λ (x : ExpanderUnit). head_word x.route_indexes x.phys x.configurable) qu ∙ ap (λ (x : ℕ). head_word (field 16 (drop 64 m)) x (field 1 (drop 80 m))) (sym c) in
    let a : u.address ≡ field 64 m = ap (λ (x : ExpanderUnit). x.address) qu in
    let d = ap (λ (x : List Phy). phys_size x) p in
    record {
      words = s.words ∙ ap (λ (x : List ℕ). sets x 2 (phy_words (phys_on u.phys (drop (at + head_size) l)))) qb ∙ ap (λ (x : List Phy). sets (set (set row 0 u.address) 1 w) 2 (phy_words x)) p ∙ stored_in_zeros row u.address w (phy_words φs) qr (omega arith)
          ∙ ap (λ (x : ℕ). x ∷ w ∷ (phy_words φs ++ replicate (256 - length (phy_words φs)) 0)) a ∙ ap (λ (x : ℕ). field 64 m ∷ x ∷ (phy_words φs ++ replicate (256 - length (phy_words φs)) 0)) v;
      place = omega (arith, s.place);
      results = s.results ∙ ap results_fine p;
      tests = s.tests ∙ ap ranged_count p;
    }

phys-few : (l : List ℕ) (at : ℕ) → Bits l → length (expander_on (drop at l)).phys ≤ 128
phys-few l at b =
    let f = field_lt 7 (drop 81 (drop at l)) (bits-drop 81 (drop at l) (bits-drop at l b)) in
    let c : length (expander_on (drop at l)).phys ≡ suc (field 7 (drop 81 (drop at l))) = ap length (phys_in_lem (drop at l)) ∙ count-phys (suc (field 7 (drop 81 (drop at l)))) (drop head_size (drop at l)) in
    omega arith

-- what a walk through the expanders before expander i of a card's domain d holds, where `rest` are those to come
pub record Walking (most : Setting) (before : List ℕ) (d : Domain) (i at : ℕ) (rows used : List ℕ) (fine : Bool) (check : Result Unit) (rest : Domain) : Type 0 where
  pub words : sets rows (row_words * i) (rows_of rest) ≡ sets before 0 (rows_of d)
  pub place : at + expanders_size rest ≡ card_size d
  pub results : (fine && all_fine rest) ≡ all_fine d
  pub tests : (k : Result Domain) → after_check check (units_tested most i (take i used) rest k) ≡ units_tested most 0 [] d k

pub domain-on : (l : List ℕ) (n : ℕ) → n ≡ suc (field 6 (drop 4 l)) → expanders_on n (drop 16 l) ≡ domain_on l
unfolding domain_on
domain-on l n e = rw e

pub walk-starts : (most : Setting) (l rows used : List ℕ) (n : ℕ) → n ≡ suc (field 6 (drop 4 l)) → Walking most rows (domain_on l) 0 16 rows used true (good tt) (expanders_on (n - 0) (drop 16 l))
walk-starts most l rows used n e =
    let z : n - 0 ≡ n = omega arith in
    let q : expanders_on (n - 0) (drop 16 l) ≡ domain_on l = ap (λ (m : ℕ). expanders_on m (drop 16 l)) z ∙ domain-on l n e in
    record {
      words = ap (λ (d : Domain). sets rows 0 (rows_of d)) q;
      place = ap card_size q;
      results = ap all_fine q;
      tests = λ k. ap (λ (d : Domain). units_tested most 0 [] d k) q;
    }

-- one expander more, and the end
module _ (most : Setting) (l before : List ℕ) (d : Domain) (n i at : ℕ) (rows used : List ℕ) (fine : Bool) (check : Result Unit)
    (inv : Walking most before d i at rows used fine check (expanders_on (n - i) (drop at l))) where
  pub walk-goes : (b : Bits l) (u : ExpanderUnit) (walk : PhysWalk) (r : List ℕ) (a k : ℕ) (unit both : Result Unit) → i < n → RowStored (expander_on (drop at l)) at walk r → u ≡ unit_on (drop at l)
      → ((k : Result Domain) → after_check unit k ≡ then (unit_tested most (take i used) i u) (λ w. unless (leb u.phys walk.ranged) (refusal 6 i walk.ranged) k))
      → ((k : Result Domain) → after_check both k ≡ after_check check (after_check unit k)) → i < length used → a ≡ row_words * i → k ≡ row_words → row_words * i + row_words ≤ length rows
      → Walking most before d (i + 1) walk.next (take a rows ++ (r ++ drop k (drop a rows))) (set used i u.address) (fine && walk.fine) both (expanders_on (n - (i + 1)) (drop walk.next l))
      × (walk.next ≤ at + (head_size + most_phys_size))
  unfolding rows_of expanders_size all_fine
  walk-goes b u walk r a k unit both g s qu f o h qa qk m =
      let e : Expander = expander_on (drop at l) in
      let rest : Domain = expanders_on (n - (i + 1)) (drop walk.next l) in
      let w : expanders_on (n - i) (drop at l) ≡ expander_on (drop at l) ∷ expanders_on (n - (i + 1)) (drop walk.next l) =
      next-expanders l at n i g ∙ ap (λ (x : ℕ). expander_on (drop at l) ∷ expanders_on (n - (i + 1)) (drop x l)) (sym s.place) in
      let c : length (expander_on (drop at l)).phys ≤ 128 = phys-few l at b in
      let lr : length r ≡ row_words = ap length s.words ∙ length-row_of (expander_on (drop at l)) c in
      let ps = ap expanders_size w in
      let z = sizes-few (expander_on (drop at l)).phys in (
        record {
          words = sets_mid_then rows r (rows_of (expanders_on (n - (i + 1)) (drop walk.next l))) (row_words * i) (row_words * (i + 1)) a k qa (omega arith) (omega arith) (omega arith)
              ∙ ap (λ (x : List ℕ). sets rows (row_words * i) (x ++ rows_of (expanders_on (n - (i + 1)) (drop walk.next l)))) s.words ∙ sym (ap (λ (x : Domain). sets rows (row_words * i) (rows_of x)) w) ∙ inv.words;
          place = omega (arith, inv.place, s.place);
          results = ap (λ (x : Bool). (fine && x) && all_fine (expanders_on (n - (i + 1)) (drop walk.next l))) s.results
              ∙ and_assoc fine (results_fine (expander_on (drop at l)).phys) (all_fine (expanders_on (n - (i + 1)) (drop walk.next l))) ∙ sym (ap (λ (x : Domain). fine && all_fine x) w) ∙ inv.results;
          tests = tests-go most l used i at (expanders_on (n - (i + 1)) (drop walk.next l)) check unit both u walk.ranged (λ x. units_tested most 0 [] d x) qu s.tests f o h
              (λ x. sym (ap (λ (y : Domain). after_check check (units_tested most i (take i used) y x)) w) ∙ inv.tests x);
        },
        omega (arith, s.place),
      )

  pub walk_ends : n ≤ i → at ≤ most_card_size → CardStored most d (record { at = at; fine = fine; check = check }) before rows
  unfolding rows_of expanders_size all_fine units_tested
  walk_ends h f =
      let w : expanders_on (n - i) (drop at l) ≡ [] = no_expanders l at n i h in
      let ps = ap expanders_size w in
      record {
        words = sym (ap (λ (x : Domain). sets rows (row_words * i) (rows_of x)) w) ∙ inv.words;
        place = omega (arith, inv.place);
        few = f;
        results = sym (ap (λ (x : Domain). fine && all_fine x) w ∙ and-true fine) ∙ inv.results;
        tests = λ k. sym (ap (λ (x : Domain). after_check check (units_tested most i (take i used) x k)) w) ∙ inv.tests k;
      }
