-- What is read of a card: it is the card's own domain.
use Prim.Native.Nat.{ℕ, zero, suc, ◌+◌, ◌-◌, ◌*◌, ◌/◌, ◌≤◌, ◌<◌, ◌^◌}
use mathlib.Core.Path.{◌≡◌, refl, sym, ◌∙◌, ap, subst}
use mathlib.Core.Bool.{Bool, true, false, not}
use mathlib.Core.List.{List, [], ◌∷◌, ◌++◌, append-nil}
use native.Mathlib.Omega.{arith}
use native.Mathlib.Nat.{div-eq_of_lt}
use lib.Pow.{pow_pos}
use lib.ListN.{length, take, drop, replicate, length-drop, take-append-drop}
use lib.Seq.{take-add, drop-drop, take_all}
use lib.Dec.{eqb, leb, leb→le}
use borrow.Author.Tests.{eqb-true, eqb-false}
use Rattle.frames.specs.Bits.{number_bits, field, bits_of, bytes_for}
use Rattle.frames.proofs.PackedBits.{Bits, length-bits_of, bits-drop}
use Rattle.frames.proofs.NumberBits.{bits_back, field_lt}
use Rattle.frames.proofs.PackedRows.{Bytes, bits-bits_of, unpacked, bytes-packed_in, same_bits}
use Rattle.frames.specs.Refusals.{Result, good, then, refusal}
use Rattle.files.specs.declared.Setting.{Setting}
use Rattle.files.specs.declared.ExpanderUnit.{ExpanderUnit}
use Rattle.files.specs.declared.Phy.{Phy}
use Rattle.files.specs.declared.Phy.TheVariants.{Vacant, Present}
use Rattle.files.specs.Settings.{within, in_range}
use Rattle.files.specs.Domain.{Expander, Domain}
use Rattle.files.specs.File.{unit_tested}
use Rattle.files.proofs.ListMembers.{and_right, is_true}
use Rattle.files.proofs.SettingRanges.{range_iff}
use Rattle.files.proofs.CallResults.{unless-good, good-unless, then-good, good-one, both}
use Rattle.cards.specs.Card.{phy_bits, phys_bits, head_bits, expanders_bits, card_bits, card_of, present_size, phy_size, phys_size, expanders_size, card_size, present_on, phy_on, phys_on, expander_on, expanders_on, domain_on, head_size}
use Rattle.cards.specs.CardRead.{result_fine, results_fine, all_fine, formed, phy_ranged, phys_tested, unit_fields, units_tested, card_read_by, card_read}
use Rattle.cards.specs.CardCauses.{Formed}
use Rattle.cards.proofs.DomainRanges.{FieldsRange, PhyRange, PhysRange, ExpanderRange, ExpandersRange, Legal}
use Rattle.cards.proofs.CardRoundTrip.{field-one, phy-by, bits-card, size-card}

-- a phy's bits are those that it was read of
present-is : (b : Bool) (l : List ℕ) → eqb (field 3 l) 0 ≡ b → Bits l → present_size b ≤ suc (length l)
    → phy_bits (Present (present_on b (1 ∷ l))) ≡ take (present_size b) (1 ∷ l)
present-is true l q h k =
    let t = bits_back 3 l h (omega arith) in
    let a = bits_back 2 (drop 3 l) (bits-drop 3 l h) (omega (arith, length-drop 3 l)) in
    ap (λ (m : List ℕ). 1 ∷ m) (rw (t, a, q) (ap (λ (m : List ℕ). take 3 l ++ m) (append-nil _) ∙ sym (take-add 3 2 l)))
present-is false l q h k =
    let t = bits_back 3 l h (omega arith) in
    let a = bits_back 2 (drop 3 l) (bits-drop 3 l h) (omega (arith, length-drop 3 l)) in
    let s = bits_back 64 (drop 5 l) (bits-drop 5 l h) (omega (arith, length-drop 5 l)) in
    let p = bits_back 8 (drop 69 l) (bits-drop 69 l h) (omega (arith, length-drop 69 l)) in
    let e : take 77 l ≡ take 3 l ++ (take 2 (drop 3 l) ++ (take 64 (drop 5 l) ++ take 8 (drop 69 l))) =
    take-add 3 74 l ∙ ap (λ (m : List ℕ). take 3 l ++ m) (take-add 2 72 (drop 3 l)
    ∙ ap (λ (m : List ℕ). take 2 (drop 3 l) ++ m) (ap (take 72) (drop-drop 2 3 l) ∙ take-add 64 8 (drop 5 l)
    ∙ ap (λ (m : List ℕ). take 64 (drop 5 l) ++ take 8 m) (drop-drop 64 5 l))) in
    ap (λ (m : List ℕ). 1 ∷ m) (rw (t, a, q, s, p) (sym e))

present-size : (b : Bool) (l : List ℕ) → eqb (field 3 l) 0 ≡ b → phy_size (Present (present_on b (1 ∷ l))) ≡ present_size b
present-size true l q = rw q
present-size false l q = rw q

-- a row of bits starts with 0 or with 1, or it is empty
pub data Starts : List ℕ → Type 0 where
  none : Starts []
  clear : (l : List ℕ) → Starts (0 ∷ l)
  sets : (l : List ℕ) → Starts (1 ∷ l)

pub starts : (l : List ℕ) → Bits l → Starts l
starts [] h = none
starts (zero ∷ l) h = clear l
starts (suc zero ∷ l) h = sets l
starts (suc (suc b) ∷ l) h = absurd (omega (arith, h.0))

field-nil : (w : ℕ) → field w [] ≡ 0
unfolding field
field-nil w = refl

pub phy-none : phy_on [] ≡ Vacant (field 8 [])
phy-none = phy-by [] true (rw (field-nil 1))

pub phy-clear : (l : List ℕ) → phy_on (0 ∷ l) ≡ Vacant (field 8 l)
phy-clear l = phy-by (0 ∷ l) true (rw (field-one 0 l))

pub phy-sets : (l : List ℕ) → phy_on (1 ∷ l) ≡ Present (present_on (eqb (field 3 l) 0) (1 ∷ l))
phy-sets l = phy-by (1 ∷ l) false (rw (field-one 1 l))

phy-is : (l : List ℕ) → Bits l → phy_size (phy_on l) ≤ length l → phy_bits (phy_on l) ≡ take (phy_size (phy_on l)) l
phy-is l h k = go l (starts l h) h k
  where
    by : (l : List ℕ) (b : Bool) → eqb (field 3 l) 0 ≡ b → Bits l → phy_size (Present (present_on b (1 ∷ l))) ≤ suc (length l)
        → phy_bits (Present (present_on b (1 ∷ l))) ≡ take (phy_size (Present (present_on b (1 ∷ l)))) (1 ∷ l)
    by l b q h k =
        let e = present-size b l q in
        rw e (present-is b l q h (rw e at k))

    go : (l : List ℕ) → Starts l → Bits l → phy_size (phy_on l) ≤ length l → phy_bits (phy_on l) ≡ take (phy_size (phy_on l)) l
    go _ none h k = let k' : 9 ≤ 0 = rw phy-none at k in absurd (omega arith)
    go _ (clear l) h k =
        let e = phy-clear l in
        let k' : 9 ≤ suc (length l) = rw e at k in
        rw e (ap (λ (m : List ℕ). 0 ∷ m) (bits_back 8 l h.1 (omega arith)))
    go _ (sets l) h k =
        let e = phy-sets l in
        rw e (by l (eqb (field 3 l) 0) refl h.1 (rw e at k))

-- and a phy's numbers are in range, with nothing named where nothing is attached
present-read : (b : Bool) (l : List ℕ) → eqb (field 3 l) 0 ≡ b → Bits l → FieldsRange (present_on b (1 ∷ l))
present-read true l q h = record {
  device_type_in = field_lt 3 l h;
  attribute_in = field_lt 2 (drop 3 l) (bits-drop 3 l h);
  address_in_lem = omega arith;
  attached-phy_in = omega arith;
  bare_in = λ z. (refl, refl);
}
present-read false l q h = record {
  device_type_in = field_lt 3 l h;
  attribute_in = field_lt 2 (drop 3 l) (bits-drop 3 l h);
  address_in_lem = field_lt 64 (drop 5 l) (bits-drop 5 l h);
  attached-phy_in = field_lt 8 (drop 69 l) (bits-drop 69 l h);
  bare_in = λ z. absurd (eqb-false (field 3 l) 0 q z);
}

phy-read : (l : List ℕ) → Bits l → result_fine (phy_on l) ≡ true → PhyRange (phy_on l)
phy-read l h k = go l (starts l h) h k
  where
    vacant : (r : ℕ) → r < 256 → not (eqb r 0) ≡ true → PhyRange (Vacant r)
    vacant zero h k = let z : ◌≡◌ {A = ℕ} 0 1 = cc in absurd (omega arith)
    vacant (suc r) h k = (omega arith, h)

    go : (l : List ℕ) → Starts l → Bits l → result_fine (phy_on l) ≡ true → PhyRange (phy_on l)
    go _ none h k = rw phy-none (vacant (field 8 []) (field_lt 8 [] tt) (rw phy-none at k))
    go _ (clear l) h k = rw (phy-clear l) (vacant (field 8 l) (field_lt 8 l h.1) (rw (phy-clear l) at k))
    go _ (sets l) h k = rw (phy-sets l) (present-read (eqb (field 3 l) 0) l refl h.1)

-- the phys of an expander
phys_are : (n : ℕ) (l : List ℕ) → Bits l → phys_size (phys_on n l) ≤ length l → phys_bits (phys_on n l) ≡ take (phys_size (phys_on n l)) l
unfolding phys_on phys_bits phys_size
phys_are zero l h k = refl
phys_are (suc n) l h k =
    let s : ℕ = phy_size (phy_on l) in
    let m = drop s l in
    let a = phy-is l h (omega arith) in
    let b = phys_are n m (bits-drop s l h) (omega (arith, length-drop s l)) in
    rw (a, b) (sym (take-add s (phys_size (phys_on n m)) l))

phys-read : (n : ℕ) (l : List ℕ) → Bits l → results_fine (phys_on n l) ≡ true → PhysRange (phys_on n l)
unfolding phys_on results_fine
phys-read zero l h k = tt
phys-read (suc n) l h k =
    let s : ℕ = phy_size (phy_on l) in
    let t = both (result_fine (phy_on l)) (results_fine (phys_on n (drop s l))) k in
    (phy-read l h t.0, phys-read n (drop s l) (bits-drop s l h) t.1)

pub count-phys : (n : ℕ) (l : List ℕ) → length (phys_on n l) ≡ n
unfolding phys_on
count-phys zero l = refl
count-phys (suc n) l = ap suc (count-phys n (drop (phy_size (phy_on l)) l))

-- an expander
head-is : (l : List ℕ) → Bits l → head_size ≤ length l → head_bits (expander_on l) ≡ take head_size l
unfolding expander_on
head-is l h k =
    let n : ℕ = field 7 (drop 81 l) in
    let c = count-phys (suc n) (drop head_size l) in
    let m : length (phys_on (suc n) (drop head_size l)) - 1 ≡ n = omega arith in
    let a = bits_back 64 l h (omega arith) in
    let b = bits_back 16 (drop 64 l) (bits-drop 64 l h) (omega (arith, length-drop 64 l)) in
    let e = bits_back 1 (drop 80 l) (bits-drop 80 l h) (omega (arith, length-drop 80 l)) in
    let f = bits_back 7 (drop 81 l) (bits-drop 81 l h) (omega (arith, length-drop 81 l)) in
    let g : take head_size l ≡ take 64 l ++ (take 16 (drop 64 l) ++ (take 1 (drop 80 l) ++ take 7 (drop 81 l))) =
    take-add 64 24 l ∙ ap (λ (m : List ℕ). take 64 l ++ m) (take-add 16 8 (drop 64 l)
    ∙ ap (λ (m : List ℕ). take 16 (drop 64 l) ++ m) (ap (take 8) (drop-drop 16 64 l) ∙ take-add 1 7 (drop 80 l)
    ∙ ap (λ (m : List ℕ). take 1 (drop 80 l) ++ take 7 m) (drop-drop 1 80 l))) in
    rw (m, a, b, e, f) (sym g)

pub phys_in_lem : (l : List ℕ) → (expander_on l).phys ≡ phys_on (suc (field 7 (drop 81 l))) (drop head_size l)
unfolding expander_on
phys_in_lem l = refl

-- the expanders
expanders_are : (n : ℕ) (l : List ℕ) → Bits l → expanders_size (expanders_on n l) ≤ length l
    → expanders_bits (expanders_on n l) ≡ take (expanders_size (expanders_on n l)) l
unfolding expanders_on expanders_bits expanders_size
expanders_are zero l h k = refl
expanders_are (suc n) l h k =
    let e : Expander = expander_on l in
    let s : ℕ = phys_size e.phys in
    let m : List ℕ = drop (head_size + s) l in
    let r : ℕ = expanders_size (expanders_on n m) in
    let a = head-is l h (omega arith) in
    let b = phys-of l h (omega arith) in
    let c = expanders_are n m (bits-drop (head_size + s) l h) (omega (arith, length-drop (head_size + s) l)) in
    rw (a, b, c) (sym (take-add head_size (s + r) l ∙ ap (λ (v : List ℕ). take head_size l ++ v) (take-add s r (drop head_size l) ∙ ap (λ (v : List ℕ). take s (drop head_size l) ++ take r v) (drop-drop s head_size l))))
  where
    after : (l : List ℕ) → head_size + phys_size (expander_on l).phys ≤ length l → phys_size (expander_on l).phys ≤ length (drop head_size l)
    after l k = omega (arith, length-drop head_size l)

    phys-of : (l : List ℕ) → Bits l → head_size + phys_size (expander_on l).phys ≤ length l
        → phys_bits (expander_on l).phys ≡ take (phys_size (expander_on l).phys) (drop head_size l)
    phys-of l h k = rw (phys_in_lem l) (phys_are (suc (field 7 (drop 81 l))) (drop head_size l) (bits-drop head_size l h) (rw (phys_in_lem l) at (after l k)))

expander-read : (l : List ℕ) → Bits l → results_fine (expander_on l).phys ≡ true → ExpanderRange (expander_on l)
unfolding expander_on
expander-read l h k =
    let n : ℕ = suc (field 7 (drop 81 l)) in
    let f = field_lt 7 (drop 81 l) (bits-drop 81 l h) in
    let c = count-phys n (drop head_size l) in
    let p = phys-read n (drop head_size l) (bits-drop head_size l h) k in
    record {
      own_address_in = field_lt 64 l h;
      route_indexes_in = field_lt 16 (drop 64 l) (bits-drop 64 l h);
      configurable_in = field_lt 1 (drop 80 l) (bits-drop 80 l h);
      some-phys = omega arith;
      few-phys = omega arith;
      phys_in_lem = p;
    }

expanders-read : (n : ℕ) (l : List ℕ) → Bits l → all_fine (expanders_on n l) ≡ true → ExpandersRange (expanders_on n l)
unfolding expanders_on all_fine
expanders-read zero l h k = tt
expanders-read (suc n) l h k =
    let s : ℕ = head_size + phys_size (expander_on l).phys in
    let t = both (results_fine (expander_on l).phys) (all_fine (expanders_on n (drop s l))) k in
    (expander-read l h t.0, expanders-read n (drop s l) (bits-drop s l h) t.1)

pub count-expanders : (n : ℕ) (l : List ℕ) → length (expanders_on n l) ≡ n
unfolding expanders_on
count-expanders zero l = refl
count-expanders (suc n) l = ap suc (count-expanders n (drop (head_size + phys_size (expander_on l).phys) l))

-- a whole card
module _ (l : List ℕ) (h : Bits l) where
  count_in_lem : length (domain_on l) ≡ suc (field 6 (drop 4 l))
  unfolding domain_on
  count_in_lem = count-expanders (suc (field 6 (drop 4 l))) (drop 16 l)

  bits_are : field 4 l ≡ 2 → field 6 (drop 10 l) ≡ 0 → card_size (domain_on l) ≤ length l → card_bits (domain_on l) ≡ take (card_size (domain_on l)) l
  unfolding domain_on card_bits
  bits_are v z k =
      let n : ℕ = suc (field 6 (drop 4 l)) in
      let d : Domain = expanders_on n (drop 16 l) in
      let c = count-expanders n (drop 16 l) in
      let m : length d - 1 ≡ field 6 (drop 4 l) = omega arith in
      let a : number_bits 4 2 ≡ take 4 l = ap (number_bits 4) (sym v) ∙ bits_back 4 l h (omega arith) in
      let b = bits_back 6 (drop 4 l) (bits-drop 4 l h) (omega (arith, length-drop 4 l)) in
      let y : number_bits 6 0 ≡ take 6 (drop 10 l) = ap (number_bits 6) (sym z) ∙ bits_back 6 (drop 10 l) (bits-drop 10 l h) (omega (arith, length-drop 10 l)) in
      let e = expanders_are n (drop 16 l) (bits-drop 16 l h) (omega (arith, length-drop 16 l)) in
      let s : ℕ = expanders_size d in
      let w : 16 + s ≡ 4 + (6 + (6 + s)) = omega arith in
      let g : take (16 + s) l ≡ take 4 l ++ (take 6 (drop 4 l) ++ (take 6 (drop 10 l) ++ take s (drop 16 l))) =
      ap (λ (n : ℕ). take n l) w ∙ take-add 4 (6 + (6 + s)) l ∙ ap (λ (m : List ℕ). take 4 l ++ m) (take-add 6 (6 + s) (drop 4 l)
      ∙ ap (λ (m : List ℕ). take 6 (drop 4 l) ++ m) (ap (take (6 + s)) (drop-drop 6 4 l) ∙ take-add 6 s (drop 10 l)
      ∙ ap (λ (m : List ℕ). take 6 (drop 10 l) ++ take s m) (drop-drop 6 10 l))) in
      rw (a, m, b, y, e) (sym g)

  pub domain-read : all_fine (domain_on l) ≡ true → ExpandersRange (domain_on l)
  unfolding domain_on
  domain-read k = expanders-read (suc (field 6 (drop 4 l))) (drop 16 l) (bits-drop 16 l h) k

-- all the tests of 19, one by one
pub is-formed : (card : List ℕ) (d : Domain) → formed card d ≡ true → Formed card d
unfolding formed
is-formed card d q =
    let a = both (eqb (field 4 (bits_of card)) 2) _ q in
    let b = both (eqb (field 6 (drop 10 (bits_of card))) 0) _ a.1 in
    let c = both (all_fine d) _ b.1 in
    let e = both (eqb (length card) (bytes_for (card_size d))) _ c.1 in
    record {
      version = eqb-true _ 2 a.0;
      zeros = eqb-true _ 0 b.0;
      results = c.0;
      long = eqb-true _ _ e.0;
      fill = eqb-true _ 0 e.1;
    }

pub zero_bits : (w : ℕ) → number_bits w 0 ≡ replicate w 0
unfolding number_bits
zero_bits zero = refl
zero_bits (suc w) = let z : 0 / 2 ^ w ≡ 0 = div-eq_of_lt (pow_pos w) in rw (z, zero_bits w)

-- the card of what was read is the card
module _ (card : List ℕ) (h : Bytes card) (f : Formed card (domain_on (bits_of card))) where
  pub same-card : card_of (domain_on (bits_of card)) ≡ card
  same-card =
      let l : List ℕ = bits_of card in
      let d : Domain = domain_on l in
      let s : ℕ = card_size d in
      let b = bits-bits_of card in
      let n = length-bits_of card in
      let z = size-card d in
      let g = f.long in
      let k : ℕ = 8 * length card - s in
      let c = bits_are l b f.version f.zeros (omega arith) in
      let r : drop s l ≡ replicate k 0 = (
      let j = length-drop s l in
      let u = bits_back k (drop s l) (bits-drop s l b) (omega arith) in
      sym (take_all k (drop s l) (omega arith)) ∙ sym u ∙ ap (number_bits k) f.fill ∙ zero_bits k) in
      let v : l ≡ card_bits d ++ replicate k 0 = sym (take-append-drop s l) ∙ ap (λ (m : List ℕ). m ++ drop s l) (sym c) ∙ ap (λ (m : List ℕ). card_bits d ++ m) r in
      let w : bits_of (card_of d) ≡ card_bits d ++ replicate (8 * bytes_for (length (card_bits d)) - length (card_bits d)) 0 = unpacked (bytes_for (length (card_bits d))) (card_bits d) (bits-card d) (omega arith) in
      let o : 8 * bytes_for (length (card_bits d)) - length (card_bits d) ≡ k = omega arith in
      same_bits (card_of d) card (bytes-packed_in (bytes_for (length (card_bits d))) (card_bits d) (bits-card d)) h (w ∙ ap (λ (m : ℕ). card_bits d ++ replicate m 0) o ∙ sym v)

-- 6 passed, or 3, 4 and 6: what follows them stands, whatever it is
pub phys_pass : (i p : ℕ) (φs : List Phy) (k : Result Domain) (x : Domain) → phys_tested i p φs k ≡ good x
    → (k ≡ good x) × ((m : Result Domain) → phys_tested i p φs m ≡ m)
unfolding phys_tested
phys_pass i p [] k x e = (e, λ m. refl)
phys_pass i p (φ ∷ φs) k x e =
    let t = unless-good (phy_ranged φ) (refusal 6 i p) (phys_tested i (p + 1) φs k) x e in
    let r = phys_pass i (p + 1) φs k x t.1 in
    (r.0, λ m. good-unless (phy_ranged φ) (refusal 6 i p) (phys_tested i (p + 1) φs m) t.0 ∙ r.1 m)

pub units_pass : (most : Setting) (i : ℕ) (used : List ℕ) (d : Domain) (k : Result Domain) (x : Domain) → units_tested most i used d k ≡ good x
    → (k ≡ good x) × ((m : Result Domain) → units_tested most i used d m ≡ m)
unfolding units_tested
units_pass most i used [] k x e = (e, λ m. refl)
units_pass most i used (e ∷ d) k x q =
    let next : Result Domain → Result Domain = units_tested most (i + 1) (used ++ (e.address ∷ [])) d in
    let t = then-good (unit_tested most used i (unit_fields e)) (λ u. phys_tested i 0 e.phys (next k)) x q in
    let p = phys_pass i 0 e.phys (next k) x t.2 in
    let r = units_pass most (i + 1) (used ++ (e.address ∷ [])) d k x p.0 in
    (r.0, λ m. ap (λ (y : Result ExpanderUnit). then y (λ u. phys_tested i 0 e.phys (next m))) t.1 ∙ p.1 (next m) ∙ r.1 m)

-- what is read of a card: what stands on it, where none of causes 19, 3, 4 and 6 holds
pub record CardHolds (most : Setting) (card : List ℕ) (d : Domain) : Type 0 where
  pub on : domain_on (bits_of card) ≡ d
  pub formed : Formed card d
  pub legal : Legal most d

pub card-holds : (most : Setting) (card : List ℕ) (d : Domain) → card_read most card ≡ good d → CardHolds most card d
unfolding card_read
card-holds most card d q =
    let D : Domain = domain_on (bits_of card) in
    let o = unless-good (in_range most) (refusal 22 0 0) (card_read_by most card D) d q in
    let t = unless-good (formed card D) (refusal 19 0 0) _ d o.1 in
    let w = unless-good (within most.expanders (length D)) (refusal 3 0 0) (units_tested most 0 [] D (good D)) d t.1 in
    let f = is-formed card D (is_true (formed card D) t.0) in
    let u = units_pass most 0 [] D (good D) d w.1 in
    let e : D ≡ d = good-one D d u.0 in
    let r = domain-read (bits_of card) (bits-bits_of card) f.results in
    let c = count_in_lem (bits_of card) (bits-bits_of card) in
    let l : Legal most D = record {
      range = (range_iff most).0 o.0;
      some = omega arith;
      few = leb→le (length D) most.expanders (and_right (leb 1 (length D)) (leb (length D) most.expanders) w.0);
      ranges = r;
      units = u.1;
    } in
    record { on = e; formed = subst (Formed card) e f; legal = subst (Legal most) e l }

-- and the card of that is the card
pub record CardIs (most : Setting) (card : List ℕ) (d : Domain) : Type 0 where
  pub legal : Legal most d
  pub same : card_of d ≡ card

pub card-is : (most : Setting) (card : List ℕ) (d : Domain) → Bytes card → card_read most card ≡ good d → CardIs most card d
card-is most card d h q =
    let c = card-holds most card d q in
    record { legal = c.legal; same = ap card_of (sym c.on) ∙ same-card card h (subst (Formed card) (sym c.on) c.formed) }
