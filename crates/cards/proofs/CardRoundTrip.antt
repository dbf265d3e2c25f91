-- The card of a domain gives it back.
use Prim.Native.Nat.{ℕ, suc, ◌+◌, ◌-◌, ◌*◌, ◌≤◌, ◌<◌, ◌^◌}
use mathlib.Core.Path.{◌≡◌, refl, sym, ◌∙◌, ap}
use mathlib.Core.Bool.{Bool, true, false}
use mathlib.Core.List.{List, [], ◌∷◌, ◌++◌, append_assoc}
use native.Mathlib.Omega.{arith}
use native.Mathlib.Nat.{mod-eq_of_lt}
use lib.ListN.{length, drop, replicate, length-append}
use lib.Seq.{drop_at}
use lib.Dec.{eqb}
use borrow.Author.Tests.{eq-eqb, ne_eqb, eqb-true, le-leb}
use Rattle.frames.specs.Bits.{number_bits, field, bits_of, bytes_for}
use Rattle.frames.proofs.PackedBits.{Bits, length-packed_in}
use Rattle.frames.proofs.NumberBits.{bits-number_bits, bits-append, field_back}
use Rattle.frames.proofs.PackedRows.{unpacked, drop_past, field-zeros}
use Rattle.frames.specs.Refusals.{good}
use Rattle.files.specs.declared.Setting.{Setting}
use Rattle.files.specs.declared.Phy.{Phy}
use Rattle.files.specs.declared.Phy.TheVariants.{Vacant, Present}
use Rattle.files.specs.declared.PhyFields.{PhyFields}
use Rattle.files.specs.Settings.{within, in_range}
use Rattle.files.specs.Domain.{Expander, Domain}
use Rattle.files.proofs.ListMembers.{is_true}
use Rattle.files.proofs.SettingRanges.{range_iff}
use Rattle.cards.specs.Card.{end_bits, phy_bits, phys_bits, head_bits, expanders_bits, card_bits, card_of, present_size, phy_size, phys_size, expanders_size, card_size, phy_by, phy_on, phys_on, expander_on, expanders_on, domain_on, head_size}
use Rattle.cards.specs.CardRead.{results_fine, all_fine, formed, card_read}
use Rattle.cards.specs.CardCauses.{Formed}
use Rattle.cards.proofs.DomainRanges.{FieldsRange, PhyRange, PhysRange, ExpanderRange, ExpandersRange, Legal}

-- a number in range comes back
number-back : (w x : ℕ) (rest : List ℕ) → x < 2 ^ w → field w (number_bits w x ++ rest) ≡ x
number-back w x rest h = field_back w x rest ∙ mod-eq_of_lt h

pub field-one : (b : ℕ) (l : List ℕ) → field 1 (b ∷ l) ≡ b
unfolding field
field-one b [] = omega arith
field-one b (c ∷ l) = omega arith

pub phy-by : (l : List ℕ) (b : Bool) → eqb (field 1 l) 0 ≡ b → phy_on l ≡ phy_by b l
unfolding phy_on
phy-by l b q = rw q

-- nothing attached
pub bare-is : (f : PhyFields) → (f.address ≡ 0) × (f.attached_phy.0 ≡ 0) → record { device_type = f.device_type; attribute = f.attribute; address = 0; attached_phy = record { 0 = 0 } } ≡ f
bare-is f z =
    ap (λ (a : ℕ). record { device_type = f.device_type; attribute = f.attribute; address = a; attached_phy = record { 0 = 0 } }) (sym z.0)
    ∙ ap (λ (p : ℕ). record { device_type = f.device_type; attribute = f.attribute; address = f.address; attached_phy = record { 0 = p } }) (sym z.1)

-- one phy
present-back : (b : Bool) (f : PhyFields) (rest : List ℕ) → eqb f.device_type 0 ≡ b → FieldsRange f
    → phy_by false (1 ∷ ((number_bits 3 f.device_type ++ (number_bits 2 f.attribute ++ end_bits b f)) ++ rest)) ≡ Present f
unfolding number_bits
present-back true f rest q h =
    let l : List ℕ = 1 ∷ ((number_bits 3 f.device_type ++ (number_bits 2 f.attribute ++ [])) ++ rest) in
    let t : field 3 (drop 1 l) ≡ f.device_type = number-back 3 f.device_type (number_bits 2 f.attribute ++ rest) h.device_type_in in
    let a : field 2 (drop 4 l) ≡ f.attribute = number-back 2 f.attribute rest h.attribute_in in
    rw (t, q, t, a) (ap Present (bare-is f (h.bare_in (eqb-true f.device_type 0 q))))
present-back false f rest q h =
    let attached_phy : ℕ = f.attached_phy.0 in
    let l : List ℕ = 1 ∷ ((number_bits 3 f.device_type ++ (number_bits 2 f.attribute ++ (number_bits 64 f.address ++ number_bits 8 attached_phy))) ++ rest) in
    let t : field 3 (drop 1 l) ≡ f.device_type = number-back 3 f.device_type (number_bits 2 f.attribute ++ (number_bits 64 f.address ++ (number_bits 8 attached_phy ++ rest))) h.device_type_in in
    let a : field 2 (drop 4 l) ≡ f.attribute = number-back 2 f.attribute (number_bits 64 f.address ++ (number_bits 8 attached_phy ++ rest)) h.attribute_in in
    let s : field 64 (drop 6 l) ≡ f.address = number-back 64 f.address (number_bits 8 attached_phy ++ rest) h.address_in_lem in
    let p : field 8 (drop 70 l) ≡ attached_phy = number-back 8 attached_phy rest h.attached-phy_in in
    rw (t, q, t, a, s, p)

phy-back : (φ : Phy) (rest : List ℕ) → PhyRange φ → phy_on (phy_bits φ ++ rest) ≡ φ
phy-back (Vacant r) rest h = phy-by (phy_bits (Vacant r) ++ rest) true (rw (field-one 0 (number_bits 8 r ++ rest))) ∙ ap Vacant (number-back 8 r rest h.1)
phy-back (Present f) rest h =
    let l : List ℕ = (number_bits 3 f.device_type ++ (number_bits 2 f.attribute ++ end_bits (eqb f.device_type 0) f)) ++ rest in
    phy-by (1 ∷ l) false (rw (field-one 1 l)) ∙ present-back (eqb f.device_type 0) f rest refl h

pub size-phy : (φ : Phy) → length (phy_bits φ) ≡ phy_size φ
unfolding number_bits
size-phy (Vacant r) = refl
size-phy (Present f) = go (eqb f.device_type 0)
  where
    go : (b : Bool) → length (1 ∷ (number_bits 3 f.device_type ++ (number_bits 2 f.attribute ++ end_bits b f))) ≡ present_size b
    go true = refl
    go false = refl

-- the phys of an expander
phys-back : (φs : List Phy) (rest : List ℕ) → PhysRange φs → phys_on (length φs) (phys_bits φs ++ rest) ≡ φs
unfolding phys_on phys_bits
phys-back [] rest h = refl
phys-back (φ ∷ φs) rest h =
    let e = phy-back φ (phys_bits φs ++ rest) h.0 in
    rw (append_assoc (phy_bits φ), e, drop_at (phy_bits φ) (phys_bits φs ++ rest) (phy_size φ) (size-phy φ), phys-back φs rest h.1)

pub size-phys : (φs : List Phy) → length (phys_bits φs) ≡ phys_size φs
unfolding phys_bits phys_size
size-phys [] = refl
size-phys (φ ∷ φs) = rw (length-append (phy_bits φ), size-phy φ, size-phys φs)

-- an expander, of which l has the bits after the first 88
expander-back : (e : Expander) (l : List ℕ) (φs : List Phy) → ExpanderRange e → phys_on (length e.phys) l ≡ φs
    → expander_on (head_bits e ++ l) ≡ record { address = e.address; route_indexes = e.route_indexes; configurable = e.configurable; phys = φs }
unfolding number_bits expander_on
expander-back e l φs h q =
    let n : ℕ = length e.phys - 1 in
    let m : suc n ≡ length e.phys = omega (arith, h.some-phys) in
    let a : field 64 (head_bits e ++ l) ≡ e.address = number-back 64 e.address (number_bits 16 e.route_indexes ++ (number_bits 1 e.configurable ++ (number_bits 7 n ++ l))) h.own_address_in in
    let b : field 16 (drop 64 (head_bits e ++ l)) ≡ e.route_indexes = number-back 16 e.route_indexes (number_bits 1 e.configurable ++ (number_bits 7 n ++ l)) h.route_indexes_in in
    let c : field 1 (drop 80 (head_bits e ++ l)) ≡ e.configurable = number-back 1 e.configurable (number_bits 7 n ++ l) h.configurable_in in
    let k : field 7 (drop 81 (head_bits e ++ l)) ≡ n = number-back 7 n l (omega (arith, h.few-phys)) in
    rw (a, b, c, k, m, q)

pub length-head : (e : Expander) → length (head_bits e) ≡ head_size
unfolding number_bits
length-head e = refl

expanders-back : (d : Domain) (rest : List ℕ) → ExpandersRange d → expanders_on (length d) (expanders_bits d ++ rest) ≡ d
unfolding expanders_on expanders_bits
expanders-back [] rest h = refl
expanders-back (e ∷ d) rest h =
    let r : List ℕ = expanders_bits d ++ rest in
    let i = expander-back e (phys_bits e.phys ++ r) e.phys h.0 (phys-back e.phys r h.0.phys_in_lem) in
    let s : (head_bits e ++ (phys_bits e.phys ++ expanders_bits d)) ++ rest ≡ head_bits e ++ (phys_bits e.phys ++ r) =
    append_assoc (head_bits e) (phys_bits e.phys ++ expanders_bits d) rest ∙ ap (λ (l : List ℕ). head_bits e ++ l) (append_assoc (phys_bits e.phys) (expanders_bits d) rest) in
    let t : drop (head_size + phys_size e.phys) (head_bits e ++ (phys_bits e.phys ++ r)) ≡ r = skip_head e r in
    rw (s, i, t, expanders-back d rest h.1)
  where
    skip_head : (e : Expander) (r : List ℕ) → drop (head_size + phys_size e.phys) (head_bits e ++ (phys_bits e.phys ++ r)) ≡ r
    skip_head e r =
        drop_past (head_bits e) (phys_bits e.phys ++ r) (phys_size e.phys) (head_size + phys_size e.phys) (omega (arith, length-head e))
        ∙ drop_at (phys_bits e.phys) r (phys_size e.phys) (size-phys e.phys)

-- a whole card
pub domain-back : (d : Domain) (rest : List ℕ) → 1 ≤ length d → length d ≤ 64 → ExpandersRange d → domain_on (card_bits d ++ rest) ≡ d
unfolding number_bits domain_on card_bits
domain-back d rest h k r =
    let n : ℕ = length d - 1 in
    let m : suc n ≡ length d = omega arith in
    let e : field 6 (drop 4 (card_bits d ++ rest)) ≡ n = number-back 6 n (number_bits 6 0 ++ (expanders_bits d ++ rest)) (omega arith) in
    rw (e, m) (expanders-back d rest r)

-- every member is a bit, and they are as many as said
bits-phy : (φ : Phy) → Bits (phy_bits φ)
bits-phy (Vacant r) = (omega arith, bits-number_bits 8 r)
bits-phy (Present f) = (
  omega arith,
  bits-append (number_bits 3 f.device_type) _ (bits-number_bits 3 f.device_type)
      (bits-append (number_bits 2 f.attribute) _ (bits-number_bits 2 f.attribute) (go (eqb f.device_type 0))),
)
  where
    go : (b : Bool) → Bits (end_bits b f)
    go true = tt
    go false = bits-append (number_bits 64 f.address) (number_bits 8 f.attached_phy.0) (bits-number_bits 64 f.address) (bits-number_bits 8 f.attached_phy.0)

bits-phys : (φs : List Phy) → Bits (phys_bits φs)
unfolding phys_bits
bits-phys [] = tt
bits-phys (φ ∷ φs) = bits-append (phy_bits φ) (phys_bits φs) (bits-phy φ) (bits-phys φs)

bits-head : (e : Expander) → Bits (head_bits e)
bits-head e =
    bits-append (number_bits 64 e.address) _ (bits-number_bits 64 e.address)
    (bits-append (number_bits 16 e.route_indexes) _ (bits-number_bits 16 e.route_indexes)
    (bits-append (number_bits 1 e.configurable) _ (bits-number_bits 1 e.configurable) (bits-number_bits 7 (length e.phys - 1))))

bits-expanders : (d : Domain) → Bits (expanders_bits d)
unfolding expanders_bits
bits-expanders [] = tt
bits-expanders (e ∷ d) =
    bits-append (head_bits e) (phys_bits e.phys ++ expanders_bits d) (bits-head e)
    (bits-append (phys_bits e.phys) (expanders_bits d) (bits-phys e.phys) (bits-expanders d))

pub bits-card : (d : Domain) → Bits (card_bits d)
unfolding card_bits
bits-card d =
    bits-append (number_bits 4 2) _ (bits-number_bits 4 2)
    (bits-append (number_bits 6 (length d - 1)) _ (bits-number_bits 6 (length d - 1))
    (bits-append (number_bits 6 0) (expanders_bits d) (bits-number_bits 6 0) (bits-expanders d)))

pub size-expanders : (d : Domain) → length (expanders_bits d) ≡ expanders_size d
unfolding expanders_bits expanders_size
size-expanders [] = refl
size-expanders (e ∷ d) =
    rw (length-append (head_bits e), length-append (phys_bits e.phys), length-head e, size-phys e.phys, size-expanders d)

pub size-card : (d : Domain) → length (card_bits d) ≡ card_size d
unfolding card_bits number_bits
size-card d = let e = size-expanders d in omega arith

-- the results are not zero
fine_phys : (φs : List Phy) → PhysRange φs → results_fine (φs) ≡ true
unfolding results_fine
fine_phys [] h = refl
fine_phys (Vacant r ∷ φs) h = rw (ne_eqb r 0 (λ (z : r ≡ 0). omega (arith, h.0.0)), fine_phys φs h.1)
fine_phys (Present f ∷ φs) h = fine_phys φs h.1

fine_all : (d : Domain) → ExpandersRange d → all_fine d ≡ true
unfolding all_fine
fine_all [] h = refl
fine_all (e ∷ d) h = rw (fine_phys e.phys h.0.phys_in_lem, fine_all d h.1)

-- the tests of 19 together
pub formed-is : (card : List ℕ) (d : Domain) → Formed card d → formed card d ≡ true
unfolding formed
formed-is card d f = rw (eq-eqb _ 2 f.version, eq-eqb _ 0 f.zeros, f.results, eq-eqb _ _ f.long, eq-eqb _ 0 f.fill)

-- the card of a domain is formed
module _ (most : Setting) (d : Domain) (h : Legal most d) where
  bits-of : bits_of (card_of d) ≡ card_bits d ++ replicate (8 * bytes_for (length (card_bits d)) - length (card_bits d)) 0
  bits-of = unpacked (bytes_for (length (card_bits d))) (card_bits d) (bits-card d) (omega arith)

  pub card-gives : domain_on (bits_of (card_of d)) ≡ d
  card-gives = rw bits-of (domain-back d (replicate (8 * bytes_for (length (card_bits d)) - length (card_bits d)) 0) h.some (omega (arith, h.few, h.range.expanders.1)) h.ranges)

  version_right : field 4 (bits_of (card_of d)) ≡ 2
  unfolding card_bits number_bits
  version_right = rw bits-of (field_back 4 2 _)

  zeros_right : field 6 (drop 10 (bits_of (card_of d))) ≡ 0
  unfolding card_bits number_bits
  zeros_right = rw bits-of (field_back 6 0 _)

  pub card-formed : formed (card_of d) d ≡ true
  card-formed =
      let l = length-packed_in (bytes_for (length (card_bits d))) (card_bits d) in
      let s : card_size d ≡ length (card_bits d) = sym (size-card d) in
      let n : length (card_of d) ≡ bytes_for (card_size d) = l ∙ ap bytes_for (sym s) in
      let f : field (8 * length (card_of d) - card_size d) (drop (card_size d) (bits_of (card_of d))) ≡ 0 =
      (rw (bits-of, s, drop_at (card_bits d) (replicate (8 * bytes_for (length (card_bits d)) - length (card_bits d)) 0) (length (card_bits d)) refl) (field-zeros (8 * length (card_of d) - length (card_bits d)) (8 * bytes_for (length (card_bits d)) - length (card_bits d)))) in
      formed-is (card_of d) d (record { version = version_right; zeros = zeros_right; results = fine_all d h.ranges; long = n; fill = f })

  -- the card reads as the domain
  pub card-back : card_read most (card_of d) ≡ good d
  unfolding card_read
  card-back =
      let r : in_range most ≡ true = is_true (in_range most) ((range_iff most).1 h.range) in
      let w : within most.expanders (length d) ≡ true = rw (le-leb 1 (length d) h.some, le-leb (length d) most.expanders h.few) in
      rw (r, card-gives, card-formed, w) (h.units (good d))
