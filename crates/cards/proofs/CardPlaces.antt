-- Reading a card at a place: a phy, an expander's fields, the next phy, the next expander; and 19.
use Prim.Native.Nat.{ℕ, zero, suc, ◌+◌, ◌-◌, ◌*◌, ◌/◌, ◌%◌, ◌^◌, ◌≤◌, ◌<◌}
use mathlib.Core.Path.{◌≡◌, refl, sym, ◌∙◌, ap}
use mathlib.Core.Bool.{Bool, true, false}
use mathlib.Core.List.{List, [], ◌∷◌}
use native.Mathlib.Omega.{arith}
use native.Mathlib.Nat.{zero-mul, mul-le-mul_right}
use lib.ListN.{length, drop, length-drop, drop_of_length-le}
use lib.Seq.{drop-drop}
use lib.Dec.{eqb}
use lib.Pow.{pow_pos}
use borrow.Author.Tests.{eq-eqb, ne_eqb, eqb-true, eqb-false}
use Rattle.frames.specs.Bits.{field, bits_of, bytes_for}
use Rattle.frames.proofs.PackedBits.{Bits, length-bits_of, bits-drop}
use Rattle.files.specs.declared.Phy.{Phy}
use Rattle.files.specs.declared.Phy.TheVariants.{Vacant, Present}
use Rattle.files.specs.Domain.{Domain}
use Rattle.cards.specs.Card.{phy_size, phys_size, card_size, present_on, phy_on, phys_on, unit_on, expander_on, expanders_on, domain_on, head_size, most_phy_size}
use Rattle.cards.specs.CardRead.{all_fine, formed}
use Rattle.frames.proofs.NumberBits.{field_lt, field_split}
use Rattle.cards.proofs.CardRoundTrip.{phy-by}
use Rattle.cards.proofs.CardDomain.{phys_in_lem}
use Rattle.cards.proofs.CardPuts.{phy-at-most}

-- the first bit of a phy, its type and its attribute, by its first eight bits
pub record HeadBits (l : List ℕ) (at h : ℕ) : Type 0 where
  pub vacant : h < 128 → field 1 (drop at l) ≡ 0
  pub present : 128 ≤ h → field 1 (drop at l) ≡ 0 → ⊥
  pub device_type : h / 16 % 8 ≡ field 3 (drop (at + 1) l)
  pub attribute : h / 4 % 4 ≡ field 2 (drop (at + 4) l)

pub head-bits : (l : List ℕ) (at h : ℕ) → Bits l → h ≡ field 8 (drop at l) → HeadBits l at h
head-bits l at h b e =
    let m : Bits (drop at l) = bits-drop at l b in
    let s = field_split 1 7 (drop at l) in
    let t : field 7 (drop 1 (drop at l)) ≡ field 3 (drop 1 (drop at l)) * 16 + field 4 (drop 4 (drop at l)) =
    field_split 3 4 (drop 1 (drop at l)) ∙ ap (λ (x : List ℕ). field 3 (drop 1 (drop at l)) * 16 + field 4 x) (drop-drop 3 1 (drop at l)) in
    let u = field_split 2 2 (drop 4 (drop at l)) in
    let f = field_lt 1 (drop at l) m in
    let g = field_lt 3 (drop 1 (drop at l)) (bits-drop 1 (drop at l) m) in
    let i = field_lt 2 (drop 4 (drop at l)) (bits-drop 4 (drop at l) m) in
    let j = field_lt 2 (drop 2 (drop 4 (drop at l))) (bits-drop 2 (drop 4 (drop at l)) (bits-drop 4 (drop at l) m)) in
    let d : h / 16 % 8 ≡ field 3 (drop 1 (drop at l)) = omega arith in
    let a : h / 4 % 4 ≡ field 2 (drop 4 (drop at l)) = omega arith in
    record {
      vacant = λ (x : h < 128). omega arith;
      present = λ (x : 128 ≤ h) (y : field 1 (drop at l) ≡ 0). omega arith;
      device_type = d ∙ ap (field 3) (drop-drop 1 at l);
      attribute = a ∙ ap (field 2) (drop-drop 4 at l);
    }

-- the phy at a place
module _ (l : List ℕ) (at : ℕ) where
  pub vacant-from : (b : ℕ) → field 1 (drop at l) ≡ 0 → b ≡ field 8 (drop (at + 1) l) → Vacant b ≡ phy_on (drop at l)
  vacant-from b z e = sym (phy-by (drop at l) true (eq-eqb _ 0 z) ∙ ap Vacant (ap (field 8) (drop-drop 1 at l) ∙ sym e))

  pub idle_from : (t a : ℕ) → (field 1 (drop at l) ≡ 0 → ⊥) → t ≡ field 3 (drop (at + 1) l) → a ≡ field 2 (drop (at + 4) l) → t ≡ 0
      → Present (record { device_type = t; attribute = a; address = 0; attached_phy = record { 0 = 0 } }) ≡ phy_on (drop at l)
  idle_from t a z e f k =
      let q : field 3 (drop 1 (drop at l)) ≡ t = ap (field 3) (drop-drop 1 at l) ∙ sym e in
      let r : field 2 (drop 4 (drop at l)) ≡ a = ap (field 2) (drop-drop 4 at l) ∙ sym f in
      sym (phy-by (drop at l) false (ne_eqb _ 0 z) ∙ ap (λ (b : Bool). Present (present_on b (drop at l))) (eq-eqb _ 0 (q ∙ k)) ∙ rw (q, r))

  pub bound_from : (t a s p : ℕ) → (field 1 (drop at l) ≡ 0 → ⊥) → t ≡ field 3 (drop (at + 1) l) → a ≡ field 2 (drop (at + 4) l)
      → s ≡ field 64 (drop (at + 6) l) → p ≡ field 8 (drop (at + 70) l) → (t ≡ 0 → ⊥)
      → Present (record { device_type = t; attribute = a; address = s; attached_phy = record { 0 = p } }) ≡ phy_on (drop at l)
  bound_from t a s p z e f g h k =
      let q : field 3 (drop 1 (drop at l)) ≡ t = ap (field 3) (drop-drop 1 at l) ∙ sym e in
      let r : field 2 (drop 4 (drop at l)) ≡ a = ap (field 2) (drop-drop 4 at l) ∙ sym f in
      let u : field 64 (drop 6 (drop at l)) ≡ s = ap (field 64) (drop-drop 6 at l) ∙ sym g in
      let v : field 8 (drop 70 (drop at l)) ≡ p = ap (field 8) (drop-drop 70 at l) ∙ sym h in
      sym (phy-by (drop at l) false (ne_eqb _ 0 z) ∙ ap (λ (b : Bool). Present (present_on b (drop at l))) (ne_eqb _ 0 (λ y. k (sym q ∙ y))) ∙ rw (q, r, u, v))

  -- the next phy
  pub next-phys : (n p : ℕ) → p < n → phys_on (n - p) (drop at l) ≡ phy_on (drop at l) ∷ phys_on (n - (p + 1)) (drop (at + phy_size (phy_on (drop at l))) l)
  unfolding phys_on
  next-phys n p h =
      let w : n - p ≡ suc (n - (p + 1)) = omega arith in
      rw (w, drop-drop (phy_size (phy_on (drop at l))) at l)

  pub no_phys : (n p : ℕ) → n ≤ p → phys_on (n - p) (drop at l) ≡ []
  unfolding phys_on
  no_phys n p h = let w : n - p ≡ 0 = omega arith in rw w

  -- the next expander
  pub next-expanders : (n i : ℕ) → i < n → expanders_on (n - i) (drop at l)
      ≡ expander_on (drop at l) ∷ expanders_on (n - (i + 1)) (drop (at + (head_size + phys_size (expander_on (drop at l)).phys)) l)
  unfolding expanders_on
  next-expanders n i h =
      let w : n - i ≡ suc (n - (i + 1)) = omega arith in
      rw (w, drop-drop (head_size + phys_size (expander_on (drop at l)).phys) at l)

  pub no_expanders : (n i : ℕ) → n ≤ i → expanders_on (n - i) (drop at l) ≡ []
  unfolding expanders_on
  no_expanders n i h = let w : n - i ≡ 0 = omega arith in rw w

  pub phys-from : (expander_on (drop at l)).phys ≡ phys_on (suc (field 7 (drop (at + 81) l))) (drop (at + head_size) l)
  phys-from = phys_in_lem (drop at l) ∙ rw (drop-drop 81 at l, drop-drop head_size at l)

pub sizes-few : (φs : List Phy) → phys_size φs ≤ most_phy_size * length φs
unfolding phys_size
sizes-few [] = omega arith
sizes-few (φ ∷ φs) = let a = sizes-few φs in let b = phy-at-most φ in omega arith

-- the fields of the expander at a place
pub unit-from : (l : List ℕ) (at a r p c : ℕ) → a ≡ field 64 (drop at l) → r ≡ field 16 (drop (at + 64) l) → p ≡ suc (field 7 (drop (at + 81) l)) → c ≡ field 1 (drop (at + 80) l)
    → record { address = a; route_indexes = r; phys = p; configurable = c } ≡ unit_on (drop at l)
unit-from l at a r p c qa qr qp qc = rw (drop-drop 64 at l, drop-drop 81 at l, drop-drop 80 at l, qa, qr, qp, qc)

-- bits that end a row, by the eight bits from there on
fill-bits : (l : List ℕ) (k f : ℕ) → k ≡ length l → k ≤ 8 → f ≡ field 8 l → eqb f 0 ≡ eqb (field k l) 0
unfolding field
fill-bits l k f e h g = go (eqb (field k l) 0) refl
  where
    whole : f ≡ field k l * 2 ^ (8 - k)
    whole =
        let n : k + (8 - k) ≡ 8 = omega arith in
        let d : drop k l ≡ [] = drop_of_length-le l {i = k} (omega arith) in
        let s : field 8 l ≡ field k l * 2 ^ (8 - k) + field (8 - k) (drop k l) = ap (λ (i : ℕ). field i l) (sym n) ∙ field_split k (8 - k) l in
        let z : field (8 - k) (drop k l) ≡ 0 = ap (field (8 - k)) d in
        omega arith

    go : (b : Bool) → eqb (field k l) 0 ≡ b → eqb f 0 ≡ b
    go true q =
        let z : field k l ≡ 0 = eqb-true (field k l) 0 q in
        eq-eqb f 0 (whole ∙ ap (λ (i : ℕ). i * 2 ^ (8 - k)) z ∙ zero-mul (2 ^ (8 - k)))
    go false q =
        let z = eqb-false (field k l) 0 q in
        let o : 1 ≤ field k l = one_le (field k l) z in
        let m : 1 * 2 ^ (8 - k) ≤ field k l * 2 ^ (8 - k) = mul-le-mul_right (2 ^ (8 - k)) o in
        let p = pow_pos (8 - k) in
        let w = whole in
        ne_eqb f 0 (λ (y : f ≡ 0). omega arith)
      where
        one_le : (x : ℕ) → (x ≡ 0 → ⊥) → 1 ≤ x
        one_le zero n = absurd (n refl)
        one_le (suc x) n = omega arith

-- 19, by the tests of is_formed
module _ (card : List ℕ) where
  abbrev B : List ℕ
  B = bits_of card

  abbrev D : Domain
  D = domain_on (bits_of card)

  pub formed-version : (field 4 B ≡ 2 → ⊥) → false ≡ formed card D
  unfolding formed
  formed-version a = rw (ne_eqb (field 4 B) 2 a)

  module _ (a : field 4 B ≡ 2) where
    pub formed-zeros : (field 6 (drop 10 B) ≡ 0 → ⊥) → false ≡ formed card D
    unfolding formed
    formed-zeros b = rw (eq-eqb (field 4 B) 2 a, ne_eqb (field 6 (drop 10 B)) 0 b)

    module _ (b : field 6 (drop 10 B) ≡ 0) where
      pub formed-bad : all_fine D ≡ false → false ≡ formed card D
      unfolding formed
      formed-bad q = rw (eq-eqb (field 4 B) 2 a, eq-eqb (field 6 (drop 10 B)) 0 b, q)

      module _ (q : all_fine D ≡ true) (x : ℕ) (p : x ≡ card_size D) where
        pub formed-long : (length card ≡ bytes_for x → ⊥) → false ≡ formed card D
        unfolding formed
        formed-long h =
            let n : length card ≡ bytes_for (card_size D) → ⊥ = λ z. h (z ∙ ap bytes_for (sym p)) in
            rw (eq-eqb (field 4 B) 2 a, eq-eqb (field 6 (drop 10 B)) 0 b, q, ne_eqb (length card) (bytes_for (card_size D)) n)

        pub formed-fill : (f : ℕ) → length card ≡ bytes_for x → f ≡ field 8 (drop x B) → eqb f 0 ≡ formed card D
        unfolding formed
        formed-fill f h g =
            let n : length card ≡ bytes_for (card_size D) = h ∙ ap bytes_for p in
            let w : eqb f 0 ≡ eqb (field (8 * length card - x) (drop x B)) 0 =
            fill-bits (drop x B) (8 * length card - x) f (omega (arith, length-drop x B, length-bits_of card)) (omega arith) g in
            let y : eqb f 0 ≡ eqb (field (8 * length card - card_size D) (drop (card_size D) B)) 0 = w ∙ ap (λ (z : ℕ). eqb (field (8 * length card - z) (drop z B)) 0) p in
            rw (eq-eqb (field 4 B) 2 a, eq-eqb (field 6 (drop 10 B)) 0 b, q, eq-eqb (length card) (bytes_for (card_size D)) n) y
