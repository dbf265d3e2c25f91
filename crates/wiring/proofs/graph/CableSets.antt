-- Cables as sets: the set of one phy, of the phys of an expander one by one, and which expanders it leads to.
use Prim.Native.Nat.{ℕ, suc, ◌+◌, ◌-◌, ◌*◌, ◌/◌, ◌%◌, ◌^◌, ◌≤◌, ◌<◌, max}
use mathlib.Core.Path.{◌≡◌, refl, sym, ◌∙◌, ap, ap₂}
use mathlib.Core.Logic.{by_cases}
use mathlib.Core.Bool.{true, false, ◌||◌, ◌&&◌, or-false}
use mathlib.Core.List.{List, [], ◌∷◌}
use native.Mathlib.Decide.{ℕ_discrete, dec_lt}
use native.Mathlib.Omega.{arith}
use native.Mathlib.Nat.{one-mul, mod-eq_of_lt, div-eq_of_lt, zero-div}
use lib.ListN.{length, get_or, take}
use lib.Dec.{eqb, eqb→eq}
use lib.Bits.{bit_or, or_shr, or_step, shifted_even}
use lib.Pow.{pow-lt, pow-add, shl-shr}
use borrow.Author.Tests.{eq-eqb, ne_eqb, lt-leb}
use Rattle.files.specs.declared.Phy.{Phy}
use Rattle.files.specs.declared.Phy.TheVariants.{Vacant}
use Rattle.files.specs.Lists.{any}
use Rattle.files.specs.Domain.{Domain, expander_at, type_of, address_of, to_expander, number_of}
use Rattle.wiring.specs.graph.Neighbours.{cabled}
use Rattle.wiring.specs.graph.Rounds.{has_bit}
use Rattle.wiring.specs.graph.CableSets.{leads_to, CableSet, Leading}
use Rattle.files.proofs.ListMembers.{any_same, any_append, eq→eqb, same_test}
use Rattle.files.proofs.Domains.{number_of-is}
use Rattle.files.proofs.OneMore.{take_next}
use Rattle.wiring.proofs.index.ExpanderNumbers.{number_le}

-- a bit of what two words hold together
or_bit : (w v j : ℕ) → bit_or w v / 2 ^ j % 2 ≡ max (w / 2 ^ j % 2) (v / 2 ^ j % 2)
or_bit w v j =
    let a = w / 2 ^ j in
    let b = v / 2 ^ j in
    let e : bit_or w v / 2 ^ j ≡ bit_or a b = or_shr w v j in
    let s : bit_or a b ≡ bit_or (a / 2) (b / 2) * 2 + max (a % 2) (b % 2) = or_step a b in
    omega arith

has_either : (w v j : ℕ) → has_bit (bit_or w v) j ≡ (has_bit w j || has_bit v j)
has_either w v j =
    let o = or_bit w v j in
    by_cases (ℕ_discrete (w / 2 ^ j % 2) 1)
    (λ z. rw (eq-eqb (w / 2 ^ j % 2) 1 z) (eq-eqb (bit_or w v / 2 ^ j % 2) 1 (omega arith)))
    (λ z. rw (ne_eqb (w / 2 ^ j % 2) 1 z) (let e : bit_or w v / 2 ^ j % 2 ≡ v / 2 ^ j % 2 = omega arith in ap (λ (x : ℕ). eqb x 1) e))

no_bit : (j : ℕ) → has_bit 0 j ≡ false
no_bit j = rw zero-div

-- a power of two has one bit
one_bit : (k j : ℕ) → has_bit (2 ^ k) j ≡ eqb k j
one_bit k j = by_cases (ℕ_discrete k j) here (λ n. by_cases (dec_lt k j) above (below n))
  where
    here : k ≡ j → has_bit (2 ^ k) j ≡ eqb k j
    here e =
        let s : 2 ^ j / 2 ^ j ≡ 1 = ap (λ (x : ℕ). x / 2 ^ j) (sym (one-mul (2 ^ j))) ∙ shl-shr 1 j in
        rw (e, s, eq-eqb j j refl)

    above : k < j → has_bit (2 ^ k) j ≡ eqb k j
    above h = rw (div-eq_of_lt (pow-lt h), ne_eqb k j (λ z. omega arith))

    below : (k ≡ j → ⊥) → ¬ (k < j) → has_bit (2 ^ k) j ≡ eqb k j
    below n h =
        let e : suc (k - j - 1) + j ≡ k = omega arith in
        let s : 2 ^ k / 2 ^ j ≡ 2 ^ suc (k - j - 1) = ap (λ (x : ℕ). 2 ^ x / 2 ^ j) (sym e) ∙ ap (λ (x : ℕ). x / 2 ^ j) (pow-add 2 (suc (k - j - 1)) j) ∙ shl-shr (2 ^ suc (k - j - 1)) j in
        let z : 2 ^ suc (k - j - 1) % 2 ≡ 0 = ap (λ (x : ℕ). x % 2) (sym (one-mul (2 ^ suc (k - j - 1)))) ∙ shifted_even 1 (k - j - 1) in
        rw (s, z, ne_eqb k j n)

module _ (d : Domain) where
  -- one phy
  module _ (φ : Phy) where
    one-phy : (w : ℕ) → ((m : ℕ) → m < 64 → has_bit w m ≡ leads_to d m φ) → CableSet d (φ ∷ []) w
    unfolding any
    one-phy w e = record { bit = λ m h. e m h ∙ sym (or-false (leads_to d m φ)) }

    pub far_no : type_of φ < 2 → CableSet d (φ ∷ []) 0
    far_no h = one-phy 0 (λ m l. no_bit m ∙ rw (lt-leb 2 (type_of φ) h))

    module _ (t : to_expander φ ≡ true) (k : ℕ) (e : k ≡ number_of d (address_of φ)) where
      pub far_high : 64 ≤ k → CableSet d (φ ∷ []) 0
      far_high h = one-phy 0 (λ m l. no_bit m ∙ rw (t, ne_eqb (number_of d (address_of φ)) m (λ z. omega arith)))

      pub far-one : k < 64 → CableSet d (φ ∷ []) (1 * 2 ^ k % 18446744073709551616)
      far-one h = one-phy _ (λ m l.
          let w : 1 * 2 ^ k % 18446744073709551616 ≡ 2 ^ k = rw one-mul (mod-eq_of_lt (pow-lt h)) in
          ap (λ (x : ℕ). has_bit x m) w ∙ one_bit k m ∙ ap (λ (x : ℕ). eqb x m) e ∙ rw t)

  -- the phys of an expander, one by one
  pub far_none : CableSet d [] 0
  unfolding any
  far_none = record { bit = λ m h. no_bit m }

  pub far-next : (φs : List Phy) (p w v : ℕ) → CableSet d (take p φs) w → CableSet d (get_or φs p (Vacant 0) ∷ []) v → p < length φs → CableSet d (take (p + 1) φs) (bit_or w v)
  far-next φs p w v a b h = record {
    bit = λ m l. has_either w v m ∙ ap₂ ◌||◌ (a.bit m l) (b.bit m l) ∙ sym (any_append (leads_to d m) (take p φs) (get_or φs p (Vacant 0) ∷ []))
        ∙ ap (any (leads_to d m)) (sym (take_next (Vacant 0) φs p h));
  }

  -- numbers of addresses are the same where the addresses are
  same_number : (s a : ℕ) → number_of d s < length d → eqb (number_of d a) (number_of d s) ≡ eqb a s
  same_number s a h = same_test (eqb (number_of d a) (number_of d s)) (eqb a s)
      (λ t. let e = eqb→eq (number_of d a) (number_of d s) t in
      eq→eqb a s (sym (number_of-is d a (omega arith)) ∙ ap (λ (x : ℕ). (expander_at d x).address) e ∙ number_of-is d s h))
      (λ t. eq→eqb (number_of d a) (number_of d s) (ap (number_of d) (eqb→eq a s t)))

  module _ (first words : List ℕ) (few : length d ≤ 64) (all : Leading d first words) where
    pub first-low : (j : ℕ) → j < length d → get_or first j 0 < 64
    first-low j h =
        let e = (all.index.each j (omega arith)).same h in
        omega (arith, number_le d (expander_at d j).address j h refl)

    pub leads-cabled : (i j : ℕ) → i < length d → j < length d → has_bit (get_or words i 0) (get_or first j 0) ≡ cabled d i j
    unfolding cabled
    leads-cabled i j h k =
        let s = (expander_at d j).address in
        let e : get_or first j 0 ≡ number_of d s = (all.index.each j (omega arith)).same k in
        let n = number_le d s j k refl in
        ap (has_bit (get_or words i 0)) e ∙ (all.sets i h).bit (number_of d s) (omega arith)
        ∙ any_same (leads_to d (number_of d s)) (λ φ. to_expander φ && eqb (address_of φ) s) (expander_at d i).phys
        (λ φ. ap (λ b. to_expander φ && b) (same_number s (address_of φ) (omega arith)))
