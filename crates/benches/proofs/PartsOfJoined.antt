-- A joined domain holds each of the two, from a number on, with one phy cabled.
use mathlib.Core.Path.{◌≡◌, refl, sym, ap, subst, ◌∙◌}
use mathlib.Core.Logic.{inl, ◌≢◌, by_cases}
use mathlib.Core.List.{[], ◌∷◌, ◌++◌}
use mathlib.Core.Bool.{Bool, true, false, cond}
use Prim.Native.Nat.{ℕ, suc, ◌+◌, ◌≤◌, ◌<◌}
use native.Mathlib.Decide.{ℕ_discrete, dec_lt}
use native.Mathlib.Nat.{zero-add}
use native.Mathlib.Omega.{arith}
use lib.ListN.{length, get_or, length-append, length-set, get_or-append}
use lib.Seq.{get_or-append-add, get_or-set_same, get_or-set_other}
use lib.Dec.{T, eqb}
use Rattle.files.specs.declared.Phy.{Phy}
use Rattle.files.specs.declared.Phy.TheVariants.{Vacant}
use Rattle.files.specs.Domain.{Expander, Domain, no_expander, expander_at, phy_at, has_attribute, attached, number_of}
use Rattle.files.specs.PhyReplaced.{with_phy, set_phy}
use Rattle.wiring.specs.graph.Devices.{Borne}
use Rattle.files.proofs.Domains.{number_of-is, number-set, attribute-range, expander-range}
use Rattle.benches.specs.JoinConditions.{Free, Joinable}
use Rattle.benches.specs.Joined.{cabled_to, joined}

-- what is so of a cabled part whatever the addresses
pub record Stands (d e : Domain) (k i p : ℕ) : Type 0 where
  pub address : (x : ℕ) → x < length d → (expander_at e (k + x)).address ≡ (expander_at d x).address
  pub other : (x y : ℕ) → x < length d → ¬ ((x ≡ i) × (y ≡ p)) → phy_at e (k + x) y ≡ phy_at d x y

-- an attached phy stays as it is
pub attached-stays : (d e : Domain) (k i p x y : ℕ) → Stands d e k i p → Free d i p → x < length d → T (attached (phy_at d x y)) → phy_at e (k + x) y ≡ phy_at d x y
attached-stays d e k i p x y st f h t =
    st.other x y h (λ u. f.unattached (subst (λ v. T (attached (phy_at d i v))) u.1 (subst (λ v. T (attached (phy_at d v y))) u.0 t)))

pub record Part (d e : Domain) (k i p s q : ℕ) : Type 0 where
  pub within : k + length d ≤ length e
  pub address : (x : ℕ) → x < length d → (expander_at e (k + x)).address ≡ (expander_at d x).address
  pub route_indexes : (x : ℕ) → x < length d → (expander_at e (k + x)).route_indexes ≡ (expander_at d x).route_indexes
  pub configurable : (x : ℕ) → x < length d → (expander_at e (k + x)).configurable ≡ (expander_at d x).configurable
  pub size : (x : ℕ) → x < length d → length (expander_at e (k + x)).phys ≡ length (expander_at d x).phys
  pub same : (x : ℕ) → x < length d → x ≢ i → (expander_at e (k + x)).phys ≡ (expander_at d x).phys
  pub other : (x y : ℕ) → x < length d → ¬ ((x ≡ i) × (y ≡ p)) → phy_at e (k + x) y ≡ phy_at d x y
  pub cabled : phy_at e (k + i) p ≡ cabled_to s q
  pub inside : i < length d
  pub free : Free d i p
  pub foreign : ¬ (Borne d s)
  pub numbers : (t : ℕ) → number_of d t < length d → number_of e t ≡ k + number_of d t

number_with : (d : Domain) (i p : ℕ) (φ : Phy) (t : ℕ) → number_of (set_phy d i p φ) t ≡ number_of d t
unfolding set_phy with_phy
number_with d i p φ t = number-set d i (with_phy (expander_at d i) p φ) t refl

pub length_with : (d : Domain) (i p : ℕ) (φ : Phy) → length (set_phy d i p φ) ≡ length d
unfolding set_phy
length_with d i p φ = length-set d i (with_phy (expander_at d i) p φ)

number-left : (a b : Domain) (t : ℕ) → number_of a t < length a → number_of (a ++ b) t ≡ number_of a t
unfolding number_of
number-left [] b t h = absurd (omega arith)
number-left (x ∷ a) b t h = go (eqb x.address t) h (number-left a b t)
  where
    go : (c : Bool) → cond c 0 (suc (number_of a t)) < suc (length a) → (number_of a t < length a → number_of (a ++ b) t ≡ number_of a t)
        → cond c 0 (suc (number_of (a ++ b) t)) ≡ cond c 0 (suc (number_of a t))
    go true k r = refl
    go false k r = ap suc (r (omega arith))

number_right : (a b : Domain) (t : ℕ) → length a ≤ number_of a t → number_of (a ++ b) t ≡ length a + number_of b t
unfolding number_of
number_right [] b t h = omega arith
number_right (x ∷ a) b t h = go (eqb x.address t) h (number_right a b t)
  where
    go : (c : Bool) → suc (length a) ≤ cond c 0 (suc (number_of a t)) → (length a ≤ number_of a t → number_of (a ++ b) t ≡ length a + number_of b t)
        → cond c 0 (suc (number_of (a ++ b) t)) ≡ suc (length a) + number_of b t
    go true k r = absurd (omega arith)
    go false k r = let z = r (omega arith) in omega arith

pub attribute-inside : (d : Domain) (a i p : ℕ) → a ≤ 2 → T (has_attribute a (phy_at d i p)) → i < length d
attribute-inside d a i p h t = expander-range d i p (attribute-range d a i p t h)

-- an expander of a domain with another phy
module _ (d : Domain) (i p : ℕ) (φ : Phy) (inside : i < length d) where
  with_here : expander_at (set_phy d i p φ) i ≡ with_phy (expander_at d i) p φ
  unfolding set_phy
  with_here = get_or-set_same d i (with_phy (expander_at d i) p φ) no_expander inside

  with_other : (x : ℕ) → x ≢ i → expander_at (set_phy d i p φ) x ≡ expander_at d x
  unfolding set_phy
  with_other x n = get_or-set_other d i x (with_phy (expander_at d i) p φ) no_expander n

  -- what a phy does not change
  keeps : {B : Type 0} (g : Expander → B) → ((v : Expander) → g (with_phy v p φ) ≡ g v) → (x : ℕ) → g (expander_at (set_phy d i p φ) x) ≡ g (expander_at d x)
  keeps g c x = by_cases (ℕ_discrete x i)
      (λ o. ap (λ v. g (expander_at (set_phy d i p φ) v)) o ∙ ap g with_here ∙ c (expander_at d i) ∙ ap (λ v. g (expander_at d v)) (sym o))
      (λ o. ap g (with_other x o))

  phy-other : (x y : ℕ) → ¬ ((x ≡ i) × (y ≡ p)) → phy_at (set_phy d i p φ) x y ≡ phy_at d x y
  unfolding with_phy
  phy-other x y n = by_cases (ℕ_discrete x i)
      (λ o. ap (λ v. phy_at (set_phy d i p φ) v y) o ∙ ap (λ (v : Expander). get_or v.phys y (Vacant 0)) with_here
      ∙ get_or-set_other (expander_at d i).phys p y φ (Vacant 0) (λ u. n (o, u)) ∙ ap (λ v. phy_at d v y) (sym o))
      (λ o. ap (λ (v : Expander). get_or v.phys y (Vacant 0)) (with_other x o))

  phy-here : p < length (expander_at d i).phys → phy_at (set_phy d i p φ) i p ≡ φ
  unfolding with_phy
  phy-here h = ap (λ (v : Expander). get_or v.phys p (Vacant 0)) with_here ∙ get_or-set_same (expander_at d i).phys p φ (Vacant 0) h

  with_size : (v : Expander) → length (with_phy v p φ).phys ≡ length v.phys
  unfolding with_phy
  with_size v = length-set v.phys p φ

  with_address : (v : Expander) → (with_phy v p φ).address ≡ v.address
  unfolding with_phy
  with_address v = refl

  with_route_indexes : (v : Expander) → (with_phy v p φ).route_indexes ≡ v.route_indexes
  unfolding with_phy
  with_route_indexes v = refl

  with_configurable : (v : Expander) → (with_phy v p φ).configurable ≡ v.configurable
  unfolding with_phy
  with_configurable v = refl

-- the cabled phy of a part that stands as it is cabled, whatever the addresses
cable_of : (d e : Domain) (k i p : ℕ) (φ : Phy) → ((x : ℕ) → x < length d → expander_at e (k + x) ≡ expander_at (set_phy d i p φ) x) → Free d i p → phy_at e (k + i) p ≡ φ
cable_of d e k i p φ f free =
    let inside = attribute-inside d 1 i p (omega arith) free.subtractive in
    ap (λ (v : Expander). get_or v.phys p (Vacant 0)) (f i inside) ∙ phy-here d i p φ inside (attribute-range d 1 i p free.subtractive (omega arith))

-- what is said of a part that stands as it is cabled
part_of : (d e : Domain) (k i p s q : ℕ) → k + length d ≤ length e
    → ((x : ℕ) → x < length d → expander_at e (k + x) ≡ expander_at (set_phy d i p (cabled_to s q)) x)
    → Free d i p → ¬ (Borne d s) → ((t : ℕ) → number_of d t < length d → number_of e t ≡ k + number_of d t) → Part d e k i p s q
part_of d e k i p s q h f free foreign numbers =
    let inside = attribute-inside d 1 i p (omega arith) free.subtractive in
    let φ = cabled_to s q in
    record {
      within = h;
      address = λ x l. ap (λ (v : Expander). v.address) (f x l) ∙ keeps d i p φ inside (λ v. v.address) (with_address d i p φ inside) x;
      route_indexes = λ x l. ap (λ (v : Expander). v.route_indexes) (f x l) ∙ keeps d i p φ inside (λ v. v.route_indexes) (with_route_indexes d i p φ inside) x;
      configurable = λ x l. ap (λ (v : Expander). v.configurable) (f x l) ∙ keeps d i p φ inside (λ v. v.configurable) (with_configurable d i p φ inside) x;
      size = λ x l. ap (λ (v : Expander). length v.phys) (f x l) ∙ keeps d i p φ inside (λ v. length v.phys) (with_size d i p φ inside) x;
      same = λ x l n. ap (λ (v : Expander). v.phys) (f x l ∙ with_other d i p φ inside x n);
      other = λ x y l n. ap (λ (v : Expander). get_or v.phys y (Vacant 0)) (f x l) ∙ phy-other d i p φ inside x y n;
      cabled = cable_of d e k i p φ f free;
      inside = inside;
      free = free;
      foreign = foreign;
      numbers = numbers;
    }

stands_of : (d e : Domain) (k i p : ℕ) (φ : Phy) → ((x : ℕ) → x < length d → expander_at e (k + x) ≡ expander_at (set_phy d i p φ) x) → i < length d → Stands d e k i p
stands_of d e k i p φ f inside = record {
  address = λ x l. ap (λ (v : Expander). v.address) (f x l) ∙ keeps d i p φ inside (λ v. v.address) (with_address d i p φ inside) x;
  other = λ x y l n. ap (λ (v : Expander). get_or v.phys y (Vacant 0)) (f x l) ∙ phy-other d i p φ inside x y n;
}

module _ (d₁ : Domain) (i p : ℕ) (d₂ : Domain) (j q : ℕ) where
  abbrev one : Domain
  one = set_phy d₁ i p (cabled_to (expander_at d₂ j).address q)

  abbrev two : Domain
  two = set_phy d₂ j q (cabled_to (expander_at d₁ i).address p)

  length-one : length one ≡ length d₁
  length-one = length_with d₁ i p (cabled_to (expander_at d₂ j).address q)

  length_two : length two ≡ length d₂
  length_two = length_with d₂ j q (cabled_to (expander_at d₁ i).address p)

  pub joined_length : length (joined d₁ i p d₂ j q) ≡ length d₁ + length d₂
  unfolding joined
  joined_length = let a = length-one in let b = length_two in length-append one two ∙ omega arith

  first-at : (x : ℕ) → x < length d₁ → expander_at (joined d₁ i p d₂ j q) (0 + x) ≡ expander_at one x
  unfolding joined
  first-at x l = ap (expander_at (one ++ two)) (zero-add x) ∙ get_or-append one two no_expander x (let a = length-one in omega arith)

  second_at : (x : ℕ) → x < length d₂ → expander_at (joined d₁ i p d₂ j q) (length d₁ + x) ≡ expander_at two x
  unfolding joined
  second_at x l = ap (λ v. expander_at (one ++ two) (v + x)) (sym length-one) ∙ get_or-append-add one two x no_expander

  pub first_stands : Free d₁ i p → Stands d₁ (joined d₁ i p d₂ j q) 0 i p
  first_stands f = stands_of d₁ (joined d₁ i p d₂ j q) 0 i p (cabled_to (expander_at d₂ j).address q) first-at (attribute-inside d₁ 1 i p (omega arith) f.subtractive)

  pub second_stands : Free d₂ j q → Stands d₂ (joined d₁ i p d₂ j q) (length d₁) j q
  second_stands f = stands_of d₂ (joined d₁ i p d₂ j q) (length d₁) j q (cabled_to (expander_at d₁ i).address p) second_at (attribute-inside d₂ 1 j q (omega arith) f.subtractive)

  pub first-cabled : Free d₁ i p → phy_at (joined d₁ i p d₂ j q) (0 + i) p ≡ cabled_to (expander_at d₂ j).address q
  first-cabled = cable_of d₁ (joined d₁ i p d₂ j q) 0 i p (cabled_to (expander_at d₂ j).address q) first-at

  pub second-cabled : Free d₂ j q → phy_at (joined d₁ i p d₂ j q) (length d₁ + j) q ≡ cabled_to (expander_at d₁ i).address p
  second-cabled = cable_of d₂ (joined d₁ i p d₂ j q) (length d₁) j q (cabled_to (expander_at d₁ i).address p) second_at

  pub number-first : (t : ℕ) → number_of d₁ t < length d₁ → number_of (joined d₁ i p d₂ j q) t ≡ 0 + number_of d₁ t
  unfolding joined
  number-first t l =
      let a = length-one in
      let n = number_with d₁ i p (cabled_to (expander_at d₂ j).address q) t in
      let m = number-left one two t (omega arith) in
      omega arith

  pub number-second : (t : ℕ) → length d₁ ≤ number_of d₁ t → number_of d₂ t < length d₂ → number_of (joined d₁ i p d₂ j q) t ≡ length d₁ + number_of d₂ t
  unfolding joined
  number-second t o l =
      let a = length-one in
      let n = number_with d₁ i p (cabled_to (expander_at d₂ j).address q) t in
      let k = number_with d₂ j q (cabled_to (expander_at d₁ i).address p) t in
      let m = number_right one two t (omega arith) in
      omega arith

  module _ (c : Joinable d₁ i p d₂ j q) where
    i_in : i < length d₁
    i_in = attribute-inside d₁ 1 i p (omega arith) c.first.subtractive

    j_in : j < length d₂
    j_in = attribute-inside d₂ 1 j q (omega arith) c.second.subtractive

    pub first_part : Part d₁ (joined d₁ i p d₂ j q) 0 i p (expander_at d₂ j).address q
    first_part = part_of d₁ (joined d₁ i p d₂ j q) 0 i p (expander_at d₂ j).address q
        (let z = joined_length in omega arith)
        first-at
        c.first
        (λ b. c.apart (expander_at d₂ j).address b (j, j_in, inl refl))
        number-first

    pub second-part : Part d₂ (joined d₁ i p d₂ j q) (length d₁) j q (expander_at d₁ i).address p
    second-part = part_of d₂ (joined d₁ i p d₂ j q) (length d₁) j q (expander_at d₁ i).address p
        (let z = joined_length in omega arith)
        second_at
        c.second
        (λ b. c.apart (expander_at d₁ i).address (i, i_in, inl refl) b)
        (λ t l. number-second t (absent t l) l)
      where
        absent : (t : ℕ) → number_of d₂ t < length d₂ → length d₁ ≤ number_of d₁ t
        absent t l = by_cases (dec_lt (number_of d₁ t) (length d₁))
            (λ h. absurd (c.apart t (number_of d₁ t, h, inl (number_of-is d₁ t h)) (number_of d₂ t, l, inl (number_of-is d₂ t l))))
            (λ h. omega arith)
