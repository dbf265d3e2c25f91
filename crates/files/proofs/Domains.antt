-- What holds of any domain: types and attributes of a phy, the number of an address, and what is not past the end.
use mathlib.Core.Path.{◌≡◌, refl, sym, ap, subst, ◌∙◌}
use mathlib.Core.Logic.{◌⊎◌, inl, inr, ◌≢◌, by_cases}
use mathlib.Core.List.{[], ◌∷◌}
use mathlib.Core.Bool.{Bool, cond}
use Prim.Native.Nat.{ℕ, zero, suc, ◌≤◌, ◌<◌}
use native.Mathlib.Decide.{ℕ_discrete, dec_lt}
use native.Mathlib.Omega.{arith}
use lib.ListN.{length, set, get_or-eq_default}
use lib.Dec.{T, eqb, eqb→eq, not_T, T_not, leb→le, le→leb}
use Rattle.files.specs.declared.Phy.{Phy}
use Rattle.files.specs.declared.Phy.TheVariants.{Vacant}
use Rattle.files.specs.Domain.{Expander, Domain, no_expander, expander_at, phy_at, type_of, attribute_of, has_attribute, attached, to_end, to_expander, number_of}
use Rattle.files.proofs.ListMembers.{by-test, was_true, eq→eqb}

-- types and attributes
pub type-attached : (φ : Phy) → type_of φ ≢ 0 → T (attached φ)
type-attached φ n = not_T (eqb (type_of φ) 0) (λ t. n (eqb→eq (type_of φ) 0 t))

pub type-none : (φ : Phy) → type_of φ ≡ 0 → ¬ (T (attached φ))
type-none φ e t = T_not (eqb (type_of φ) 0) t (eq→eqb (type_of φ) 0 e)

pub end-attached : (φ : Phy) → T (to_end φ) → T (attached φ)
end-attached φ t = not_T (eqb (type_of φ) 0) (λ u. let e = eqb→eq (type_of φ) 1 t in let f = eqb→eq (type_of φ) 0 u in omega arith)

pub expander-attached : (φ : Phy) → T (to_expander φ) → T (attached φ)
expander-attached φ t = not_T (eqb (type_of φ) 0) (λ u. let e = leb→le 2 (type_of φ) t in let f = eqb→eq (type_of φ) 0 u in omega arith)

pub attached_cases : (φ : Phy) → T (attached φ) → T (to_end φ) ⊎ T (to_expander φ)
attached_cases φ t =
    by_cases (ℕ_discrete (type_of φ) 1) (λ e. inl (eq→eqb (type_of φ) 1 e))
    (λ k. inr (le→leb 2 (type_of φ) (go (type_of φ) k (λ e. T_not (eqb (type_of φ) 0) t (eq→eqb (type_of φ) 0 e)))))
  where
    go : (m : ℕ) → m ≢ 1 → m ≢ 0 → 2 ≤ m
    go m a b = omega arith

pub end_no_expander : (φ : Phy) → T (to_end φ) → T (to_expander φ) → ⊥
end_no_expander φ t u = let e = eqb→eq (type_of φ) 1 t in let f = leb→le 2 (type_of φ) u in omega arith

pub attribute-one : (a b : ℕ) (φ : Phy) → T (has_attribute a φ) → T (has_attribute b φ) → a ≡ b
attribute-one a b φ t u = sym (eqb→eq (attribute_of φ) a t) ∙ eqb→eq (attribute_of φ) b u

-- the number of an address
pub number_of-is : (d : Domain) (s : ℕ) → number_of d s < length d → (expander_at d (number_of d s)).address ≡ s
unfolding number_of
number_of-is [] s h = absurd (omega arith)
number_of-is (e ∷ d) s h = by-test (eqb e.address s)
    (λ q. rw q (eqb→eq e.address s (was_true _ q)))
    (λ q. rw q (number_of-is d s (let k = rw q at h in omega arith)))

-- it stays where an expander is replaced by one of the same address
pub number-set : (d : Domain) (i : ℕ) (e : Expander) (s : ℕ) → e.address ≡ (expander_at d i).address → number_of (set d i e) s ≡ number_of d s
unfolding number_of
number-set [] i e s h = refl
number-set (x ∷ d) zero e s h = ap (λ v. cond (eqb v s) 0 (suc (number_of d s))) h
number-set (x ∷ d) (suc i) e s h = ap (λ v. cond (eqb x.address s) 0 (suc v)) (number-set d i e s h)

-- what is not past the end
pub expander-range : (d : Domain) (i p : ℕ) → p < length (expander_at d i).phys → i < length d
expander-range d i p h =
    by_cases (dec_lt i (length d)) (λ k. k)
    (λ k. let e : expander_at d i ≡ no_expander = get_or-eq_default d no_expander (omega arith) in
    let z = subst (λ (x : Expander). p < length x.phys) e h in absurd (omega arith))

-- a test that fails of the vacant phy past the end
pub phy-range : (d : Domain) (test : Phy → Bool) (i p : ℕ) → T (test (phy_at d i p)) → ¬ (T (test (Vacant 0))) → p < length (expander_at d i).phys
phy-range d test i p t n =
    by_cases (dec_lt p (length (expander_at d i).phys)) (λ h. h)
    (λ k. absurd (n (subst (λ φ. T (test φ)) (get_or-eq_default (expander_at d i).phys (Vacant 0) (omega arith)) t)))

pub in_range_lem : (d : Domain) (i p : ℕ) → T (attached (phy_at d i p)) → (i < length d) × (p < length (expander_at d i).phys)
in_range_lem d i p t = let h = phy-range d attached i p t (λ u. u) in (expander-range d i p h, h)

pub attribute-range : (d : Domain) (k i p : ℕ) → T (has_attribute k (phy_at d i p)) → k ≤ 2 → p < length (expander_at d i).phys
attribute-range d k i p t h = phy-range d (has_attribute k) i p t (λ u. let e = eqb→eq 3 k u in omega arith)
