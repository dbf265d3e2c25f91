-- Phys of one link.
use Prim.Native.Nat.{ℕ}
use mathlib.Core.List.{List}
use mathlib.Core.Path.{◌≡◌, sym, ◌∙◌, ap, subst}
use mathlib.Core.Bool.{Bool, true, ◌&&◌}
use lib.Dec.{T, eqb}
use Rattle.files.specs.declared.Phy.{Phy}
use Rattle.files.specs.Domain.{Domain, phy_at, address_of, to_expander, number_of}
use Rattle.files.specs.Rows.{domain_in}
use Rattle.wiring.specs.index.AddressIndex.{attached_expander, IndexedFirst}
use Rattle.files.proofs.ListMembers.{and_left, was_true}
use Rattle.wiring.proofs.index.IndexEntries.{far_in}
use Rattle.tables.specs.levels.Levels.{down}
use Rattle.tables.specs.lists.PreparedLists.{one_link, AttachedExpandersKnown}

pub linked-by : (d : Domain) (φ ψ : Phy) {a b e : Bool} → down d φ ≡ a → down d ψ ≡ b → eqb (address_of φ) (address_of ψ) ≡ e
    → one_link d φ ψ ≡ (a && (b && e))
unfolding one_link
linked-by d φ ψ p q s = rw (p, q, s)

pub linked-at : (d : Domain) {φ ψ φ' ψ' : Phy} {r : Bool} → φ ≡ φ' → ψ ≡ ψ' → r ≡ one_link d φ ψ → r ≡ true → T (one_link d φ' ψ')
linked-at d {φ} {ψ} {φ'} {ψ'} p q e t = was_true (one_link d φ' ψ') (sym (ap (λ (χ : Phy). one_link d χ ψ) p ∙ ap (one_link d φ') q) ∙ sym e ∙ t)

-- entries of all slots tell it
pub attached-known : (ws first : List ℕ) → IndexedFirst (domain_in ws) first → AttachedExpandersKnown (domain_in ws) first
attached-known ws first index i p far = far_in ws first i p index far

-- the number of the expander to which φ is attached, as the entries tell it
pub attached-expander-is : (ws : List ℕ) (first : List ℕ) (i p : ℕ) (φ : Phy) → AttachedExpandersKnown (domain_in ws) first → φ ≡ phy_at (domain_in ws) i p → T (to_expander φ)
    → attached_expander (domain_in ws) first i p ≡ number_of (domain_in ws) (address_of φ)
attached-expander-is ws first i p φ known is t =
    let d : Domain = domain_in ws in
    let far = subst (λ ψ. T (to_expander ψ)) is t in
    known i p far
    ∙ ap (λ ψ. number_of d (address_of ψ)) (sym is)

-- the number of the expander at which the levels go on from φ, as the entries tell it
pub far-down : (ws : List ℕ) (first : List ℕ) (i p : ℕ) (φ : Phy) → AttachedExpandersKnown (domain_in ws) first → φ ≡ phy_at (domain_in ws) i p → down (domain_in ws) φ ≡ true
    → attached_expander (domain_in ws) first i p ≡ number_of (domain_in ws) (address_of φ)
far-down ws first i p φ known is e = attached-expander-is ws first i p φ known is (and_left (to_expander φ) _ (was_true _ e))
