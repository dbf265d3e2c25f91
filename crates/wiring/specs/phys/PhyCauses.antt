-- Causes 7 to 10 at one phy, and the lowest phy at which each holds.
use Rattle.std.specs.Prelude.{ℕ, zero, suc, ◌+◌, Bool, cond, not, ◌||◌, ◌&&◌, List, [], ◌∷◌, ◌++◌, length, take, eqb, ltb}
use Rattle.frames.specs.Refusals.{Result, refused, good, then, refusal}
use Rattle.files.specs.declared.Setting.{Setting}
use Rattle.files.specs.declared.Phy.{Phy}
use Rattle.files.specs.Lists.{any}
use Rattle.files.specs.Domain.{Expander, Domain, expander_at, phy_at, address_of, attached_phy_of, attribute_of, is_table, is_subtractive, is_direct, attached, to_end, to_expander, number_of}
use Rattle.files.specs.File.{domain_read}

-- the far end of a phy: a vacant phy where it is missing
abbrev pub far_phy : Domain → Phy → Phy
far_phy d φ = phy_at d (number_of d (address_of φ)) (attached_phy_of φ)

-- a phy names phy p of the expander with this address
abbrev pub names : ℕ → ℕ → Phy → Bool
names s p φ = to_expander φ && (eqb (address_of φ) s && eqb (attached_phy_of φ) p)

-- 7: type 2 or 3 on a direct phy, or far end missing or not naming this phy back
unfoldable pub unanswered : Domain → ℕ → ℕ → Bool
unanswered d i p =
    to_expander (phy_at d i p)
    && (is_direct (phy_at d i p) || not (names (expander_at d i).address p (far_phy d (phy_at d i p))))

-- an end device with this address at an expander
unfoldable pub end_at : ℕ → Expander → Bool
end_at s e = any (λ φ. to_end φ && eqb (address_of φ) s) e.phys

-- 8: type 1 bearing an expander's address, or one also attached as type 1 at an earlier expander
unfoldable pub claimed : Domain → ℕ → ℕ → Bool
claimed d i p =
    to_end (phy_at d i p)
    && (ltb (number_of d (address_of (phy_at d i p))) (length d) || any (end_at (address_of (phy_at d i p))) (take i d))

-- two attached phys: same address, other attribute; or both subtractive, other address
unfoldable pub clash : Phy → Phy → Bool
clash φ ψ =
    attached φ && (attached ψ
    && cond (eqb (address_of φ) (address_of ψ)) (not (eqb (attribute_of φ) (attribute_of ψ))) (is_subtractive φ && is_subtractive ψ))

-- 9: an attached phy and a lower attached one of its expander clash
unfoldable pub clashing : Domain → ℕ → ℕ → Bool
clashing d i p = any (clash (phy_at d i p)) (take p (expander_at d i).phys)

-- 10: non-vacant table phy, configurable bit 0
unfoldable pub fixed : Domain → ℕ → ℕ → Bool
fixed d i p = is_table (phy_at d i p) && eqb (expander_at d i).configurable 0

-- a place: expander and phy
pub record Place : Type 0 where
  pub expander : ℕ
  pub phy : ℕ

abbrev pub place : ℕ → ℕ → Place
place i p = record { expander = i; phy = p }

-- as many phys of expander i as `count`, from phy p on
unfoldable pub phy_places : ℕ → ℕ → ℕ → List Place
phy_places i p zero = []
phy_places i p (suc count) = place i p ∷ phy_places i (p + 1) count

-- the phys of the expanders from expander i on
unfoldable pub places_from : ℕ → Domain → List Place
places_from i [] = []
places_from i (e ∷ d) = phy_places i 0 (length e.phys) ++ places_from (i + 1) d

-- the phys of a domain, by expander and then phy
abbrev pub places : Domain → List Place
places d = places_from 0 d

-- number k, at the first of the places at which the test holds
unfoldable pub first_in : ℕ → (ℕ → ℕ → Bool) → List Place → Domain → Result Domain
first_in k test [] d = good d
first_in k test (q ∷ qs) d =
    cond (test q.expander q.phy) (refused (refusal k q.expander q.phy)) (first_in k test qs d)

-- number k, at the lowest phy at which the test holds
abbrev pub first_of : ℕ → (ℕ → ℕ → Bool) → Domain → Result Domain
first_of k test d = first_in k test (places d) d

-- causes 7 to 10 in order, each over the whole domain
unfoldable pub wired_domain : Domain → Result Domain
wired_domain d =
    then (first_of 7 (unanswered d) d) (λ _.
    then (first_of 8 (claimed d) d) (λ _.
    then (first_of 9 (clashing d) d) (λ _.
    first_of 10 (fixed d) d)))

-- a domain file under a setting, past causes 22 and 1 to 10
abbrev pub wired : Setting → List ℕ → Result Domain
wired setting file = then (domain_read setting file) wired_domain
