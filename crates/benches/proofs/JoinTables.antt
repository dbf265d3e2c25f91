-- The tables of a joined domain are those of the first, then those of the second.
use mathlib.Core.Path.{◌≡◌, refl, sym, ap, ap₂, subst, ◌∙◌}
use mathlib.Core.List.{List, [], ◌∷◌, ◌++◌, flat_map, append_assoc}
use mathlib.Core.Bool.{Bool, true, false, cond}
use Prim.Native.Nat.{ℕ, zero, suc, ◌+◌, ◌<◌}
use native.Mathlib.Nat.{zero-add}
use native.Mathlib.Omega.{arith}
use lib.ListN.{length, length-set}
use lib.Dec.{T}
use Rattle.files.specs.declared.Phy.{Phy}
use Rattle.files.specs.Lists.{keep}
use Rattle.files.specs.Domain.{Domain, expander_at, phy_at, is_table}
use Rattle.files.specs.PhyReplaced.{with_phy, set_phy}
use Rattle.wiring.specs.phys.PhyCauses.{Place, place, phy_places, places_from, places}
use Rattle.wiring.specs.WiringCauses.{Linked}
use Rattle.wiring.proofs.phys.WiredPhys.{Wired, places-set}
use Rattle.tables.specs.filling.Tables.{table, table_places, tables}
use Rattle.tables.proofs.lists.GrowingLists.{flat_append}
use Rattle.benches.specs.Joined.{cabled_to, joined}
use Rattle.benches.specs.JoinConditions.{Joinable}
use Rattle.benches.proofs.PartsOfJoined.{Part, length_with, first_part, second-part}
use Rattle.benches.proofs.PartTables.{table_same, attribute-same}

-- what a place adds to the tables
abbrev words : Domain → Place → List ℕ
words d q = cond (is_table (phy_at d q.expander q.phy)) (table d q.expander q.phy) []

module _ {A B : Type 0} where
  flat_keep : (t : A → Bool) (f : A → List B) (l : List A) → flat_map f (keep t l) ≡ flat_map (λ q. cond (t q) (f q) []) l
  unfolding flat_map keep
  flat_keep t f [] = refl
  flat_keep t f (x ∷ l) = go (t x) (flat_keep t f l)
    where
      go : (b : Bool) → flat_map f (keep t l) ≡ flat_map (λ q. cond (t q) (f q) []) l → flat_map f (cond b (x ∷ keep t l) (keep t l)) ≡ cond b (f x) [] ++ flat_map (λ q. cond (t q) (f q) []) l
      go true r = ap (λ m. f x ++ m) r
      go false r = r

places-append : (k : ℕ) (a b : Domain) → places_from k (a ++ b) ≡ places_from k a ++ places_from (k + length a) b
unfolding places_from
places-append k [] b = ap (λ v. places_from v b) (let z : k ≡ k + 0 = omega arith in z)
places-append k (x ∷ a) b =
    ap (λ r. phy_places k 0 (length x.phys) ++ r) (places-append (k + 1) a b ∙ ap (λ v. places_from (k + 1) a ++ places_from v b) (let z : k + 1 + length a ≡ k + suc (length a) = omega arith in z))
    ∙ sym (append_assoc (phy_places k 0 (length x.phys)) (places_from (k + 1) a) (places_from (k + suc (length a)) b))

places_with : (k i p : ℕ) (φ : Phy) (d : Domain) → places_from k (set_phy d i p φ) ≡ places_from k d
unfolding set_phy with_phy
places_with k i p φ d = places-set d k i (with_phy (expander_at d i) p φ) (length-set (expander_at d i).phys p φ)

module _ (f g : Place → List ℕ) (k : ℕ) where
  phy_places-same : (a p n : ℕ) → ((y : ℕ) → f (place (k + a) y) ≡ g (place a y)) → flat_map f (phy_places (k + a) p n) ≡ flat_map g (phy_places a p n)
  unfolding phy_places flat_map
  phy_places-same a p zero h = refl
  phy_places-same a p (suc n) h = ap₂ ◌++◌ (h p) (phy_places-same a (p + 1) n h)

  places_same : (a : ℕ) (d : Domain) → ((x y : ℕ) → x < a + length d → f (place (k + x) y) ≡ g (place x y)) → flat_map f (places_from (k + a) d) ≡ flat_map g (places_from a d)
  unfolding places_from flat_map
  places_same a [] h = refl
  places_same a (e ∷ d) h =
      flat_append f (phy_places (k + a) 0 (length e.phys)) (places_from (k + a + 1) d)
      ∙ ap₂ ◌++◌ (phy_places-same a 0 (length e.phys) (λ y. h a y (omega arith)))
      (ap (λ v. flat_map f (places_from v d)) (let z : k + a + 1 ≡ k + (a + 1) = omega arith in z) ∙ places_same (a + 1) d (λ x y l. h x y (omega arith)))
      ∙ sym (flat_append g (phy_places a 0 (length e.phys)) (places_from (a + 1) d))

words_same : (d e : Domain) (w : Wired d) (r : Linked d) (k i p s q : ℕ) (part : Part d e k i p s q) (x y : ℕ) → x < length d
    → words e (place (k + x) y) ≡ words d (place x y)
words_same d e w r k i p s q part x y h = go (is_table (phy_at d x y)) refl
  where
    go : (b : Bool) → is_table (phy_at d x y) ≡ b → words e (place (k + x) y) ≡ cond b (table d x y) []
    go true o = ap (λ c. cond c (table e (k + x) y) []) (attribute-same d e w r k i p s q part x y h ∙ o) ∙ table_same d e w r k i p s q part x y h (subst T (sym o) tt)
    go false o = ap (λ c. cond c (table e (k + x) y) []) (attribute-same d e w r k i p s q part x y h ∙ o)

part-words : (d e : Domain) (w : Wired d) (r : Linked d) (k i p s q : ℕ) (part : Part d e k i p s q) → flat_map (words e) (places_from k d) ≡ tables d
unfolding tables table_places
part-words d e w r k i p s q part =
    ap (λ v. flat_map (words e) (places_from v d)) (let z : k ≡ k + 0 = omega arith in z)
    ∙ places_same (words e) (words d) k 0 d (λ x y l. words_same d e w r k i p s q part x y (omega arith))
    ∙ sym (flat_keep (λ q. is_table (phy_at d q.expander q.phy)) (λ q. table d q.expander q.phy) (places d))

joined-places : (d₁ : Domain) (i p : ℕ) (d₂ : Domain) (j q : ℕ) → places_from 0 (joined d₁ i p d₂ j q) ≡ places_from 0 d₁ ++ places_from (length d₁) d₂
unfolding joined
joined-places d₁ i p d₂ j q =
    let φ = cabled_to (expander_at d₂ j).address q in
    let ψ = cabled_to (expander_at d₁ i).address p in
    places-append 0 (set_phy d₁ i p φ) (set_phy d₂ j q ψ)
    ∙ ap₂ ◌++◌ (places_with 0 i p φ d₁)
    (ap (λ v. places_from v (set_phy d₂ j q ψ)) (zero-add (length (set_phy d₁ i p φ)) ∙ length_with d₁ i p φ) ∙ places_with (length d₁) j q ψ d₂)

-- existing tables don't change
pub joined-tables : (d₁ : Domain) (i p : ℕ) (d₂ : Domain) (j q : ℕ) → Wired d₁ → Linked d₁ → Wired d₂ → Linked d₂ → Joinable d₁ i p d₂ j q
    → tables (joined d₁ i p d₂ j q) ≡ tables d₁ ++ tables d₂
unfolding tables table_places
joined-tables d₁ i p d₂ j q w₁ r₁ w₂ r₂ c =
    flat_keep (λ q. is_table (phy_at e q.expander q.phy)) (λ q. table e q.expander q.phy) (places e)
    ∙ ap (flat_map (words e)) shape
    ∙ flat_append (words e) (places_from 0 d₁) (places_from (length d₁) d₂)
    ∙ ap₂ ◌++◌ (part-words d₁ e w₁ r₁ 0 i p s₂ q (first_part d₁ i p d₂ j q c)) (part-words d₂ e w₂ r₂ (length d₁) j q s₁ p (second-part d₁ i p d₂ j q c))
  where
    e : Domain
    e = joined d₁ i p d₂ j q

    s₁ : ℕ
    s₁ = (expander_at d₁ i).address

    s₂ : ℕ
    s₂ = (expander_at d₂ j).address

    shape : places_from 0 (joined d₁ i p d₂ j q) ≡ places_from 0 d₁ ++ places_from (length d₁) d₂
    shape = joined-places d₁ i p d₂ j q
