-- What a domain read of a file of bytes has at most: tables, words, entries and phys.
use Prim.Native.Nat.{ℕ, zero, suc, ◌+◌, ◌*◌, ◌^◌, ◌≤◌, ◌<◌}
use mathlib.Core.Path.{◌≡◌, refl, sym, subst}
use mathlib.Core.Logic.{inl, inr, by_cases}
use mathlib.Core.Bool.{Bool, true, false, cond}
use mathlib.Core.List.{List, [], ◌∷◌}
use native.Mathlib.Omega.{arith}
use native.Mathlib.Decide.{dec_lt}
use lib.ListN.{length, length-append, get_or-eq_default}
use Rattle.files.specs.declared.Setting.{Setting}
use Rattle.files.specs.Lists.{In}
use Rattle.files.specs.Domain.{Expander, Domain, no_expander, expander_at, phy_at, is_table}
use Rattle.files.specs.ReadDomain.{FitsExpander, FitsDomain}
use Rattle.files.proofs.ListMembers.{in_get_d, keep-shorter}
use Rattle.wiring.specs.phys.PhyCauses.{Place, phy_places, places_from, places}
use Rattle.tables.specs.filling.Tables.{table_places, size, sizes, needed}
use Rattle.exports.proofs.RefusalPlaces.{ReadBytes}

-- an expander of it fits, and so does what stands past the end
pub fits-at : (d : Domain) → FitsDomain d → (i : ℕ) → FitsExpander (expander_at d i)
fits-at d f i =
    by_cases (dec_lt i (length d)) (λ h. f.each (expander_at d i) (in_get_d d no_expander i h)) (λ h.
    subst FitsExpander (sym (get_or-eq_default d no_expander (omega arith)))
    (record { address = omega arith; route_indexes = omega arith; count = omega arith; phys = λ φ j. absurd j }))

phys-count : (i p count : ℕ) → length (phy_places i p count) ≡ count
unfolding phy_places
phys-count i p zero = refl
phys-count i p (suc count) = let e = phys-count i (p + 1) count in omega arith

places-few : (i : ℕ) (d : Domain) → ((e : Expander) → In e d → length e.phys ≤ 128) → length (places_from i d) ≤ 128 * length d
unfolding places_from
places-few i [] h = omega arith
places-few i (e ∷ d) h =
    let a = length-append (phy_places i 0 (length e.phys)) (places_from (i + 1) d) in
    let b = phys-count i 0 (length e.phys) in
    let c = h e (inl refl) in
    let r = places-few (i + 1) d (λ x j. h x (inr j)) in
    omega arith

-- words of the tables at these places
pub sizes-few : (d : Domain) → FitsDomain d → (qs : List Place) → sizes d qs ≤ 65535 * length qs
unfolding sizes size
sizes-few d f [] = omega arith
sizes-few d f (q ∷ qs) =
    let r = sizes-few d f qs in
    let m = (fits-at d f q.expander).route_indexes in
    go (is_table (phy_at d q.expander q.phy)) r m
  where
    go : (b : Bool) → sizes d qs ≤ 65535 * length qs → (expander_at d q.expander).route_indexes < 65536
        → cond b (expander_at d q.expander).route_indexes 0 + sizes d qs ≤ 65535 * suc (length qs)
    go true r m = omega arith
    go false r m = omega arith

module _ (setting : Setting) (d : Domain) (b : ReadBytes setting d) where
  -- expanders
  pub few-expanders : length d ≤ 64
  few-expanders = let n = b.read.few in let m = b.read.range.expanders.1 in omega arith

  -- phys of each
  pub few-phys : (e : Expander) → In e d → length e.phys ≤ 128
  few-phys e j = let n = (b.read.each e j).few in let m = b.read.range.phys.1 in omega arith

  few-places : length (places d) ≤ 8192
  few-places = let h = places-few 0 d few-phys in let n = few-expanders in omega arith

  -- tables
  pub few-tables : length (table_places d) ≤ 8192
  unfolding table_places
  few-tables = let l = keep-shorter (λ q. is_table (phy_at d q.expander q.phy)) (places d) in let h = few-places in omega arith

  -- words
  pub few_words : needed d < 2 ^ 32
  few_words = let h = sizes-few d b.fits (places d) in let n = few-places in omega arith
