-- What the entries tell of a phy: which expander it is attached to, whether its end device is taken, and the lowest phy with its address.
use Prim.Native.Nat.{ℕ, ◌+◌, ◌-◌, ◌*◌, ◌/◌, ◌%◌, ◌<◌}
use mathlib.Core.Path.{◌≡◌}
use mathlib.Core.List.{List}
use native.Mathlib.Omega.{arith}
use lib.ListN.{get_or}
use lib.Dec.{T, ltb}
use Rattle.files.specs.Domain.{Domain, phy_at, address_of, attached, to_end, to_expander, number_of}
use Rattle.files.specs.Rows.{domain_in}
use Rattle.wiring.specs.index.AddressIndex.{slot_of, is_taken, LowestPhy, IndexedFirst, IndexedLow, attached_expander, lowest_phy}
use Rattle.files.proofs.Domains.{in_range_lem, end-attached, expander-attached}
use Rattle.wiring.proofs.index.SlotDevices.{short_in, slot_is}

module _ (d : Domain) (i p : ℕ) (h : p < 128) where
  module _ (first : List ℕ) (index : IndexedFirst d first) where
    pub far-told : T (to_expander (phy_at d i p)) → attached_expander d first i p ≡ number_of d (address_of (phy_at d i p))
    far-told t =
        let l = (in_range_lem d i p (expander-attached (phy_at d i p) t)).0 in
        rw (slot_is d i p h) at ((index.each (slot_of i p) (omega arith)).far (omega arith) (rw (slot_is d i p h) t))

    pub taken-told : T (to_end (phy_at d i p)) → ltb (get_or first (slot_of i p) 0) (64 + 128 * i) ≡ is_taken d i (address_of (phy_at d i p))
    taken-told t =
        let l = (in_range_lem d i p (end-attached (phy_at d i p) t)).0 in
        let e : (slot_of i p - 64) / 128 ≡ i = omega arith in
        let m : (slot_of i p - 64) % 128 ≡ p = omega arith in
        rw (e, m) at ((index.each (slot_of i p) (omega arith)).taken (omega arith) (rw (slot_is d i p h) t))

  pub low_told : (low : List ℕ) → IndexedLow d low → T (attached (phy_at d i p)) → LowestPhy d i p (lowest_phy low i p)
  low_told low index t =
      let l = (in_range_lem d i p t).0 in
      let a : (128 * i + p) / 128 ≡ i = omega arith in
      let b : (128 * i + p) % 128 ≡ p = omega arith in
      rw (a, b) at (index.each (128 * i + p) (omega arith) (rw (a, b) t))

-- any words: the expander attached to a phy
pub far_in : (ws first : List ℕ) (i p : ℕ) → IndexedFirst (domain_in ws) first → T (to_expander (phy_at (domain_in ws) i p))
    → attached_expander (domain_in ws) first i p ≡ number_of (domain_in ws) (address_of (phy_at (domain_in ws) i p))
far_in ws first i p index t =
    let l = (in_range_lem (domain_in ws) i p (expander-attached (phy_at (domain_in ws) i p) t)).1 in
    far-told (domain_in ws) i p (omega (arith, short_in ws i)) first index t
