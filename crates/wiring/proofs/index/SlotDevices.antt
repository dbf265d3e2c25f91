-- Slots, and what the lowest slot with an address tells: which expander has it, and whether an end device at an earlier expander has it.
use Prim.Native.Nat.{ℕ, ◌+◌, ◌-◌, ◌*◌, ◌/◌, ◌%◌, ◌≤◌, ◌<◌}
use mathlib.Core.Path.{◌≡◌, refl, sym, ◌∙◌, ap, subst}
use mathlib.Core.Logic.{◌⊎◌, inl, inr, ◌≢◌, ⊎_elim, by_cases}
use mathlib.Core.Bool.{◌&&◌}
use mathlib.Core.List.{List}
use native.Mathlib.Decide.{ℕ_discrete, dec_lt}
use native.Mathlib.Omega.{arith}
use native.Mathlib.Nat.{zero-add}
use lib.ListN.{length, get_or, set, take}
use lib.Seq.{get_or-set_same, get_or-set_other}
use lib.Dec.{T, eqb, ltb, ltb→lt, lt→ltb}
use borrow.Author.Tests.{lt-ltb, le-ltb, ne_eqb}
use Rattle.files.specs.declared.Phy.TheVariants.{Vacant}
use Rattle.files.specs.Lists.{any}
use Rattle.files.specs.Domain.{Domain, no_expander, expander_at, phy_at, address_of, attached, to_end, bears, number_of}
use Rattle.wiring.specs.phys.PhyCauses.{end_at}
use Rattle.files.specs.Rows.{phy_in, domain_in, row_words}
use Rattle.wiring.specs.index.AddressIndex.{slots_before, slot_of, slot_phy, slot_address, slot_word, is_device, listed_from, address_from, LowestFrom, number_in, is_taken, LowestPhy}
use Rattle.files.proofs.ListMembers.{tests, by-test, and_both, or_cases, or_left, or_right, of-any, any_of, take_in, in_take, in_get_d, is_false, eq→eqb, same_test}
use Rattle.files.proofs.RowsAsDomain.{head_in, no_head, address_in_lem, phy-at_in}
use Rattle.files.proofs.Domains.{number_of-is, phy-range, expander-range, end-attached}
use Rattle.wiring.proofs.WiredAndLinked.{end-at}
use Rattle.wiring.proofs.index.ExpanderNumbers.{number_is, number-none}

-- any words are expanders of at most 128 phys
pub short_in : (ws : List ℕ) (j : ℕ) → length (expander_at (domain_in ws) j).phys ≤ 128
short_in ws j = by_cases (dec_lt j (length (domain_in ws)))
    (λ h. let e = (head_in ws j h).phys in omega arith)
    (λ h. let e = (no_head ws j (omega arith)).phys in omega arith)

-- slots
module _ (d : Domain) where
  pub slot-expander : (t : ℕ) → t < 64 → slot_address d t ≡ (expander_at d t).address
  unfolding slot_address
  slot-expander t h = rw (lt-ltb t 64 h)

  pub slot_is : (i p : ℕ) → p < 128 → slot_phy d (slot_of i p) ≡ phy_at d i p
  slot_is i p h =
      let a : (slot_of i p - 64) / 128 ≡ i = omega arith in
      let b : (slot_of i p - 64) % 128 ≡ p = omega arith in
      rw (a, b)

  pub slot-address : (t : ℕ) → 64 ≤ t → slot_address d t ≡ address_of (slot_phy d t)
  unfolding slot_address
  slot-address t h = rw (le-ltb t 64 h)

  pub device_expander : (t : ℕ) → t < 64 → listed_from d 0 t ≡ ltb t (length d)
  unfolding listed_from is_device
  device_expander t h = rw (lt-ltb t 64 h)

  pub device_phy : (t : ℕ) → 64 ≤ t → listed_from d 0 t ≡ to_end (slot_phy d t)
  unfolding listed_from is_device
  device_phy t h = rw (le-ltb t 64 h)

  pub listed-attached : (from v : ℕ) → 0 < from → listed_from d from v ≡ attached (slot_phy d (from + v))
  unfolding listed_from
  listed-attached from v h = rw (ne_eqb from 0 (omega arith))

  pub attached-at : (i v : ℕ) → v < 128 → listed_from d (slots_before i) v ≡ attached (phy_at d i v)
  attached-at i v h =
      let e : slots_before i + v ≡ slot_of i v = omega arith in
      listed-attached (slots_before i) v (omega arith) ∙ ap (λ (t : ℕ). attached (slot_phy d t)) e ∙ ap attached (slot_is i v h)

  pub address-at : (i v : ℕ) → v < 128 → address_from d (slots_before i) v ≡ address_of (phy_at d i v)
  address-at i v h =
      let e : slots_before i + v ≡ slot_of i v = omega arith in
      ap (slot_address d) e ∙ slot-address (slot_of i v) (omega arith) ∙ ap address_of (slot_is i v h)

  -- the lowest device with an address: the expander that has it
  pub lowest-number : length d ≤ 64 → (s v : ℕ) → LowestFrom d 0 s v → number_in d v ≡ number_of d s
  lowest-number few s v low = by_cases (dec_lt v 64) here there
    where
      below : (x : ℕ) → x < length d → (expander_at d x).address ≡ s → v ≤ x
      below x h e = low.least x (rw (device_expander x (omega arith)) (lt→ltb x (length d) h)) (rw zero-add (slot-expander x (omega arith) ∙ e))

      here : v < 64 → number_in d v ≡ number_of d s
      here h =
          let l : v < length d = ltb→lt v (length d) (rw (device_expander v h) at low.here) in
          rw (lt-ltb v 64 h) (number_is d s v below l (sym (slot-expander v h) ∙ (rw zero-add at low.address)))

      there : ¬ (v < 64) → number_in d v ≡ number_of d s
      there h = rw (le-ltb v 64 (omega arith)) (number-none d s v below (omega arith))

  -- no device has the address: no expander has it
  pub no_number : (s : ℕ) → length d ≤ 64 → ((u : ℕ) → u < 64 → T (listed_from d 0 u) → address_from d 0 u ≢ s) → length d ≡ number_of d s
  no_number s few none = number-none d s (length d)
      (λ x h e. absurd (none x (omega arith) (rw (device_expander x (omega arith)) (lt→ltb x (length d) h)) (rw zero-add (slot-expander x (omega arith) ∙ e)))) (omega arith)

-- whether the address of an end device is taken
module _ (d : Domain) (few : length d ≤ 64) (short : (j : ℕ) → length (expander_at d j).phys ≤ 128) (i s v : ℕ) (low : LowestFrom d 0 s v) where
  listed-phy : (j q : ℕ) → q < 128 → T (to_end (phy_at d j q)) → T (listed_from d 0 (slot_of j q))
  listed-phy j q h t = rw (device_phy d (slot_of j q) (omega arith), slot_is d j q h) t

  address-phy : (j q : ℕ) → q < 128 → address_of (phy_at d j q) ≡ s → address_from d 0 (slot_of j q) ≡ s
  address-phy j q h e = rw zero-add (slot-address d (slot_of j q) (omega arith) ∙ ap address_of (slot_is d j q h) ∙ e)

  taken-below : T (is_taken d i s) → v < slots_before i
  taken-below t = ⊎_elim
      (λ x. let h = ltb→lt (number_of d s) (length d) x in
      let m = low.least (number_of d s) (rw (device_expander d (number_of d s) (omega arith)) x)
      (rw zero-add (slot-expander d (number_of d s) (omega arith) ∙ number_of-is d s h)) in
      omega arith)
      (λ x. let o = of-any (end_at s) (take i d) x in
      let k = take_in i d no_expander o.0 o.1 in
      let j = k.0 in
      let f = end-at s (expander_at d j) (subst (λ e. T (end_at s e)) (sym k.3) o.2) in
      let q = f.0 in
      let m = phy-range d to_end j q f.1 (λ u. u) in
      let l : q < 128 = omega (arith, short j) in
      let y = low.least (slot_of j q) (listed-phy j q l f.1) (address-phy j q l f.2) in
      omega (arith, k.1))
      (or_cases (ltb (number_of d s) (length d)) (any (end_at s) (take i d)) t)

  below-taken : v < slots_before i → T (is_taken d i s)
  unfolding end_at
  below-taken h = by_cases (dec_lt v 64)
      (λ l. let e = lowest-number d few s v low in
      let n : v < length d = ltb→lt v (length d) (rw (device_expander d v l) at low.here) in
      let q : v ≡ number_of d s = rw (lt-ltb v 64 l) at e in
      or_left (ltb (number_of d s) (length d)) _ (lt→ltb (number_of d s) (length d) (omega arith)))
      (λ l. let j = (v - 64) / 128 in
      let q = (v - 64) % 128 in
      let t : T (to_end (phy_at d j q)) = rw (device_phy d v (omega arith)) at low.here in
      let a : address_of (phy_at d j q) ≡ s = sym (slot-address d v (omega arith)) ∙ (rw zero-add at low.address) in
      let m = phy-range d to_end j q t (λ u. u) in
      let n = expander-range d j q m in
      or_right (ltb (number_of d s) (length d)) _
      (any_of (end_at s) (take i d) (expander_at d j) (in_take d no_expander j i (omega arith) n)
      (any_of (λ φ. to_end φ && eqb (address_of φ) s) (expander_at d j).phys (phy_at d j q) (in_get_d (expander_at d j).phys (Vacant 0) q m)
      (and_both (to_end (phy_at d j q)) _ t (eq→eqb (address_of (phy_at d j q)) s a)))))

  pub taken-by : ltb v (slots_before i) ≡ is_taken d i s
  taken-by = same_test (ltb v (slots_before i)) (is_taken d i s) (λ t. below-taken (ltb→lt v (slots_before i) t)) (λ t. lt→ltb v (slots_before i) (taken-below t))

-- the lowest of an expander's attached phys with an address
pub lowest-phy : (d : Domain) (i p v : ℕ) → p < 128 → v ≤ p → LowestFrom d (slots_before i) (address_of (phy_at d i p)) v → LowestPhy d i p v
lowest-phy d i p v h l low = record {
  low = l;
  bearing = and_both (attached (phy_at d i v)) _ (rw (attached-at d i v (omega arith)) at low.here)
      (eq→eqb (address_of (phy_at d i v)) (address_of (phy_at d i p)) (sym (address-at d i v (omega arith)) ∙ low.address));
  none = λ r k. is_false (bears (address_of (phy_at d i p)) (phy_at d i r)) (λ t.
      let a : T (attached (phy_at d i r)) = search tests in
      let e : address_of (phy_at d i r) ≡ address_of (phy_at d i p) = search tests in
      let m = low.least r (rw (attached-at d i r (omega arith)) a) (address-at d i r (omega arith) ∙ e) in
      omega arith);
}

-- the word of a listed slot is its address
in_address : (a w : ℕ) → T (attached (phy_in a w)) → address_of (phy_in a w) ≡ a
in_address a w t = by-test (eqb (w % 2) 0) (λ e. absurd (rw e at t)) (λ e. rw e refl)

module _ (ws : List ℕ) where
  expander-word : (t : ℕ) → t < 64 → t < length (domain_in ws) → get_or ws (slot_word t) 0 ≡ slot_address (domain_in ws) t
  expander-word t h l = rw (lt-ltb t 64 h) (sym (slot-expander (domain_in ws) t h ∙ address_in_lem ws t l))

  phy-word : (t : ℕ) → 64 ≤ t → T (attached (slot_phy (domain_in ws) t)) → get_or ws (slot_word t) 0 ≡ slot_address (domain_in ws) t
  phy-word t h a =
      let i = (t - 64) / 128 in
      let p = (t - 64) % 128 in
      let e = phy-at_in ws i p (phy-range (domain_in ws) attached i p a (λ u. u)) in
      let k : row_words * i + 2 + 2 * p ≡ 2 * (t - 64) + 2 + 2 * i = omega arith in
      let w : address_of (slot_phy (domain_in ws) t) ≡ get_or ws (row_words * i + 2 + 2 * p) 0 =
      ap address_of e ∙ in_address (get_or ws (row_words * i + 2 + 2 * p) 0) (get_or ws (row_words * i + 2 + 2 * p + 1) 0) (subst (λ φ. T (attached φ)) e a) in
      rw (le-ltb t 64 h) (sym (slot-address (domain_in ws) t h ∙ w ∙ ap (λ (x : ℕ). get_or ws x 0) k))

  pub listed-word : (from v : ℕ) → (from ≡ 0) ⊎ (64 ≤ from) → T (listed_from (domain_in ws) from v) → get_or ws (slot_word (from + v)) 0 ≡ address_from (domain_in ws) from v
  listed-word from v (inl z) t = by_cases (dec_lt v 64)
      (λ h. rw (z, zero-add) (expander-word v h (ltb→lt v (length (domain_in ws)) (rw (device_expander (domain_in ws) v h) at (rw z at t)))))
      (λ h. rw (z, zero-add) (phy-word v (omega arith) (end-attached (slot_phy (domain_in ws) v) (rw (device_phy (domain_in ws) v (omega arith)) at (rw z at t)))))
  listed-word from v (inr h) t = phy-word (from + v) (omega arith) (rw (listed-attached (domain_in ws) from v (omega arith)) at t)

  pub listed_at : (from v w : ℕ) → (from ≡ 0) ⊎ (64 ≤ from) → 0 < v → T (listed_from (domain_in ws) from (v - 1)) → w ≡ get_or ws (slot_word (from + v - 1)) 0
      → w ≡ address_from (domain_in ws) from (v - 1)
  listed_at from v w start h t e =
      let k : from + v - 1 ≡ from + (v - 1) = omega arith in
      e ∙ ap (λ (x : ℕ). get_or ws (slot_word x) 0) k ∙ listed-word from (v - 1) start t

-- entries, one more
pub each_set : (P : ℕ → ℕ → Type 0) (at v none : ℕ) (l : List ℕ) → ((k : ℕ) → k < at → P k (get_or l k none)) → P at v → at < length l
    → (k : ℕ) → k < at + 1 → P k (get_or (set l at v) k none)
each_set P at v none l all here h k m = by_cases (ℕ_discrete k at)
    (λ e. subst (λ (x : ℕ). P x (get_or (set l at v) x none)) (sym e) (subst (P at) (sym (get_or-set_same l at v none h)) here))
    (λ e. subst (P k) (sym (get_or-set_other l at k v none e)) (all k (omega arith)))
