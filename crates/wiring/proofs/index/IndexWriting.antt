-- Entries that tell who has an address: slots added to search trees one by one, and what is written for each.
use Prim.Native.Nat.{ℕ, suc, ◌+◌, ◌-◌, ◌*◌, ◌/◌, ◌%◌, ◌≤◌, ◌<◌}
use mathlib.Core.Path.{◌≡◌, refl, sym, ◌∙◌, ap, subst}
use mathlib.Core.Logic.{inl, inr, ◌≢◌, by_cases}
use mathlib.Core.Bool.{cond}
use mathlib.Core.List.{List}
use native.Mathlib.Decide.{ℕ_discrete, dec_lt}
use native.Mathlib.Omega.{arith}
use native.Mathlib.Nat.{sub-zero}
use lib.ListN.{length, get_or, set, length-set, replicate, length-replicate}
use lib.Dec.{T, eqb, lt→ltb, ltb→lt, le→leb}
use borrow.Author.Tests.{lt-ltb, le-ltb, eq-eqb, ne_eqb}
use Rattle.files.specs.declared.Phy.{Phy}
use Rattle.files.specs.Domain.{Domain, expander_at, phy_at, type_of, address_of, attached, to_end, to_expander, number_of}
use Rattle.wiring.specs.index.SearchTree.{WalkTo}
use Rattle.wiring.specs.index.AddressIndex.{slots_before, slot_of, slot_phy, slot_address, listed_from, address_from, TreeFrom, LowestFrom, number_in, tells, LowestBelow, found, nobody, LowestDevice, LowestPhy, LowestDevices, Searchable, Addable, AddedTo, FirstsTo, LowsBefore, LowsTo, most_slots, phy_tree_cells}
use Rattle.files.proofs.ListMembers.{eq→eqb}
use Rattle.files.proofs.RowsAsDomain.{domain-few}
use Rattle.files.specs.Rows.{domain_in}
use Rattle.files.proofs.Domains.{phy-range, expander-range, end-attached, expander-attached, end_no_expander, type-attached, type-none}
use Rattle.wiring.proofs.index.SearchTrees.{none_has, lowest-has, tree_skip, tree-same, tree-put, tree-none}
use Rattle.wiring.proofs.index.SlotDevices.{short_in, slot-expander, slot_is, slot-address, device_expander, device_phy, attached-at, lowest-number, no_number, taken-by, lowest-phy, each_set}

module _ (d : Domain) (from size : ℕ) (cells : List ℕ) (t s : ℕ) (can : Addable d from size cells t s) where
  pub can_search : Searchable d from size cells
  can_search = record { count = t - from; start = can.start; few = let a = can.above in let b = can.few in omega arith; tree = can.tree }

  own_address_lem : s ≡ address_from d from (t - from)
  own_address_lem = let k : t ≡ from + (t - from) = let a = can.above in omega arith in sym can.address ∙ ap (slot_address d) k

  module _ (e : ℕ) (walk : WalkTo (address_from d from) size cells s e) where
    own_walk : WalkTo (address_from d from) size cells (address_from d from (t - from)) e
    own_walk = subst (λ (x : ℕ). WalkTo (address_from d from) size cells x e) own_address_lem walk

    pub added_same : (v : ℕ) → v ≡ get_or cells e 0 → 0 < v → AddedTo d from size cells cells t s (from + v - 1)
    added_same v q h =
        let z : get_or cells e 0 ≡ suc (v - 1) = omega arith in
        let k : from + v - 1 - from ≡ v - 1 = omega arith in
        let low = lowest-has (address_from d from) (listed_from d from) size cells (t - from) can.tree s e walk (v - 1) z in
        let l = (can.tree.slots e (v - 1) z).0 in
        let a = can.above in
        record {
          same = refl;
          tree = tree-same (address_from d from) (listed_from d from) size cells (t - from) can.tree can.room can.here e own_walk (v - 1) z;
          above = omega arith;
          upto = omega arith;
          lowest = rw k low;
        }

    pub added_new : get_or cells e 0 ≡ 0 → AddedTo d from size cells (set cells e (t - from + 1)) t s t
    added_new z = record {
      same = length-set cells e (t - from + 1);
      tree = subst (λ (x : ℕ). TreeFrom d from size (set cells e x) (t - from + 1)) (let k : suc (t - from) ≡ t - from + 1 = omega arith in k)
          (tree-put (address_from d from) (listed_from d from) size cells (t - from) can.tree can.room can.here e own_walk z);
      above = can.above;
      upto = omega arith;
      lowest = record {
        here = can.here;
        address = sym own_address_lem;
        least = λ u l a. by_cases (dec_lt u (t - from))
            (λ h. absurd (none_has (address_from d from) (listed_from d from) size cells (t - from) can.tree s e walk z u h l a)) (λ h. omega arith);
      };
    }

-- who has the address of a slot
module _ (d : Domain) (few : length d ≤ 64) (short : (j : ℕ) → length (expander_at d j).phys ≤ 128) (size : ℕ) (cells first : List ℕ) where
  -- nothing is told of a slot without an expander or an attached phy
  abbrev Silent : ℕ → Type 0
  Silent t = ¬ (t < length d) × (64 ≤ t → ¬ (T (attached (slot_phy d t))))

  not_told : (t : ℕ) → Silent t → ¬ (T (tells d t))
  unfolding tells
  not_told t a x = by_cases (dec_lt t 64)
      (λ h. a.0 (ltb→lt t (length d) (rw (lt-ltb t 64 h) at x)))
      (λ h. a.1 (omega arith) (rw (le-ltb t 64 (omega arith)) at x))

  first-none : (t v : ℕ) → Silent t → LowestDevice d t v
  first-none t v a = record {
    lowest = λ x. absurd (not_told t a x);
    same = λ h. absurd (a.0 h);
    far = λ h x. absurd (a.1 h (expander-attached (slot_phy d t) x));
    taken = λ h x. absurd (a.1 h (end-attached (slot_phy d t) x));
  }

  not_listed : (t : ℕ) → Silent t → ¬ (T (listed_from d 0 t))
  not_listed t a l = by_cases (dec_lt t 64)
      (λ h. a.0 (ltb→lt t (length d) (rw (device_expander d t h) at l)))
      (λ h. a.1 (omega arith) (end-attached (slot_phy d t) (rw (device_phy d t (omega arith)) at l)))

  pub first-expander : (t v : ℕ) → t < length d → v ≤ t → LowestFrom d 0 (expander_at d t).address v → LowestDevice d t v
  first-expander t v h l low = record {
    lowest = λ _. found (subst (λ (s : ℕ). LowestFrom d 0 s v) (sym (slot-expander d t (omega arith))) low) (omega arith);
    same = λ _. (rw (lt-ltb v 64 (omega arith)) at (lowest-number d few (expander_at d t).address v low));
    far = λ m x. absurd (omega arith);
    taken = λ m x. absurd (omega arith);
  }

  -- the slot that is found for an address: an expander's, where one has it
  attached-expander : (n s v : ℕ) → 64 ≤ n → LowestBelow d n s v → number_in d v ≡ number_of d s
  attached-expander n s v h (found low l) = lowest-number d few s v low
  attached-expander n s v h (nobody q none) = rw q (no_number d s few (λ u l. none u (omega arith)))

  -- no device is added
  far-lowest : (t s v : ℕ) → ¬ (T (listed_from d 0 t)) → LowestBelow d t s v → LowestBelow d (t + 1) s v
  far-lowest t s v n (found low l) = found low (omega arith)
  far-lowest t s v n (nobody q none) = nobody q (λ u l x. by_cases (dec_lt u t) (λ h. none u h x) (λ h. absurd (n (let e : u ≡ t = omega arith in rw e at x))))

  pub first-far : (t v : ℕ) → 64 ≤ t → T (to_expander (slot_phy d t)) → ¬ (T (listed_from d 0 t)) → LowestBelow d t (address_of (slot_phy d t)) v → LowestDevice d t v
  first-far t v h x n e = record {
    lowest = λ _. far-lowest t (slot_address d t) v n (subst (λ (s : ℕ). LowestBelow d t s v) (sym (slot-address d t h)) e);
    same = λ l. absurd (omega arith);
    far = λ _ _. attached-expander t (address_of (slot_phy d t)) v h e;
    taken = λ _ y. absurd (end_no_expander (slot_phy d t) y x);
  }

  pub first-end : (t v : ℕ) → 64 ≤ t → T (to_end (slot_phy d t)) → LowestFrom d 0 (address_of (slot_phy d t)) v → v ≤ t → LowestDevice d t v
  first-end t v h x low l = record {
    lowest = λ _. found (subst (λ (s : ℕ). LowestFrom d 0 s v) (sym (slot-address d t h)) low) (omega arith);
    same = λ l. absurd (omega arith);
    far = λ _ y. absurd (end_no_expander (slot_phy d t) x y);
    taken = λ _ _. taken-by d few short ((t - 64) / 128) (address_of (slot_phy d t)) v low;
  }

  module _ (at : ℕ) (held : FirstsTo d at size cells first) where
    pub can_look : at ≤ most_slots → Searchable d 0 size cells
    can_look h = record { count = at; start = inl refl; few = omega arith; tree = held.tree }

    -- the slot in the cell at which the walk for an address ends
    pub looked : (s e v : ℕ) → WalkTo (address_from d 0) size cells s e → v ≡ cond (eqb (get_or cells e 0) 0) 65535 (get_or cells e 0 - 1) → LowestBelow d at s v
    looked s e v walk q = by_cases (ℕ_discrete (get_or cells e 0) 0)
        (λ z. nobody (q ∙ rw (eq-eqb (get_or cells e 0) 0 z)) (none_has (address_from d 0) (listed_from d 0) size cells at held.tree s e walk z))
        (λ z. let k : v ≡ get_or cells e 0 - 1 = q ∙ rw (ne_eqb (get_or cells e 0) 0 z) in
        let c : get_or cells e 0 ≡ suc v = omega arith in
        found (lowest-has (address_from d 0) (listed_from d 0) size cells at held.tree s e walk v c) (held.tree.slots e v c).0)

    pub can-add : (s : ℕ) → at < slots_before (length d) → T (listed_from d 0 at) → slot_address d at ≡ s → Addable d 0 size cells at s
    can-add s h l a = record {
      start = inl refl;
      above = omega arith;
      few = omega arith;
      room = let r = held.room in omega arith;
      tree = rw sub-zero held.tree;
      here = rw sub-zero l;
      address = a;
    }

    -- slots of which nothing is told
    pub firsts_skip : (to : ℕ) → at ≤ to → to ≤ slots_before (length d) → ((t : ℕ) → at ≤ t → t < to → Silent t) → FirstsTo d to size cells first
    firsts_skip to h m none = record {
      slots = held.slots;
      room = held.room;
      tree = tree_skip (address_from d 0) (listed_from d 0) size cells at held.tree to h (let r = held.room in omega arith) (λ u a b. not_listed u (none u a b));
      firsts = λ t l. by_cases (dec_lt t at) (held.firsts t) (λ o. first-none t (get_or first t 0) (none t (omega arith) l));
    }

    module _ (to v : ℕ) (next : to ≡ at + 1) (h : at < slots_before (length d)) (told : LowestDevice d at v) where
      entries : LowestDevices d to (set first at v)
      entries = rw next (each_set (LowestDevice d) at v 0 first held.firsts told (let s = held.slots in omega arith))

      enough : slots_before (length d) ≤ length (set first at v)
      enough = let l = length-set first at v in let s = held.slots in omega arith

      -- a phy attached to an expander, which is no device
      pub firsts_tell : ¬ (T (listed_from d 0 at)) → FirstsTo d to size cells (set first at v)
      firsts_tell no-device = record {
        slots = enough;
        room = held.room;
        tree = tree_skip (address_from d 0) (listed_from d 0) size cells at held.tree to (omega arith) (let r = held.room in omega arith)
            (λ u a b l. no-device (let e : u ≡ at = omega arith in rw e at l));
        firsts = entries;
      }

      -- a device, which is in the tree, too
      pub firsts-add : (after : List ℕ) (s : ℕ) → AddedTo d 0 size cells after at s v → FirstsTo d to size after (set first at v)
      firsts-add after s a = record {
        slots = enough;
        room = let l = a.same in let r = held.room in omega arith;
        tree = let k : at - 0 + 1 ≡ to = omega arith in rw k at a.tree;
        firsts = entries;
      }

-- the lowest phy of an expander with an address
module _ (d : Domain) (i p : ℕ) (cells low : List ℕ) (held : LowsTo d i p cells low) where
  phy-here : 128 * i + p < 128 * i + 128 → phy_at d ((128 * i + p) / 128) ((128 * i + p) % 128) ≡ phy_at d i p
  phy-here h =
      let a : (128 * i + p) / 128 ≡ i = omega arith in
      let b : (128 * i + p) % 128 ≡ p = omega arith in
      rw (a, b)

  pub can-add-low : (s : ℕ) → i < 64 → p < 128 → T (attached (phy_at d i p)) → address_of (phy_at d i p) ≡ s → Addable d (slots_before i) 128 cells (slot_of i p) s
  can-add-low s h l t a =
      let k : slot_of i p - slots_before i ≡ p = omega arith in
      record {
        start = inr (omega arith);
        above = omega arith;
        few = omega arith;
        room = let r = held.room in omega arith;
        tree = rw k held.tree;
        here = rw (k, attached-at d i p l) t;
        address = slot-address d (slot_of i p) (omega arith) ∙ ap address_of (slot_is d i p l) ∙ a;
      }

  pub lows_skip : p < 128 → ¬ (T (attached (phy_at d i p))) → LowsTo d i (p + 1) cells low
  lows_skip h no_phy = record {
    phys = held.phys;
    room = held.room;
    tree = tree_skip (address_from d (slots_before i)) (listed_from d (slots_before i)) 128 cells p held.tree (p + 1) (omega arith) (let r = held.room in omega arith)
        (λ u a b l. no_phy (let e : u ≡ p = omega arith in rw (attached-at d i p h) at (rw e at l)));
    lows = λ k l t. by_cases (dec_lt k (128 * i + p)) (λ o. held.lows k o t)
        (λ o. absurd (no_phy (let e : k ≡ 128 * i + p = omega arith in rw (phy-here (omega arith)) at (rw e at t))));
  }

  pub lows-add : (after : List ℕ) (s r : ℕ) → p < 128 → i < length d → s ≡ address_of (phy_at d i p) → AddedTo d (slots_before i) 128 cells after (slot_of i p) s r
      → LowsTo d i (p + 1) after (set low (128 * i + p) (r - slots_before i))
  lows-add after s r h m e a =
      let k : slot_of i p - slots_before i + 1 ≡ p + 1 = omega arith in
      let j : 128 * i + (p + 1) ≡ 128 * i + p + 1 = omega arith in
      let x : (128 * i + p) / 128 ≡ i = omega arith in
      let y : (128 * i + p) % 128 ≡ p = omega arith in
      let u = a.upto in
      record {
        phys = let l = length-set low (128 * i + p) (r - slots_before i) in let b = held.phys in omega arith;
        room = let l = a.same in let b = held.room in omega arith;
        tree = rw k at a.tree;
        lows = rw j (each_set (λ n v. T (attached (phy_at d (n / 128) (n % 128))) → LowestPhy d (n / 128) (n % 128) v) (128 * i + p) (r - slots_before i) 0 low held.lows
            (λ t. rw (x, y) (lowest-phy d i p (r - slots_before i) h (omega arith) (rw e at a.lowest)))
            (let b = held.phys in omega arith));
      }

-- the domain in rows
module _ (ws : List ℕ) where
  abbrev d : Domain
  d = domain_in ws

  -- the entries of f, phy p of expander i
  module _ (i p : ℕ) (f : Phy) (e : f ≡ phy_at (domain_in ws) i p) (h : p < length (expander_at (domain_in ws) i).phys) where
    pub phy-few : p < 128
    phy-few = omega (arith, short_in ws i)

    pub here-few : (i < length d) × (length d ≤ 64)
    here-few = (expander-range d i p h, domain-few ws)

    slot_in_lem : slot_of i p < slots_before (length d)
    slot_in_lem = let a = here-few.0 in omega (arith, phy-few)

    slot-here : slot_phy d (slot_of i p) ≡ f
    slot-here = slot_is d i p phy-few ∙ sym e

    module _ (cells low : List ℕ) (held : LowsTo d i p cells low) where
      pub low-none : type_of f ≡ 0 → LowsTo d i (p + 1) cells low
      low-none z = lows_skip d i p cells low held phy-few (rw e at (type-none f z))

      pub low-can : type_of f ≢ 0 → Addable d (slots_before i) 128 cells (slot_of i p) (address_of f)
      low-can n = can-add-low d i p cells low held (address_of f) (let a = here-few.0 in let b = here-few.1 in omega arith) phy-few (rw e at (type-attached f n)) (sym (ap address_of e))

      pub low-next : (after : List ℕ) (r : ℕ) → AddedTo d (slots_before i) 128 cells after (slot_of i p) (address_of f) r
          → LowsTo d i (p + 1) after (set low (128 * i + p) (r - slots_before i))
      low-next after r a = lows-add d i p cells low held after (address_of f) r phy-few here-few.0 (ap address_of e) a

    module _ (size : ℕ) (cells first : List ℕ) (held : FirstsTo d (slot_of i p) size cells first) where
      abbrev next : ℕ
      next = slot_of i (p + 1)

      next-is : next ≡ slot_of i p + 1
      next-is = omega arith

      pub first_look : Searchable d 0 size cells
      first_look =
          let a = slot_in_lem in
          let b = here-few.1 in
          can_look d here-few.1 (short_in ws) size cells first (slot_of i p) held (omega arith)

      pub first-nothing : type_of f ≡ 0 → FirstsTo d next size cells first
      first-nothing z = firsts_skip d here-few.1 (short_in ws) size cells first (slot_of i p) held next (omega arith) (let a = slot_in_lem in omega arith)
          (λ t a b. let k : t ≡ slot_of i p = omega arith in (
            let n = here-few in omega (arith, n.1),
            λ _ l. type-none f z (rw slot-here at (rw k at l)),
          ))

      module _ (one : type_of f ≡ 1) where
        is-end : T (to_end (slot_phy d (slot_of i p)))
        is-end = rw slot-here (eq→eqb (type_of f) 1 one)

        pub first-can : Addable d 0 size cells (slot_of i p) (address_of f)
        first-can = can-add d here-few.1 (short_in ws) size cells first (slot_of i p) held (address_of f) slot_in_lem
            (rw (device_phy d (slot_of i p) (omega arith)) is-end) (slot-address d (slot_of i p) (omega arith) ∙ ap address_of slot-here)

        pub first_device : (after : List ℕ) (r : ℕ) → AddedTo d 0 size cells after (slot_of i p) (address_of f) r → FirstsTo d next size after (set first (slot_of i p) r)
        first_device after r a =
            let low : LowestFrom d 0 (address_of (slot_phy d (slot_of i p))) r = rw slot-here (rw sub-zero at a.lowest) in
            firsts-add d here-few.1 (short_in ws) size cells first (slot_of i p) held next r next-is slot_in_lem
            (first-end d here-few.1 (short_in ws) size cells first (slot_of i p) r (omega arith) is-end low a.upto) after (address_of f) a

      pub first-other : 2 ≤ type_of f → (e v : ℕ) → WalkTo (address_from d 0) size cells (address_of f) e → v ≡ cond (eqb (get_or cells e 0) 0) 65535 (get_or cells e 0 - 1)
          → FirstsTo d next size cells (set first (slot_of i p) v)
      first-other two e v walk q =
          let x : T (to_expander (slot_phy d (slot_of i p))) = rw slot-here (le→leb 2 (type_of f) two) in
          let n : ¬ (T (listed_from d 0 (slot_of i p))) = λ l. end_no_expander (slot_phy d (slot_of i p)) (rw (device_phy d (slot_of i p) (omega arith)) at l) x in
          let k : LowestBelow d (slot_of i p) (address_of f) v = looked d here-few.1 (short_in ws) size cells first (slot_of i p) held (address_of f) e v walk q in
          firsts_tell d here-few.1 (short_in ws) size cells first (slot_of i p) held next v next-is slot_in_lem
          (first-far d here-few.1 (short_in ws) size cells first (slot_of i p) v (omega arith) x n (rw slot-here k)) n

  -- all slots: expanders first, then expander by expander
  module _ (size : ℕ) (cells first : List ℕ) where
    module _ (j : ℕ) (h : j < length d) (held : FirstsTo d j size cells first) where
      pub expander-can : Addable d 0 size cells j (expander_at d j).address
      expander-can =
          let few = domain-few ws in
          can-add d few (short_in ws) size cells first j held (expander_at d j).address (omega arith)
          (rw (device_expander d j (omega arith)) (lt→ltb j (length d) h)) (slot-expander d j (omega arith))

      pub expander-next : (after : List ℕ) (r : ℕ) → AddedTo d 0 size cells after j (expander_at d j).address r → FirstsTo d (j + 1) size after (set first j r)
      expander-next after r a =
          let few = domain-few ws in
          firsts-add d few (short_in ws) size cells first j held (j + 1) r refl (omega arith)
          (first-expander d few (short_in ws) size cells first j r h a.upto (rw sub-zero at a.lowest)) after (expander_at d j).address a

    pub expanders-end : (j : ℕ) → length d ≤ j → j ≤ 64 → FirstsTo d j size cells first → FirstsTo d 64 size cells first
    expanders-end j h l held = firsts_skip d (domain-few ws) (short_in ws) size cells first j held 64 l (omega arith) (λ t a b. (omega arith, λ m. absurd (omega arith)))

    pub phys-start : FirstsTo d 64 size cells first → FirstsTo d (slots_before 0) size cells first
    phys-start held = let k : slots_before 0 ≡ 64 = omega arith in rw k held

    pub firsts-start : (i : ℕ) → FirstsTo d (slots_before i) size cells first → FirstsTo d (slot_of i 0) size cells first
    firsts-start i held = let k : slot_of i 0 ≡ slots_before i = omega arith in rw k held

    pub phys-end : (i p : ℕ) → i < length d → p ≤ 128 → length (expander_at d i).phys ≤ p → FirstsTo d (slot_of i p) size cells first
        → FirstsTo d (slots_before (i + 1)) size cells first
    phys-end i p h l m held = firsts_skip d (domain-few ws) (short_in ws) size cells first (slot_of i p) held (slots_before (i + 1)) (omega arith) (omega arith)
        (λ t a b. let few = domain-few ws in
        let q = t - slots_before i in
        let e : t ≡ slot_of i q = omega arith in (
          omega arith,
          λ _ x. let y : T (attached (phy_at d i q)) = rw (slot_is d i q (omega arith)) at (rw e at x) in
              let z = phy-range d attached i q y (λ u. u) in omega arith,
        ))

  pub lows-start : (i : ℕ) (low : List ℕ) → LowsBefore d i low → LowsTo d i 0 (replicate phy_tree_cells 0) low
  lows-start i low held = record {
    phys = held.phys;
    room = let l = length-replicate {A = ℕ} phy_tree_cells 0 in omega arith;
    tree = tree-none (address_from d (slots_before i)) (listed_from d (slots_before i)) 128 phy_tree_cells (omega arith) (omega arith);
    lows = let k : 128 * i + 0 ≡ 128 * i = omega arith in rw k held.lows;
  }

  pub lows-end : (i p : ℕ) (cells low : List ℕ) → LowsTo d i p cells low → p ≤ 128 → length (expander_at d i).phys ≤ p → LowsBefore d (i + 1) low
  lows-end i p cells low held l m = record {
    phys = held.phys;
    lows = λ k h t. by_cases (dec_lt k (128 * i + p)) (λ o. held.lows k o t)
        (λ o. let x : k / 128 ≡ i = omega arith in
        let y = phy-range d attached (k / 128) (k % 128) t (λ u. u) in
        let z : k % 128 < length (expander_at d i).phys = rw x at y in
        absurd (omega arith));
  }

  pub none_yet : (size k : ℕ) (first : List ℕ) → 0 < size → size + 2 * slots_before (length d) ≤ k → slots_before (length d) ≤ length first
      → FirstsTo d 0 size (replicate k 0) first
  none_yet size k first h r s = record {
    slots = s;
    room = let l = length-replicate {A = ℕ} k 0 in omega arith;
    tree = tree-none (address_from d 0) (listed_from d 0) size k h (omega arith);
    firsts = λ t l. absurd (omega arith);
  }

  pub no_lows : (low : List ℕ) → 128 * length d ≤ length low → LowsBefore d 0 low
  no_lows low h = record { phys = h; lows = λ k l. absurd (omega arith) }
