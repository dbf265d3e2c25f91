-- Search trees: a walk ends at one cell, and goes the same way where free cells are filled; so each listed slot's address leads to the lowest
-- slot that has it.
use Prim.Native.Nat.{ℕ, zero, suc, ◌+◌, ◌-◌, ◌*◌, ◌/◌, ◌%◌, ◌≤◌, ◌<◌}
use mathlib.Core.Path.{◌≡◌, refl, sym, ◌∙◌, ap, subst}
use mathlib.Core.Logic.{◌⊎◌, inl, inr, ◌≢◌, ⊎_elim, by_cases}
use mathlib.Core.Bool.{Bool}
use mathlib.Core.List.{List}
use native.Mathlib.Decide.{ℕ_discrete, dec_lt}
use native.Mathlib.Omega.{arith}
use lib.ListN.{length, get_or, set, length-set, replicate, length-replicate}
use lib.Seq.{get_or-set_same, get_or-set_other}
use lib.Dec.{T}
use lib.Bits.{and_le_r}
use Rattle.wiring.specs.index.SearchTree.{key_in, Stop, Walk, ends, on, WalkTo, Lowest, Led, Tree}

pub key_below : (size s : ℕ) → 0 < size → key_in size s < size
unfolding key_in
key_below size s h = omega (arith, and_le_r (s % 8192 + s / 8192 % 8192 + s / 67108864 % 8192) (size - 1))

pub suc-same : {v w x : ℕ} → x ≡ suc v → x ≡ suc w → v ≡ w
suc-same p q = omega arith

module _ (A : ℕ → ℕ) (size : ℕ) (cells : List ℕ) (s : ℕ) where
  -- a cell with a slot of another address does not end a walk
  goes_on : (c v : ℕ) → Stop A size cells s c → get_or cells c 0 ≡ suc v → A v ≢ s → ⊥
  goes_on c v (inl z) q n = omega arith
  goes_on c v (inr w) q n = n (ap A (suc-same q w.1) ∙ w.2)

  pub walk_same : {bits c e f : ℕ} → Walk A size cells s bits c e → Walk A size cells s bits c f → e ≡ f
  walk_same (ends b c e p h) (ends b' c' f q k) = p ∙ sym q
  walk_same (ends b c e p h) (on b' c' f v q n w) = absurd (goes_on c v h q n)
  walk_same (on b c e v q n w) (ends b' c' f p h) = absurd (goes_on c v h q n)
  walk_same (on b c e v q n w) (on b' c' f u k m x) =
      walk_same w (subst (λ (y : ℕ). Walk A size cells s (b / 2) (size + 2 * y + b % 2) f) (suc-same k q) x)

  pub walk-stop : {bits c e : ℕ} → Walk A size cells s bits c e → Stop A size cells s e
  walk-stop (ends b c e p h) = subst (Stop A size cells s) (sym p) h
  walk-stop (on b c e v q n w) = walk-stop w

  -- the walk stays among the cells of the first n slots
  pub walk-below : (n : ℕ) → ((c v : ℕ) → get_or cells c 0 ≡ suc v → v < n) → {bits c e : ℕ} → c < size + 2 * n → Walk A size cells s bits c e → e < size + 2 * n
  walk-below n low h (ends b c e p k) = omega arith
  walk-below n low h (on b c e v q m w) = walk-below n low (let l = low c v q in omega arith) w

  -- cells with slots are kept, and the walk still ends there
  pub walk-on : (after : List ℕ) → ((c v : ℕ) → get_or cells c 0 ≡ suc v → get_or after c 0 ≡ suc v) → {bits c e : ℕ} → Walk A size cells s bits c e
      → Stop A size after s e → Walk A size after s bits c e
  walk-on after keep (ends b c e p h) k = ends b c e p (subst (Stop A size after s) p k)
  walk-on after keep (on b c e v q n w) k = on b c e v (keep c v q) n (walk-on after keep w k)

module _ (A : ℕ → ℕ) (listed : ℕ → Bool) (size : ℕ) (cells : List ℕ) (n : ℕ) (tree : Tree A listed size cells n) where
  module _ (s e : ℕ) (walk : WalkTo A size cells s e) where
    led-there : (u : ℕ) → u < n → T (listed u) → A u ≡ s → (v : ℕ) × (get_or cells e 0 ≡ suc v) × (v ≤ u)
    led-there u h t q =
        let l = tree.led u h t in
        let w : WalkTo A size cells s l.cell = subst (λ (x : ℕ). WalkTo A size cells x l.cell) q l.walk in
        let z : l.cell ≡ e = walk_same A size cells s w walk in
        (l.slot, subst (λ (c : ℕ). get_or cells c 0 ≡ suc l.slot) z l.held, l.low)

    -- a walk that ends at a free cell: no slot in the tree has the address
    pub none_has : get_or cells e 0 ≡ 0 → (u : ℕ) → u < n → T (listed u) → A u ≢ s
    none_has z u h t q = let l = led-there u h t q in let k = l.1 in omega arith

    -- a walk that ends at a slot: it is the lowest with the address
    pub lowest-has : (v : ℕ) → get_or cells e 0 ≡ suc v → Lowest A listed s v
    lowest-has v q = record {
      here = (tree.slots e v q).1;
      address = ⊎_elim (λ z. absurd (omega arith)) (λ w. ap A (suc-same q w.1) ∙ w.2) (walk-stop A size cells s walk);
      least = λ u t a. by_cases (dec_lt u n) (λ h. let l = led-there u h t a in let k = l.1 in omega (arith, l.2))
          (λ h. let k = (tree.slots e v q).0 in omega arith);
    }

  walk-within : (s e : ℕ) → WalkTo A size cells s e → e < size + 2 * n
  walk-within s e w = walk-below A size cells s n (λ c v q. (tree.slots c v q).0) (omega (arith, key_below size s tree.some)) w

  -- the tree with one more slot: not listed, or with an address that a lower one has, or put into the free cell at which its walk ends
  pub tree_skip : (m : ℕ) → n ≤ m → size + 2 * m ≤ length cells → ((u : ℕ) → n ≤ u → u < m → ¬ (T (listed u))) → Tree A listed size cells m
  tree_skip m h r none = record {
    some = tree.some;
    room = r;
    slots = λ c v q. let l = tree.slots c v q in let k = l.0 in (omega arith, l.1);
    rises = tree.rises;
    led = λ u k t. tree.led u (by_cases (dec_lt u n) (λ y. y) (λ y. absurd (none u (omega arith) k t))) t;
  }

  module _ (r : size + 2 * (n + 1) ≤ length cells) (here : T (listed n)) (e : ℕ) (walk : WalkTo A size cells (A n) e) where
    pub tree-same : (v : ℕ) → get_or cells e 0 ≡ suc v → Tree A listed size cells (n + 1)
    tree-same v q = record {
      some = tree.some;
      room = r;
      slots = λ c u z. let l = tree.slots c u z in let k = l.0 in (omega arith, l.1);
      rises = tree.rises;
      led = λ u k t. by_cases (ℕ_discrete u n)
          (λ z. subst (Led A listed size cells) (sym z) (record { cell = e; slot = v; walk = walk; held = q; low = let l = (tree.slots e v q).0 in omega arith }))
          (λ z. tree.led u (omega arith) t);
    }

    module _ (free : get_or cells e 0 ≡ 0) where
      abbrev after : List ℕ
      after = set cells e (suc n)

      kept : (c v : ℕ) → get_or cells c 0 ≡ suc v → get_or after c 0 ≡ suc v
      kept c v q = get_or-set_other cells e c (suc n) 0 (λ z. absurd (let y : get_or cells e 0 ≡ suc v = subst (λ (x : ℕ). get_or cells x 0 ≡ suc v) z q in omega arith)) ∙ q

      low : e < size + 2 * n
      low = walk-within (A n) e walk

      new : get_or after e 0 ≡ suc n
      new = get_or-set_same cells e (suc n) 0 (omega (arith, low))

      was : (c v : ℕ) → get_or after c 0 ≡ suc v → ((c ≡ e) × (v ≡ n)) ⊎ (get_or cells c 0 ≡ suc v)
      was c v q = by_cases (ℕ_discrete c e)
          (λ z. inl (z, suc-same q (subst (λ (x : ℕ). get_or after x 0 ≡ suc n) (sym z) new)))
          (λ z. inr (sym (get_or-set_other cells e c (suc n) 0 z) ∙ q))

      pub tree-put : Tree A listed size after (n + 1)
      tree-put = record {
        some = tree.some;
        room = let l = length-set cells e (suc n) in omega arith;
        slots = λ c v q. ⊎_elim (λ z. (let k = z.1 in omega arith, subst (λ (x : ℕ). T (listed x)) (sym z.1) here))
            (λ z. let l = tree.slots c v z in let k = l.0 in (omega arith, l.1)) (was c v q);
        rises = λ v b u h q. ⊎_elim (λ z. let y = z.0 in let x = z.1 in omega (arith, low)) (λ z. tree.rises v b u h z) (was (size + 2 * v + b) u q);
        led = λ u k t. by_cases (ℕ_discrete u n)
            (λ z. subst (Led A listed size after) (sym z) (record {
              cell = e;
              slot = n;
              walk = walk-on A size cells (A n) after kept walk (inr (n, new, refl));
              held = new;
              low = omega arith;
            }))
            (λ z. let l = tree.led u (omega arith) t in record {
              cell = l.cell;
              slot = l.slot;
              walk = walk-on A size cells (A u) after kept l.walk
                  (⊎_elim (λ y. absurd (let x = l.held in omega arith)) (λ y. inr (y.0, kept l.cell y.0 y.1, y.2)) (walk-stop A size cells (A u) l.walk));
              held = kept l.cell l.slot l.held;
              low = l.low;
            });
      }

zeros : (k c : ℕ) → get_or (replicate {A = ℕ} k 0) c 0 ≡ 0
zeros zero c = refl
zeros (suc k) zero = refl
zeros (suc k) (suc c) = zeros k c

-- free cells: no slot is in the tree
pub tree-none : (A : ℕ → ℕ) (listed : ℕ → Bool) (size k : ℕ) → 0 < size → size ≤ k → Tree A listed size (replicate k 0) 0
tree-none A listed size k h r = record {
  some = h;
  room = let l = length-replicate {A = ℕ} k 0 in omega arith;
  slots = λ c v q. absurd (let z = zeros k c in omega arith);
  rises = λ v b u l q. absurd (let z = zeros k (size + 2 * v + b) in omega arith);
  led = λ u l t. absurd (omega arith);
}

-- a walk on its way: it is at cell c, which has v, and goes on to where the walk from the root ends
pub record Going (A : ℕ → ℕ) (size : ℕ) (cells : List ℕ) (s bits c v : ℕ) : Type 0 where
  pub here : v ≡ get_or cells c 0
  pub within : c < length cells
  pub leads : (e : ℕ) → Walk A size cells s bits c e → WalkTo A size cells s e

-- how far it can still go, where the slots rise
abbrev pub left : ℕ → ℕ → ℕ
left most zero = 0
left most (suc v) = most - v

module _ (A : ℕ → ℕ) (listed : ℕ → Bool) (size : ℕ) (cells : List ℕ) (n : ℕ) (tree : Tree A listed size cells n) (s : ℕ) where
  pub going_first : (c : ℕ) → c ≡ key_in size s → c < size → Going A size cells s s c (get_or cells c 0)
  going_first c e h = record { here = refl; within = let r = tree.room in omega arith; leads = λ x w. subst (λ (y : ℕ). Walk A size cells s s y x) e w }

  module _ {bits c v : ℕ} (g : Going A size cells s bits c v) where
    pub going_end : v ≡ 0 → WalkTo A size cells s c
    going_end z = g.leads c (ends bits c c refl (inl (sym g.here ∙ z)))

    module _ (h : 0 < v) where
      has : get_or cells c 0 ≡ suc (v - 1)
      has = let e = g.here in omega arith

      pub going_slot : (v - 1 < n) × T (listed (v - 1))
      going_slot = tree.slots c (v - 1) has

      pub going_found : A (v - 1) ≡ s → WalkTo A size cells s c
      going_found q = g.leads c (ends bits c c refl (inr (v - 1, has, q)))

      abbrev next : ℕ
      next = size + 2 * (v - 1) + bits % 2

      pub next-within : next < length cells
      next-within = let l = going_slot.0 in let r = tree.room in omega arith

      pub going_next : A (v - 1) ≢ s → Going A size cells s (bits / 2) next (get_or cells next 0)
      going_next q = record { here = refl; within = next-within; leads = λ e w. g.leads e (on bits c e (v - 1) has q w) }

      pub going_less : left (length cells) (get_or cells next 0) < left (length cells) v
      going_less = go (get_or cells next 0) v h (let l = going_slot.0 in let r = tree.room in omega arith) (λ u q. tree.rises (v - 1) (bits % 2) u (omega arith) q)
        where
          go : (x y : ℕ) → 0 < y → y - 1 < length cells → ((u : ℕ) → x ≡ suc u → y - 1 < u) → left (length cells) x < left (length cells) y
          go x zero h l r = absurd (omega arith)
          go zero (suc y) h l r = omega arith
          go (suc x) (suc y) h l r = let k = r x refl in omega arith
