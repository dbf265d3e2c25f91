-- Search trees of slots by their addresses. A cell is free (0) or has a slot, plus 1. The first `size` cells are roots, one for each key of
-- an address. Slot v has two cells from size + 2 * v on: at it, an address goes on to one of them by its next bit.
use Rattle.std.specs.Prelude.{ℕ, suc, ◌+◌, ◌-◌, ◌*◌, ◌/◌, ◌%◌, ◌≤◌, ◌<◌, ◌≡◌, ◌⊎◌, ◌≢◌, Bool, List, length, get_or, T}
use Rattle.std.specs.Int.Bits.{bit_and}

-- the key of an address, below `size` where that is a power of two
unfoldable pub key_in : ℕ → ℕ → ℕ
key_in size s = bit_and (s % 8192 + s / 8192 % 8192 + s / 67108864 % 8192) (size - 1)

-- A v is the address of slot v
module _ (A : ℕ → ℕ) (size : ℕ) (cells : List ℕ) (s : ℕ) where
  -- a walk for address s ends at cell c: it is free, or has a slot with the address
  abbrev pub Stop : ℕ → Type 0
  Stop c = (get_or cells c 0 ≡ 0) ⊎ ((v : ℕ) × (get_or cells c 0 ≡ suc v) × (A v ≡ s))

  -- the walk for address s from cell c, with these bits of it left, ends at cell e
  pub data Walk : ℕ → ℕ → ℕ → Type 0 where
    ends : (bits c e : ℕ) → e ≡ c → Stop c → Walk bits c e
    on : (bits c e v : ℕ) → get_or cells c 0 ≡ suc v → A v ≢ s → Walk (bits / 2) (size + 2 * v + bits % 2) e → Walk bits c e

  -- from the root of its key
  abbrev pub WalkTo : ℕ → Type 0
  WalkTo e = Walk s (key_in size s) e

module _ (A : ℕ → ℕ) (listed : ℕ → Bool) where
  -- v is the lowest of the listed slots with address s
  pub record Lowest (s v : ℕ) : Type 0 where
    pub here : T (listed v)
    pub address : A v ≡ s
    pub least : (u : ℕ) → T (listed u) → A u ≡ s → v ≤ u

  module _ (size : ℕ) (cells : List ℕ) where
    -- the walk for the address of slot u ends at a cell with a slot, which is no higher than u
    pub record Led (u : ℕ) : Type 0 where
      pub cell : ℕ
      pub slot : ℕ
      pub walk : WalkTo A size cells (A u) cell
      pub held : get_or cells cell 0 ≡ suc slot
      pub low : slot ≤ u

    -- the listed slots below n are in the tree
    pub record Tree (n : ℕ) : Type 0 where
      pub some : 0 < size
      pub room : size + 2 * n ≤ length cells
      pub slots : (c v : ℕ) → get_or cells c 0 ≡ suc v → (v < n) × T (listed v)
      pub rises : (v b u : ℕ) → b < 2 → get_or cells (size + 2 * v + b) 0 ≡ suc u → v < u
      pub led : (u : ℕ) → u < n → T (listed u) → Led u
