-- Who has an address. Slots number the expanders and phys of a domain: expander i is slot i, phy p of expander i slot 64 + 128 * i + p.
use Rattle.std.specs.Prelude.{ℕ, ◌+◌, ◌-◌, ◌*◌, ◌/◌, ◌%◌, ◌≤◌, ◌<◌, ◌≡◌, ◌⊎◌, ◌≢◌, Bool, false, cond, ◌||◌, List, length, get_or, take, T, eqb, ltb}
use Rattle.files.specs.declared.Phy.{Phy}
use Rattle.files.specs.Lists.{any}
use Rattle.files.specs.Domain.{Domain, expander_at, phy_at, address_of, attached, to_end, to_expander, bears, number_of}
use Rattle.wiring.specs.phys.PhyCauses.{end_at}
use Rattle.wiring.specs.index.SearchTree.{Tree, Lowest}
use Rattle.files.specs.Rows.{row_words}
use Rattle.files.specs.Settings.{most_expanders, most_phys}

-- how many slots there are in all: 64 expanders, and 128 phys of each
abbrev pub most_slots : ℕ
most_slots = 8256

-- how many phys a domain has at most: 128 of each of 64 expanders
abbrev pub most_domain_phys : ℕ
most_domain_phys = most_expanders * most_phys

-- how many cells the search tree of one expander's phys has: a root for each, and two more
abbrev pub phy_tree_cells : ℕ
phy_tree_cells = 3 * most_phys

-- how many slots come before the phys of expander i
abbrev pub slots_before : ℕ → ℕ
slots_before i = most_expanders + most_phys * i

-- the slot of phy p of expander i
abbrev pub slot_of : ℕ → ℕ → ℕ
slot_of i p = most_expanders + most_phys * i + p

-- the phy of a slot from 64 on
abbrev pub slot_phy : Domain → ℕ → Phy
slot_phy d t = phy_at d ((t - most_expanders) / most_phys) ((t - most_expanders) % most_phys)

-- the address of a slot: an expander's, or the attached one of a phy
unfoldable pub slot_address : Domain → ℕ → ℕ
slot_address d t = cond (ltb t most_expanders) (expander_at d t).address (address_of (slot_phy d t))

-- the word of rows in which it stands
abbrev pub slot_word : ℕ → ℕ
slot_word t = cond (ltb t most_expanders) (row_words * t) (2 * (t - most_expanders) + 2 + 2 * ((t - most_expanders) / most_phys))

-- the slots that bear their address as devices: expanders, and phys attached to end devices
unfoldable pub is_device : Domain → ℕ → Bool
is_device d t = cond (ltb t most_expanders) (ltb t (length d)) (to_end (slot_phy d t))

-- from slot 0 on the devices are listed, from an expander's first phy on its attached phys; slot v is counted from there
unfoldable pub listed_from : Domain → ℕ → ℕ → Bool
listed_from d from v = cond (eqb from 0) (is_device d v) (attached (slot_phy d (from + v)))

abbrev pub address_from : Domain → ℕ → ℕ → ℕ
address_from d from v = slot_address d (from + v)

-- a search tree of the listed slots below n
abbrev pub TreeFrom : Domain → ℕ → ℕ → List ℕ → ℕ → Type 0
TreeFrom d from size cells n = Tree (address_from d from) (listed_from d from) size cells n

abbrev pub LowestFrom : Domain → ℕ → ℕ → ℕ → Type 0
LowestFrom d from s v = Lowest (address_from d from) (listed_from d from) s v

-- the number of the expander of a slot; the count of expanders where it is a phy's
abbrev pub number_in : Domain → ℕ → ℕ
number_in d v = cond (ltb v most_expanders) v (length d)

-- an expander has the address, or an end device at an expander before expander i
abbrev pub is_taken : Domain → ℕ → ℕ → Bool
is_taken d i s = ltb (number_of d s) (length d) || any (end_at s) (take i d)

-- the slots of which an entry tells something: expanders, and attached phys
unfoldable pub tells : Domain → ℕ → Bool
tells d t = cond (ltb t most_expanders) (ltb t (length d)) (attached (slot_phy d t))

-- v is the lowest device below slot n with address s; 65535 where there is none
pub data LowestBelow (d : Domain) (n s v : ℕ) : Type 0 where
  found : LowestFrom d 0 s v → v < n → LowestBelow d n s v
  nobody : v ≡ 65535 → ((u : ℕ) → u < n → T (listed_from d 0 u) → address_from d 0 u ≢ s) → LowestBelow d n s v

-- v, the entry of slot t, is the lowest device up to slot t with its address. So it tells who has the address: for an expander, and a phy
-- attached to one, which expander; for a phy attached to an end device, by being below the first slot of its expander, that an expander or
-- an end device at an earlier expander has it
pub record LowestDevice (d : Domain) (t v : ℕ) : Type 0 where
  pub lowest : T (tells d t) → LowestBelow d (t + 1) (slot_address d t) v
  pub same : t < length d → v ≡ number_of d (expander_at d t).address
  pub far : most_expanders ≤ t → T (to_expander (slot_phy d t)) → number_in d v ≡ number_of d (address_of (slot_phy d t))
  pub taken : most_expanders ≤ t → T (to_end (slot_phy d t)) → ltb v (slots_before ((t - most_expanders) / most_phys)) ≡ is_taken d ((t - most_expanders) / most_phys) (address_of (slot_phy d t))

-- q is the lowest attached phy of expander i with phy p's attached address
pub record LowestPhy (d : Domain) (i p q : ℕ) : Type 0 where
  pub low : q ≤ p
  pub bearing : T (bears (address_of (phy_at d i p)) (phy_at d i q))
  pub none : (r : ℕ) → r < q → bears (address_of (phy_at d i p)) (phy_at d i r) ≡ false

-- the first `at` entries, one for each slot
abbrev pub LowestDevices : Domain → ℕ → List ℕ → Type 0
LowestDevices d at first = (t : ℕ) → t < at → LowestDevice d t (get_or first t 0)

-- the attached phys, by the place of their entry
abbrev pub attached_at : Domain → ℕ → Bool
attached_at d k = attached (phy_at d (k / most_phys) (k % most_phys))

-- the first `at` entries, one for each phy
abbrev pub LowestPhys : Domain → ℕ → List ℕ → Type 0
LowestPhys d at low = (k : ℕ) → k < at → T (attached_at d k) → LowestPhy d (k / most_phys) (k % most_phys) (get_or low k 0)

-- who has the attached address of phy p of expander i, as the entries tell: an expander, or the count of expanders
abbrev pub attached_expander : Domain → List ℕ → ℕ → ℕ → ℕ
attached_expander d first i p = number_in d (get_or first (slot_of i p) 0)

-- the lowest phy of expander i with the attached address of phy p, as the entries tell
abbrev pub lowest_phy : List ℕ → ℕ → ℕ → ℕ
lowest_phy low i p = get_or low (most_phys * i + p) 0

-- room for the entries of all slots and phys
pub record IndexRoom (d : Domain) (first low : List ℕ) : Type 0 where
  pub slots : slots_before (length d) ≤ length first
  pub phys : most_phys * length d ≤ length low

-- a tree of this size, no larger than the most expanders need, has room for all slots: so many roots, and two cells for each slot
pub record TreeRoom (d : Domain) (roots cells : ℕ) : Type 0 where
  pub some : 0 < roots
  pub room : roots + 2 * slots_before (length d) ≤ cells
  pub no_more : cells ≤ 8192 + 2 * most_slots

-- for all slots of the domain
pub record IndexedFirst (d : Domain) (first : List ℕ) : Type 0 where
  pub slots : slots_before (length d) ≤ length first
  pub each : LowestDevices d (slots_before (length d)) first

-- for all phys of the domain
pub record IndexedLow (d : Domain) (low : List ℕ) : Type 0 where
  pub phys : most_phys * length d ≤ length low
  pub each : LowestPhys d (most_phys * length d) low

-- both
pub record Indexed (d : Domain) (first low : List ℕ) : Type 0 where
  pub firsts : IndexedFirst d first
  pub lows : IndexedLow d low

-- entries at which the test fails are as before, also past the last slot or phy
pub record EntriesKeptBut (test : ℕ → Bool) (before after : List ℕ) : Type 0 where
  pub same : (t : ℕ) → test t ≡ false → get_or after t 0 ≡ get_or before t 0

-- the entries before and after they are written: all that tell nothing are as before
pub record IndexPut (d : Domain) (first low first' low' : List ℕ) : Type 0 where
  pub index : Indexed d first' low'
  pub firsts : EntriesKeptBut (tells d) first first'
  pub lows : EntriesKeptBut (attached_at d) low low'

-- what becomes of lent entries, whatever a check of the domain answers: they are written where there is room for all of them, and stay where there is not
pub record IndexLeft (d : Domain) (first low first' low' : List ℕ) : Type 0 where
  pub written : IndexRoom d first low → IndexPut d first low first' low'
  pub short : ¬ (IndexRoom d first low) → (first' ≡ first) × (low' ≡ low)

-- the tree of some of the slots from `from` on
pub record Searchable (d : Domain) (from size : ℕ) (cells : List ℕ) : Type 0 where
  pub count : ℕ
  pub start : (from ≡ 0) ⊎ (most_expanders ≤ from)
  pub few : from + count ≤ most_slots
  pub tree : TreeFrom d from size cells count

-- slot t can be added to the tree of those before it, by its address s
pub record Addable (d : Domain) (from size : ℕ) (cells : List ℕ) (t s : ℕ) : Type 0 where
  pub start : (from ≡ 0) ⊎ (most_expanders ≤ from)
  pub above : from ≤ t
  pub few : t < most_slots
  pub room : size + 2 * (t - from + 1) ≤ length cells
  pub tree : TreeFrom d from size cells (t - from)
  pub here : T (listed_from d from (t - from))
  pub address : slot_address d t ≡ s

-- slot t is in the tree, too, and r is the lowest slot from `from` on with its address s
pub record AddedTo (d : Domain) (from size : ℕ) (before after : List ℕ) (t s r : ℕ) : Type 0 where
  pub same : length after ≡ length before
  pub tree : TreeFrom d from size after (t - from + 1)
  pub above : from ≤ r
  pub upto : r ≤ t
  pub lowest : LowestFrom d from s (r - from)

-- while the entries are written: those of the slots below `at`, which are in the tree
pub record FirstsTo (d : Domain) (at size : ℕ) (cells first : List ℕ) : Type 0 where
  pub slots : slots_before (length d) ≤ length first
  pub room : size + 2 * slots_before (length d) ≤ length cells
  pub tree : TreeFrom d 0 size cells at
  pub firsts : LowestDevices d at first

-- those of the phys of the expanders before expander i
pub record LowsBefore (d : Domain) (i : ℕ) (low : List ℕ) : Type 0 where
  pub phys : most_phys * length d ≤ length low
  pub lows : LowestPhys d (most_phys * i) low

-- and of the phys below p of it, which are in its own tree
pub record LowsTo (d : Domain) (i p : ℕ) (cells low : List ℕ) : Type 0 where
  pub phys : most_phys * length d ≤ length low
  pub room : phy_tree_cells ≤ length cells
  pub tree : TreeFrom d (slots_before i) most_phys cells p
  pub lows : LowestPhys d (most_phys * i + p) low

-- φ is phy p of expander i, which has it
abbrev pub PhyThere : Domain → ℕ → ℕ → Phy → Type 0
PhyThere d i p φ = (φ ≡ phy_at d i p) × (p < length (expander_at d i).phys)
