-- What the judging and table calls prepare before they go through the table phys: each expander's own list, the expanders downstream of each,
-- and the expanders of a phy's levels in their order.
use Rattle.std.specs.Prelude.{ℕ, zero, suc, ◌*◌, ◌≤◌, ◌<◌, ◌+◌, ◌≡◌, Bool, true, false, ◌||◌, ◌&&◌, length, get_or, take, drop, replicate, T, eqb, ltb}
use mathlib.Core.List.{List, [], ◌∷◌, ◌++◌, flat_map}
use Rattle.wiring.specs.FrameDefinitions.{Result, refused, good, then}
use Rattle.files.specs.declared.Phy.{Phy}
use Rattle.files.specs.Domain.{Domain, expander_at, phy_at, address_of, is_table, is_direct, attached, to_expander, number_of}
use Rattle.files.specs.Settings.{most_expanders}
use Rattle.wiring.specs.phys.PhyCauses.{Place, places, first_of, place}
use Rattle.wiring.specs.phys.Checks.{checked_in}
use Rattle.wiring.specs.index.AddressIndex.{attached_expander, lowest_phy}
use Rattle.tables.specs.levels.Levels.{each_once, down, downstream_of_phys, downstream}
use Rattle.tables.specs.filling.Entries.{Entries, put_before}
use Rattle.tables.specs.lists.GrowingLists.{with_tables, places_at, Grown}
use Rattle.tables.specs.JudgingCall.{counts_in}
use Rattle.tables.specs.declared.Counted.{Counted}
use Rattle.tables.specs.declared.levels.order.KeptOrder.{KeptOrder}
use Rattle.tables.specs.lists.OwnLists.{own_words}
use Rattle.tables.specs.filling.Tables.{size, sizes, needed}

-- how many words an own list has with its length before it: at most 128, and one
abbrev pub own_list_words : ℕ
own_list_words = 129

-- how many expanders are at most downstream of one: 64, and their count for an address that no expander has; and how many bytes their list has with its length before it
abbrev pub most_downstream : ℕ
most_downstream = 65

abbrev pub downstream_bytes : ℕ
downstream_bytes = 66

-- how many bytes the order of a phy takes at most: 64 expanders each add at most 65, and the first level has one
abbrev pub order_bytes : ℕ
order_bytes = 4161

-- from word stride * i on stand the length of list i and then the list, for each i below n
abbrev pub Cells : ℕ → (ℕ → List ℕ) → ℕ → List ℕ → Type 0
Cells stride list n words = (i : ℕ) → i < n → take (suc (length (list i))) (drop (stride * i) words) ≡ length (list i) ∷ list i

-- such cells, and the words reach to stride * n
pub record Stored (stride : ℕ) (list : ℕ → List ℕ) (n : ℕ) (words : List ℕ) : Type 0 where
  pub enough : stride * n ≤ length words
  pub cell : Cells stride list n words

-- the own lists of all expanders, each after its length, one every 129 words
abbrev pub OwnListsHeld : Domain → List ℕ → Type 0
OwnListsHeld d words = Stored own_list_words (own_words d) (length d) words

-- the length of each expander's own list
pub record OwnListCounts (d : Domain) (counts : List ℕ) : Type 0 where
  pub enough : length d ≤ length counts
  pub each : (i : ℕ) → i < length d → get_or counts i 0 ≡ length (own_words d i)

-- the expanders downstream of expander i (at which the levels go on from it), each once
abbrev pub downstream_once : Domain → ℕ → List ℕ
downstream_once d i = each_once [] (downstream d i)

-- for each expander the list of those downstream of it, after its length, one every 66 bytes
abbrev pub DownstreamListsHeld : Domain → List ℕ → Type 0
DownstreamListsHeld d bytes = Stored downstream_bytes (downstream_once d) (length d) bytes

-- the expanders met from these on, in order: after each come, behind those that wait, the expanders downstream of it; so many are followed
unfoldable pub queue : ℕ → Domain → List ℕ → List ℕ
queue zero d waiting = waiting
queue (suc turns) d [] = []
queue (suc turns) d (i ∷ waiting) = i ∷ queue turns d (waiting ++ downstream_once d i)

-- the order of phy φ: the expander attached to it, where the levels go on there, and those met from it on
unfoldable pub order_of : Domain → Phy → List ℕ
order_of d φ = queue (length d) d (downstream_of_phys d (φ ∷ []))

-- the own lists of the expanders in the order of phy p of expander x, one after the other
unfoldable pub own_words_of_order : Domain → ℕ → ℕ → List ℕ
own_words_of_order d x p = flat_map (own_words d) (order_of d (phy_at d x p))

-- two phys of one expander at which the levels go on to the same expander: phys of one link
unfoldable pub one_link : Domain → Phy → Phy → Bool
one_link d φ ψ = down d φ && (down d ψ && eqb (address_of φ) (address_of ψ))

-- q, where it is lower than p, is on one link with phy p of expander i
abbrev pub LowerOnLink : Domain → ℕ → ℕ → ℕ → Type 0
LowerOnLink d i p q = q < p → T (one_link d (phy_at d i p) (phy_at d i q))

-- 14 by own lists: those of the phy's order have more than R words in all
unfoldable pub own_overlong : Domain → ℕ → ℕ → Bool
own_overlong d i p = is_table (phy_at d i p) && ltb (expander_at d i).route_indexes (length (own_words_of_order d i p))

-- a list, and zeros after it up to so many words
abbrev pub filled_to : ℕ → List ℕ → List ℕ
filled_to n l = take n (l ++ replicate n 0)

-- the tables of these phys by own lists, one after the other
unfoldable pub own_tables_of : Domain → List Place → List ℕ
own_tables_of d qs = flat_map (λ q. filled_to (expander_at d q.expander).route_indexes (own_words_of_order d q.expander q.phy)) (with_tables d qs)

-- all tables by own lists
abbrev pub own_tables : Domain → List ℕ
own_tables d = own_tables_of d (places d)

-- no list of own lists is longer than R
abbrev pub Fillable : Domain → Type 0
Fillable d = (i p : ℕ) → T (is_table (phy_at d i p)) → length (own_words_of_order d i p) ≤ (expander_at d i).route_indexes

-- what the table of phy p of expander x is filled from besides own lists: its order, and room for its list
pub record FilledFrom (d : Domain) (x p : ℕ) (order : List ℕ) (room : ℕ) : Type 0 where
  pub ordered : order ≡ order_of d (phy_at d x p)
  pub fits : length (own_words_of_order d x p) ≤ room

-- room, no more than the most expanders need, for the lists of those downstream of each of n expanders, and for the order of one phy
pub record LevelRoomFor (n bytes numbers : ℕ) : Type 0 where
  pub downstream : downstream_bytes * n ≤ bytes
  pub order : most_downstream * n < numbers
  pub no_more : (bytes ≤ downstream_bytes * most_expanders) × (numbers ≤ order_bytes)

-- and for their own lists
pub record FillRoomFor (n words bytes numbers : ℕ) : Type 0 where
  pub lists : own_list_words * n ≤ words
  pub no_more : words ≤ own_list_words * most_expanders
  pub levels : LevelRoomFor n bytes numbers

-- room for the order of one phy, no more than the most expanders need
pub record OrderRoom (d : Domain) (order : List ℕ) : Type 0 where
  pub enough : most_downstream * length d < length order
  pub few : length order ≤ order_bytes

-- writing the table of phy p of expander i, a table phy, from `at` on rests on these besides own lists: the phy's order, and room
abbrev pub TableReady : Domain → List ℕ → ℕ → ℕ → List ℕ → ℕ → Type 0
TableReady d order i p words at = (order ≡ order_of d (phy_at d i p)) × ((is_table (phy_at d i p) ≡ true) × (Fillable d × (at + size d (place i p) ≤ length words)))

-- writing all tables: no list is too long, and room
abbrev pub AllReady : Domain → List ℕ → Type 0
AllReady d words = Fillable d × (needed d ≤ length words)

-- the entries tell which expander each phy is attached to that is attached to one
abbrev pub AttachedExpandersKnown : Domain → List ℕ → Type 0
AttachedExpandersKnown d first = (i p : ℕ) → T (to_expander (phy_at d i p)) → attached_expander d first i p ≡ number_of d (address_of (phy_at d i p))

-- the order of φ, phy p of expander i, with room for its numbers, where that of another phy of i stands there
abbrev pub OrderAfter : Domain → List ℕ → ℕ → ℕ → Phy → KeptOrder → Type 0
OrderAfter d order i p φ kept =
    ((φ ≡ phy_at d i p) × (kept.fields ≡ phy_at d i kept.phy.0)) × ((most_downstream * length d < length order) × Grown order order kept.count (order_of d kept.fields))

-- writing the tables of expander i from `at` on: room for one order, no list is too long, and room for the tables
abbrev pub TablesReady : Domain → List ℕ → ℕ → List ℕ → ℕ → Type 0
TablesReady d order i words at = (most_downstream * length d < length order) × (Fillable d × (at + sizes d (places_at d i) ≤ length words))

-- φ, phy p of expander i, gives its word to the own list, by the lowest phy with its address
abbrev pub owns_by : List ℕ → ℕ → ℕ → Phy → Bool
owns_by low i p φ = is_direct φ || (is_table φ && (attached φ && eqb (lowest_phy low i p) p))

-- causes 7 to 12, 23 and 14 in order, 14 by own lists, where there is room for entries of so many slots and phys: 16 otherwise
unfoldable pub judged_in : ℕ → ℕ → ℕ → Domain → Result Domain
judged_in chain first low d = then (checked_in chain first low d) (λ _. first_of 14 (own_overlong d) d)

-- the entries after the call, by own lists; all as they were where refused
abbrev pub own_after : Result Domain → Entries → Entries
own_after (refused r) before = before
own_after (good d) before = put_before (own_tables d) before

-- all that giving tables by own lists promises: the answer, and the entries after
pub record OwnDone (outcome : Result Domain) (answer : Result Counted) (before after : Entries) : Type 0 where
  pub answers : answer ≡ then outcome counts_in
  pub left : after ≡ own_after outcome before

-- testing 14 at φ, phy p of expander i: room for one order; q, where it is lower, is on one link with it; and 14 holds at no lower phy
pub record OverlongTestable (d : Domain) (order : List ℕ) (i p q : ℕ) (φ : Phy) : Type 0 where
  pub room : OrderRoom d order
  pub phy : φ ≡ phy_at d i p
  pub link : LowerOnLink d i p q
  pub none : (k : ℕ) → k < p → own_overlong d i k ≡ false

-- how many words the tables of expander i have
abbrev pub words_at : Domain → ℕ → ℕ
words_at d i = length (with_tables d (places_at d i)) * (expander_at d i).route_indexes
