-- A drive plugged into a phy or pulled from it (document 02, paper 9), over rows: what it makes of the phy, which causes the edited domain
-- can have, and which tables are written afresh. Own lists stand for level lists here.
use Rattle.std.specs.Prelude.{ℕ, suc, ◌*◌, ◌≤◌, ◌<◌, ◌≡◌, ◌≢◌, Bool, false, cond, not, ◌&&◌, List, ◌∷◌, length, take, drop, T, eqb, leb}
use Rattle.wiring.specs.FrameDefinitions.{Result, refused, good, unless, then, refusal}
use Rattle.files.specs.declared.Phy.{Phy}
use Rattle.files.specs.declared.Phy.TheVariants.{Vacant, Present}
use Rattle.files.specs.Lists.{is_in}
use Rattle.files.specs.Domain.{Domain, expander_at, phy_at, address_of, to_end}
use Rattle.wiring.specs.phys.PhyCauses.{Place, clashing, first_in, first_of}
use Rattle.wiring.specs.index.AddressIndex.{is_taken}
use Rattle.files.specs.PhyReplaced.{set_phy, with_words}
use Rattle.files.specs.Rows.{domain_in}
use Rattle.tables.specs.filling.Entries.{Entries, Room, room_of, Enough}
use Rattle.tables.specs.lists.GrowingLists.{places_at}
use Rattle.tables.specs.lists.OwnLists.{own_words}
use Rattle.tables.specs.JudgingCall.{tables_for}
use Rattle.tables.specs.lists.PreparedLists.{OwnListsHeld, DownstreamListsHeld, order_of, own_words_of_order, own_overlong, filled_to, Fillable, AttachedExpandersKnown, judged_in, own_list_words, OrderRoom}
use Rattle.tables.specs.events.TouchedTables.{refilled_by, moved_by}
use Rattle.tables.specs.declared.Moved.{Moved}
use Rattle.tables.specs.filling.Tables.{needed}

-- 20 does not hold: the phy exists, is not vacant and is not attached to an expander
abbrev pub pluggable : Phy → Bool
pluggable (Vacant r) = false
pluggable (Present f) = not (leb 2 f.device_type)

-- a plug sets type 1, the drive's address and attached phy 0; a pull, with address zero, sets type 0, and then attached address and phy
-- read as 0
abbrev pub replug : ℕ → Phy → Phy
replug a (Vacant r) = Vacant r
replug a (Present f) = Present (record { device_type = cond (eqb a 0) 0 1; attribute = f.attribute; address = a; attached_phy = record { 0 = 0 } })

-- the edited domain: address a plugged into phy p of expander e, or its drive pulled where a is zero
abbrev pub replugged : Domain → ℕ → ℕ → ℕ → Domain
replugged d e p a = set_phy d e p (replug a (phy_at d e p))

-- 8 of address s alone: an end device with it, where an expander has it, or an end device at an earlier expander
unfoldable pub claimed_with : ℕ → Domain → ℕ → ℕ → Bool
claimed_with s d i p = to_end (phy_at d i p) && (eqb (address_of (phy_at d i p)) s && is_taken d i s)

-- 8 of address s, 9 at expander e, and 14 by own lists, in order: where one phy of e of an accepted domain has been given address s, no
-- other cause can hold
unfoldable pub retested : ℕ → ℕ → Domain → Result Domain
retested e s d =
    then (first_of 8 (claimed_with s d) d) (λ _.
    then (first_in 9 (clashing d) (places_at d e) d) (λ _.
    first_of 14 (own_overlong d) d))

-- 20, then 16 and 18
abbrev pub admitting : Room → ℕ → ℕ → Domain → Result Domain
admitting room e p d = unless (pluggable (phy_at d e p)) (refusal 20 0 0) (tables_for room d)

-- 14 by own lists of a domain past causes 7 to 12 and 23, then 20, 16 and 18
abbrev pub fitted : Room → ℕ → ℕ → Domain → Result Domain
fitted room e p d =
    then (first_of 14 (own_overlong d) d) (λ _.
    admitting room e p d)

-- causes 7 to 12, 23 and 14 by own lists of the domain as lent, with room for so many slots and phys; then 20, 16 and 18
abbrev pub admitted : ℕ → ℕ → ℕ → Room → ℕ → ℕ → Domain → Result Domain
admitted chain first low room e p d =
    then (judged_in chain first low d) (λ _.
    admitting room e p d)

-- and then the causes of the edited domain, which it yields
unfoldable pub replug_call : ℕ → ℕ → ℕ → Room → ℕ → ℕ → ℕ → Domain → Result Domain
replug_call chain first low room e p a d = then (admitted chain first low room e p d) (λ _. retested e a (replugged d e p a))

-- the rows after the call: the phy's two words replaced where it was admitted, else as they were
abbrev pub rows_after : Result Domain → List ℕ → ℕ → ℕ → Phy → List ℕ
rows_after (refused r) ws e p φ = ws
rows_after (good d) ws e p φ = with_words ws e p φ

-- "touched", by own lists: expander e is in the order of the phy at this place
unfoldable pub own_touched : Domain → ℕ → Place → Bool
own_touched d e q = is_in e (order_of d (phy_at d q.expander q.phy))

-- the table at a place, by own lists
abbrev pub own_table_at : Domain → Place → List ℕ
own_table_at d q = filled_to (expander_at d q.expander).route_indexes (own_words_of_order d q.expander q.phy)

-- entries with the touched tables written afresh, words and bits
abbrev pub own_refilled : Domain → ℕ → Entries → Entries
own_refilled d e before = refilled_by d (own_touched d e) (own_table_at d) before

abbrev pub refilled_after : Result Domain → ℕ → Entries → Entries
refilled_after (refused r) e before = before
refilled_after (good d) e before = own_refilled d e before

-- all that a call with this outcome promises of the entries: those after, and the answer
pub record ReplugDone (outcome : Result Domain) (e : ℕ) (answer : Result Moved) (before after : Entries) : Type 0 where
  pub left : after ≡ refilled_after outcome e before
  pub answers : answer ≡ then outcome (λ d. good (moved_by d (own_touched d e) before after))

-- the own lists of all expanders but expander e, as OwnHeld has them
pub record OwnListsHeldBut (d : Domain) (e : ℕ) (words : List ℕ) : Type 0 where
  pub enough : own_list_words * length d ≤ length words
  pub cell : (i : ℕ) → i < length d → i ≢ e → take (suc (length (own_words d i))) (drop (own_list_words * i) words) ≡ length (own_words d i) ∷ own_words d i

-- testing a domain again where a drive was plugged or pulled at expander e: room for one order, and its tables can be filled as long as
-- e's own list has at most n words
pub record RetestReady (d : Domain) (e n : ℕ) (order : List ℕ) : Type 0 where
  pub room : OrderRoom d order
  pub fills : length (own_words d e) ≤ n → Fillable d

-- all that is prepared where a drive is plugged or pulled at phy p of expander e: which expanders phys are attached to, own lists, the expanders
-- downstream of each, and room for one order; and it can be plugged or pulled there, with room for the tables, which can be filled
pub record ReplugPrepared (d : Domain) (e p : ℕ) (first lists bytes numbers : List ℕ) (room : Room) : Type 0 where
  pub fars : AttachedExpandersKnown d first
  pub owns : OwnListsHeld d lists
  pub downstream : DownstreamListsHeld d bytes
  pub order : OrderRoom d numbers
  pub fills : Fillable d
  pub takes : T (pluggable (phy_at d e p))
  pub enough : Enough (needed d) room

-- rows and entries before and after address a is plugged into phy p of expander e, or its drive pulled, of a domain past causes 7 to 12 and 23, and the answer
pub record ReplugRun (ws ws' : List ℕ) (e p a : ℕ) (answer : Result Moved) (before after : Entries) : Type 0 where
  pub rows : ws' ≡ rows_after (fitted (room_of before) e p (domain_in ws)) ws e p (replug a (phy_at (domain_in ws) e p))
  pub done : ReplugDone (then (fitted (room_of before) e p (domain_in ws)) (λ _. retested e a (replugged (domain_in ws) e p a))) e answer before after
