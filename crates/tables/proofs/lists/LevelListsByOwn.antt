-- Own lists one after the other are the level lists, on every domain that is read and passes causes 7 to 12: cause 14
-- and the tables by own lists are cause 14 and the tables.
use Prim.Native.Nat.{ℕ}
use mathlib.Core.Path.{◌≡◌, refl, sym, ◌∙◌, ap, subst}
use mathlib.Core.Bool.{Bool, cond, ◌&&◌}
use mathlib.Core.List.{List, [], ◌∷◌, flat_map}
use lib.ListN.{length}
use lib.Dec.{ltb}
use Rattle.wiring.specs.FrameDefinitions.{Result, refused, good, then, refusal}
use Rattle.files.specs.declared.Setting.{Setting}
use Rattle.files.specs.Domain.{Domain, expander_at, phy_at, is_table}
use Rattle.files.specs.ReadDomain.{Read}
use Rattle.files.specs.File.{domain_read}
use Rattle.wiring.specs.phys.PhyCauses.{Place, places, first_in, first_of, wired_domain}
use Rattle.wiring.specs.graph.LinkCauses.{linked_domain, checked_domain}
use Rattle.wiring.specs.WiringCauses.{Linked}
use Rattle.wiring.specs.index.AddressIndex.{IndexRoom}
use Rattle.files.proofs.CallResults.{then-good}
use Rattle.wiring.proofs.phys.WiredPhys.{Wired}
use Rattle.files.proofs.ReadDomain.{read-good}
use Rattle.wiring.proofs.WiredAndLinked.{wired-same, wired_iff, linked_iff, linked-same}
use Rattle.wiring.proofs.CheckOutcomes.{checked_room}
use Rattle.tables.specs.filling.Tables.{level_list, table, table_places, tables}
use Rattle.tables.specs.filling.Entries.{Entries, room_of, put_before}
use Rattle.tables.specs.declared.Counted.{Counted}
use Rattle.tables.specs.JudgingCall.{overlong, judged_domain, tables_for, judged_tables, table_call, tables_after, TablesDone}
use Rattle.tables.specs.lists.OwnLists.{own_words, own_words_of_levels}
use Rattle.tables.specs.lists.PreparedLists.{own_words_of_order, own_overlong, filled_to, own_tables_of, own_tables, judged_in, own_after, OwnDone}
use Rattle.tables.proofs.AcceptedDomains.{judged-routable, accepted_iff, tables_iff, table-call}
use Rattle.tables.proofs.lists.LevelListLaw.{law}
use Rattle.tables.proofs.levels.LevelOrders.{order-levels}
use Rattle.tables.proofs.CallOutcomes.{judge_checked, own_checked}

-- level lists are own lists one after the other
abbrev OwnListsAreLevels : Domain → Type 0
OwnListsAreLevels d = (x p : ℕ) → level_list d x p ≡ own_words_of_order d x p

-- a domain past causes 7 to 12 and 23: the same domain, past 7 to 10, and past 11, 12 and 23
checked_passes : (chain : ℕ) (d e : Domain) → checked_domain chain d ≡ good e → (d ≡ e) × (wired_domain d ≡ good d) × (linked_domain chain d ≡ good d)
unfolding checked_domain
checked_passes chain d e f =
    let a = then-good (wired_domain d) (λ _. linked_domain chain d) e f in
    let q = linked-same chain d e a.2 in
    (q, a.1 ∙ ap good (sym (wired-same d a.0 a.1)), a.2 ∙ ap good (sym q))

-- the law, by the order of each phy
law-order : (d : Domain) → Wired d → Linked d → OwnListsAreLevels d
unfolding own_words_of_levels own_words_of_order
law-order d w r x p = law d w r x p ∙ ap (flat_map (own_words d)) (sym (order-levels d w r x p))

-- it holds of a domain that is read and passes causes 7 to 12 and 23
pub read_lawful : (most : Setting) (d : Domain) → Read most d → (chain : ℕ) → checked_domain chain d ≡ good d → OwnListsAreLevels d
read_lawful most d g chain f = let p = checked_passes chain d d f in law-order d ((wired_iff most d g).0 p.1) ((linked_iff chain d).0 p.2).0

-- and so of one that is accepted
judged-same : (most : Setting) (d : Domain) → Read most d → (chain : ℕ) → judged_domain chain d ≡ good d → OwnListsAreLevels d
judged-same most d g chain j = let w = (accepted_iff most d g chain).0 j in law-order d w.0 w.1.linked

-- two tests that agree have the same lowest place
first-same : (k : ℕ) (f g : ℕ → ℕ → Bool) (qs : List Place) (d : Domain) → ((i p : ℕ) → f i p ≡ g i p) → first_in k f qs d ≡ first_in k g qs d
unfolding first_in
first-same k f g [] d e = refl
first-same k f g (q ∷ qs) d e =
    ap (λ (b : Bool). cond b (refused (refusal k q.expander q.phy)) (first_in k f qs d)) (e q.expander q.phy)
    ∙ ap (λ (r : Result Domain). cond (g q.expander q.phy) (refused (refusal k q.expander q.phy)) r) (first-same k f g qs d e)

over-same : (d : Domain) → OwnListsAreLevels d → (i p : ℕ) → own_overlong d i p ≡ overlong d i p
unfolding own_overlong overlong
over-same d s i p = ap (λ (l : List ℕ). is_table (phy_at d i p) && ltb (expander_at d i).route_indexes (length l)) (sym (s i p))

-- causes 7 to 12, 23 and 14 by own lists are those causes, on a domain that is read, with room for the entries
pub judged-read : (most : Setting) (d : Domain) → Read most d → (chain : ℕ) (first low : List ℕ) → IndexRoom d first low
    → judged_in chain (length first) (length low) d ≡ judged_domain chain d
judged-read most d g chain first low r = go (checked_domain chain d) refl
  where
    own_words : (x : Result Domain) → checked_domain chain d ≡ x → judged_in chain (length first) (length low) d ≡ then x (λ _. first_of 14 (own_overlong d) d)
    own_words x q = own_checked chain (length first) (length low) d x (checked_room chain d (length first) (length low) r.slots r.phys ∙ q)

    go : (x : Result Domain) → checked_domain chain d ≡ x → judged_in chain (length first) (length low) d ≡ judged_domain chain d
    go (refused s) q = own_words (refused s) q ∙ sym (judge_checked chain d (refused s) q)
    go (good a) q =
        let same = read_lawful most d g chain (q ∙ ap good (sym (checked_passes chain d a q).0)) in
        own_words (good a) q ∙ first-same 14 (own_overlong d) (overlong d) (places d) d (over-same d same) ∙ sym (judge_checked chain d (good a) q)

-- and so on the domain of a file
pub judged_own : (setting : Setting) (file first low : List ℕ) (d : Domain) → domain_read setting file ≡ good d → IndexRoom d first low
    → judged_in setting.chain (length first) (length low) d ≡ judged_domain setting.chain d
judged_own setting file first low d e = judged-read setting d (read-good setting file d e) setting.chain first low

-- tables by own lists are the tables
tables-same : (d : Domain) → OwnListsAreLevels d → own_tables d ≡ tables d
unfolding own_tables_of tables table_places table flat_map
tables-same d s = go (table_places d)
  where
    go : (qs : List Place) → flat_map (λ q. filled_to (expander_at d q.expander).route_indexes (own_words_of_order d q.expander q.phy)) qs
        ≡ flat_map (λ q. filled_to (expander_at d q.expander).route_indexes (level_list d q.expander q.phy)) qs
    go [] = refl
    go (q ∷ qs) = rw (s q.expander q.phy, go qs)

-- the table call on a domain that is read, by own lists
pub read_done : (most : Setting) (d : Domain) → Read most d → (chain : ℕ) (before after : Entries) (x : Result Domain) (answer : Result Counted) → x ≡ judged_domain chain d
    → OwnDone (then x (tables_for (room_of before))) answer before after → TablesDone (judged_tables chain d (room_of before)) answer before after
read_done most d g chain before after x answer q o =
    let w = subst (λ y. OwnDone (then y (tables_for (room_of before))) answer before after) q o in
    record { answers = w.answers; left = w.left ∙ go (judged_tables chain d (room_of before)) refl }
  where
    go : (y : Result Domain) → judged_tables chain d (room_of before) ≡ y → own_after y before ≡ tables_after y before
    go (refused r) h = refl
    go (good a) h =
        let j = ((tables_iff (judged_domain chain d) (room_of before) a).0 h).0 in
        let e = (judged-routable chain d a j).0 in
        ap (λ (l : List ℕ). put_before l before) (subst (λ b. own_tables b ≡ tables b) e (tables-same d (judged-same most d g chain (j ∙ ap good (sym e)))))

-- and on a file
pub call-done : (setting : Setting) (file : List ℕ) (before after : Entries) (d : Domain) (x : Result Domain) (answer : Result Counted) → domain_read setting file ≡ good d → x ≡ judged_domain setting.chain d
    → OwnDone (then x (tables_for (room_of before))) answer before after → TablesDone (table_call setting file (room_of before)) answer before after
call-done setting file before after d x answer e q o =
    subst (λ y. TablesDone y answer before after) (sym (table-call setting file d e (room_of before)))
    (read_done setting d (read-good setting file d e) setting.chain before after x answer q o)
