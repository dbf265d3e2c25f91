-- The outcomes of the judging call and of the table call.
use Prim.Native.Nat.{ℕ, ◌≤◌, ◌<◌}
use mathlib.Core.Path.{◌≡◌, refl, ◌∙◌, ap, ap₂}
use mathlib.Core.Logic.{by_cases}
use mathlib.Core.List.{List, ◌++◌}
use native.Mathlib.Omega.{arith}
use native.Mathlib.Decide.{dec_lt}
use lib.ListN.{length, take, drop}
use lib.Seq.{take_at}
use lib.Dec.{T, ltb, lt→ltb, ltb→lt}
use borrow.Author.Tests.{le-leb, lt-leb}
use Rattle.wiring.specs.FrameDefinitions.{bytes_for, marked, Refusal, Result, refused, good, then, refusal}
use Rattle.files.specs.Domain.{Domain, expander_at}
use Rattle.files.specs.declared.Setting.{Setting}
use Rattle.files.specs.File.{domain_read}
use Rattle.wiring.specs.phys.PhyCauses.{places, first_of, wired_domain}
use Rattle.wiring.specs.graph.LinkCauses.{linked_domain, checked_domain}
use Rattle.wiring.specs.phys.Checks.{checked_in}
use Rattle.wiring.specs.index.AddressIndex.{IndexRoom}
use Rattle.files.proofs.ListMembers.{tests}
use Rattle.files.proofs.CallResults.{then-good}
use Rattle.files.proofs.Domains.{attribute-range}
use Rattle.wiring.proofs.WiredAndLinked.{first_of-good, good-first_of}
use Rattle.wiring.proofs.CheckOutcomes.{room_checked}
use Rattle.tables.specs.filling.Tables.{table_places, needed}
use Rattle.tables.specs.filling.Entries.{Entries, entries, Room, room_of, Enough}
use Rattle.tables.specs.lists.PreparedLists.{own_words_of_order, own_overlong, judged_in, own_tables, OwnDone, Fillable}
use Rattle.tables.specs.declared.Counted.{Counted}
use Rattle.tables.specs.JudgingCall.{overlong, judged_domain, judged, expanders_in, tables_for, table_call, TablesDone}
use Rattle.tables.proofs.filling.TablesPut.{length-tables}

then-then : {A B C : Type 0} (x : Result A) (y : Result B) (z : Result C) → then x (λ _. then y (λ _. z)) ≡ then (then x (λ _. y)) (λ _. z)
then-then (refused r) y z = refl
then-then (good a) y z = refl

-- causes 7 to 12, 23 and 14 of a domain
pub judge_checked : (chain : ℕ) (d : Domain) (x : Result Domain) → checked_domain chain d ≡ x → judged_domain chain d ≡ then x (λ _. first_of 14 (overlong d) d)
unfolding judged_domain checked_domain
judge_checked chain d x e = then-then (wired_domain d) (linked_domain chain d) (first_of 14 (overlong d) d) ∙ ap (λ y. then y (λ _. first_of 14 (overlong d) d)) e

-- past 14 by own lists, tables can be filled from them
pub fillable-by : (d x : Domain) → first_of 14 (own_overlong d) d ≡ good x → Fillable d
unfolding own_overlong
fillable-by d x j =
    let c = first_of-good 14 (own_overlong d) d x within j in
    λ i p t. by_cases (dec_lt (expander_at d i).route_indexes (length (own_words_of_order d i p))) (λ h. absurd (c.1 i p (search (tests, lt→ltb)))) (λ h. omega arith)
  where
    within : (i p : ℕ) → T (own_overlong d i p) → p < length (expander_at d i).phys
    within i p t = attribute-range d 2 i p (search tests) (omega arith)

-- and where they can be filled, 14 does not hold
pub by-fillable : (d : Domain) → Fillable d → first_of 14 (own_overlong d) d ≡ good d
unfolding own_overlong
by-fillable d h =
    good-first_of 14 (own_overlong d) d
    (λ i p t.
    let over : T (ltb (expander_at d i).route_indexes (length (own_words_of_order d i p))) = search tests in
    absurd (omega (arith, h i p (search tests), ltb→lt (expander_at d i).route_indexes (length (own_words_of_order d i p)) over)))

-- causes 7 to 12, 23 and 14 by own lists, with room for so many entries
module _ (chain first low : ℕ) (d : Domain) where
  pub own_checked : (x : Result Domain) → checked_in chain first low d ≡ x → judged_in chain first low d ≡ then x (λ _. first_of 14 (own_overlong d) d)
  unfolding judged_in
  own_checked x e = ap (λ (y : Result Domain). then y (λ _. first_of 14 (own_overlong d) d)) e

  pub fillable : judged_in chain first low d ≡ good d → Fillable d
  unfolding judged_in
  fillable j = fillable-by d d (then-good (checked_in chain first low d) _ d j).2

-- and there was room for the entries
pub judged-room : (chain : ℕ) (d : Domain) (first low : List ℕ) (x : Domain) → judged_in chain (length first) (length low) d ≡ good x → IndexRoom d first low
unfolding judged_in
judged-room chain d first low x j = let a = then-good (checked_in chain (length first) (length low) d) _ x j in room_checked chain d first low a.0 a.1

-- the judging call
pub judge-refused : (setting : Setting) (file : List ℕ) (r : Refusal) → domain_read setting file ≡ refused r → refused r ≡ then (judged setting file) expanders_in
judge-refused setting file r e = rw e

pub judge-by : (setting : Setting) (file : List ℕ) (d : Domain) (x : Result Domain) → domain_read setting file ≡ good d → judged_domain setting.chain d ≡ x
    → then x expanders_in ≡ then (judged setting file) expanders_in
judge-by setting file d x e q = rw (e, q)

-- tables by own lists past causes 1 to 6: refused before, 16, 18, and given
pub own_refused : (room : Room) (before : Entries) (r : Refusal) (x : Result Domain) → x ≡ refused r → OwnDone (then x (tables_for room)) (refused r) before before
own_refused room before r x e = rw e (record { answers = refl; left = refl })

module _ (d : Domain) (before : Entries) (x : Result Domain) (e : x ≡ good d) where
  pub own_few : length before.words < needed d → (answer : Result Counted) → answer ≡ refused (refusal 16 0 0) → OwnDone (then x (tables_for (room_of before))) answer before before
  own_few h answer a = rw (e, a, lt-leb (needed d) (length before.words) h) (record { answers = refl; left = refl })

  pub own_few-bits : needed d ≤ length before.words → length before.bits < bytes_for (needed d) → (answer : Result Counted) → answer ≡ refused (refusal 18 0 0)
      → OwnDone (then x (tables_for (room_of before))) answer before before
  own_few-bits g h answer a = rw (e, a, le-leb (needed d) (length before.words) g, lt-leb (bytes_for (needed d)) (length before.bits) h) (record { answers = refl; left = refl })

  -- the bits are those of the words up to so many
  pub own_done_lem : (t w : ℕ) (words bits : List ℕ) → Enough (needed d) (room_of before) → t ≡ length (table_places d) → w ≡ needed d
      → words ≡ own_tables d ++ drop (needed d) before.words → bits ≡ marked (take w words) before.bits
      → OwnDone (then x (tables_for (room_of before))) (good (record { table_count = t; word_count = w })) before (entries words bits)
  own_done_lem t w words bits h p q s m =
      let n = length-tables d (places d) in
      let f : take w words ≡ own_tables d = ap (take w) s ∙ take_at (own_tables d) _ w (omega arith) in
      let a : words ≡ own_tables d ++ drop (length (own_tables d)) before.words = rw n s in
      let b : bits ≡ marked (own_tables d) before.bits = rw f at m in
      rw (e, le-leb (needed d) (length before.words) h.words, le-leb (bytes_for (needed d)) (length before.bits) h.bits)
      (record { answers = rw (p, q) refl; left = ap₂ entries a b })

-- the table call on a file
pub call-refused : (setting : Setting) (file : List ℕ) (before : Entries) (r : Refusal) → domain_read setting file ≡ refused r
    → TablesDone (table_call setting file (room_of before)) (refused r) before before
unfolding table_call
call-refused setting file before r e = rw e (record { answers = refl; left = refl })
