-- When the judging call and the table call answer, and with which numbers they refuse.
use Prim.Native.Nat.{ℕ, ◌≤◌}
use mathlib.Core.Path.{◌≡◌, refl, sym, ap, subst, ◌∙◌}
use mathlib.Core.Logic.{inl, inr, ◌↔◌, ⊎_elim}
use mathlib.Core.Bool.{Bool, true, false, cond}
use mathlib.Core.List.{List, [], ◌∷◌}
use native.Mathlib.Omega.{arith}
use lib.ListN.{length}
use lib.Dec.{leb}
use Rattle.wiring.specs.FrameDefinitions.{bytes_for, Result, refused, good, then, refusal, RefusesExactly}
use Rattle.files.specs.Lists.{up_to}
use Rattle.files.specs.Domain.{Domain}
use Rattle.files.specs.declared.Setting.{Setting}
use Rattle.files.specs.File.{domain_read}
use Rattle.wiring.specs.phys.PhyCauses.{wired_domain}
use Rattle.wiring.specs.graph.Graph.{loopfree}
use Rattle.wiring.specs.graph.Neighbours.{neighbours}
use Rattle.wiring.specs.graph.LongChains.{chains_within, unlong}
use Rattle.wiring.specs.graph.LinkCauses.{unlooped, joined, joined_in, linked_domain}
use Rattle.files.proofs.CallResults.{never, then-good, good-then}
use Rattle.wiring.proofs.WiredAndLinked.{passed_iff}
use Rattle.files.proofs.ReadDomain.{read-good, read-numbered}
pub use Rattle.wiring.proofs.WiringRefusals.{Numbered, numbered-unless, numbered-then, exactly}
use Rattle.wiring.proofs.WiringRefusals.{first-numbered, wired-numbered}
use Rattle.tables.specs.filling.Tables.{table_places, tables, needed}
use Rattle.tables.specs.filling.Entries.{Entries, Room, room_of, Enough, put_before}
use Rattle.tables.specs.JudgingCall.{overlong, judged_domain, judged, expanders_in, tables_for, judged_tables, table_call, counts_in, tables_after, TablesDone}
use Rattle.tables.specs.declared.Counted.{Counted}
use Rattle.tables.specs.TableCauses.{Routable, NoJudgingCause, NoTableCause, judging_number, table_number}
use Rattle.tables.proofs.AcceptedDomains.{judged-routable, routable_iff, tables-same, judged-file, table_call_iff}

-- causes 11, 12, 23 and 14 refuse with their numbers
joined-numbered : (P : ℕ → Type 0) (l : List ℕ) (d : Domain) → P 12 → Numbered P (joined_in l d)
unfolding joined_in
joined-numbered P [] d h = tt
joined-numbered P (i ∷ l) d h = go (joined d i) (joined-numbered P l d h)
  where
    go : (b : Bool) → Numbered P (joined_in l d) → Numbered P (cond b (joined_in l d) (refused (refusal 12 i 0)))
    go true r = r
    go false r = h

linked-numbered : (P : ℕ → Type 0) → P 11 → P 12 → P 23 → (chain : ℕ) (d : Domain) → Numbered P (linked_domain chain d)
unfolding linked_domain unlooped unlong
linked-numbered P a b c chain d =
    numbered-then P (unlooped d) _
    (numbered-unless P (loopfree (length d) (neighbours d)) (refusal 11 0 0) (good d) a tt)
    (λ _. numbered-then P (joined_in (up_to (length d)) d) _ (joined-numbered P (up_to (length d)) d b)
    (λ _. numbered-unless P (chains_within chain d) (refusal 23 0 0) (good d) c tt))

-- so judging refuses a domain with a number from 7 to 12, 14 or 23
pub domain-numbered : (P : ℕ → Type 0) → ((n : ℕ) → 7 ≤ n → n ≤ 12 → P n) → P 14 → P 23 → (chain : ℕ) (d : Domain) → Numbered P (judged_domain chain d)
unfolding judged_domain
domain-numbered P h a b chain d =
    numbered-then P (wired_domain d) _ (wired-numbered P (λ n k l. h n k (omega arith)) d)
    (λ _. numbered-then P (linked_domain chain d) _ (linked-numbered P (h 11 (omega arith) (omega arith)) (h 12 (omega arith) (omega arith)) b chain d)
    (λ _. first-numbered P 14 (overlong d) _ d a))

pub judged-numbered : (P : ℕ → Type 0) → ((n : ℕ) → judging_number n → P n) → (setting : Setting) (file : List ℕ) → Numbered P (judged setting file)
judged-numbered P h setting file =
    numbered-then P (domain_read setting file) (judged_domain setting.chain)
    (read-numbered setting file P (λ n. ⊎_elim (λ k. h n (inl (k.0, omega arith))) (λ k. h n (inr (inr (inl k))))))
    (λ d. domain-numbered P (λ n a b. h n (inl (omega arith, omega arith))) (h 14 (inr (inl refl))) (h 23 (inr (inr (inr refl)))) setting.chain d)

-- a file is accepted exactly when none of its causes holds
pub judged_causes : (setting : Setting) (file : List ℕ) (d : Domain) → judged setting file ≡ good d → (c : NoJudgingCause setting file) × (c.domain ≡ d)
judged_causes setting file d j =
    let e = (judged-file setting file d).0 j in
    let r = judged-routable setting.chain d d e.1 in
    (record { domain = d; range = (read-good setting file d e.0).range; read = e.0; passed = (passed_iff d).0 r.1; routable = r.2 }, refl)

pub causes_judged : (setting : Setting) (file : List ℕ) (c : NoJudgingCause setting file) → judged setting file ≡ good c.domain
causes_judged setting file c =
    let d = c.domain in
    (judged-file setting file d).1 (c.read, (routable_iff setting.chain d ((passed_iff d).1 c.passed)).1 c.routable)

-- the judging call answers exactly when none of its causes holds, and refuses with no other number
pub judging-exactly : (setting : Setting) (file : List ℕ) (answer : Result ℕ) → answer ≡ then (judged setting file) expanders_in
    → RefusesExactly answer (NoJudgingCause setting file) judging_number
judging-exactly setting file answer q =
    exactly judging_number answer (then (judged setting file) expanders_in) (NoJudgingCause setting file) q
    (numbered-then judging_number (judged setting file) expanders_in (judged-numbered judging_number (λ n h. h) setting file) (λ d. tt))
    (λ n e. let a = then-good (judged setting file) expanders_in n e in (judged_causes setting file a.0 a.1).0)
    (λ c. (length c.domain, good-then (judged setting file) expanders_in c.domain (length c.domain) (causes_judged setting file c) refl))

-- the table call answers counts exactly when its outcome is no refusal
pub counts_iff : (outcome : Result Domain) (answer : Result Counted) (before after : Entries) → TablesDone outcome answer before after
    → ((t w : ℕ) × (answer ≡ good (record { table_count = t; word_count = w }))) ↔ ((d : Domain) × (outcome ≡ good d))
counts_iff outcome (refused r) before after o = (
  λ c. let z : ◌≡◌ {A = ℕ} 0 1 = cc in absurd (omega arith),
  λ c. never r _ (o.answers ∙ ap (λ x. then x counts_in) c.1),
)
counts_iff outcome (good n) before after o = (
  λ c. let a = then-good outcome counts_in n (sym o.answers) in (a.0, a.1),
  λ c. (n.table_count, n.word_count, refl),
)

-- a table call on domain d that answered counts: there was room, and it left the tables of d, their bits, and what was lent after them
pub record TablesOf (chain : ℕ) (d : Domain) (before after : Entries) : Type 0 where
  pub routable : Routable chain d
  pub enough : Enough (needed d) (room_of before)
  pub left : after ≡ put_before (tables d) before

pub tables-of : (chain : ℕ) (d : Domain) (t w : ℕ) (before after : Entries) → TablesDone (judged_tables chain d (room_of before)) (good (record { table_count = t; word_count = w })) before after
    → TablesOf chain d before after
tables-of chain d t w before after o =
    let c = (counts_iff (judged_tables chain d (room_of before)) (good (record { table_count = t; word_count = w })) before after o).0 (t, w, refl) in
    let s = tables-same chain d c.0 (room_of before) c.1 in
    record { routable = s.1; enough = s.2; left = o.left ∙ ap (λ x. tables_after x before) (c.1 ∙ ap good (sym s.0)) }

-- the table call answers exactly when none of its causes holds, and refuses with no other number
pub tables-exactly : (setting : Setting) (file : List ℕ) (before after : Entries) (answer : Result Counted) → TablesDone (table_call setting file (room_of before)) answer before after
    → RefusesExactly answer (NoTableCause setting file (room_of before)) table_number
unfolding table_call
tables-exactly setting file before after answer t =
    exactly table_number answer (then (table_call setting file room) counts_in) (NoTableCause setting file room) t.answers numbered from to
  where
    room : Room
    room = room_of before

    numbered : Numbered table_number (then (table_call setting file room) counts_in)
    numbered =
        numbered-then table_number (table_call setting file room) counts_in
        (numbered-then table_number (judged setting file) (tables_for room) (judged-numbered table_number (λ n h. inl h) setting file)
        (λ d. numbered-unless table_number (leb (needed d) room.words) (refusal 16 0 0) _ (inr (inl refl))
        (numbered-unless table_number (leb (bytes_for (needed d)) room.bits) (refusal 18 0 0) (good d) (inr (inr refl)) tt)))
        (λ d. tt)

    from : (n : Counted) → then (table_call setting file room) counts_in ≡ good n → NoTableCause setting file room
    from n e =
        let a = then-good (table_call setting file room) counts_in n e in
        let b = (table_call_iff setting file a.0 room).0 a.1 in
        let c = judged_causes setting file a.0 b.0 in
        record { judging = c.0; enough = subst (λ d. Enough (needed d) room) (sym c.1) b.1 }

    to : NoTableCause setting file room → (n : Counted) × (then (table_call setting file room) counts_in ≡ good n)
    to c =
        let d = c.judging.domain in
        let n : Counted = record { table_count = length (table_places d); word_count = needed d } in
        (n, good-then (table_call setting file room) counts_in d n ((table_call_iff setting file d room).1 (causes_judged setting file c.judging, c.enough)) refl)
