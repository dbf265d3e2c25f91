-- Which domains are accepted, and when tables are given: over domains, and then of files.
use mathlib.Core.Path.{◌≡◌, sym, ap, subst, ◌∙◌}
use mathlib.Core.Logic.{◌↔◌, by_cases}
use mathlib.Core.List.{List}
use Prim.Native.Nat.{ℕ, ◌<◌}
use native.Mathlib.Omega.{arith}
use native.Mathlib.Decide.{dec_lt}
use lib.ListN.{length}
use lib.Dec.{T, leb, lt→ltb, ltb→lt, leb→le, le→leb}
use Rattle.wiring.specs.FrameDefinitions.{bytes_for, Result, good, then, refusal}
use Rattle.files.specs.declared.Setting.{Setting}
use Rattle.files.specs.Domain.{Domain, expander_at}
use Rattle.files.specs.ReadDomain.{Read}
use Rattle.files.specs.File.{domain_read}
use Rattle.wiring.specs.phys.PhyCauses.{wired_domain}
use Rattle.wiring.specs.graph.LinkCauses.{linked_domain}
use Rattle.files.proofs.ListMembers.{tests}
use Rattle.wiring.proofs.phys.WiredPhys.{Wired}
use Rattle.files.proofs.Domains.{attribute-range}
use Rattle.files.proofs.CallResults.{good-one, unless-good, good-unless, then-good, good-then, then_same}
use Rattle.files.proofs.ReadDomain.{read-good}
use Rattle.wiring.proofs.WiredAndLinked.{first_of-good, good-first_of, wired-same, wired_iff, linked_iff, linked-same}
use Rattle.tables.specs.filling.Tables.{level_list, needed}
use Rattle.tables.specs.filling.Entries.{Room, Enough}
use Rattle.tables.specs.JudgingCall.{overlong, judged_domain, judged, tables_for, judged_tables, table_call}
use Rattle.tables.specs.TableCauses.{Routable}

overlong-range : (d : Domain) (i p : ℕ) → T (overlong d i p) → p < length (expander_at d i).phys
unfolding overlong
overlong-range d i p t = attribute-range d 2 i p (search tests) (omega arith)

-- causes 7 to 12, 23 and 14 leave a domain as it is, wired and routable
pub judged-routable : (chain : ℕ) (d e : Domain) → judged_domain chain d ≡ good e → (d ≡ e) × (wired_domain d ≡ good d) × Routable chain d
unfolding judged_domain overlong
judged-routable chain d e f =
    let a = then-good (wired_domain d) _ e f in
    let b = then-good (linked_domain chain d) _ e a.2 in
    let l = (linked_iff chain d).0 (b.1 ∙ ap good (sym (linked-same chain d b.0 b.1))) in
    let c = first_of-good 14 (overlong d) d e (overlong-range d) b.2 in (
      c.0,
      a.1 ∙ ap good (sym (wired-same d a.0 a.1)),
      record {
        linked = l.0;
        short = l.1;
        fits = λ i p t. by_cases (dec_lt (expander_at d i).route_indexes (length (level_list d i p)))
            (λ h. absurd (c.1 i p (search (tests, lt→ltb)))) (λ h. omega arith);
      },
    )

routable-judged : (chain : ℕ) (d : Domain) → wired_domain d ≡ good d → Routable chain d → judged_domain chain d ≡ good d
unfolding judged_domain overlong
routable-judged chain d e r =
    good-then (wired_domain d) _ d d e
    (good-then (linked_domain chain d) _ d d ((linked_iff chain d).1 (r.linked, r.short))
    (good-first_of 14 (overlong d) d (λ i p t.
    let u = r.fits i p (search tests) in
    let v : (expander_at d i).route_indexes < length (level_list d i p) = search (tests, ltb→lt) in omega arith)))

-- over domains: past causes 7 to 10 a domain is accepted exactly when it is routable
pub routable_iff : (chain : ℕ) (d : Domain) → wired_domain d ≡ good d → (judged_domain chain d ≡ good d) ↔ Routable chain d
routable_iff chain d e = (λ j. (judged-routable chain d d j).2, routable-judged chain d e)

-- a domain that is read is accepted exactly when it is wired and routable
pub accepted_iff : (most : Setting) (d : Domain) → Read most d → (chain : ℕ) → (judged_domain chain d ≡ good d) ↔ (Wired d × Routable chain d)
accepted_iff most d g chain = (
  λ j. let r = judged-routable chain d d j in ((wired_iff most d g).0 r.1, r.2),
  λ w. routable-judged chain d ((wired_iff most d g).1 w.0) w.1,
)

-- past 16 and 18 there is enough room, and only then
room-good : (room : Room) (a d : Domain) → tables_for room a ≡ good d → (a ≡ d) × Enough (needed a) room
room-good room a d e =
    let x = unless-good (leb (needed a) room.words) (refusal 16 0 0) _ d e in
    let y = unless-good (leb (bytes_for (needed a)) room.bits) (refusal 18 0 0) (good a) d x.1 in
    (good-one a d y.1, record { words = leb→le (needed a) room.words x.0; bits = leb→le (bytes_for (needed a)) room.bits y.0 })

good-room : (room : Room) (d : Domain) → Enough (needed d) room → tables_for room d ≡ good d
good-room room d h =
    good-unless (leb (needed d) room.words) (refusal 16 0 0) _ (le→leb (needed d) room.words h.words)
    ∙ good-unless (leb (bytes_for (needed d)) room.bits) (refusal 18 0 0) (good d) (le→leb (bytes_for (needed d)) room.bits h.bits)

-- tables are given exactly when what was judged is accepted and there is room
pub tables_iff : (x : Result Domain) (room : Room) (d : Domain) → (then x (tables_for room) ≡ good d) ↔ ((x ≡ good d) × Enough (needed d) room)
tables_iff x room d = (λ c. let a = s.0 c in (a.0, (room-good room d d a.1).1), λ j. s.1 (j.0, good-room room d j.1))
  where
    s : (then x (tables_for room) ≡ good d) ↔ ((x ≡ good d) × (tables_for room d ≡ good d))
    s = then_same x (tables_for room) d (λ a e. (room-good room a d e).0)

-- on a domain the table call gives that domain's tables, or none
pub tables-same : (chain : ℕ) (d e : Domain) (room : Room) → judged_tables chain d room ≡ good e → (d ≡ e) × Routable chain d × Enough (needed d) room
tables-same chain d e room f =
    let a = (tables_iff (judged_domain chain d) room e).0 f in
    let r = judged-routable chain d e a.0 in
    (r.0, r.2, subst (λ x. Enough (needed x) room) (sym r.0) a.1)

-- which files are accepted, and when tables are given for them
module _ (setting : Setting) (file : List ℕ) (d : Domain) where
  -- an accepted file reads as a domain that is accepted
  pub judged-file : (judged setting file ≡ good d) ↔ ((domain_read setting file ≡ good d) × (judged_domain setting.chain d ≡ good d))
  judged-file = then_same (domain_read setting file) (judged_domain setting.chain) d (λ a j. (judged-routable setting.chain a d j).0)

  pub judged_wires : judged setting file ≡ good d → Wired d × Routable setting.chain d
  judged_wires j = let r = judged-file.0 j in (accepted_iff setting d (read-good setting file d r.0) setting.chain).0 r.1

  pub table_call_iff : (room : Room) → (table_call setting file room ≡ good d) ↔ ((judged setting file ≡ good d) × Enough (needed d) room)
  unfolding table_call
  table_call_iff room = tables_iff (judged setting file) room d

  -- the table call on a file is that on the domain that it reads as
  pub table-call : domain_read setting file ≡ good d → (room : Room) → table_call setting file room ≡ judged_tables setting.chain d room
  unfolding table_call
  table-call e room = ap (λ x. then (then x (judged_domain setting.chain)) (tables_for room)) e
