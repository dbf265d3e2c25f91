-- Demand 3, whole: over a domain that is read, under any setting, and past causes 7 to 10; and over a domain file.
use mathlib.Core.Path.{◌≡◌, refl, sym, ap, subst, ◌∙◌}
use mathlib.Core.Logic.{inl, inr, ◌↔◌}
use mathlib.Core.List.{List, [], ◌∷◌, ◌++◌}
use Prim.Native.Nat.{ℕ, ◌<◌}
use lib.ListN.{length, take, drop}
use lib.Seq.{take_at}
use Rattle.tables.specs.WiringDefinitions.{bits_of, marked, Result, good, then, Distinct, Below, Setting, Domain, Read, wired_domain, wired}
use Rattle.tables.specs.WiringDefinitions.{NoTableToTable, Home, Borne}
use Rattle.tables.specs.filling.Tables.{tables, needed}
use Rattle.tables.specs.filling.Entries.{Entries, Room, room_of, Enough, counted_by, counted}
use Rattle.tables.specs.declared.Counted.{Counted}
use Rattle.tables.specs.JudgingCall.{judged_domain, tables_for, judged_tables, table_call, TablesDone}
use Rattle.tables.specs.TableCauses.{Routable}
use Rattle.tables.proofs.WiringLemmas.{good-one, then-good, Wired, read-good, wired_iff, wired-file}
use Rattle.tables.proofs.levels.LevelsBeyond.{all-clear}
use Rattle.tables.proofs.filling.CountedWords.{counted-put}
use Rattle.tables.proofs.filling.TableLengths.{tables-length}
use Rattle.tables.proofs.AcceptedDomains.{judged-routable, routable_iff, tables_iff, tables-same}
use Rattle.tables.proofs.TableRefusals.{counts_iff, tables-of}
use Rattle.tracing.specs.declared.Outcome.TheVariants.{Arrived, NoDestination, BadDestination}
use Rattle.tracing.specs.declared.End.{End}
use Rattle.tracing.specs.Trace.{Traced, Request, ending_at, traced, requested, trace_call, Reported, report, bytes_after, traced_request, judged_request}
use Rattle.tracing.specs.TraceCauses.{Asks}
use Rattle.tracing.specs.Demand3.{Starts, ForItself, Uncrossed, EndsAt, StepsTaken, Delivered, ToldBad, TracedOver, OverTables, Mission, Demand3}
use Rattle.tracing.proofs.RequestCauses.{requested_iff}
use Rattle.tracing.proofs.NeverTwice.{passes-once, passes-below, steps-taken, bad-itself}
use Rattle.tracing.proofs.Arrival.{tables-given, traced-borne, joined-all, one-chain, traced-arrives, ends_nowhere}

-- where a request ends, its address is borne
pub ends_home : (d : Domain) (s m p : ℕ) → EndsAt d s m p → Home d s m
ends_home d s m p (inl e) = inl e.0
ends_home d s m p (inr e) = inr (p, e.0, e.1)

-- every phy identifier is below 255: arrival phy 255 is the expander itself
module _ (most : Setting) (d : Domain) (read : Read most d) (past : wired_domain d ≡ good d) (chain : ℕ) where
  w : Wired d
  w = (wired_iff most d read).0 past

  -- a request over entries with so much room, whose words that count are these: the domain is accepted, the request passes causes 15 to 18,
  -- and the answer and the bytes are those of its trace
  record Answer (words : List ℕ) (room : Room) (q : Request) (e : End) (lent after : List ℕ) : Type 0 where
    routable : Routable chain d
    asks : Asks q room (length lent) d
    outcome : e.outcome ≡ (traced d words q).outcome
    end : e.last.0 ≡ (traced d words q).last
    phy : e.phy.0 ≡ (traced d words q).phy
    count : e.count ≡ length (traced d words q).passed
    bytes : after ≡ (traced d words q).passed ++ drop (length (traced d words q).passed) lent

  answer : (t : Entries) (q : Request) (e : End) (lent after : List ℕ) → TracedOver d (judged_tables chain d) (judged_request chain d) t q e lent after
      → Answer (counted t) (room_of t) q e lent after
  unfolding judged_request traced_request
  answer r q e lent after o =
      let n : Reported = record { outcome = e.outcome; last = e.last.0; phy = e.phy.0; count = e.count } in
      let a = then-good (judged_request chain d r (length lent) q) report n (sym o.answers) in
      let b = then-good (judged_domain chain d) _ a.0 a.1 in
      let k = judged-routable chain d b.0 b.1 in
      let c = then-good (requested q (room_of r) (length lent) b.0) _ a.0 b.2 in
      let t = traced d (counted r) q in
      let f : requested q (room_of r) (length lent) d ≡ good c.0 = ap (requested q (room_of r) (length lent)) k.0 ∙ c.1 in
      let g : a.0 ≡ t = sym (good-one (traced b.0 (counted r) q) a.0 c.2) ∙ ap (λ x. traced x (counted r) q) (sym k.0) in
      let m : record { outcome = t.outcome; last = t.last; phy = t.phy; count = length t.passed } ≡ n =
      good-one _ n (ap report (sym g) ∙ a.2) in
      record {
        routable = k.2;
        asks = (requested_iff (room_of r) (length lent) q d).0 (c.0, f);
        outcome = sym (ap (λ x. x.outcome) m);
        end = sym (ap (λ x. x.last) m);
        phy = sym (ap (λ x. x.phy) m);
        count = sym (ap (λ x. x.count) m);
        bytes = o.bytes ∙ ap (λ x. bytes_after x lent) (a.1 ∙ ap good g);
      }

  module _ (words : List ℕ) (room : Room) (q : Request) (e : End) (lent after : List ℕ) (a : Answer words room q e lent after) where
    -- the bytes counted are the expanders passed
    bytes_are : take e.count after ≡ (traced d words q).passed
    bytes_are =
        let l = (traced d words q).passed in
        ap (take e.count) a.bytes ∙ take_at l (drop (length l) lent) e.count (sym a.count)

    passes_different : (length (take e.count after) ≡ e.count) × (Distinct (take e.count after) × Below (length d) (take e.count after))
    passes_different =
        let nl = a.routable.linked.no_loop in
        let h = a.asks.start in
        let k = ap length bytes_are ∙ sym a.count in (
          k,
          subst (λ l. Distinct l × Below (length d) l) (sym bytes_are)
              (passes-once d w words q.address nl q.start q.arrival h, passes-below d w words q.address nl q.start q.arrival h),
        )

    takes_steps : StepsTaken d words q (take e.count after) e.outcome e.last.0 e.phy.0
    takes_steps =
        let s = steps-taken d w words q.address a.routable.linked.no_loop q.start q.arrival a.asks.start in
        rw (bytes_are, a.outcome, a.end, a.phy) s

    -- a request that arrives arrives where the address is borne
    arrived_borne : e.outcome ≡ Arrived → (e.last.0 < length d) × EndsAt d q.address e.last.0 e.phy.0
    arrived_borne f = rw (a.end, a.phy) (traced-borne d w words q.address q.start q.arrival a.asks.start (sym a.outcome ∙ f))

    told-bad : ForItself d q → ToldBad q e lent after
    told-bad s =
        let t : traced d words q ≡ ending_at BadDestination q.start 255 = bad-itself d w words q.address q.start q.arrival s.0 s.1 in
        record {
          outcome = a.outcome ∙ ap (λ x. x.outcome) t;
          end = a.end ∙ ap (λ x. x.last) t;
          phy = a.phy ∙ ap (λ x. x.phy) t;
          count = a.count ∙ ap (λ x. length x.passed) t;
          bytes = a.bytes ∙ ap (λ x. x.passed ++ drop (length x.passed) lent) t;
        }

  -- with room, the table call answers counts exactly when the domain is routable
  counts-routable : (before filled : Entries) (answer : Result Counted) → Enough (needed d) (room_of before)
      → TablesDone (judged_tables chain d (room_of before)) answer before filled → ((t w : ℕ) × (answer ≡ good (record { table_count = t; word_count = w }))) ↔ Routable chain d
  counts-routable before filled answer h o =
      let c = counts_iff (judged_tables chain d (room_of before)) answer before filled o in (
        λ g. let x = c.0 g in (tables-same chain d x.0 (room_of before) x.1).1,
        λ r. c.1 (d, (tables_iff (judged_domain chain d) (room_of before) d).1 ((routable_iff chain d past).1 r, h)),
      )

  -- a request over the tables given
  module _ (q : Request) (e : End) (lent after : List ℕ) (o : OverTables d (judged_tables chain d) (judged_request chain d) q e lent after) where
    -- what counts of the words after the tables
    abbrev rest : List ℕ
    rest = counted_by (drop (length (tables d)) (bits_of (marked (tables d) o.before.bits))) (drop (length (tables d)) o.before.words)

    -- the words that count are the tables, and what counts after them
    words_are : counted o.filled ≡ tables d ++ rest
    words_are =
        let u = tables-of chain d o.table_count o.word_count o.before o.filled o.given in
        ap counted u.left ∙ counted-put (tables d) o.before (rw (tables-length d) u.enough.bits)

    a : Answer (tables d ++ rest) (room_of o.filled) q e lent after
    a = subst (λ l. Answer l (room_of o.filled) q e lent after) words_are (answer o.filled q e lent after o.over)

    delivered : Uncrossed d q → Starts d q → (m : ℕ) → m < length d → Home d q.address m → Delivered d q m e lent after
    delivered un st m k home =
        let r = a.routable in
        let i = q.start in
        let c = joined-all d w r i m a.asks.start k in
        let clear = un m k home (i ∷ c.0) (refl, c.1) in
        let u = traced-arrives d w r (tables d ++ rest) (tables-given d rest) q.address a.asks.nonzero i q.arrival m a.asks.start st k home
        (i ∷ c.0) (refl, c.1) clear in
        record {
          outcome = a.outcome ∙ u.outcome;
          end = a.end ∙ u.last;
          phy = subst (EndsAt d q.address m) (sym a.phy) u.phy;
          passed = i ∷ c.0;
          chain = (refl, c.1);
          only = λ l f. one-chain d w r i m l (i ∷ c.0) f (refl, c.1);
          count = a.count ∙ ap length u.passed;
          bytes = a.bytes ∙ ap (λ l. l ++ drop (length l) lent) u.passed;
        }

    arrives_iff : Uncrossed d q → Starts d q → (e.outcome ≡ Arrived) ↔ Borne d q.address
    arrives_iff un st = (
      λ f. let b = arrived_borne (tables d ++ rest) (room_of o.filled) q e lent after a f in (e.last.0, b.0, ends_home d q.address e.last.0 e.phy.0 b.1),
      λ b. (delivered un st b.0 b.1 b.2).outcome,
    )

    nobody-bears : ¬ (Borne d q.address) → e.outcome ≡ NoDestination
    nobody-bears b =
        a.outcome
        ∙ ends_nowhere d w a.routable (tables d ++ rest) (tables-given d rest) q.address a.asks.nonzero q.start q.arrival a.asks.start b

  -- of the table call and the trace call on the domain
  pub demand3 : Demand3 d (judged_tables chain d) (judged_request chain d) chain
  demand3 = record {
    given = counts-routable;
    mission = λ q e lent after o un. record { arrives = arrives_iff q e lent after o un; along = delivered q e lent after o un; otherwise = nobody-bears q e lent after o };
    borne = λ t q e lent after o. arrived_borne (counted t) (room_of t) q e lent after (answer t q e lent after o);
    once = λ t q e lent after o. passes_different (counted t) (room_of t) q e lent after (answer t q e lent after o);
    steps = λ t q e lent after o. takes_steps (counted t) (room_of t) q e lent after (answer t q e lent after o);
    itself = λ t q e lent after o. told-bad (counted t) (room_of t) q e lent after (answer t q e lent after o);
  }

-- where the domain has no table-to-table link, every request over the tables given ends as in the mission
pub demand3-clear : (d : Domain) (table_called : Room → Result Domain) (trace_called : Entries → ℕ → Request → Result Traced) (chain : ℕ)
    → Demand3 d table_called trace_called chain
    → NoTableToTable d → (q : Request) (e : End) (lent after : List ℕ) → OverTables d table_called trace_called q e lent after
    → Mission d q e lent after
demand3-clear d table_called trace_called chain c n q e lent after o = c.mission q e lent after o uncrossed
  where
    uncrossed : Uncrossed d q
    uncrossed m k home [] f = absurd f
    uncrossed m k home (i ∷ l) f = all-clear d n i l

-- demand 3 of the table call and the trace call on a file that reads as x
abbrev FromFile : ℕ → Domain → Result Domain → Type 0
FromFile chain d x =
    Demand3 d (λ room. then (then x (judged_domain chain)) (tables_for room))
    (λ t bytes q. then (then x (judged_domain chain)) (λ y. traced_request y t bytes q)) chain

-- a file past causes 22 and 1 to 10, under any setting: demand 3 of what `give_tables` and `trace` promise of it
pub demand3-file : (setting : Setting) (file : List ℕ) (d : Domain) → wired setting file ≡ good d
    → Demand3 d (table_call setting file) (trace_call setting file) setting.chain
unfolding table_call trace_call judged_request
demand3-file setting file d e =
    let r = (wired-file setting file d).0 e in
    subst (FromFile setting.chain d) (sym r.0) (demand3 setting d (read-good setting file d r.0) r.1 setting.chain)
