-- Arrival across the bench, over what the join call, the table call and the trace call promise: where neither file has a table-to-table link, a request
-- from any device of either rig arrives exactly when a device of either bears the address.
use mathlib.Core.Path.{◌≡◌, sym, ap, ap₂, subst, ◌∙◌}
use mathlib.Core.Logic.{◌⊎◌, inl, inr, ◌↔◌, ⊎_elim, by_cases}
use mathlib.Core.Bool.{cond}
use mathlib.Core.List.{List}
use Prim.Native.Nat.{ℕ, ◌+◌, ◌-◌, ◌<◌}
use native.Mathlib.Decide.{ℕ_discrete, dec_lt}
use native.Mathlib.Nat.{zero-add}
use native.Mathlib.Omega.{arith}
use lib.ListN.{length, get_or, take, drop}
use lib.Dec.{T, eqb}
use Rattle.frames.specs.Bits.{bits_of}
use Rattle.frames.specs.Refusals.{Result, good, then}
use Rattle.files.specs.declared.Setting.{Setting}
use Rattle.files.specs.Domain.{Domain, phy_at, address_of, to_end}
use Rattle.files.specs.ReadDomain.{Bytes}
use Rattle.files.proofs.CallResults.{then-good}
use Rattle.files.proofs.Domains.{end-attached}
use Rattle.files.proofs.ReadDomain.{read-good}
use Rattle.wiring.specs.graph.Devices.{Home, Borne, NoTableToTable}
use Rattle.wiring.specs.phys.PhyCauses.{wired}
use Rattle.wiring.proofs.WiredAndLinked.{wired-file}
use Rattle.tables.specs.filling.Entries.{Entries, Room, room_of, Enough, put_before, counted}
use Rattle.tables.specs.filling.Tables.{table_places, tables, needed}
use Rattle.tables.specs.JudgingCall.{judged, table_call, counts_in, tables_after, TablesDone}
use Rattle.tables.proofs.filling.CountedWords.{counted-length, counted-at}
use Rattle.tables.proofs.filling.TableStretches.{index_for_index-file}
use Rattle.tables.proofs.AcceptedDomains.{judged-routable, judged-file, judged_wires, table_call_iff}
use Rattle.tracing.specs.Demand3.{Starts, OverTables, Delivered, Mission}
use Rattle.tracing.specs.Trace.{Traced, Request, request, requested, trace_call, report, traced_request, TraceDone}
use Rattle.tracing.specs.declared.End.{End}
use Rattle.tracing.proofs.RequestCauses.{requested_iff}
use Rattle.tracing.proofs.Demand3.{demand3-file, demand3-clear}
use Rattle.benches.specs.AcrossBench.{OneAfterOther, GivenFor, BenchEntries, filled_anew, brought_along, FromEither, AcrossBench}
use Rattle.benches.specs.Bytes.{joined_file}
use Rattle.benches.specs.JoinCall.{join_call, JoinDone}
use Rattle.benches.specs.JoinConditions.{Free, Joinable}
use Rattle.benches.specs.Joined.{joined}
use Rattle.benches.proofs.PartsOfJoined.{Part, Stands, attached-stays, joined_length, first_part, second-part, first_stands, second_stands}
use Rattle.benches.proofs.JoinedDomains.{joined-clear, first_home, second_home}
use Rattle.benches.proofs.JoinedAccepted.{phy-few}
use Rattle.benches.proofs.JoinRefusals.{Conditions, join_written}
use Rattle.benches.proofs.JoinedEntries.{accepted, joined-entries}
use Rattle.benches.proofs.TracesAlike.{traced-alike}

-- a device of the joined domain is a device of the part where it stands
home_lower : (d e : Domain) (k x y a b s m : ℕ) → Part d e k x y a b → m < length d → Home e s (k + m) → Home d s m
home_lower d e k x y a b s m part h (inl o) = inl (sym (part.address m h) ∙ o)
home_lower d e k x y a b s m part h (inr o) = by_cases (ℕ_discrete m x)
    (λ f. by_cases (ℕ_discrete o.0 y)
    (λ g. absurd (subst (λ φ. T (to_end φ)) part.cabled (subst (λ v. T (to_end (phy_at e (k + x) v))) g (subst (λ v. T (to_end (phy_at e (k + v) o.0))) f o.1))))
    (λ g. there (part.other m o.0 h (λ u. g u.1))))
    (λ f. there (part.other m o.0 h (λ u. f u.0)))
  where
    there : phy_at e (k + m) o.0 ≡ phy_at d m o.0 → Home d s m
    there u = inr (o.0, subst (λ φ. T (to_end φ)) u o.1, ap address_of (sym u) ∙ o.2)

-- a request from a device of a part
start_lift : (d e : Domain) (k x y m : ℕ) (r : Request) → Stands d e k x y → Free d x y → m < length d → r.start ≡ k + m
    → Starts d (request m r.arrival r.address) → Starts e r
start_lift d e k x y m r st f h n (inl o) = inl o
start_lift d e k x y m r st f h n (inr o) =
    let a : phy_at e r.start r.arrival ≡ phy_at d m r.arrival =
    ap (λ v. phy_at e v r.arrival) n ∙ attached-stays d e k x y m r.arrival st f h (end-attached (phy_at d m r.arrival) o.0) in
    inr (subst (λ φ. T (to_end φ)) (sym a) o.0, λ u. o.1 (ap address_of (sym a) ∙ u))

module _ (d₁ : Domain) (i p : ℕ) (d₂ : Domain) (j q : ℕ) (c : Joinable d₁ i p d₂ j q) where
  abbrev bench : Domain
  bench = joined d₁ i p d₂ j q

  -- a device of the bench is a device of either rig, and one of either rig a device of the bench
  pub bench-borne : (s : ℕ) → Borne bench s ↔ (Borne d₁ s ⊎ Borne d₂ s)
  bench-borne s = (
    there,
    ⊎_elim
        (λ a. let h = a.1 in (0 + a.0, (let l = joined_length d₁ i p d₂ j q in omega arith), first_home d₁ i p d₂ j q s a.0 c.first a.1 a.2))
        (λ a. let h = a.1 in (length d₁ + a.0, (let l = joined_length d₁ i p d₂ j q in omega arith), second_home d₁ i p d₂ j q s a.0 c.second a.1 a.2)),
  )
    where
      there : Borne bench s → Borne d₁ s ⊎ Borne d₂ s
      there b = by_cases (dec_lt b.0 (length d₁))
          (λ h. inl (b.0, h, home_lower d₁ bench 0 i p _ _ s b.0 (first_part d₁ i p d₂ j q c) h (subst (Home bench s) (sym (zero-add b.0)) b.2)))
          (λ h. let l = joined_length d₁ i p d₂ j q in
          let n = b.1 in
          let k : b.0 ≡ length d₁ + (b.0 - length d₁) = omega arith in
          let m : b.0 - length d₁ < length d₂ = omega arith in
          inr (b.0 - length d₁, m, home_lower d₂ bench (length d₁) j q _ _ s (b.0 - length d₁) (second-part d₁ i p d₂ j q c) m (subst (Home bench s) k b.2)))

  bench-starts : (r : Request) → FromEither d₁ d₂ r → Starts bench r
  bench-starts r (inl o) = start_lift d₁ bench 0 i p r.start r (first_stands d₁ i p d₂ j q c.first) c.first o.0 (sym (zero-add r.start)) o.1
  bench-starts r (inr o) = start_lift d₂ bench (length d₁) j q o.0 r (second_stands d₁ i p d₂ j q c.second) c.second o.1 o.2 o.3

  -- the mission on the joined domain, in the terms of the two rigs
  across : (r : Request) (e : End) (lent after : List ℕ) → Mission bench r e lent after → AcrossBench d₁ d₂ bench r e lent after
  across r e lent after o = record {
    mission = o;
    arrives = λ st. let a = o.arrives (bench-starts r st) in let b = bench-borne r.address in (λ x. b.0 (a.0 x), λ x. a.1 (b.1 x));
    to_first = λ st m h x. subst (λ v. Delivered bench r v e lent after) (zero-add m) (o.along (bench-starts r st) (0 + m) (let l = joined_length d₁ i p d₂ j q in omega arith) (first_home d₁ i p d₂ j q r.address m c.first h x));
    to_second = λ st m h x. o.along (bench-starts r st) (length d₁ + m) (let l = joined_length d₁ i p d₂ j q in omega arith) (second_home d₁ i p d₂ j q r.address m c.second h x);
    otherwise = λ u v. o.otherwise (λ b. ⊎_elim u v ((bench-borne r.address).0 b));
  }

-- entries that are the same ones one after the other are alike in those words and bits
alike_at : (n₁ n₂ n m : ℕ) (one other a b : Entries) → OneAfterOther n₁ n₂ n one other a → OneAfterOther n₁ n₂ m one other b → (k : ℕ) → k < n
    → (get_or a.words k 0 ≡ get_or b.words k 0) × (get_or (bits_of a.bits) k 0 ≡ get_or (bits_of b.bits) k 0)
alike_at n₁ n₂ n m one other a b x y k h = by_cases (dec_lt k n₁)
    (λ l. (x.first_word k l ∙ sym (y.first_word k l), x.first_bit k l ∙ sym (y.first_bit k l)))
    (λ l. let s = x.count in
    let u : k - n₁ < n₂ = omega arith in
    let v : n₁ + (k - n₁) ≡ k = omega arith in
    subst (λ z. (get_or a.words z 0 ≡ get_or b.words z 0) × (get_or (bits_of a.bits) z 0 ≡ get_or (bits_of b.bits) z 0)) v
    (x.second_word (k - n₁) u ∙ sym (y.second_word (k - n₁) u), x.second_bit (k - n₁) u ∙ sym (y.second_bit (k - n₁) u)))

-- two accepted files of bytes without table-to-table links, that can be joined
module _ (setting : Setting) (first : List ℕ) (i p : ℕ) (second : List ℕ) (j q : ℕ) (d₁ d₂ : Domain)
    (e₁ : judged setting first ≡ good d₁) (e₂ : judged setting second ≡ good d₂) (b₁ : Bytes first) (b₂ : Bytes second)
    (u₁ : NoTableToTable d₁) (u₂ : NoTableToTable d₂) where
  abbrev new : List ℕ
  new = joined_file first i p second j q

  module _ (c : Conditions setting d₁ i p d₂ j q) where
    joinable : Joinable d₁ i p d₂ j q
    joinable = record { first = c.first; second = c.second; apart = c.apart }

    is-bench : judged setting new ≡ good (joined d₁ i p d₂ j q)
    is-bench = accepted setting first i p second j q d₁ d₂ e₁ e₂ b₁ b₂ c

    wired-bench : wired setting new ≡ good (joined d₁ i p d₂ j q)
    wired-bench =
        let r = (judged-file setting new (joined d₁ i p d₂ j q)).0 is-bench in
        (wired-file setting new (joined d₁ i p d₂ j q)).1 (r.0, (judged-routable setting.chain (joined d₁ i p d₂ j q) (joined d₁ i p d₂ j q) r.1).1)

    clear-bench : NoTableToTable (joined d₁ i p d₂ j q)
    clear-bench =
        let a₁ = judged_wires setting first d₁ e₁ in
        let a₂ = judged_wires setting second d₂ e₂ in
        let g₁ = read-good setting first d₁ ((judged-file setting first d₁).0 e₁).0 in
        let g₂ = read-good setting second d₂ ((judged-file setting second d₂).0 e₂).0 in
        joined-clear d₁ i p d₂ j q a₁.0 a₁.1.linked a₂.0 a₂.1.linked g₁.some (phy-few setting d₁ i p d₂ j q g₁ g₂ d₁ g₁ i p c.first) (phy-few setting d₁ i p d₂ j q g₁ g₂ d₂ g₂ j q c.second) joinable u₁ u₂

    -- over the tables given for the joined file
    over-given : (r : Request) (e : End) (lent after : List ℕ) → OverTables (joined d₁ i p d₂ j q) (table_call setting new) (trace_call setting new) r e lent after
        → Mission (joined d₁ i p d₂ j q) r e lent after
    over-given = demand3-clear (joined d₁ i p d₂ j q) (table_call setting new) (trace_call setting new) setting.chain (demand3-file setting new (joined d₁ i p d₂ j q) wired-bench) clear-bench

    -- over the tables given for the two files, one after the other: the table call on the joined file would fill the same entries alike
    module _ (n₁ n₂ n : ℕ) (one other t : Entries) (o₁ : GivenFor setting first n₁ one) (o₂ : GivenFor setting second n₂ other) (along : OneAfterOther n₁ n₂ n one other t)
        (r : Request) (e : End) (lent left : List ℕ) (done : TraceDone (trace_call setting new t (length lent) r) (good e) lent left) where
      abbrev d : Domain
      d = joined d₁ i p d₂ j q

      abbrev filled : Entries
      filled = put_before (tables d) t

      call-is : (x : Entries) → trace_call setting new x (length lent) r ≡ traced_request d x (length lent) r
      unfolding trace_call
      call-is x = ap (λ (y : Result Domain). then y (λ z. traced_request z x (length lent) r)) is-bench

      enough : Enough (needed d) (room_of t)
      unfolding traced_request
      enough =
          let a = then-good (trace_call setting new t (length lent) r) report _ (sym done.answers) in
          let b = then-good (requested r (room_of t) (length lent) d) _ a.0 (sym (call-is t) ∙ a.1) in
          ((requested_iff (room_of t) (length lent) r d).0 (b.0, b.1)).enough

      given : TablesDone (table_call setting new (room_of t)) (good (record { table_count = length (table_places d); word_count = needed d })) t filled
      given =
          let g = (table_call_iff setting new d (room_of t)).1 (is-bench, enough) in
          record { answers = sym (ap (λ (x : Result Domain). then x counts_in) g); left = sym (ap (λ (x : Result Domain). tables_after x t) g) }

      size : room_of filled ≡ room_of t
      size = (index_for_index-file setting new d t filled (length (table_places d)) (needed d) ((judged-file setting new d).0 is-bench).0 given).size

      anew : OneAfterOther n₁ n₂ (needed d) one other filled
      anew = joined-entries setting first i p second j q d₁ d₂ e₁ e₂ b₁ b₂ c o₁.table_count n₁ o₂.table_count n₂ (length (table_places d)) (needed d)
          o₁.before one o₂.before other t filled o₁.given o₂.given given

      words : (k : ℕ) → k < needed d → get_or (counted filled) k 0 ≡ get_or (counted t) k 0
      words k h =
          let l : length filled.words ≡ length t.words = ap (λ (x : Room). x.words) size in
          let m = enough.words in
          let a = alike_at n₁ n₂ (needed d) n one other filled t anew along k h in
          counted-at (bits_of filled.bits) filled.words k (omega arith) ∙ ap₂ (λ (b w : ℕ). cond (eqb b 0) w 0) a.1 a.0
          ∙ sym (counted-at (bits_of t.bits) t.words k (omega arith))

      same-trace : traced_request d filled (length lent) r ≡ traced_request d t (length lent) r
      unfolding traced_request
      same-trace =
          let l : length filled.words ≡ length t.words = ap (λ (x : Room). x.words) size in
          let x = counted-length (bits_of filled.bits) filled.words in
          let y = counted-length (bits_of t.bits) t.words in
          let m = enough.words in
          ap₂ (λ (room : Room) (w : Traced). then (requested r room (length lent) d) (λ _. good w)) size (traced-alike d (counted filled) (counted t) (omega arith) (omega arith) words r)

      over-along : Mission d r e lent left
      over-along = over-given r e lent left (record {
        before = t;
        filled = filled;
        table_count = length (table_places d);
        word_count = needed d;
        given = given;
        over = subst (λ (x : Result Traced). TraceDone x (good e) lent left) (call-is t ∙ sym same-trace ∙ sym (call-is filled)) done;
      })

  -- from two accepted files without table-to-table links, a join call that answered with a length, and entries for the bench, given anew or brought
  -- along: every trace on the joined file over them that isn't refused
  pub bench-demand3 : (n : ℕ) (before after : List ℕ) → JoinDone (join_call setting first i p second j q (length before)) (good n) before after
      → (t : Entries) → BenchEntries setting first second (take n after) t
      → (r : Request) (e : End) (lent left : List ℕ) → TraceDone (trace_call setting (take n after) t (length lent) r) (good e) lent left
      → AcrossBench d₁ d₂ (joined d₁ i p d₂ j q) r e lent left
  bench-demand3 n before after done t b r e lent left o =
      across d₁ i p d₂ j q (joinable c) r e lent left (go (subst (λ (f : List ℕ). BenchEntries setting first second f t) y.0 b))
    where
      y : (take n after ≡ new) × (drop n after ≡ drop n before) × Conditions setting d₁ i p d₂ j q
      y = join_written setting first i p second j q d₁ d₂ e₁ e₂ b₁ b₂ n before after done

      c : Conditions setting d₁ i p d₂ j q
      c = y.2

      x : TraceDone (trace_call setting new t (length lent) r) (good e) lent left
      x = subst (λ (f : List ℕ). TraceDone (trace_call setting f t (length lent) r) (good e) lent left) y.0 o

      go : BenchEntries setting first second new t → Mission (joined d₁ i p d₂ j q) r e lent left
      go (filled_anew w g) = over-given c r e lent left (record { before = g.before; filled = t; table_count = g.table_count; word_count = w; given = g.given; over = x })
      go (brought_along n₁ n₂ m one other o₁ o₂ along) = over-along c n₁ n₂ m one other t o₁ o₂ along r e lent left x
