-- The pair rig: what document 01 says of it, as instances of the calls' contracts.
use Prim.Native.Nat.{ℕ, ◌+◌, ◌*◌, ◌≤◌, ◌<◌}
use mathlib.Core.Path.{◌≡◌, refl, ap, ap₂, ◌∙◌}
use mathlib.Core.Logic.{◌⊎◌, inl, inr, ◌≢◌}
use mathlib.Core.List.{List, [], ◌∷◌, ◌++◌, flat_map}
use native.Mathlib.Omega.{arith}
use lib.ListN.{length, drop, replicate, set, length-append}
use lib.Dec.{T}
use Rattle.tables.specs.WiringDefinitions.{bits_of, number_bits, field, packed_in, marked, Phy, Present, Result, refused, good, then, refusal, Domain, phy_at, to_end, widest}
use Rattle.tables.proofs.WorkedDefinitions.{number_at, bytes_of, frame_size, general_fixed, general_read, discover_fixed, discover_read, numbers, any, keep, is_in, number_of, size_at, phy_unit, phy_units, expander_unit, expanders, header_unit, domain_read, unanswered, end_at, claimed, clash, clashing, fixed, phy_places, places_from, first_in, wired_domain, strip, reach, cabled, neighbours, in_range, chains_within, unlong, unlooped, joined, joined_in, linked_domain}
use Rattle.tables.proofs.WiringLemmas.{good-then, marked-room}
use Rattle.tables.proofs.AcceptedDomains.{table_call_iff}
use Rattle.tables.specs.levels.Levels.{each_once, downstream_of_phys, downstream, next_level, levels_from, levels}
use Rattle.tables.specs.filling.Tables.{address_at, gives, give, give_all, level_list, table, table_places, tables, size, sizes, needed, offset_in, stretch}
use Rattle.tables.specs.filling.Entries.{Entries, entries, room_of, Enough, put_before, counted_by, counted}
use Rattle.tables.specs.declared.Counted.{Counted}
use Rattle.tables.specs.JudgingCall.{overlong, judged_domain, judged, expanders_in, table_call, counts_in, tables_after, TablesDone}
use Rattle.tracing.specs.Steps.{pick, subtractively, by_table, directly, step}
use Rattle.tracing.specs.declared.End.{End}
use Rattle.tracing.specs.Trace.{Traced, Request, request, after_step, trace_from, traced, requested, traced_request, trace_call, report, trace_answer, bytes_after, TraceDone}
use Rattle.tracing.specs.Reasons.{because, index_of, by_subtraction, by_entry, by_phy, reason}
use Rattle.tracing.specs.TraceCauses.{Asks}
use Rattle.tracing.specs.declared.Outcome.{Outcome}
use Rattle.tracing.specs.declared.Outcome.TheVariants.{Arrived, NoDestination, BadDestination}
use Rattle.tracing.proofs.RequestCauses.{requested_iff}

-- a REPORT GENERAL response: R, number of phys, configurable bit
unfoldable pub general : ℕ → ℕ → ℕ → List ℕ
general route_indexes phys configurable = 0x41 ∷ replicate 5 0 ++ (bytes_of 2 route_indexes ++ (0 ∷ phys ∷ configurable ∷ replicate 17 0))

-- a DISCOVER response: phy, attached device type, own address, attached address, attached phy, routing attribute
unfoldable pub discover : ℕ → ℕ → ℕ → ℕ → ℕ → ℕ → List ℕ
discover phy type own_address address attached_phy attribute =
    0x41 ∷ 0x10 ∷ (replicate 7 0 ++ (phy ∷ 0 ∷ 0 ∷ type * 16 ∷ 0 ∷ 0 ∷ 0 ∷ (bytes_of 8 own_address ++ (bytes_of 8 address
    ++ (attached_phy ∷ (replicate 11 0 ++ (attribute ∷ replicate 7 0)))))))

-- an address of the rig, by its last byte
abbrev pub at : ℕ → ℕ
at s = 0x5000000000000000 + s

-- the rig's file, where expander 0 has this R
unfoldable pub pair : ℕ → List ℕ
pair route_indexes =
    0x10 ∷ 2
    ∷ (bytes_of 8 (at 0x10) ++ (general route_indexes 2 1
    ++ (discover 0 2 (at 0x10) (at 0x20) 0 2
    ++ (discover 1 1 (at 0x10) (at 0xa1) 0 0
    ++ (bytes_of 8 (at 0x20) ++ (general 0 3 0
    ++ (discover 0 2 (at 0x20) (at 0x10) 0 1
    ++ (discover 1 1 (at 0x20) (at 0xb1) 0 0
    ++ discover 2 0 (at 0x20) 0 0 0))))))))

-- attached device type, routing attribute, attached address; the attached phy is 0
abbrev pub phy : ℕ → ℕ → ℕ → Phy
phy type attribute address = Present (record { device_type = type; attribute = attribute; address = address; attached_phy = record { 0 = 0 } })

-- the domain that it reads as
unfoldable pub rig : ℕ → Domain
rig route_indexes =
    record { address = at 0x10; route_indexes = route_indexes; configurable = 1; phys = phy 2 2 (at 0x20) ∷ phy 1 0 (at 0xa1) ∷ [] }
    ∷ record { address = at 0x20; route_indexes = 0; configurable = 0; phys = phy 2 1 (at 0x10) ∷ phy 1 0 (at 0xb1) ∷ phy 0 0 0 ∷ [] }
    ∷ []

-- the listing's words
unfoldable pub words : List ℕ
words = at 0xb1 ∷ 0 ∷ 0 ∷ 0 ∷ []

-- what the judging call answers of a file
abbrev pub Judges : List ℕ → Result ℕ → Type 0
Judges file said = (answer : Result ℕ) → answer ≡ then (judged widest file) expanders_in → answer ≡ said

-- what the trace call over the rig and these entries answers a request, with a byte lent for each expander: outcome, last expander, phy and
-- count, and the lent bytes after
abbrev pub Traces : Entries → Request → Outcome → ℕ → ℕ → ℕ → List ℕ → Type 0
Traces lent q outcome last phy count passed =
    (before after : List ℕ) (answer : Result End) → 2 ≤ length before → TraceDone (trace_call widest (pair 4) lent (length before) q) answer before after
    → (trace_answer answer ≡ good (record { outcome = outcome; last = last; phy = phy; count = count })) × (after ≡ passed ++ drop count before)

-- words and their bits, with words and bytes lent after them
abbrev pub lend : List ℕ → ℕ → List ℕ → List ℕ → Entries
lend l byte rest more = entries (l ++ rest) (byte ∷ more)

-- the calls' contracts on the rig, each with what it gives; the listing's bits are 70h, as its last three words are zero; `rest` and `more`
-- are words and bytes lent after the tables
pub record PairRig : Type 0 where
  pub bytes : length (pair 4) ≡ 334
  pub read : domain_read widest (pair 4) ≡ good (rig 4)
  pub listing : (before after : Entries) (answer : Result Counted) → Enough 4 (room_of before) → TablesDone (table_call widest (pair 4) (room_of before)) answer before after
      → (answer ≡ good (record { table_count = 1; word_count = 4 })) × (after ≡ lend words 0x70 (drop 4 before.words) (drop 1 before.bits))
  pub accepted : Judges (pair 4) (good 2)
  pub indexes2 : Judges (pair 2) (good 2)
  pub indexes1 : Judges (pair 1) (refused (refusal 14 0 0))
  pub empty : Judges [] (refused (refusal 1 0 0))
  pub longer : Judges (pair 4 ++ (0 ∷ [])) (refused (refusal 1 2 0))
  pub trace0_b1 : (rest more : List ℕ) → Traces (lend words 0x70 rest more) (request 0 255 (at 0xb1)) Arrived 1 1 2 (0 ∷ 1 ∷ [])
  pub trace_b1_a1 : (rest more : List ℕ) → Traces (lend words 0x70 rest more) (request 1 1 (at 0xa1)) Arrived 0 1 2 (1 ∷ 0 ∷ [])
  pub trace1_10 : (rest more : List ℕ) → Traces (lend words 0x70 rest more) (request 1 255 (at 0x10)) Arrived 0 255 2 (1 ∷ 0 ∷ [])
  pub trace1_ff : (rest more : List ℕ) → Traces (lend words 0x70 rest more) (request 1 255 (at 0xff)) NoDestination 0 255 2 (1 ∷ 0 ∷ [])
  pub trace_b1_b1 : (rest more : List ℕ) → Traces (lend words 0x70 rest more) (request 1 1 (at 0xb1)) BadDestination 1 255 1 (1 ∷ [])
  pub zeroed : (rest more : List ℕ) → Traces (lend (set words 0 0) 0x70 rest more) (request 0 255 (at 0xb1)) NoDestination 0 255 1 (0 ∷ [])
  -- entry 0 disabled by its bit; its address stays
  pub disabled : (rest more : List ℕ) → Traces (lend words 0xf0 rest more) (request 0 255 (at 0xb1)) NoDestination 0 255 1 (0 ∷ [])

-- the file is accepted, and its domain has one table, of four words
rig-judged : judged widest (pair 4) ≡ good (rig 4)
unfolding general discover pair rig
    number_at bytes_of frame_size general_fixed general_read discover_fixed discover_read
    numbers any keep is_in number_of size_at phy_unit phy_units expander_unit expanders header_unit in_range domain_read
    unanswered end_at claimed clash clashing fixed phy_places places_from first_in wired_domain
    strip reach cabled neighbours unlooped joined joined_in chains_within unlong linked_domain
    each_once downstream_of_phys downstream next_level levels_from levels flat_map
    address_at gives give give_all level_list overlong judged_domain
rig-judged = refl

rig-sizes : (length (rig 4) ≡ 2) × ((needed (rig 4) ≡ 4) × ((length (table_places (rig 4)) ≡ 1) × (tables (rig 4) ≡ words)))
unfolding rig words numbers any keep is_in number_of phy_places places_from each_once downstream_of_phys downstream next_level levels_from levels flat_map
    address_at gives give give_all level_list table table_places tables size sizes
rig-sizes = (refl, (refl, (refl, refl)))

-- the listing's words with their bits
words-marked : (bits : List ℕ) → 1 ≤ length bits → marked words bits ≡ 0x70 ∷ drop 1 bits
unfolding words packed_in field
words-marked bits h = marked-room words bits h

-- no cause from 15 to 18 holds of these requests
asks : (l rest more : List ℕ) (byte i p s : ℕ) → length l ≡ 4 → i < 2 → (p ≡ 255) ⊎ T (to_end (phy_at (rig 4) i p)) → s ≢ 0
    → Asks (request i p s) (room_of (lend l byte rest more)) 2 (rig 4)
asks l rest more byte i p s h k b z =
    let n = rig-sizes.0 in
    let m = rig-sizes.1.0 in
    let r = length-append l rest in
    record { start = omega arith; arrives_by = b; enough = record { words = omega arith; bits = omega arith }; enough_bytes = omega arith; nonzero = z }

-- the answer is that of the trace
traces : (lent : Entries) (q : Request) (t : Traced) → Asks q (room_of lent) 2 (rig 4) → traced (rig 4) (counted lent) q ≡ t
    → Traces lent q t.outcome t.last t.phy (length t.passed) t.passed
unfolding trace_call traced_request
traces lent q t a e before after answer h o =
    let n = rig-sizes.0 in
    let b : Asks q (room_of lent) (length before) (rig 4) =
    record { start = a.start; arrives_by = a.arrives_by; enough = a.enough; enough_bytes = omega arith; nonzero = a.nonzero } in
    let r = (requested_iff (room_of lent) (length before) q (rig 4)).1 b in
    let c : trace_call widest (pair 4) lent (length before) q ≡ good t =
    good-then (judged widest (pair 4)) _ (rig 4) t rig-judged
    (good-then (requested q (room_of lent) (length before) (rig 4)) _ r.0 t r.1 (ap good e)) in
    (o.answers ∙ ap (λ x. then x report) c, o.bytes ∙ ap (λ x. bytes_after x before) c)

ending : Outcome → ℕ → ℕ → List ℕ → Traced
ending outcome last phy passed = record { outcome = outcome; last = last; phy = phy; passed = passed }

pub pair-rig : PairRig
unfolding general discover pair rig words ending
    number_at bytes_of frame_size general_fixed general_read discover_fixed discover_read
    numbers any keep is_in number_of size_at phy_unit phy_units expander_unit expanders header_unit in_range domain_read
    unanswered end_at claimed clash clashing fixed phy_places places_from first_in wired_domain
    strip reach cabled neighbours unlooped joined joined_in chains_within unlong linked_domain
    each_once downstream_of_phys downstream next_level levels_from levels flat_map
    address_at gives give give_all level_list overlong judged_domain
    pick offset_in size stretch subtractively by_table directly step after_step trace_from traced
    bits_of number_bits counted_by
pair-rig = record {
  bytes = refl;
  read = refl;
  listing = λ before after answer h o.
      let n = rig-sizes.1 in
      let e = (table_call_iff widest (pair 4) (rig 4) (room_of before)).1 (rig-judged, record { words = omega (arith, h.words); bits = omega (arith, h.bits) }) in (
        o.answers ∙ ap (λ x. then x counts_in) e ∙ ap₂ (λ x y. good (record { table_count = x; word_count = y })) n.1.0 n.0,
        o.left ∙ ap (λ x. tables_after x before) e ∙ ap (λ x. put_before x before) n.1.1
            ∙ ap (entries (words ++ drop 4 before.words)) (words-marked before.bits (omega (arith, h.bits))),
      );
  accepted = λ answer e. e;
  indexes2 = λ answer e. e;
  indexes1 = λ answer e. e;
  empty = λ answer e. e;
  longer = λ answer e. e;
  trace0_b1 = λ rest more. traces (lend words 0x70 rest more) (request 0 255 (at 0xb1)) (ending Arrived 1 1 (0 ∷ 1 ∷ []))
      (asks words rest more 0x70 0 255 (at 0xb1) refl (omega arith) (inl refl) (λ e. omega arith)) refl;
  trace_b1_a1 = λ rest more. traces (lend words 0x70 rest more) (request 1 1 (at 0xa1)) (ending Arrived 0 1 (1 ∷ 0 ∷ []))
      (asks words rest more 0x70 1 1 (at 0xa1) refl (omega arith) (inr tt) (λ e. omega arith)) refl;
  trace1_10 = λ rest more. traces (lend words 0x70 rest more) (request 1 255 (at 0x10)) (ending Arrived 0 255 (1 ∷ 0 ∷ []))
      (asks words rest more 0x70 1 255 (at 0x10) refl (omega arith) (inl refl) (λ e. omega arith)) refl;
  trace1_ff = λ rest more. traces (lend words 0x70 rest more) (request 1 255 (at 0xff)) (ending NoDestination 0 255 (1 ∷ 0 ∷ []))
      (asks words rest more 0x70 1 255 (at 0xff) refl (omega arith) (inl refl) (λ e. omega arith)) refl;
  trace_b1_b1 = λ rest more. traces (lend words 0x70 rest more) (request 1 1 (at 0xb1)) (ending BadDestination 1 255 (1 ∷ []))
      (asks words rest more 0x70 1 1 (at 0xb1) refl (omega arith) (inr tt) (λ e. omega arith)) refl;
  zeroed = λ rest more. traces (lend (set words 0 0) 0x70 rest more) (request 0 255 (at 0xb1)) (ending NoDestination 0 255 (0 ∷ []))
      (asks (set words 0 0) rest more 0x70 0 255 (at 0xb1) refl (omega arith) (inl refl) (λ e. omega arith)) refl;
  disabled = λ rest more. traces (lend words 0xf0 rest more) (request 0 255 (at 0xb1)) (ending NoDestination 0 255 (0 ∷ []))
      (asks words rest more 0xf0 0 255 (at 0xb1) refl (omega arith) (inl refl) (λ e. omega arith)) refl;
}

-- which rule applies at each expander of the rig: over the listing's words, and with its one entry disabled
pub pair_reasons : (reason (rig 4) words 0 255 (at 0xb1) ≡ because 3 0 0)
    × ((reason (rig 4) words 1 0 (at 0xb1) ≡ because 2 1 65535)
    × ((reason (rig 4) words 1 1 (at 0xa1) ≡ because 4 0 65535)
    × ((reason (rig 4) words 0 0 (at 0x10) ≡ because 1 255 65535)
    × ((reason (rig 4) words 0 0 (at 0xff) ≡ because 5 255 65535)
    × (reason (rig 4) (counted (lend words 0xf0 [] [])) 0 255 (at 0xb1) ≡ because 5 255 65535)))))
unfolding rig words numbers any keep is_in number_of phy_places places_from pick offset_in size stretch reason by_phy by_entry by_subtraction index_of bits_of number_bits counted_by
pair_reasons = (refl, (refl, (refl, (refl, (refl, refl)))))
