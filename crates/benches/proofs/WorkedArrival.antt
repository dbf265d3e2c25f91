-- Two rigs with a table each, joined: a request from the first's drive to the second's, over the tables given for the bench and over those brought along.
use Prim.Native.Nat.{ℕ, zero, suc, ◌+◌, ◌<◌}
use mathlib.Core.Path.{◌≡◌, refl, sym, ap}
use mathlib.Core.Bool.{Bool, true, ◌&&◌}
use mathlib.Core.List.{List, [], ◌∷◌, ◌++◌, flat_map}
use native.Mathlib.Omega.{arith}
use lib.ListN.{length, replicate}
use lib.Dec.{T, ltb, ltb→lt}
use Rattle.frames.specs.Bits.{number_bits, field, bits_of, packed_in, marked}
use Rattle.frames.specs.Refusals.{Result, good, then, length_of, new_after}
use Rattle.files.specs.Domain.{Domain, phy_at, is_table}
use Rattle.files.specs.ReadDomain.{Bytes}
use Rattle.files.specs.Settings.{widest}
use Rattle.files.proofs.ListMembers.{and_left, and_right}
use Rattle.wiring.specs.phys.PhyCauses.{far_phy}
use Rattle.tables.proofs.WorkedDefinitions.{number_at, bytes_of, frame_size, general_fixed, general_read, discover_fixed, discover_read, numbers, any, keep, is_in, number_of, size_at, phy_unit, phy_units, expander_unit, expanders, header_unit, domain_read, unanswered, end_at, claimed, clash, clashing, fixed, phy_places, places_from, first_in, wired_domain, strip, reach, cabled, neighbours, in_range, chains_within, unlong, unlooped, joined, joined_in, linked_domain}
use Rattle.tables.specs.levels.Levels.{each_once, downstream_of_phys, downstream, next_level, levels_from, levels}
use Rattle.tables.specs.filling.Entries.{Entries, entries, counted_by}
use Rattle.tables.specs.filling.Tables.{address_at, gives, give, give_all, level_list, table, table_places, tables, size, sizes, offset_in, stretch}
use Rattle.tables.specs.JudgingCall.{overlong, judged_domain, judged, table_call}
use Rattle.tracing.specs.Steps.{pick, subtractively, by_table, directly, step}
use Rattle.tracing.specs.Trace.{after_step, trace_from, Request, request, traced, allowed, requested, traced_request, trace_call, TraceDone}
use Rattle.tracing.specs.declared.End.{End}
use Rattle.tracing.specs.declared.Outcome.TheVariants.{Arrived}
use Rattle.tracing.proofs.PairRig.{general, discover, phy}
use Rattle.benches.specs.AcrossBench.{OneAfterOther, GivenFor, BenchEntries, filled_anew, brought_along, AcrossBench}
use Rattle.benches.specs.Bytes.{cabled_frame, cabled_at, joined_file}
use Rattle.benches.specs.JoinCall.{free, join_call, JoinDone}
use Rattle.benches.specs.Joined.{joined as joined_domain}
use Rattle.benches.proofs.ArrivalAcross.{bench-demand3}
use Rattle.offsets.specs.Offsets.{phys_after, expanders_after}

-- two expanders: the first has R 1, a table phy to the second and a free subtractive phy; the second a subtractive phy to the first and a drive
abbrev rig : ℕ → List ℕ
rig a =
    0x10 ∷ 2
    ∷ (bytes_of 8 a ++ (general 1 2 1 ++ (discover 0 2 a (a + 16) 0 2 ++ (discover 1 0 a 0 0 1
    ++ (bytes_of 8 (a + 16) ++ (general 0 2 0 ++ (discover 0 2 (a + 16) a 0 1 ++ discover 1 1 (a + 16) (a + 17) 0 0)))))))

-- its domain
abbrev domain : ℕ → Domain
domain a =
    record { address = a; route_indexes = 1; configurable = 1; phys = phy 2 2 (a + 16) ∷ phy 0 1 0 ∷ [] }
    ∷ record { address = a + 16; route_indexes = 0; configurable = 0; phys = phy 2 1 a ∷ phy 1 0 (a + 17) ∷ [] }
    ∷ []

judged_rigs : (judged widest (rig 16) ≡ good (domain 16)) × (judged widest (rig 64) ≡ good (domain 64))
unfolding general discover number_at bytes_of frame_size general_fixed general_read discover_fixed discover_read
    numbers any keep is_in number_of size_at phy_unit phy_units expander_unit expanders header_unit in_range domain_read
    unanswered end_at claimed clash clashing fixed phy_places places_from first_in wired_domain
    strip reach cabled neighbours unlooped joined joined_in chains_within unlong linked_domain
    each_once downstream_of_phys downstream next_level levels_from levels flat_map
    address_at gives give give_all level_list overlong judged_domain
judged_rigs = (refl, refl)

-- a list of bytes, number by number
abbrev all_bytes : List ℕ → Bool
all_bytes [] = true
all_bytes (b ∷ l) = ltb b 256 && all_bytes l

bytes-by : (l : List ℕ) → T (all_bytes l) → Bytes l
bytes-by [] t k = omega arith
bytes-by (b ∷ l) t zero = ltb→lt b 256 (and_left (ltb b 256) (all_bytes l) t)
bytes-by (b ∷ l) t (suc k) = bytes-by l (and_right (ltb b 256) (all_bytes l) t) k

rig-bytes : Bytes (rig 16) × Bytes (rig 64)
unfolding general discover bytes_of
rig-bytes = (bytes-by (rig 16) tt, bytes-by (rig 64) tt)

-- the one table phy is attached to a subtractive phy
clear_16 : (x y : ℕ) → T (is_table (phy_at (domain 16) x y)) → T (is_table (far_phy (domain 16) (phy_at (domain 16) x y))) → ⊥
unfolding number_of
clear_16 zero zero t u = u
clear_16 zero (suc zero) t u = t
clear_16 zero (suc (suc y)) t u = t
clear_16 (suc zero) zero t u = t
clear_16 (suc zero) (suc zero) t u = t
clear_16 (suc zero) (suc (suc y)) t u = t
clear_16 (suc (suc x)) y t u = t

clear_64 : (x y : ℕ) → T (is_table (phy_at (domain 64) x y)) → T (is_table (far_phy (domain 64) (phy_at (domain 64) x y))) → ⊥
unfolding number_of
clear_64 zero zero t u = u
clear_64 zero (suc zero) t u = t
clear_64 zero (suc (suc y)) t u = t
clear_64 (suc zero) zero t u = t
clear_64 (suc zero) (suc zero) t u = t
clear_64 (suc zero) (suc (suc y)) t u = t
clear_64 (suc (suc x)) y t u = t

-- the bench: phy 1 of each first expander has the cable
abbrev bench : List ℕ
bench =
    0x10 ∷ 4
    ∷ (bytes_of 8 16 ++ (general 1 2 1 ++ (discover 0 2 16 32 0 2 ++ (discover 1 2 16 64 1 1
    ++ (bytes_of 8 32 ++ (general 0 2 0 ++ (discover 0 2 32 16 0 1 ++ (discover 1 1 32 33 0 0
    ++ (bytes_of 8 64 ++ (general 1 2 1 ++ (discover 0 2 64 80 0 2 ++ (discover 1 2 64 16 1 1
    ++ (bytes_of 8 80 ++ (general 0 2 0 ++ (discover 0 2 80 64 0 1 ++ discover 1 1 80 81 0 0)))))))))))))))

yields : join_call widest (rig 16) 0 1 (rig 64) 0 1 562 ≡ good bench
unfolding general discover number_at bytes_of frame_size general_fixed general_read discover_fixed discover_read
    numbers any keep is_in number_of size_at phy_unit phy_units expander_unit expanders header_unit in_range domain_read
    unanswered end_at claimed clash clashing fixed phy_places places_from first_in wired_domain
    strip reach cabled neighbours unlooped joined joined_in chains_within unlong linked_domain
    each_once downstream_of_phys downstream next_level levels_from levels flat_map
    address_at gives give give_all level_list overlong judged_domain
    phys_after expanders_after cabled_frame cabled_at joined_file free join_call
yields = refl

-- as many bytes as it takes
abbrev lent : List ℕ
lent = replicate 562 0

joins : JoinDone (join_call widest (rig 16) 0 1 (rig 64) 0 1 (length lent)) (good 562) lent bench
unfolding general discover bytes_of
joins = record {
  answers = sym (ap (λ (x : Result (List ℕ)). then x length_of) yields);
  bytes = sym (ap (λ (x : Result (List ℕ)). new_after x lent) yields);
}

-- the entries: each rig's table has the one drive beyond its table phy
abbrev both : Entries
both = entries (33 ∷ 81 ∷ []) (0 ∷ [])

given : GivenFor widest (rig 16) 1 (entries (33 ∷ []) (0 ∷ [])) × (GivenFor widest (rig 64) 1 (entries (81 ∷ []) (0 ∷ [])) × GivenFor widest bench 2 both)
unfolding general discover number_at bytes_of frame_size general_fixed general_read discover_fixed discover_read
    numbers any keep is_in number_of size_at phy_unit phy_units expander_unit expanders header_unit in_range domain_read
    unanswered end_at claimed clash clashing fixed phy_places places_from first_in wired_domain
    strip reach cabled neighbours unlooped joined joined_in chains_within unlong linked_domain
    each_once downstream_of_phys downstream next_level levels_from levels flat_map
    address_at gives give give_all level_list overlong judged_domain
    table table_places tables size sizes field packed_in marked table_call
given = (
  record { before = entries (0 ∷ []) (0 ∷ []); table_count = 1; given = record { answers = refl; left = refl } },
  (
    record { before = entries (0 ∷ []) (0 ∷ []); table_count = 1; given = record { answers = refl; left = refl } },
    record { before = entries (0 ∷ 0 ∷ []) (0 ∷ []); table_count = 2; given = record { answers = refl; left = refl } },
  ),
)

-- of one word, what is said of word 0 is said of all
only : (P : ℕ → Type 0) → P 0 → (k : ℕ) → k < 1 → P k
only P h zero l = h
only P h (suc k) l = absurd (omega arith)

along : OneAfterOther 1 1 2 (entries (33 ∷ []) (0 ∷ [])) (entries (81 ∷ []) (0 ∷ [])) both
unfolding number_bits bits_of
along = record { count = refl; first_word = only _ refl; first_bit = only _ refl; second_word = only _ refl; second_bit = only _ refl }

-- a request from the first's drive, at phy 1 of expander 1, for the second's drive: it arrives at phy 1 of expander 3, over expanders 1, 0, 2 and 3
abbrev asked : Request
asked = request 1 1 81

abbrev ended : End
ended = record { outcome = Arrived; last = record { 0 = 3 }; phy = record { 0 = 1 }; count = 4 }

traces : TraceDone (trace_call widest bench both 4 asked) (good ended) (replicate 4 0) (1 ∷ 0 ∷ 2 ∷ 3 ∷ [])
unfolding general discover number_at bytes_of frame_size general_fixed general_read discover_fixed discover_read
    numbers any keep is_in number_of size_at phy_unit phy_units expander_unit expanders header_unit in_range domain_read
    unanswered end_at claimed clash clashing fixed phy_places places_from first_in wired_domain
    strip reach cabled neighbours unlooped joined joined_in chains_within unlong linked_domain
    each_once downstream_of_phys downstream next_level levels_from levels flat_map
    address_at gives give give_all level_list overlong judged_domain
    size sizes offset_in stretch number_bits bits_of counted_by
    pick subtractively by_table directly step after_step trace_from traced allowed requested traced_request trace_call
traces = record { answers = refl; bytes = refl }

abbrev Crosses : Type 0
Crosses = AcrossBench (domain 16) (domain 64) (joined_domain (domain 16) 0 1 (domain 64) 0 1) asked ended (replicate 4 0) (1 ∷ 0 ∷ 2 ∷ 3 ∷ [])

crosses : BenchEntries widest (rig 16) (rig 64) bench both → Crosses
unfolding general discover bytes_of
crosses t =
    bench-demand3 widest (rig 16) 0 1 (rig 64) 0 1 (domain 16) (domain 64) judged_rigs.0 judged_rigs.1 rig-bytes.0 rig-bytes.1
    (λ x y t. clear_16 x t.phy t.routed t.double) (λ x y t. clear_64 x t.phy t.routed t.double)
    562 lent bench joins both t asked ended (replicate 4 0) (1 ∷ 0 ∷ 2 ∷ 3 ∷ []) traces

-- `bench-demand3` holds of it over the tables given for the bench, and over those brought along
pub worked_anew : Crosses
worked_anew = crosses (filled_anew 2 given.1.1)

pub worked_along : Crosses
worked_along = crosses (brought_along 1 1 2 (entries (33 ∷ []) (0 ∷ [])) (entries (81 ∷ []) (0 ∷ [])) given.0 given.1.0 along)
