-- A file accepted under one setting is accepted under any setting in range and no smaller in all three, with the same wiring, tables and
-- traces; and the pair rig under five settings.
use mathlib.Core.Path.{◌≡◌, refl, sym, ap, ◌∙◌}
use mathlib.Core.List.{List, [], flat_map}
use Prim.Native.Nat.{ℕ}
use Rattle.tables.specs.WiringDefinitions.{refused, good, then, refusal, Setting, InRange, NoSmaller, Domain}
use Rattle.tables.specs.levels.Levels.{each_once, downstream_of_phys, downstream, next_level, levels_from, levels}
use Rattle.tables.specs.filling.Tables.{address_at, gives, give, give_all, level_list}
use Rattle.tables.specs.JudgingCall.{overlong, judged_domain, judged, tables_for, table_call}
use Rattle.tables.proofs.WiringLemmas.{wiring-more}
use Rattle.tables.proofs.AcceptedDomains.{judged-file}
use Rattle.tables.proofs.WiderSetting.{judged-more}
use Rattle.tables.proofs.WorkedDefinitions.{number_at, bytes_of, frame_size, general_fixed, general_read, discover_fixed, discover_read, numbers, any, keep, is_in, number_of, size_at, phy_unit, phy_units, expander_unit, expanders, header_unit, domain_read, unanswered, end_at, claimed, clash, clashing, fixed, phy_places, places_from, first_in, wired_domain, strip, reach, cabled, neighbours, in_range, chains_within, unlong, unlooped, joined, joined_in, linked_domain}
use Rattle.tracing.specs.Trace.{traced_request, trace_call}
use Rattle.tracing.specs.Courses.{Alike}
use Rattle.tracing.proofs.PairRig.{general, discover, pair, rig}

pub monotone : (setting other : Setting) → NoSmaller setting other → InRange other → (file : List ℕ) (d : Domain) → judged setting file ≡ good d
    → Alike setting other file d
unfolding table_call trace_call
monotone setting other m r file d j =
    let e = judged-more setting other m r file d j in
    let q = e ∙ sym j in
    record {
      accepted = e;
      wiring = wiring-more setting other m r file d ((judged-file setting file d).0 j).0;
      tables = λ room. ap (λ x. then x (tables_for room)) q;
      traces = λ t bytes q'. ap (λ x. then x (λ d. traced_request d t bytes q')) q;
    }

-- most expanders, most phys, longest chain
abbrev course : ℕ → ℕ → ℕ → Setting
course e p c = record { expanders = e; phys = p; chain = c }

-- accepted by the narrowest course that takes it, and refused by those that have one limit less, or one out of its range
pub pair_courses : (judged (course 2 3 2) (pair 4) ≡ good (rig 4))
    × ((judged (course 1 3 2) (pair 4) ≡ refused (refusal 3 0 0))
    × ((judged (course 2 2 2) (pair 4) ≡ refused (refusal 3 1 0))
    × ((judged (course 2 3 1) (pair 4) ≡ refused (refusal 23 0 0))
    × ((judged (course 65 3 2) (pair 4) ≡ refused (refusal 22 0 0)) × (judged (course 2 3 0) [] ≡ refused (refusal 22 0 0))))))
unfolding general discover pair rig
    number_at bytes_of frame_size general_fixed general_read discover_fixed discover_read
    numbers any keep is_in number_of size_at phy_unit phy_units expander_unit expanders header_unit in_range domain_read
    unanswered end_at claimed clash clashing fixed phy_places places_from first_in wired_domain
    strip reach cabled neighbours unlooped joined joined_in chains_within unlong linked_domain
    each_once downstream_of_phys downstream next_level levels_from levels flat_map
    address_at gives give give_all level_list overlong judged_domain
pair_courses = (refl, (refl, (refl, (refl, (refl, refl)))))
