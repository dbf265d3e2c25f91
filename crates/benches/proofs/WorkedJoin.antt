-- Two rigs joined, by hand: the joined file byte for byte, and what the join call yields of them and refuses of others.
use Prim.Native.Nat.{ℕ, ◌+◌, ◌*◌}
use mathlib.Core.Path.{◌≡◌, refl}
use mathlib.Core.List.{List, ◌∷◌, ◌++◌}
use lib.ListN.{length, replicate}
use Rattle.frames.specs.Refusals.{refused, good, refusal}
use Rattle.files.specs.Settings.{widest}
use Rattle.tables.proofs.WorkedDefinitions.{number_at, bytes_of, frame_size, general_fixed, general_read, discover_fixed, discover_read, numbers, any, keep, is_in, number_of, size_at, phy_unit, phy_units, expander_unit, expanders, header_unit, domain_read, unanswered, end_at, claimed, clash, clashing, fixed, phy_places, places_from, first_in, wired_domain, strip, reach, cabled, neighbours, in_range, chains_within, unlong, unlooped, joined, joined_in, linked_domain}
use Rattle.tables.specs.JudgingCall.{overlong, judged_domain}
use Rattle.benches.specs.Bytes.{cabled_frame, cabled_at, joined_file}
use Rattle.benches.specs.JoinCall.{free, join_call}
use Rattle.offsets.specs.Offsets.{phys_after, expanders_after}

-- a REPORT GENERAL response: R 0, two phys
abbrev general : List ℕ
general = 0x41 ∷ (replicate 8 0 ++ (2 ∷ replicate 18 0))

-- a DISCOVER response: own address, phy, type, attribute, attached address and phy
abbrev phy : ℕ → ℕ → ℕ → ℕ → ℕ → ℕ → List ℕ
phy own_address p device_type attribute address attached_phy =
    0x41 ∷ 0x10 ∷ (replicate 7 0 ++ (p ∷ 0 ∷ 0 ∷ device_type * 16 ∷ 0 ∷ 0 ∷ 0
    ∷ (bytes_of 8 own_address ++ (bytes_of 8 address ++ (attached_phy ∷ (replicate 11 0 ++ (attribute ∷ replicate 7 0)))))))

-- a lone expander with a drive and a free subtractive phy
abbrev rig : ℕ → List ℕ
rig a = 0x10 ∷ 1 ∷ (bytes_of 8 a ++ (general ++ (phy a 0 1 0 (a + 1) 0 ++ phy a 1 0 1 0 0)))

-- the two on one bench
abbrev bench : List ℕ
bench =
    0x10 ∷ 2
    ∷ (bytes_of 8 16 ++ (general ++ (phy 16 0 1 0 17 0 ++ (phy 16 1 2 1 32 1
    ++ (bytes_of 8 32 ++ (general ++ (phy 32 0 1 0 33 0 ++ phy 32 1 2 1 16 1)))))))

pub on-bench :
    (joined_file (rig 16) 0 1 (rig 32) 0 1 ≡ bench) × (length bench ≡ 282)
unfolding number_at bytes_of phys_after expanders_after cabled_frame cabled_at joined_file
on-bench = (refl, refl)

-- the call yields the bench; an expander's address in both is 4 at the second's expander, in the joined file's numbers; a drive with the address of
-- the other's expander 8 at its phy; and one expander too many 3
pub worked_joins :
    (join_call widest (rig 16) 0 1 (rig 32) 0 1 282 ≡ good bench)
    × ((join_call widest (rig 16) 0 1 (rig 16) 0 1 282 ≡ refused (refusal 4 1 0))
    × ((join_call widest (rig 16) 0 1 (rig 17) 0 1 282 ≡ refused (refusal 8 0 0))
    × (join_call (record { expanders = 1; phys = 128; chain = 64 }) (rig 16) 0 1 (rig 32) 0 1 282 ≡ refused (refusal 3 0 0))))
unfolding number_at bytes_of frame_size general_fixed general_read discover_fixed discover_read
    numbers any keep is_in number_of size_at phy_unit phy_units expander_unit expanders header_unit in_range domain_read
    unanswered end_at claimed clash clashing fixed phy_places places_from first_in wired_domain
    strip reach cabled neighbours unlooped joined joined_in chains_within unlong linked_domain
    overlong judged_domain
    phys_after expanders_after cabled_frame cabled_at joined_file free join_call
worked_joins = (refl, (refl, (refl, refl)))
