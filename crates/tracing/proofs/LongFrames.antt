-- Long frames: a request ends alike over a file and over its short file, whatever words and bits are lent. The pair rig with long and short
-- frames mixed.
use Prim.Native.Nat.{ℕ}
use mathlib.Core.Path.{◌≡◌, refl}
use mathlib.Core.List.{List, ◌∷◌, ◌++◌}
use lib.ListN.{take, drop, replicate}
use Rattle.tables.specs.WiringDefinitions.{refused, refusal, Setting, widest}
use Rattle.tables.specs.filling.Entries.{Entries}
use Rattle.tables.specs.JudgingCall.{judged}
use Rattle.tables.proofs.LongFrames.{short-judged}
use Rattle.tables.proofs.WorkedDefinitions.{number_at, bytes_of, frame_size, general_fixed, general_read, discover_fixed, discover_read, any, is_in, size_at, phy_unit, phy_units, expander_unit, expanders, header_unit, domain_read, short_phys, short_expanders, short_file, in_range}
use Rattle.tracing.specs.Trace.{Request, trace_call}
use Rattle.tracing.proofs.PairRig.{general, discover, at, pair}

pub short-traces : (setting : Setting) (file : List ℕ) (t : Entries) (bytes : ℕ) (q : Request)
    → trace_call setting (short_file setting file) t bytes q ≡ trace_call setting file t bytes q
unfolding trace_call
short-traces setting file t bytes q = rw (short-judged setting file)

-- the long frame of a short one: byte 3, and other bytes after it
unfoldable pub long : ℕ → ℕ → List ℕ → List ℕ
long length more frame = take 3 frame ++ (length ∷ (drop 4 frame ++ replicate more 0xee))

-- the pair rig: expander 0 with a long REPORT GENERAL response, and long DISCOVER responses of phy 0 of expander 0 and of phy 2 of expander 1
unfoldable pub mixed : List ℕ
mixed =
    0x10 ∷ 2
    ∷ (bytes_of 8 (at 0x10) ++ (long 0x10 40 (general 4 2 1)
    ++ (long 0x0f 12 (discover 0 2 (at 0x10) (at 0x20) 0 2)
    ++ (discover 1 1 (at 0x10) (at 0xa1) 0 0
    ++ (bytes_of 8 (at 0x20) ++ (general 0 3 0
    ++ (discover 0 2 (at 0x20) (at 0x10) 0 1
    ++ (discover 1 1 (at 0x20) (at 0xb1) 0 0
    ++ long 0x0f 12 (discover 2 0 (at 0x20) 0 0 0)))))))))

-- its short file is the pair rig's file; cut by a byte it is refused at the last phy, and the frames before are cut all the same
pub mixed-pair : (short_file widest mixed ≡ pair 4)
    × ((judged widest (take 397 mixed) ≡ refused (refusal 1 1 2)) × (short_file widest (take 397 mixed) ≡ take 282 (pair 4) ++ drop 334 (take 397 mixed)))
unfolding mixed long general discover pair number_at bytes_of frame_size general_fixed general_read discover_fixed discover_read any is_in size_at phy_unit phy_units expander_unit expanders header_unit
    in_range domain_read short_phys short_expanders short_file
mixed-pair = (refl, (refl, refl))
