-- Single frames, worked by hand from the layouts: the definitions yield what they should.
use Prim.Native.Nat.{ℕ}
use mathlib.Core.Path.{◌≡◌, refl}
use mathlib.Core.Bool.{Bool, true, false}
use mathlib.Core.List.{List, [], ◌∷◌, ◌++◌}
use lib.ListN.{take, replicate, set}
use Rattle.frames.specs.Bits.{number_bits, field, bits_of, packed_in, marked}
use Rattle.frames.specs.Bytes.{number_at, bytes_of}
use Rattle.frames.specs.Refusals.{refused, good, refusal}
use Rattle.frames.specs.Sizes.{frame_size}
use Rattle.frames.specs.ReportGeneral.{general_fixed, general_read, general_read_sas2}
use Rattle.frames.specs.declared.GeneralSas2.TheVariants.{Short as short, Long as long}
use Rattle.frames.specs.Discovery.{discover_fixed, discover_read}
use Rattle.frames.specs.declared.Discovered.{Discovered}
use Rattle.frames.specs.declared.Discovered.TheVariants.{Vacant as vacant, Fields as fields}
use Rattle.frames.specs.ConfigureRoute.{route_frame, route_written, route_fixed, route_read}
use Rattle.frames.specs.declared.General.{General}
use Rattle.frames.specs.declared.Route.{Route}

-- phy 5, route index 258
abbrev request : ℕ → ℕ → Bool → Route
request length address disabled = record { length = length; phy = record { 0 = 5 }; index = record { 0 = 258 }; address = address; disabled = disabled }

-- its bytes up to byte 11
abbrev front : ℕ → List ℕ
front length = 0x40 ∷ 0x90 ∷ 0 ∷ length ∷ 0 ∷ 0 ∷ 1 ∷ 2 ∷ 0 ∷ 5 ∷ 0 ∷ 0 ∷ []

-- byte 12, and address 50000000000000b1h
told : ℕ → ℕ → List ℕ
told length disable = front length ++ (disable ∷ 0 ∷ 0 ∷ 0 ∷ 0x50 ∷ 0 ∷ 0 ∷ 0 ∷ 0 ∷ 0 ∷ 0 ∷ 0xb1 ∷ replicate 16 0)

-- a disabled entry keeps its address, and address 0 with a clear bit is written as told; 2 before 15 before 16
writes : (route_frame (request 0x00 0x50000000000000b1 false) ≡ told 0x00 0x00)
    × ((route_frame (request 0x00 0x50000000000000b1 true) ≡ told 0x00 0x80)
    × ((route_frame (request 0x00 0 false) ≡ front 0x00 ++ replicate 28 0)
    × ((route_written 39 (request 0x09 7 false) ≡ refused (refusal 16 0 0))
    × ((route_written 39 (record { length = 0x09; phy = record { 0 = 128 }; index = record { 0 = 0 }; address = 7; disabled = false }) ≡ refused (refusal 15 0 0))
    × (route_written 39 (record { length = 0x0a; phy = record { 0 = 128 }; index = record { 0 = 0 }; address = 7; disabled = false }) ≡ refused (refusal 2 0 0))))))
unfolding route_frame route_written bytes_of told
writes = (refl, (refl, (refl, (refl, (refl, refl)))))

-- both the address and the disable bit are shown; the other bits of byte 12 and the other bytes are ignored
reads : (route_read (told 0x00 0x00) ≡ good (request 0x00 0x50000000000000b1 false))
    × ((route_read (told 0x00 0x80) ≡ good (request 0x00 0x50000000000000b1 true))
    × ((route_read (set (told 0x00 0x7f) 39 0xff) ≡ good (request 0x00 0x50000000000000b1 false))
    × ((route_read (told 0x00 0x00 ++ (0 ∷ [])) ≡ refused (refusal 1 0 0))
    × ((route_read (set (set (told 0x00 0x00) 0 0x41) 9 128) ≡ refused (refusal 2 0 0))
    × ((route_read (set (told 0x00 0x00) 1 0x91) ≡ refused (refusal 2 0 0))
    × ((route_read (set (told 0x0a 0x00) 9 128) ≡ refused (refusal 2 0 0))
    × (route_read (set (told 0x09 0x00) 9 128) ≡ refused (refusal 15 0 0))))))))
unfolding route_read route_fixed number_at told
reads = (refl, (refl, (refl, (refl, (refl, (refl, (refl, refl)))))))

-- the forty bytes that smp_conf_route_info of smp_utils sends for this request, written and read
smp_utils : (route_frame (request 0x09 0x50000000000000b1 false) ≡ told 0x09 0x00) × (route_read (told 0x09 0x00) ≡ good (request 0x09 0x50000000000000b1 false))
unfolding route_frame bytes_of route_read route_fixed number_at told
smp_utils = (refl, refl)

-- the disable bits of nine words, of which the first, the third and the last are zero, before two lent bytes and one more
marks : (marked (0 ∷ 7 ∷ 0 ∷ 7 ∷ 7 ∷ 7 ∷ 7 ∷ 7 ∷ 0 ∷ []) (0xff ∷ 0xff ∷ 0xff ∷ []) ≡ 0xa0 ∷ 0x80 ∷ 0xff ∷ [])
    × ((marked (0 ∷ 7 ∷ 0 ∷ 7 ∷ 7 ∷ 7 ∷ 7 ∷ 7 ∷ 0 ∷ []) (0xff ∷ []) ≡ 0xff ∷ [])
    × (bits_of (0x41 ∷ []) ≡ 0 ∷ 1 ∷ 0 ∷ 0 ∷ 0 ∷ 0 ∷ 0 ∷ 1 ∷ []))
unfolding marked packed_in field bits_of number_bits
marks = (refl, (refl, refl))

-- R 0x1234, 20 phys, configurable; byte 3, RESPONSE LENGTH, and the bytes after byte 10 are told
general : ℕ → ℕ → List ℕ
general length more = 0x41 ∷ 0 ∷ 0 ∷ length ∷ 0xaa ∷ 0xbb ∷ 0x12 ∷ 0x34 ∷ 0xcc ∷ 20 ∷ 0xff ∷ replicate more 0xee

abbrev shown : ℕ → General
shown bit = record { route_indexes = 0x1234; phys = 20; configurable = bit }

reports : (general_read (general 0x00 17) ≡ good (shown 1))
    × ((general_read (set (general 0x00 17) 10 0xfe) ≡ good (shown 0))
    × ((general_read (set (general 0x00 17) 2 1) ≡ refused (refusal 2 0 0))
    × ((general_read [] ≡ refused (refusal 1 0 0))
    × (general_read (0 ∷ general 0x00 17) ≡ refused (refusal 1 0 0)))))
unfolding general_read frame_size general_fixed number_at general
reports = (refl, (refl, (refl, (refl, refl))))

-- a long frame; byte 3 is tested once four bytes are there, whatever the length; 0fh is DISCOVER's; then the length, then the other fixed bytes
long-reports : (general_read (general 0x10 57) ≡ good (shown 1))
    × ((general_read (take 3 (general 0x0f 57)) ≡ refused (refusal 1 0 0))
    × ((general_read (take 4 (general 0x0f 57)) ≡ refused (refusal 2 0 0))
    × ((general_read (general 0x0f 53) ≡ refused (refusal 2 0 0))
    × ((general_read (set (general 0x10 17) 0 0x40) ≡ refused (refusal 1 0 0))
    × ((general_read (general 0x10 58) ≡ refused (refusal 1 0 0))
    × (general_read (set (general 0x10 57) 0 0x40) ≡ refused (refusal 2 0 0)))))))
unfolding general_read frame_size general_fixed number_at general
long-reports = (refl, (refl, (refl, (refl, (refl, (refl, refl))))))

-- the SAS-2 reader: bits 7 and 2 of byte 10, or that the frame is short
sas2_reports : (general_read_sas2 (general 0x00 17) ≡ good (short (shown 1)))
    × ((general_read_sas2 (set (general 0x10 57) 10 0x80) ≡ good (long (shown 0) (record { table_to_table = 1; configures_others = 0 })))
    × ((general_read_sas2 (set (general 0x10 57) 10 0x05) ≡ good (long (shown 1) (record { table_to_table = 0; configures_others = 1 })))
    × (general_read_sas2 (general 0x10 17) ≡ refused (refusal 1 0 0))))
unfolding general_read_sas2 general_read frame_size general_fixed number_at general
sas2_reports = (refl, (refl, (refl, refl)))

-- every field with bits of its own, and all bits set around type and attribute; byte 3 and the bytes after byte 44 are told
discover : ℕ → ℕ → List ℕ
discover length more =
    0x41 ∷ 0x10 ∷ 0x00 ∷ length ∷ (replicate 5 0x99 ++ (17 ∷ 0x99 ∷ 0x99 ∷ 0xaf ∷ 0x99 ∷ 0x99 ∷ 0x99
    ∷ (0x50 ∷ 1 ∷ 2 ∷ 3 ∷ 4 ∷ 5 ∷ 6 ∷ 7 ∷ 0x51 ∷ 8 ∷ 9 ∷ 10 ∷ 11 ∷ 12 ∷ 13 ∷ 14 ∷ 33 ∷ (replicate 11 0x99 ++ (0xf2 ∷ replicate more 0x99)))))

abbrev shown-phy : Discovered
shown-phy =
    fields (record {
      identifier = record { 0 = 17 };
      device_type = 2;
      own_address = 0x5001020304050607;
      attached_address = 0x5108090a0b0c0d0e;
      attached_phy = record { 0 = 33 };
      attribute = 2;
    })

discovers : (discover_read (discover 0x00 7) ≡ good shown-phy)
    × ((discover_read (set (discover 0x00 7) 2 0x16) ≡ good (vacant 0x16))
    × ((discover_read (set (set (discover 0x00 7) 2 0x16) 1 0) ≡ refused (refusal 2 0 0))
    × (discover_read (discover 0x00 8) ≡ refused (refusal 1 0 0))))
unfolding discover_read frame_size discover_fixed number_at discover
discovers = (refl, (refl, (refl, refl)))

-- a long frame, one of a vacant phy; 10h is REPORT GENERAL's
long-discovers : (discover_read (discover 0x0f 19) ≡ good shown-phy)
    × ((discover_read (set (discover 0x0f 19) 2 0x16) ≡ good (vacant 0x16))
    × ((discover_read (discover 0x10 23) ≡ refused (refusal 2 0 0))
    × ((discover_read (set (discover 0x0f 18) 0 0) ≡ refused (refusal 1 0 0))
    × (discover_read (set (discover 0x0f 19) 1 0) ≡ refused (refusal 2 0 0)))))
unfolding discover_read frame_size discover_fixed number_at discover
long-discovers = (refl, (refl, (refl, (refl, refl))))
