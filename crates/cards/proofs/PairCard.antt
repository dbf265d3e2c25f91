-- The pair rig as a card, by hand; and cards that are refused, in each way.
use Prim.Native.Nat.{ℕ, ◌+◌}
use mathlib.Core.Path.{◌≡◌, refl}
use mathlib.Core.List.{List, [], ◌∷◌, ◌++◌}
use lib.ListN.{length, take, set}
use Rattle.frames.specs.Bytes.{number_at, bytes_of}
use Rattle.frames.specs.Bits.{number_bits, field, bits_of, packed_in}
use Rattle.frames.specs.Sizes.{frame_size}
use Rattle.frames.specs.ReportGeneral.{general_fixed, general_read}
use Rattle.frames.specs.Discovery.{discover_fixed, discover_read}
use Rattle.cards.specs.ShortFrames.{short_general, short_vacant, short_discover}
use Rattle.frames.specs.Refusals.{refused, good, refusal}
use Rattle.files.specs.declared.Setting.{Setting}
use Rattle.files.specs.declared.Phy.{Phy}
use Rattle.files.specs.declared.Phy.TheVariants.{Vacant, Present}
use Rattle.files.specs.Lists.{any, is_in}
use Rattle.files.specs.Settings.{in_range, widest}
use Rattle.files.specs.Domain.{Domain}
use Rattle.files.specs.File.{size_at, domain_read, header_unit, expanders, expander_unit, phy_units, phy_unit}
use Rattle.cards.specs.Card.{phys_bits, expanders_bits, card_bits, card_of, phys_size, expanders_size, card_size, phy_on, phys_on, expander_on, expanders_on, domain_on}
use Rattle.cards.specs.CardRead.{results_fine, all_fine, formed, phys_tested, units_tested, card_read}
use Rattle.cards.specs.FileOf.{phys_frames, unit_head, units_of, file_of}

abbrev at : ℕ → ℕ
at s = 0x5000000000000000 + s

abbrev phy : ℕ → ℕ → ℕ → ℕ → Phy
phy device_type attribute address attached_phy = Present (record { device_type = device_type; attribute = attribute; address = address; attached_phy = record { 0 = attached_phy } })

pair : Domain
pair =
    record { address = at 0x10; route_indexes = 4; configurable = 1; phys = phy 2 2 (at 0x20) 0 ∷ phy 1 0 (at 0xa1) 0 ∷ [] }
    ∷ record { address = at 0x20; route_indexes = 0; configurable = 0; phys = phy 2 1 (at 0x10) 0 ∷ phy 1 0 (at 0xb1) 0 ∷ phy 0 0 0 0 ∷ [] }
    ∷ []

-- the 64 bytes of its card, packed by hand: 0010 000001 000000, 5000000000000010h, 0004h, 1, 0000001, 1 010 10 ..
card : List ℕ
card = 0x20 ∷ 0x40 ∷ 0x50 ∷ 0 ∷ 0 ∷ 0 ∷ 0 ∷ 0 ∷ 0 ∷ 0x10 ∷ 0 ∷ 4 ∷ 0x81 ∷ 0xa9 ∷ 0x40 ∷ 0 ∷ 0 ∷ 0 ∷ 0 ∷ 0 ∷ 0 ∷ 0x80 ∷ 2 ∷ 0x45 ∷ 0 ∷ 0 ∷ 0 ∷ 0 ∷ 0 ∷ 0 ∷ 0xa ∷ 0x10 ∷ 5 ∷ 0 ∷ 0 ∷ 0 ∷ 0 ∷ 0 ∷ 0 ∷ 2 ∷ 0 ∷ 0 ∷ 0 ∷ 0x2a ∷ 0x54 ∷ 0 ∷ 0 ∷ 0 ∷ 0 ∷ 0 ∷ 0 ∷ 4 ∷ 0 ∷ 0x24 ∷ 0x50 ∷ 0 ∷ 0 ∷ 0 ∷ 0 ∷ 0 ∷ 0 ∷ 0xb1 ∷ 0 ∷ 0x80 ∷ []

-- one expander, with this phy and a vacant one with result 16h
odd : Phy → Domain
odd φ = record { address = at 0x30; route_indexes = 65535; configurable = 0; phys = φ ∷ Vacant 0x16 ∷ [] } ∷ []

course : ℕ → ℕ → Setting
course expanders phys = record { expanders = expanders; phys = phys; chain = 64 }

record PairCard : Type 0 where
  size : card_size pair ≡ 510
  bytes : card_of pair ≡ card
  file : length (file_of pair) ≡ 334
  reads-file : domain_read widest (file_of pair) ≡ good pair
  reads-card : card_read widest card ≡ good pair
  -- version, zero bits, fill, length
  version : card_read widest (set card 0 0x30) ≡ refused (refusal 19 0 0)
  zeros : card_read widest (set card 1 0x41) ≡ refused (refusal 19 0 0)
  fill : card_read widest (set card 63 0x81) ≡ refused (refusal 19 0 0)
  longer : card_read widest (card ++ (0 ∷ [])) ≡ refused (refusal 19 0 0)
  shorter : card_read widest (take 63 card) ≡ refused (refusal 19 0 0)
  empty : card_read widest [] ≡ refused (refusal 19 0 0)
  -- a vacant phy's result
  result : card_read widest (card_of (odd (Vacant 0))) ≡ refused (refusal 19 0 0)
  vacant : card_read widest (card_of (odd (Vacant 7))) ≡ good (odd (Vacant 7))
  -- 22, and 3 by the setting: the count of expanders, and of the second one's phys
  setting : card_read (course 65 128) [] ≡ refused (refusal 22 0 0)
  many : card_read (course 1 2) card ≡ refused (refusal 3 0 0)
  phys : card_read (course 2 2) card ≡ refused (refusal 3 1 0)
  -- 4: zero, and the second address; 6: type, attribute, address
  zero-address : card_read widest (card_of (record { address = 0; route_indexes = 0; configurable = 0; phys = phy 4 0 0 0 ∷ [] } ∷ [])) ≡ refused (refusal 4 0 0)
  twice : card_read widest (card_of (odd (Vacant 1) ++ odd (Vacant 1))) ≡ refused (refusal 4 1 0)
  type : card_read widest (card_of (odd (phy 4 0 1 0))) ≡ refused (refusal 6 0 0)
  attribute : card_read widest (card_of (odd (phy 0 3 0 0))) ≡ refused (refusal 6 0 0)
  nowhere : card_read widest (card_of (odd (phy 1 0 0 5))) ≡ refused (refusal 6 0 0)
  -- what a phy with type 0 names is not on the card
  unattached : card_read widest (card_of (odd (phy 0 1 (at 0x99) 9))) ≡ good (odd (phy 0 1 0 0))

pair-card : PairCard
unfolding pair card odd course phys_size expanders_size number_bits phys_bits expanders_bits card_bits packed_in field bits_of phy_on phys_on expander_on expanders_on domain_on
    results_fine all_fine formed phys_tested units_tested card_read any is_in in_range
    short_general short_vacant short_discover phys_frames unit_head units_of file_of
    number_at bytes_of frame_size size_at general_fixed general_read discover_fixed discover_read phy_unit phy_units expander_unit expanders header_unit domain_read
pair-card = record {
  size = refl;
  bytes = refl;
  file = refl;
  reads-file = refl;
  reads-card = refl;
  version = refl;
  zeros = refl;
  fill = refl;
  longer = refl;
  shorter = refl;
  empty = refl;
  result = refl;
  vacant = refl;
  setting = refl;
  many = refl;
  phys = refl;
  zero-address = refl;
  twice = refl;
  type = refl;
  attribute = refl;
  nowhere = refl;
  unattached = refl;
}
