-- A solution with a hole and a wide drive, worked; what has no rig, in each way; and one byte too few.
use Prim.Native.Nat.{ℕ, ◌+◌}
use mathlib.Core.Path.{◌≡◌, refl}
use mathlib.Core.Bool.{true, false}
use mathlib.Core.List.{List, [], ◌∷◌, ◌++◌, flat_map}
use lib.ListN.{replicate}
use Rattle.cards.specs.ShortFrames.{short_general, short_vacant, short_discover}
use Rattle.wiring.specs.FrameDefinitions.{Result, refused, good, then, refusal}
use Rattle.files.specs.Settings.{widest}
use Rattle.frames.specs.Refusals.{length_of}
use Rattle.tables.proofs.WorkedDefinitions.{number_at, bytes_of, frame_size, general_fixed, general_read, discover_fixed, discover_read, numbers, any, keep, is_in, number_of, size_at, phy_unit, phy_units, expander_unit, expanders, header_unit, domain_read, unanswered, end_at, claimed, clash, clashing, fixed, phy_places, places_from, first_in, wired_domain, strip, reach, cabled, neighbours, in_range, chains_within, unlong, unlooped, joined, joined_in, linked_domain}
use Rattle.tables.specs.levels.Levels.{each_once, downstream_of_phys, downstream, next_level, levels_from, levels}
use Rattle.tables.specs.filling.Tables.{address_at, gives, give, give_all, level_list, table, table_places, tables}
use Rattle.tables.specs.JudgingCall.{overlong, judged_domain, judged}
use Rattle.cards.specs.FileOf.{phys_frames, unit_head, units_of, file_of}
use Rattle.exercises.specs.Rig.{trimmed, made, no_rig}
use Rattle.exercises.specs.Call.{make_call}

abbrev at : ℕ → ℕ
at s = 0x5000000000000000 + s

-- a drive, a hole, another drive by two phys, and two disabled entries at the end
words : List ℕ
words = at 0xb1 ∷ 0 ∷ at 0xb2 ∷ at 0xb2 ∷ 0 ∷ 0 ∷ []

make : List ℕ → ℕ → Result ℕ
make ws room = then (make_call (at 0x10) (at 0x20) ws room) length_of

record WorkedExercise : Type 0 where
  -- two expanders' units, two phys for the cable, and four for the words
  size : make words 386 ≡ good 386
  short : make words 385 ≡ refused (refusal 16 0 0)
  accepted : judged widest (file_of (made (at 0x10) (at 0x20) words)) ≡ good (made (at 0x10) (at 0x20) words)
  listed : tables (made (at 0x10) (at 0x20) words) ≡ words
  -- no words, and zeros alone: the second expander has one phy
  empty : make [] 178 ≡ good 178
  zeros : make (0 ∷ 0 ∷ []) 178 ≡ good 178
  -- an address zero, both equal, a word that is one of them; 24 also where nothing is lent
  no_first_lem : make_call 0 (at 0x20) words 0 ≡ refused (refusal 24 0 0)
  no_second : make_call (at 0x10) 0 words 0 ≡ refused (refusal 24 0 0)
  equal : make_call (at 0x10) (at 0x10) words 0 ≡ refused (refusal 24 0 0)
  first_word : make (at 0xb1 ∷ at 0x10 ∷ []) 0 ≡ refused (refusal 24 0 0)
  second_word : make (0 ∷ at 0x20 ∷ []) 0 ≡ refused (refusal 24 0 0)
  -- index 126 is the last that can have a drive; zeros after it are fine
  last : no_rig (at 0x10) (at 0x20) (replicate 126 0 ++ (at 0xb1 ∷ 0 ∷ 0 ∷ [])) ≡ false
  late : no_rig (at 0x10) (at 0x20) (replicate 127 0 ++ (at 0xb1 ∷ [])) ≡ true

worked_exercise : WorkedExercise
unfolding words make
    short_general short_vacant short_discover phys_frames unit_head units_of file_of trimmed made no_rig make_call
    number_at bytes_of frame_size general_fixed general_read discover_fixed discover_read
    numbers any keep is_in number_of size_at phy_unit phy_units expander_unit expanders header_unit in_range domain_read
    unanswered end_at claimed clash clashing fixed phy_places places_from first_in wired_domain
    strip reach cabled neighbours unlooped joined joined_in chains_within unlong linked_domain
    each_once downstream_of_phys downstream next_level levels_from levels flat_map
    address_at gives give give_all level_list overlong judged_domain table table_places tables
worked_exercise = record {
  size = refl;
  short = refl;
  accepted = refl;
  listed = refl;
  empty = refl;
  zeros = refl;
  no_first_lem = refl;
  no_second = refl;
  equal = refl;
  first_word = refl;
  second_word = refl;
  last = refl;
  late = refl;
}
