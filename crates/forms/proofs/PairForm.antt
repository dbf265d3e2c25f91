-- The pair rig as a compact form, packed by hand. Its words are taken; with one field altered, or one word more or fewer, they are not.
use Prim.Native.Nat.{ℕ}
use mathlib.Core.Path.{◌≡◌, refl}
use mathlib.Core.Bool.{true, false}
use mathlib.Core.List.{List, [], ◌∷◌, ◌++◌, flat_map}
use lib.ListN.{take, set}
use Rattle.files.specs.Settings.{widest}
use Rattle.tables.proofs.WorkedDefinitions.{numbers, any, keep, is_in, number_of, unanswered, end_at, claimed, clash, clashing, fixed, phy_places, places_from, first_in, wired_domain, strip, reach, cabled, neighbours, chains_within, unlong, unlooped, joined, joined_in, linked_domain}
use Rattle.tables.specs.levels.Levels.{each_once, downstream_of_phys, downstream, next_level, levels_from, levels}
use Rattle.tables.specs.filling.Tables.{address_at, gives, give, give_all, level_list}
use Rattle.tables.specs.JudgingCall.{overlong, judged_domain}
use Rattle.tracing.proofs.PairRig.{at, rig}
use Rattle.forms.specs.Form.{form_expanders, form_of, phys_back, expander_back, expanders_back, form_in}
use Rattle.forms.specs.FormCalls.{bad_unit, unread, formed}

-- each expander's address, R and phy count; each phy's attached address, and then type, attribute, attached expander and attached phy
form : List ℕ
form =
    at 0x10 ∷ 0x0004020000000000 ∷ at 0x20 ∷ 0x5020000000000000 ∷ at 0xa1 ∷ 0x2000000000000000
    ∷ at 0x20 ∷ 0x0000030000000000 ∷ at 0x10 ∷ 0x4800000000000000 ∷ at 0xb1 ∷ 0x2000000000000000 ∷ 0 ∷ 0 ∷ []

record PairForm : Type 0 where
  words : form_of (rig 4) ≡ form
  taken : formed widest form ≡ true
  longer : formed widest (form ++ (0 ∷ [])) ≡ false
  shorter : formed widest (take 13 form) ≡ false
  -- a bit below R and phy count; another attached expander; an address where nothing is attached; R too small for the list
  below-count : formed widest (set form 1 0x0004020000000001) ≡ false
  expander : formed widest (set form 3 0x5000000000000000) ≡ false
  unattached : formed widest (set form 12 (at 0xc1)) ≡ false
  overlong : formed widest (set form 1 0x0001020000000000) ≡ false

pair-form : PairForm
unfolding form rig form_expanders form_of phys_back expander_back expanders_back form_in bad_unit unread formed
    numbers any keep is_in number_of unanswered end_at claimed clash clashing fixed phy_places places_from first_in wired_domain strip reach cabled neighbours chains_within unlong unlooped joined joined_in linked_domain
    each_once downstream_of_phys downstream next_level levels_from levels address_at gives give give_all level_list overlong judged_domain flat_map
pair-form = record { words = refl; taken = refl; longer = refl; shorter = refl; below-count = refl; expander = refl; unattached = refl; overlong = refl }
