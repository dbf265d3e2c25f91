-- Reading a card under a setting: cause 22, then 19 over the whole card, then causes 3, 4 and 6 as in a file.
use Rattle.std.specs.Prelude.{ℕ, ◌+◌, ◌-◌, ◌*◌, Bool, true, not, ◌&&◌, List, [], ◌∷◌, ◌++◌, length, drop, eqb}
use Rattle.frames.specs.Bits.{field, bits_of, bytes_for}
use Rattle.frames.specs.Refusals.{Result, good, unless, then, refusal}
use Rattle.files.specs.declared.Setting.{Setting}
use Rattle.files.specs.declared.ExpanderUnit.{ExpanderUnit}
use Rattle.files.specs.declared.Phy.{Phy}
use Rattle.files.specs.declared.Phy.TheVariants.{Vacant, Present}
use Rattle.files.specs.Settings.{within, in_range}
use Rattle.files.specs.Domain.{Expander, Domain}
use Rattle.files.specs.File.{ranged, unit_tested}
use Rattle.cards.specs.Card.{card_size, domain_on}

-- a vacant phy's result is not zero
abbrev pub result_fine : Phy → Bool
result_fine (Vacant result) = not (eqb result 0)
result_fine (Present f) = true

unfoldable pub results_fine : List Phy → Bool
results_fine [] = true
results_fine (φ ∷ φs) = result_fine φ && results_fine φs

unfoldable pub all_fine : Domain → Bool
all_fine [] = true
all_fine (e ∷ d) = results_fine e.phys && all_fine d

-- 19 does not hold: version, the six zero bits, the results, the length, the zero bits that fill the last byte
unfoldable pub formed : List ℕ → Domain → Bool
formed card d =
    eqb (field 4 (bits_of card)) 2 && (eqb (field 6 (drop 10 (bits_of card))) 0
    && (all_fine d && (eqb (length card) (bytes_for (card_size d))
    && eqb (field (8 * length card - card_size d) (drop (card_size d) (bits_of card))) 0)))

-- 6 does not hold: the file's test
abbrev pub phy_ranged : Phy → Bool
phy_ranged (Vacant result) = true
phy_ranged (Present f) = ranged f

-- 6 in phys from phy p on, and then what follows
unfoldable pub phys_tested : ℕ → ℕ → List Phy → Result Domain → Result Domain
phys_tested i p [] k = k
phys_tested i p (φ ∷ φs) k = unless (phy_ranged φ) (refusal 6 i p) (phys_tested i (p + 1) φs k)

abbrev pub unit_fields : Expander → ExpanderUnit
unit_fields e = record { address = e.address; route_indexes = e.route_indexes; phys = length e.phys; configurable = e.configurable }

-- 3, 4 and 6, unit by unit from expander i on, where `used` are the addresses of the expanders before it, and then what follows
unfoldable pub units_tested : Setting → ℕ → List ℕ → Domain → Result Domain → Result Domain
units_tested most i used [] k = k
units_tested most i used (e ∷ d) k =
    then (unit_tested most used i (unit_fields e)) (λ u.
    phys_tested i 0 e.phys (units_tested most (i + 1) (used ++ (e.address ∷ [])) d k))

-- 19 over the whole card, then 3 for the count, then unit by unit
abbrev pub card_read_by : Setting → List ℕ → Domain → Result Domain
card_read_by most card d =
    unless (formed card d) (refusal 19 0 0)
    (unless (within most.expanders (length d)) (refusal 3 0 0)
    (units_tested most 0 [] d (good d)))

unfoldable pub card_read : Setting → List ℕ → Result Domain
card_read most card = unless (in_range most) (refusal 22 0 0) (card_read_by most card (domain_on (bits_of card)))
