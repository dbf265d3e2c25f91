-- Steps (i) to (v): what an expander does with a request.
use Rattle.std.specs.Prelude.{ℕ, Bool, cond, ◌&&◌, List, [], ◌∷◌, length, eqb}
use Rattle.tables.specs.WiringDefinitions.{Domain, expander_at, phy_at, address_of, attached_phy_of, is_table, is_subtractive, to_end, to_expander, bears, number_of, up_to, is_in}
use Rattle.tables.specs.filling.Tables.{stretch}

-- arrived here; arrived at the end device of a phy; BAD DESTINATION; NO DESTINATION; on to an expander with its arrival phy
pub data Step : Type 0 where
  here : Step
  end_device : ℕ → Step
  bad : Step
  lost : Step
  onward : ℕ → ℕ → Step

-- the phy that a step picks, or none
pub data Pick : Type 0 where
  at : ℕ → Pick
  nowhere : Pick

-- the first of these phys for which the test holds
unfoldable pub pick : (ℕ → Bool) → List ℕ → Pick
pick test [] = nowhere
pick test (p ∷ ps) = cond (test p) (at p) (pick test ps)

-- the phys of expander i, lowest first
abbrev pub phy_numbers : Domain → ℕ → List ℕ
phy_numbers d i = up_to (length (expander_at d i).phys)

-- the address at the arrival phy; with arrival phy 255 there is none, and no device bears 0
abbrev pub came_from : Domain → ℕ → ℕ → ℕ
came_from d i p = cond (eqb p 255) 0 (address_of (phy_at d i p))

-- on over phy p of expander i: to the attached expander, and the far phy is the arrival phy
abbrev pub move_by : Domain → ℕ → ℕ → Step
move_by d i p = onward (number_of d (address_of (phy_at d i p))) (attached_phy_of (phy_at d i p))

-- (iv), or (v): the lowest subtractive phy attached to an expander, unless the arrival phy is attached to that same address
unfoldable pub subtractively : Domain → ℕ → ℕ → Pick → Step
subtractively d i came nowhere = lost
subtractively d i came (at p) = cond (eqb (address_of (phy_at d i p)) came) lost (move_by d i p)

-- (iii): of the table phys attached to an expander, the lowest that has the address in its own stretch; else what comes after
unfoldable pub by_table : Domain → ℕ → ℕ → Pick → Step → Step
by_table d i came nowhere after = after
by_table d i came (at p) after = cond (eqb (address_of (phy_at d i p)) came) bad (move_by d i p)

-- (ii): the lowest attached phy bearing the address: arrived there if type 1; else what comes after
abbrev pub arriving : Domain → ℕ → ℕ → ℕ → Step
arriving d i came p = cond (eqb (address_of (phy_at d i p)) came) bad (cond (to_end (phy_at d i p)) (end_device p) (move_by d i p))

unfoldable pub directly : Domain → ℕ → ℕ → Pick → Step → Step
directly d i came nowhere after = after
directly d i came (at p) after = arriving d i came p

-- the test of (ii), (iii) and (iv)
abbrev pub bearing : Domain → ℕ → ℕ → ℕ → Bool
bearing d i s p = bears s (phy_at d i p)

abbrev pub listing : Domain → List ℕ → ℕ → ℕ → ℕ → Bool
listing d words i s p = to_expander (phy_at d i p) && (is_table (phy_at d i p) && is_in s (stretch d words i p))

abbrev pub subtracting : Domain → ℕ → ℕ → Bool
subtracting d i p = to_expander (phy_at d i p) && is_subtractive (phy_at d i p)

-- the step of expander i for address s, arrived at this phy
unfoldable pub step : Domain → List ℕ → ℕ → ℕ → ℕ → Step
step d words i arrival s =
    cond (eqb (expander_at d i).address s) here
    (directly d i (came_from d i arrival) (pick (bearing d i s) (phy_numbers d i))
    (by_table d i (came_from d i arrival) (pick (listing d words i s) (phy_numbers d i))
    (subtractively d i (came_from d i arrival) (pick (subtracting d i) (phy_numbers d i)))))
