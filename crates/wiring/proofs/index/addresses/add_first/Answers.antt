-- add_first meets its contract: by what is attached, an end device goes into the tree, and who has the address is written.
use mathlib.Core.Path.{sym, ◌∙◌}
use Rattle.wiring.proofs.index.IndexWriting.{phy-few, here-few, first-nothing, first-can, first_device, first_look, first-other}
use Rattle.wiring.proofs.index.IndexKept.{kept-none, first-kept}
use native.Mathlib.Omega.{arith}
use Rattle.wiring.proofs.index.addresses.add_first.Goals as goal

pub returns-then-device_type-eq0 : goal.returns-then-device_type-eq0
returns-then-device_type-eq0 c = (first-nothing _ _ _ _ c.requires.1.0 c.requires.1.1 _ _ _ c.requires.0 (sym c.phy_type-device_type.ensures ∙ c.if-device_type-eq0.true), kept-none _)

pub add-requires : goal.add-requires
add-requires c =
    rw c.phy_address-s.ensures (first-can _ _ _ _ c.requires.1.0 c.requires.1.1 _ _ _ c.requires.0 (sym c.phy_type-device_type.ensures ∙ c.if-device_type-eq1.true))

pub bounds-first-t : goal.bounds-first-t
bounds-first-t c = omega (arith, c.requires.0.slots, phy-few _ _ _ _ c.requires.1.0 c.requires.1.1, (here-few _ _ _ _ c.requires.1.0 c.requires.1.1).0)

pub returns-then-device_type-eq1 : goal.returns-then-device_type-eq1
returns-then-device_type-eq1 c =
    (first_device _ _ _ _ c.requires.1.0 c.requires.1.1 _ _ _ c.requires.0 (sym c.phy_type-device_type.ensures ∙ c.if-device_type-eq1.true) _ _ (rw c.phy_address-s.ensures at c.add.ensures), first-kept _ _ _ _ c.requires.1.0 c.requires.1.1 (λ z. c.if-device_type-eq0.false (c.phy_type-device_type.ensures ∙ z)) _ _)

pub find-c-requires : goal.find-c-requires
find-c-requires c = first_look _ _ _ _ c.requires.1.0 c.requires.1.1 _ _ _ c.requires.0

pub bounds-first-t-2 : goal.bounds-first-t-2
bounds-first-t-2 c = omega (arith, c.requires.0.slots, phy-few _ _ _ _ c.requires.1.0 c.requires.1.1, (here-few _ _ _ _ c.requires.1.0 c.requires.1.1).0)

pub returns : goal.returns
returns c =
    (first-other _ _ _ _ c.requires.1.0 c.requires.1.1 _ _ _ c.requires.0 (omega (arith, c.phy_type-device_type.ensures, c.if-device_type-eq0.false, c.if-device_type-eq1.false)) _ _ (rw c.phy_address-s.ensures at c.find-c.ensures.0) c.slot_in.ensures, first-kept _ _ _ _ c.requires.1.0 c.requires.1.1 (λ z. c.if-device_type-eq0.false (c.phy_type-device_type.ensures ∙ z)) _ _)
