-- is_clash meets its contract: a return for each way in which the tests on type, address and attribute end.
use mathlib.Core.Path.{ap, ap₂}
use mathlib.Core.Bool.{not}
use lib.Dec.{eqb}
use borrow.Author.Tests.{eq-eqb, ne_eqb}
use Rattle.files.specs.Domain.{type_of, address_of, attribute_of}
use Rattle.wiring.specs.phys.PhyCauses.{clash}
use native.Mathlib.Omega.{arith}
use Rattle.tables.proofs.events.retesting.is_clash.Goals as goal

pub returns-then-phy_type-eq0 : goal.returns-then-phy_type-eq0
unfolding clash
returns-then-phy_type-eq0 c =
    let a = c.args in
    simp (eq-eqb (type_of a.f) 0 (omega arith))

pub returns-then-phy_type-eq0-2 : goal.returns-then-phy_type-eq0-2
unfolding clash
returns-then-phy_type-eq0-2 c =
    let a = c.args in
    simp (ne_eqb (type_of a.f) 0 (λ e. omega arith), eq-eqb (type_of a.g) 0 (omega arith))

pub returns-then-phy_address : goal.returns-then-phy_address
unfolding clash
returns-then-phy_address c =
    let a = c.args in
    simp (ne_eqb (type_of a.f) 0 (λ e. omega arith), ne_eqb (type_of a.g) 0 (λ e. omega arith), eq-eqb (address_of a.f) (address_of a.g) (omega arith)) (ap₂ (λ x y. not (eqb x y)) c.phy_attribute.ensures c.phy_attribute-then-phy_address.ensures)

pub returns-then-phy_attribute-ne1 : goal.returns-then-phy_attribute-ne1
unfolding clash
returns-then-phy_attribute-ne1 c =
    let a = c.args in
    simp (ne_eqb (type_of a.f) 0 (λ e. omega arith), ne_eqb (type_of a.g) 0 (λ e. omega arith), ne_eqb (address_of a.f) (address_of a.g) (λ e. omega arith), ne_eqb (attribute_of a.f) 1 (λ e. omega arith))

pub returns : goal.returns
unfolding clash
returns c =
    let a = c.args in
    simp (ne_eqb (type_of a.f) 0 (λ e. omega arith), ne_eqb (type_of a.g) 0 (λ e. omega arith), ne_eqb (address_of a.f) (address_of a.g) (λ e. omega arith), eq-eqb (attribute_of a.f) 1 (omega arith)) (ap (λ n. eqb n 1) c.phy_attribute-3.ensures)
