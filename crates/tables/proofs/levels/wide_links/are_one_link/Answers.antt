-- are_one_link meets its contract: the addresses, and whether the levels go on at each, tell.
use mathlib.Core.Path.{refl, sym, ◌∙◌, ap}
use mathlib.Core.Bool.{◌&&◌, and-true, and-false}
use borrow.Author.Tests.{eq-eqb, ne_eqb, not-true, not-false}
use Rattle.files.specs.Domain.{address_of}
use Rattle.files.specs.Rows.{domain_in}
use Rattle.tables.specs.levels.Levels.{down}
use native.Mathlib.Omega.{arith}
use Rattle.tables.proofs.levels.LinkPhys.{linked-by}
use Rattle.tables.proofs.levels.wide_links.are_one_link.Goals as goal

pub returns-then-phy_address : goal.returns-then-phy_address
returns-then-phy_address c =
    let a = c.args in
    let d = domain_in a.d.now.rows.now in
    let f = c.phy_address.ensures in
    let g = c.phy_address-2.ensures in
    sym (linked-by d a.f a.g refl refl (ne_eqb (address_of a.f) (address_of a.g) (λ e. omega arith))
    ∙ ap (λ b. down d a.f && b) (and-false (down d a.g)) ∙ and-false (down d a.f))

pub returns-then-not-is_down : goal.returns-then-not-is_down
returns-then-not-is_down c =
    let a = c.args in
    sym (linked-by (domain_in a.d.now.rows.now) a.f a.g (sym c.is_down.ensures ∙ not-true _ c.if-not-is_down.true-raw) refl refl)

pub returns : goal.returns
returns c =
    let a = c.args in
    let f = c.phy_address.ensures in
    let g = c.phy_address-2.ensures in
    let same = eq-eqb (address_of a.f) (address_of a.g) (omega arith) in
    c.is_down-2.ensures ∙ sym (linked-by (domain_in a.d.now.rows.now) a.f a.g (sym c.is_down.ensures ∙ not-false _ c.if-not-is_down.false-raw) refl same ∙ and-true _)
