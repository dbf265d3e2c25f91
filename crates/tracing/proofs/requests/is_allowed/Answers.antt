-- is_allowed meets its contract: the three tests of cause 15 in the definition's order.
use Prim.Native.Nat.{ℕ}
use mathlib.Core.Path.{refl, sym, ◌∙◌, ap}
use native.Mathlib.Omega.{arith}
use lib.Dec.{eqb}
use lib.ListN.{length}
use borrow.Author.Tests.{eq-eqb, ne_eqb, lt-ltb, le-ltb}
use Rattle.tables.specs.WiringDefinitions.{Domain, type_of}
use Rattle.tables.specs.WiringDefinitions.{domain_in}
use Rattle.tracing.proofs.RequestCauses.{allowed-by}
use Rattle.tracing.proofs.requests.is_allowed.Goals as goal

pub returns-then-expander_count-start : goal.returns-then-expander_count-start
returns-then-expander_count-start c =
    let a = c.args in
    let d : Domain = domain_in a.rows.now in
    sym (allowed-by d a.start.0 a.arrival.0 (le-ltb a.start.0 (length d) (omega arith)) refl refl)

pub returns-then-arrival-eq255 : goal.returns-then-arrival-eq255
returns-then-arrival-eq255 c =
    let a = c.args in
    let d : Domain = domain_in a.rows.now in
    let e = eq-eqb a.arrival.0 255 c.if-arrival-eq255.true in
    sym (allowed-by d a.start.0 a.arrival.0 (lt-ltb a.start.0 (length d) (omega arith)) e refl)

pub returns : goal.returns
returns c =
    let a = c.args in
    let d : Domain = domain_in a.rows.now in
    let e = ne_eqb a.arrival.0 255 c.if-arrival-eq255.false in
    ap (λ (x : ℕ). eqb x 1) (c.phy_type.ensures ∙ ap type_of c.phy_at.ensures)
    ∙ sym (allowed-by d a.start.0 a.arrival.0 (lt-ltb a.start.0 (length d) (omega arith)) e refl)
