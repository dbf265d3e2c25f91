-- has_clash meets its contract. The loop's invariant: no phy below q clashes with phy p.
use mathlib.Core.Path.{sym, ◌∙◌}
use borrow.Author.Tests.{eq-eqb}
use Rattle.files.proofs.RowsAsDomain.{phy-held}
use Rattle.files.specs.Domain.{Domain, expander_at, type_of}
use Rattle.files.specs.Rows.{domain_in}
use Rattle.tables.proofs.events.RetestLoops.{no_clash, clash-start, clash-stop, clash-go, clash-end}
use native.Mathlib.Omega.{arith}
use Rattle.tables.proofs.events.retesting.has_clash.Goals as goal

pub returns-then-phy_type-eq0 : goal.returns-then-phy_type-eq0
returns-then-phy_type-eq0 c =
    let a = c.args in
    no_clash (domain_in a.rows.now) a.i.0 a.p.0 (c.phy_in_row-f.ensures ∙ phy-held _ _ _ (c.requires)) (simp (eq-eqb (type_of c.phy_in_row-f.result) 0 (omega arith)))

pub loop-q-init : goal.loop-q-init
loop-q-init c =
    let a = c.args in
    clash-start (domain_in a.rows.now) a.i.0 a.p.0 (c.phy_in_row-f.ensures ∙ phy-held _ _ _ (c.requires))

pub returns-then-is_clash : goal.returns-then-is_clash
returns-then-is_clash c =
    let a = c.args in
    let d : Domain = domain_in a.rows.now in
    let h = c.requires in
    clash-stop d a.i.0 a.p.0 c.loop-q.q (c.phy_in_row-f.ensures ∙ phy-held _ _ _ h) (c.phy_in_row-g.ensures ∙ phy-held _ _ _ (omega arith)) (omega arith) h (sym c.is_clash.ensures ∙ c.if-is_clash.true)

pub loop-q-preserved : goal.loop-q-preserved
loop-q-preserved c =
    let a = c.args in
    let d : Domain = domain_in a.rows.now in
    let h = c.requires in
    clash-go (expander_at d a.i.0).phys c.phy_in_row-f.result a.p.0 c.loop-q.q c.loop-q.invariant (c.phy_in_row-g.ensures ∙ phy-held _ _ _ (omega arith)) (omega arith) (sym c.is_clash.ensures ∙ c.if-is_clash.false)

pub returns : goal.returns
returns c =
    let a = c.args in
    let d : Domain = domain_in a.rows.now in
    clash-end (expander_at d a.i.0).phys c.phy_in_row-f.result a.p.0 c.loop-q.q c.loop-q.invariant (omega arith)
