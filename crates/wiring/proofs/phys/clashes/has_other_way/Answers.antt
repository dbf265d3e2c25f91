-- has_other_way meets its contract. The loop's invariant: no phy from q on and below p is subtractive and attached. The first that is tells,
-- because those downstream of it lead where it leads.
use Prim.Native.Nat.{ℕ, ◌-◌}
use mathlib.Core.Path.{sym, ◌∙◌, ap}
use mathlib.Core.Logic.{by_cases}
use mathlib.Core.Bool.{not}
use native.Mathlib.Decide.{ℕ_discrete}
use lib.Dec.{eqb}
use Rattle.files.proofs.RowsAsDomain.{phy-held}
use Rattle.files.specs.Domain.{phy_at, address_of}
use Rattle.files.specs.Rows.{domain_in}
use Rattle.wiring.specs.phys.Clashes.{subtractive}
use Rattle.files.proofs.ListMembers.{was_true}
use Rattle.wiring.proofs.phys.LowerPhys.{way-found, way-none}
use native.Mathlib.Omega.{arith}
use Rattle.wiring.proofs.phys.clashes.has_other_way.Goals as goal

pub returns-then-is_subtractive : goal.returns-then-is_subtractive
returns-then-is_subtractive c =
    let a = c.args in
    let pre = c.requires in
    let d = domain_in a.rows.now in
    let w = pre.within in
    let e = c.phy_in_row-f.ensures ∙ phy-held _ _ _ (omega arith) in
    ap (λ (x : ℕ). not (eqb x a.s)) (c.phy_address.ensures ∙ ap address_of e)
    ∙ way-found d a.i.0 a.p.0 pre a.s (c.loop-q.q - 1) (omega arith)
    (was_true _ (sym (c.is_subtractive.ensures ∙ ap subtractive e) ∙ c.if-is_subtractive.true)) (λ r h k. c.loop-q.invariant r (omega arith) k)

pub loop-q-preserved : goal.loop-q-preserved
loop-q-preserved c =
    let at_pre = c.requires in
    let a = c.args in
    let d = domain_in a.rows.now in
    let w = at_pre.within in
    let e = c.phy_in_row-f.ensures ∙ phy-held _ _ _ (omega arith) in
    λ r h k. by_cases (ℕ_discrete r (c.loop-q.q - 1))
    (λ z. ap (λ (x : ℕ). subtractive (phy_at d a.i.0 x)) z ∙ sym (c.is_subtractive.ensures ∙ ap subtractive e) ∙ c.if-is_subtractive.false)
    (λ z. c.loop-q.invariant r (omega arith) k)

pub returns : goal.returns
returns c = way-none _ _ _ c.requires c.args.s (λ r h. c.loop-q.invariant r (omega arith) h)
