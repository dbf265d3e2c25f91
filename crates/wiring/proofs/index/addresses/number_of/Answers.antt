-- number_of meets its contract: as many as were passed, and the number among those that are left.
use mathlib.Core.Path.{sym, ◌∙◌}
use Rattle.files.specs.Rows.{domain_in}
use Rattle.wiring.proofs.index.ExpanderNumbers.{number-stop, number-go, number-end}
use native.Mathlib.Omega.{arith}
use Rattle.wiring.proofs.index.addresses.number_of.Goals as goal

pub returns-then-expander_address-s : goal.returns-then-expander_address-s
returns-then-expander_address-s c =
    let at-args = c.args in
    number-stop (domain_in at-args.rows.now) at-args.s c.loop-i.i c.loop-i.invariant (omega (arith, c.expander_count-n.ensures.0)) (sym c.expander_address.ensures ∙ c.if-expander_address-s.true)

pub loop-i-preserved : goal.loop-i-preserved
loop-i-preserved c =
    let at-args = c.args in
    number-go (domain_in at-args.rows.now) at-args.s c.loop-i.i c.loop-i.invariant (omega (arith, c.expander_count-n.ensures.0)) (λ z. c.if-expander_address-s.false (c.expander_address.ensures ∙ z))

pub returns : goal.returns
returns c = omega (arith, number-end (domain_in c.args.rows.now) c.args.s c.loop-i.i c.loop-i.invariant (omega (arith, c.expander_count-n.ensures.0)))
