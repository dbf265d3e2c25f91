-- first_repeated meets its contract: the lowest from k on is the lowest of all.
use Prim.Native.Nat.{ℕ}
use mathlib.Core.Path.{sym, ◌∙◌, ap}
use native.Mathlib.Omega.{arith}
use Rattle.files.specs.Domain.{number_of}
use Rattle.files.specs.Rows.{domain_in}
use Rattle.benches.specs.BenchRows.{repeated_from}
use Rattle.benches.proofs.SameAddress.{repeated-stop, repeated-go, repeated-end}
use Rattle.benches.proofs.repeats.first_repeated.Goals as goal

pub loop-k-init : goal.loop-k-init
loop-k-init c = ap (λ (m : ℕ). repeated_from (domain_in c.args.rows.now) m 0) (omega (arith, c.expander_count-n.ensures.0))

pub returns-then-number_of-k : goal.returns-then-number_of-k
returns-then-number_of-k c =
    let at-args = c.args in
    let d = domain_in at-args.rows.now in repeated-stop d _ c.loop-k.k c.loop-k.invariant (omega arith) (λ z. c.if-number_of-k.true (c.number_of.ensures ∙ ap (number_of d) c.expander_address.ensures ∙ z))

pub loop-k-preserved : goal.loop-k-preserved
loop-k-preserved c =
    let at-args = c.args in
    let d = domain_in at-args.rows.now in repeated-go d _ c.loop-k.k c.loop-k.invariant (omega arith) (sym (c.number_of.ensures ∙ ap (number_of d) c.expander_address.ensures) ∙ c.if-number_of-k.false)

pub returns : goal.returns
returns c = let d = domain_in c.args.rows.now in omega (arith, repeated-end d _ c.loop-k.k c.loop-k.invariant (omega arith))
