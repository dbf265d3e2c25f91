-- next packs both cases of a step: one that ends goes no further, whatever its outcome.
use Prim.Native.Nat.{ℕ}
use mathlib.Core.Path.{◌≡◌, sym, ap}
use native.Mathlib.Omega.{arith}
use Rattle.tracing.specs.declared.Outcome.{Outcome}
use Rattle.tracing.specs.declared.Outcome.TheVariants.{Arrived, NoDestination, BadDestination}
use Rattle.tracing.specs.declared.Step.{Step}
use Rattle.tracing.specs.declared.Step.TheVariants.{Ended}
use Rattle.exports.specs.Packing.{pack_next, step_to_pack}
use Rattle.exports.proofs.packing.next.Goals as goal

no-further : {s : Step} (o : Outcome) {p : ℕ} → s ≡ Ended o (record { 0 = p }) → 65535 ≡ pack_next (step_to_pack s)
no-further Arrived e = sym (ap (λ s. pack_next (step_to_pack s)) e)
no-further NoDestination e = sym (ap (λ s. pack_next (step_to_pack s)) e)
no-further BadDestination e = sym (ap (λ s. pack_next (step_to_pack s)) e)

pub returns-in-Ended : goal.returns-in-Ended
returns-in-Ended c = (no-further _ c.in-Ended.is, omega arith)

pub returns-in-Onward : goal.returns-in-Onward
returns-in-Onward c = (sym (ap (λ s. pack_next (step_to_pack s)) c.in-Onward.is), omega arith)
