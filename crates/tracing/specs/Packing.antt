-- What a call answers, packed into one number: a refusal, and how a request ends.
use Rattle.std.specs.Prelude.{ℕ, ◌+◌, ◌*◌, ◌^◌}
use Rattle.tables.specs.WiringDefinitions.{Refusal, Result, refused, good}
use Rattle.tracing.specs.Trace.{Reported}
use Rattle.tracing.specs.declared.Outcome.{Outcome}
use Rattle.tracing.specs.declared.Outcome.TheVariants.{Arrived, NoDestination, BadDestination}

-- a refusal: bit 63, then number, expander and phy, a byte each
abbrev pub pack_refusal : Refusal → ℕ
pack_refusal r = 2 ^ 63 + r.number * 65536 + r.expander.0 * 256 + r.phy.0

module _ {A : Type 0} where
  -- a refusal, or what the call yields
  abbrev pub packed : (A → ℕ) → Result A → ℕ
  packed f (refused r) = pack_refusal r
  packed f (good a) = f a

abbrev pub pack_outcome : Outcome → ℕ
pack_outcome Arrived = 0
pack_outcome NoDestination = 1
pack_outcome BadDestination = 2

abbrev pub pack_end : Outcome → ℕ → ℕ → ℕ → ℕ
pack_end o last phy count = pack_outcome o * 2 ^ 24 + last * 2 ^ 16 + phy * 2 ^ 8 + count

-- outcome, last expander, phy, count
abbrev pub end_packed : Reported → ℕ
end_packed t = pack_end t.outcome t.last t.phy t.count
