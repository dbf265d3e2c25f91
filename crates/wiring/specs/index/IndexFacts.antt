-- That entries tell who has which address holds in one way at most, so that a type can say it.
use Rattle.std.specs.Prelude.{ℕ, ◌≡◌, ◌≢◌, ◌<◌, T}
use mathlib.Core.Path.{ap₂}
use Rattle.std.proofs.Props.{props}
use Rattle.files.specs.Domain.{Domain}
use Rattle.wiring.specs.index.AddressIndex.{LowestBelow, LowestFrom, listed_from, address_from, found, nobody}

-- no slot is both found and nobody's
pub LowestBelow-prop : (d : Domain) (n s v : ℕ) → IsProp (LowestBelow d n s v)
LowestBelow-prop d n s v (found l h) (found m k) =
    let a : IsProp (LowestFrom d 0 s v) = Prim.hlevel props in
    let b : IsProp (v < n) = Prim.hlevel props in
    ap₂ found (a l m) (b h k)
LowestBelow-prop d n s v (found l h) (nobody e f) = absurd (f v h l.here l.address)
LowestBelow-prop d n s v (nobody e f) (found l h) = absurd (f v h l.here l.address)
LowestBelow-prop d n s v (nobody e f) (nobody g k) =
    let a : IsProp (v ≡ 65535) = Prim.hlevel props in
    let b : IsProp ((u : ℕ) → u < n → T (listed_from d 0 u) → address_from d 0 u ≢ s) = Prim.hlevel props in
    ap₂ nobody (a e g) (b f k)

-- what shows it of all entries
pub ruleset facts = (LowestBelow-prop, props)
