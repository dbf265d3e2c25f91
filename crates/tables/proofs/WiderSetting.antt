-- A file accepted under one setting is accepted, as the same domain, under any setting in range and no smaller in all three.
use Prim.Native.Nat.{ℕ, ◌≤◌}
use mathlib.Core.Path.{◌≡◌}
use mathlib.Core.List.{List}
use native.Mathlib.Omega.{arith}
use Rattle.wiring.specs.FrameDefinitions.{good}
use Rattle.files.specs.declared.Setting.{Setting}
use Rattle.files.specs.Domain.{Domain}
use Rattle.files.specs.Settings.{InRange, NoSmaller}
use Rattle.files.proofs.WiderSetting.{read_more}
use Rattle.tables.specs.JudgingCall.{judged}
use Rattle.tables.specs.TableCauses.{Routable}
use Rattle.tables.proofs.AcceptedDomains.{judged-routable, routable_iff, judged-file}

-- a longer chain may be
routable-more : (chain other : ℕ) (d : Domain) → chain ≤ other → Routable chain d → Routable other d
routable-more chain other d h r = record { linked = r.linked; short = λ i j l c. omega (arith, r.short i j l c); fits = r.fits }

pub judged-more : (setting other : Setting) → NoSmaller setting other → InRange other → (file : List ℕ) (d : Domain) → judged setting file ≡ good d
    → judged other file ≡ good d
judged-more setting other m r file d j =
    let a = (judged-file setting file d).0 j in
    let k = judged-routable setting.chain d d a.1 in
    (judged-file other file d).1
    (read_more setting other m r file d a.0, (routable_iff other.chain d k.1).1 (routable-more setting.chain other.chain d m.chain k.2))
