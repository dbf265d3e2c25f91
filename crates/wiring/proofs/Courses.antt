-- A file that reads as a domain under one setting has the same wiring call under any setting in range and no smaller.
use Prim.Native.Nat.{ℕ}
use mathlib.Core.Path.{◌≡◌, sym, ap, ◌∙◌}
use mathlib.Core.List.{List}
use Rattle.frames.specs.Refusals.{good, then}
use Rattle.files.specs.declared.Setting.{Setting}
use Rattle.files.specs.Domain.{Domain}
use Rattle.files.specs.Settings.{InRange, NoSmaller}
use Rattle.files.specs.File.{domain_read}
use Rattle.wiring.specs.phys.PhyCauses.{wired_domain}
use Rattle.wiring.specs.graph.Neighbours.{words_for, wiring_call}
use Rattle.files.proofs.WiderSetting.{read_more}

module _ (most other : Setting) (m : NoSmaller most other) where
  pub wiring-more : InRange other → (file : List ℕ) (d : Domain) → domain_read most file ≡ good d → (room : ℕ) → wiring_call other file room ≡ wiring_call most file room
  unfolding wiring_call
  wiring-more r file d e room = ap (λ x. then (then x wired_domain) (words_for room)) (read_more most other m r file d e ∙ sym e)
