-- put_general clears 28 bytes and stores the fields at their offsets.
use Prim.Native.Nat.{ℕ}
use mathlib.Core.Path.{◌≡◌, ◌∙◌, ap}
use lib.ListN.{replicate}
use Rattle.frames.specs.Bytes.{bytes_of}
use Rattle.frames.specs.Sizes.{short_size}
use Rattle.frames.specs.declared.Response.TheVariants.{ReportGeneral}
use Rattle.cards.specs.ShortFrames.{short_general}
use Rattle.cards.proofs.short_frames.put_general.Goals as goal

pub returns : goal.returns
unfolding short_general bytes_of
returns c =
    let at_pre = c.requires in
    let z : c.fill.new.self ≡ replicate (short_size ReportGeneral) 0 = c.fill.ensures.after (λ y e. e) ∙ ap (λ (n : ℕ). replicate n 0) at_pre in
    simp z
