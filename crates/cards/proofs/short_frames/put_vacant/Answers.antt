-- put_vacant clears 52 bytes and stores the result.
use Prim.Native.Nat.{ℕ}
use mathlib.Core.Path.{◌≡◌, ◌∙◌, ap}
use lib.ListN.{replicate}
use Rattle.frames.specs.Sizes.{short_size}
use Rattle.frames.specs.declared.Response.TheVariants.{Discover as DiscoverResponse}
use Rattle.cards.specs.ShortFrames.{short_vacant}
use Rattle.cards.proofs.short_frames.put_vacant.Goals as goal

pub returns : goal.returns
unfolding short_vacant
returns c =
    let z : c.fill.new.self ≡ replicate (short_size DiscoverResponse) 0 = c.fill.ensures.after (λ y e. e) ∙ ap (λ (n : ℕ). replicate n 0) c.requires in
    simp z
