-- put_discover clears 52 bytes, stores the fields at their offsets, and has the addresses written into the parts that they fill.
use Prim.Native.Nat.{ℕ}
use mathlib.Core.Path.{◌≡◌, ◌∙◌, ap}
use lib.ListN.{replicate}
use Rattle.frames.specs.Bytes.{bytes_of}
use Rattle.frames.specs.Sizes.{short_size}
use Rattle.frames.specs.declared.Response.TheVariants.{Discover as DiscoverResponse}
use Rattle.cards.specs.ShortFrames.{short_discover}
use Rattle.cards.proofs.short_frames.put_discover.Goals as goal

pub returns : goal.returns
unfolding short_discover bytes_of
returns c =
    let at_pre = c.requires in
    let z : c.fill.new.self ≡ replicate (short_size DiscoverResponse) 0 = c.fill.ensures.after (λ y e. e) ∙ ap (λ (n : ℕ). replicate n 0) at_pre in
    simp (c.put_address-2.ensures, c.put_address.ensures, z)
