-- put_frames writes response after response; its loop's invariant: the file with the responses to come stored behind is that with all of them.
use native.Mathlib.Omega.{arith}
use Prim.Native.Nat.{ℕ, ◌+◌, ◌-◌, ◌*◌}
use mathlib.Core.Path.{refl}
use Rattle.frames.specs.Sizes.{short_size}
use Rattle.frames.specs.declared.Response.TheVariants.{Discover as DiscoverResponse}
use Rattle.files.specs.Domain.{expander_at}
use Rattle.files.specs.Rows.{domain_in}
use Rattle.cards.proofs.FilePuts.{frames-go, frames-end}
use Rattle.cards.proofs.file_writing.put_frames.Goals as goal

pub loop-p-preserved : goal.loop-p-preserved
loop-p-preserved c =
    let x = c.args in
    let a : ℕ = x.to + short_size DiscoverResponse * c.loop-p.p in
    frames-go (expander_at (domain_in x.rows.now) x.i.0).phys c.loop-p.file _ c.put_phy.new.frame _ _ c.loop-p.p x.to a (a + short_size DiscoverResponse - a) _ (omega arith) (omega arith) c.expander_address-own_address.ensures c.phy_at-f.ensures c.loop-p.invariant refl (omega arith) c.put_phy.ensures

pub returns : goal.returns
returns c =
    let x = c.args in
    frames-end (expander_at (domain_in x.rows.now) x.i.0).phys c.loop-p.file _ _ c.loop-p.p _ (omega arith) c.loop-p.invariant
