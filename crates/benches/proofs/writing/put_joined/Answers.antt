-- put_joined writes both files, and then each end of the cable.
use Prim.Native.Nat.{ℕ, ◌+◌, ◌-◌}
use mathlib.Core.Path.{◌∙◌, ap}
use mathlib.Core.List.{List}
use lib.ListN.{length}
use Rattle.benches.proofs.JoinedFileWritten.{joined-put}
use Rattle.frames.specs.Bytes.{number_at}
use Rattle.benches.specs.Bytes.{cabled_at}
use Rattle.benches.proofs.writing.put_joined.Goals as goal

pub returns : goal.returns
returns c =
    let at-args = c.args in
    let at_pre = c.requires in
    c.cable_at-2.ensures ∙ ap (λ (v : List ℕ). cabled_at v (length at-args.first.now + (c.phy_offset-2.result - 2)) c.address_at-s.result at-args.p.0) (c.cable_at.ensures ∙ ap (λ (v : List ℕ). cabled_at v c.phy_offset.result c.address_at-t.result at-args.q.0) c.put_both.ensures) ∙ joined-put at-args.first.now at-args.second.now _ at-args.i.0 at-args.p.0 at-args.j.0 at-args.q.0 c.phy_offset.result c.phy_offset-2.result c.address_at-s.result c.address_at-t.result c.phy_offset.ensures c.phy_offset-2.ensures (c.address_at-s.ensures ∙ ap (λ (n : ℕ). number_at at-args.first.now n 8) c.expander_offset.ensures.0) (c.address_at-t.ensures ∙ ap (λ (n : ℕ). number_at at-args.second.now n 8) c.expander_offset-2.ensures.0) at_pre.0.0 at_pre.0.1
