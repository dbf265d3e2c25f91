use Prim.Native.Nat.{◌+◌, ◌*◌}
use mathlib.Core.Path.{◌≡◌}
use lib.ListN.{drop}
use lib.Seq.{sets}
use Rattle.frames.specs.Sizes.{short_size}
use Rattle.frames.specs.declared.Response.TheVariants.{Discover as DiscoverResponse}
use Rattle.files.specs.Domain.{expander_at}
use Rattle.files.specs.Rows.{domain_in}
use Rattle.cards.specs.FileOf.{phys_frames}
use Rattle.cards.proofs.file_writing.put_frames.Given as goal

abbrev pub invariant-loop-p : goal.invariant-loop-p
invariant-loop-p l =
    sets l.file (l.to + short_size DiscoverResponse * l.p) (phys_frames (expander_at (domain_in l.rows) l.i.0).address l.p (drop l.p (expander_at (domain_in l.rows) l.i.0).phys))
    ≡ sets l.initial.file l.to (phys_frames (expander_at (domain_in l.rows) l.i.0).address 0 (expander_at (domain_in l.rows) l.i.0).phys)
