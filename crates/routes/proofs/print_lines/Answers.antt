-- Meets: nothing but safety, and that it ends: a chunk that has text moves the cursor on to a later word.
use native.Mathlib.Omega.{arith}
use Rattle.listing.proofs.Chunks.{chunk_moves}
use Rattle.routes.proofs.print_lines.Goals as goal

pub slice_bounds-out-end : goal.slice_bounds-out-end
slice_bounds-out-end c =
    let f = c.put_chunk-chunk.ensures in
    let s = f.text.same in
    omega (arith, f.counts.0)

pub slice_bounds-print-end : goal.slice_bounds-print-end
slice_bounds-print-end c = c.put_chunk-chunk.ensures.counts.1

pub loop-at-smaller : goal.loop-at-smaller
loop-at-smaller c =
    let m = chunk_moves c.put_chunk-chunk.ensures (omega arith) in
    omega arith

pub loop-at-preserved : goal.loop-at-preserved
loop-at-preserved c =
    let s = c.put_chunk-chunk.ensures.text.same in
    omega arith
