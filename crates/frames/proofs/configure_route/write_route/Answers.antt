-- write_route meets its contract: the part handed back starts where the buffer starts, and has what put_route wrote there.
use mathlib.Core.Path.{refl, sym, ◌∙◌, ap}
use native.Mathlib.Omega.{arith}
use lib.ListN.{take}
use lib.Seq.{length-take-le}
use Rattle.frames.proofs.RouteRequests.{fits}
use Rattle.frames.specs.Bytes.{bytes_of}
use Rattle.frames.specs.ConfigureRoute.{route_frame, write_answer, buffer_after, part_after}
use Rattle.frames.proofs.configure_route.write_route.Goals as goal

pub slice_bounds-result-end-in-Ok : goal.slice_bounds-result-end-in-Ok
slice_bounds-result-end-in-Ok c =
    let e = sym c.put_route-answer.ensures.0 ∙ ap (write_answer _) c.in-Ok.is in
    let k = c.put_route-answer.auto.buf in
    let h = (fits _ _ _ e).bytes in
    sym (length-take-le 40 c.put_route-answer.new.buf (omega arith))

pub returns-in-Ok : goal.returns-in-Ok
unfolding route_frame bytes_of
returns-in-Ok c =
    let e = sym c.put_route-answer.ensures.0 ∙ ap (write_answer _) c.in-Ok.is in
    (ap (take 40) (c.put_route-answer.ensures.1 ∙ ap (buffer_after c.args.buf.now) e) ∙ sym (ap part_after e), refl)
