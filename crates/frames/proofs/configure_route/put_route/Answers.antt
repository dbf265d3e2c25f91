-- put_route meets its contract: where nothing is refused there are forty bytes, which put_frame writes.
use mathlib.Core.Path.{sym, ◌∙◌, ap}
use Rattle.frames.proofs.RouteRequests.{fits}
use Rattle.frames.specs.ConfigureRoute.{write_answer}
use Rattle.frames.proofs.configure_route.put_route.Goals as goal

pub put_frame-requires : goal.put_frame-requires
put_frame-requires c =
    (fits _ _ _ (sym c.route_refusal.ensures ∙ ap (write_answer _) c.in_ok-route_refusal.was)).bytes
