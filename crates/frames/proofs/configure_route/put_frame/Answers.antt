-- put_frame meets its contract: forty zeros, and then each field at its offset, are the forty bytes of the definition.
use mathlib.Core.Path.{◌∙◌}
use Rattle.frames.specs.Bytes.{bytes_of}
use Rattle.frames.specs.ConfigureRoute.{route_frame}
use Rattle.frames.proofs.configure_route.put_frame.Goals as goal

pub returns : goal.returns
unfolding route_frame bytes_of
returns c =
    c.put_number-2.ensures ∙ simp (c.put_number.ensures, c.clear_front.ensures, c.disable_byte-disable.ensures)
