-- A frame: what the reader promises of it is the case of the definition.
use mathlib.Core.Path.{sym, ◌∙◌, ap}
use Rattle.shelves.specs.Shelf.{after_read}
use Rattle.shelves.proofs.loading.step.Goals as goal

pub returns-in-Err : goal.returns-in-Err
unfolding after_read
returns-in-Err c =
    let at-args = c.args in
    let e = sym c.read_route-read.ensures ∙ c.in-Err.is in
    c.stepped_to.ensures ∙ sym (ap (after_read at-args.shelf) e)
