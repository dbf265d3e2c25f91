-- is_free meets its contract, of which its search is the second half.
use Rattle.files.proofs.units.is_free.Goals as goal

pub returns : goal.returns
returns c = rw c.is_in.ensures
