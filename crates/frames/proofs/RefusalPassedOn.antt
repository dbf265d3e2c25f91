-- What `?` returns where the call before it refused: the same refusal.
use mathlib.Core.Path.{◌≡◌, ap}
use Rattle.std.specs.Result.{IsErr, IsErrAnd}
use Rattle.std.specs.declared.result.Result.{Result}
use Rattle.std.specs.declared.result.Result.TheVariants.{Ok, Err}

pub passed-on : {T E : Type 0} (x : Result T E) (e : E) → IsErr x × IsErrAnd x (λ d. d ≡ e) → x ≡ Err e
passed-on (Ok t) e h = absurd h.1
passed-on (Err d) e h = ap Err h.1
