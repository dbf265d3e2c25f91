-- is_in_range meets its contract: its tests are those of the definition.
use mathlib.Core.Path.{refl}
use Rattle.files.specs.Settings.{in_range}
use Rattle.files.proofs.settings.is_in_range.Goals as goal

pub returns : goal.returns
unfolding in_range
returns c = refl
