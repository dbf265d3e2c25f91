-- The range of a setting, as a test and in numbers.
use mathlib.Core.Logic.{◌↔◌}
use lib.Dec.{T, leb→le, le→leb}
use Rattle.files.specs.declared.Setting.{Setting}
use Rattle.files.specs.Settings.{in_range, InRange}
use Rattle.files.proofs.ListMembers.{tests}

pub range_iff : (setting : Setting) → T (in_range setting) ↔ InRange setting
unfolding in_range
range_iff setting = (
  λ t. record {
    expanders = (search (tests, leb→le), search (tests, leb→le));
    phys = (search (tests, leb→le), search (tests, leb→le));
    chain = (search (tests, leb→le), search (tests, leb→le));
  },
  λ r. search (tests, le→leb, r.expanders.0, r.expanders.1, r.phys.0, r.phys.1, r.chain.0, r.chain.1),
)
