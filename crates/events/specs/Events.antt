-- Drives plugged and pulled (document 02, paper 9): what an event does to a domain.
use Rattle.files.specs.declared.Phy.{Phy}
use Rattle.files.specs.Domain.{Domain, phy_at}
use Rattle.tables.specs.events.ReplugCall.{replugged}
use Rattle.events.specs.declared.Event.{Event}

-- the phy that an event names
abbrev pub named : Domain → Event → Phy
named d v = phy_at d v.expander.0 v.phy.0

-- the edited domain
abbrev pub edited : Domain → Event → Domain
edited d v = replugged d v.expander.0 v.phy.0 v.address
