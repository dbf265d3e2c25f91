use Rattle.tables.proofs.events.replugging.+replug_checked.Given as goal

abbrev pub decreases-replug_checked : goal.decreases-replug_checked
decreases-replug_checked l = l.x.phy.0
