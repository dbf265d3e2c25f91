-- own_length reads the count in expander i's cell.
use native.Mathlib.Omega.{arith}
use mathlib.Core.Path.{sym, ap}
use lib.ListN.{length}
use Rattle.files.specs.Rows.{domain_in}
use Rattle.tables.proofs.lists.OwnListLoops.{own_none}
use Rattle.tables.proofs.lists.own_lists.own_length.Goals as goal

pub returns-then-i-expander_count : goal.returns-then-i-expander_count
returns-then-i-expander_count c = sym (ap length (own_none (domain_in c.args.rows.now) c.args.i.0 (omega (arith, c.expander_count.ensures.0))))
