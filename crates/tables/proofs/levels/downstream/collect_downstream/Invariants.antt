use Rattle.files.specs.Rows.{domain_in}
use Rattle.tables.proofs.levels.DownstreamCollected.{Collected}
use Rattle.tables.proofs.levels.downstream.collect_downstream.Given as goal

abbrev pub invariant-loop-p : goal.invariant-loop-p
invariant-loop-p l = Collected (domain_in l.d.rows.now) l.i.0 l.p l.m l.part
