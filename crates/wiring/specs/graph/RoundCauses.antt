-- For which cause a round is run.
use Rattle.std.specs.Prelude.{ℕ}
use Rattle.wiring.specs.declared.graph.rounds.Round.{Round}
use Rattle.wiring.specs.declared.graph.rounds.Round.TheVariants.{Strip, Reach}

abbrev pub round_cause : Round → ℕ
round_cause Strip = 11
round_cause Reach = 12
