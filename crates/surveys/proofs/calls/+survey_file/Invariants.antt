use lib.ListN.{length}
use Rattle.surveys.proofs.calls.+survey_file.Given as goal

abbrev pub decreases-survey_file : goal.decreases-survey_file
decreases-survey_file l = length l.file.now
