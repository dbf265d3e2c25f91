-- survey_with: there is room for what the file states.
use Rattle.wiring.proofs.FileRows.{room-for}
use Rattle.surveys.proofs.calls.survey_with.Goals as goal

pub survey_in-requires : goal.survey_in-requires
survey_in-requires g c = room-for c.args.setting c.args.file.now _ _ _ c.requires
