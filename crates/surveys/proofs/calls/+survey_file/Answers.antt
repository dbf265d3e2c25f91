-- survey_file: a file that states more than 64 expanders reads as its first two bytes do, and each room is chosen for so many expanders. The measure is the number of bytes.
use native.Mathlib.Omega.{arith}
use Rattle.files.proofs.PastLimits.{header_cut}
use Rattle.surveys.proofs.calls.+survey_file.Goals as goal

pub returns-then-file-gt2 : goal.returns-then-file-gt2
returns-then-file-gt2 t c =
    let at-args = c.args in
    rw (header_cut at-args.setting at-args.file.now c.if-file-gt2.true (omega (arith, c.stated_count-n.ensures, c.if-n-gt64.true))) at c.survey_file.ensures
