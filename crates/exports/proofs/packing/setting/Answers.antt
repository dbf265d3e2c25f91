-- setting meets its contract: the bytes of a number below 2 to the power 24, or zeros.
use mathlib.Core.Path.{sym}
use borrow.Author.Tests.{le-leb, lt-leb}
use Rattle.exports.proofs.Settings.{setting-by}
use Rattle.exports.proofs.packing.setting.Goals as goal

pub returns-then-n-ge16777216 : goal.returns-then-n-ge16777216
returns-then-n-ge16777216 c = sym (setting-by c.args.n (le-leb _ _ c.if-n-ge16777216.true))

pub returns : goal.returns
returns c = sym (setting-by c.args.n (lt-leb _ _ c.if-n-ge16777216.false))
