-- read_both meets its contract: each file is read into its rows, and rows one after the other hold domains one after the other.
use native.Mathlib.Omega.{arith}
use mathlib.Core.Path.{sym, ◌∙◌, ap, ap₂}
use Prim.Native.Nat.{ℕ, ◌-◌, ◌*◌}
use mathlib.Core.List.{◌++◌}
use lib.ListN.{drop, length-drop}
use lib.Seq.{length-take-le}
use Rattle.frames.specs.Refusals.{Result}
use Rattle.files.specs.Domain.{Domain}
use Rattle.files.specs.Rows.{row_words}
use Rattle.benches.specs.BenchRows.{read_as}
use Rattle.benches.proofs.JoinOutcomes.{accepted-read}
use Rattle.benches.proofs.RowsJudged.{both-held}
use Rattle.benches.proofs.bench_rows.read_both.Goals as goal

pub returns : goal.returns
returns c =
    let at_pre = c.requires in
    let a = c.args in let one = at_pre.0.0 in let other = at_pre.0.1 in let e = accepted-read a.setting a.first.now a.n one in let f = accepted-read a.setting a.second.now a.m other in both-held a.setting a.first.now a.second.now one.domain other.domain e f a.rows.now _ _ _ _ _ _ c.read_domain.ensures c.read_domain-2.ensures a.n a.m one.count other.count at_pre.1.0 at_pre.1.1 c.read_domain.auto.rows (let w = c.read_domain.new.rows in length-take-le _ (drop (row_words * a.n) w) (omega (arith, length-drop (row_words * a.n) w)) ∙ ap (λ (k : ℕ). k - row_words * a.n) c.read_domain.auto.rows) c.read_domain-2.auto.rows ∙ sym (ap₂ (λ (x y : Result Domain). read_as x ++ read_as y) e f)
