-- seek_at: going through the phys from p on for the words that are left is going through all of them for word k, whatever comes after.
use Prim.Native.Nat.{ℕ}
use mathlib.Core.Path.{sym, ◌∙◌, ap}
use mathlib.Core.List.{◌++◌}
use native.Mathlib.Omega.{arith}
use Rattle.files.specs.Domain.{Domain}
use Rattle.wiring.specs.phys.PhyCauses.{phy_places}
use Rattle.files.specs.Rows.{domain_in}
use Rattle.surveys.specs.WordEntries.{word_in}
use Rattle.surveys.proofs.WordSearches.{seek_stop, seek_go, seek_end}
use Rattle.surveys.proofs.word_places.seek_at.Goals as goal

pub returns-then-left-size : goal.returns-then-left-size
returns-then-left-size c after =
    let a = c.args in
    let d : Domain = domain_in a.rows.now in
    let n : ℕ = c.phy_count-n.result in
    let e = seek_stop d a.i.0 n c.loop-p.p c.loop-p.left after (c.loop-p.invariant after) (omega (arith, c.size_at-size.ensures.0)) (omega arith) in
    ap (λ (m : ℕ). word_in d (phy_places a.i.0 0 m ++ after) a.k) (sym c.phy_count-n.ensures.0) ∙ e

pub loop-p-preserved : goal.loop-p-preserved
loop-p-preserved c after =
    let a = c.args in
    let d : Domain = domain_in a.rows.now in
    let n : ℕ = c.phy_count-n.result in
    rw c.size_at-size.ensures.0 (seek_go d a.i.0 n c.loop-p.p c.loop-p.left after (c.loop-p.invariant after) (omega (arith, c.size_at-size.ensures.0)) (omega arith))

pub returns : goal.returns
returns c after =
    let a = c.args in
    let d : Domain = domain_in a.rows.now in
    let n : ℕ = c.phy_count-n.result in
    let e = seek_end d a.i.0 n c.loop-p.p c.loop-p.left after (c.loop-p.invariant after) (omega arith) in
    ap (λ (m : ℕ). word_in d (phy_places a.i.0 0 m ++ after) a.k) (sym c.phy_count-n.ensures.0) ∙ e
