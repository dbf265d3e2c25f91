-- set_phy meets its contract: the two words of phy p are there, and with them replaced the rows hold the domain with that phy replaced.
use native.Mathlib.Omega.{arith}
use lib.ListN.{length-set}
use Rattle.files.proofs.PhyReplaced.{in_rows, phy-set-by, phy_unset}
use Rattle.files.proofs.rows.set_phy.Goals as goal

pub bounds-rows-k : goal.bounds-rows-k
bounds-rows-k c =
    let at-args = c.args in
    omega (arith, in_rows at-args.rows.now at-args.i.0 at-args.p.0 (omega arith))

pub bounds-rows-k-then-p-phy_count : goal.bounds-rows-k-then-p-phy_count
bounds-rows-k-then-p-phy_count c =
    let at-args = c.args in
    simp length-set (omega (arith, in_rows at-args.rows.now at-args.i.0 at-args.p.0 (omega arith)))

pub returns-then-p-phy_count : goal.returns-then-p-phy_count
returns-then-p-phy_count c =
    let at-args = c.args in
    phy-set-by at-args.rows.now at-args.i.0 at-args.p.0 at-args.phy _ _ c.phy_address.ensures c.phy_word.ensures (omega arith)

pub returns-else-p-phy_count : goal.returns-else-p-phy_count
returns-else-p-phy_count c = phy_unset c.args.rows.now c.args.i.0 c.args.p.0 c.args.phy (omega arith)
