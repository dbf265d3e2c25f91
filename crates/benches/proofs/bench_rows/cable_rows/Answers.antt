-- cable_rows meets its contract: both addresses are read before a phy is set.
use native.Mathlib.Omega.{arith}
use Rattle.benches.proofs.RowsJudged.{rows-cabled}
use Rattle.benches.proofs.bench_rows.cable_rows.Goals as goal

pub returns : goal.returns
returns c =
    let a = c.args in
    rows-cabled a.rows.now _ _ a.n a.i.0 a.p.0 a.j.0 a.q.0 _ _ _ _ (omega (arith, c.well_formed.1.1.1.0)) (omega (arith, c.well_formed.1.1.1.1.1)) c.set_phy.ensures c.set_phy-2.ensures c.cabled_to.ensures
    c.cabled_to-2.ensures c.expander_address-s.ensures c.expander_address-t.ensures
