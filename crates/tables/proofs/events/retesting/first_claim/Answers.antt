-- first_claim meets its contract. The loop's invariant: `taken` says whether the address is taken before expander i, and no phy before it has the cause.
use mathlib.Core.Path.{refl}
use Rattle.files.specs.Domain.{Domain}
use Rattle.files.specs.Rows.{domain_in}
use Rattle.wiring.proofs.phys.PlaceSearches.{from_end}
use Rattle.tables.specs.events.ReplugCall.{claimed_with}
use Rattle.tables.proofs.events.RetestLoops.{taken_start, taken_next, claim_stop, claim_go}
use native.Mathlib.Omega.{arith}
use Rattle.tables.proofs.events.retesting.first_claim.Goals as goal

pub loop-i-init : goal.loop-i-init
loop-i-init c = (taken_start c.args.s (domain_in c.args.rows.now) c.is_expander-taken.ensures, refl)

pub returns-then-taken-found : goal.returns-then-taken-found
returns-then-taken-found c =
    let a = c.args in
    let d : Domain = domain_in a.rows.now in
    claim_stop a.s d c.loop-i.i c.loop-i.invariant.1 c.loop-i.taken c.is_found-found.result c.first_end-end.result c.loop-i.invariant.0 c.is_found-found.ensures c.first_end-end.ensures (omega (arith, c.expander_count-n.ensures.0)) c.if-taken-found.true

pub loop-i-preserved : goal.loop-i-preserved
loop-i-preserved c =
    let a = c.args in
    let d : Domain = domain_in a.rows.now in
    (taken_next a.s d c.loop-i.i c.loop-i.taken c.is_found-found.result c.first_end-end.result c.loop-i.invariant.0 c.is_found-found.ensures c.first_end-end.ensures (omega (arith, c.expander_count-n.ensures.0)), claim_go a.s d c.loop-i.i c.loop-i.invariant.1 c.loop-i.taken c.is_found-found.result c.first_end-end.result c.loop-i.invariant.0 c.is_found-found.ensures c.first_end-end.ensures (omega (arith, c.expander_count-n.ensures.0)) c.if-taken-found.false)

pub returns : goal.returns
returns c =
    let a = c.args in
    let d : Domain = domain_in a.rows.now in
    from_end 8 (claimed_with a.s d) d c.loop-i.i c.loop-i.invariant.1 (omega (arith, c.expander_count-n.ensures.0))
