-- place_of_word: going through the expanders from i on for the words that are left is going through all of them for word k.
use mathlib.Core.Path.{ap, ◌∙◌}
use native.Mathlib.Omega.{arith}
use Rattle.files.specs.Domain.{Domain}
use Rattle.wiring.specs.FrameDefinitions.{refused}
use Rattle.files.specs.Rows.{domain_in}
use Rattle.surveys.proofs.WordSearches.{find-next, find-end}
use Rattle.surveys.proofs.word_places.place_of_word.Goals as goal

pub returns-in-Ok : goal.returns-in-Ok
returns-in-Ok c =
    let at-args = c.args in
    let d : Domain = domain_in at-args.rows.now in
    find-next d c.loop-i.i c.loop-i.left c.loop-i.invariant c.in-Ok.is c.seek_at.ensures (omega (arith, c.expander_count-n.ensures.0))

pub loop-i-preserved : goal.loop-i-preserved
loop-i-preserved c =
    let at-args = c.args in
    let d : Domain = domain_in at-args.rows.now in
    find-next d c.loop-i.i c.loop-i.left c.loop-i.invariant c.in-Err.is c.seek_at.ensures (omega (arith, c.expander_count-n.ensures.0))

pub returns : goal.returns
returns c =
    let d : Domain = domain_in c.args.rows.now in
    ap refused c.refused.ensures ∙ find-end d c.loop-i.i c.loop-i.left c.loop-i.invariant (omega (arith, c.expander_count-n.ensures.0))
