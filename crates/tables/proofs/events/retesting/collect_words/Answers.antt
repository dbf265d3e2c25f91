-- collect_words meets its contract. The loop's invariant: the words so far, and what the phys from p on give, are the own list.
use mathlib.Core.List.{List}
use mathlib.Core.Path.{refl, ◌∙◌}
use lib.ListN.{take}
use Rattle.files.proofs.RowsAsDomain.{phy-held}
use Rattle.files.specs.declared.Phy.{Phy}
use Rattle.files.specs.Domain.{expander_at}
use Rattle.files.specs.Rows.{domain_in}
use Rattle.tables.specs.filling.Tables.{word}
use Rattle.tables.proofs.lists.OwnListLoops.{own_start, own_go, own_end, put-most}
use native.Mathlib.Omega.{arith}
use Rattle.tables.proofs.events.retesting.collect_words.Goals as goal

pub loop-p-init : goal.loop-p-init
loop-p-init c = (refl, (omega arith, own_start (domain_in c.args.rows.now) c.args.i.0))

pub loop-p-preserved : goal.loop-p-preserved
loop-p-preserved c =
    let a = c.args in
    let φs : List Phy = (expander_at (domain_in a.rows.now) a.i.0).phys in
    let n = c.phy_count-n.ensures in
    let g = c.put_word-m.ensures in
    let most = put-most c.loop-p.m c.gives_word-mine.result (word c.phy_in_row-f.result) g in
    (g.same ∙ c.loop-p.invariant.0, (omega arith, own_go φs c.loop-p.p (take c.loop-p.m c.loop-p.part) c.loop-p.invariant.1.1 c.phy_in_row-f.result (c.phy_in_row-f.ensures ∙ phy-held _ _ _ (omega arith)) c.gives_word-mine.ensures g.whole (omega arith)))

pub returns : goal.returns
returns c =
    let a = c.args in
    let φs : List Phy = (expander_at (domain_in a.rows.now) a.i.0).phys in
    record { same = c.loop-p.invariant.0; fits = omega (arith, c.loop-p.invariant.1.0, c.requires, c.phy_count-n.ensures.1); whole = own_end φs c.loop-p.p (take c.loop-p.m c.loop-p.part) c.loop-p.invariant.1.1 (omega (arith, c.phy_count-n.ensures.0)) }
