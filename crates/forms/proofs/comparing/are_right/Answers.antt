-- are_right meets its contract: the comparison from here on is the whole comparison.
use mathlib.Core.Path.{refl, sym, ◌∙◌}
use Rattle.files.specs.Rows.{domain_in}
use borrow.Author.Tests.{not-true, not-false}
use Rattle.forms.proofs.WordsCompared.{heads-address, heads-field, heads-phys, heads-go, heads-end, head_of}
use native.Mathlib.Omega.{arith}
use Rattle.forms.proofs.comparing.are_right.Goals as goal

pub returns-then-word_at-expander_address : goal.returns-then-word_at-expander_address
returns-then-word_at-expander_address c =
    let at-args = c.args in
    heads-address (domain_in at-args.rows.now) (domain_in at-args.rows.now) c.loop-i.i c.loop-i.at at-args.ws.now c.loop-i.invariant.1 (omega (arith, c.expander_count-n.ensures.0)) _ c.word_at.ensures _ c.expander_address.ensures c.if-word_at-expander_address.true

pub returns-then-word_at-head_field : goal.returns-then-word_at-head_field
returns-then-word_at-head_field c =
    let at-args = c.args in
    heads-field (domain_in at-args.rows.now) (domain_in at-args.rows.now) c.loop-i.i c.loop-i.at at-args.ws.now c.loop-i.invariant.1 (omega (arith, c.expander_count-n.ensures.0)) _ c.word_at.ensures _ c.expander_address.ensures c.if-word_at-expander_address.false _ c.word_at-in-loop-i.ensures _ (head_of (domain_in at-args.rows.now) c.loop-i.i _ _ _ c.head_field.ensures c.route_indexes.ensures c.phy_count-m.ensures.0) c.if-word_at-head_field.true

pub returns-then-not-are_right_phys : goal.returns-then-not-are_right_phys
returns-then-not-are_right_phys c =
    let at-args = c.args in
    heads-phys (domain_in at-args.rows.now) (domain_in at-args.rows.now) c.loop-i.i c.loop-i.at at-args.ws.now c.loop-i.invariant.1 (omega (arith, c.expander_count-n.ensures.0)) _ c.word_at.ensures _ c.expander_address.ensures c.if-word_at-expander_address.false _ c.word_at-in-loop-i.ensures _ (head_of (domain_in at-args.rows.now) c.loop-i.i _ _ _ c.head_field.ensures c.route_indexes.ensures c.phy_count-m.ensures.0) c.if-word_at-head_field.false (sym c.are_right_phys.ensures ∙ not-true _ c.if-not-are_right_phys.true-raw)

pub loop-i-preserved : goal.loop-i-preserved
loop-i-preserved c =
    let at-args = c.args in
    (omega (arith, c.phy_count-m.ensures.1), heads-go (domain_in at-args.rows.now) (domain_in at-args.rows.now) c.loop-i.i c.loop-i.at at-args.ws.now c.loop-i.invariant.1 (omega (arith, c.expander_count-n.ensures.0)) _ c.word_at.ensures _ c.expander_address.ensures c.if-word_at-expander_address.false _ c.word_at-in-loop-i.ensures _ (head_of (domain_in at-args.rows.now) c.loop-i.i _ _ _ c.head_field.ensures c.route_indexes.ensures c.phy_count-m.ensures.0) c.if-word_at-head_field.false _ _ (sym c.are_right_phys.ensures ∙ not-false _ c.if-not-are_right_phys.false-raw) c.phy_count-m.ensures.0 refl)

pub returns : goal.returns
returns c = heads-end (domain_in c.args.rows.now) (domain_in c.args.rows.now) c.loop-i.i c.loop-i.at c.args.ws.now c.loop-i.invariant.1 (omega (arith, c.expander_count-n.ensures.0))
