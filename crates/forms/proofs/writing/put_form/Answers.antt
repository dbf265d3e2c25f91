-- put_form meets its contract: the words of the expanders that are left, stored from here on, are the form stored from the front on.
use mathlib.Core.Path.{refl, ◌∙◌, ap}
use lib.ListN.{length, length-set}
use lib.Seq.{sets}
use Rattle.files.specs.Rows.{domain_in}
use Rattle.forms.proofs.FormWords.{size-next, expanders-go, expanders-end, form-start, form-put}
use Rattle.forms.proofs.WordsCompared.{head_of}
use native.Mathlib.Omega.{arith}
use Rattle.forms.proofs.writing.put_form.Goals as goal

pub loop-i-init : goal.loop-i-init
loop-i-init c = (refl, (omega (arith, ap length (form-start (domain_in c.args.rows.now))), ap (sets c.args.words.now 0) (form-start (domain_in c.args.rows.now))))

pub offset_bounds-words-to : goal.offset_bounds-words-to
offset_bounds-words-to c =
    let at_pre = c.requires in
    let at-args = c.args in
    omega (arith, at_pre.1, c.expander_count-n.ensures.0, size-next (domain_in at-args.rows.now) (domain_in at-args.rows.now) c.loop-i.i (omega (arith, c.expander_count-n.ensures.0)))

pub bounds-words-to : goal.bounds-words-to
bounds-words-to c =
    let at_pre = c.requires in
    let at-args = c.args in
    omega (arith, at_pre.1, c.expander_count-n.ensures.0, size-next (domain_in at-args.rows.now) (domain_in at-args.rows.now) c.loop-i.i (omega (arith, c.expander_count-n.ensures.0)))

pub overflow_add-words : goal.overflow_add-words
overflow_add-words c =
    let at_pre = c.requires in
    let at-args = c.args in
    omega (arith, at_pre.1, c.expander_count-n.ensures.0, size-next (domain_in at-args.rows.now) (domain_in at-args.rows.now) c.loop-i.i (omega (arith, c.expander_count-n.ensures.0)))

pub offset_bounds-words-to-in-loop-i : goal.offset_bounds-words-to-in-loop-i
offset_bounds-words-to-in-loop-i c =
    let at_pre = c.requires in
    let at-args = c.args in
    omega (arith, at_pre.1, c.expander_count-n.ensures.0, size-next (domain_in at-args.rows.now) (domain_in at-args.rows.now) c.loop-i.i (omega (arith, c.expander_count-n.ensures.0)))

pub bounds-words-to-in-loop-i : goal.bounds-words-to-in-loop-i
bounds-words-to-in-loop-i c =
    let at_pre = c.requires in
    let at-args = c.args in
    simp length-set (omega (arith, at_pre.1, c.expander_count-n.ensures.0, size-next (domain_in at-args.rows.now) (domain_in at-args.rows.now) c.loop-i.i (omega (arith, c.expander_count-n.ensures.0))))

pub overflow_add-to : goal.overflow_add-to
overflow_add-to c =
    let at_pre = c.requires in
    let at-args = c.args in
    omega (arith, at_pre.1, c.expander_count-n.ensures.0, size-next (domain_in at-args.rows.now) (domain_in at-args.rows.now) c.loop-i.i (omega (arith, c.expander_count-n.ensures.0)))

pub put_phys-to-requires : goal.put_phys-to-requires
put_phys-to-requires c =
    let at_pre = c.requires in
    let at-args = c.args in
    (at_pre.0, simp length-set (omega (arith, at_pre.1, c.expander_count-n.ensures.0, size-next (domain_in at-args.rows.now) (domain_in at-args.rows.now) c.loop-i.i (omega (arith, c.expander_count-n.ensures.0)))))

pub loop-i-preserved : goal.loop-i-preserved
loop-i-preserved c =
    let at-args = c.args in
    let u = c.put_phys-to.ensures in (c.put_phys-to.auto.words ∙ simp length-set c.loop-i.invariant.0, (omega (arith, u.1, size-next (domain_in at-args.rows.now) (domain_in at-args.rows.now) c.loop-i.i (omega (arith, c.expander_count-n.ensures.0))), expanders-go (domain_in at-args.rows.now) (domain_in at-args.rows.now) c.loop-i.i c.loop-i.words _ c.loop-i.to _ _ _ (omega (arith, c.expander_count-n.ensures.0)) c.expander_address.ensures (head_of (domain_in at-args.rows.now) c.loop-i.i _ _ _ c.head_field.ensures c.route_indexes.ensures c.phy_count.ensures.0) u.0 u.1 ∙ c.loop-i.invariant.1.1))

pub returns : goal.returns
returns c =
    let at-args = c.args in
    let at_pre = c.requires in
    form-put (domain_in at-args.rows.now) at-args.words.now _ at_pre.1 (expanders-end (domain_in at-args.rows.now) (domain_in at-args.rows.now) c.loop-i.i c.loop-i.words c.loop-i.to (omega (arith, c.expander_count-n.ensures.0)) ∙ c.loop-i.invariant.1.1)
