-- open_form meets its contract: the rows hold what the words read as, and so the tests say what they say of it.
use mathlib.Core.Path.{sym}
use lib.Seq.{length-take-le}
use Rattle.forms.proofs.WordsCompared.{opens_no, opens_by}
use native.Mathlib.Omega.{arith}
use Rattle.forms.proofs.form_opening.open_form.Goals as goal

pub slice_bounds-is_unread-end-2 : goal.slice_bounds-is_unread-end-2
slice_bounds-is_unread-end-2 c =
    let at_pre = c.requires in
    sym (length-take-le _ c.read_rows.new.rows (omega (arith, c.read_rows.auto.rows, at_pre.1)))

pub returns-then-is_unread : goal.returns-then-is_unread
returns-then-is_unread c =
    let at-args = c.args in
    record { answers = opens_no at-args.most at-args.ws.now _ c.read_rows.ensures c.is_unread.ensures c.if-is_unread.true; holds = c.read_rows.ensures }

pub slice_bounds-are_right-end-2 : goal.slice_bounds-are_right-end-2
slice_bounds-are_right-end-2 c =
    let at_pre = c.requires in
    sym (length-take-le _ c.read_rows.new.rows (omega (arith, c.read_rows.auto.rows, at_pre.1)))

pub returns : goal.returns
returns c =
    let at-args = c.args in
    record { answers = opens_by at-args.most at-args.ws.now _ c.read_rows.ensures c.is_unread.ensures c.if-is_unread.false c.are_right.ensures; holds = c.read_rows.ensures }
