-- make_form meets its contract: a file that states more than 64 expanders reads as its first two bytes do, and each room is chosen for so many expanders. The measure is the number of bytes.
use mathlib.Core.Path.{sym}
use native.Mathlib.Omega.{arith}
use lib.Seq.{length-take-le}
use Rattle.forms.specs.FormCalls.{form_call}
use Rattle.tables.proofs.WiringLemmas.{header_cut}
use Rattle.forms.proofs.making.+make_form.Goals as goal

pub slice_bounds-make_form-end : goal.slice_bounds-make_form-end
slice_bounds-make_form-end t c =
    let at-args = c.args in
    sym (length-take-le 2 at-args.file.now (omega (arith, c.if-file-gt2.true)))

pub make_form-requires : goal.make_form-requires
make_form-requires t c =
    let at_pre = c.requires in
    let at-args = c.args in
    (omega (arith, c.if-file-gt2.true, length-take-le 2 at-args.file.now (omega (arith, c.if-file-gt2.true))), tt)

pub returns-then-file-gt2 : goal.returns-then-file-gt2
unfolding form_call
returns-then-file-gt2 t c =
    let at-args = c.args in
    rw (header_cut at-args.setting at-args.file.now c.if-file-gt2.true (omega (arith, c.stated_count-n.ensures, c.if-n-gt64.true))) at c.make_form.ensures
