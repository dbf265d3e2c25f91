-- is_right_present is the definition's chain of tests: the expander that the word names is looked at first.
use mathlib.Core.Path.{refl, sym, ◌∙◌}
use Rattle.files.specs.Rows.{domain_in}
use Rattle.forms.proofs.WordsCompared.{right_low, right_far, wrong_far}
use native.Mathlib.Omega.{arith}
use Rattle.forms.proofs.comparing.is_right_present.Goals as goal

pub returns-then-x-lt2 : goal.returns-then-x-lt2
returns-then-x-lt2 c = right_low (domain_in c.args.rows.now) c.args.x c.args.v _ (omega arith) c.pack.ensures

pub returns-then-expander_address-x : goal.returns-then-expander_address-x
returns-then-expander_address-x c =
    let at-args = c.args in
    wrong_far (domain_in at-args.rows.now) at-args.x at-args.v _ (omega arith) refl (λ z. c.if-expander_address-x.true (c.expander_address.ensures ∙ z))

pub returns : goal.returns
returns c =
    let at-args = c.args in
    right_far (domain_in at-args.rows.now) at-args.x at-args.v _ _ (omega arith) refl (sym c.expander_address.ensures ∙ c.if-expander_address-x.false) c.pack-2.ensures
