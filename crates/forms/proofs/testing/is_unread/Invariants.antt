use Prim.Native.Nat.{◌-◌}
use mathlib.Core.Path.{◌≡◌}
use Rattle.files.specs.Lists.{any, numbers}
use Rattle.files.specs.Rows.{domain_in}
use Rattle.forms.specs.FormCalls.{bad_unit}
use Rattle.forms.proofs.testing.is_unread.Given as goal

abbrev pub invariant-loop-i : goal.invariant-loop-i
invariant-loop-i l = any (bad_unit l.most (domain_in l.rows)) (numbers l.i (l.n - l.i)) ≡ any (bad_unit l.most (domain_in l.rows)) (numbers 0 l.n)
