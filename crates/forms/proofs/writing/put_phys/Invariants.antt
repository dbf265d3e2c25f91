use Prim.Native.Nat.{◌+◌, ◌*◌}
use mathlib.Core.Path.{◌≡◌}
use lib.ListN.{length, drop}
use lib.Seq.{sets}
use Rattle.files.specs.Domain.{expander_at}
use Rattle.files.specs.Rows.{domain_in}
use Rattle.forms.specs.Form.{form_phys}
use Rattle.forms.proofs.writing.put_phys.Given as goal

abbrev pub invariant-loop-p : goal.invariant-loop-p
invariant-loop-p l = (length l.words ≡ length l.initial.words) × ((l.to ≡ l.fn.at + 2 * l.p) × (sets l.words l.to (form_phys (domain_in l.rows) (drop l.p (expander_at (domain_in l.rows) l.i.0).phys)) ≡ sets l.initial.words l.fn.at (form_phys (domain_in l.rows) (expander_at (domain_in l.rows) l.i.0).phys)))
