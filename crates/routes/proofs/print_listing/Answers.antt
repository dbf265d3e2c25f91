-- print_listing meets: nothing but safety. The rows that are listed are those that reading the file wrote.
use Prim.Native.Nat.{ℕ}
use mathlib.Core.Path.{sym}
use lib.ListN.{length-replicate}
use lib.Seq.{length-take-le}
use Rattle.listing.proofs.TableLemmas.{most_row_words}
use Rattle.listing.proofs.TableLemmas.{read-good, opened-fits}
use native.Mathlib.Omega.{arith}
use Rattle.routes.proofs.print_listing.Goals as goal

pub slice_bounds-rows-end : goal.slice_bounds-rows-end
slice_bounds-rows-end c = opened-fits _ _ _ _ _ _ (λ d q. let g = read-good _ _ d q in omega (arith, g.few, g.range.expanders.1, length-replicate {A = ℕ} most_row_words 0)) c.read_domain.ensures c.in-Ok.is c.read_domain.auto.rows

pub slice_bounds-print_rows-end : goal.slice_bounds-print_rows-end
slice_bounds-print_rows-end c = sym (length-take-le _ c.read_domain.new.rows (opened-fits _ _ _ _ _ _ (λ d q. let g = read-good _ _ d q in omega (arith, g.few, g.range.expanders.1, length-replicate {A = ℕ} most_row_words 0)) c.read_domain.ensures c.in-Ok.is c.read_domain.auto.rows))
