-- append_below meets its contract: the cell of expander i has the number of expanders downstream of it, and then these.
use Prim.Native.Nat.{ℕ, ◌+◌, ◌-◌, ◌*◌, ◌≤◌, ◌<◌}
use mathlib.Core.List.{List, ◌++◌, append-nil}
use mathlib.Core.Path.{◌≡◌, ◌∙◌, ap}
use native.Mathlib.Omega.{arith}
use lib.ListN.{length, get_or, take, drop}
use Rattle.files.specs.Domain.{Domain}
use Rattle.files.specs.Rows.{domain_in}
use Rattle.files.proofs.RowsAsDomain.{domain-few}
use Rattle.tables.specs.lists.PreparedLists.{downstream_once, DownstreamListsHeld, downstream_bytes, most_downstream}
use Rattle.tables.proofs.lists.GrowingLists.{grown-kept}
use Rattle.tables.proofs.lists.ListCells.{cell-count, cell-list, cell-fits}
use Rattle.tables.proofs.levels.DownstreamLists.{downstream-few, downstream-past}
use Rattle.tables.proofs.levels.order.append_downstream.Goals as goal

-- the list of expander i in the lent bytes
record Read (d : Domain) (i : ℕ) (bytes : List ℕ) : Type 0 where
  count : get_or bytes (downstream_bytes * i) 0 ≡ length (downstream_once d i)
  few : length (downstream_once d i) ≤ most_downstream
  fits : downstream_bytes * i + 1 + length (downstream_once d i) ≤ length bytes
  list : take (downstream_bytes * i + 1 + get_or bytes (downstream_bytes * i) 0 - (downstream_bytes * i + 1)) (drop (downstream_bytes * i + 1) bytes) ≡ downstream_once d i

reads : (d : Domain) (bytes : List ℕ) → DownstreamListsHeld d bytes → length d ≤ 64 → (i : ℕ) → i < length d → Read d i bytes
reads d bytes b n i h =
    let e = cell-count downstream_bytes (downstream_once d) (length d) bytes b.cell i h in
    let k : downstream_bytes * i + 1 + get_or bytes (downstream_bytes * i) 0 - (downstream_bytes * i + 1) ≡ length (downstream_once d i) = omega arith in
    record {
      count = e;
      few = downstream-few d n i;
      fits = cell-fits downstream_bytes (downstream_once d) (length d) bytes b.cell i h;
      list = ap (λ (m : ℕ). take m (drop (downstream_bytes * i + 1) bytes)) k ∙ cell-list downstream_bytes (downstream_once d) (length d) bytes b.cell i h;
    }

pub returns-then-i-expander_count : goal.returns-then-i-expander_count
returns-then-i-expander_count c =
    let a = c.args in
    let e = c.expander_count.ensures.0 in
    let l : List ℕ = take a.m a.order.now in
    let p = downstream-past (domain_in a.d.now.attached.rows.now) a.i.0 (omega arith) in
    grown-kept a.m a.order.now (ap (λ (m : List ℕ). l ++ m) p ∙ append-nil l) (omega arith)

pub append_numbers-requires : goal.append_numbers-requires
append_numbers-requires c =
    let e = c.expander_count.ensures.0 in
    let a = c.args in
    let r = reads (domain_in a.d.now.attached.rows.now) a.d.now.downstream.now a.d.now.held (domain-few a.d.now.attached.rows.now) a.i.0 (omega arith) in
    omega (arith, ap length r.list, r.few, c.requires)
