-- Reading a file into rows: what the whole call promises.
use Prim.Native.Nat.{ℕ, ◌*◌, ◌≤◌, ◌<◌}
use mathlib.Core.Path.{◌≡◌, refl, sym, ◌∙◌, ap}
use mathlib.Core.List.{List, ◌++◌}
use native.Mathlib.Omega.{arith}
use lib.ListN.{length, take, drop}
use lib.Seq.{sets, take_at}
use borrow.Author.Tests.{le-leb, lt-leb}
use Rattle.frames.specs.Refusals.{Result, refused, good, then, refusal}
use Rattle.frames.specs.declared.Refusal.{Refusal}
use Rattle.frames.proofs.ValuesPut.{sets-front}
use Rattle.files.specs.declared.Setting.{Setting}
use Rattle.files.specs.Domain.{Domain}
use Rattle.files.specs.ReadDomain.{Bytes}
use Rattle.files.specs.File.{domain_read}
use Rattle.files.specs.Rows.{rows_of, rows_for, rows_read, count_of, rows_after, rows_hold, RowsRead, row_words}
use Rattle.files.specs.SecondReading.{domain_got}
use Rattle.files.proofs.CallResults.{never}
use Rattle.files.proofs.ReadDomain.{read-good, read_fits, read_again}
use Rattle.files.proofs.RowsRoundTrip.{length-rows_of, domain-back}

promise : (setting : Setting) (file : List ℕ) (answer : Result ℕ) (ws ws' : List ℕ) (y : Result Domain) → rows_read setting file (length ws) ≡ y
    → answer ≡ then y count_of → ws' ≡ rows_after y ws → rows_hold y ws' → RowsRead setting file answer ws ws'
promise setting file answer ws ws' y e a w h = record { answers = rw e a; words = rw e w; holds = rw e h }

rows-by : (setting : Setting) (file : List ℕ) (room : ℕ) (x : Result Domain) → domain_read setting file ≡ x → rows_read setting file room ≡ then x (rows_for room)
unfolding rows_read
rows-by setting file room x q = rw q

-- the domain that was counted
record Counted (x : Result Domain) (n : ℕ) : Type 0 where
  domain : Domain
  is : x ≡ good domain
  count : n ≡ length domain

counted : (x : Result Domain) (n : ℕ) → then x count_of ≡ good n → Counted x n
counted (refused r) n e = never r n e
counted (good d) n e = record { domain = d; is = refl; count = cc }

not_counted : (x : Result Domain) (r : Refusal) → then x count_of ≡ refused r → x ≡ refused r
not_counted (refused q) r e = cc
not_counted (good d) r e = never r (length d) (sym e)

module _ (setting : Setting) (file ws : List ℕ) where
  pub rows-refused : (r : Refusal) → then (domain_read setting file) count_of ≡ refused r → RowsRead setting file (refused r) ws ws
  rows-refused r q = promise setting file (refused r) ws ws (refused r) (rows-by setting file (length ws) _ (not_counted (domain_read setting file) r q)) refl refl tt

  pub rows_short : (answer : Result ℕ) (n : ℕ) → answer ≡ refused (refusal 16 0 0) → then (domain_read setting file) count_of ≡ good n
      → length ws < row_words * n → RowsRead setting file answer ws ws
  rows_short answer n a q h =
      let c = counted (domain_read setting file) n q in
      let k = c.count in
      let e : rows_for (length ws) c.domain ≡ refused (refusal 16 0 0) = rw (lt-leb (row_words * length c.domain) (length ws) (omega arith)) in
      promise setting file answer ws ws (refused (refusal 16 0 0)) (rows-by setting file (length ws) _ c.is ∙ e) a refl tt

  pub rows_full : (ws' : List ℕ) (n : ℕ) → Bytes file → then (domain_read setting file) count_of ≡ good n → row_words * n ≤ length ws
      → ws' ≡ sets ws 0 (rows_of (domain_got setting file n 0 2)) → RowsRead setting file (good n) ws ws'
  rows_full ws' n b q h w =
      let c = counted (domain_read setting file) n q in
      let d = c.domain in
      let g = read-good setting file d c.is in
      let e : rows_for (length ws) d ≡ good d = rw (le-leb (row_words * length d) (length ws) (omega (arith, c.count))) in
      let r : domain_got setting file n 0 2 ≡ d = ap (λ (k : ℕ). domain_got setting file k 0 2) c.count ∙ read_again setting file d c.is in
      let l : length (rows_of d) ≡ row_words * length d = length-rows_of setting d g in
      let v : ws' ≡ rows_of d ++ drop (row_words * length d) ws =
      w ∙ ap (λ (x : Domain). sets ws 0 (rows_of x)) r ∙ sets-front (rows_of d) ws (omega (arith, c.count)) ∙ ap (λ (k : ℕ). rows_of d ++ drop k ws) l in
      let t : take (row_words * length d) ws' ≡ rows_of d = ap (take (row_words * length d)) v ∙ take_at (rows_of d) _ (row_words * length d) l in
      promise setting file (good n) ws ws' (good d) (rows-by setting file (length ws) _ c.is ∙ e) (ap good c.count) v (rw t (domain-back setting d g (read_fits setting file d b c.is)))

  -- rows have place for all phys that the setting allows
  pub place_for : (n : ℕ) → then (domain_read setting file) count_of ≡ good n → setting.phys ≤ 128
  place_for n q = let c = counted (domain_read setting file) n q in (read-good setting file c.domain c.is).range.phys.1
