-- has_number meets its contract. The loop's invariant: the number was found, or is among those from i on exactly when it is among them all.
use Prim.Native.Nat.{ℕ, ◌+◌, ◌≤◌, ◌<◌}
use mathlib.Core.Bool.{Bool, true, false, cond}
use mathlib.Core.List.{List}
use mathlib.Core.Path.{◌≡◌, sym}
use native.Mathlib.Omega.{arith}
use lib.ListN.{length, get_or, drop}
use Rattle.files.specs.Lists.{is_in}
use Rattle.files.proofs.UnitReading.{in_stop, in_go, in_end}
use Rattle.tables.proofs.levels.downstream.has_number.Goals as goal
use Rattle.tables.proofs.levels.downstream.has_number.Goals.{then-l-i, else-l-i}

-- what a turn of the loop keeps, where the number is found and where it is not, and what is known after the last
module _ (a i : ℕ) (l : List ℕ) {v : Bool} where
  found-stop : (b : Bool) → cond b true (is_in a (drop i l)) ≡ v → a ≡ get_or l i 0 → i < length l → true ≡ v
  found-stop true inv e h = inv
  found-stop false inv e h = in_stop a i l inv e h

  found-go : (b : Bool) → cond b true (is_in a (drop i l)) ≡ v → (a ≡ get_or l i 0 → ⊥) → i < length l → cond b true (is_in a (drop (i + 1) l)) ≡ v
  found-go true inv e h = inv
  found-go false inv e h = in_go a i l inv e h

  found-end : (b : Bool) → cond b true (is_in a (drop i l)) ≡ v → length l ≤ i → b ≡ v
  found-end true inv h = inv
  found-end false inv h = in_end a i l inv h

pub loop-i-preserved : goal.loop-i-preserved
loop-i-preserved c =
    let a = c.args in
    let h : c.loop-i.i < length a.l.now = c.loop-i-test.true in elim c.if-l-i.branch [
      | then-l-i w ↦ rw w.found-is (found-stop a.j.0 c.loop-i.i a.l.now c.loop-i.found c.loop-i.invariant (sym w.if-l-i.true) h)
      | else-l-i w ↦ rw w.found-is (found-go a.j.0 c.loop-i.i a.l.now c.loop-i.found c.loop-i.invariant (λ e. w.if-l-i.false (sym e)) h)
    ]

pub returns : goal.returns
returns c = found-end _ c.loop-i.i c.args.l.now c.loop-i.found c.loop-i.invariant (omega arith)
