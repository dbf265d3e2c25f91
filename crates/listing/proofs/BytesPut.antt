-- Bytes or words put one after the other.
use Prim.Native.Nat.{ℕ, ◌+◌, ◌≤◌}
use mathlib.Core.Path.{◌≡◌, refl, sym, ◌∙◌, ap}
use mathlib.Core.List.{List, [], ◌∷◌, ◌++◌}
use native.Mathlib.Omega.{arith}
use lib.ListN.{length, set, length-append, length-set}
use lib.Seq.{sets, length-take-le}
use Rattle.io.specs.Counts.{IsPrefixLen}
use Rattle.tables.proofs.WiringLemmas.{sets_then}
use Rattle.tables.specs.lists.GrowingLists.{WordsPut}

-- one element, and the same by an equation
pub put_one : (ws : List ℕ) (at v : ℕ) → WordsPut ws (set ws at v) at (at + 1) (v ∷ [])
put_one ws at v = record { same = length-set ws at v; next = omega arith; words = refl }

pub put_as : {before after x y : List ℕ} {at r : ℕ} → WordsPut before after at r x → x ≡ y → WordsPut before after at r y
put_as {before} {after} {x} {y} {at} {r} u e = rw e at u

-- one after the other
pub put_then : {before mid after x y : List ℕ} {at r s : ℕ} → WordsPut before mid at r x → WordsPut mid after r s y → WordsPut before after at s (x ++ y)
put_then {before} {mid} {after} {x} {y} {at} {r} {s} u v =
    record {
      same = v.same ∙ u.same;
      next = omega (arith, u.next, v.next, length-append x y);
      words = sets_then before mid after at r x y u.words v.words u.next;
    }

-- a place within the whole
pub put-within : {before after x : List ℕ} {at r : ℕ} → WordsPut before after at r x → r ≤ length before → IsPrefixLen r after
put-within {before} {after} {x} {at} {r} u h =
    let s = u.same in
    let l : r ≤ length after = omega arith in
    (l, sym (length-take-le r after l))

-- on the way: `all` goes from `at` on, and `rest` of it is left to put, from `to` on
pub record Going (before : List ℕ) (at : ℕ) (all now : List ℕ) (to : ℕ) (rest : List ℕ) : Type 0 where
  pub same : length now ≡ length before
  pub left : to + length rest ≡ at + length all
  pub words : sets now to rest ≡ sets before at all

pub go-start : {before all : List ℕ} {at : ℕ} → Going before at all before at all
go-start = record { same = refl; left = refl; words = refl }

module _ {before all now rest : List ℕ} {at to : ℕ} (g : Going before at all now to rest) where
  -- the next piece has room where all has
  pub go-fits : (piece rest' : List ℕ) → rest ≡ piece ++ rest' → at + length all ≤ length before → to + length piece ≤ length now
  go-fits piece rest' e h =
      let l = ap length e ∙ length-append piece rest' in
      let a = g.same in
      let b = g.left in
      omega arith

  pub go-turn : (rest' : List ℕ) {next piece : List ℕ} {to' : ℕ} → WordsPut now next to to' piece → rest ≡ piece ++ rest' → Going before at all next to' rest'
  go-turn rest' {next} {piece} {to'} u e =
      let l = ap length e ∙ length-append piece rest' in
      let b = g.left in
      let n = u.next in
      record {
        same = u.same ∙ g.same;
        left = omega arith;
        words = sets_then now next (sets next to' rest') to to' piece rest' u.words refl u.next ∙ sym (ap (sets now to) e) ∙ g.words;
      }

  pub go-end : rest ≡ [] → WordsPut before now at to all
  go-end e =
      let l = ap length e in
      let b = g.left in
      record { same = g.same; next = omega arith; words = sym (ap (sets now to) e) ∙ g.words }
