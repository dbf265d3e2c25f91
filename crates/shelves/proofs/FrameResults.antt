-- One frame: what each result says of a request, and what it leaves.
use Prim.Native.Nat.{ℕ, ◌<◌}
use mathlib.Core.Path.{◌≡◌, refl, ◌∙◌, ap}
use mathlib.Core.Bool.{Bool, true, false, cond, ◌&&◌}
use mathlib.Core.List.{List}
use native.Mathlib.Omega.{arith}
use lib.Dec.{eqb, leb, ltb}
use borrow.Author.Tests.{eq-eqb, ne_eqb, eqb-true, leb-false, ltb-true}
use Rattle.frames.specs.Refusals.{Result, refused, good}
use Rattle.frames.specs.ConfigureRoute.{route_read}
use Rattle.frames.specs.declared.Route.{Route}
use Rattle.shelves.specs.PlainTable.{result_of}
use Rattle.shelves.specs.Shelf.{stepped_to, shelf_result, loaded, after_read, stepped, Done}
use Rattle.shelves.specs.declared.Shelf.{Shelf}

-- what 00h says of a phy and a route index
pub record Exists (phys route_indexes : ℕ) (kind : ℕ → ℕ) (phy index : ℕ) : Type 0 where
  pub there : phy < phys
  pub table : kind phy ≡ 1
  pub below : index < route_indexes

exists-by : (a b c d : Bool) → ◌≡◌ {A = ℕ} (cond a 0x10 (cond b 0x16 (cond (c && d) 0x00 0x11))) 0x00 → (a ≡ false) × ((c ≡ true) × (d ≡ true))
exists-by true b c d e = absurd (omega arith)
exists-by false true c d e = absurd (omega arith)
exists-by false false true true e = (refl, (refl, refl))
exists-by false false true false e = absurd (omega arith)
exists-by false false false d e = absurd (omega arith)

pub exists : (phys route_indexes : ℕ) (kind : ℕ → ℕ) (phy index : ℕ) → result_of phys route_indexes kind phy index ≡ 0x00 → Exists phys route_indexes kind phy index
unfolding result_of
exists phys route_indexes kind phy index e =
    let k : ℕ = kind phy in
    let t = exists-by (leb phys phy) (eqb k 0) (eqb k 1) (ltb index route_indexes) e in
    record { there = leb-false phys phy t.0; table = eqb-true k 1 t.1.0; below = ltb-true index route_indexes t.1.1 }

module _ (s : Shelf) (q : Route) where
  abbrev result : ℕ
  result = shelf_result s q.phy.0 q.index.0

  pub after-good : result ≡ 0x00 → after_read s (good q) ≡ stepped_to (loaded s q) (good result)
  unfolding after_read
  after-good e = simp (eq-eqb result 0x00 e)

  pub after-other : (result ≡ 0x00 → ⊥) → after_read s (good q) ≡ stepped_to s (good result)
  unfolding after_read
  after-other e = simp (ne_eqb result 0x00 e)

-- a frame that is refused, or answered with anything but 00h, changes nothing
kept_read : (s : Shelf) (r : Result Route) → ((after_read s r).answer ≡ good 0x00 → ⊥) → (after_read s r).shelf ≡ s
unfolding after_read
kept_read s (refused r) n = refl
kept_read s (good q) n = ap (λ x. x.shelf) (after-other s q (λ e. n (ap good e)))

pub kept : (s t : Shelf) (frame : List ℕ) (answer : Result ℕ) → Done (stepped s frame) answer t → (answer ≡ good 0x00 → ⊥) → t ≡ s
kept s t frame answer d n = d.left ∙ kept_read s (route_read frame) (λ e. n (d.answers ∙ e))
