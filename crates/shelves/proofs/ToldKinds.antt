-- What a fresh shelf is told: its kinds tested, and followed by zeros up to sixteen.
use Prim.Native.Nat.{ℕ, zero, suc, ◌≤◌}
use mathlib.Core.Path.{◌≡◌, refl, sym, ◌∙◌, ap}
use mathlib.Core.Bool.{Bool, true, false}
use mathlib.Core.List.{List, [], ◌∷◌}
use native.Mathlib.Omega.{arith}
use lib.ListN.{length, get_or}
use lib.Dec.{leb}
use borrow.Author.Tests.{le-leb, leb-true, eqb-true, eq-eqb}
use Rattle.frames.specs.Refusals.{Result, refused, good, refusal}
use Rattle.files.proofs.CallResults.{both}
use Rattle.shelves.specs.Shelf.{stepped_to, are_kinds, can_be_told, CanBeTold, fresh_shelf, made, Done}
use Rattle.shelves.specs.declared.Shelf.{Shelf}

kinds-known : (ks : List ℕ) → are_kinds ks ≡ true → (i : ℕ) → get_or ks i 0 ≤ 2
unfolding are_kinds
kinds-known [] e i = omega arith
kinds-known (k ∷ ks) e zero = leb-true k 2 (both (leb k 2) (are_kinds ks) e).0
kinds-known (k ∷ ks) e (suc i) = kinds-known ks (both (leb k 2) (are_kinds ks) e).1 i

known-kinds : (ks : List ℕ) → ((i : ℕ) → get_or ks i 0 ≤ 2) → are_kinds ks ≡ true
unfolding are_kinds
known-kinds [] h = refl
known-kinds (k ∷ ks) h = rw (le-leb k 2 (h 0)) (known-kinds ks (λ i. h (suc i)))

-- what can be told, test by test
pub told-says : (phys route_indexes : ℕ) (kinds : List ℕ) → can_be_told phys route_indexes kinds ≡ true → CanBeTold phys route_indexes kinds
unfolding can_be_told
told-says phys route_indexes kinds e =
    let a = both _ _ e in
    let b = both _ _ a.1 in
    let c = both _ _ b.1 in
    let d = both _ _ c.1 in
    record { some = leb-true 1 phys a.0; few = leb-true phys 16 b.0; short = leb-true route_indexes 64 c.0; each = eqb-true (length kinds) phys d.0; known = kinds-known kinds d.1 }

pub says-told : (phys route_indexes : ℕ) (kinds : List ℕ) → CanBeTold phys route_indexes kinds → can_be_told phys route_indexes kinds ≡ true
unfolding can_be_told
says-told phys route_indexes kinds t =
    simp (le-leb 1 phys t.some, le-leb phys 16 t.few, le-leb route_indexes 64 t.short, eq-eqb (length kinds) phys t.each) (known-kinds kinds t.known)

module _ (s : Shelf) (phys route_indexes : ℕ) (kinds : List ℕ) where
  pub made-fresh : can_be_told phys route_indexes kinds ≡ true → made s phys route_indexes kinds ≡ stepped_to (fresh_shelf phys route_indexes kinds) (good 0x00)
  unfolding made
  made-fresh e = simp e

  pub made-refused : can_be_told phys route_indexes kinds ≡ false → made s phys route_indexes kinds ≡ stepped_to s (refused (refusal 3 0 0))
  unfolding made
  made-refused e = simp e

  answered : (b : Bool) → can_be_told phys route_indexes kinds ≡ b → (made s phys route_indexes kinds).answer ≡ good 0x00 → b ≡ true
  answered true e f = refl
  answered false e f =
      let g : ◌≡◌ {A = Result ℕ} (refused (refusal 3 0 0)) (good 0x00) = sym (ap (λ x. x.answer) (made-refused e)) ∙ f in
      let z : ◌≡◌ {A = ℕ} 0 1 = cc in absurd (omega arith)

  -- what it answered 00h to could be told, and made the fresh shelf
  pub made_told : (t : Shelf) → Done (made s phys route_indexes kinds) (good 0x00) t → (can_be_told phys route_indexes kinds ≡ true) × (t ≡ fresh_shelf phys route_indexes kinds)
  made_told t d =
      let e : can_be_told phys route_indexes kinds ≡ true = answered (can_be_told phys route_indexes kinds) refl (sym d.answers) in
      (e, d.left ∙ ap (λ x. x.shelf) (made-fresh e))
