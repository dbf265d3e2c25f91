-- When a shelf refuses, and with which numbers: a frame exactly where the reader refuses it, and what a fresh shelf is told with 3
-- exactly where it cannot be told.
use Prim.Native.Nat.{ℕ, ◌≤◌}
use mathlib.Core.Path.{◌≡◌, refl, sym, ap, subst, ◌∙◌}
use mathlib.Core.Logic.{◌⊎◌}
use mathlib.Core.Bool.{Bool, true, false}
use mathlib.Core.List.{List}
use native.Mathlib.Omega.{arith}
use lib.ListN.{length}
use lib.Dec.{T}
use Rattle.frames.specs.Bytes.{byte}
use Rattle.frames.specs.Refusals.{Result, refused, good, refusal}
use Rattle.frames.specs.RefusesExactly.{RefusesExactly}
use Rattle.frames.specs.ConfigureRoute.{route_fixed, route_read}
use Rattle.frames.specs.declared.Refusal.{Refusal}
use Rattle.frames.specs.declared.Route.{Route}
use Rattle.frames.proofs.FrameRefusals.{never, route-exactly, refused-one}
use Rattle.shelves.specs.Shelf.{CanBeTold, can_be_told, made, after_read, stepped, Done}
use Rattle.shelves.specs.declared.Shelf.{Shelf}
use Rattle.shelves.proofs.ToldKinds.{told-says, says-told, made-fresh, made-refused}

-- a shelf refuses where the reader does
as_read : (s : Shelf) (x : Result Route) (N : Type 0) (P : ℕ → Type 0) → RefusesExactly x N P → RefusesExactly (after_read s x).answer N P
unfolding after_read
as_read s (refused r) N P e = record {
  answers = (λ a. never r a.0 a.1, λ n. let a = e.answers.1 n in never r a.0 a.1);
  numbers = λ t q. e.numbers t (ap refused (refused-one r t q));
}
as_read s (good q) N P e = record { answers = (λ _. e.answers.0 (q, refl), λ _. (_, refl)); numbers = λ r z. never r _ (sym z) }

-- a frame: its length (1), bytes 0, 1 and 3 (2), its phy (15), whatever stands in the shelf
abbrev Frame : List ℕ → Type 0
Frame frame = (length frame ≡ 40) × (T (route_fixed frame) × (byte frame 9 ≤ 127))

abbrev frame_number : ℕ → Type 0
frame_number n = (n ≡ 1) ⊎ ((n ≡ 2) ⊎ (n ≡ 15))

pub obey-exactly : (s t : Shelf) (frame : List ℕ) (answer : Result ℕ) → Done (stepped s frame) answer t → RefusesExactly answer (Frame frame) frame_number
obey-exactly s t frame answer d =
    subst (λ (a : Result ℕ). RefusesExactly a (Frame frame) frame_number) (sym d.answers) (as_read s (route_read frame) (Frame frame) frame_number (route-exactly frame (route_read frame) refl))

-- what a fresh shelf is told
pub fresh-exactly : (s t : Shelf) (phys route_indexes : ℕ) (kinds : List ℕ) (answer : Result ℕ) → Done (made s phys route_indexes kinds) answer t
    → RefusesExactly answer (CanBeTold phys route_indexes kinds) (λ n. n ≡ 3)
fresh-exactly s t phys route_indexes kinds answer d = subst (λ (a : Result ℕ). RefusesExactly a (CanBeTold phys route_indexes kinds) (λ n. n ≡ 3)) (sym d.answers) (go (can_be_told phys route_indexes kinds) refl)
  where
    go : (b : Bool) → can_be_told phys route_indexes kinds ≡ b → RefusesExactly (made s phys route_indexes kinds).answer (CanBeTold phys route_indexes kinds) (λ n. n ≡ 3)
    go true e =
        rw (made-fresh s phys route_indexes kinds e)
        (record { answers = (λ _. told-says phys route_indexes kinds e, λ _. (0, refl)); numbers = λ r z. never r _ (sym z) })
    go false e =
        rw (made-refused s phys route_indexes kinds e)
        (record {
          answers = (λ a. never (refusal 3 0 0) a.0 a.1, λ n. let z : true ≡ false = sym (says-told phys route_indexes kinds n) ∙ e in let y : ◌≡◌ {A = ℕ} 0 1 = cc in absurd (omega arith));
          numbers = λ r z. sym (ap (λ (x : Refusal). x.number) (refused-one (refusal 3 0 0) r z));
        })
