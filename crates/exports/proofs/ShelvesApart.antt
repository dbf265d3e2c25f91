-- Bit 63 of the answers of the two calls on a shelf that refuse.
use Prim.Native.Nat.{ℕ, ◌≤◌, min}
use mathlib.Core.Path.{◌≡◌, refl}
use mathlib.Core.Bool.{Bool, true, false, cond, ◌&&◌}
use mathlib.Core.List.{List}
use native.Mathlib.Omega.{arith}
use lib.Dec.{eqb, leb, ltb}
use Rattle.frames.specs.Refusals.{Result, refused, good, refusal}
use Rattle.frames.specs.declared.Refusal.{Refusal}
use Rattle.frames.specs.declared.Route.{Route}
use Rattle.frames.specs.ConfigureRoute.{route_read}
use Rattle.files.specs.ReadDomain.{Bytes}
use Rattle.shelves.specs.PlainTable.{result_of}
use Rattle.shelves.specs.Shelf.{can_be_told, stepped_to, fresh_shelf, made, kind_in, after_read, stepped}
use Rattle.shelves.specs.declared.Shelf.{Shelf}
use Rattle.shelves.specs.declared.Stepped.{Stepped}
use Rattle.exports.specs.Packing.{number}
use Rattle.exports.specs.Shelves.{ShelfDone}
use Rattle.exports.specs.AnswerParts.{Itself}
use Rattle.exports.specs.RefusalBit.{ThreeBytes, ToldApart, BitTells}
use Rattle.exports.proofs.RefusalBit.{Tells, Yields, tells, no_place, answer-tells}
use Rattle.exports.proofs.FramesApart.{read-route-apart}

-- so what a shelf answers is told by bit 63, by all that the call promises
pub shelf-tells : (outcome : Stepped) (answer : ℕ) (after : Shelf) → ToldApart number Itself outcome.answer → ShelfDone outcome answer after
    → BitTells Itself outcome.answer answer
shelf-tells outcome answer after t o = answer-tells number Itself outcome.answer answer t o.answers

-- a fresh shelf
pub fresh-apart : (s : Shelf) (phys route_indexes : ℕ) (kinds : List ℕ) → ToldApart number Itself ((made s phys route_indexes kinds).answer)
unfolding made
fresh-apart s phys route_indexes kinds = tells number Itself _ (go (can_be_told phys route_indexes kinds))
  where
    go : (b : Bool) → Tells (Yields number Itself) ((cond b (stepped_to (fresh_shelf phys route_indexes kinds) (good 0x00)) (stepped_to s (refused (refusal 3 0 0)))).answer)
    go true = (omega arith, refl)
    go false = no_place 3 (omega arith)

-- function results
result-few : (phys route_indexes : ℕ) (kind : ℕ → ℕ) (phy index : ℕ) → result_of phys route_indexes kind phy index ≤ 22
unfolding result_of
result-few phys route_indexes kind phy index = go (leb phys phy) (eqb (kind phy) 0) (eqb (kind phy) 1 && ltb index route_indexes)
  where
    go : (a b c : Bool) → cond a 0x10 (cond b 0x16 (cond c 0x00 0x11)) ≤ 22
    go true b c = omega arith
    go false true c = omega arith
    go false false true = omega arith
    go false false false = omega arith

-- a frame that a shelf obeys
pub obey-apart : (s : Shelf) (frame : List ℕ) → Bytes frame → ToldApart number Itself ((stepped s frame).answer)
unfolding after_read
obey-apart s frame b = tells number Itself _ (go (route_read frame) (read-route-apart frame b).refusals)
  where
    go : (x : Result Route) → ((r : Refusal) → x ≡ refused r → ThreeBytes r) → Tells (Yields number Itself) ((after_read s x).answer)
    go (refused r) h = h r refl
    go (good q) h = let m = result-few (min 16 s.phys) (min 64 s.route_indexes) (kind_in s.kinds) q.phy.0 q.index.0 in (omega arith, refl)
