-- add_number meets its contract: a number that is there already, or has no room, leaves the list, and any other one goes behind it.
use Prim.Native.Nat.{ℕ}
use mathlib.Core.List.{List}
use mathlib.Core.Path.{refl}
use native.Mathlib.Omega.{arith}
use lib.ListN.{length, take}
use lib.Seq.{length-take-le}
use borrow.Author.Tests.{le-leb, lt-leb}
use Rattle.tables.proofs.lists.GrowingLists.{add-by, grown-kept, grown-more}
use Rattle.tables.proofs.levels.downstream.add_number.Goals as goal

pub returns-then-has_number : goal.returns-then-has_number
returns-then-has_number c =
    let a = c.args in
    let room : ℕ = length a.part.now in
    let l : List ℕ = take a.m a.part.now in
    grown-kept a.m a.part.now (add-by room l a.j.0 c.has_number.ensures c.if-has_number.true refl) (omega arith)

pub returns-then-m-part : goal.returns-then-m-part
returns-then-m-part c =
    let a = c.args in
    let room : ℕ = length a.part.now in
    let l : List ℕ = take a.m a.part.now in
    let long = length-take-le a.m a.part.now (omega arith) in
    let full = le-leb room (length l) (omega arith) in
    grown-kept a.m a.part.now (add-by room l a.j.0 c.has_number.ensures c.if-has_number.false full) (omega arith)

pub returns : goal.returns
returns c =
    let a = c.args in
    let room : ℕ = length a.part.now in
    let l : List ℕ = take a.m a.part.now in
    let long = length-take-le a.m a.part.now (omega arith) in
    let free = lt-leb room (length l) (omega arith) in
    grown-more a.m a.part.now a.j.0 (add-by room l a.j.0 c.has_number.ensures c.if-has_number.false free) (omega arith)
