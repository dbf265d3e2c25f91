-- Each test is one of the definition's, in its order.
use borrow.Author.Tests.{le-leb, lt-leb, eq-eqb, ne_eqb}
use lib.ListN.{length}
use native.Mathlib.Omega.{arith}
use Rattle.shelves.specs.Shelf.{can_be_told}
use Rattle.shelves.proofs.making.is_told.Goals as goal

pub returns-then-phys-lt1 : goal.returns-then-phys-lt1
unfolding can_be_told
returns-then-phys-lt1 c = let a = c.args in simp (lt-leb 1 a.phys (omega arith))

pub returns-then-phys-gt16 : goal.returns-then-phys-gt16
unfolding can_be_told
returns-then-phys-gt16 c = let a = c.args in simp (le-leb 1 a.phys (omega arith), lt-leb a.phys 16 (omega arith))

pub returns-then-route_indexes-gt64 : goal.returns-then-route_indexes-gt64
unfolding can_be_told
returns-then-route_indexes-gt64 c = let a = c.args in simp (le-leb 1 a.phys (omega arith), le-leb a.phys 16 (omega arith), lt-leb a.route_indexes 64 (omega arith))

pub returns-then-kinds-phys : goal.returns-then-kinds-phys
unfolding can_be_told
returns-then-kinds-phys c =
    let a = c.args in
    simp (le-leb 1 a.phys (omega arith), le-leb a.phys 16 (omega arith), le-leb a.route_indexes 64 (omega arith), ne_eqb (length a.kinds.now) a.phys c.if-kinds-phys.true)

pub returns : goal.returns
unfolding can_be_told
returns c =
    let a = c.args in
    simp (le-leb 1 a.phys (omega arith), le-leb a.phys 16 (omega arith), le-leb a.route_indexes 64 (omega arith), eq-eqb (length a.kinds.now) a.phys c.if-kinds-phys.false) c.are_kinds.ensures
