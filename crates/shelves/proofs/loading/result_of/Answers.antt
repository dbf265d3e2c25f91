-- The function result: of each test, what it says of the phy and the route index, in the order of the definition.
use Prim.Native.Nat.{min}
use native.Mathlib.Omega.{arith}
use borrow.Author.Tests.{le-leb, lt-leb, le-ltb, lt-ltb, eq-eqb, ne_eqb}
use Rattle.shelves.specs.PlainTable.{result_of}
use Rattle.shelves.specs.Shelf.{kind_in}
use Rattle.shelves.proofs.loading.result_of.Goals as goal

pub returns-then-count-p : goal.returns-then-count-p
unfolding result_of
returns-then-count-p c = let a = c.args in simp (le-leb (min 16 a.phys) a.phy.0 (omega arith))

pub returns-then-kind-eq0 : goal.returns-then-kind-eq0
unfolding result_of
returns-then-kind-eq0 c = let a = c.args in simp (lt-leb (min 16 a.phys) a.phy.0 (omega arith), eq-eqb (kind_in a.kinds a.phy.0) 0 c.if-kind-eq0.true)

pub returns-then-kind-ne1 : goal.returns-then-kind-ne1
unfolding result_of
returns-then-kind-ne1 c =
    let a = c.args in
    simp (lt-leb (min 16 a.phys) a.phy.0 (omega arith), ne_eqb (kind_in a.kinds a.phy.0) 0 c.if-kind-eq0.false, ne_eqb (kind_in a.kinds a.phy.0) 1 c.if-kind-ne1.true)

pub returns-then-end-k : goal.returns-then-end-k
unfolding result_of
returns-then-end-k c =
    let a = c.args in
    simp (lt-leb (min 16 a.phys) a.phy.0 (omega arith), eq-eqb (kind_in a.kinds a.phy.0) 1 c.if-kind-ne1.false, ne_eqb (kind_in a.kinds a.phy.0) 0 c.if-kind-eq0.false, le-ltb a.index.0 (min 64 a.route_indexes) (omega arith))

pub returns : goal.returns
unfolding result_of
returns c =
    let a = c.args in
    simp (lt-leb (min 16 a.phys) a.phy.0 (omega arith), eq-eqb (kind_in a.kinds a.phy.0) 1 c.if-kind-ne1.false, ne_eqb (kind_in a.kinds a.phy.0) 0 c.if-kind-eq0.false, lt-ltb a.index.0 (min 64 a.route_indexes) (omega arith))
