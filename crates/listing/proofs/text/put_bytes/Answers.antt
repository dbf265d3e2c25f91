-- put_bytes meets its contract. The loop's invariant: the first i bytes of the text have been put from `at` on.
use Prim.Native.Nat.{ℕ, ◌+◌, ◌≤◌}
use mathlib.Core.List.{List, [], ◌∷◌}
use native.Mathlib.Omega.{arith}
use lib.ListN.{length, get_or, drop, drop_of_length-le}
use Rattle.listing.proofs.BytesPut.{go-start, go-fits, go-turn, go-end}
use Rattle.tables.proofs.WiringLemmas.{drop-next}
use Rattle.listing.proofs.text.put_bytes.Goals as goal

pub loop-i-init : goal.loop-i-init
loop-i-init c = go-start

pub put_byte-to-requires : goal.put_byte-to-requires
put_byte-to-requires c =
    let at_pre = c.requires in
    let a = c.args in
    let e = drop-next 0 a.text.now c.loop-i.i (omega arith) in
    omega (arith, go-fits c.loop-i.invariant (get_or a.text.now c.loop-i.i 0 ∷ []) (drop (c.loop-i.i + 1) a.text.now) e at_pre)

pub loop-i-preserved : goal.loop-i-preserved
loop-i-preserved c =
    let a = c.args in
    let e = drop-next 0 a.text.now c.loop-i.i (omega arith) in
    let rest : List ℕ = drop (c.loop-i.i + 1) a.text.now in
    go-turn c.loop-i.invariant rest c.put_byte-to.ensures e

pub returns : goal.returns
returns c =
    let t : List ℕ = c.args.text.now in
    let h : length t ≤ c.loop-i.i = omega arith in
    go-end c.loop-i.invariant (drop_of_length-le t h)
