-- put_neighbours meets its contract. The loop's invariant: the words of the expanders before expander i are written, and sum is the number of
-- their bits.
use Prim.Native.Nat.{ℕ}
use mathlib.Core.List.{◌++◌, map}
use mathlib.Core.Path.{◌≡◌, refl, ◌∙◌, ap}
use lib.Count.{ones, ones-le}
use lib.ListN.{length, drop}
use Rattle.files.specs.Lists.{numbers}
use Rattle.wiring.specs.graph.Neighbours.{neighbour_word, neighbour_words, bits_in}
use Rattle.files.specs.Rows.{domain_in}
use Rattle.files.proofs.RowsAsDomain.{domain-few}
use Rattle.wiring.proofs.graph.NeighbourWords.{words-next, bits-next}
use native.Mathlib.Omega.{arith}
use Rattle.wiring.proofs.graph.neighbours.put_neighbours.Goals as goal

pub put_cables-requires : goal.put_cables-requires
put_cables-requires c = domain-few c.args.d.now.rows.now

pub loop-i-init : goal.loop-i-init
unfolding numbers bits_in
loop-i-init c = (omega arith, refl, refl)

pub loop-i-preserved : goal.loop-i-preserved
loop-i-preserved c =
    let a = c.args in
    let f = neighbour_word (domain_in a.d.now.rows.now) in
    let b = bits-next f c.loop-i.i in
    let o = ones-le 64 c.neighbour_word-w.result (omega arith) in
    let e = ap ones c.neighbour_word-w.ensures in
    let q = c.loop-i.invariant.1 in (
      omega arith,
      omega arith,
      words-next f c.loop-i.i c.loop-i.words a.words.now c.neighbour_word-w.result c.loop-i.invariant.2 c.neighbour_word-w.ensures (omega arith),
    )

pub returns : goal.returns
unfolding neighbour_words
returns c =
    let a = c.args in
    let d = domain_in a.d.now.rows.now in
    let e : c.loop-i.i ≡ length d = omega arith in record {
      value = c.loop-i.invariant.1 ∙ ap (λ (n : ℕ). bits_in (map (neighbour_word d) (numbers 0 n))) e;
      words_after = c.loop-i.invariant.2 ∙ ap (λ (n : ℕ). map (neighbour_word d) (numbers 0 n) ++ drop n a.words.now) e;
    }
