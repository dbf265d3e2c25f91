-- copy stores byte after byte; its loop's invariant: the bytes are those before with so many replaced.
use native.Mathlib.Omega.{arith}
use Prim.Native.Nat.{ℕ, suc, ◌+◌}
use mathlib.Core.Path.{◌≡◌, refl, ◌∙◌, ap}
use mathlib.Core.List.{List}
use lib.ListN.{length, get_or, set, length-set}
use lib.Seq.{paste, paste-zero, paste-suc}
use Rattle.benches.proofs.writing.copy.Goals as goal

pub loop-k-init : goal.loop-k-init
loop-k-init c = (refl, paste-zero c.args.out.now c.args.at c.args.from.now)

pub loop-k-preserved : goal.loop-k-preserved
loop-k-preserved c = let f = c.args.from.now in let s : suc c.loop-k.k ≡ c.loop-k.k + 1 = omega arith in (length-set c.loop-k.out _ _ ∙ c.loop-k.invariant.0, ap (λ (v : List ℕ). set v (c.args.at + c.loop-k.k) (get_or f c.loop-k.k 0)) c.loop-k.invariant.1 ∙ paste-suc c.args.out.now c.args.at f c.loop-k.k 0 (omega arith) (omega arith) ∙ ap (paste c.args.out.now c.args.at f) s)

pub returns : goal.returns
returns c = let e : c.loop-k.k ≡ length c.args.from.now = omega arith in c.loop-k.invariant.1 ∙ ap (paste c.args.out.now c.args.at c.args.from.now) e
