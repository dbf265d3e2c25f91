-- find meets its contract. The loop's invariant: the walk is at cell c, which has v, and goes on to where the walk from the root ends. The
-- slots rise along it, so it ends.
use mathlib.Core.Path.{sym, ◌∙◌}
use Rattle.wiring.proofs.index.SlotDevices.{listed_at}
use Rattle.wiring.proofs.index.SearchTrees.{going_end, going_slot, going_found, next-within, going_next, going_less}
use native.Mathlib.Omega.{arith}
use Rattle.wiring.proofs.index.addresses.find.Goals as goal

pub slot_word-requires : goal.slot_word-requires
slot_word-requires c =
    let at_pre = c.requires in
    omega (arith, (going_slot _ _ _ _ _ at_pre.tree _ c.loop-v.invariant (omega arith)).0, at_pre.few)

pub returns-then-slot_word-s : goal.returns-then-slot_word-s
returns-then-slot_word-s c = (going_found _ _ _ _ _ c.requires.tree _ c.loop-v.invariant (omega arith) (sym (listed_at c.args.rows.now c.args.from c.loop-v.v c.slot_word.result c.requires.start (omega arith) (going_slot _ _ _ _ _ c.requires.tree _ c.loop-v.invariant (omega arith)).1 c.slot_word.ensures) ∙ c.if-slot_word-s.true), c.loop-v.invariant.within)

pub bounds-cells-c-in-loop-v : goal.bounds-cells-c-in-loop-v
bounds-cells-c-in-loop-v c =
    let at_pre = c.requires in
    omega (arith, next-within _ _ _ _ _ at_pre.tree _ c.loop-v.invariant (omega arith))

pub loop-v-smaller : goal.loop-v-smaller
loop-v-smaller c =
    let at_pre = c.requires in
    going_less _ _ _ _ _ at_pre.tree _ c.loop-v.invariant (omega arith)

pub loop-v-preserved : goal.loop-v-preserved
loop-v-preserved c = going_next _ _ _ _ _ c.requires.tree _ c.loop-v.invariant (omega arith) (λ q. c.if-slot_word-s.false ((listed_at c.args.rows.now c.args.from c.loop-v.v c.slot_word.result c.requires.start (omega arith) (going_slot _ _ _ _ _ c.requires.tree _ c.loop-v.invariant (omega arith)).1 c.slot_word.ensures) ∙ q))

pub returns : goal.returns
returns c =
    let at_pre = c.requires in
    (going_end _ _ _ _ _ at_pre.tree _ c.loop-v.invariant (omega arith), c.loop-v.invariant.within)
