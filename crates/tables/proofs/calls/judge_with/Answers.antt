-- judge_with meets its contract: the second byte states how many expanders there are, and a file that is read has at most 64, so the room is enough.
use Prim.Native.Nat.{ℕ, min}
use lib.ListN.{length-replicate}
use native.Mathlib.Omega.{arith}
use Rattle.wiring.specs.FrameDefinitions.{byte}
use Rattle.files.proofs.ReadDomain.{stated-expanders, read-good}
use Rattle.wiring.proofs.FileRows.{file-room}
use Rattle.tables.proofs.calls.judge_with.Goals as goal

pub judge_in-requires : goal.judge_in-requires
judge_in-requires g c =
    let a = c.args in
    let f = a.file.now in
    let room = c.requires in
    file-room a.setting (min 64 (byte f 1)) f _ _ _ (λ d e. let r = read-good a.setting f d e in omega (arith, stated-expanders a.setting f d e, r.few, r.range.expanders.1))
    (omega (arith, length-replicate {A = ℕ} g.row.ROWS 0, room.rows)) (omega (arith, length-replicate {A = ℕ} g.row.SLOTS 0, room.slots)) (omega (arith, length-replicate {A = ℕ} g.row.PHYS 0, room.phys))
