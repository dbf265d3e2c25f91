-- put_phys meets its contract: the words of the phys that are left, stored from here on, are those of all phys stored from word 2 on.
use mathlib.Core.Path.{refl, ◌∙◌}
use lib.ListN.{length-set}
use Rattle.forms.proofs.FormRows.{put-start, put_go, put-end}
use native.Mathlib.Omega.{arith}
use Rattle.forms.proofs.reading.put_phys.Goals as goal

pub loop-p-init : goal.loop-p-init
loop-p-init c = (refl, put-start c.args.ws.now c.args.n c.args.from c.args.row.now)

pub loop-p-preserved : goal.loop-p-preserved
loop-p-preserved c =
    let at-args = c.args in
    (simp length-set c.loop-p.invariant.0, put_go at-args.ws.now at-args.n c.loop-p.p at-args.from c.loop-p.row _ _ _ _ _ (omega arith) c.word_at-a.ensures c.word_at-v.ensures c.phy_back-f.ensures c.phy_address.ensures c.phy_word.ensures ∙ c.loop-p.invariant.1)

pub returns : goal.returns
returns c = put-end c.args.ws.now c.args.n c.loop-p.p c.args.from c.loop-p.row (omega arith) ∙ c.loop-p.invariant.1
