-- Meets: the next place, by whether the expander has the cursor's phy.
use Prim.Native.Nat.{◌+◌}
use mathlib.Core.Bool.{Bool, cond}
use mathlib.Core.Path.{sym, ap}
use borrow.Author.Tests.{lt-ltb, le-ltb}
use native.Mathlib.Omega.{arith}
use lib.ListN.{length}
use Rattle.tables.specs.WiringDefinitions.{expander_at, domain_in}
use Rattle.tables.proofs.WiringLemmas.{domain-few}
use Rattle.listing.specs.Lines.{cursor}
use Rattle.listing.proofs.entries.next_place.Goals as goal

pub returns-then-at-phy_count : goal.returns-then-at-phy_count
returns-then-at-phy_count c =
    let a = c.args in
    let n = c.phy_count.ensures in
    sym (ap (λ (b : Bool). cond b (cursor a.at.expander.0 (a.at.phy.0 + 1) 0 a.at.word) (cursor (a.at.expander.0 + 1) 0 0 a.at.word))
    (lt-ltb a.at.phy.0 (length (expander_at (domain_in a.rows.now) a.at.expander.0).phys) (omega arith)))

pub overflow_add-result-2 : goal.overflow_add-result-2
overflow_add-result-2 c =
    let a = c.args in
    omega (arith, c.requires, domain-few a.rows.now)

pub returns : goal.returns
returns c =
    let a = c.args in
    let n = c.phy_count.ensures in
    sym (ap (λ (b : Bool). cond b (cursor a.at.expander.0 (a.at.phy.0 + 1) 0 a.at.word) (cursor (a.at.expander.0 + 1) 0 0 a.at.word))
    (le-ltb a.at.phy.0 (length (expander_at (domain_in a.rows.now) a.at.expander.0).phys) (omega arith)))
