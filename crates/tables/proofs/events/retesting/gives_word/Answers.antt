-- gives_word meets its contract: a direct phy gives its word, and an attached table phy whose address no lower one bears.
use Prim.Native.Nat.{ℕ}
use mathlib.Core.Path.{◌∙◌, ap}
use mathlib.Core.Bool.{not}
use mathlib.Core.List.{List}
use borrow.Author.Tests.{eq-eqb, ne_eqb}
use Rattle.files.specs.declared.Phy.{Phy}
use Rattle.files.specs.Lists.{any}
use Rattle.files.specs.Domain.{expander_at, type_of, attribute_of, bears}
use Rattle.files.specs.Rows.{domain_in}
use Rattle.tables.specs.lists.OwnLists.{lower, owns}
use native.Mathlib.Omega.{arith}
use Rattle.tables.proofs.events.retesting.gives_word.Goals as goal

pub returns-then-attribute-eq0 : goal.returns-then-attribute-eq0
unfolding owns
returns-then-attribute-eq0 c =
    let a = c.args in
    simp (eq-eqb (attribute_of a.f) 0 (omega arith))

pub returns-then-attribute-ne2 : goal.returns-then-attribute-ne2
unfolding owns
returns-then-attribute-ne2 c =
    let a = c.args in
    simp (ne_eqb (attribute_of a.f) 0 (λ e. omega arith), ne_eqb (attribute_of a.f) 2 (λ e. omega arith))

pub returns-then-phy_type-eq0 : goal.returns-then-phy_type-eq0
unfolding owns
returns-then-phy_type-eq0 c =
    let a = c.args in
    simp (ne_eqb (attribute_of a.f) 0 (λ e. omega arith), eq-eqb (attribute_of a.f) 2 (omega arith), eq-eqb (type_of a.f) 0 (omega arith))

pub returns : goal.returns
unfolding owns
returns c =
    let a = c.args in
    let φs : List Phy = (expander_at (domain_in a.rows.now) a.i.0).phys in
    simp (ne_eqb (attribute_of a.f) 0 (λ e. omega arith), eq-eqb (attribute_of a.f) 2 (omega arith), ne_eqb (type_of a.f) 0 (λ e. omega arith)) (ap not c.is_borne.ensures ∙ ap (λ (s : ℕ). not (any (bears s) (lower φs a.p.0))) c.phy_address.ensures)
