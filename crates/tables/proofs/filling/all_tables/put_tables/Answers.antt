-- put_tables meets its contract: the words so far, with the tables of the phys from p on put in, are the words after the call.
use Prim.Native.Nat.{ℕ, ◌+◌, ◌-◌}
use mathlib.Core.List.{List, [], ◌∷◌}
use mathlib.Core.Path.{◌≡◌, refl, sym, ◌∙◌, ap}
use mathlib.Core.Bool.{true, false}
use borrow.Author.Tests.{eq-eqb, ne_eqb}
use native.Mathlib.Omega.{arith}
use lib.ListN.{length, get_or-eq_default}
use lib.Seq.{sets}
use Rattle.files.proofs.RowsAsDomain.{phy-held}
use Rattle.files.specs.declared.Phy.TheVariants.{Vacant}
use Rattle.files.specs.Domain.{Domain, expander_at, phy_at, is_table, attribute_of}
use Rattle.wiring.specs.phys.PhyCauses.{Place, place, phy_places}
use Rattle.files.specs.Rows.{domain_in}
use Rattle.wiring.proofs.index.SlotDevices.{short_in}
use Rattle.tables.specs.filling.Tables.{sizes}
use Rattle.tables.specs.lists.GrowingLists.{places_at}
use Rattle.tables.specs.lists.PreparedLists.{order_of, own_tables_of}
use Rattle.tables.proofs.lists.GrowingLists.{grown-kept, grown-again}
use Rattle.tables.proofs.levels.LevelOrders.{order-none}
use Rattle.tables.proofs.filling.TablesPut.{phys-next, phys-last, phys-sizes, sizes-none, length-tables, put-none, put_go, put-long, put-end}
use Rattle.tables.proofs.filling.all_tables.put_tables.Goals as goal
use Rattle.tables.proofs.filling.all_tables.put_tables.Goals.{then-phy_attribute-eq2, else-phy_attribute-eq2}

pub loop-p-init : goal.loop-p-init
loop-p-init c =
    let a = c.args in
    let d : Domain = domain_in a.d.now.levels.attached.rows.now in
    let e : c.phy_count-n.result - 0 ≡ length (expander_at d a.i.0).phys = omega arith in
    let o = grown-kept 0 a.order.now (order-none d (Vacant 0) refl) (omega arith) in
    let s = ap (λ (x : ℕ). a.at + sizes d (phy_places a.i.0 0 x)) e in
    let none : Vacant 0 ≡ phy_at d a.i.0 255 = sym (get_or-eq_default (expander_at d a.i.0).phys (Vacant 0) (omega (arith, short_in a.d.now.levels.attached.rows.now a.i.0))) in
    (refl, ((none, o), (refl, (s, ap (λ (x : ℕ). sets a.words.now a.at (own_tables_of d (phy_places a.i.0 0 x))) e))))

pub order_for-kept-requires : goal.order_for-kept-requires
order_for-kept-requires c =
    let at_pre = c.requires in
    ((c.phy_in_row-f.ensures ∙ phy-held _ _ _ (omega arith), c.loop-p.invariant.1.0.0), (omega (arith, at_pre.0), c.loop-p.invariant.1.0.1))

pub put_table-to-requires : goal.put_table-to-requires
put_table-to-requires c =
    let at_pre = c.requires in
    let a = c.args in
    let d : Domain = domain_in a.d.now.levels.attached.rows.now in
    let f = c.phy_in_row-f.ensures ∙ phy-held _ _ _ (omega arith) in
    let q = c.order_for-kept.ensures.1.whole ∙ ap (order_of d) (c.order_for-kept.ensures.0.1 ∙ f) in
    let t : is_table (phy_at d a.i.0 c.loop-p.p) ≡ true = ap is_table (sym f) ∙ eq-eqb (attribute_of c.phy_in_row-f.result) 2 (omega (arith, c.phy_attribute.ensures, c.if-phy_attribute-eq2.true)) in
    (q, (t, (at_pre.1.0, omega (arith, phys-sizes d a.i.0 c.phy_count-n.result c.loop-p.p (omega arith)))))

pub loop-p-preserved : goal.loop-p-preserved
loop-p-preserved c =
    let a = c.args in
    let d : Domain = domain_in a.d.now.levels.attached.rows.now in
    let n : ℕ = c.phy_count-n.result in
    let rest : List Place = phy_places a.i.0 c.loop-p.p (n - c.loop-p.p) in
    let piece : List Place = place a.i.0 c.loop-p.p ∷ [] in
    let e = phys-next a.i.0 n c.loop-p.p c.loop-p-test.true in
    let v = c.loop-p.invariant.1.1 in
    let f = c.phy_in_row-f.ensures ∙ phy-held _ _ _ (omega (arith, c.loop-p-test.true, c.phy_count-n.ensures.0)) in
    elim c.if-phy_attribute-eq2.branch [
      | then-phy_attribute-eq2 w ↦
          let o = w.order_for-kept.ensures in
          let u = w.put_table-to.ensures in
          rw (w.order-is, w.kept-is, w.words-is, w.to-is)
          (o.1.same ∙ c.loop-p.invariant.0, ((o.0.1 ∙ f ∙ ap (phy_at d a.i.0) (sym o.0.0), grown-again o.1), (u.same ∙ v.0, (put-long d c.loop-p.to rest piece _ u.next e ∙ v.1.0, put_go d c.loop-p.words c.loop-p.to rest v.1.1 piece _ u e))))
      | else-phy_attribute-eq2 w ↦
          let none : is_table (phy_at d a.i.0 c.loop-p.p) ≡ false = ap is_table (sym f) ∙ ne_eqb (attribute_of c.phy_in_row-f.result) 2 (λ x. omega (arith, c.phy_attribute.ensures, w.if-phy_attribute-eq2.false)) in
          let u = put-none d a.i.0 c.loop-p.p c.loop-p.words c.loop-p.to none in
          rw (w.order-is, w.kept-is, w.words-is, w.to-is)
          (c.loop-p.invariant.0, (c.loop-p.invariant.1.0, (v.0, (put-long d c.loop-p.to rest piece _ u.next e ∙ v.1.0, put_go d c.loop-p.words c.loop-p.to rest v.1.1 piece _ u e))))
    ]

pub returns : goal.returns
returns c =
    let a = c.args in
    let d : Domain = domain_in a.d.now.levels.attached.rows.now in
    let v = c.loop-p.invariant.1.1 in
    let e = phys-last a.i.0 c.phy_count-n.result c.loop-p.p (omega arith) in
    record {
      same = v.0;
      next = omega (arith, sizes-none d _ e, length-tables d (places_at d a.i.0));
      words = put-end d c.loop-p.words c.loop-p.to _ v.1.1 e;
    }
