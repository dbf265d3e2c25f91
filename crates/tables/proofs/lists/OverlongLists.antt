-- A level list that is too long, by own lists: a phy on a link with a lower phy, one where the levels do not go on, and the others.
use Prim.Native.Nat.{ℕ, ◌+◌, ◌<◌}
use mathlib.Core.Path.{◌≡◌, refl, sym, ◌∙◌, ap}
use mathlib.Core.Bool.{Bool, true, false, and-false}
use mathlib.Core.List.{List, [], flat_map}
use native.Mathlib.Omega.{arith}
use lib.ListN.{length}
use lib.Dec.{T, ltb, ltb→lt}
use Rattle.files.specs.declared.Phy.{Phy}
use Rattle.files.specs.Domain.{Domain, expander_at, phy_at, is_table, to_expander}
use Rattle.files.proofs.ListMembers.{and_left, and_right, is_true, is_false, was_true}
use Rattle.tables.specs.levels.Levels.{down}
use Rattle.tables.specs.lists.OwnLists.{own_words}
use Rattle.tables.specs.lists.PreparedLists.{order_of, own_words_of_order, one_link, own_overlong}
use Rattle.tables.proofs.levels.LevelOrders.{order-none, order-linked}
use borrow.Author.Count.{below_more}

-- phys of one link are table phys with the same order
module _ (d : Domain) (φ ψ : Phy) (one : T (one_link d φ ψ)) where
  linked-attribute : T (is_table φ) × T (is_table ψ)
  unfolding one_link
  linked-attribute =
      let more = and_right (down d φ) _ one in
      (and_left (is_table φ) _ (and_right (to_expander φ) _ (and_left (down d φ) _ one)), and_left (is_table ψ) _ (and_right (to_expander ψ) _ (and_left (down d ψ) _ more)))

pub over-linked : (d : Domain) (i p q : ℕ) → T (one_link d (phy_at d i p) (phy_at d i q)) → own_overlong d i p ≡ own_overlong d i q
unfolding own_overlong own_words_of_order
over-linked d i p q one =
    let r = linked-attribute d (phy_at d i p) (phy_at d i q) one in
    rw (is_true (is_table (phy_at d i p)) r.0, is_true (is_table (phy_at d i q)) r.1, order-linked d (phy_at d i p) (phy_at d i q) one) refl

-- phy p, by the tests of the phy that was read
module _ (d : Domain) (i p : ℕ) (φ : Phy) (at : φ ≡ phy_at d i p) where
  goes : {b : Bool} → down d φ ≡ b → down d (phy_at d i p) ≡ b
  goes q = ap (down d) (sym at) ∙ q

  -- no levels, no words
  pub over_none : down d φ ≡ false → own_overlong d i p ≡ false
  unfolding own_overlong own_words_of_order flat_map
  over_none q =
      let e : order_of d (phy_at d i p) ≡ [] = order-none d (phy_at d i p) (goes q) in
      let r : ℕ = (expander_at d i).route_indexes in
      let z = is_false (ltb r 0) (λ t. let h = ltb→lt r 0 t in omega arith) in
      rw (e, z) (and-false (is_table (phy_at d i p)))

  -- where the levels go on, by their order
  pub over-order : (order : List ℕ) → down d φ ≡ true → order ≡ order_of d φ
      → ltb (expander_at d i).route_indexes (length (flat_map (own_words d) order)) ≡ own_overlong d i p
  unfolding own_overlong own_words_of_order
  over-order order q e =
      let a = is_true (is_table (phy_at d i p)) (and_left (is_table (phy_at d i p)) _ (and_right (to_expander (phy_at d i p)) _ (was_true _ (goes q)))) in
      let f = e ∙ ap (order_of d) at in
      rw (a, f) refl

-- false below p, and at p
pub below_next : (test : ℕ → Bool) (p : ℕ) → ((k : ℕ) → k < p → test k ≡ false) → test p ≡ false → (k : ℕ) → k < p + 1 → test k ≡ false
below_next test = below_more (λ k. test k ≡ false)
