-- Tables: how long they are, what they hold, and how long all of them are.
use mathlib.Core.Path.{◌≡◌, refl, sym, ap, ap₂, subst, ◌∙◌}
use mathlib.Core.Logic.{◌≢◌, ◌↔◌, ⊎_elim, by_cases}
use mathlib.Core.List.{List, [], ◌∷◌, ◌++◌, flat_map}
use mathlib.Core.Bool.{Bool, true, false, cond}
use Prim.Native.Nat.{ℕ, zero, suc, ◌+◌, ◌-◌, ◌≤◌}
use native.Mathlib.Omega.{arith}
use native.Mathlib.Decide.{dec_lt}
use lib.ListN.{length, get_or, take, replicate, length-append, length-replicate, get_or-append, get_or-eq_default}
use lib.Seq.{length-take-le, take-append-add, get_or-append-add}
use Rattle.files.specs.Lists.{keep, In}
use Rattle.files.specs.Domain.{Domain, expander_at, phy_at, is_table}
use Rattle.wiring.specs.phys.PhyCauses.{Place, places}
use Rattle.files.proofs.ListMembers.{in_append, in_left, in_replicate}
use Rattle.tables.specs.filling.Tables.{level_list, table, table_places, tables, size, sizes, needed}

-- a table has R words, in any domain
pub table-length : (d : Domain) (i p : ℕ) → length (table d i p) ≡ (expander_at d i).route_indexes
unfolding table
table-length d i p =
    length-take-le (expander_at d i).route_indexes (level_list d i p ++ replicate (expander_at d i).route_indexes 0) (simp (length-append, length-replicate) (omega arith))

take-replicate : (n m a : ℕ) → n ≤ m → take n (replicate m a) ≡ replicate n a
take-replicate zero m a h = refl
take-replicate (suc n) zero a h = absurd (omega arith)
take-replicate (suc n) (suc m) a h = ap (λ l. a ∷ l) (take-replicate n m a (omega arith))

zero-at : (n j : ℕ) → ◌≡◌ {A = ℕ} (get_or (replicate n 0) j 0) 0
zero-at zero j = refl
zero-at (suc n) zero = refl
zero-at (suc n) (suc j) = zero-at n j

module _ (d : Domain) (i p : ℕ) (fit : length (level_list d i p) ≤ (expander_at d i).route_indexes) where
  -- how many words are left after the list
  abbrev rest : ℕ
  rest = (expander_at d i).route_indexes - length (level_list d i p)

  -- where the list fits, the table is the list and then zeros
  pub table_is : table d i p ≡ level_list d i p ++ replicate ((expander_at d i).route_indexes - length (level_list d i p)) 0
  unfolding table
  table_is =
      let l = level_list d i p in
      let n = (expander_at d i).route_indexes in
      let e : n ≡ length l + rest = omega arith in
      ap (λ m. take m (l ++ replicate n 0)) e ∙ take-append-add l (replicate n 0) rest ∙ ap (λ z. l ++ z) (take-replicate rest n 0 (omega arith))

  -- a non-zero word is in the table exactly when it is in the list
  pub in_table : (s : ℕ) → s ≢ 0 → In s (table d i p) ↔ In s (level_list d i p)
  in_table s k =
      let l = level_list d i p in
      let zeros : List ℕ = replicate rest 0 in
      subst (λ t. In s t ↔ In s l) (sym table_is)
      (λ h. ⊎_elim (λ o. o) (λ o. absurd (k (in_replicate rest 0 s o))) (in_append l zeros s h), λ h. in_left l zeros s h)

  -- entry k is word k of the list, and 0 where the list has none
  pub table-entry : (k : ℕ) → get_or (table d i p) k 0 ≡ get_or (level_list d i p) k 0
  table-entry k =
      let l = level_list d i p in
      let zeros : List ℕ = replicate rest 0 in
      ap (λ t. get_or t k 0) table_is
      ∙ by_cases (dec_lt k (length l)) (get_or-append l zeros 0 k)
      (λ h. let e : k ≡ length l + (k - length l) = omega arith in
      ap (λ m. get_or (l ++ zeros) m 0) e ∙ get_or-append-add l zeros (k - length l) 0 ∙ zero-at rest (k - length l) ∙ sym (get_or-eq_default l 0 (omega arith)))

-- the words of the table at a place: none where there is no table phy
abbrev pub words_at : Domain → Place → List ℕ
words_at d q = cond (is_table (phy_at d q.expander q.phy)) (table d q.expander q.phy) []

-- the tables at some places
unfoldable pub tables_at : Domain → List Place → List ℕ
tables_at d [] = []
tables_at d (q ∷ qs) = words_at d q ++ tables_at d qs

pub tables-at : (d : Domain) → tables d ≡ tables_at d (places d)
unfolding tables table_places tables_at flat_map keep
tables-at d = go (places d)
  where
    is_table_at : Place → Bool
    is_table_at q = is_table (phy_at d q.expander q.phy)

    table_of : Place → List ℕ
    table_of q = table d q.expander q.phy

    go : (qs : List Place) → flat_map table_of (keep is_table_at qs) ≡ tables_at d qs
    go [] = refl
    go (q ∷ qs) = one (is_table_at q) (go qs)
      where
        one : (b : Bool) → flat_map table_of (keep is_table_at qs) ≡ tables_at d qs
            → flat_map table_of (cond b (q ∷ keep is_table_at qs) (keep is_table_at qs)) ≡ cond b (table_of q) [] ++ tables_at d qs
        one true r = ap (λ l. table_of q ++ l) r
        one false r = r

pub words-length : (d : Domain) (q : Place) → length (words_at d q) ≡ size d q
unfolding size
words-length d q = go (is_table (phy_at d q.expander q.phy))
  where
    go : (b : Bool) → length (cond b (table d q.expander q.phy) []) ≡ cond b (expander_at d q.expander).route_indexes 0
    go true = table-length d q.expander q.phy
    go false = refl

pub sizes-length : (d : Domain) (qs : List Place) → length (tables_at d qs) ≡ sizes d qs
unfolding sizes tables_at
sizes-length d [] = refl
sizes-length d (q ∷ qs) = length-append (words_at d q) (tables_at d qs) ∙ ap₂ ◌+◌ (words-length d q) (sizes-length d qs)

-- the tables are as many words as the table call needs, in any domain
pub tables-length : (d : Domain) → length (tables d) ≡ needed d
tables-length d = ap length (tables-at d) ∙ sizes-length d (places d)
