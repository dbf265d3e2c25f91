-- All tables: places one after the other, how many words and tables they have, and tables put in words one after the other.
-- A turn takes `piece` from the places left, `rest ≡ piece ++ rest'`.
use Prim.Native.Nat.{ℕ, zero, suc, ◌+◌, ◌-◌, ◌*◌, ◌≤◌, ◌<◌}
use mathlib.Core.Path.{◌≡◌, refl, sym, ◌∙◌, ap}
use mathlib.Core.Bool.{Bool, true, false, cond}
use mathlib.Core.List.{List, [], ◌∷◌, ◌++◌, flat_map, append-nil}
use native.Mathlib.Omega.{arith}
use native.Mathlib.Nat.{add-zero, zero-add, zero-mul, suc-mul, mul-le-mul, le_of_lt}
use native.Mathlib.Numerals.{add-one}
use lib.ListN.{length, get_or, take, drop, length-append, drop_of_length-le}
use lib.Seq.{sets, length-sets, take_all}
use mir.Val.{bool_byte}
use Rattle.frames.proofs.ValuesPut.{sets-front, sets_then, sets_mid}
use Rattle.files.specs.Lists.{keep}
use Rattle.files.specs.Domain.{Domain, Expander, no_expander, expander_at, phy_at, is_table}
use Rattle.wiring.specs.phys.PhyCauses.{Place, place, phy_places, places_from, places}
use Rattle.files.proofs.ListMembers.{keep_append}
use Rattle.files.proofs.OneMore.{drop-next}
use Rattle.tables.specs.filling.Tables.{table_places, size, sizes, needed}
use Rattle.tables.specs.lists.GrowingLists.{places_at, with_tables, WordsPut}
use Rattle.tables.specs.lists.PreparedLists.{own_words_of_order, filled_to, own_tables_of, own_tables}
use Rattle.tables.proofs.lists.GrowingLists.{flat_append}
use Rattle.tables.proofs.filling.FilledTable.{length-filled}

pub byte_le : (b : Bool) → bool_byte b ≤ 1
byte_le true = omega arith
byte_le false = omega arith

pub words_le : {m : ℕ} (r : ℕ) → m ≤ 128 → r < 65536 → m * r ≤ 8388608
words_le r h k = mul-le-mul h (le_of_lt k)

-- the places left
module _ (i n p : ℕ) where
  pub phys-next : p < n → phy_places i p (n - p) ≡ (place i p ∷ []) ++ phy_places i (p + 1) (n - (p + 1))
  unfolding phy_places
  phys-next h = let e : n - p ≡ suc (n - (p + 1)) = omega arith in rw e

  pub phys-last : n ≤ p → phy_places i p (n - p) ≡ []
  unfolding phy_places
  phys-last h = let e : n - p ≡ 0 = omega arith in rw e

module _ (d : Domain) (i : ℕ) where
  pub from_next : i < length d → places_from i (drop i d) ≡ places_at d i ++ places_from (i + 1) (drop (i + 1) d)
  unfolding places_from
  from_next h = let e = drop-next no_expander d i h in rw e

  pub from_last : length d ≤ i → places_from i (drop i d) ≡ []
  unfolding places_from
  from_last h = rw (drop_of_length-le d h)

module _ (d : Domain) where
  pub sizes-append : (qs rs : List Place) → sizes d (qs ++ rs) ≡ sizes d qs + sizes d rs
  unfolding sizes
  sizes-append [] rs = omega arith
  sizes-append (q ∷ qs) rs = omega (arith, sizes-append qs rs)

  sizes-next : (rest piece rest' : List Place) → rest ≡ piece ++ rest' → sizes d rest ≡ sizes d piece + sizes d rest'
  sizes-next rest piece rest' q = ap (sizes d) q ∙ sizes-append piece rest'

  pub sizes-none : (rest : List Place) → rest ≡ [] → sizes d rest ≡ 0
  unfolding sizes
  sizes-none rest q = ap (sizes d) q

  pub phys-sizes : (i n p : ℕ) → p < n → sizes d (phy_places i p (n - p)) ≡ size d (place i p) + sizes d (phy_places i (p + 1) (n - (p + 1)))
  unfolding sizes
  phys-sizes i n p h = ap (sizes d) (phys-next i n p h)

  pub from-sizes : (i : ℕ) → i < length d
      → sizes d (places_from i (drop i d)) ≡ sizes d (places_at d i) + sizes d (places_from (i + 1) (drop (i + 1) d))
  from-sizes i h = sizes-next (places_from i (drop i d)) (places_at d i) (places_from (i + 1) (drop (i + 1) d)) (from_next d i h)

  pub size-by : (i p : ℕ) {b : Bool} → is_table (phy_at d i p) ≡ b → size d (place i p) ≡ cond b (expander_at d i).route_indexes 0
  unfolding size
  size-by i p q = rw q

  count_next : (rest piece rest' : List Place) → rest ≡ piece ++ rest'
      → length (with_tables d rest) ≡ length (with_tables d piece) + length (with_tables d rest')
  count_next rest piece rest' q =
      ap (λ (v : List Place). length (with_tables d v)) q ∙ ap length (keep_append (λ q. is_table (phy_at d q.expander q.phy)) piece rest')
      ∙ length-append (with_tables d piece) (with_tables d rest')

  pub phys-count : (i n p : ℕ) → p < n → length (with_tables d (phy_places i p (n - p)))
      ≡ length (with_tables d (place i p ∷ [])) + length (with_tables d (phy_places i (p + 1) (n - (p + 1))))
  phys-count i n p h = count_next (phy_places i p (n - p)) (place i p ∷ []) (phy_places i (p + 1) (n - (p + 1))) (phys-next i n p h)

  pub from-count : (i : ℕ) → i < length d → length (with_tables d (places_from i (drop i d)))
      ≡ length (with_tables d (places_at d i)) + length (with_tables d (places_from (i + 1) (drop (i + 1) d)))
  from-count i h = count_next (places_from i (drop i d)) (places_at d i) (places_from (i + 1) (drop (i + 1) d)) (from_next d i h)

  pub count_none : (rest : List Place) → rest ≡ [] → length (with_tables d rest) ≡ 0
  unfolding keep
  count_none rest q = ap (λ (v : List Place). length (with_tables d v)) q

  pub count_by : (i p : ℕ) {b : Bool} → b ≡ is_table (phy_at d i p) → bool_byte b ≡ length (with_tables d (place i p ∷ []))
  unfolding keep
  count_by i p q = rw q (go (is_table (phy_at d i p)))
    where
      go : (c : Bool) → bool_byte c ≡ length (cond c (place i p ∷ []) [])
      go true = refl
      go false = refl

  pub count-all : length (with_tables d (places d)) ≡ length (table_places d)
  unfolding table_places
  count-all = refl

  -- the tables of one expander have R words each
  sizes-count : (i p k : ℕ) → sizes d (phy_places i p k) ≡ length (with_tables d (phy_places i p k)) * (expander_at d i).route_indexes
  unfolding sizes size phy_places keep
  sizes-count i p zero = sym (zero-mul (expander_at d i).route_indexes)
  sizes-count i p (suc k) = go (is_table (phy_at d i p)) (sizes-count i (p + 1) k)
    where
      rest : List Place
      rest = phy_places i (p + 1) k

      go : (b : Bool) → sizes d rest ≡ length (with_tables d rest) * (expander_at d i).route_indexes
          → cond b (expander_at d i).route_indexes 0 + sizes d rest
          ≡ length (cond b (place i p ∷ with_tables d rest) (with_tables d rest)) * (expander_at d i).route_indexes
      go true e = omega (arith, suc-mul (length (with_tables d rest)) (expander_at d i).route_indexes)
      go false e = omega arith

  -- the words of the expanders before an expander, one more at a time; past the end there are none more
  before_last : (k : ℕ) (l : List Expander) (j : ℕ)
      → sizes d (places_from k (take (suc j) l)) ≡ sizes d (places_from k (take j l)) + sizes d (phy_places (k + j) 0 (length (get_or l j no_expander).phys))
  unfolding sizes places_from phy_places
  before_last k [] zero = refl
  before_last k [] (suc j) = refl
  before_last k (e ∷ l) zero = rw (append-nil, add-zero k) (omega arith)
  before_last k (e ∷ l) (suc j) =
      let m : List Place = phy_places k 0 (length e.phys) in
      let z : k + 1 + j ≡ k + suc j = omega arith in
      let h = rw z at (before_last (k + 1) l j) in
      let a = sizes-append m (places_from (k + 1) (take (suc j) l)) in
      let b = sizes-append m (places_from (k + 1) (take j l)) in
      omega arith

  pub before-next : (j : ℕ) {m r : ℕ} → m ≡ length (with_tables d (places_at d j)) → r ≡ (expander_at d j).route_indexes
      → sizes d (places_from 0 (take (j + 1) d)) ≡ sizes d (places_from 0 (take j d)) + m * r
  before-next j q z =
      let e : sizes d (phy_places (0 + j) 0 (length (expander_at d j).phys)) ≡ sizes d (places_at d j) =
      ap (λ (x : ℕ). sizes d (phy_places x 0 (length (expander_at d j).phys))) (zero-add j) in
      rw (add-one j, q, z) (omega (arith, before_last 0 d j, sizes-count j 0 (length (expander_at d j).phys)))

  pub before-none : sizes d (places_from 0 (take 0 d)) ≡ 0
  unfolding sizes places_from
  before-none = refl

  pub before-all : {n : ℕ} → n ≡ length d → sizes d (places_from 0 (take n d)) ≡ needed d
  before-all {n} e = ap (λ (l : List Expander). sizes d (places_from 0 l)) (take_all n d (omega arith))

  -- the table at a place, by own lists
  abbrev own_table : Place → List ℕ
  own_table q = filled_to (expander_at d q.expander).route_indexes (own_words_of_order d q.expander q.phy)

  tables-append : (qs rs : List Place) → own_tables_of d (qs ++ rs) ≡ own_tables_of d qs ++ own_tables_of d rs
  unfolding own_tables_of
  tables-append qs rs =
      ap (flat_map own_table) (keep_append (λ q. is_table (phy_at d q.expander q.phy)) qs rs)
      ∙ flat_append own_table (with_tables d qs) (with_tables d rs)

  tables-next : (rest piece rest' : List Place) → rest ≡ piece ++ rest' → own_tables_of d rest ≡ own_tables_of d piece ++ own_tables_of d rest'
  tables-next rest piece rest' q = ap (own_tables_of d) q ∙ tables-append piece rest'

  tables-none : (rest : List Place) → rest ≡ [] → own_tables_of d rest ≡ []
  unfolding own_tables_of keep flat_map
  tables-none rest q = ap (own_tables_of d) q

  tables-by : (i p : ℕ) {b : Bool} → is_table (phy_at d i p) ≡ b → own_tables_of d (place i p ∷ []) ≡ cond b (own_table (place i p)) []
  unfolding own_tables_of keep flat_map
  tables-by i p {b} q = rw q (go b)
    where
      go : (c : Bool) → flat_map own_table (cond c (place i p ∷ []) []) ≡ cond c (own_table (place i p)) []
      go true = append-nil (own_table (place i p))
      go false = refl

  length-one : (q : Place) → length (own_tables_of d (q ∷ [])) ≡ size d q
  unfolding size
  length-one q = ap length (tables-by q.expander q.phy refl) ∙ go (is_table (phy_at d q.expander q.phy))
    where
      go : (c : Bool) → length (cond c (own_table q) []) ≡ cond c (expander_at d q.expander).route_indexes 0
      go true = length-filled (expander_at d q.expander).route_indexes (own_words_of_order d q.expander q.phy)
      go false = refl

  pub length-tables : (qs : List Place) → length (own_tables_of d qs) ≡ sizes d qs
  unfolding sizes
  length-tables [] = ap length (tables-none [] refl)
  length-tables (q ∷ qs) =
      ap length (tables-append (q ∷ []) qs) ∙ length-append (own_tables_of d (q ∷ [])) (own_tables_of d qs)
      ∙ omega (arith, length-one q, length-tables qs)

-- the table of one place, put
module _ (d : Domain) (i p : ℕ) (ws : List ℕ) (at : ℕ) where
  -- no table phy
  pub put-none : is_table (phy_at d i p) ≡ false → WordsPut ws ws at at (own_tables_of d (place i p ∷ []))
  put-none b =
      let q = tables-by d i p b in
      record { same = refl; next = omega (arith, ap length q); words = sym (ap (sets ws at) q) }

  -- a part of the words, lent and filled
  pub put_one : {r : List ℕ} (k : ℕ) → r ≡ filled_to k (own_words_of_order d i p) → is_table (phy_at d i p) ≡ true
      → k ≡ (expander_at d i).route_indexes → (e : ℕ) → e ≡ at + k → e ≤ length ws
      → WordsPut ws (take at ws ++ (r ++ drop k (drop at ws))) at e (own_tables_of d (place i p ∷ []))
  put_one {r} k t b z e qe h =
      let new : List ℕ = own_tables_of d (place i p ∷ []) in
      let s : r ≡ new = t ∙ ap (λ (n : ℕ). filled_to n (own_words_of_order d i p)) z ∙ sym (tables-by d i p b) in
      let lr : length r ≡ k = ap length t ∙ length-filled k (own_words_of_order d i p) in
      let w : take at ws ++ (r ++ drop k (drop at ws)) ≡ sets ws at new = sets_mid ws r at k lr (omega arith) ∙ ap (sets ws at) s in
      let ln : length new ≡ k = sym (ap length s) ∙ lr in
      record { same = ap length w ∙ length-sets ws at new; next = omega arith; words = w }

-- a turn, and the end
module _ (d : Domain) (ws : List ℕ) (at : ℕ) (rest : List Place) {v : List ℕ} (inv : sets ws at (own_tables_of d rest) ≡ v) where
  pub put_go : (piece rest' : List Place) {ws' : List ℕ} {to : ℕ} → WordsPut ws ws' at to (own_tables_of d piece) → rest ≡ piece ++ rest'
      → sets ws' to (own_tables_of d rest') ≡ v
  put_go piece rest' {ws'} {to} u q =
      sets_then ws ws' (sets ws' to (own_tables_of d rest')) at to (own_tables_of d piece) (own_tables_of d rest') u.words refl u.next
      ∙ sym (ap (sets ws at) (tables-next d rest piece rest' q)) ∙ inv

  pub put-end : rest ≡ [] → ws ≡ v
  put-end q = sym (ap (sets ws at) (tables-none d rest q)) ∙ inv

pub put-long : (d : Domain) (at : ℕ) (rest piece rest' : List Place) {to : ℕ} → to ≡ at + length (own_tables_of d piece) → rest ≡ piece ++ rest'
    → to + sizes d rest' ≡ at + sizes d rest
put-long d at rest piece rest' e q = omega (arith, sizes-next d rest piece rest' q, length-tables d piece)

pub put-all : (d : Domain) (ws : List ℕ) → needed d ≤ length ws → sets ws 0 (own_tables d) ≡ own_tables d ++ drop (needed d) ws
put-all d ws h =
    let e : length (own_tables d) ≡ needed d = length-tables d (places d) in
    sets-front (own_tables d) ws (omega arith) ∙ ap (λ (x : ℕ). own_tables d ++ drop x ws) e
