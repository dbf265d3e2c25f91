-- A cursor that moves on: the entries from its next place on are those from it on, where its phy has none left; and the
-- entries from the cursor so many lines on.
use Prim.Native.Nat.{ℕ, zero, suc, ◌+◌, ◌-◌, ◌*◌, ◌≤◌, ◌<◌}
use mathlib.Core.Path.{◌≡◌, refl, sym, ◌∙◌, ap, subst}
use mathlib.Core.Bool.{Bool, true, false, cond}
use mathlib.Core.List.{List, [], ◌∷◌, ◌++◌}
use mathlib.Core.Logic.{by_cases}
use native.Mathlib.Decide.{dec_lt}
use native.Mathlib.Omega.{arith}
use lib.ListN.{length, drop, get_or-eq_default}
use lib.Dec.{ltb}
use borrow.Author.Tests.{ltb-false}
use Rattle.tables.specs.WiringDefinitions.{Phy, Vacant, Domain, Expander, no_expander, expander_at, is_table, Place, place, phy_places, places_from}
use Rattle.tables.specs.filling.Tables.{size}
use Rattle.tables.proofs.filling.TablesPut.{phys-next, phys-last, from_next, from_last, size-by}
use Rattle.listing.specs.declared.Cursor.{Cursor}
use Rattle.listing.specs.Lines.{Entry, entry, table_entries, place_entries, places_after, entries_on, entries_from, cursor, next_place, cursor_at, cursor_after}

table_none : (i p k n : ℕ) → n ≤ k → table_entries i p k (n - k) ≡ []
unfolding table_entries
table_none i p k n h = let e : n - k ≡ 0 = omega arith in rw e

module _ (d : Domain) where
  abbrev phys : ℕ → ℕ
  phys i = length (expander_at d i).phys

  -- past the last phy there is no entry
  size-past : (i p : ℕ) → phys i ≤ p → size d (place i p) ≡ 0
  size-past i p h = size-by d i p {b = false} (ap (λ (φ : Phy). is_table φ) (get_or-eq_default (expander_at d i).phys (Vacant 0) h))

  -- the phy of a cursor has an entry there
  pub entry_here : (i p k : ℕ) → k < size d (place i p) → entries_on d i p k ≡ entry i p k ∷ entries_on d i p (k + 1)
  unfolding entries_on table_entries
  entry_here i p k h = let e : size d (place i p) - k ≡ suc (size d (place i p) - (k + 1)) = omega arith in rw e

  -- it has none
  no_entry : (i p k : ℕ) → size d (place i p) ≤ k → entries_on d i p k ≡ place_entries d (places_after d i p)
  unfolding entries_on
  no_entry i p k h = ap (λ (es : List Entry). es ++ place_entries d (places_after d i p)) (table_none i p k (size d (place i p)) h)

  -- the places from phy p of expander i on
  abbrev places_on : ℕ → ℕ → List Place
  places_on i p = phy_places i p (phys i - p) ++ places_from (i + 1) (drop (i + 1) d)

  -- the entries at them are those from index 0 of that phy on, whether there is such a phy or not
  phy-here : (i p : ℕ) → p < phys i → place_entries d (places_on i p) ≡ entries_on d i p 0
  unfolding place_entries entries_on
  phy-here i p h =
      let e : size d (place i p) ≡ size d (place i p) - 0 = omega arith in
      ap (λ (qs : List Place). place_entries d (qs ++ places_from (i + 1) (drop (i + 1) d))) (phys-next i (phys i) p h)
      ∙ ap (λ (n : ℕ). table_entries i p 0 n ++ place_entries d (places_after d i p)) e

  phy-past : (i p : ℕ) → phys i ≤ p → places_after d i p ≡ places_from (i + 1) (drop (i + 1) d)
  phy-past i p h = ap (λ (qs : List Place). qs ++ places_from (i + 1) (drop (i + 1) d)) (phys-last i (phys i) (p + 1) (omega arith))

  phy-on : (i p : ℕ) → place_entries d (places_on i p) ≡ entries_on d i p 0
  phy-on i p =
      by_cases (dec_lt p (phys i)) (phy-here i p)
      (λ h.
      ap (λ (qs : List Place). place_entries d (qs ++ places_from (i + 1) (drop (i + 1) d))) (phys-last i (phys i) p (omega arith))
      ∙ sym (no_entry i p 0 (omega (arith, size-past i p (omega arith))) ∙ ap (place_entries d) (phy-past i p (omega arith))))

  -- past the last expander there are none
  pub entries-past : (i p k : ℕ) → length d ≤ i → entries_on d i p k ≡ []
  unfolding place_entries
  entries-past i p k h =
      let z : phys i ≡ 0 = ap (λ (e : Expander). length e.phys) (get_or-eq_default d no_expander h) in
      no_entry i p k (omega (arith, size-past i p (omega arith)))
      ∙ ap (place_entries d) (phy-past i p (omega arith) ∙ from_last d (i + 1) (omega arith))

  -- the entries of expander i and those after it
  pub expander-on : (i : ℕ) → place_entries d (places_from i (drop i d)) ≡ entries_on d i 0 0
  unfolding place_entries
  expander-on i =
      by_cases (dec_lt i (length d))
      (λ h.
      let e : phys i ≡ phys i - 0 = omega arith in
      ap (place_entries d) (from_next d i h)
      ∙ ap (λ (n : ℕ). place_entries d (phy_places i 0 n ++ places_from (i + 1) (drop (i + 1) d))) e ∙ phy-on i 0)
      (λ h. ap (place_entries d) (from_last d i (omega arith)) ∙ sym (entries-past i 0 0 (omega arith)))

  -- where a phy has no entry left, those of the next phy are next, and past the last phy those of the next expander
  phy-moved : (i p k : ℕ) → size d (place i p) ≤ k → entries_on d i p k ≡ entries_on d i (p + 1) 0
  phy-moved i p k h = no_entry i p k h ∙ phy-on i (p + 1)

  expander-moved : (i p k : ℕ) → phys i ≤ p → entries_on d i p k ≡ entries_on d (i + 1) 0 0
  expander-moved i p k h =
      no_entry i p k (omega (arith, size-past i p h)) ∙ ap (place_entries d) (phy-past i p h) ∙ expander-on (i + 1)

  -- the moves that are left, at most
  abbrev pub left : Cursor → ℕ
  left c = 16777216 * (length d - c.expander.0) + 65536 * (256 - c.phy.0) + (65536 - c.index.0)

  pub index-less : (c : Cursor) (w : ℕ) → c.index.0 < 65536 → left (cursor c.expander.0 c.phy.0 (c.index.0 + 1) w) < left c
  index-less c w h = omega arith

  pub record Moved (c next : Cursor) : Type 0 where
    pub entries : entries_from d next ≡ entries_from d c
    pub word : next.word ≡ c.word
    pub less : left next < left c

  pub moved : (c next : Cursor) → next ≡ next_place d c → size d (place c.expander.0 c.phy.0) ≤ c.index.0
      → c.expander.0 < length d → c.phy.0 < 256 → c.index.0 < 65536 → Moved c next
  moved c next q h hi hp hk = subst (Moved c) (sym q) (go (ltb c.phy.0 (phys c.expander.0)) refl)
    where
      go : (b : Bool) → ltb c.phy.0 (phys c.expander.0) ≡ b
          → Moved c (cond b (cursor c.expander.0 (c.phy.0 + 1) 0 c.word) (cursor (c.expander.0 + 1) 0 0 c.word))
      go true e = record { entries = sym (phy-moved c.expander.0 c.phy.0 c.index.0 h); word = refl; less = omega arith }
      go false e =
          let g = ltb-false c.phy.0 (phys c.expander.0) e in
          record { entries = sym (expander-moved c.expander.0 c.phy.0 c.index.0 g); word = refl; less = omega arith }

  -- entries from some place on: none, or an entry that is there and those after it
  data First (es : List Entry) : Type 0 where
    none : es ≡ [] → First es
    some : (i p k : ℕ) → k < size d (place i p) → es ≡ entries_on d i p k → First es

  first-same : {es es' : List Entry} → es ≡ es' → First es' → First es
  first-same e (none q) = none (e ∙ q)
  first-same e (some i p k h q) = some i p k h (e ∙ q)

  first-phy : (i : ℕ) → First (entries_on d (i + 1) 0 0) → (m p : ℕ) → phys i ≤ p + m → First (entries_on d i p 0)
  first-phy i f zero p h = first-same (expander-moved i p 0 (omega arith)) f
  first-phy i f (suc m) p h =
      by_cases (dec_lt 0 (size d (place i p))) (λ g. some i p 0 g refl)
      (λ g. first-same (phy-moved i p 0 (omega arith)) (first-phy i f m (p + 1) (omega arith)))

  first-expander : (m i : ℕ) → length d ≤ i + m → First (entries_on d i 0 0)
  first-expander zero i h = none (entries-past i 0 0 (omega arith))
  first-expander (suc m) i h = first-phy i (first-expander m (i + 1) (omega arith)) (phys i) 0 (omega arith)

  first : (i p k : ℕ) → First (entries_on d i p k)
  first i p k =
      by_cases (dec_lt k (size d (place i p))) (λ g. some i p k g refl)
      (λ g.
      first-same (phy-moved i p k (omega arith)) (first-phy i (first-expander (length d) (i + 1) (omega arith)) (phys i) (p + 1) (omega arith)))

  first-drop : (n : ℕ) (es : List Entry) → First es → First (drop n es)
  first-drop zero es f = f
  first-drop (suc n) es (none q) = none (ap (drop (suc n)) q)
  first-drop (suc n) es (some i p k h q) = first-same (ap (drop (suc n)) (q ∙ entry_here i p k h)) (first-drop n (entries_on d i p (k + 1)) (first i p (k + 1)))

  first-at : (es : List Entry) (w : ℕ) → First es → entries_from d (cursor_at d es w) ≡ es
  first-at es w (none q) =
      ap (λ (x : List Entry). entries_from d (cursor_at d x w)) q ∙ entries-past (length d) 0 0 (omega arith) ∙ sym q
  first-at es w (some i p k h q) = ap (λ (x : List Entry). entries_from d (cursor_at d x w)) (q ∙ entry_here i p k h) ∙ sym q

  -- the entries from the cursor so many lines on are those that were not passed
  pub entries-after : (c : Cursor) (n : ℕ) → entries_from d (cursor_after d c n) ≡ drop n (entries_from d c)
  entries-after c n =
      first-at (drop n (entries_from d c)) (c.word + n) (first-drop n (entries_from d c) (first c.expander.0 c.phy.0 c.index.0))
