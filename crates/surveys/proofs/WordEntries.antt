-- Word and entry give each other back: which entry word k is, and which word an entry is.
use Prim.Native.Nat.{ℕ, zero, suc, ◌+◌, ◌-◌, ◌≤◌, ◌<◌}
use mathlib.Core.Path.{◌≡◌, refl, sym, ◌∙◌, ap, subst}
use mathlib.Core.Logic.{◌⊎◌, inl, inr, ⊎_elim, by_cases}
use mathlib.Core.Bool.{Bool, true, false, cond}
use mathlib.Core.List.{List, [], ◌∷◌, ◌++◌}
use native.Mathlib.Omega.{arith}
use native.Mathlib.Decide.{dec_lt}
use lib.ListN.{length}
use lib.Dec.{T}
use Rattle.wiring.specs.FrameDefinitions.{refused, good, refusal}
use Rattle.files.specs.Lists.{In}
use Rattle.files.specs.Domain.{Domain, Expander, expander_at, phy_at, is_table}
use Rattle.wiring.specs.phys.PhyCauses.{Place, place, phy_places, places_from, places}
use Rattle.files.proofs.ListMembers.{tests}
use Rattle.tables.specs.filling.Tables.{size, sizes, needed, offset_in, offset}
use Rattle.surveys.specs.WordEntries.{entry, word_in, word_place}
use Rattle.tables.proofs.filling.TablesPut.{size-by}
use Rattle.tables.proofs.filling.TableStretches.{is_place, is-place, place_is, size-here, in_all}
use Rattle.surveys.proofs.WordSearches.{word-here, word-past}

-- phy p of expander i or a place after it
abbrev NotBefore : ℕ → ℕ → Place → Type 0
NotBefore i p q = (i < q.expander) ⊎ ((i ≡ q.expander) × (p ≤ q.phy))

-- places in rising order, from phy p of expander i on
abbrev Rising : ℕ → ℕ → List Place → Type 0
Rising i p [] = Unit {0}
Rising i p (q ∷ qs) = NotBefore i p q × Rising q.expander (q.phy + 1) qs

-- so none of them is before the first
not_before : (i p : ℕ) (qs : List Place) → Rising i p qs → (q : Place) → In q qs → NotBefore i p q
not_before i p [] r q h = absurd h
not_before i p (x ∷ qs) r q (inl e) = subst (NotBefore i p) (sym e) r.0
not_before i p (x ∷ qs) r q (inr h) = later r.0 (not_before x.expander (x.phy + 1) qs r.1 q h)
  where
    later : NotBefore i p x → NotBefore x.expander (x.phy + 1) q → NotBefore i p q
    later (inl a) (inl b) = inl (omega arith)
    later (inl a) (inr b) = inl (omega arith)
    later (inr a) (inl b) = inl (omega arith)
    later (inr a) (inr b) = inr (omega arith, omega arith)

-- the places of a domain rise
rising_below : (i p : ℕ) (qs : List Place) → Rising (i + 1) 0 qs → Rising i p qs
rising_below i p [] r = tt
rising_below i p (q ∷ qs) r = (⊎_elim (λ a. inl (omega arith)) (λ a. inl (omega arith)) r.0, r.1)

rising_phys : (i p n : ℕ) (qs : List Place) → Rising (i + 1) 0 qs → Rising i p (phy_places i p n ++ qs)
unfolding phy_places
rising_phys i p zero qs r = rising_below i p qs r
rising_phys i p (suc n) qs r = (inr (refl, omega arith), rising_phys i (p + 1) n qs r)

rising_from : (i : ℕ) (l : List Expander) → Rising i 0 (places_from i l)
unfolding places_from
rising_from i [] = tt
rising_from i (e ∷ l) = rising_phys i 0 (length e.phys) (places_from (i + 1) l) (rising_from (i + 1) l)

module _ (d : Domain) where
  -- how many words stand before a table, where it is the first, and where it is not
  module _ (i p : ℕ) (q : Place) (qs : List Place) where
    offset-by : {b : Bool} → is_place i p q ≡ b → offset_in d i p (q ∷ qs) ≡ cond b 0 (size d q + offset_in d i p qs)
    unfolding offset_in
    offset-by e = rw e

    offset-here : q ≡ place i p → offset_in d i p (q ∷ qs) ≡ 0
    offset-here e = go (is_place i p q) refl
      where
        go : (b : Bool) → is_place i p q ≡ b → offset_in d i p (q ∷ qs) ≡ 0
        go true f = offset-by f
        go false f = absurd (subst T f (place_is i p q (sym e)))

    offset-past : (q ≡ place i p → ⊥) → offset_in d i p (q ∷ qs) ≡ size d q + offset_in d i p qs
    offset-past n = go (is_place i p q) refl
      where
        go : (b : Bool) → is_place i p q ≡ b → offset_in d i p (q ∷ qs) ≡ size d q + offset_in d i p qs
        go true f = absurd (n (is-place i p q (search tests)))
        go false f = offset-by f

  -- an entry is the word at its index after the words before its table
  word_in_lem : (i p k : ℕ) → T (is_table (phy_at d i p)) → k < (expander_at d i).route_indexes → (qs : List Place) → In (place i p) qs
      → word_in d qs (offset_in d i p qs + k) ≡ good (entry i p k)
  word_in_lem i p k t h [] m = absurd m
  word_in_lem i p k t h (q ∷ qs) m = go (is_place i p q) refl (word_in_lem i p k t h qs)
    where
      go : (b : Bool) → is_place i p q ≡ b → (In (place i p) qs → word_in d qs (offset_in d i p qs + k) ≡ good (entry i p k))
          → word_in d (q ∷ qs) (offset_in d i p (q ∷ qs) + k) ≡ good (entry i p k)
      go true f r =
          let e : q ≡ place i p = is-place i p q (search tests) in
          let z : offset_in d i p (q ∷ qs) + k ≡ k = omega (arith, offset-here i p q qs e) in
          ap (word_in d (q ∷ qs)) z ∙ word-here d q qs k (omega (arith, size-here d i p t q e)) ∙ ap (λ x. good (entry x.expander x.phy k)) e
      go false f r =
          let n : q ≡ place i p → ⊥ = λ e. subst T f (place_is i p q (sym e)) in
          let z : offset_in d i p (q ∷ qs) + k ≡ size d q + (offset_in d i p qs + k) = omega (arith, offset-past i p q qs n) in
          let y : size d q + (offset_in d i p qs + k) - size d q ≡ offset_in d i p qs + k = omega arith in
          ap (word_in d (q ∷ qs)) z ∙ word-past d q qs (size d q + (offset_in d i p qs + k)) (omega arith) ∙ ap (word_in d qs) y
          ∙ ⊎_elim (λ e. absurd (n (sym e))) r m

  pub word-of-entry : (i p k : ℕ) → T (is_table (phy_at d i p)) → k < (expander_at d i).route_indexes → word_place (offset d i p + k) d ≡ good (entry i p k)
  word-of-entry i p k t h = word_in_lem i p k t h (places d) (in_all d i p t)

  -- word k of the tables at these places is such an entry
  record Placed (qs : List Place) (k : ℕ) : Type 0 where
    expander : ℕ
    phy : ℕ
    index : ℕ
    found : word_in d qs k ≡ good (entry expander phy index)
    member : In (place expander phy) qs
    within : index < size d (place expander phy)
    back : offset_in d expander phy qs + index ≡ k

  placed : (qs : List Place) (i p : ℕ) → Rising i p qs → (k : ℕ) → k < sizes d qs → Placed qs k
  unfolding sizes
  placed [] i p r k h = absurd (omega arith)
  placed (q ∷ qs) i p r k h = by_cases (dec_lt k (size d q)) first (λ n. further n (placed qs q.expander (q.phy + 1) r.1 (k - size d q) (omega arith)))
    where
      first : k < size d q → Placed (q ∷ qs) k
      first g = record {
        expander = q.expander;
        phy = q.phy;
        index = k;
        found = word-here d q qs k g;
        member = inl refl;
        within = g;
        back = omega (arith, offset-here q.expander q.phy q qs refl);
      }

      further : (k < size d q → ⊥) → Placed qs (k - size d q) → Placed (q ∷ qs) k
      further n w =
          let o : NotBefore q.expander (q.phy + 1) (place w.expander w.phy) = not_before q.expander (q.phy + 1) qs r.1 (place w.expander w.phy) w.member in
          let f : q ≡ place w.expander w.phy → ⊥ = λ e.
          let x = ap (λ v. v.expander) e in
          let y = ap (λ v. v.phy) e in
          ⊎_elim (λ a. omega arith) (λ a. omega arith) o in
          record {
            expander = w.expander;
            phy = w.phy;
            index = w.index;
            found = word-past d q qs k (omega arith) ∙ w.found;
            member = inr w.member;
            within = w.within;
            back = omega (arith, w.back, offset-past w.expander w.phy q qs f);
          }

-- the entry that word k is: of a table phy, with an index below R, and word k stands there
pub record EntryOfWord (d : Domain) (k : ℕ) : Type 0 where
  pub expander : ℕ
  pub phy : ℕ
  pub index : ℕ
  pub found : word_place k d ≡ good (entry expander phy index)
  pub table : T (is_table (phy_at d expander phy))
  pub within : index < (expander_at d expander).route_indexes
  pub back : offset d expander phy + index ≡ k

-- every word that the tables need is one
pub entry-of-word : (d : Domain) (k : ℕ) → k < needed d → EntryOfWord d k
entry-of-word d k h = go (is_table (phy_at d w.expander w.phy)) refl
  where
    w : Placed d (places d) k
    w = placed d (places d) 0 0 (rising_from 0 d) k h

    go : (b : Bool) → is_table (phy_at d w.expander w.phy) ≡ b → EntryOfWord d k
    go true e = record {
      expander = w.expander;
      phy = w.phy;
      index = w.index;
      found = w.found;
      table = search tests;
      within = omega (arith, w.within, size-by d w.expander w.phy e);
      back = w.back;
    }
    go false e = absurd (omega (arith, w.within, size-by d w.expander w.phy e))

-- and others are none: 15
pub no_word : (d : Domain) (k : ℕ) → needed d ≤ k → word_place k d ≡ refused (refusal 15 0 0)
unfolding sizes word_in
no_word d k h = go (places d) k h
  where
    go : (qs : List Place) (k : ℕ) → sizes d qs ≤ k → word_in d qs k ≡ refused (refusal 15 0 0)
    go [] k h = refl
    go (q ∷ qs) k h = word-past d q qs k (omega arith) ∙ go qs (k - size d q) (omega arith)
