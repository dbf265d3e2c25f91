-- One step of a trace, with its reasons.
use mathlib.Core.Path.{◌≡◌, refl, subst}
use mathlib.Core.Logic.{◌⊎◌, inl, inr, ◌≢◌, ⊎_elim}
use mathlib.Core.List.{List, [], ◌∷◌}
use mathlib.Core.Bool.{Bool, true, false, cond}
use Prim.Native.Nat.{ℕ}
use native.Mathlib.Omega.{arith}
use lib.ListN.{length}
use lib.Dec.{T, eqb, eqb→eq}
use Rattle.tables.specs.WiringDefinitions.{In, Domain, expander_at, phy_at, address_of, attached_phy_of, is_table, is_subtractive, attached, to_end, to_expander, number_of}
use Rattle.tables.specs.filling.Tables.{stretch}
use Rattle.tables.proofs.WiringLemmas.{tests, was_true, eq→eqb, in_up_to, expander-attached, attached_cases, in_range_lem}
use Rattle.tracing.specs.Steps.{Step, here, end_device, bad, lost, onward, Pick, at, nowhere, pick, phy_numbers, came_from, move_by, subtractively, by_table, directly, bearing, listing, subtracting, step}

-- what was picked passes the test, and where none is picked none passes
module _ (test : ℕ → Bool) where
  pub pick_at : (l : List ℕ) (p : ℕ) → pick test l ≡ at p → T (test p)
  unfolding pick
  pick_at [] p e = let z : ◌≡◌ {A = ℕ} 0 1 = cc in absurd (omega arith)
  pick_at (x ∷ l) p e = go (test x) refl (pick_at l p) e
    where
      go : (b : Bool) → test x ≡ b → (pick test l ≡ at p → T (test p)) → cond b (at x) (pick test l) ≡ at p → T (test p)
      go true q r f = let z : x ≡ p = cc in subst (λ v. T (test v)) z (was_true (test x) q)
      go false q r f = r f

  pub pick-nowhere : (l : List ℕ) → pick test l ≡ nowhere → (p : ℕ) → In p l → T (test p) → ⊥
  unfolding pick
  pick-nowhere [] e p h t = h
  pick-nowhere (x ∷ l) e p h t = go (test x) refl (λ f k. pick-nowhere l f p k t) e h
    where
      go : (b : Bool) → test x ≡ b → (pick test l ≡ nowhere → In p l → ⊥) → cond b (at x) (pick test l) ≡ nowhere → In p (x ∷ l) → ⊥
      go true q r f k = let z : ◌≡◌ {A = ℕ} 0 1 = cc in omega arith
      go false q r f (inl u) = subst T q (subst (λ v. T (test v)) u t)
      go false q r f (inr k) = r f k

module _ (d : Domain) (words : List ℕ) (i s : ℕ) where
  -- no attached phy bears s
  abbrev pub Absent : Type 0
  Absent = (p : ℕ) → T (attached (phy_at d i p)) → address_of (phy_at d i p) ≢ s

  -- phy p is a table phy attached to an expander and has s in its stretch
  abbrev pub Listing : ℕ → Type 0
  Listing p = T (to_expander (phy_at d i p)) × T (is_table (phy_at d i p)) × In s (stretch d words i p)

  abbrev pub Unlisted : Type 0
  Unlisted = (p : ℕ) → T (to_expander (phy_at d i p)) → T (is_table (phy_at d i p)) → In s (stretch d words i p) → ⊥

  -- no subtractive phy is attached to an expander, or one is attached to the address from which the request came
  abbrev pub NoWayUp : ℕ → Type 0
  NoWayUp came =
      ((p : ℕ) → T (to_expander (phy_at d i p)) → T (is_subtractive (phy_at d i p)) → ⊥)
      ⊎ ((p : ℕ) × T (to_expander (phy_at d i p)) × T (is_subtractive (phy_at d i p)) × (address_of (phy_at d i p) ≡ came))

  -- why a request moves on by phy p: by (ii), (iii) or (iv)
  pub data Chosen (p : ℕ) : Type 0 where
    at_once : address_of (phy_at d i p) ≡ s → Chosen p
    listed : Absent → T (is_table (phy_at d i p)) → In s (stretch d words i p) → Chosen p
    upward : Absent → Unlisted → T (is_subtractive (phy_at d i p)) → Chosen p

  -- why a step is what it is, where the request came from this address
  pub data Stepped (came : ℕ) : Step → Type 0 where
    is_here : (expander_at d i).address ≡ s → Stepped came here
    is_end : (p : ℕ) → T (to_end (phy_at d i p)) → address_of (phy_at d i p) ≡ s → address_of (phy_at d i p) ≢ came → Stepped came (end_device p)
    is_bad : (p : ℕ) → T (attached (phy_at d i p)) → address_of (phy_at d i p) ≡ came → (address_of (phy_at d i p) ≡ s) ⊎ Listing p → Stepped came bad
    is_lost : (expander_at d i).address ≢ s → Absent → Unlisted → NoWayUp came → Stepped came lost
    is_move : (p : ℕ) → (expander_at d i).address ≢ s → T (to_expander (phy_at d i p)) → address_of (phy_at d i p) ≢ came → Chosen p
        → Stepped came (onward (number_of d (address_of (phy_at d i p))) (attached_phy_of (phy_at d i p)))

  module _ (came : ℕ) where
    in_phys : (p : ℕ) → T (attached (phy_at d i p)) → In p (phy_numbers d i)
    in_phys p t = in_up_to (length (expander_at d i).phys) p (in_range_lem d i p t).1

    differs : (p : ℕ) → eqb (address_of (phy_at d i p)) came ≡ false → address_of (phy_at d i p) ≢ came
    differs p q e = subst T q (eq→eqb (address_of (phy_at d i p)) came e)

    by-subtractive : (r : Pick) → pick (subtracting d i) (phy_numbers d i) ≡ r → (expander_at d i).address ≢ s → Absent → Unlisted
        → Stepped came (subtractively d i came r)
    unfolding subtractively
    by-subtractive nowhere e n a u =
        is_lost n a u (inl (λ p t k. pick-nowhere (subtracting d i) (phy_numbers d i) e p (in_phys p (expander-attached (phy_at d i p) t)) (search tests)))
    by-subtractive (at p) e n a u = go (eqb (address_of (phy_at d i p)) came) refl
      where
        t : T (subtracting d i p)
        t = pick_at (subtracting d i) (phy_numbers d i) p e

        x : T (to_expander (phy_at d i p))
        x = search (tests, t)

        y : T (is_subtractive (phy_at d i p))
        y = search (tests, t)

        go : (b : Bool) → eqb (address_of (phy_at d i p)) came ≡ b → Stepped came (cond b lost (move_by d i p))
        go true q = is_lost n a u (inr (p, x, y, search tests))
        go false q = is_move p n x (differs p q) (upward a u y)

    by-table : (r : Pick) → pick (listing d words i s) (phy_numbers d i) ≡ r → (o : Step) → (Unlisted → Stepped came o)
        → (expander_at d i).address ≢ s → Absent → Stepped came (by_table d i came r o)
    unfolding by_table
    by-table nowhere e o f n a =
        f (λ p t k l. pick-nowhere (listing d words i s) (phy_numbers d i) e p (in_phys p (expander-attached (phy_at d i p) t)) (search tests))
    by-table (at p) e o f n a = go (eqb (address_of (phy_at d i p)) came) refl
      where
        t : T (listing d words i s p)
        t = pick_at (listing d words i s) (phy_numbers d i) p e

        x : T (to_expander (phy_at d i p))
        x = search (tests, t)

        y : T (is_table (phy_at d i p))
        y = search (tests, t)

        z : In s (stretch d words i p)
        z = search (tests, t)

        go : (b : Bool) → eqb (address_of (phy_at d i p)) came ≡ b → Stepped came (cond b bad (move_by d i p))
        go true q = is_bad p (expander-attached (phy_at d i p) x) (search tests) (inr (x, y, z))
        go false q = is_move p n x (differs p q) (listed a y z)

    by-direct : (r : Pick) → pick (bearing d i s) (phy_numbers d i) ≡ r → (o : Step) → (Absent → Stepped came o)
        → (expander_at d i).address ≢ s → Stepped came (directly d i came r o)
    unfolding directly
    by-direct nowhere e o f n = f (λ p t k. pick-nowhere (bearing d i s) (phy_numbers d i) e p (in_phys p t) (search tests))
    by-direct (at p) e o f n = go (eqb (address_of (phy_at d i p)) came) refl (to_end (phy_at d i p)) refl
      where
        t : T (bearing d i s p)
        t = pick_at (bearing d i s) (phy_numbers d i) p e

        x : T (attached (phy_at d i p))
        x = search (tests, t)

        y : address_of (phy_at d i p) ≡ s
        y = search (tests, t)

        go : (b : Bool) → eqb (address_of (phy_at d i p)) came ≡ b → (c : Bool) → to_end (phy_at d i p) ≡ c
            → Stepped came (cond b bad (cond c (end_device p) (move_by d i p)))
        go true q c r = is_bad p x (search tests) (inl y)
        go false q true r = is_end p (was_true (to_end (phy_at d i p)) r) y (differs p q)
        go false q false r =
            let k : T (to_expander (phy_at d i p)) = ⊎_elim (λ k. absurd (subst T r k)) (λ k. k) (attached_cases (phy_at d i p) x) in
            is_move p n k (differs p q) (at_once y)

  -- every step has its reason
  pub stepped : (arrival : ℕ) → Stepped (came_from d i arrival) (step d words i arrival s)
  unfolding step
  stepped arrival = go (eqb (expander_at d i).address s) refl
    where
      came : ℕ
      came = came_from d i arrival

      up : Step
      up = subtractively d i came (pick (subtracting d i) (phy_numbers d i))

      rest : Step
      rest = by_table d i came (pick (listing d words i s) (phy_numbers d i)) up

      go : (b : Bool) → eqb (expander_at d i).address s ≡ b → Stepped came (cond b here (directly d i came (pick (bearing d i s) (phy_numbers d i)) rest))
      go true q = is_here (eqb→eq (expander_at d i).address s (was_true (eqb (expander_at d i).address s) q))
      go false q =
          let n : (expander_at d i).address ≢ s = λ f. subst T q (eq→eqb (expander_at d i).address s f) in
          by-direct came (pick (bearing d i s) (phy_numbers d i)) refl rest
          (λ a. by-table came (pick (listing d words i s) (phy_numbers d i)) refl up
          (λ u. by-subtractive came (pick (subtracting d i) (phy_numbers d i)) refl n a u) n a) n
