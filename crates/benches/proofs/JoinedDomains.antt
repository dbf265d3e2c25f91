-- Paper 12 on domains: when a joined domain is accepted, its tables, and arrival across the bench.
use mathlib.Core.Path.{◌≡◌, refl, sym, ap, subst, ◌∙◌}
use mathlib.Core.Logic.{inl, inr, by_cases}
use mathlib.Core.Bool.{Bool, true, false, not}
use Prim.Native.Nat.{ℕ, ◌+◌, ◌-◌, ◌≤◌, ◌<◌}
use native.Mathlib.Decide.{dec_lt}
use native.Mathlib.Omega.{arith}
use lib.ListN.{length}
use lib.Dec.{T, ltb, lt→ltb, ltb→lt}
use Rattle.files.specs.Domain.{Domain, expander_at, phy_at, address_of, to_end}
use Rattle.wiring.specs.graph.Devices.{Home, Borne, NoTableToTable}
use Rattle.wiring.specs.WiringCauses.{Linked}
use Rattle.files.proofs.ListMembers.{is_true, is_false}
use Rattle.wiring.proofs.phys.WiredPhys.{Wired}
use Rattle.files.proofs.Domains.{end-attached}
use Rattle.tracing.proofs.Arrival.{home_once}
use Rattle.benches.specs.JoinConditions.{Free, Joinable}
use Rattle.benches.specs.Joined.{joined}
use Rattle.benches.proofs.PartsOfJoined.{Part, Stands, attached-stays, joined_length, first_part, second-part, first_stands, second_stands}
use Rattle.benches.proofs.JoinedPassesCauses.{Fits, wired_e, linked_e, fits_e, untied_e}

module _ (d₁ : Domain) (i p : ℕ) (d₂ : Domain) (j q : ℕ) where
  abbrev D : Bool → Domain
  D true = d₁
  D false = d₂

  abbrev K : Bool → ℕ
  K true = 0
  K false = length d₁

  abbrev I : Bool → ℕ
  I true = i
  I false = j

  abbrev P : Bool → ℕ
  P true = p
  P false = q

  locate : (x : ℕ) → x < length (joined d₁ i p d₂ j q) → (b : Bool) × (x' : ℕ) × (x ≡ K b + x') × (x' < length (D b))
  locate x h = by_cases (dec_lt x (length d₁))
      (λ k. (true, x, omega arith, k))
      (λ k. let o = joined_length d₁ i p d₂ j q in (false, x - length d₁, omega arith, omega arith))

  sides : (b : Bool) (x : ℕ) → x < length (D b) → ltb (K b + x) (length d₁) ≡ b
  sides true x h = is_true (ltb (0 + x) (length d₁)) (lt→ltb (0 + x) (length d₁) (omega arith))
  sides false x h = is_false (ltb (length d₁ + x) (length d₁)) (λ t. let o = ltb→lt (length d₁ + x) (length d₁) t in omega arith)

  -- wired and linked, and with phys below 255
  module _ (w₁ : Wired d₁) (l₁ : Linked d₁) (w₂ : Wired d₂) (l₂ : Linked d₂) (some : 1 ≤ length d₁) (p-few : p < 255) (q-few : q < 255) where
    w : (b : Bool) → Wired (D b)
    w true = w₁
    w false = w₂

    r : (b : Bool) → Linked (D b)
    r true = l₁
    r false = l₂

    small : (b : Bool) → P b < 255
    small true = p-few
    small false = q-few

    module _ (c : Joinable d₁ i p d₂ j q) where
      part : (b : Bool) → Part (D b) (joined d₁ i p d₂ j q) (K b) (I b) (P b) (expander_at (D (not b)) (I (not b))).address (P (not b))
      part true = first_part d₁ i p d₂ j q c
      part false = second-part d₁ i p d₂ j q c

      apart : (b : Bool) (s : ℕ) → Borne (D b) s → Borne (D (not b)) s → ⊥
      apart true s x y = c.apart s x y
      apart false s x y = c.apart s y x

      pub joined-wired : Wired (joined d₁ i p d₂ j q)
      joined-wired = wired_e (joined d₁ i p d₂ j q) D K I P (λ x. ltb x (length d₁)) w r some small part locate sides apart refl

      pub joined-linked : Linked (joined d₁ i p d₂ j q)
      joined-linked = linked_e (joined d₁ i p d₂ j q) D K I P (λ x. ltb x (length d₁)) w r some small part locate sides apart refl

      pub joined-fits : Fits d₁ → Fits d₂ → Fits (joined d₁ i p d₂ j q)
      joined-fits f g = fits_e (joined d₁ i p d₂ j q) D K I P (λ x. ltb x (length d₁)) w r some small part locate sides apart refl both
        where
          both : (b : Bool) → Fits (D b)
          both true = f
          both false = g

      pub joined-clear : NoTableToTable d₁ → NoTableToTable d₂ → NoTableToTable (joined d₁ i p d₂ j q)
      joined-clear u v = untied_e (joined d₁ i p d₂ j q) D K I P (λ x. ltb x (length d₁)) w r some small part locate sides apart refl both
        where
          both : (b : Bool) → NoTableToTable (D b)
          both true = u
          both false = v

  -- a device of either is a device of the joined domain
  home_lift : (d e : Domain) (k x y s m : ℕ) → Stands d e k x y → Free d x y → m < length d → Home d s m → Home e s (k + m)
  home_lift d e k x y s m st f h (inl o) = inl (st.address m h ∙ o)
  home_lift d e k x y s m st f h (inr o) =
      let a = attached-stays d e k x y m o.0 st f h (end-attached (phy_at d m o.0) o.1) in
      inr (o.0, subst (λ φ. T (to_end φ)) (sym a) o.1, ap address_of a ∙ o.2)

  pub first_home : (s m : ℕ) → Free d₁ i p → m < length d₁ → Home d₁ s m → Home (joined d₁ i p d₂ j q) s (0 + m)
  first_home s m f h = home_lift d₁ (joined d₁ i p d₂ j q) 0 i p s m (first_stands d₁ i p d₂ j q f) f h

  pub second_home : (s m : ℕ) → Free d₂ j q → m < length d₂ → Home d₂ s m → Home (joined d₁ i p d₂ j q) s (length d₁ + m)
  second_home s m g h = home_lift d₂ (joined d₁ i p d₂ j q) (length d₁) j q s m (second_stands d₁ i p d₂ j q g) g h

  pub wired-apart : Free d₁ i p → Free d₂ j q → Wired (joined d₁ i p d₂ j q) → (s : ℕ) → Borne d₁ s → Borne d₂ s → ⊥
  wired-apart f g e s a b =
      let l = joined_length d₁ i p d₂ j q in
      let h = a.1 in
      let k = b.1 in
      let o = home_once (joined d₁ i p d₂ j q) e s (0 + a.0) (length d₁ + b.0) (omega arith) (omega arith) (first_home s a.0 f a.1 a.2) (second_home s b.0 g b.1 b.2) in
      omega arith
