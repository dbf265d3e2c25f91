-- Arrival across the bench: where neither domain has a table-to-table link, a request from any device of either reaches every device of both, over the
-- two domains' tables one after the other.
use mathlib.Core.Path.{◌≡◌, refl, ap, subst, ◌∙◌}
use mathlib.Core.Logic.{◌⊎◌, inl, inr, ◌≢◌}
use mathlib.Core.List.{List, ◌∷◌, ◌++◌, append_assoc}
use Prim.Native.Nat.{ℕ, ◌+◌, ◌<◌}
use native.Mathlib.Omega.{arith}
use lib.ListN.{length}
use Rattle.frames.specs.Refusals.{good}
use Rattle.files.specs.declared.Setting.{Setting}
use Rattle.files.specs.Domain.{Domain}
use Rattle.files.specs.ReadDomain.{Read}
use Rattle.wiring.specs.graph.Devices.{Borne, NoTableToTable}
use Rattle.tables.specs.filling.Tables.{tables}
use Rattle.tables.specs.JudgingCall.{judged_domain}
use Rattle.tables.proofs.levels.LevelsBeyond.{all-clear}
use Rattle.tables.proofs.AcceptedDomains.{accepted_iff}
use Rattle.tracing.specs.Demand3.{Starts}
use Rattle.tracing.specs.Trace.{request, traced}
use Rattle.tracing.specs.declared.Outcome.TheVariants.{Arrived}
use Rattle.tracing.proofs.Arrival.{tables-given, joined-all, traced-arrives}
use Rattle.benches.specs.JoinConditions.{Joinable}
use Rattle.benches.specs.Joined.{joined}
use Rattle.benches.proofs.PartsOfJoined.{joined_length}
use Rattle.benches.proofs.JoinedDomains.{joined-clear, first_home, second_home}
use Rattle.benches.proofs.JoinedAccepted.{phy-few, same_tables}

module _ (most : Setting) (d₁ : Domain) (i p : ℕ) (d₂ : Domain) (j q : ℕ) (g₁ : Read most d₁) (g₂ : Read most d₂)
    (chain : ℕ) (j₁ : judged_domain chain d₁ ≡ good d₁) (j₂ : judged_domain chain d₂ ≡ good d₂) where
  abbrev e : Domain
  e = joined d₁ i p d₂ j q

  -- a device of either has a home on the bench
  home_of : Joinable d₁ i p d₂ j q → (s : ℕ) → Borne d₁ s ⊎ Borne d₂ s → Borne e s
  home_of c s (inl a) = let l = joined_length d₁ i p d₂ j q in let h = a.1 in (0 + a.0, omega arith, first_home d₁ i p d₂ j q s a.0 c.first a.1 a.2)
  home_of c s (inr a) = let l = joined_length d₁ i p d₂ j q in let h = a.1 in (length d₁ + a.0, omega arith, second_home d₁ i p d₂ j q s a.0 c.second a.1 a.2)

  pub bench-arrives : (c : Joinable d₁ i p d₂ j q) → Read most e → judged_domain chain e ≡ good e → NoTableToTable d₁ → NoTableToTable d₂
      → (after : List ℕ) (s x arrival : ℕ) → s ≢ 0 → x < length d₁ + length d₂ → Starts e (request x arrival s) → Borne d₁ s ⊎ Borne d₂ s
      → (traced e (tables d₁ ++ (tables d₂ ++ after)) (request x arrival s)).outcome ≡ Arrived
  bench-arrives c g f u v after s x arrival z h st b =
      let a₁ = (accepted_iff most d₁ g₁ chain).0 j₁ in
      let a₂ = (accepted_iff most d₂ g₂ chain).0 j₂ in
      let a = (accepted_iff most e g chain).0 f in
      let n = joined_length d₁ i p d₂ j q in
      let m = home_of c s b in
      let k : x < length e = omega arith in
      let l = joined-all e a.0 a.1 x m.0 k m.1 in
      let clear = joined-clear d₁ i p d₂ j q a₁.0 a₁.1.linked a₂.0 a₂.1.linked g₁.some (phy-few most d₁ i p d₂ j q g₁ g₂ d₁ g₁ i p c.first) (phy-few most d₁ i p d₂ j q g₁ g₂ d₂ g₂ j q c.second) c u v in
      let t : tables e ++ after ≡ tables d₁ ++ (tables d₂ ++ after) = ap (λ (w : List ℕ). w ++ after) (same_tables most d₁ i p d₂ j q g₁ g₂ chain j₁ j₂ c) ∙ append_assoc (tables d₁) (tables d₂) after in
      subst (λ (w : List ℕ). (traced e w (request x arrival s)).outcome ≡ Arrived) t
      (traced-arrives e a.0 a.1 (tables e ++ after) (tables-given e after) s z x arrival m.0 k st m.1 m.2 (x ∷ l.0) (refl, l.1) (all-clear e clear x l.0)).outcome
