-- Paper 12 on domains: the joined domain of two accepted ones is accepted exactly when the limits of the setting are kept and no address is a device's
-- in both.
use mathlib.Core.Path.{◌≡◌, refl, sym, ap, ap₂, subst, ◌∙◌}
use mathlib.Core.Logic.{◌⊎◌, inl, inr, ◌≢◌, ◌↔◌, ⊎_elim}
use mathlib.Core.List.{List, [], ◌∷◌, ◌++◌, map-append}
use Prim.Native.Nat.{ℕ, zero, suc, ◌+◌, ◌≤◌, ◌<◌}
use native.Mathlib.Omega.{arith}
use lib.ListN.{length, set, length-set}
use lib.Seq.{map-set_same}
use Rattle.frames.specs.Refusals.{good}
use Rattle.files.specs.declared.Setting.{Setting}
use Rattle.files.specs.declared.Phy.{Phy}
use Rattle.files.specs.Lists.{In, Distinct}
use Rattle.files.specs.Domain.{Expander, Domain, no_expander, expander_at}
use Rattle.files.specs.PhyReplaced.{with_phy, set_phy}
use Rattle.files.specs.ReadDomain.{ReadPhy, ReadExpander, addresses, Read}
use Rattle.wiring.specs.graph.Devices.{Borne}
use Rattle.wiring.specs.graph.LongChains.{ShortChains}
use Rattle.files.proofs.ListMembers.{in_map, get_d_in, in_append, distinct_append}
use Rattle.files.proofs.Domains.{attribute-range}
use Rattle.wiring.proofs.WiredAndLinked.{read-expander}
use Rattle.wiring.proofs.graph.LongChains.{never-long}
use Rattle.tables.specs.filling.Tables.{tables}
use Rattle.tables.specs.JudgingCall.{judged_domain}
use Rattle.tables.proofs.AcceptedDomains.{accepted_iff}
use Rattle.benches.specs.JoinConditions.{Free, Joinable}
use Rattle.benches.specs.Joined.{cabled_to, joined}
use Rattle.benches.proofs.PartsOfJoined.{attribute-inside, joined_length}
use Rattle.benches.proofs.JoinTables.{joined-tables}
use Rattle.benches.proofs.JoinedDomains.{joined-wired, joined-linked, joined-fits, wired-apart}

in_set : {A : Type 0} (l : List A) (i : ℕ) (y a : A) → In a (set l i y) → In a l ⊎ (a ≡ y)
in_set [] i y a h = absurd h
in_set (x ∷ l) zero y a (inl e) = inr e
in_set (x ∷ l) zero y a (inr h) = inl (inr h)
in_set (x ∷ l) (suc i) y a (inl e) = inl (inl e)
in_set (x ∷ l) (suc i) y a (inr h) = ⊎_elim (λ o. inl (inr o)) inr (in_set l i y a h)

-- causes 22 and 1 to 6 leave a domain with another phy as they leave the first
module _ (most : Setting) (d : Domain) (g : Read most d) (i p s q : ℕ) (inside : i < length d) (borne : s ≢ 0) where
  read_cable : ReadPhy (cabled_to s q)
  read_cable = record { device_type = omega arith; attribute = omega arith; borne = λ _. borne; bare = λ e. absurd (let z : ◌≡◌ {A = ℕ} 2 0 = e in omega arith) }

  read_with : ReadExpander most (with_phy (expander_at d i) p (cabled_to s q))
  unfolding with_phy
  read_with =
      let o = read-expander most d g i inside in
      let n = length-set (expander_at d i).phys p (cabled_to s q) in
      record {
        borne = o.borne;
        configurable = o.configurable;
        some = omega (arith, o.some);
        few = omega (arith, o.few);
        phys = λ φ h. ⊎_elim (o.phys φ) (λ e. subst ReadPhy (sym e) read_cable) (in_set (expander_at d i).phys p (cabled_to s q) φ h);
      }

  each_with : (e : Expander) → In e (set_phy d i p (cabled_to s q)) → ReadExpander most e
  unfolding set_phy
  each_with e h = ⊎_elim (g.each e) (λ o. subst (ReadExpander most) (sym o) read_with) (in_set d i (with_phy (expander_at d i) p (cabled_to s q)) e h)

same-addresses : (d : Domain) (i p : ℕ) (φ : Phy) → addresses (set_phy d i p φ) ≡ addresses d
unfolding set_phy with_phy
same-addresses d i p φ = map-set_same (λ e. e.address) d i (with_phy (expander_at d i) p φ) no_expander refl

address-borne : (d : Domain) (s : ℕ) → In s (addresses d) → Borne d s
address-borne d s h =
    let m = in_map (λ e. e.address) d s h in
    let k = get_d_in d no_expander m.0 m.1 in
    (k.0, k.1, inl (ap (λ (e : Expander). e.address) k.2 ∙ sym m.2))

module _ (most : Setting) (d₁ : Domain) (i p : ℕ) (d₂ : Domain) (j q : ℕ) (g₁ : Read most d₁) (g₂ : Read most d₂) where
  pub each-joined : Free d₁ i p → Free d₂ j q → (x : Expander) → In x (joined d₁ i p d₂ j q) → ReadExpander most x
  unfolding joined
  each-joined f g x k =
      let a = attribute-inside d₁ 1 i p (omega arith) f.subtractive in
      let b = attribute-inside d₂ 1 j q (omega arith) g.subtractive in
      let one = set_phy d₁ i p (cabled_to (expander_at d₂ j).address q) in
      let two = set_phy d₂ j q (cabled_to (expander_at d₁ i).address p) in
      ⊎_elim (each_with most d₁ g₁ i p (expander_at d₂ j).address q a (read-expander most d₂ g₂ j b).borne x)
      (each_with most d₂ g₂ j q (expander_at d₁ i).address p b (read-expander most d₁ g₁ i a).borne x) (in_append one two x k)

  pub read-joined : Joinable d₁ i p d₂ j q → length d₁ + length d₂ ≤ most.expanders → Read most (joined d₁ i p d₂ j q)
  unfolding joined
  read-joined c h =
      let l = joined_length d₁ i p d₂ j q in
      let one = set_phy d₁ i p (cabled_to (expander_at d₂ j).address q) in
      let two = set_phy d₂ j q (cabled_to (expander_at d₁ i).address p) in
      let e : addresses (joined d₁ i p d₂ j q) ≡ addresses d₁ ++ addresses d₂ =
      map-append (λ e. e.address) one two ∙ ap₂ ◌++◌ (same-addresses d₁ i p _) (same-addresses d₂ j q _) in
      record {
        range = g₁.range;
        some = omega (arith, g₁.some);
        few = omega arith;
        differ = subst Distinct (sym e) (distinct_append (addresses d₁) (addresses d₂) g₁.differ g₂.differ (λ s x y. c.apart s (address-borne d₁ s x) (address-borne d₂ s y)));
        each = each-joined c.first c.second;
      }

  pub phy-few : (d : Domain) → Read most d → (x y : ℕ) → Free d x y → y < 255
  phy-few d g x y f =
      let h = attribute-range d 1 x y f.subtractive (omega arith) in
      let o = read-expander most d g x (attribute-inside d 1 x y (omega arith) f.subtractive) in
      omega (arith, o.few, g.range.phys.1)

  module _ (chain : ℕ) (j₁ : judged_domain chain d₁ ≡ good d₁) (j₂ : judged_domain chain d₂ ≡ good d₂) where
    pub joined-accepted : Free d₁ i p → Free d₂ j q
        → (Read most (joined d₁ i p d₂ j q) × (judged_domain chain (joined d₁ i p d₂ j q) ≡ good (joined d₁ i p d₂ j q)))
        ↔ ((length d₁ + length d₂ ≤ most.expanders) × (((s : ℕ) → Borne d₁ s → Borne d₂ s → ⊥) × ShortChains chain (joined d₁ i p d₂ j q)))
    joined-accepted f g = (
      λ o. let a = (accepted_iff most (joined d₁ i p d₂ j q) o.0 chain).0 o.1 in
          (let l = joined_length d₁ i p d₂ j q in omega (arith, o.0.few), (wired-apart d₁ i p d₂ j q f g a.0, a.1.short)),
      λ o. let c : Joinable d₁ i p d₂ j q = record { first = f; second = g; apart = o.1.0 } in
          let r = read-joined c o.0 in
          let a = (accepted_iff most d₁ g₁ chain).0 j₁ in
          let b = (accepted_iff most d₂ g₂ chain).0 j₂ in
          let n = phy-few d₁ g₁ i p f in
          let m = phy-few d₂ g₂ j q g in (
            r,
            (accepted_iff most (joined d₁ i p d₂ j q) r chain).1 (
              joined-wired d₁ i p d₂ j q a.0 a.1.linked b.0 b.1.linked g₁.some n m c,
              record {
                linked = joined-linked d₁ i p d₂ j q a.0 a.1.linked b.0 b.1.linked g₁.some n m c;
                short = o.1.1;
                fits = joined-fits d₁ i p d₂ j q a.0 a.1.linked b.0 b.1.linked g₁.some n m c a.1.fits b.1.fits;
              },
            ),
          ),
    )

    -- existing tables don't change
    pub same_tables : Joinable d₁ i p d₂ j q → tables (joined d₁ i p d₂ j q) ≡ tables d₁ ++ tables d₂
    same_tables c =
        let a = (accepted_iff most d₁ g₁ chain).0 j₁ in
        let b = (accepted_iff most d₂ g₂ chain).0 j₂ in
        joined-tables d₁ i p d₂ j q a.0 a.1.linked b.0 b.1.linked c

    -- where a chain may have as many expanders as there may be, the paper's own sentence
    pub joined-widest : most.expanders ≤ chain → Free d₁ i p → Free d₂ j q
        → (Read most (joined d₁ i p d₂ j q) × (judged_domain chain (joined d₁ i p d₂ j q) ≡ good (joined d₁ i p d₂ j q)))
        ↔ ((length d₁ + length d₂ ≤ most.expanders) × ((s : ℕ) → Borne d₁ s → Borne d₂ s → ⊥))
    joined-widest w f g = (
      λ o. let a = (joined-accepted f g).0 o in (a.0, a.1.0),
      λ o. (joined-accepted f g).1 (o.0, (o.1, never-long chain (joined d₁ i p d₂ j q) (let l = joined_length d₁ i p d₂ j q in omega (arith, o.0)))),
    )
