-- Domains that causes 22 and 1 to 6 leave (`Read`) and that fit in bytes are those that cards and files hold.
use Prim.Native.Nat.{ℕ, ◌+◌, ◌≤◌}
use mathlib.Core.Path.{◌≡◌, refl, sym, ◌∙◌, subst}
use mathlib.Core.Logic.{inl, inr, ⊎_elim}
use mathlib.Core.Bool.{Bool, true, false, not, ◌||◌}
use mathlib.Core.List.{List, [], ◌∷◌, ◌++◌}
use native.Mathlib.Omega.{arith}
use lib.ListN.{length}
use lib.Dec.{eqb}
use borrow.Author.Tests.{eqb-false, ne_eqb, le-leb}
use Rattle.frames.specs.Refusals.{Result}
use Rattle.files.specs.declared.Setting.{Setting}
use Rattle.files.specs.declared.Phy.{Phy}
use Rattle.files.specs.declared.Phy.TheVariants.{Vacant, Present}
use Rattle.files.specs.Lists.{In, is_in, Distinct}
use Rattle.files.specs.Domain.{Expander, Domain}
use Rattle.files.specs.ReadDomain.{ReadPhy, ReadExpander, addresses, Read, FitsPhy, FitsExpander, FitsDomain}
use Rattle.files.proofs.ListMembers.{is_false, of-is_in, in_append}
use Rattle.files.proofs.ReadDomain.{read-good}
use Rattle.cards.specs.CardRead.{phy_ranged, phys_tested, units_tested}
use Rattle.cards.specs.FileOf.{file_of}
use Rattle.cards.proofs.DomainRanges.{PhyRange, PhysRange, ExpanderRange, ExpandersRange, Legal}
use Rattle.cards.proofs.FileRoundTrip.{file-of}

-- a domain that a card or a file holds is one that the causes leave: its file reads as it
pub legal-read : (most : Setting) (d : Domain) → Legal most d → Read most d
legal-read most d h = read-good most (file_of d) d (file-of most d h)

-- the ranges of each phy and of each expander
pub range_in : (φs : List Phy) → PhysRange φs → (φ : Phy) → In φ φs → PhyRange φ
range_in [] h φ k = absurd k
range_in (ψ ∷ φs) h φ k = ⊎_elim (λ e. subst PhyRange (sym e) h.0) (λ j. range_in φs h.1 φ j) k

pub ranges_in : (d : Domain) → ExpandersRange d → (e : Expander) → In e d → ExpanderRange e
ranges_in [] h e k = absurd k
ranges_in (x ∷ d) h e k = ⊎_elim (λ q. subst ExpanderRange (sym q) h.0) (λ j. ranges_in d h.1 e j) k

fits-phy : (φ : Phy) → PhyRange φ → FitsPhy φ
fits-phy (Vacant r) h = h.1
fits-phy (Present f) h = (h.address_in_lem, h.attached-phy_in)

fits-expander : (e : Expander) → ExpanderRange e → FitsExpander e
fits-expander e h = record { address = h.own_address_in; route_indexes = h.route_indexes_in; count = omega (arith, h.few-phys); phys = λ φ k. fits-phy φ (range_in e.phys h.phys_in_lem φ k) }

pub legal-fits : (most : Setting) (d : Domain) → Legal most d → FitsDomain d
legal-fits most d h = record { count = omega (arith, h.few, h.range.expanders.1); each = λ e k. fits-expander e (ranges_in d h.ranges e k) }

-- the other way: ranges
phy-range : (φ : Phy) → ReadPhy φ → FitsPhy φ → PhyRange φ
phy-range (Vacant r) g h = (omega (arith, g), h)
phy-range (Present f) g h = record {
  device_type_in = omega (arith, g.device_type);
  attribute_in = omega (arith, g.attribute);
  address_in_lem = h.0;
  attached-phy_in = h.1;
  bare_in = g.bare;
}

phys-range : (φs : List Phy) → ((φ : Phy) → In φ φs → ReadPhy φ) → ((φ : Phy) → In φ φs → FitsPhy φ) → PhysRange φs
phys-range [] g h = tt
phys-range (φ ∷ φs) g h = (phy-range φ (g φ (inl refl)) (h φ (inl refl)), phys-range φs (λ ψ k. g ψ (inr k)) (λ ψ k. h ψ (inr k)))

module _ (most : Setting) (few : most.phys ≤ 128) where
  expander-range : (e : Expander) → ReadExpander most e → FitsExpander e → ExpanderRange e
  expander-range e g h = record {
    own_address_in = h.address;
    route_indexes_in = h.route_indexes;
    configurable_in = omega (arith, g.configurable);
    some-phys = g.some;
    few-phys = omega (arith, g.few);
    phys_in_lem = phys-range e.phys g.phys h.phys;
  }

  expanders-range : (d : Domain) → ((e : Expander) → In e d → ReadExpander most e) → ((e : Expander) → In e d → FitsExpander e) → ExpandersRange d
  expanders-range [] g h = tt
  expanders-range (e ∷ d) g h = (expander-range e (g e (inl refl)) (h e (inl refl)), expanders-range d (λ f k. g f (inr k)) (λ f k. h f (inr k)))

-- and tests
phy-ranged : (φ : Phy) → ReadPhy φ → phy_ranged φ ≡ true
phy-ranged (Vacant r) g = refl
phy-ranged (Present f) g = rw (le-leb f.device_type 3 g.device_type, le-leb f.attribute 2 g.attribute) (go (eqb f.device_type 0) refl)
  where
    go : (b : Bool) → eqb f.device_type 0 ≡ b → (b || not (eqb f.address 0)) ≡ true
    go true q = refl
    go false q = rw (ne_eqb f.address 0 (g.borne (eqb-false f.device_type 0 q)))

pub phys-tested : (i p : ℕ) (φs : List Phy) → ((φ : Phy) → In φ φs → ReadPhy φ) → (k : Result Domain) → phys_tested i p φs k ≡ k
unfolding phys_tested
phys-tested i p [] g k = refl
phys-tested i p (φ ∷ φs) g k = rw (phy-ranged φ (g φ (inl refl))) (phys-tested i (p + 1) φs (λ ψ j. g ψ (inr j)) k)

-- none of the addresses to come was used
abbrev pub Unused : List ℕ → List ℕ → Type 0
Unused used l = (a : ℕ) → In a l → In a used → ⊥

pub unused_first : (used : List ℕ) (a : ℕ) (l : List ℕ) → Unused used (a ∷ l) → is_in a used ≡ false
unused_first used a l u = is_false (is_in a used) (λ t. u a (inl refl) (of-is_in a used t))

pub unused_next : (used : List ℕ) (a : ℕ) (l : List ℕ) → Unused used (a ∷ l) → Distinct (a ∷ l) → Unused (used ++ (a ∷ [])) l
unused_next used a l u v b j s =
    ⊎_elim (λ t. u b (inr j) t) (λ t. ⊎_elim (λ q. v.0 (subst (λ (x : ℕ). In x l) q j)) (λ z. z) t) (in_append used (a ∷ []) b s)

pub units-tested : (most : Setting) (i : ℕ) (used : List ℕ) (d : Domain) → Unused used (addresses d) → Distinct (addresses d) → ((e : Expander) → In e d → ReadExpander most e)
    → (k : Result Domain) → units_tested most i used d k ≡ k
unfolding units_tested
units-tested most i used [] u v g k = refl
units-tested most i used (e ∷ d) u v g k =
    let r = g e (inl refl) in
    let n = units-tested most (i + 1) (used ++ (e.address ∷ [])) d (unused_next used e.address (addresses d) u v) v.1 (λ x j. g x (inr j)) k in
    rw (le-leb 1 (length e.phys) r.some, le-leb (length e.phys) most.phys r.few, ne_eqb e.address 0 r.borne, unused_first used e.address (addresses d) u)
    (phys-tested i 0 e.phys r.phys (units_tested most (i + 1) (used ++ (e.address ∷ [])) d k) ∙ n)

pub read-legal : (most : Setting) (d : Domain) → Read most d → FitsDomain d → Legal most d
read-legal most d g h = record {
  range = g.range;
  some = g.some;
  few = g.few;
  ranges = expanders-range most g.range.phys.1 d g.each h.each;
  units = units-tested most 0 [] d (λ a j z. z) g.differ g.each;
}
