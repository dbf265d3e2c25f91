-- Reading the form of an accepted domain gives that domain with what the form leaves out set to 1; and that has the same form.
use Prim.Native.Nat.{ℕ, zero, suc, ◌+◌, ◌*◌, ◌/◌, ◌%◌, ◌≤◌, ◌<◌}
use mathlib.Core.Path.{◌≡◌, refl, sym, ap, subst, ◌∙◌}
use mathlib.Core.Logic.{inl, inr, ◌≢◌, by_cases}
use mathlib.Core.Bool.{Bool, true, false, cond}
use mathlib.Core.List.{List, [], ◌∷◌, ◌++◌, map}
use native.Mathlib.Omega.{arith}
use native.Mathlib.Nat.{mod-eq_of_lt}
use native.Mathlib.Decide.{ℕ_discrete}
use lib.ListN.{length, get_or, drop, length-map}
use lib.Seq.{drop_at}
use lib.Dec.{T, leb}
use Rattle.files.specs.declared.Setting.{Setting}
use Rattle.files.specs.declared.Phy.{Phy}
use Rattle.files.specs.declared.Phy.TheVariants.{Vacant, Present}
use Rattle.files.specs.Lists.{In}
use Rattle.files.specs.Domain.{Expander, Domain, no_expander, phy_at, address_of, to_expander, number_of}
use Rattle.files.specs.ReadDomain.{ReadPhy, Read, FitsPhy, FitsDomain}
use Rattle.files.proofs.ListMembers.{get_d_in}
use Rattle.files.proofs.RowsRoundTrip.{low}
use Rattle.wiring.proofs.phys.WiredPhys.{Wired, far-below}
use Rattle.forms.specs.Form.{head_field, phy_field, attached_number, form_phy, form_phys, form_expanders, form_of, phy_back, phys_back, count_in, expander_back, expanders_back, form_in}
use Rattle.forms.specs.NormalDomain.{normal_phy, normal_expander, normal_with, normal}
use Rattle.forms.proofs.FormRows.{back-empty, back-present}
use Rattle.forms.proofs.FormWords.{length-form_phys}
use Rattle.forms.proofs.NormalDomains.{address_same, number_same}

-- a phy whose fields its words have room for; nothing is named where nothing is attached
abbrev FieldsFit : Domain → Phy → Type 0
FieldsFit d (Vacant r) = Unit {0}
FieldsFit d (Present f) = ((f.device_type < 4) × (f.attribute < 4)) × ((f.attached_phy.0 < 256) × ((T (leb 2 f.device_type) → number_of d f.address < 64) × (f.device_type ≡ 0 → (f.address ≡ 0) × (f.attached_phy.0 ≡ 0))))

same-fields : (a b c e g h i j : ℕ) → a ≡ b → c ≡ e → g ≡ h → i ≡ j
    → Present (record { device_type = a; attribute = c; address = g; attached_phy = record { 0 = i } }) ≡ Present (record { device_type = b; attribute = e; address = h; attached_phy = record { 0 = j } })
same-fields a b c e g h i j p q r s = rw (p, q, r, s) refl

module _ (type attribute expander attached_phy a : ℕ) (h : type < 4) (i : attribute < 4) (j : expander < 64) (k : attached_phy < 256) where
  abbrev v : ℕ
  v = attached_phy + 256 * (expander + 64 * (attribute + 4 * (type + 4 * 0)))

  used : phy_field 0 type attribute expander attached_phy / 35184372088832 ≡ v
  used = omega arith

  type-back : v / 65536 % 4 ≡ type
  type-back = let e : v / 65536 ≡ type = omega arith in ap (λ (x : ℕ). x % 4) e ∙ mod-eq_of_lt h

  attribute-back : v / 16384 % 4 ≡ attribute
  attribute-back = let e : v / 16384 ≡ attribute + 4 * type = omega arith in ap (λ (x : ℕ). x % 4) e ∙ low 4 attribute type i

  far-back : v % 256 ≡ attached_phy
  far-back = low 256 attached_phy (expander + 64 * (attribute + 4 * (type + 4 * 0))) k

  not_vacant : v / 262144 % 2 ≢ 1
  not_vacant e = let z : v / 262144 ≡ 0 = omega arith in omega arith

  field_back : (type ≡ 0 → (a ≡ 0) × (attached_phy ≡ 0)) → phy_back a (phy_field 0 type attribute expander attached_phy / 35184372088832)
      ≡ Present (record { device_type = type; attribute = attribute; address = a; attached_phy = record { 0 = attached_phy } })
  field_back bare = ap (phy_back a) used ∙ by_cases (ℕ_discrete type 0)
      (λ z. sym (back-empty a v not_vacant (type-back ∙ z)) ∙ same-fields _ _ _ _ _ _ _ _ type-back attribute-back (sym (bare z).0) (sym (bare z).1))
      (λ z. sym (back-present a v not_vacant (λ e. z (sym type-back ∙ e))) ∙ same-fields _ _ _ _ _ _ _ _ type-back attribute-back refl far-back)

phy-back : (d : Domain) (φ : Phy) → FieldsFit d φ → phy_back (address_of φ) (form_phy d φ / 35184372088832) ≡ normal_phy 1 φ
phy-back d (Vacant r) h = refl
phy-back d (Present f) h = field_back f.device_type f.attribute (attached_number d f) f.attached_phy.0 f.address h.0.0 h.0.1 (expander (leb 2 f.device_type) h.1.1.0) h.1.0 h.1.1.1
  where
    expander : (b : Bool) → (T b → number_of d f.address < 64) → cond b (number_of d f.address) 0 < 64
    expander true g = g tt
    expander false g = omega arith

phys-back : (d : Domain) (φs : List Phy) (rest : List ℕ) → ((φ : Phy) → In φ φs → FieldsFit d φ) → phys_back (length φs) (form_phys d φs ++ rest) ≡ map (normal_phy 1) φs
unfolding phys_back
phys-back d [] rest h = refl
phys-back d (φ ∷ φs) rest h = rw (phy-back d φ (h φ (inl refl)), phys-back d φs rest (λ ψ k. h ψ (inr k))) refl

record ExpanderIn (d : Domain) (e : Expander) : Type 0 where
  route_indexes : e.route_indexes < 65536
  few : length e.phys ≤ 128
  phys : (φ : Phy) → In φ e.phys → FieldsFit d φ

module _ (d : Domain) (e : Expander) (h : ExpanderIn d e) (rest : List ℕ) where
  abbrev whole : List ℕ
  whole = e.address ∷ head_field e.route_indexes (length e.phys) ∷ (form_phys d e.phys ++ rest)

  count-back : count_in whole ≡ length e.phys
  count-back =
      let f = h.few in
      let b : head_field e.route_indexes (length e.phys) / 1099511627776 ≡ length e.phys + 256 * e.route_indexes = omega arith in
      let a : head_field e.route_indexes (length e.phys) / 1099511627776 % 256 ≡ length e.phys = ap (λ (x : ℕ). x % 256) b ∙ low 256 (length e.phys) e.route_indexes (omega arith) in
      omega arith

  route_indexes_back : head_field e.route_indexes (length e.phys) / 281474976710656 % 65536 ≡ e.route_indexes
  route_indexes_back =
      let f = h.few in
      let a : head_field e.route_indexes (length e.phys) / 281474976710656 ≡ e.route_indexes = omega arith in
      ap (λ (x : ℕ). x % 65536) a ∙ mod-eq_of_lt h.route_indexes

  expander-back : expander_back whole ≡ normal_expander 1 e
  unfolding expander_back
  expander-back = rw (count-back, route_indexes_back, phys-back d e.phys rest h.phys) refl

  after-back : drop (2 + 2 * count_in whole) whole ≡ rest
  after-back =
      let n = length-form_phys d e.phys in
      let c : 2 + 2 * count_in whole ≡ suc (suc (2 * length e.phys)) = omega (arith, count-back) in
      rw c (drop_at (form_phys d e.phys) rest (2 * length e.phys) n)

expanders-back : (d : Domain) (room : ℕ) (es : Domain) → length es ≤ room → ((e : Expander) → In e es → ExpanderIn d e) → expanders_back room (form_expanders d es) ≡ normal_with 1 es
unfolding expanders_back form_expanders
expanders-back d zero [] m h = refl
expanders-back d zero (e ∷ es) m h = absurd (omega arith)
expanders-back d (suc room) [] m h = refl
expanders-back d (suc room) (e ∷ es) m h =
    let o = h e (inl refl) in
    let r = form_expanders d es in
    rw (expander-back d e o r, after-back d e o r, expanders-back d room es (omega arith) (λ x k. h x (inr k))) refl

-- a domain that is read, fits and is wired
fields-of : (d : Domain) (φ : Phy) → ReadPhy φ → FitsPhy φ → (T (to_expander φ) → number_of d (address_of φ) < 64) → FieldsFit d φ
fields-of d (Vacant r) g f n = tt
fields-of d (Present p) g f n = ((omega (arith, g.device_type), omega (arith, g.attribute)), (f.1, (n, g.bare)))

module _ (most : Setting) (d : Domain) (g : Read most d) (f : FitsDomain d) (w : Wired d) where
  few : length d ≤ 64
  few = omega (arith, g.few, g.range.expanders.1)

  expander_in : (e : Expander) → In e d → ExpanderIn d e
  expander_in e h =
      let r = g.each e h in
      let o = f.each e h in
      let i = get_d_in d no_expander e h in
      record {
        route_indexes = o.route_indexes;
        few = omega (arith, r.few, g.range.phys.1);
        phys = λ φ k.
            let p = get_d_in e.phys (Vacant 0) φ k in
            let q : phy_at d i.0 p.0 ≡ φ = ap (λ (x : Expander). get_or x.phys p.0 (Vacant 0)) i.2 ∙ p.2 in
            fields-of d φ (r.phys φ k) (o.phys φ k)
            (λ t. let u = far-below d w i.0 p.0 (subst (λ (ψ : Phy). T (to_expander ψ)) (sym q) t) in
            let z = ap (λ (ψ : Phy). number_of d (address_of ψ)) q in omega (arith, few));
      }

  pub form-normal-back : form_in (form_of d) ≡ normal d
  unfolding form_in form_of
  form-normal-back = expanders-back d 64 d few expander_in

-- a normal domain has the form of the domain that it came from
same-phy : (v : ℕ) (d : Domain) (φ : Phy) → form_phy (normal_with v d) (normal_phy v φ) ≡ form_phy d φ
same-phy v d (Vacant r) = refl
same-phy v d (Present f) = rw (number_same v d f.address) refl

same-phys : (v : ℕ) (d : Domain) (φs : List Phy) → form_phys (normal_with v d) (map (normal_phy v) φs) ≡ form_phys d φs
same-phys v d [] = refl
same-phys v d (φ ∷ φs) = rw (address_same v φ, same-phy v d φ, same-phys v d φs) refl

same-expanders : (v : ℕ) (d es : Domain) → form_expanders (normal_with v d) (normal_with v es) ≡ form_expanders d es
unfolding form_expanders
same-expanders v d [] = refl
same-expanders v d (e ∷ es) = rw (length-map e.phys (normal_phy v), same-phys v d e.phys, same-expanders v d es) refl

pub form-normal : (v : ℕ) (d : Domain) → form_of (normal_with v d) ≡ form_of d
unfolding form_of
form-normal v d = same-expanders v d d
