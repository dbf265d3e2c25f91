-- Writing the form of a domain: one phy's words after the other, and one expander after the other.
use Prim.Native.Nat.{ℕ, suc, ◌+◌, ◌*◌, ◌≤◌, ◌<◌}
use mathlib.Core.Path.{◌≡◌, refl, sym, ap, ap₂, subst, ◌∙◌}
use mathlib.Core.Bool.{Bool, cond}
use mathlib.Core.List.{List, [], ◌∷◌, ◌++◌}
use native.Mathlib.Omega.{arith}
use native.Mathlib.Numerals.{add-one}
use lib.ListN.{length, get_or, drop, set, length-append, drop_of_length-le}
use lib.Seq.{sets, drop-cons}
use lib.Dec.{T, le→leb}
use borrow.Author.Tests.{le-leb, lt-leb}
use Rattle.frames.proofs.ValuesPut.{sets-front, sets_then}
use Rattle.files.specs.declared.Phy.{Phy}
use Rattle.files.specs.declared.Phy.TheVariants.{Vacant, Present}
use Rattle.files.specs.declared.PhyFields.{PhyFields}
use Rattle.files.specs.Domain.{Domain, no_expander, expander_at, phy_at, address_of, to_expander, number_of}
use Rattle.files.specs.Rows.{domain_in}
use Rattle.wiring.specs.index.AddressIndex.{attached_expander, IndexedFirst}
use Rattle.files.proofs.RowsAsDomain.{domain-few}
use Rattle.wiring.proofs.index.IndexEntries.{far_in}
use Rattle.wiring.proofs.index.ExpanderNumbers.{number-most}
use Rattle.forms.specs.Form.{head_field, phy_field, form_phy, form_phys, form_expanders, form_of}

-- a phy's second word
module _ (d : Domain) (φ : Phy) where
  pub field-vacant : (result : ℕ) → φ ≡ Vacant result → ◌≡◌ {A = ℕ} 9223372036854775808 (form_phy d φ)
  field-vacant result e = sym (ap (form_phy d) e)

  module _ (x : PhyFields) (e : φ ≡ Present x) (w : ℕ) where
    pub field-low : x.device_type < 2 → w ≡ phy_field 0 x.device_type x.attribute 0 x.attached_phy.0 → w ≡ form_phy d φ
    field-low h q = q ∙ sym (ap (form_phy d) e ∙ ap (λ (b : Bool). phy_field 0 x.device_type x.attribute (cond b (number_of d x.address) 0) x.attached_phy.0) (lt-leb 2 x.device_type h))

    pub field-far : (n : ℕ) → 2 ≤ x.device_type → n ≡ number_of d (address_of φ) → w ≡ phy_field 0 x.device_type x.attribute n x.attached_phy.0 → w ≡ form_phy d φ
    field-far n h k q =
        let m : n ≡ number_of d x.address = k ∙ ap (λ (ψ : Phy). number_of d (address_of ψ)) e in
        q ∙ ap (λ (j : ℕ). phy_field 0 x.device_type x.attribute j x.attached_phy.0) m
        ∙ sym (ap (form_phy d) e ∙ ap (λ (b : Bool). phy_field 0 x.device_type x.attribute (cond b (number_of d x.address) 0) x.attached_phy.0) (le-leb 2 x.device_type h))

-- who is attached, as the entries tell
pub attached-expander : (ws first : List ℕ) (i p n : ℕ) (x : PhyFields) → IndexedFirst (domain_in ws) first → phy_at (domain_in ws) i p ≡ Present x → 2 ≤ x.device_type → n ≡ attached_expander (domain_in ws) first i p
    → (n ≡ number_of (domain_in ws) (address_of (phy_at (domain_in ws) i p))) × (n ≤ 64)
attached-expander ws first i p n x index e h q =
    let d : Domain = domain_in ws in
    let t : T (to_expander (phy_at d i p)) = subst (λ (φ : Phy). T (to_expander φ)) (sym e) (le→leb 2 x.device_type h) in
    let m : n ≡ number_of d (address_of (phy_at d i p)) = q ∙ far_in ws first i p index t in
    (m, omega (arith, number-most d (address_of (phy_at d i p)), domain-few ws))

-- the words of phys
pub length-form_phys : (d : Domain) (φs : List Phy) → length (form_phys d φs) ≡ 2 * length φs
length-form_phys d [] = omega arith
length-form_phys d (φ ∷ φs) = omega (arith, length-form_phys d φs)

module _ (d : Domain) (φs : List Phy) (p : ℕ) (words : List ℕ) (to : ℕ) where
  pub phys-go : (x y : ℕ) → p < length φs → x ≡ address_of (get_or φs p (Vacant 0)) → y ≡ form_phy d (get_or φs p (Vacant 0))
      → sets (set (set words to x) (to + 1) y) (to + 2) (form_phys d (drop (p + 1) φs)) ≡ sets words to (form_phys d (drop p φs))
  phys-go x y h qx qy =
      let e : to + 2 ≡ suc (suc to) = omega arith in
      rw (drop-cons φs p (Vacant 0) h, add-one p, add-one to, e, qx, qy) refl

  pub phys-end : length φs ≤ p → words ≡ sets words to (form_phys d (drop p φs))
  phys-end h = sym (ap (λ (l : List Phy). sets words to (form_phys d l)) (drop_of_length-le φs h))

-- the words of expanders
module _ (d es : Domain) (i : ℕ) where
  expanders-next : i < length es → form_expanders d (drop i es)
      ≡ (expander_at es i).address ∷ head_field (expander_at es i).route_indexes (length (expander_at es i).phys) ∷ (form_phys d (expander_at es i).phys ++ form_expanders d (drop (i + 1) es))
  unfolding form_expanders
  expanders-next h = rw (drop-cons es i no_expander h, add-one) refl

  pub size-next : i < length es → length (form_expanders d (drop i es)) ≡ 2 + 2 * length (expander_at es i).phys + length (form_expanders d (drop (i + 1) es))
  size-next h = omega (arith, ap length (expanders-next h), length-append (form_phys d (expander_at es i).phys) (form_expanders d (drop (i + 1) es)), length-form_phys d (expander_at es i).phys)

  pub size_none : length es ≤ i → length (form_expanders d (drop i es)) ≡ 0
  unfolding form_expanders
  size_none h = ap (λ (l : Domain). length (form_expanders d l)) (drop_of_length-le es h)

  pub expanders-go : (words after : List ℕ) (to next a w : ℕ) → i < length es → a ≡ (expander_at es i).address → w ≡ head_field (expander_at es i).route_indexes (length (expander_at es i).phys)
      → after ≡ sets (set (set words to a) (to + 1) w) (to + 2) (form_phys d (expander_at es i).phys) → next ≡ to + 2 + 2 * length (expander_at es i).phys
      → sets after next (form_expanders d (drop (i + 1) es)) ≡ sets words to (form_expanders d (drop i es))
  expanders-go words after to next a w h qa qw qs qn =
      let φs : List Phy = (expander_at es i).phys in
      let more : List ℕ = form_expanders d (drop (i + 1) es) in
      let e : to + 1 ≡ suc to = add-one to in
      let f : to + 2 ≡ suc (suc to) = omega arith in
      let q : after ≡ sets words to (a ∷ w ∷ form_phys d φs) = qs ∙ rw (e, f) refl in
      sets_then words after (sets after next more) to next (a ∷ w ∷ form_phys d φs) more q refl (omega (arith, length-form_phys d φs))
      ∙ ap₂ (λ (x y : ℕ). sets words to (x ∷ y ∷ (form_phys d φs ++ more))) qa qw ∙ ap (sets words to) (sym (expanders-next h))

  pub expanders-end : (words : List ℕ) (to : ℕ) → length es ≤ i → words ≡ sets words to (form_expanders d (drop i es))
  unfolding form_expanders
  expanders-end words to h = sym (ap (λ (l : Domain). sets words to (form_expanders d l)) (drop_of_length-le es h))

pub form-start : (d : Domain) → form_expanders d (drop 0 d) ≡ form_of d
unfolding form_of
form-start d = refl

pub form-put : (d : Domain) (before after : List ℕ) → length (form_of d) ≤ length before → after ≡ sets before 0 (form_of d) → after ≡ form_of d ++ drop (length (form_of d)) before
form-put d before after h e = e ∙ sets-front (form_of d) before h
