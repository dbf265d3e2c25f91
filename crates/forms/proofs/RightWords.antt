-- Words that are right for the domain that they read as are its form; and the other way, where the domain is wired.
use Prim.Native.Nat.{ℕ, suc, ◌+◌, ◌*◌, ◌/◌, ◌%◌, ◌≤◌, ◌<◌}
use mathlib.Core.Path.{◌≡◌, refl, sym, ap, ◌∙◌}
use mathlib.Core.Logic.{◌≢◌, inl, inr, by_cases}
use mathlib.Core.Bool.{Bool, true, false, cond, ◌&&◌}
use mathlib.Core.List.{List, [], ◌∷◌, ◌++◌}
use native.Mathlib.Omega.{arith}
use native.Mathlib.Decide.{dec_lt}
use native.Mathlib.Nat.{add-mul-mod_self_left, mod-eq_of_lt}
use lib.ListN.{length, get_or, drop, length-append, length-drop, drop_of_length-le, get_or-eq_default}
use lib.Seq.{drop-cons, drop_at, drop-drop}
use lib.Dec.{eqb, leb}
use borrow.Author.Tests.{eq-eqb, eqb-true, leb-true}
use Rattle.files.specs.declared.Phy.{Phy}
use Rattle.files.specs.declared.Phy.TheVariants.{Vacant, Present}
use Rattle.files.specs.Lists.{In}
use Rattle.files.specs.Domain.{Expander, Domain, no_expander, address_of, expander_at, number_of}
use Rattle.files.proofs.CallResults.{both}
use Rattle.files.proofs.Domains.{number_of-is}
use Rattle.forms.specs.Form.{head_field, phy_field, form_phy, form_phys, form_expanders, form_of}
use Rattle.forms.specs.FormCalls.{same_words}
use Rattle.forms.specs.FormRows.{named_by, right_named, right_field, right_phys, right_expanders}
use Rattle.forms.proofs.FormDomains.{Numbers}
use Rattle.forms.proofs.FormRows.{first-at, second_at}
use Rattle.forms.proofs.FormWords.{length-form_phys}

-- words compared
pub same-words : (l m : List ℕ) → same_words l m ≡ true → l ≡ m
same-words [] [] t = refl
same-words [] (y ∷ m) t = let z : ◌≡◌ {A = ℕ} 0 1 = cc in absurd (omega arith)
same-words (x ∷ l) [] t = let z : ◌≡◌ {A = ℕ} 0 1 = cc in absurd (omega arith)
same-words (x ∷ l) (y ∷ m) t = let b = both (eqb x y) (same_words l m) t in rw (eqb-true x y b.0, same-words l m b.1) refl

pub words_same : (l : List ℕ) → same_words l l ≡ true
words_same [] = refl
words_same (x ∷ l) = rw (eq-eqb x x refl, words_same l) refl

and_true : (a b : Bool) → a ≡ true → b ≡ true → (a && b) ≡ true
and_true a b e f = rw (e, f) refl

-- an attached phy has an address
abbrev pub Borne : Phy → Type 0
Borne (Vacant result) = Unit {0}
Borne (Present f) = f.device_type ≢ 0 → f.address ≢ 0

-- a named expander with a non-zero address is the one that has it
module _ (d : Domain) (numbers : Numbers d) where
  named : (x s : ℕ) → (expander_at d x).address ≡ s → s ≢ 0 → number_of d s ≡ x
  named x s e n = by_cases (dec_lt x (length d)) (λ h. ap (number_of d) (sym e) ∙ numbers x h)
      (λ h. absurd (n (sym e ∙ ap (λ (k : Expander). k.address) (get_or-eq_default d no_expander {n = x} (omega arith)))))

  right_field_lem : (φ : Phy) → Borne φ → (v : ℕ) → right_field d φ v ≡ true → v ≡ form_phy d φ
  right_field_lem (Vacant r) b v t = eqb-true v (phy_field 1 0 0 0 0) t
  right_field_lem (Present f) b v t = go (leb 2 f.device_type) refl t
    where
      go : (c : Bool) → leb 2 f.device_type ≡ c → right_named c d f v ≡ true → v ≡ phy_field 0 f.device_type f.attribute (cond (leb 2 f.device_type) (number_of d f.address) 0) f.attached_phy.0
      go true q h =
          let k = both (eqb (expander_at d (named_by v)).address f.address) _ h in
          let n = named (named_by v) f.address (eqb-true _ _ k.0) (b (λ z. omega (arith, leb-true 2 f.device_type q))) in
          eqb-true v _ k.1 ∙ ap (λ (x : ℕ). phy_field 0 f.device_type f.attribute x f.attached_phy.0) (sym n)
          ∙ ap (λ (c : Bool). phy_field 0 f.device_type f.attribute (cond c (number_of d f.address) 0) f.attached_phy.0) (sym q)
      go false q h = eqb-true v _ h ∙ ap (λ (c : Bool). phy_field 0 f.device_type f.attribute (cond c (number_of d f.address) 0) f.attached_phy.0) (sym q)

  right_phys_lem : (φs : List Phy) → ((φ : Phy) → In φ φs → Borne φ) → (at : ℕ) (ws : List ℕ) → at + 2 * length φs ≤ length ws → right_phys d φs at ws ≡ true
      → drop at ws ≡ form_phys d φs ++ drop (at + 2 * length φs) ws
  unfolding right_phys
  right_phys_lem [] b at ws h t = let e : at + 2 * 0 ≡ at = omega arith in rw e refl
  right_phys_lem (φ ∷ φs) b at ws h t =
      let k = both (eqb (get_or ws at 0) (address_of φ)) _ t in
      let j = both (right_field d φ (get_or ws (at + 1) 0)) _ k.1 in
      let r = right_phys_lem φs (λ ψ i. b ψ (inr i)) (at + 2) ws (omega arith) j.1 in
      let e : at + 1 ≡ suc at = omega arith in
      let e2 : at + 2 ≡ suc (suc at) = omega arith in
      let f : at + 2 + 2 * length φs ≡ at + 2 * suc (length φs) = omega arith in
      let x : get_or ws at 0 ≡ address_of φ = eqb-true _ _ k.0 in
      let y : get_or ws (suc at) 0 ≡ form_phy d φ = ap (λ (m : ℕ). get_or ws m 0) (sym e) ∙ right_field_lem φ (b φ (inl refl)) (get_or ws (at + 1) 0) j.0 in
      let z : drop (suc (suc at)) ws ≡ form_phys d φs ++ drop (at + 2 * suc (length φs)) ws = ap (λ (m : ℕ). drop m ws) (sym e2) ∙ r ∙ ap (λ (m : ℕ). form_phys d φs ++ drop m ws) f in
      drop-cons ws at 0 (omega arith) ∙ ap (λ (l : List ℕ). get_or ws at 0 ∷ l) (drop-cons ws (suc at) 0 (omega arith))
      ∙ ap (λ (m : ℕ). m ∷ get_or ws (suc at) 0 ∷ drop (suc (suc at)) ws) x ∙ ap (λ (m : ℕ). address_of φ ∷ m ∷ drop (suc (suc at)) ws) y ∙ ap (λ (l : List ℕ). address_of φ ∷ form_phy d φ ∷ l) z

  right_size : (es : Domain) (at : ℕ) (ws : List ℕ) → right_expanders d es at ws ≡ true → at + length (form_expanders d es) ≡ length ws
  unfolding right_expanders form_expanders
  right_size [] at ws t = omega (arith, eqb-true at (length ws) t)
  right_size (e ∷ es) at ws t =
      let k = both (eqb (get_or ws at 0) e.address) _ t in
      let j = both (eqb (get_or ws (at + 1) 0) (head_field e.route_indexes (length e.phys))) _ k.1 in
      let i = both (right_phys d e.phys (at + 2) ws) _ j.1 in
      omega (arith, right_size es (at + 2 + 2 * length e.phys) ws i.1, length-append (form_phys d e.phys) (form_expanders d es), length-form_phys d e.phys)

  right_expanders_lem : (es : Domain) → ((e : Expander) → In e es → (φ : Phy) → In φ e.phys → Borne φ) → (at : ℕ) (ws : List ℕ) → right_expanders d es at ws ≡ true → drop at ws ≡ form_expanders d es
  unfolding right_expanders form_expanders
  right_expanders_lem [] b at ws t = let h : length ws ≤ at = omega (arith, eqb-true at (length ws) t) in drop_of_length-le ws h
  right_expanders_lem (e ∷ es) b at ws t =
      let φs : List Phy = e.phys in
      let k = both (eqb (get_or ws at 0) e.address) _ t in
      let j = both (eqb (get_or ws (at + 1) 0) (head_field e.route_indexes (length φs))) _ k.1 in
      let i = both (right_phys d φs (at + 2) ws) _ j.1 in
      let r = right_expanders_lem es (λ x m. b x (inr m)) (at + 2 + 2 * length φs) ws i.1 in
      let s = right_size es (at + 2 + 2 * length φs) ws i.1 in
      let p = right_phys_lem φs (b e (inl refl)) (at + 2) ws (omega arith) i.0 in
      let f : at + 1 ≡ suc at = omega arith in
      let g : at + 2 ≡ suc (suc at) = omega arith in
      let x : get_or ws at 0 ≡ e.address = eqb-true _ _ k.0 in
      let y : get_or ws (suc at) 0 ≡ head_field e.route_indexes (length φs) = ap (λ (m : ℕ). get_or ws m 0) (sym f) ∙ eqb-true _ _ j.0 in
      let z : drop (suc (suc at)) ws ≡ form_phys d φs ++ form_expanders d es = ap (λ (m : ℕ). drop m ws) (sym g) ∙ p ∙ ap (λ (l : List ℕ). form_phys d φs ++ l) r in
      drop-cons ws at 0 (omega arith) ∙ ap (λ (l : List ℕ). get_or ws at 0 ∷ l) (drop-cons ws (suc at) 0 (omega arith))
      ∙ ap (λ (m : ℕ). m ∷ get_or ws (suc at) 0 ∷ drop (suc (suc at)) ws) x ∙ ap (λ (m : ℕ). e.address ∷ m ∷ drop (suc (suc at)) ws) y
      ∙ ap (λ (l : List ℕ). e.address ∷ head_field e.route_indexes (length φs) ∷ l) z

  -- words that are right are the form
  pub right_form : ((e : Expander) → In e d → (φ : Phy) → In φ e.phys → Borne φ) → (ws : List ℕ) → right_expanders d d 0 ws ≡ true → ws ≡ form_of d
  unfolding form_of
  right_form b ws t = right_expanders_lem d b 0 ws t

-- the other way: every attached expander has a number, and a word has room for it
abbrev pub Answered : Domain → Phy → Type 0
Answered d (Vacant result) = Unit {0}
Answered d (Present f) = (f.attached_phy.0 < 256) × (2 ≤ f.device_type → (number_of d f.address < length d) × (number_of d f.address < 64))

named-by : (device_type attribute n attached_phy : ℕ) → n < 64 → attached_phy < 256 → named_by (phy_field 0 device_type attribute n attached_phy) ≡ n
named-by device_type attribute n attached_phy h k =
    let m : ℕ = attribute + 4 * (device_type + 4 * 0) in
    let e : phy_field 0 device_type attribute n attached_phy / 9007199254740992 ≡ n + 64 * m = omega arith in
    ap (λ (x : ℕ). x % 64) e ∙ add-mul-mod_self_left n 64 m ∙ mod-eq_of_lt h

module _ (d : Domain) where
  field_right : (φ : Phy) → Answered d φ → right_field d φ (form_phy d φ) ≡ true
  field_right (Vacant r) a = eq-eqb (phy_field 1 0 0 0 0) (phy_field 1 0 0 0 0) refl
  field_right (Present f) a = go (leb 2 f.device_type) refl
    where
      go : (c : Bool) → leb 2 f.device_type ≡ c → right_named c d f (phy_field 0 f.device_type f.attribute (cond c (number_of d f.address) 0) f.attached_phy.0) ≡ true
      go true q =
          let k = a.1 (leb-true 2 f.device_type q) in
          let n = named-by f.device_type f.attribute (number_of d f.address) f.attached_phy.0 k.1 a.0 in
          let v : ℕ = phy_field 0 f.device_type f.attribute (number_of d f.address) f.attached_phy.0 in
          let x : eqb (expander_at d (named_by v)).address f.address ≡ true = eq-eqb _ _ (ap (λ (m : ℕ). (expander_at d m).address) n ∙ number_of-is d f.address k.0) in
          let y : eqb v (phy_field 0 f.device_type f.attribute (named_by v) f.attached_phy.0) ≡ true = eq-eqb _ _ (ap (λ (m : ℕ). phy_field 0 f.device_type f.attribute m f.attached_phy.0) (sym n)) in
          and_true _ _ x y
      go false q = eq-eqb (phy_field 0 f.device_type f.attribute 0 f.attached_phy.0) (phy_field 0 f.device_type f.attribute 0 f.attached_phy.0) refl

  phys_right : (φs : List Phy) → ((φ : Phy) → In φ φs → Answered d φ) → (at : ℕ) (ws rest : List ℕ) → drop at ws ≡ form_phys d φs ++ rest → right_phys d φs at ws ≡ true
  unfolding right_phys
  phys_right [] a at ws rest e = refl
  phys_right (φ ∷ φs) a at ws rest e =
      let x : get_or ws at 0 ≡ address_of φ = sym (first-at ws at) ∙ ap (λ (l : List ℕ). get_or l 0 0) e in
      let y : get_or ws (at + 1) 0 ≡ form_phy d φ = sym (second_at ws at) ∙ ap (λ (l : List ℕ). get_or l 1 0) e in
      let z : drop (at + 2) ws ≡ form_phys d φs ++ rest = sym (drop-drop 2 at ws) ∙ ap (drop 2) e in
      and_true _ _ (eq-eqb _ _ x) (and_true _ _ (ap (right_field d φ) y ∙ field_right φ (a φ (inl refl))) (phys_right φs (λ ψ k. a ψ (inr k)) (at + 2) ws rest z))

  expanders_right : (es : Domain) → ((e : Expander) → In e es → (φ : Phy) → In φ e.phys → Answered d φ) → (at : ℕ) (ws : List ℕ) → at ≤ length ws → drop at ws ≡ form_expanders d es → right_expanders d es at ws ≡ true
  unfolding right_expanders form_expanders
  expanders_right [] a at ws h e = eq-eqb at (length ws) (omega (arith, length-drop at ws, ap length e))
  expanders_right (x ∷ es) a at ws h e =
      let φs : List Phy = x.phys in
      let more : List ℕ = form_expanders d es in
      let l = length-append (form_phys d φs) more in
      let k = length-form_phys d φs in
      let p : get_or ws at 0 ≡ x.address = sym (first-at ws at) ∙ ap (λ (l : List ℕ). get_or l 0 0) e in
      let q : get_or ws (at + 1) 0 ≡ head_field x.route_indexes (length φs) = sym (second_at ws at) ∙ ap (λ (l : List ℕ). get_or l 1 0) e in
      let r : drop (at + 2) ws ≡ form_phys d φs ++ more = sym (drop-drop 2 at ws) ∙ ap (drop 2) e in
      let s : drop (at + 2 + 2 * length φs) ws ≡ more = sym (drop-drop (2 * length φs) (at + 2) ws) ∙ ap (drop (2 * length φs)) r ∙ drop_at (form_phys d φs) more (2 * length φs) k in
      and_true _ _ (eq-eqb _ _ p) (and_true _ _ (eq-eqb _ _ q) (and_true _ _ (phys_right φs (a x (inl refl)) (at + 2) ws more r)
      (expanders_right es (λ y m. a y (inr m)) (at + 2 + 2 * length φs) ws (omega (arith, length-drop at ws, ap length e)) s)))

  pub form_right : ((e : Expander) → In e d → (φ : Phy) → In φ e.phys → Answered d φ) → right_expanders d d 0 (form_of d) ≡ true
  unfolding form_of
  form_right a = expanders_right d a 0 (form_expanders d d) (omega arith) refl
