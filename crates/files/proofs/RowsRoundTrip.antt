-- Rows give their domain back.
use Prim.Native.Nat.{ℕ, ◌+◌, ◌-◌, ◌*◌, ◌/◌, ◌%◌, ◌≤◌, ◌<◌, min}
use mathlib.Core.Path.{◌≡◌, refl, sym, ◌∙◌, ap}
use mathlib.Core.Logic.{inl, inr}
use mathlib.Core.List.{List, [], ◌∷◌, ◌++◌, append-nil, append_assoc}
use native.Mathlib.Omega.{arith}
use native.Mathlib.Nat.{add-mul-mod_self_left, mod-eq_of_lt}
use lib.ListN.{length, replicate, length-append}
use lib.Seq.{drop_at}
use borrow.Author.Tests.{eq-eqb, ne_eqb}
use Rattle.files.specs.declared.Setting.{Setting}
use Rattle.files.specs.declared.Phy.{Phy}
use Rattle.files.specs.declared.Phy.TheVariants.{Vacant, Present}
use Rattle.files.specs.Lists.{In}
use Rattle.files.specs.Domain.{Domain, Expander, address_of}
use Rattle.files.specs.ReadDomain.{ReadPhy, ReadExpander, Read, FitsPhy, FitsExpander, FitsDomain}
use Rattle.files.specs.Rows.{phy_word, phy_words, head_word, row_of, rows_of, phy_in, phys_in, row_in, rows_in, domain_in, row_words}
use Rattle.files.proofs.RowFilling.{length-row_of}

-- the lowest digit of a number
pub low : (b k y : ℕ) → k < b → (k + b * y) % b ≡ k
low b k y h = add-mul-mod_self_left k b y ∙ mod-eq_of_lt h

pub phy-back : (φ : Phy) → ReadPhy φ → FitsPhy φ → phy_in (address_of φ) (phy_word φ) ≡ φ
phy-back (Vacant r) g h =
    let e : 2 * r / 2 % 256 ≡ r = omega arith in
    simp (eq-eqb (2 * r % 2) 0 (omega arith), e)
phy-back (Present f) g h =
    let w : ℕ = 1 + 2 * f.device_type + 8 * f.attribute + 32 * f.attached_phy.0 in
    let w1 : w / 2 ≡ f.device_type + 4 * (f.attribute + 4 * f.attached_phy.0) = omega arith in
    let w2 : w / 8 ≡ f.attribute + 4 * f.attached_phy.0 = omega arith in
    let w3 : w / 32 ≡ f.attached_phy.0 = omega arith in
    let a : w / 2 % 4 ≡ f.device_type = ap (λ (x : ℕ). x % 4) w1 ∙ low 4 f.device_type _ (omega (arith, g.device_type)) in
    let b : w / 8 % 4 ≡ f.attribute = ap (λ (x : ℕ). x % 4) w2 ∙ low 4 f.attribute _ (omega (arith, g.attribute)) in
    let p : w / 32 % 256 ≡ f.attached_phy.0 = ap (λ (x : ℕ). x % 256) w3 ∙ mod-eq_of_lt h.1 in
    simp (ne_eqb (w % 2) 0 (omega arith), a, b, p)

phys-back : (φs : List Phy) (rest : List ℕ) → ((φ : Phy) → In φ φs → ReadPhy φ) → ((φ : Phy) → In φ φs → FitsPhy φ)
    → phys_in (length φs) (phy_words φs ++ rest) ≡ φs
unfolding phys_in
phys-back [] rest g h = refl
phys-back (φ ∷ φs) rest g h =
    rw (phy-back φ (g φ (inl refl)) (h φ (inl refl)), phys-back φs rest (λ ψ k. g ψ (inr k)) (λ ψ k. h ψ (inr k)))

-- something holds of every expander of a domain
module _ (P : Expander → Type 0) where
  abbrev Each : Domain → Type 0
  Each d = (e : Expander) → In e d → P e

-- rows have place for 128 phys
module _ (most : Setting) (fit : most.phys ≤ 128) where
  row_back : (e : Expander) (rest : List ℕ) → ReadExpander most e → FitsExpander e → row_in (row_of e ++ rest) ≡ e
  unfolding row_in row_of
  row_back e rest g h =
      let w : ℕ = head_word e.route_indexes (length e.phys) e.configurable in
      let n : ℕ = length e.phys in
      let i = h.route_indexes in
      let m = g.few in
      let o = g.configurable in
      let w1 : w ≡ e.route_indexes + 65536 * (n + 256 * e.configurable) = omega arith in
      let w2 : w / 65536 ≡ n + 256 * e.configurable = omega arith in
      let w3 : w / 16777216 ≡ e.configurable = omega arith in
      let a : w % 65536 ≡ e.route_indexes = ap (λ (x : ℕ). x % 65536) w1 ∙ low 65536 e.route_indexes _ i in
      let b' : w / 65536 % 256 ≡ n = ap (λ (x : ℕ). x % 256) w2 ∙ low 256 n _ (omega arith) in
      let b : min 128 (w / 65536 % 256) ≡ n = omega arith in
      let c : w / 16777216 % 2 ≡ e.configurable = ap (λ (x : ℕ). x % 2) w3 ∙ mod-eq_of_lt (omega arith) in
      simp (a, b, c, append_assoc, phys-back e.phys (replicate (256 - length (phy_words e.phys)) 0 ++ rest) g.phys h.phys)

  rows_back : (d : Domain) (rest : List ℕ) → Each (ReadExpander most) d → Each FitsExpander d → rows_in (length d) (rows_of d ++ rest) ≡ d
  unfolding rows_in rows_of
  rows_back [] rest g h = refl
  rows_back (e ∷ d) rest g h =
      let x = g e (inl refl) in
      let r = rows_back d rest (λ f k. g f (inr k)) (λ f k. h f (inr k)) in
      rw (append_assoc (row_of e) (rows_of d) rest, row_back e (rows_of d ++ rest) x (h e (inl refl)), drop_at (row_of e) (rows_of d ++ rest) row_words (length-row_of e (omega (arith, x.few))), r)

  rows-length : (d : Domain) → Each (ReadExpander most) d → length (rows_of d) ≡ row_words * length d
  unfolding rows_of
  rows-length [] g = refl
  rows-length (e ∷ d) g =
      let k = rows-length d (λ f h. g f (inr h)) in
      let j = length-row_of e (omega (arith, (g e (inl refl)).few)) in
      rw (length-append (row_of e) (rows_of d)) (omega arith)

-- a domain that is read, and fits
module _ (most : Setting) (d : Domain) (g : Read most d) where
  pub length-rows_of : length (rows_of d) ≡ row_words * length d
  length-rows_of = rows-length most g.range.phys.1 d g.each

  pub domain-back : FitsDomain d → domain_in (rows_of d) ≡ d
  unfolding domain_in
  domain-back h =
      let l = length-rows_of in
      let k = g.few in
      let m = g.range.expanders.1 in
      let n : min 64 (length (rows_of d) / row_words) ≡ length d = omega arith in
      rw n (ap (rows_in (length d)) (sym (append-nil (rows_of d))) ∙ rows_back most g.range.phys.1 d [] g.each h.each)
