-- Words compared one after the other with those of the domain in rows.
use Prim.Native.Nat.{ℕ, zero, suc, ◌+◌, ◌*◌, ◌/◌, ◌%◌, ◌≤◌, ◌<◌, min}
use mathlib.Core.Path.{◌≡◌, refl, sym, ap, ◌∙◌}
use mathlib.Core.Logic.{◌≢◌}
use mathlib.Core.Bool.{Bool, true, false, cond, ◌&&◌}
use mathlib.Core.List.{List}
use native.Mathlib.Omega.{arith}
use native.Mathlib.Numerals.{add-one}
use lib.ListN.{length, get_or, drop, drop_of_length-le}
use lib.Seq.{drop-cons}
use lib.Dec.{eqb}
use borrow.Author.Tests.{eq-eqb, ne_eqb, le-leb, lt-leb}
use Rattle.files.specs.declared.Phy.{Phy}
use Rattle.files.specs.declared.Phy.TheVariants.{Vacant, Present}
use Rattle.files.specs.declared.PhyFields.{PhyFields}
use Rattle.files.specs.Domain.{Domain, no_expander, address_of, expander_at}
use Rattle.files.specs.Rows.{phy_in, phys_in, row_in, rows_in, domain_in, row_words}
use Rattle.files.specs.declared.Setting.{Setting}
use Rattle.forms.specs.Form.{head_field, phy_field, form_in}
use Rattle.forms.specs.FormCalls.{unread}
use Rattle.forms.specs.FormRows.{SmallPhy, named_by, right_named, right_field, right_phys, right_expanders, opens}

-- every phy in rows is small
phy_in-small : (a w : ℕ) → SmallPhy (phy_in a w)
phy_in-small a w = go (eqb (w % 2) 0)
  where
    go : (b : Bool) → SmallPhy (cond b (Vacant (w / 2 % 256)) (Present (record { device_type = w / 2 % 4; attribute = w / 8 % 4; address = a; attached_phy = record { 0 = w / 32 % 256 } })))
    go true = omega arith
    go false = (omega arith, (omega arith, omega arith))

phys_in-small : (n : ℕ) (ws : List ℕ) (p : ℕ) → SmallPhy (get_or (phys_in n ws) p (Vacant 0))
unfolding phys_in
phys_in-small zero ws p = omega arith
phys_in-small (suc n) ws zero = phy_in-small (get_or ws 0 0) (get_or ws 1 0)
phys_in-small (suc n) ws (suc p) = phys_in-small n (drop 2 ws) p

row_in-small : (ws : List ℕ) (p : ℕ) → SmallPhy (get_or (row_in ws).phys p (Vacant 0))
unfolding row_in
row_in-small ws p = phys_in-small (min 128 (get_or ws 1 0 / 65536 % 256)) (drop 2 ws) p

rows_in-small : (n : ℕ) (ws : List ℕ) (i p : ℕ) → SmallPhy (get_or (expander_at (rows_in n ws) i).phys p (Vacant 0))
unfolding rows_in
rows_in-small zero ws i p = omega arith
rows_in-small (suc n) ws zero p = row_in-small ws p
rows_in-small (suc n) ws (suc i) p = rows_in-small n (drop row_words ws) i p

pub rows-small : (ws : List ℕ) (i p : ℕ) → SmallPhy (get_or (expander_at (domain_in ws) i).phys p (Vacant 0))
unfolding domain_in
rows-small ws i p = rows_in-small (min 64 (length ws / row_words)) ws i p

-- one second word
module _ (d : Domain) (f : PhyFields) (v : ℕ) where
  pub right_low : (w : ℕ) → f.device_type < 2 → w ≡ phy_field 0 f.device_type f.attribute 0 f.attached_phy.0 → eqb v w ≡ right_field d (Present f) v
  right_low w h e = ap (eqb v) e ∙ sym (ap (λ (b : Bool). right_named b d f v) (lt-leb 2 f.device_type h))

  pub right_far : (n w : ℕ) → 2 ≤ f.device_type → n ≡ named_by v → (expander_at d n).address ≡ f.address → w ≡ phy_field 0 f.device_type f.attribute n f.attached_phy.0 → eqb v w ≡ right_field d (Present f) v
  right_far n w h q a e =
      let x : eqb (expander_at d (named_by v)).address f.address ≡ true = eq-eqb _ _ (ap (λ (k : ℕ). (expander_at d k).address) (sym q) ∙ a) in
      ap (eqb v) (e ∙ ap (λ (k : ℕ). phy_field 0 f.device_type f.attribute k f.attached_phy.0) q) ∙ sym (ap (λ (b : Bool). right_named b d f v) (le-leb 2 f.device_type h) ∙ rw x refl)

  pub wrong_far : (n : ℕ) → 2 ≤ f.device_type → n ≡ named_by v → (expander_at d n).address ≢ f.address → false ≡ right_field d (Present f) v
  wrong_far n h q a =
      let x : eqb (expander_at d (named_by v)).address f.address ≡ false = ne_eqb _ _ (λ z. a (ap (λ (k : ℕ). (expander_at d k).address) q ∙ z)) in
      sym (ap (λ (b : Bool). right_named b d f v) (le-leb 2 f.device_type h) ∙ rw x refl)

-- the words of phys
module _ (d : Domain) (φs : List Phy) (p at : ℕ) (ws : List ℕ) {v : Bool} (inv : right_phys d (drop p φs) at ws ≡ v) where
  phys-next : p < length φs → right_phys d (drop p φs) at ws
      ≡ (eqb (get_or ws at 0) (address_of (get_or φs p (Vacant 0))) && (right_field d (get_or φs p (Vacant 0)) (get_or ws (at + 1) 0) && right_phys d (drop (p + 1) φs) (at + 2) ws))
  unfolding right_phys
  phys-next h = rw (drop-cons φs p (Vacant 0) h, add-one p) refl

  pub phys-address : (a b : ℕ) → p < length φs → a ≡ get_or ws at 0 → b ≡ address_of (get_or φs p (Vacant 0)) → a ≢ b → false ≡ v
  phys-address a b h qa qb n = sym (phys-next h ∙ rw (ne_eqb (get_or ws at 0) (address_of (get_or φs p (Vacant 0))) (λ e. n (qa ∙ e ∙ sym qb))) refl) ∙ inv

  pub phys-field : (a b : ℕ) → p < length φs → a ≡ get_or ws at 0 → b ≡ address_of (get_or φs p (Vacant 0)) → a ≡ b → right_field d (get_or φs p (Vacant 0)) (get_or ws (at + 1) 0) ≡ false → false ≡ v
  phys-field a b h qa qb n f = sym (phys-next h ∙ rw (eq-eqb (get_or ws at 0) (address_of (get_or φs p (Vacant 0))) (sym qa ∙ n ∙ qb), f) refl) ∙ inv

  pub phys-go : (a b : ℕ) → p < length φs → a ≡ get_or ws at 0 → b ≡ address_of (get_or φs p (Vacant 0)) → a ≡ b → right_field d (get_or φs p (Vacant 0)) (get_or ws (at + 1) 0) ≡ true
      → right_phys d (drop (p + 1) φs) (at + 2) ws ≡ v
  phys-go a b h qa qb n f = sym (phys-next h ∙ rw (eq-eqb (get_or ws at 0) (address_of (get_or φs p (Vacant 0))) (sym qa ∙ n ∙ qb), f) refl) ∙ inv

  pub phys-end : length φs ≤ p → true ≡ v
  unfolding right_phys
  phys-end h = sym (ap (λ (l : List Phy). right_phys d l at ws) (drop_of_length-le φs h)) ∙ inv

-- the words of expanders
module _ (d es : Domain) (i at : ℕ) (ws : List ℕ) {v : Bool} (inv : right_expanders d (drop i es) at ws ≡ v) where
  expanders-next : i < length es → right_expanders d (drop i es) at ws
      ≡ (eqb (get_or ws at 0) (expander_at es i).address && (eqb (get_or ws (at + 1) 0) (head_field (expander_at es i).route_indexes (length (expander_at es i).phys))
      && (right_phys d (expander_at es i).phys (at + 2) ws && right_expanders d (drop (i + 1) es) (at + 2 + 2 * length (expander_at es i).phys) ws)))
  unfolding right_expanders
  expanders-next h = rw (drop-cons es i no_expander h, add-one i) refl

  module _ (h : i < length es) (a : ℕ) (qa : a ≡ get_or ws at 0) where
    pub heads-address : (b : ℕ) → b ≡ (expander_at es i).address → a ≢ b → false ≡ v
    heads-address b qb n = sym (expanders-next h ∙ rw (ne_eqb (get_or ws at 0) (expander_at es i).address (λ e. n (qa ∙ e ∙ sym qb))) refl) ∙ inv

    module _ (b : ℕ) (qb : b ≡ (expander_at es i).address) (e : a ≡ b) (w : ℕ) (qw : w ≡ get_or ws (at + 1) 0) (x : ℕ) (qx : x ≡ head_field (expander_at es i).route_indexes (length (expander_at es i).phys)) where
      first-same : eqb (get_or ws at 0) (expander_at es i).address ≡ true
      first-same = eq-eqb (get_or ws at 0) (expander_at es i).address (sym qa ∙ e ∙ qb)

      pub heads-field : w ≢ x → false ≡ v
      heads-field n =
          let f : eqb (get_or ws (at + 1) 0) (head_field (expander_at es i).route_indexes (length (expander_at es i).phys)) ≡ false = ne_eqb _ _ (λ z. n (qw ∙ z ∙ sym qx)) in
          sym (expanders-next h ∙ rw (first-same, f) refl) ∙ inv

      module _ (n : w ≡ x) where
        second-same : eqb (get_or ws (at + 1) 0) (head_field (expander_at es i).route_indexes (length (expander_at es i).phys)) ≡ true
        second-same = eq-eqb _ _ (sym qw ∙ n ∙ qx)

        pub heads-phys : right_phys d (expander_at es i).phys (at + 2) ws ≡ false → false ≡ v
        heads-phys f = sym (expanders-next h ∙ rw (first-same, second-same, f) refl) ∙ inv

        pub heads-go : (m next : ℕ) → right_phys d (expander_at es i).phys (at + 2) ws ≡ true → m ≡ length (expander_at es i).phys → next ≡ at + (2 + 2 * m) → right_expanders d (drop (i + 1) es) next ws ≡ v
        heads-go m next f qm qn =
            let z : next ≡ at + 2 + 2 * length (expander_at es i).phys = omega arith in
            ap (λ (k : ℕ). right_expanders d (drop (i + 1) es) k ws) z ∙ sym (expanders-next h ∙ rw (first-same, second-same, f) refl) ∙ inv

  pub heads-end : length es ≤ i → eqb at (length ws) ≡ v
  unfolding right_expanders
  heads-end h = sym (ap (λ (l : Domain). right_expanders d l at ws) (drop_of_length-le es h)) ∙ inv

-- a second word that was compared, with a phy and a word as they were got
pub rights : (d : Domain) (f φ : Phy) (w x : ℕ) {r : Bool} (b : Bool) → f ≡ φ → w ≡ x → r ≡ right_field d f w → r ≡ b → right_field d φ x ≡ b
rights d f φ w x b qf qw e z = sym (ap (λ (ψ : Phy). right_field d ψ x) qf) ∙ sym (ap (right_field d f) qw) ∙ sym e ∙ z

-- an expander's second word, of numbers as they were got
pub head_of : (d : Domain) (i w r n : ℕ) → w ≡ head_field r n → r ≡ (expander_at d i).route_indexes → n ≡ length (expander_at d i).phys
    → w ≡ head_field (expander_at d i).route_indexes (length (expander_at d i).phys)
head_of d i w r n e qr qn = e ∙ rw (qr, qn) refl

-- what the tests say of the words
module _ (most : Setting) (ws : List ℕ) (d : Domain) (e : d ≡ form_in ws) where
  pub opens_no : {r : Bool} → r ≡ unread most d → r ≡ true → false ≡ opens most ws
  unfolding opens
  opens_no q t = let u : unread most (form_in ws) ≡ true = sym (ap (unread most) e) ∙ sym q ∙ t in sym (rw u refl)

  pub opens_by : {r s : Bool} → r ≡ unread most d → r ≡ false → s ≡ right_expanders d d 0 ws → s ≡ opens most ws
  unfolding opens
  opens_by q t w =
      let u : unread most (form_in ws) ≡ false = sym (ap (unread most) e) ∙ sym q ∙ t in
      w ∙ ap (λ (x : Domain). right_expanders x x 0 ws) e ∙ sym (rw u refl)
