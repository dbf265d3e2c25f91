-- Rows with the two words of one phy replaced hold the domain with that phy replaced.
use Prim.Native.Nat.{ℕ, ◌+◌, ◌*◌, ◌/◌, ◌%◌, ◌≤◌, ◌<◌, min}
use mathlib.Core.Path.{◌≡◌, refl, sym, ◌∙◌, ap, ap₂, subst}
use mathlib.Core.Logic.{◌≢◌, by_cases}
use mathlib.Core.List.{List}
use native.Mathlib.Omega.{arith}
use native.Mathlib.Decide.{ℕ_discrete}
use lib.ListN.{length, get_or, drop, set, length-set}
use lib.Seq.{ext_get_or, get_or-drop, get_or-set_same, get_or-set_other, set_out, set-get_or}
use borrow.Author.Tests.{lt-ltb, le-ltb}
use Rattle.files.specs.declared.Phy.{Phy}
use Rattle.files.specs.declared.Phy.TheVariants.{Vacant}
use Rattle.files.specs.Domain.{Expander, Domain, no_expander, expander_at, address_of}
use Rattle.files.specs.Rows.{phy_word, phy_in, phys_in, row_in, domain_in, row_words}
use Rattle.files.specs.PhyReplaced.{with_phy, set_phy, phy_from_words, with_words, PhySet}
use Rattle.files.proofs.RowsAsDomain.{length-phys_in, phy_in_lem, row_at, count_of, head_in}
use Rattle.files.proofs.Domains.{expander-range}
use Rattle.files.specs.ReadDomain.{ReadPhy, FitsPhy}
use Rattle.files.proofs.RowsRoundTrip.{phy-back}

-- what stands in a row: address, second word, phys
abbrev row_from : ℕ → ℕ → List Phy → Expander
row_from address head φs = record { address = address; route_indexes = head % 65536; configurable = head / 16777216 % 2; phys = φs }

row_is : (ws : List ℕ) → row_in ws ≡ row_from (get_or ws 0 0) (get_or ws 1 0) (phys_in (min 128 (get_or ws 1 0 / 65536 % 256)) (drop 2 ws))
unfolding row_in
row_is ws = refl

-- words that agree in the first two places, with phys that follow from them
row_by : (u v : List ℕ) (φs : ℕ → List Phy) → get_or u 0 0 ≡ get_or v 0 0 → get_or u 1 0 ≡ get_or v 1 0
    → ((n : ℕ) → n ≤ 128 → phys_in n (drop 2 u) ≡ φs n) → row_in u ≡ row_from (get_or v 0 0) (get_or v 1 0) (φs (min 128 (get_or v 1 0 / 65536 % 256)))
row_by u v φs a b h =
    row_is u ∙ ap (row_from (get_or u 0 0) (get_or u 1 0)) (h (min 128 (get_or u 1 0 / 65536 % 256)) (omega arith))
    ∙ ap₂ (λ x y. row_from x y (φs (min 128 (y / 65536 % 256)))) a b

phys-same : (n : ℕ) (u v : List ℕ) → ((k : ℕ) → k < 2 * n → get_or u k 0 ≡ get_or v k 0) → phys_in n u ≡ phys_in n v
phys-same n u v h =
    ext_get_or (Vacant 0) (phys_in n u) (phys_in n v) (length-phys_in n u ∙ sym (length-phys_in n v)) (λ q l.
    let m : q < n = rw (length-phys_in n u) at l in
    phy_in_lem n u q m ∙ ap₂ phy_in (h (2 * q) (omega arith)) (h (2 * q + 1) (omega arith)) ∙ sym (phy_in_lem n v q m))

row_same : (u v : List ℕ) → ((k : ℕ) → k < row_words → get_or u k 0 ≡ get_or v k 0) → row_in u ≡ row_in v
row_same u v h =
    row_by u v (λ n. phys_in n (drop 2 v)) (h 0 (omega arith)) (h 1 (omega arith)) (λ n l.
    phys-same n (drop 2 u) (drop 2 v) (λ k m. get_or-drop 2 u k 0 ∙ h (2 + k) (omega arith) ∙ sym (get_or-drop 2 v k 0)))
    ∙ sym (row_is v)

-- u is v with the two words of phy p replaced
module _ (u v : List ℕ) (p a w : ℕ) (first : get_or u (2 + 2 * p) 0 ≡ a) (second : get_or u (2 + (2 * p + 1)) 0 ≡ w)
    (others : (k : ℕ) → k ≢ 2 + 2 * p → k ≢ 2 + (2 * p + 1) → get_or u k 0 ≡ get_or v k 0) where
  phys-set : (n : ℕ) → phys_in n (drop 2 u) ≡ set (phys_in n (drop 2 v)) p (phy_in a w)
  phys-set n =
      let y : List Phy = phys_in n (drop 2 v) in
      let lu = length-phys_in n (drop 2 u) in
      let lv = length-phys_in n (drop 2 v) in
      let ls = length-set y p (phy_in a w) in
      ext_get_or (Vacant 0) (phys_in n (drop 2 u)) (set y p (phy_in a w)) (lu ∙ sym (ls ∙ lv)) (λ q l.
      let m : q < n = rw lu at l in
      phy_in_lem n (drop 2 u) q m ∙ ap₂ phy_in (get_or-drop 2 u (2 * q) 0) (get_or-drop 2 u (2 * q + 1) 0)
      ∙ by_cases (ℕ_discrete q p)
      (λ e. subst (λ (z : ℕ). phy_in (get_or u (2 + 2 * z) 0) (get_or u (2 + (2 * z + 1)) 0) ≡ get_or (set y p (phy_in a w)) z (Vacant 0)) (sym e) (ap₂ phy_in first second ∙ sym (get_or-set_same y p (phy_in a w) (Vacant 0) (omega arith))))
      (λ e. ap₂ phy_in (others (2 + 2 * q) (λ z. e (omega arith)) (λ z. omega arith) ∙ sym (get_or-drop 2 v (2 * q) 0)) (others (2 + (2 * q + 1)) (λ z. omega arith) (λ z. e (omega arith)) ∙ sym (get_or-drop 2 v (2 * q + 1) 0))
      ∙ sym (phy_in_lem n (drop 2 v) q m) ∙ sym (get_or-set_other y p q (phy_in a w) (Vacant 0) e)))

  row-set : row_in u ≡ with_phy (row_in v) p (phy_in a w)
  unfolding with_phy row_in
  row-set = row_by u v (λ n. set (phys_in n (drop 2 v)) p (phy_in a w)) (others 0 (λ z. omega arith) (λ z. omega arith)) (others 1 (λ z. omega arith) (λ z. omega arith)) (λ n l. phys-set n)

-- ws' is ws with the two words of phy p of expander i replaced
module _ (ws ws' : List ℕ) (i p a w : ℕ) (size : length ws' ≡ length ws) (first : get_or ws' (row_words * i + 2 + 2 * p) 0 ≡ a) (second : get_or ws' (row_words * i + 2 + 2 * p + 1) 0 ≡ w)
    (others : (k : ℕ) → k ≢ row_words * i + 2 + 2 * p → k ≢ row_words * i + 2 + 2 * p + 1 → get_or ws' k 0 ≡ get_or ws k 0) (there : p < length (expander_at (domain_in ws) i).phys) where
  rows-set : domain_in ws' ≡ set_phy (domain_in ws) i p (phy_in a w)
  unfolding set_phy
  rows-set =
      let d : Domain = domain_in ws in
      let x : Expander = with_phy (expander_at d i) p (phy_in a w) in
      let l = expander-range d i p there in
      let m = (head_in ws i l).phys in
      let c' = count_of ws' in
      let c = count_of ws in
      let n : length (domain_in ws') ≡ length d = c' ∙ ap (λ (k : ℕ). min 64 (k / row_words)) size ∙ sym c in
      ext_get_or no_expander (domain_in ws') (set d i x) (n ∙ sym (length-set d i x)) (λ j h.
      by_cases (ℕ_discrete j i)
      (λ e. subst (λ (z : ℕ). expander_at (domain_in ws') z ≡ get_or (set d i x) z no_expander) (sym e) (row_at ws' i (omega arith) ∙ row-set (drop (row_words * i) ws') (drop (row_words * i) ws) p a w (place (2 + 2 * p) (omega arith) ∙ first) (place (2 + (2 * p + 1)) (omega arith) ∙ second) (λ k f g. get_or-drop (row_words * i) ws' k 0 ∙ others (row_words * i + k) (λ z. f (omega arith)) (λ z. g (omega arith)) ∙ sym (get_or-drop (row_words * i) ws k 0))
      ∙ ap (λ (y : Expander). with_phy y p (phy_in a w)) (sym (row_at ws i l)) ∙ sym (get_or-set_same d i x no_expander l)))
      (λ e. row_at ws' j h ∙ row_same (drop (row_words * j) ws') (drop (row_words * j) ws) (λ k o. get_or-drop (row_words * j) ws' k 0 ∙ others (row_words * j + k) (λ z. e (omega arith)) (λ z. e (omega arith)) ∙ sym (get_or-drop (row_words * j) ws k 0))
      ∙ sym (row_at ws j (omega arith)) ∙ sym (get_or-set_other d i j x no_expander e)))
    where
      place : {t : ℕ} (k : ℕ) → row_words * i + k ≡ t → get_or (drop (row_words * i) ws') k 0 ≡ get_or ws' t 0
      place k e = get_or-drop (row_words * i) ws' k 0 ∙ ap (λ (x : ℕ). get_or ws' x 0) e

-- where there is such a phy, its two words are set
pub phy-set : (ws : List ℕ) (i p : ℕ) (φ : Phy) → p < length (expander_at (domain_in ws) i).phys → row_words * i + 2 + 2 * p + 1 < length ws
    → PhySet ws (set (set ws (row_words * i + 2 + 2 * p) (address_of φ)) (row_words * i + 2 + 2 * p + 1) (phy_word φ)) i p φ
unfolding with_words
phy-set ws i p φ h l =
    let k : ℕ = row_words * i + 2 + 2 * p in
    let one : List ℕ = set ws k (address_of φ) in
    let m = length-set ws k (address_of φ) in
    record {
      words = rw (lt-ltb p (length (expander_at (domain_in ws) i).phys) h);
      domain = rows-set ws (set one (k + 1) (phy_word φ)) i p (address_of φ) (phy_word φ) (length-set one (k + 1) (phy_word φ) ∙ m)
          (get_or-set_other one (k + 1) k (phy_word φ) 0 (λ z. omega arith) ∙ get_or-set_same ws k (address_of φ) 0 (omega arith))
          (get_or-set_same one (k + 1) (phy_word φ) 0 (omega arith))
          (λ j f g. get_or-set_other one (k + 1) j (phy_word φ) 0 g ∙ get_or-set_other ws k j (address_of φ) 0 f) h;
    }

-- where there is none, nothing changes
pub phy_unset : (ws : List ℕ) (i p : ℕ) (φ : Phy) → length (expander_at (domain_in ws) i).phys ≤ p → PhySet ws ws i p φ
unfolding with_words set_phy with_phy
phy_unset ws i p φ h =
    let d : Domain = domain_in ws in
    record {
      words = rw (le-ltb p (length (expander_at d i).phys) h);
      domain = sym (ap (λ (l : List Phy). set d i (record { address = (expander_at d i).address; route_indexes = (expander_at d i).route_indexes; configurable = (expander_at d i).configurable; phys = l })) (set_out (expander_at d i).phys p (phy_from_words φ) h)
          ∙ set-get_or d i no_expander);
    }

-- a phy that is read and fits is held as it is
pub held_same : (φ : Phy) → ReadPhy φ → FitsPhy φ → phy_from_words φ ≡ φ
held_same = phy-back

-- the words of a phy are there
pub in_rows : (ws : List ℕ) (i p : ℕ) → p < length (expander_at (domain_in ws) i).phys → row_words * i + 2 + 2 * p + 1 < length ws
in_rows ws i p h =
    let l = expander-range (domain_in ws) i p h in
    let m = (head_in ws i l).phys in
    let c = count_of ws in
    omega arith

pub phy-set-by : (ws : List ℕ) (i p : ℕ) (φ : Phy) (s w : ℕ) → s ≡ address_of φ → w ≡ phy_word φ → p < length (expander_at (domain_in ws) i).phys
    → PhySet ws (set (set ws (row_words * i + 2 + 2 * p) s) (row_words * i + 2 + 2 * p + 1) w) i p φ
phy-set-by ws i p φ s w a b h =
    subst (λ x. PhySet ws (set (set ws (row_words * i + 2 + 2 * p) s) (row_words * i + 2 + 2 * p + 1) x) i p φ) (sym b)
    (subst (λ x. PhySet ws (set (set ws (row_words * i + 2 + 2 * p) x) (row_words * i + 2 + 2 * p + 1) (phy_word φ)) i p φ) (sym a) (phy-set ws i p φ h (in_rows ws i p h)))
