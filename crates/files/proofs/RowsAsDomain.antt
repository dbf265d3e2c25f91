-- Any words used as a domain: what stands where.
use Prim.Native.Nat.{ℕ, zero, suc, ◌+◌, ◌*◌, ◌/◌, ◌%◌, ◌≤◌, ◌<◌, min}
use mathlib.Core.Path.{◌≡◌, refl, sym, ◌∙◌, ap, subst}
use mathlib.Core.List.{List}
use native.Mathlib.Omega.{arith}
use native.Mathlib.Nat.{add-zero}
use lib.ListN.{length, get_or, drop, get_or-eq_default}
use lib.Seq.{get_or-drop, drop-drop}
use Rattle.files.specs.declared.Phy.TheVariants.{Vacant}
use Rattle.files.specs.Domain.{Expander, no_expander, expander_at, phy_at}
use Rattle.files.specs.Rows.{phy_in, phy_in_row, phys_in, row_in, rows_in, domain_in, HeadIn, row_words}
use Rattle.files.proofs.Domains.{expander-range}

pub length-rows_in : (k : ℕ) (ws : List ℕ) → length (rows_in k ws) ≡ k
unfolding rows_in
length-rows_in zero ws = refl
length-rows_in (suc k) ws = ap suc (length-rows_in k (drop row_words ws))

pub length-phys_in : (k : ℕ) (ws : List ℕ) → length (phys_in k ws) ≡ k
unfolding phys_in
length-phys_in zero ws = refl
length-phys_in (suc k) ws = ap suc (length-phys_in k (drop 2 ws))

expander_in : (k : ℕ) (ws : List ℕ) (i : ℕ) → i < k → get_or (rows_in k ws) i no_expander ≡ row_in (drop (row_words * i) ws)
unfolding rows_in
expander_in zero ws i h = absurd (omega arith)
expander_in (suc k) ws zero h = refl
expander_in (suc k) ws (suc i) h =
    let e : row_words + row_words * i ≡ row_words * suc i = omega arith in
    expander_in k (drop row_words ws) i (omega arith) ∙ ap row_in (drop-drop (row_words * i) row_words ws ∙ ap (λ (x : ℕ). drop x ws) e)

pub phy_in_lem : (k : ℕ) (ws : List ℕ) (p : ℕ) → p < k → get_or (phys_in k ws) p (Vacant 0) ≡ phy_in (get_or ws (2 * p) 0) (get_or ws (2 * p + 1) 0)
unfolding phys_in
phy_in_lem zero ws p h = absurd (omega arith)
phy_in_lem (suc k) ws zero h = refl
phy_in_lem (suc k) ws (suc p) h =
    let a : 2 + 2 * p ≡ 2 * suc p = omega arith in
    let b : 2 + (2 * p + 1) ≡ 2 * suc p + 1 = omega arith in
    phy_in_lem k (drop 2 ws) p (omega arith) ∙ rw (get_or-drop 2 ws (2 * p) 0, get_or-drop 2 ws (2 * p + 1) 0, a, b)

pub count_of : (ws : List ℕ) → length (domain_in ws) ≡ min 64 (length ws / row_words)
unfolding domain_in
count_of ws = length-rows_in (min 64 (length ws / row_words)) ws

module _ (ws : List ℕ) (i : ℕ) where
  pub no_expander_lem : length (domain_in ws) ≤ i → expander_at (domain_in ws) i ≡ no_expander
  no_expander_lem h = get_or-eq_default (domain_in ws) no_expander h

  pub row_at : i < length (domain_in ws) → expander_at (domain_in ws) i ≡ row_in (drop (row_words * i) ws)
  unfolding domain_in
  row_at h = expander_in (min 64 (length ws / row_words)) ws i (subst (λ (n : ℕ). i < n) (count_of ws) h)

  second : get_or (drop (row_words * i) ws) 1 0 ≡ get_or ws (row_words * i + 1) 0
  second = get_or-drop (row_words * i) ws 1 0

  pub address_in_lem : i < length (domain_in ws) → (expander_at (domain_in ws) i).address ≡ get_or ws (row_words * i) 0
  unfolding row_in
  address_in_lem h = ap (λ (e : Expander). e.address) (row_at h) ∙ get_or-drop (row_words * i) ws 0 0 ∙ rw add-zero

  pub head_in : i < length (domain_in ws) → HeadIn (domain_in ws) i (get_or ws (row_words * i + 1) 0)
  unfolding row_in
  head_in h =
      let e = row_at h in
      record {
        route_indexes = sym (ap (λ (x : Expander). x.route_indexes) e ∙ rw second);
        phys = sym (ap (λ (x : Expander). length x.phys) e ∙ length-phys_in _ (drop 2 (drop (row_words * i) ws)) ∙ rw second);
        configurable = sym (ap (λ (x : Expander). x.configurable) e ∙ rw second);
      }

  pub no_head : length (domain_in ws) ≤ i → HeadIn (domain_in ws) i 0
  no_head h =
      let e = no_expander_lem h in
      record {
        route_indexes = sym (ap (λ (x : Expander). x.route_indexes) e);
        phys = sym (ap (λ (x : Expander). length x.phys) e);
        configurable = sym (ap (λ (x : Expander). x.configurable) e);
      }

  pub no_phy : (p : ℕ) → length (expander_at (domain_in ws) i).phys ≤ p → phy_at (domain_in ws) i p ≡ Vacant 0
  no_phy p h = get_or-eq_default (expander_at (domain_in ws) i).phys (Vacant 0) h

  phy-of-row : (p : ℕ) → i < length (domain_in ws) → p < length (expander_at (domain_in ws) i).phys
      → phy_at (domain_in ws) i p ≡ phy_in (get_or ws (row_words * i + 2 + 2 * p) 0) (get_or ws (row_words * i + 2 + 2 * p + 1) 0)
  unfolding row_in
  phy-of-row p h l =
      let r : List ℕ = drop (row_words * i) ws in
      let m : p < min 128 (get_or ws (row_words * i + 1) 0 / 65536 % 256) = subst (λ (n : ℕ). p < n) (sym (head_in h).phys) l in
      let a : row_words * i + (2 + 2 * p) ≡ row_words * i + 2 + 2 * p = omega arith in
      let b : row_words * i + (2 + (2 * p + 1)) ≡ row_words * i + 2 + 2 * p + 1 = omega arith in
      ap (λ (e : Expander). get_or e.phys p (Vacant 0)) (row_at h)
      ∙ phy_in_lem (min 128 (get_or r 1 0 / 65536 % 256)) (drop 2 r) p (rw second m)
      ∙ rw (get_or-drop 2 r (2 * p) 0, get_or-drop 2 r (2 * p + 1) 0, get_or-drop (row_words * i) ws (2 + 2 * p) 0, get_or-drop (row_words * i) ws (2 + (2 * p + 1)) 0, a, b)

pub phy-at_in : (ws : List ℕ) (i p : ℕ) → p < length (expander_at (domain_in ws) i).phys
    → phy_at (domain_in ws) i p ≡ phy_in (get_or ws (row_words * i + 2 + 2 * p) 0) (get_or ws (row_words * i + 2 + 2 * p + 1) 0)
phy-at_in ws i p h = phy-of-row ws i p (expander-range (domain_in ws) i p h) h

pub phy-held : (ws : List ℕ) (i p : ℕ) → p < length (expander_at (domain_in ws) i).phys → phy_in_row ws i p ≡ phy_at (domain_in ws) i p
unfolding phy_in_row
phy-held ws i p h = sym (phy-at_in ws i p h)

-- any words are a domain of at most 64 expanders
pub domain-few : (ws : List ℕ) → length (domain_in ws) ≤ 64
domain-few ws = let e = count_of ws in omega arith
