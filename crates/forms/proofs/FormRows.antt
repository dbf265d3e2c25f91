-- Rows that hold what words read as a form: one phy's words after the other, and one row after the other.
use Prim.Native.Nat.{ℕ, zero, suc, ◌+◌, ◌-◌, ◌*◌, ◌/◌, ◌%◌, ◌≤◌, ◌<◌, min}
use mathlib.Core.Path.{◌≡◌, refl, sym, ◌∙◌, ap}
use mathlib.Core.Logic.{◌≢◌}
use mathlib.Core.Bool.{Bool, true, false}
use mathlib.Core.List.{List, [], ◌∷◌, ◌++◌, append-nil, append_assoc}
use native.Mathlib.Omega.{arith}
use native.Mathlib.Numerals.{add-one}
use native.Mathlib.Nat.{mod-eq_of_lt}
use lib.ListN.{length, get_or, take, drop, set, length-append, length-drop, drop_of_length-le}
use lib.Seq.{sets, drop-drop, take_at, drop_at, get_or-drop, length-take-le}
use lib.Dec.{eqb}
use borrow.Author.Tests.{eq-eqb, ne_eqb}
use Rattle.frames.proofs.ValuesPut.{sets-front}
use Rattle.files.specs.declared.Phy.{Phy}
use Rattle.files.specs.declared.Phy.TheVariants.{Vacant, Present}
use Rattle.files.specs.Domain.{Expander, Domain, address_of}
use Rattle.files.specs.Rows.{phy_word, phy_words, head_word, phy_in, phys_in, row_in, rows_in, domain_in, row_words}
use Rattle.files.proofs.RowFilling.{length-phy_words}
use Rattle.files.proofs.RowsRoundTrip.{low}
use Rattle.files.proofs.RowsAsDomain.{length-rows_in}
use Rattle.forms.specs.Form.{fields_back, phy_by, phy_back, phys_back, count_in, expander_back, expanders_back, form_in}
use Rattle.forms.specs.FormRows.{SmallPhy, RowHolds}

-- what words read as has no more bits than rows keep
pub phy-small : (a v : ℕ) → SmallPhy (phy_back a v)
phy-small a v = go (eqb (v / 262144 % 2) 1)
  where
    fields : (b : Bool) → SmallPhy (Present (fields_back b a v))
    fields true = (omega arith, (omega arith, omega arith))
    fields false = (omega arith, (omega arith, omega arith))

    go : (b : Bool) → SmallPhy (phy_by b a v)
    go true = omega arith
    go false = fields (eqb (v / 65536 % 4) 0)

pub back-vacant : (a v : ℕ) → v / 262144 % 2 ≡ 1 → Vacant 1 ≡ phy_back a v
back-vacant a v e = sym (ap (λ (b : Bool). phy_by b a v) (eq-eqb (v / 262144 % 2) 1 e))

module _ (a v : ℕ) (n : v / 262144 % 2 ≢ 1) where
  present : phy_back a v ≡ Present (fields_back (eqb (v / 65536 % 4) 0) a v)
  present = ap (λ (b : Bool). phy_by b a v) (ne_eqb (v / 262144 % 2) 1 n)

  pub back-empty : v / 65536 % 4 ≡ 0 → Present (fields_back true a v) ≡ phy_back a v
  back-empty e = sym (present ∙ ap (λ (b : Bool). Present (fields_back b a v)) (eq-eqb (v / 65536 % 4) 0 e))

  pub back-present : v / 65536 % 4 ≢ 0 → Present (fields_back false a v) ≡ phy_back a v
  back-present e = sym (present ∙ ap (λ (b : Bool). Present (fields_back b a v)) (ne_eqb (v / 65536 % 4) 0 e))

-- so a phy's two words give it back
small-back : (φ : Phy) → SmallPhy φ → phy_in (address_of φ) (phy_word φ) ≡ φ
small-back (Vacant r) h =
    let e : 2 * r / 2 % 256 ≡ r = omega arith in
    simp (eq-eqb (2 * r % 2) 0 (omega arith), e)
small-back (Present f) h =
    let w : ℕ = 1 + 2 * f.device_type + 8 * f.attribute + 32 * f.attached_phy.0 in
    let g = h.0 in
    let k = h.1.0 in
    let w1 : w / 2 ≡ f.device_type + 4 * (f.attribute + 4 * f.attached_phy.0) = omega arith in
    let w2 : w / 8 ≡ f.attribute + 4 * f.attached_phy.0 = omega arith in
    let w3 : w / 32 ≡ f.attached_phy.0 = omega arith in
    let a : w / 2 % 4 ≡ f.device_type = ap (λ (x : ℕ). x % 4) w1 ∙ low 4 f.device_type _ g in
    let b : w / 8 % 4 ≡ f.attribute = ap (λ (x : ℕ). x % 4) w2 ∙ low 4 f.attribute _ k in
    let p : w / 32 % 256 ≡ f.attached_phy.0 = ap (λ (x : ℕ). x % 256) w3 ∙ mod-eq_of_lt h.1.1 in
    simp (ne_eqb (w % 2) 0 (omega arith), a, b, p)

phys-held : (n : ℕ) (ws rest : List ℕ) → phys_in n (phy_words (phys_back n ws) ++ rest) ≡ phys_back n ws
unfolding phys_in phys_back
phys-held zero ws rest = refl
phys-held (suc n) ws rest = rw (small-back (phy_back (get_or ws 0 0) (get_or ws 1 0 / 35184372088832)) (phy-small (get_or ws 0 0) (get_or ws 1 0 / 35184372088832)), phys-held n (drop 2 ws) rest)

pub length-phys_back : (n : ℕ) (ws : List ℕ) → length (phys_back n ws) ≡ n
unfolding phys_back
length-phys_back zero ws = refl
length-phys_back (suc n) ws = ap suc (length-phys_back n (drop 2 ws))

-- words further on
pub first-at : (ws : List ℕ) (m : ℕ) → get_or (drop m ws) 0 0 ≡ get_or ws m 0
first-at ws m = let e : m + 0 ≡ m = omega arith in get_or-drop m ws 0 0 ∙ ap (λ (k : ℕ). get_or ws k 0) e

pub second_at : (ws : List ℕ) (m : ℕ) → get_or (drop m ws) 1 0 ≡ get_or ws (m + 1) 0
second_at ws m = get_or-drop m ws 1 0

-- how many phys
pub count_small : (ws : List ℕ) (at w : ℕ) → w ≡ get_or ws (at + 1) 0 → w / 1099511627776 % 256 ≤ 128 → w / 1099511627776 % 256 ≡ count_in (drop at ws)
count_small ws at w e h = let q : get_or (drop at ws) 1 0 ≡ w = second_at ws at ∙ sym e in rw q (omega arith)

pub count_large : (ws : List ℕ) (at w : ℕ) → w ≡ get_or ws (at + 1) 0 → 128 < w / 1099511627776 % 256 → ◌≡◌ {A = ℕ} 128 (count_in (drop at ws))
count_large ws at w e h = let q : get_or (drop at ws) 1 0 ≡ w = second_at ws at ∙ sym e in rw q (omega arith)

-- the phys that are left
module _ (ws : List ℕ) (n p from : ℕ) where
  phys-next : p < n → phys_back (n - p) (drop (from + 2 * p) ws)
      ≡ phy_back (get_or ws (from + 2 * p) 0) (get_or ws (from + 2 * p + 1) 0 / 35184372088832) ∷ phys_back (n - (p + 1)) (drop (from + 2 * (p + 1)) ws)
  unfolding phys_back
  phys-next h =
      let e : n - p ≡ suc (n - (p + 1)) = omega arith in
      let z : from + 2 * p + 2 ≡ from + 2 * (p + 1) = omega arith in
      rw (e, first-at ws (from + 2 * p), second_at ws (from + 2 * p), drop-drop 2 (from + 2 * p) ws, z) refl

  pub put_go : (row : List ℕ) (f : Phy) (a v x y : ℕ) → p < n → a ≡ get_or ws (from + 2 * p) 0 → v ≡ get_or ws (from + 2 * p + 1) 0 → f ≡ phy_back a (v / 35184372088832) → x ≡ address_of f → y ≡ phy_word f
      → sets (set (set row (2 + 2 * p) x) (2 + 2 * p + 1) y) (2 + 2 * (p + 1)) (phy_words (phys_back (n - (p + 1)) (drop (from + 2 * (p + 1)) ws)))
      ≡ sets row (2 + 2 * p) (phy_words (phys_back (n - p) (drop (from + 2 * p) ws)))
  put_go row f a v x y h qa qv qf qx qy =
      let g : 2 + 2 * p + 1 ≡ suc (2 + 2 * p) = omega arith in
      let k : 2 + 2 * (p + 1) ≡ suc (suc (2 + 2 * p)) = omega arith in
      let φ : f ≡ phy_back (get_or ws (from + 2 * p) 0) (get_or ws (from + 2 * p + 1) 0 / 35184372088832) = qf ∙ rw (qa, qv) refl in
      let xs : x ≡ address_of (phy_back (get_or ws (from + 2 * p) 0) (get_or ws (from + 2 * p + 1) 0 / 35184372088832)) = qx ∙ ap address_of φ in
      let ys : y ≡ phy_word (phy_back (get_or ws (from + 2 * p) 0) (get_or ws (from + 2 * p + 1) 0 / 35184372088832)) = qy ∙ ap phy_word φ in
      rw (phys-next h, g, k, xs, ys) refl

  pub put-end : (row : List ℕ) → n ≤ p → row ≡ sets row (2 + 2 * p) (phy_words (phys_back (n - p) (drop (from + 2 * p) ws)))
  unfolding phys_back
  put-end row h = let e : n - p ≡ 0 = omega arith in rw e refl

pub put-start : (ws : List ℕ) (n from : ℕ) (row : List ℕ) → sets row (2 + 2 * 0) (phy_words (phys_back (n - 0) (drop (from + 2 * 0) ws))) ≡ sets row 2 (phy_words (phys_back n (drop from ws)))
put-start ws n from row =
    let e : from + 2 * 0 ≡ from = omega arith in
    let z : n - 0 ≡ n = omega arith in
    rw (e, z) refl

-- a row with an expander's words in front holds it
abbrev read_as : ℕ → ℕ → ℕ → List Phy → Expander
read_as a r c φs = record { address = a; route_indexes = r; configurable = c; phys = φs }

same_as : {a b r s c o : ℕ} {φs ψs : List Phy} → a ≡ b → r ≡ s → c ≡ o → φs ≡ ψs → read_as a r c φs ≡ read_as b s o ψs
same_as p q k o = rw (p, q, k, o) refl

module _ (ws : List ℕ) (at n a r w : ℕ) (qn : n ≡ count_in (drop at ws)) (qa : a ≡ get_or ws at 0) (qr : r ≡ get_or ws (at + 1) 0 / 281474976710656 % 65536) (qw : w ≡ head_word r n 1) where
  expander_as : read_as a r 1 (phys_back n (drop (at + 2) ws)) ≡ expander_back (drop at ws)
  unfolding expander_back
  expander_as =
      same_as (qa ∙ sym (first-at ws at)) (qr ∙ ap (λ (x : ℕ). x / 281474976710656 % 65536) (sym (second_at ws at))) refl
      (ap (λ (k : ℕ). phys_back k (drop (at + 2) ws)) qn ∙ ap (phys_back (count_in (drop at ws))) (sym (drop-drop 2 at ws)))

  row_as : (m rest : List ℕ) → n ≤ 128 → row_in ((a ∷ w ∷ (phy_words (phys_back n (drop (at + 2) ws)) ++ m)) ++ rest) ≡ read_as a r 1 (phys_back n (drop (at + 2) ws))
  unfolding row_in
  row_as m rest h =
      let i : r < 65536 = omega (arith, qr) in
      let w1 : w ≡ r + 65536 * (n + 256 * 1) = omega arith in
      let w2 : w / 65536 ≡ n + 256 * 1 = omega arith in
      let w3 : w / 16777216 ≡ 1 = omega arith in
      let x : w % 65536 ≡ r = ap (λ (k : ℕ). k % 65536) w1 ∙ low 65536 r (n + 256 * 1) i in
      let y' : w / 65536 % 256 ≡ n = ap (λ (k : ℕ). k % 256) w2 ∙ low 256 n 1 (omega arith) in
      let y : min 128 (w / 65536 % 256) ≡ n = omega arith in
      let z : w / 16777216 % 2 ≡ 1 = ap (λ (k : ℕ). k % 2) w3 in
      same_as refl x z
      (ap (λ (k : ℕ). phys_in k ((phy_words (phys_back n (drop (at + 2) ws)) ++ m) ++ rest)) y
      ∙ ap (phys_in n) (append_assoc (phy_words (phys_back n (drop (at + 2) ws))) m rest) ∙ phys-held n (drop (at + 2) ws) (m ++ rest))

  pub row-held : (l row : List ℕ) → length l ≡ row_words → n ≤ 128 → row ≡ sets (set (set l 0 a) 1 w) 2 (phy_words (phys_back n (drop (at + 2) ws))) → RowHolds (expander_back (drop at ws)) row
  row-held l row k h e rest =
      let c = length-phy_words (phys_back n (drop (at + 2) ws)) in
      let d = length-phys_back n (drop (at + 2) ws) in
      let vs : List ℕ = a ∷ w ∷ phy_words (phys_back n (drop (at + 2) ws)) in
      ap (λ (x : List ℕ). row_in (x ++ rest)) (e ∙ sets-front vs l (omega arith)) ∙ row_as (drop (length vs) l) rest h ∙ expander_as

-- rows
rows_last : (i : ℕ) (ws : List ℕ) → rows_in (suc i) ws ≡ rows_in i ws ++ (row_in (drop (row_words * i) ws) ∷ [])
unfolding rows_in row_in
rows_last zero ws = let e : row_words * 0 ≡ 0 = omega arith in rw e refl
rows_last (suc i) ws =
    let e : row_words + row_words * i ≡ row_words * suc i = omega arith in
    ap (λ (l : Domain). row_in ws ∷ l) (rows_last i (drop row_words ws) ∙ ap (λ (l : List ℕ). rows_in i (drop row_words ws) ++ (row_in l ∷ [])) (drop-drop (row_words * i) row_words ws ∙ ap (λ (k : ℕ). drop k ws) e))

-- the expanders that are left
back-cons : (m : ℕ) (l : List ℕ) → 0 < length (expanders_back m l) → (0 < m) × ((0 < length l) × (expanders_back m l ≡ expander_back l ∷ expanders_back (m - 1) (drop (2 + 2 * count_in l) l)))
unfolding expanders_back
back-cons zero l h = absurd (omega arith)
back-cons (suc m) [] h = absurd (omega arith)
back-cons (suc m) (w ∷ l) h = let e : suc m - 1 ≡ m = omega arith in (omega arith, (omega arith, rw e refl))

back_some : (m : ℕ) (l : List ℕ) → 0 < m → 0 < length l → 0 < length (expanders_back m l)
unfolding expanders_back
back_some zero l a b = absurd (omega arith)
back_some (suc m) [] a b = absurd (omega arith)
back_some (suc m) (w ∷ l) a b = omega arith

back_none : (m : ℕ) → expanders_back m [] ≡ []
unfolding expanders_back
back_none zero = refl
back_none (suc m) = refl

pub few-back : (m : ℕ) (ws : List ℕ) → length (expanders_back m ws) ≤ m
unfolding expanders_back
few-back zero ws = omega arith
few-back (suc m) [] = omega arith
few-back (suc m) (w ∷ ws) = omega (arith, few-back m (drop (2 + 2 * count_in (w ∷ ws)) (w ∷ ws)))

pub form-few : (ws : List ℕ) → length (form_in ws) ≤ 64
unfolding form_in
form-few ws = few-back 64 ws

module _ (ws : List ℕ) (i at : ℕ) where
  back-next : (next : ℕ) → 0 < length (expanders_back (64 - i) (drop at ws)) → next ≡ at + (2 + 2 * count_in (drop at ws))
      → expanders_back (64 - i) (drop at ws) ≡ expander_back (drop at ws) ∷ expanders_back (64 - (i + 1)) (drop next ws)
  back-next next h q =
      let b = back-cons (64 - i) (drop at ws) h in
      let e : 64 - i - 1 ≡ 64 - (i + 1) = omega arith in
      b.1.1 ∙ ap (λ (l : Domain). expander_back (drop at ws) ∷ l)
      (ap (expanders_back (64 - i - 1)) (drop-drop (2 + 2 * count_in (drop at ws)) at ws ∙ ap (λ (k : ℕ). drop k ws) (sym q)) ∙ ap (λ (k : ℕ). expanders_back k (drop next ws)) e)

  -- counting them
  pub count-go : (n next : ℕ) → i + length (expanders_back (64 - i) (drop at ws)) ≡ n → i < 64 → at < length ws → next ≡ at + (2 + 2 * count_in (drop at ws))
      → i + 1 + length (expanders_back (64 - (i + 1)) (drop next ws)) ≡ n
  count-go n next e h k q =
      let l : 0 < length (expanders_back (64 - i) (drop at ws)) = back_some (64 - i) (drop at ws) (omega arith) (omega (arith, length-drop at ws)) in
      omega (arith, ap length (back-next next l q))

  pub count_none : (n : ℕ) → i + length (expanders_back (64 - i) (drop at ws)) ≡ n → length ws ≤ at → i ≡ n
  count_none n e h = omega (arith, ap length (ap (expanders_back (64 - i)) (drop_of_length-le ws h) ∙ back_none (64 - i)))

  pub count_full : (n : ℕ) → i + length (expanders_back (64 - i) (drop at ws)) ≡ n → 64 ≤ i → i ≡ n
  count_full n e h = let f = few-back (64 - i) (drop at ws) in omega arith

pub count-start : (ws : List ℕ) → 0 + length (expanders_back (64 - 0) (drop 0 ws)) ≡ length (form_in ws)
unfolding form_in
count-start ws = let e : 64 - 0 ≡ 64 = omega arith in rw e (omega arith)

-- the first i rows hold the first i expanders, whatever follows, and the rest of the words are the rest
abbrev pub Filled : List ℕ → ℕ → ℕ → List ℕ → Type 0
Filled ws i at rows = (rest : List ℕ) → rows_in i (take (row_words * i) rows ++ rest) ++ expanders_back (64 - i) (drop at ws) ≡ form_in ws

pub filled-start : (ws rows : List ℕ) → Filled ws 0 0 rows
unfolding form_in rows_in
filled-start ws rows rest = let e : 64 - 0 ≡ 64 = omega arith in rw e refl

module _ (ws rows : List ℕ) (i at : ℕ) (inv : Filled ws i at rows) where
  left : i + length (expanders_back (64 - i) (drop at ws)) ≡ length (form_in ws)
  left =
      let l = length-append (rows_in i (take (row_words * i) rows ++ [])) (expanders_back (64 - i) (drop at ws)) in
      omega (arith, ap length (inv []), length-rows_in i (take (row_words * i) rows ++ []))

  pub filled-go : (r : List ℕ) (next a k : ℕ) → RowHolds (expander_back (drop at ws)) r → length r ≡ row_words → next ≡ at + (2 + 2 * count_in (drop at ws)) → a ≡ row_words * i → k ≡ row_words
      → row_words * i + row_words ≤ length rows → i < length (form_in ws) → Filled ws (i + 1) next (take a rows ++ (r ++ drop k (drop a rows)))
  filled-go r next a k holds lr q qa qk room h rest =
      let P : List ℕ = take (row_words * i) rows in
      let D : List ℕ = drop k (drop a rows) in
      let e : Expander = expander_back (drop at ws) in
      let more : Domain = expanders_back (64 - (i + 1)) (drop next ws) in
      let lp : length P ≡ row_words * i = length-take-le (row_words * i) rows (omega arith) in
      let lpr : length (P ++ r) ≡ row_words * (i + 1) = length-append P r ∙ omega arith in
      let t : take (row_words * (i + 1)) (take a rows ++ (r ++ D)) ≡ P ++ r =
      ap (λ (m : ℕ). take (row_words * (i + 1)) (take m rows ++ (r ++ D))) qa ∙ ap (take (row_words * (i + 1))) (sym (append_assoc P r D)) ∙ take_at (P ++ r) D (row_words * (i + 1)) lpr in
      let s : i + 1 ≡ suc i = add-one i in
      let u : (P ++ r) ++ rest ≡ P ++ (r ++ rest) = append_assoc P r rest in
      let v : rows_in (i + 1) ((P ++ r) ++ rest) ≡ rows_in i (P ++ (r ++ rest)) ++ (e ∷ []) =
      ap (rows_in (i + 1)) u ∙ ap (λ (m : ℕ). rows_in m (P ++ (r ++ rest))) s ∙ rows_last i (P ++ (r ++ rest))
      ∙ ap (λ (x : List ℕ). rows_in i (P ++ (r ++ rest)) ++ (row_in x ∷ [])) (drop_at P (r ++ rest) (row_words * i) lp)
      ∙ ap (λ (x : Expander). rows_in i (P ++ (r ++ rest)) ++ (x ∷ [])) (holds rest) in
      let b = back-next ws i at next (omega (arith, left)) q in
      ap (λ (x : List ℕ). rows_in (i + 1) (x ++ rest) ++ more) t ∙ ap (λ (x : Domain). x ++ more) v
      ∙ append_assoc (rows_in i (P ++ (r ++ rest))) (e ∷ []) more ∙ ap (λ (x : Domain). rows_in i (P ++ (r ++ rest)) ++ x) (sym b) ∙ inv (r ++ rest)

  pub filled-end : length (form_in ws) ≤ i → i ≤ 64 → row_words * i ≤ length rows → domain_in (take (row_words * i) rows) ≡ form_in ws
  unfolding domain_in
  filled-end h f room =
      let T : List ℕ = take (row_words * i) rows in
      let z : expanders_back (64 - i) (drop at ws) ≡ [] = none (expanders_back (64 - i) (drop at ws)) (omega (arith, left)) in
      let l : length T ≡ row_words * i = length-take-le (row_words * i) rows room in
      let n : min 64 (length T / row_words) ≡ i = omega arith in
      ap (λ (m : ℕ). rows_in m T) n ∙ ap (rows_in i) (sym (append-nil T)) ∙ sym (append-nil (rows_in i (T ++ []))) ∙ ap (λ (x : Domain). rows_in i (T ++ []) ++ x) (sym z) ∙ inv []
    where
      none : (d : Domain) → length d ≡ 0 → d ≡ []
      none [] e = refl
      none (x ∷ d) e = absurd (omega arith)
