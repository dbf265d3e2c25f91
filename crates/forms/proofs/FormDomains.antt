-- What words read as: its numbers fit, and past the tests of 3, 4 and 6 it is a domain that causes 22 and 1 to 6 leave.
use Prim.Native.Nat.{ℕ, zero, suc, ◌+◌, ◌*◌, ◌/◌, ◌%◌, ◌^◌, ◌≤◌, ◌<◌}
use mathlib.Core.Path.{◌≡◌, refl, sym, ap, subst, ◌∙◌}
use mathlib.Core.Logic.{◌≢◌, inl, inr}
use mathlib.Core.Bool.{Bool, true, false, cond, not, ◌||◌}
use mathlib.Core.List.{List, [], ◌∷◌}
use native.Mathlib.Omega.{arith}
use lib.ListN.{length, get_or, drop}
use lib.Seq.{get_or-drop}
use lib.Dec.{eqb, leb}
use borrow.Author.Tests.{eq-eqb, ne_eqb, le-leb, eqb-true, eqb-false, leb-true, not-false}
use Rattle.files.specs.declared.Setting.{Setting}
use Rattle.files.specs.declared.Phy.{Phy}
use Rattle.files.specs.declared.Phy.TheVariants.{Vacant, Present}
use Rattle.files.specs.Lists.{In, Distinct, any, up_to}
use Rattle.files.specs.Settings.{within, InRange}
use Rattle.files.specs.Domain.{Expander, Domain, no_expander, expander_at, number_of}
use Rattle.files.specs.ReadDomain.{ReadPhy, addresses, Read, FitsPhy, FitsExpander, FitsDomain}
use Rattle.files.proofs.CallResults.{both}
use Rattle.files.proofs.ListMembers.{is_false, was_false, get_d_in, in_up_to, in_map, any_of, of-any, numbers-below, in_get_d}
use Rattle.forms.specs.Form.{fields_back, phy_by, phy_back, phys_back, count_in, expander_back, expanders_back, form_in}
use Rattle.forms.specs.FormCalls.{bad_phy, bad_unit, unread, Words}
use Rattle.forms.specs.FormRows.{SmallPhy}
use Rattle.forms.proofs.FormRows.{phy-small, length-phys_back, form-few}

-- a phy that words read as: what is left out is 1, and nothing is named where nothing is attached
abbrev pub BackPhy : Phy → Type 0
BackPhy (Vacant result) = result ≡ 1
BackPhy (Present f) = (f.device_type ≤ 3) × (f.device_type ≡ 0 → (f.address ≡ 0) × (f.attached_phy.0 ≡ 0))

phy-back : (a v : ℕ) → BackPhy (phy_back a v)
phy-back a v = go (eqb (v / 262144 % 2) 1)
  where
    fields : (b : Bool) → eqb (v / 65536 % 4) 0 ≡ b → BackPhy (Present (fields_back b a v))
    fields true q = (omega arith, λ z. (refl, refl))
    fields false q = (omega arith, λ z. absurd (eqb-false (v / 65536 % 4) 0 q z))

    go : (b : Bool) → BackPhy (phy_by b a v)
    go true = refl
    go false = fields (eqb (v / 65536 % 4) 0) refl

phy-fits : (a v : ℕ) → a < 2 ^ 64 → FitsPhy (phy_back a v)
phy-fits a v h = go (eqb (v / 262144 % 2) 1)
  where
    fields : (b : Bool) → FitsPhy (Present (fields_back b a v))
    fields true = (omega arith, omega arith)
    fields false = (h, omega arith)

    go : (b : Bool) → FitsPhy (phy_by b a v)
    go true = omega arith
    go false = fields (eqb (v / 65536 % 4) 0)

phys-back : (n : ℕ) (ws : List ℕ) (φ : Phy) → In φ (phys_back n ws) → BackPhy φ
unfolding phys_back
phys-back zero ws φ h = absurd h
phys-back (suc n) ws φ (inl e) = subst BackPhy (sym e) (phy-back (get_or ws 0 0) (get_or ws 1 0 / 35184372088832))
phys-back (suc n) ws φ (inr k) = phys-back n (drop 2 ws) φ k

dropped : (n : ℕ) (ws : List ℕ) → Words ws → Words (drop n ws)
dropped n ws h k = subst (λ (x : ℕ). x < 2 ^ 64) (sym (get_or-drop n ws k 0)) (h (n + k))

phys-fit : (n : ℕ) (ws : List ℕ) → Words ws → (φ : Phy) → In φ (phys_back n ws) → FitsPhy φ
unfolding phys_back
phys-fit zero ws h φ k = absurd k
phys-fit (suc n) ws h φ (inl e) = subst FitsPhy (sym e) (phy-fits (get_or ws 0 0) (get_or ws 1 0 / 35184372088832) (h 0))
phys-fit (suc n) ws h φ (inr k) = phys-fit n (drop 2 ws) (dropped 2 ws h) φ k

phys-small : (n : ℕ) (ws : List ℕ) (φ : Phy) → In φ (phys_back n ws) → SmallPhy φ
unfolding phys_back
phys-small zero ws φ h = absurd h
phys-small (suc n) ws φ (inl e) = subst SmallPhy (sym e) (phy-small (get_or ws 0 0) (get_or ws 1 0 / 35184372088832))
phys-small (suc n) ws φ (inr k) = phys-small n (drop 2 ws) φ k

expander-small : (ws : List ℕ) (φ : Phy) → In φ (expander_back ws).phys → SmallPhy φ
unfolding expander_back
expander-small ws = phys-small (count_in ws) (drop 2 ws)

expanders-small : (m : ℕ) (ws : List ℕ) (e : Expander) → In e (expanders_back m ws) → (φ : Phy) → In φ e.phys → SmallPhy φ
unfolding expanders_back
expanders-small zero ws e k = absurd k
expanders-small (suc m) [] e k = absurd k
expanders-small (suc m) (w ∷ ws) e (inl q) = λ φ h. expander-small (w ∷ ws) φ (subst (λ (x : Expander). In φ x.phys) q h)
expanders-small (suc m) (w ∷ ws) e (inr k) = expanders-small m (drop (2 + 2 * count_in (w ∷ ws)) (w ∷ ws)) e k

pub small_of : (ws : List ℕ) (e : Expander) → In e (form_in ws) → (φ : Phy) → In φ e.phys → SmallPhy φ
unfolding form_in
small_of ws = expanders-small 64 ws

-- an expander that words read as
pub record BackExpander (e : Expander) : Type 0 where
  pub configurable : e.configurable ≡ 1
  pub phys : (φ : Phy) → In φ e.phys → BackPhy φ

expander-back : (ws : List ℕ) → BackExpander (expander_back ws)
unfolding expander_back
expander-back ws = record { configurable = refl; phys = phys-back (count_in ws) (drop 2 ws) }

expanders-back : (m : ℕ) (ws : List ℕ) (e : Expander) → In e (expanders_back m ws) → BackExpander e
unfolding expanders_back
expanders-back zero ws e k = absurd k
expanders-back (suc m) [] e k = absurd k
expanders-back (suc m) (w ∷ ws) e (inl q) = subst BackExpander (sym q) (expander-back (w ∷ ws))
expanders-back (suc m) (w ∷ ws) e (inr k) = expanders-back m (drop (2 + 2 * count_in (w ∷ ws)) (w ∷ ws)) e k

pub form-back : (ws : List ℕ) (e : Expander) → In e (form_in ws) → BackExpander e
unfolding form_in
form-back ws = expanders-back 64 ws

expander-fits : (ws : List ℕ) → Words ws → FitsExpander (expander_back ws)
unfolding expander_back
expander-fits ws h = record {
  address = h 0;
  route_indexes = omega arith;
  count = omega (arith, length-phys_back (count_in ws) (drop 2 ws));
  phys = phys-fit (count_in ws) (drop 2 ws) (dropped 2 ws h);
}

expanders-fit : (m : ℕ) (ws : List ℕ) → Words ws → (e : Expander) → In e (expanders_back m ws) → FitsExpander e
unfolding expanders_back
expanders-fit zero ws h e k = absurd k
expanders-fit (suc m) [] h e k = absurd k
expanders-fit (suc m) (w ∷ ws) h e (inl q) = subst FitsExpander (sym q) (expander-fits (w ∷ ws) h)
expanders-fit (suc m) (w ∷ ws) h e (inr k) = expanders-fit m (drop (2 + 2 * count_in (w ∷ ws)) (w ∷ ws)) (dropped (2 + 2 * count_in (w ∷ ws)) (w ∷ ws) h) e k

-- the numbers of 64-bit words fit
pub form-fits : (ws : List ℕ) → Words ws → FitsDomain (form_in ws)
unfolding form_in
form-fits ws h = record { count = omega (arith, form-few ws); each = expanders-fit 64 ws h }

-- tests that fail
or_false : (a b : Bool) → (a || b) ≡ false → (a ≡ false) × (b ≡ false)
or_false true b e = let z : ◌≡◌ {A = ℕ} 0 1 = cc in absurd (omega arith)
or_false false b e = (refl, e)

any_false : {A : Type 0} (f : A → Bool) (l : List A) → any f l ≡ false → (w : A) → In w l → f w ≡ false
any_false f l e w h = is_false (f w) (λ t. was_false (any f l) e (any_of f l w h t))

-- numbers say that addresses differ
number_tail : (e : Expander) (d : Domain) (s j : ℕ) → number_of (e ∷ d) s ≡ suc j → (e.address ≢ s) × (number_of d s ≡ j)
unfolding number_of
number_tail e d s j q = go (eqb e.address s) refl q
  where
    go : (b : Bool) → eqb e.address s ≡ b → cond b 0 (suc (number_of d s)) ≡ suc j → (e.address ≢ s) × (number_of d s ≡ j)
    go true u k = absurd (omega arith)
    go false u k = (eqb-false e.address s u, omega arith)

abbrev pub Numbers : Domain → Type 0
Numbers d = (j : ℕ) → j < length d → number_of d (expander_at d j).address ≡ j

distinct_of : (d : Domain) → Numbers d → Distinct (addresses d)
distinct_of [] g = tt
distinct_of (e ∷ d) g = (
  λ h. let m = in_map (λ (x : Expander). x.address) d e.address h in
      let i = get_d_in d no_expander m.0 m.1 in
      (number_tail e d (expander_at d i.0).address i.0 (g (suc i.0) (omega (arith, i.1)))).0 (m.2 ∙ sym (ap (λ (x : Expander). x.address) i.2)),
  distinct_of d (λ j h. (number_tail e d (expander_at d j).address j (g (suc j) (omega arith))).1),
)

-- what is known of a domain in which neither 3 nor 4 nor 6 holds
module _ (most : Setting) (d : Domain) (u : unread most d ≡ false) where
  counts : (1 ≤ length d) × (length d ≤ most.expanders)
  unfolding unread
  counts =
      let o = or_false (not (within most.expanders (length d))) _ u in
      let w = both (leb 1 (length d)) _ (not-false _ o.0) in
      (leb-true 1 (length d) w.0, leb-true (length d) most.expanders w.1)

  unit : (i : ℕ) → i < length d → bad_unit most d i ≡ false
  unfolding unread
  unit i h = any_false (bad_unit most d) (up_to (length d)) (or_false (not (within most.expanders (length d))) _ u).1 i (in_up_to (length d) i h)

  record Unit-facts (i : ℕ) : Type 0 where
    some : 1 ≤ length (expander_at d i).phys
    few : length (expander_at d i).phys ≤ most.phys
    borne : (expander_at d i).address ≢ 0
    number : number_of d (expander_at d i).address ≡ i
    phys : (φ : Phy) → In φ (expander_at d i).phys → bad_phy φ ≡ false

  unit_facts : (i : ℕ) → i < length d → Unit-facts i
  unfolding bad_unit
  unit_facts i h =
      let a = or_false (not (within most.phys (length (expander_at d i).phys))) _ (unit i h) in
      let w = both (leb 1 (length (expander_at d i).phys)) _ (not-false _ a.0) in
      let b = or_false (eqb (expander_at d i).address 0) _ a.1 in
      let c = or_false (not (eqb (number_of d (expander_at d i).address) i)) _ b.1 in
      record {
        some = leb-true 1 _ w.0;
        few = leb-true _ most.phys w.1;
        borne = eqb-false _ 0 b.0;
        number = eqb-true _ i (not-false _ c.0);
        phys = any_false bad_phy (expander_at d i).phys c.1;
      }

  pub numbers_of : Numbers d
  numbers_of i h = (unit_facts i h).number

  pub phys-of : (e : Expander) → In e d → (φ : Phy) → In φ e.phys → bad_phy φ ≡ false
  phys-of e k φ h =
      let i = get_d_in d no_expander e k in
      (unit_facts i.0 i.1).phys φ (subst (λ (x : Expander). In φ x.phys) (sym i.2) h)

  read-phy : (φ : Phy) → BackPhy φ → bad_phy φ ≡ false → ReadPhy φ
  read-phy (Vacant r) b e = λ z. omega arith
  read-phy (Present f) b e =
      let r = both (leb f.device_type 3) _ (not-false _ e) in
      let s = both (leb f.attribute 2) _ r.1 in
      record {
        device_type = b.0;
        attribute = leb-true f.attribute 2 s.0;
        borne = λ n z. no_address n z s.1;
        bare = b.1;
      }
    where
      no_address : f.device_type ≢ 0 → f.address ≡ 0 → (eqb f.device_type 0 || not (eqb f.address 0)) ≡ true → ⊥
      no_address n z t =
          let x = ne_eqb f.device_type 0 n in
          let y = eq-eqb f.address 0 z in
          let g : ◌≡◌ {A = Bool} false true = rw (x, y) at t in
          let k : ◌≡◌ {A = ℕ} 0 1 = cc in absurd (omega arith)

  -- so it is one that causes 22 and 1 to 6 leave
  pub unread-read : InRange most → ((e : Expander) → In e d → BackExpander e) → Read most d
  unread-read range back = record {
    range = range;
    some = counts.0;
    few = counts.1;
    differ = distinct_of d numbers_of;
    each = λ e k. let i = get_d_in d no_expander e k in
        let f = unit_facts i.0 i.1 in
        let q = i.2 in
        let b = back e k in
        record {
          borne = subst (λ (x : Expander). x.address ≢ 0) q f.borne;
          configurable = omega (arith, b.configurable);
          some = subst (λ (x : Expander). 1 ≤ length x.phys) q f.some;
          few = subst (λ (x : Expander). length x.phys ≤ most.phys) q f.few;
          phys = λ φ h. read-phy φ (b.phys φ h) (phys-of e k φ h);
        };
  }

-- the other way: such a domain passes the tests
or_both : (a b : Bool) → a ≡ false → b ≡ false → (a || b) ≡ false
or_both a b e f = rw (e, f) refl

read-good-phy : (φ : Phy) → ReadPhy φ → bad_phy φ ≡ false
read-good-phy (Vacant r) g = refl
read-good-phy (Present f) g = rw (le-leb f.device_type 3 g.device_type, le-leb f.attribute 2 g.attribute) (go (eqb f.device_type 0) refl)
  where
    go : (b : Bool) → eqb f.device_type 0 ≡ b → not (b || not (eqb f.address 0)) ≡ false
    go true q = refl
    go false q = rw (ne_eqb f.address 0 (g.borne (eqb-false f.device_type 0 q))) refl

none_found : {A : Type 0} (f : A → Bool) (l : List A) → ((w : A) → In w l → f w ≡ false) → any f l ≡ false
none_found f l h = is_false (any f l) (λ t. let o = of-any f l t in was_false (f o.0) (h o.0 o.1) o.2)

pub read-unread : (most : Setting) (d : Domain) → Read most d → Numbers d → unread most d ≡ false
unfolding unread bad_unit
read-unread most d g numbers =
    or_both (not (within most.expanders (length d))) _ (rw (le-leb 1 (length d) g.some, le-leb (length d) most.expanders g.few) refl)
    (none_found (bad_unit most d) (up_to (length d)) (λ i k. unit i (numbers-below (length d) i k)))
  where
    unit : (i : ℕ) → i < length d → bad_unit most d i ≡ false
    unit i h =
        let r = g.each (expander_at d i) (in_get_d d no_expander i h) in
        or_both (not (within most.phys (length (expander_at d i).phys))) _ (rw (le-leb 1 (length (expander_at d i).phys) r.some, le-leb (length (expander_at d i).phys) most.phys r.few) refl)
        (or_both (eqb (expander_at d i).address 0) _ (ne_eqb (expander_at d i).address 0 r.borne)
        (or_both (not (eqb (number_of d (expander_at d i).address) i)) _ (ap not (eq-eqb (number_of d (expander_at d i).address) i (numbers i h)))
        (none_found bad_phy (expander_at d i).phys (λ φ k. read-good-phy φ (r.phys φ k)))))
