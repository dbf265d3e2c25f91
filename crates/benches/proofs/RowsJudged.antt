-- Rows that hold two domains one after the other, with the cable written into two phys, hold the joined domain; and judging it there is judging
-- the joined file.
use Prim.Native.Nat.{ℕ, zero, suc, ◌+◌, ◌-◌, ◌*◌, ◌/◌, ◌%◌, ◌≤◌, ◌<◌, min}
use mathlib.Core.Path.{◌≡◌, refl, sym, ◌∙◌, ap, ap₂}
use mathlib.Core.List.{List, [], ◌∷◌, ◌++◌}
use native.Mathlib.Omega.{arith}
use native.Mathlib.Nat.{zero-add}
use lib.ListN.{length, take, drop, set, length-append, length-drop, length-set, get_or-append}
use lib.Seq.{length-take-le, take_at, take-append-le, take-append-add, drop-append-le, get_or-append-add, set-append_left}
use borrow.Author.Tests.{le-leb, ne_eqb}
use Rattle.frames.specs.Refusals.{refused, Result, good}
use Rattle.files.specs.declared.Setting.{Setting}
use Rattle.files.specs.Domain.{Expander, Domain, no_expander, expander_at}
use Rattle.files.specs.ReadDomain.{Bytes}
use Rattle.wiring.specs.index.AddressIndex.{slots_before, IndexRoom}
use Rattle.wiring.specs.phys.Checks.{check_answer}
use Rattle.files.specs.File.{domain_read}
use Rattle.files.specs.Rows.{phy_in, phys_in, row_in, rows_in, domain_in, rows_read, RowsRead, row_words}
use Rattle.files.specs.PhyReplaced.{with_phy, set_phy, phy_from_words, PhySet}
use Rattle.files.specs.declared.Phy.{Phy}
use Rattle.files.proofs.ReadDomain.{read-good}
use Rattle.tables.specs.JudgingCall.{judged}
use Rattle.benches.specs.JoinConditions.{Free}
use Rattle.benches.specs.Bytes.{joined_file}
use Rattle.benches.specs.BenchRows.{read_as, both_read, cabled, apart_in, check_of}
use Rattle.benches.specs.Joined.{cabled_to, joined}
use Rattle.benches.specs.SidesFound.{Ready}
use Rattle.benches.proofs.PartsOfJoined.{attribute-inside, joined_length}
use Rattle.benches.proofs.JoinOutcomes.{accepted-read}
use Rattle.benches.proofs.JoinedReads.{rows_own}
use Rattle.benches.proofs.JoinRefusals.{free-is}

-- rows before other words
phys-left : (k : ℕ) (u v : List ℕ) → 2 * k ≤ length u → phys_in k (u ++ v) ≡ phys_in k u
unfolding phys_in
phys-left zero u v h = refl
phys-left (suc k) [] v h = absurd (omega arith)
phys-left (suc k) (a ∷ []) v h = absurd (omega arith)
phys-left (suc k) (a ∷ (b ∷ u)) v h = ap (λ (l : List Phy). phy_in a b ∷ l) (phys-left k u v (omega arith))

row-left : (u v : List ℕ) → row_words ≤ length u → row_in (u ++ v) ≡ row_in u
unfolding row_in
row-left [] v h = absurd (omega arith)
row-left (a ∷ []) v h = absurd (omega arith)
row-left (a ∷ (b ∷ u)) v h = rw (phys-left (min 128 (b / 65536 % 256)) u v (omega arith)) refl

rows_left : (n : ℕ) (u v : List ℕ) → row_words * n ≤ length u → rows_in n (u ++ v) ≡ rows_in n u
unfolding rows_in
rows_left zero u v h = refl
rows_left (suc n) u v h =
    let l = length-drop row_words u in
    ap₂ (λ (e : Expander) (d : Domain). e ∷ d) (row-left u v (omega arith)) (ap (rows_in n) (drop-append-le row_words u v (omega arith)) ∙ rows_left n (drop row_words u) v (omega arith))

-- rows one after the other
rows_split : (n m : ℕ) (u v : List ℕ) → length u ≡ row_words * n → rows_in (n + m) (u ++ v) ≡ rows_in n u ++ rows_in m v
unfolding rows_in
rows_split zero m [] v h = ap (λ (k : ℕ). rows_in k v) (zero-add m)
rows_split zero m (a ∷ u) v h = absurd (omega arith)
rows_split (suc n) m u v h =
    let l = length-drop row_words u in
    let e : suc n + m ≡ suc (n + m) = omega arith in
    ap (λ (k : ℕ). rows_in k (u ++ v)) e
    ∙ ap₂ (λ (e : Expander) (d : Domain). e ∷ d) (row-left u v (omega arith)) (ap (rows_in (n + m)) (drop-append-le row_words u v (omega arith)) ∙ rows_split n m (drop row_words u) v (omega arith))

domain-rows : (n : ℕ) (u : List ℕ) → length u ≡ row_words * n → n ≤ 64 → domain_in u ≡ rows_in n u
unfolding domain_in
domain-rows n u h k = ap (λ (m : ℕ). rows_in m u) (omega arith)

domain-append : (n m : ℕ) (u v : List ℕ) → length u ≡ row_words * n → length v ≡ row_words * m → n + m ≤ 64 → domain_in (u ++ v) ≡ domain_in u ++ domain_in v
domain-append n m u v h k f =
    let l = length-append u v in
    domain-rows (n + m) (u ++ v) (omega arith) f ∙ rows_split n m u v h
    ∙ ap₂ (λ (c d : Domain). c ++ d) (sym (domain-rows n u h (omega arith))) (sym (domain-rows m v k (omega arith)))

-- words that a file was read into hold its domain
rows_hold_lem : (setting : Setting) (file before after : List ℕ) (answer : Result ℕ) (d : Domain) → domain_read setting file ≡ good d → row_words * length d ≤ length before
    → RowsRead setting file answer before after → domain_in (take (row_words * length d) after) ≡ d
unfolding rows_read
rows_hold_lem setting file before after answer d q h r =
    let e : rows_read setting file (length before) ≡ good d = simp (q, le-leb (row_words * length d) (length before) h) in
    rw e at r.holds

-- two files read into rows, the second after the first
pub both-held : (setting : Setting) (first second : List ℕ) (d₁ d₂ : Domain) → domain_read setting first ≡ good d₁ → domain_read setting second ≡ good d₂
    → (before one between two after : List ℕ) (a b : Result ℕ) → RowsRead setting first a before one → RowsRead setting second b between two
    → (n m : ℕ) → n ≡ length d₁ → m ≡ length d₂ → n + m ≤ 64 → row_words * (n + m) ≤ length before
    → length one ≡ length before → length between ≡ length before - row_words * n → length two ≡ length between
    → domain_in (take (row_words * (n + m)) (take (row_words * n) one ++ (two ++ after))) ≡ d₁ ++ d₂
both-held setting first second d₁ d₂ e₁ e₂ before one between two after a b r s n m x y f h l₁ l l₂ =
    let u : List ℕ = take (row_words * n) one in
    let v : List ℕ = take (row_words * m) two in
    let lu : length u ≡ row_words * n = length-take-le (row_words * n) one (omega arith) in
    let lv : length v ≡ row_words * m = length-take-le (row_words * m) two (omega arith) in
    let k : row_words * (n + m) ≡ length u + row_words * m = omega arith in
    let t : take (row_words * (n + m)) (u ++ (two ++ after)) ≡ u ++ v =
    ap (λ (z : ℕ). take z (u ++ (two ++ after))) k ∙ take-append-add u (two ++ after) (row_words * m) ∙ ap (λ (z : List ℕ). u ++ z) (take-append-le (row_words * m) two after (omega arith)) in
    let p : domain_in u ≡ d₁ = ap (λ (z : ℕ). domain_in (take (row_words * z) one)) x ∙ rows_hold_lem setting first before one a d₁ e₁ (omega arith) r in
    let q : domain_in v ≡ d₂ = ap (λ (z : ℕ). domain_in (take (row_words * z) two)) y ∙ rows_hold_lem setting second between two b d₂ e₂ (omega arith) s in
    ap domain_in t ∙ domain-append n m u v lu lv f ∙ ap₂ (λ (c d : Domain). c ++ d) p q

-- the cable's phy is held as it is
held_cable : (s q : ℕ) → q < 256 → phy_from_words (cabled_to s q) ≡ cabled_to s q
held_cable s q h =
    let w : ℕ = 1 + 2 * 2 + 8 * 1 + 32 * q in
    let a : w / 2 % 4 ≡ 2 = omega arith in
    let b : w / 8 % 4 ≡ 1 = omega arith in
    let p : w / 32 % 256 ≡ q = omega arith in
    simp (ne_eqb (w % 2) 0 (omega arith), a, b, p)

-- two phys set in rows: the cable at both ends
pub rows-cabled : (before between after : List ℕ) (n i p j q s t : ℕ) (φ ψ : Phy) → p < 256 → q < 256 → PhySet before between i p φ → PhySet between after (n + j) q ψ
    → φ ≡ cabled_to t q → ψ ≡ cabled_to s p → s ≡ (expander_at (domain_in before) i).address → t ≡ (expander_at (domain_in before) (n + j)).address
    → domain_in after ≡ cabled (domain_in before) n i p j q
unfolding cabled
rows-cabled before between after n i p j q s t φ ψ hp hq one other f g x y =
    let d : Domain = domain_in before in
    let a : phy_from_words φ ≡ cabled_to (expander_at d (n + j)).address q = ap phy_from_words f ∙ held_cable t q hq ∙ ap (λ (z : ℕ). cabled_to z q) y in
    let b : phy_from_words ψ ≡ cabled_to (expander_at d i).address p = ap phy_from_words g ∙ held_cable s p hp ∙ ap (λ (z : ℕ). cabled_to z p) x in
    other.domain ∙ ap₂ (λ (v : Domain) (χ : Phy). set_phy v (n + j) q χ) (one.domain ∙ ap (set_phy d i p) a) b

-- so the rows hold the joined domain
set_right : (u v : Domain) (k : ℕ) (e : Expander) → set (u ++ v) (length u + k) e ≡ u ++ set v k e
set_right [] v k e = ap (λ (n : ℕ). set v n e) (zero-add k)
set_right (x ∷ u) v k e = let z : suc (length u) + k ≡ suc (length u + k) = omega arith in ap (λ (n : ℕ). set (x ∷ (u ++ v)) n e) z ∙ ap (λ (l : Domain). x ∷ l) (set_right u v k e)

pub cabled-joined : (d₁ d₂ : Domain) (n i p j q : ℕ) → n ≡ length d₁ → i < length d₁ → cabled (d₁ ++ d₂) n i p j q ≡ joined d₁ i p d₂ j q
unfolding cabled joined set_phy
cabled-joined d₁ d₂ n i p j q e h =
    let l : expander_at (d₁ ++ d₂) i ≡ expander_at d₁ i = get_or-append d₁ d₂ no_expander i h in
    let r : expander_at (d₁ ++ d₂) (n + j) ≡ expander_at d₂ j = ap (λ (k : ℕ). expander_at (d₁ ++ d₂) (k + j)) e ∙ get_or-append-add d₁ d₂ j no_expander in
    let one : Domain = set d₁ i (with_phy (expander_at d₁ i) p (cabled_to (expander_at d₂ j).address q)) in
    let m : length one ≡ length d₁ = length-set d₁ i _ in
    let a : set (d₁ ++ d₂) i (with_phy (expander_at (d₁ ++ d₂) i) p (cabled_to (expander_at (d₁ ++ d₂) (n + j)).address q)) ≡ one ++ d₂ =
    rw (l, r) (set-append_left d₁ d₂ i _ h) in
    let k : n + j ≡ length one + j = omega arith in
    let o : expander_at (one ++ d₂) (n + j) ≡ expander_at d₂ j = ap (expander_at (one ++ d₂)) k ∙ get_or-append-add one d₂ j no_expander in
    rw (a, o, l) (ap (λ (z : ℕ). set (one ++ d₂) z (with_phy (expander_at d₂ j) q (cabled_to (expander_at d₁ i).address p))) k ∙ set_right one d₂ j _)

-- two accepted files, with phys that can take the cable
module _ (setting : Setting) (first : List ℕ) (n i p : ℕ) (second : List ℕ) (m j q : ℕ) (c : Ready setting first n i p second m j q) where
  read_one : domain_read setting first ≡ good c.one.domain
  read_one = accepted-read setting first n c.one

  read-other : domain_read setting second ≡ good c.other.domain
  read-other = accepted-read setting second m c.other

  pub ready_few : n + m ≤ 64
  ready_few = omega (arith, c.few, (read-good setting first c.one.domain read_one).range.expanders.1)

  free_one : Free c.one.domain i p
  free_one = free-is c.one.domain i p c.free_one

  free_other : Free c.other.domain j q
  free_other = free-is c.other.domain j q c.free_other

  -- the second's expander is a byte's number among all
  pub ready_place : n + j < 256
  ready_place = omega (arith, ready_few, attribute-inside c.other.domain 1 j q (omega arith) free_other.subtractive, c.other.count)

  -- rows that both files were read into, one after the other, with the cable written, were judged: what judging the joined file says
  pub bench-judged : Bytes first → Bytes second → (rows part rest who low : List ℕ) (answer : Result Unit) → slots_before (n + m) ≤ length who → 128 * (n + m) ≤ length low
      → domain_in (take (row_words * (n + m)) rows) ≡ both_read setting first second → domain_in part ≡ cabled (domain_in (take (row_words * (n + m)) rows)) n i p j q → length part ≡ row_words * (n + m)
      → check_answer (domain_in (take (row_words * (n + m)) (part ++ rest))) answer ≡ apart_in setting.chain (length who) (length low) (domain_in (take (row_words * (n + m)) (part ++ rest)))
      → answer ≡ check_of (judged setting (joined_file first i p second j q))
  bench-judged b₁ b₂ rows part rest who low answer slots phys held cable size judge =
      let d₁ = c.one.domain in
      let d₂ = c.other.domain in
      let J : Domain = joined d₁ i p d₂ j q in
      let inside = attribute-inside d₁ 1 i p (omega arith) free_one.subtractive in
      let few : length d₁ + length d₂ ≤ setting.expanders = omega (arith, c.few, c.one.count, c.other.count) in
      let l = joined_length d₁ i p d₂ j q in
      let room : IndexRoom J who low = record { slots = omega (arith, c.one.count, c.other.count); phys = omega (arith, c.one.count, c.other.count) } in
      let both : both_read setting first second ≡ d₁ ++ d₂ = ap₂ (λ (x y : Result Domain). read_as x ++ read_as y) read_one read-other in
      let e : domain_in (take (row_words * (n + m)) (part ++ rest)) ≡ J =
      ap domain_in (take_at part rest (row_words * (n + m)) size) ∙ cable ∙ ap (λ (v : Domain). cabled v n i p j q) (held ∙ both) ∙ cabled-joined d₁ d₂ n i p j q c.one.count inside in
      let v : check_answer J answer ≡ apart_in setting.chain (length who) (length low) J = rw e at judge in
      told J answer ∙ ap check_of (v ∙ rows_own setting first i p second j q d₁ d₂ read_one read-other b₁ b₂ free_one free_other few who low room)
    where
      told : (d : Domain) (answer : Result Unit) → answer ≡ check_of (check_answer d answer)
      told d (refused r) = refl
      told d (good tt) = refl
