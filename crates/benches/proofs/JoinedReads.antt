-- The joined file reads as the joined domain, or is refused with 3 or 4: judging the joined file is judging the joined domain.
use Prim.Native.Nat.{ℕ, ◌+◌, ◌-◌, ◌≤◌, ◌<◌, ◌^◌}
use mathlib.Core.Path.{◌≡◌, refl, sym, ◌∙◌, ap, ap₂, subst}
use mathlib.Core.Logic.{◌≢◌, ◌↔◌}
use mathlib.Core.Bool.{Bool, true, false}
use mathlib.Core.List.{List, [], ◌++◌}
use native.Mathlib.Omega.{arith}
use lib.ListN.{length, drop}
use lib.Dec.{T, leb, eqb→eq}
use borrow.Author.Tests.{le-leb}
use Rattle.frames.specs.Bytes.{byte}
use Rattle.frames.specs.Refusals.{Result, refused, good, unless, then, refusal}
use Rattle.files.specs.declared.Setting.{Setting}
use Rattle.files.specs.Settings.{in_range}
use Rattle.files.specs.Domain.{Expander, Domain, expander_at, phy_at, attribute_of, is_subtractive}
use Rattle.files.specs.PhyReplaced.{set_phy}
use Rattle.files.specs.ReadDomain.{Bytes, ReadExpander, Read}
use Rattle.files.specs.Lists.{In}
use Rattle.wiring.specs.index.AddressIndex.{IndexRoom}
use Rattle.files.specs.File.{header_unit, domain_read, expanders}
use Rattle.wiring.specs.graph.Devices.{Borne}
use Rattle.wiring.specs.graph.LongChains.{ShortChains}
use Rattle.files.proofs.ListMembers.{is_true}
use Rattle.files.proofs.SettingRanges.{range_iff}
use Rattle.files.proofs.CallResults.{unless-good}
use Rattle.files.proofs.ReadDomain.{read-good, stated-expanders, number_fits}
use Rattle.wiring.proofs.WiredAndLinked.{read-expander}
use Rattle.files.proofs.Domains.{attribute-range}
use Rattle.tables.specs.JudgingCall.{judged_domain, judged}
use Rattle.tables.specs.lists.PreparedLists.{judged_in}
use Rattle.tables.proofs.AcceptedDomains.{judged-file}
use Rattle.tables.proofs.lists.LevelListsByOwn.{judged_own}
use Rattle.benches.specs.JoinConditions.{Free}
use Rattle.benches.specs.Bytes.{address_in, cabled_at, joined_file}
use Rattle.offsets.specs.Offsets.{expander_offset, phy_offset}
use Rattle.benches.specs.Joined.{cabled_to, joined}
use Rattle.benches.specs.BenchRows.{repeated_from, differing, judged_apart, apart_in}
use Rattle.offsets.proofs.Offsets.{units_of, expander-there, head-found, phy-placed}
use Rattle.benches.proofs.JoinedFileWritten.{cabled-rest}
use Rattle.benches.proofs.FileUnits.{UnitBytes, UnitsOf, units_bytes, expanders_all, place_in, units-read, units-cut, tested_all, cable_units, units-cabled, domain-cabled, bytes-units, has-phy, has-less, bytes-append, domain-append, units-append, length-units, tested-is, tested_pass}
use Rattle.benches.proofs.PartsOfJoined.{attribute-inside, joined_length}
use Rattle.benches.proofs.SameAddress.{tested-apart}
use Rattle.benches.proofs.JoinedAccepted.{each-joined, joined-accepted}

-- the address of an expander in a file
pub address_in_lem : (most : Setting) (file : List ℕ) (d : Domain) → domain_read most file ≡ good d → (i : ℕ) → i < length d → address_in file i ≡ (expander_at d i).address
address_in_lem most file d e i h =
    let t = expander-there most file (length d) 0 2 [] d (units_of most file d e).1 i h in
    let o = head-found most file t.used (0 + i) (expander_offset file i) t.unit t.head in
    sym o.address ∙ ap (λ (x : Expander). x.address) t.is

-- one file with the cable, after its header: units that read as the domain with the cabled phy
pub record CabledUnits (file : List ℕ) (d : Domain) (i p s q : ℕ) : Type 0 where
  pub units : List UnitBytes
  pub each : UnitsOf units
  pub domain : expanders_all units ≡ set_phy d i p (cabled_to s q)
  pub bytes : drop 2 (cabled_at file (phy_offset file i p) s q) ≡ units_bytes units

pub cabled-units : (most : Setting) (file : List ℕ) (d : Domain) → domain_read most file ≡ good d → (i p s q : ℕ) → T (is_subtractive (phy_at d i p)) → s ≢ 0 → s < 2 ^ 64 → CabledUnits file d i p s q
cabled-units most file d e i p s q t z k =
    let o = units_of most file d e in
    let c = units-cut most file (length d) 0 2 [] d o.1 in
    let l = attribute-range d 1 i p t (omega arith) in
    let a = phy-placed most file d e i p l in
    let h = has-phy c.units i p (subst (λ (v : Domain). p < length (expander_at v i).phys) (sym c.domain) l) in
    let at = c.place i p (has-less c.units i p h) in
    let n : phy_offset file i p - 2 ≡ place_in c.units i p = omega arith in
    record {
      units = cable_units c.units i p s q;
      each = units-cabled s q z k c.units i p c.each (subst (λ (v : Domain). attribute_of (phy_at v i p) ≡ 1) (sym c.domain) (eqb→eq (attribute_of (phy_at d i p)) 1 t));
      domain = domain-cabled s q z k c.units i p ∙ ap (λ (v : Domain). set_phy v i p (cabled_to s q)) c.domain;
      bytes = cabled-rest s q file (phy_offset file i p) o.0 a.after ∙ ap₂ (λ (v : List ℕ) (m : ℕ). cabled_at v m s q) c.bytes n ∙ bytes-units s q z k c.units i p c.each h;
    }

-- two files of bytes that were read, with phys that can take the cable
module _ (most : Setting) (first : List ℕ) (i p : ℕ) (second : List ℕ) (j q : ℕ) (d₁ d₂ : Domain)
    (e₁ : domain_read most first ≡ good d₁) (e₂ : domain_read most second ≡ good d₂) (b₁ : Bytes first) (b₂ : Bytes second)
    (f₁ : Free d₁ i p) (f₂ : Free d₂ j q) where
  g₁ : Read most d₁
  g₁ = read-good most first d₁ e₁

  g₂ : Read most d₂
  g₂ = read-good most second d₂ e₂

  in₁ : i < length d₁
  in₁ = attribute-inside d₁ 1 i p (omega arith) f₁.subtractive

  in₂ : j < length d₂
  in₂ = attribute-inside d₂ 1 j q (omega arith) f₂.subtractive

  abbrev s₁ : ℕ
  s₁ = address_in first i

  abbrev s₂ : ℕ
  s₂ = address_in second j

  at₁ : s₁ ≡ (expander_at d₁ i).address
  at₁ = address_in_lem most first d₁ e₁ i in₁

  at₂ : s₂ ≡ (expander_at d₂ j).address
  at₂ = address_in_lem most second d₂ e₂ j in₂

  c₁ : CabledUnits first d₁ i p s₂ q
  c₁ = cabled-units most first d₁ e₁ i p s₂ q f₁.subtractive (λ z. (read-expander most d₂ g₂ j in₂).borne (sym at₂ ∙ z)) (number_fits second (expander_offset second j) 8 b₂)

  c₂ : CabledUnits second d₂ j q s₁ p
  c₂ = cabled-units most second d₂ e₂ j q s₁ p f₂.subtractive (λ z. (read-expander most d₁ g₁ i in₁).borne (sym at₁ ∙ z)) (number_fits first (expander_offset first i) 8 b₁)

  abbrev all : List UnitBytes
  all = c₁.units ++ c₂.units

  all-domain : expanders_all all ≡ joined d₁ i p d₂ j q
  unfolding joined
  all-domain =
      domain-append c₁.units c₂.units
      ∙ ap₂ (λ (u v : Domain). u ++ v) (c₁.domain ∙ ap (λ (s : ℕ). set_phy d₁ i p (cabled_to s q)) at₂) (c₂.domain ∙ ap (λ (s : ℕ). set_phy d₂ j q (cabled_to s p)) at₁)

  all-bytes : drop 2 (joined_file first i p second j q) ≡ units_bytes all
  unfolding joined_file
  all-bytes = ap₂ (λ (u v : List ℕ). u ++ v) c₁.bytes c₂.bytes ∙ sym (bytes-append c₁.units c₂.units)

  sum : byte first 1 + byte second 1 ≡ length all
  sum =
      let a = stated-expanders most first d₁ e₁ in
      let b = stated-expanders most second d₂ e₂ in
      let l = length-units all in
      let n = ap length all-domain in
      let m = joined_length d₁ i p d₂ j q in
      omega arith

  -- 3 where there are too many expanders, else 3 and 4 of the units
  read_is : domain_read most (joined_file first i p second j q) ≡ unless (leb (length all) most.expanders) (refusal 3 0 0) (tested_all most 0 [] all)
  unfolding domain_read header_unit joined_file
  read_is =
      let file = joined_file first i p second j q in
      let o : in_range most ≡ true = is_true (in_range most) ((range_iff most).1 g₁.range) in
      let z : 2 ≤ length file = omega arith in
      let n = sum in
      let a = stated-expanders most first d₁ e₁ in
      let k : leb 1 (byte first 1 + byte second 1) ≡ true = le-leb 1 (byte first 1 + byte second 1) (omega (arith, g₁.some)) in
      let r = units-read most all (units-append c₁.units c₂.units c₁.each c₂.each) file [] 0 2 z all-bytes in
      simp (o, le-leb 2 (length file) z, k) (by_size (leb (byte first 1 + byte second 1) most.expanders) (ap (λ (m : ℕ). leb m most.expanders) n) (ap (λ (m : ℕ). expanders most file m 0 2 []) n ∙ r))
    where
      by_size : (b : Bool) → b ≡ leb (length all) most.expanders → {y : Result Domain} → expanders most (joined_file first i p second j q) (byte first 1 + byte second 1) 0 2 [] ≡ y
          → then (unless b (refusal 3 0 0) (good (byte first 1 + byte second 1))) (λ n. expanders most (joined_file first i p second j q) n 0 2 []) ≡ unless (leb (length all) most.expanders) (refusal 3 0 0) y
      by_size true e f = rw (← e) f
      by_size false e f = rw (← e)

  length-all : length all ≡ length d₁ + length d₂
  length-all = sym (length-units all) ∙ ap length all-domain ∙ joined_length d₁ i p d₂ j q

  -- it reads as the joined domain exactly when that is one that causes 22 and 1 to 6 leave
  pub joined-file : (d : Domain) → (domain_read most (joined_file first i p second j q) ≡ good d) ↔ ((joined d₁ i p d₂ j q ≡ d) × Read most (joined d₁ i p d₂ j q))
  joined-file d = (there, back)
    where
      there : domain_read most (joined_file first i p second j q) ≡ good d → (joined d₁ i p d₂ j q ≡ d) × Read most (joined d₁ i p d₂ j q)
      there e =
          let a = unless-good (leb (length all) most.expanders) (refusal 3 0 0) (tested_all most 0 [] all) d (sym read_is ∙ e) in
          let same = sym all-domain ∙ tested-is most all 0 [] d a.1 in
          (same, subst (Read most) (sym same) (read-good most (joined_file first i p second j q) d e))

      back : (joined d₁ i p d₂ j q ≡ d) × Read most (joined d₁ i p d₂ j q) → domain_read most (joined_file first i p second j q) ≡ good d
      back h =
          let g = subst (Read most) (sym all-domain) h.1 in
          let l = length-units all in
          let t = tested_pass most all 0 [] (units-append c₁.units c₂.units c₁.each c₂.each) g.each g.differ (λ s x y. y) in
          let b : leb (length all) most.expanders ≡ true = le-leb (length all) most.expanders (omega (arith, g.few)) in
          read_is ∙ rw b (t ∙ ap good (all-domain ∙ h.0))

  -- so judging the joined file is judging the joined domain
  pub judging-joined : (d : Domain) → (judged most (joined_file first i p second j q) ≡ good d)
      ↔ ((joined d₁ i p d₂ j q ≡ d) × (Read most (joined d₁ i p d₂ j q) × (judged_domain most.chain (joined d₁ i p d₂ j q) ≡ good (joined d₁ i p d₂ j q))))
  judging-joined d = (
    λ e. let a = (judged-file most (joined_file first i p second j q) d).0 e in
        let b = (joined-file d).0 a.0 in
        (b.0, (b.1, subst (λ (v : Domain). judged_domain most.chain v ≡ good v) (sym b.0) a.1)),
    λ h. (judged-file most (joined_file first i p second j q) d).1 ((joined-file d).1 (h.0, h.1.0), subst (λ (v : Domain). judged_domain most.chain v ≡ good v) h.0 h.1.1),
  )

  -- the joined file of two accepted ones is accepted exactly when the limits of the setting are kept and no address is a device's in both
  pub joined-exactly : judged_domain most.chain d₁ ≡ good d₁ → judged_domain most.chain d₂ ≡ good d₂
      → (judged most (joined_file first i p second j q) ≡ good (joined d₁ i p d₂ j q))
      ↔ ((length d₁ + length d₂ ≤ most.expanders) × (((s : ℕ) → Borne d₁ s → Borne d₂ s → ⊥) × ShortChains most.chain (joined d₁ i p d₂ j q)))
  joined-exactly j₁ j₂ = (
    λ e. (joined-accepted most d₁ i p d₂ j q g₁ g₂ most.chain j₁ j₂ f₁ f₂).0 ((judging-joined (joined d₁ i p d₂ j q)).0 e).1,
    λ h. (judging-joined (joined d₁ i p d₂ j q)).1 (refl, (joined-accepted most d₁ i p d₂ j q g₁ g₂ most.chain j₁ j₂ f₁ f₂).1 h),
  )

  -- with no more expanders than the setting's it reads as the joined domain, unless 4 holds of that
  pub joined-apart : length d₁ + length d₂ ≤ most.expanders → domain_read most (joined_file first i p second j q) ≡ differing (joined d₁ i p d₂ j q)
  unfolding differing
  joined-apart h =
      let n : length all ≡ length (joined d₁ i p d₂ j q) = sym (length-units all) ∙ ap length all-domain in
      let b : leb (length all) most.expanders ≡ true = le-leb (length all) most.expanders (let l = length-all in omega arith) in
      let t = tested-apart most all [] (joined d₁ i p d₂ j q) 0 [] (units-append c₁.units c₂.units c₁.each c₂.each)
      (subst (λ (v : Domain). (x : Expander) → In x v → ReadExpander most x) (sym all-domain) (each-joined most d₁ i p d₂ j q g₁ g₂ f₁ f₂)) (sym all-domain) refl refl in
      read_is ∙ rw b (t ∙ ap₂ (λ (k : ℕ) (v : Domain). unless (leb (length (joined d₁ i p d₂ j q)) (repeated_from (joined d₁ i p d₂ j q) k 0)) (refusal 4 (repeated_from (joined d₁ i p d₂ j q) k 0) 0) (good v)) n all-domain)

  -- judging the joined rows, where 4 comes first, is judging the joined file
  pub rows-judged : length d₁ + length d₂ ≤ most.expanders → judged_apart most.chain (joined d₁ i p d₂ j q) ≡ judged most (joined_file first i p second j q)
  rows-judged h = ap (λ (x : Result Domain). then x (judged_domain most.chain)) (sym (joined-apart h))

  -- and so by own lists, with room for the entries
  pub rows_own : length d₁ + length d₂ ≤ most.expanders → (who low : List ℕ) → IndexRoom (joined d₁ i p d₂ j q) who low
      → apart_in most.chain (length who) (length low) (joined d₁ i p d₂ j q) ≡ judged most (joined_file first i p second j q)
  rows_own h who low room = go (differing (joined d₁ i p d₂ j q)) refl ∙ rows-judged h
    where
      go : (x : Result Domain) → differing (joined d₁ i p d₂ j q) ≡ x → then x (judged_in most.chain (length who) (length low)) ≡ then x (judged_domain most.chain)
      go (refused r) e = refl
      go (good d) e =
          let a = joined-apart h ∙ e in
          judged_own most (joined_file first i p second j q) who low d a (subst (λ (v : Domain). IndexRoom v who low) ((joined-file d).0 a).0 room)
