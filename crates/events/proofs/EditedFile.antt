-- The edited file reads as the edited domain: every unit but the one named has the bytes that it had, and ends where it ended.
use mathlib.Core.Path.{◌≡◌, refl, sym, ap, ap₂, subst, ◌∙◌}
use mathlib.Core.Logic.{◌⊎◌, inl, inr, ⊎_elim, ◌≢◌}
use mathlib.Core.List.{List, [], ◌∷◌, ◌++◌}
use mathlib.Core.Bool.{Bool, true, false, cond, not, ◌&&◌}
use Prim.Native.Nat.{ℕ, zero, suc, ◌+◌, ◌*◌, ◌-◌, ◌/◌, ◌%◌, ◌^◌, ◌≤◌, ◌<◌}
use native.Mathlib.Nat.{pow-suc}
use native.Mathlib.Omega.{arith}
use lib.ListN.{length, get_or, take, drop, set, length-set, length-drop, get_or-append}
use lib.Seq.{sets, ext_get_or, get_or-drop, get_or-take, get_or_at, get_or-set_same, get_or-set_other, length-sets, length-take-le}
use lib.Dec.{T, eqb, leb, eqb→eq}
use borrow.Author.Tests.{eq-eqb, ne_eqb, eqb-true}
use Rattle.frames.specs.Bytes.{byte, bits, number_at, bytes_of}
use Rattle.frames.specs.Refusals.{Result, refused, good, unless, then, refusal}
use Rattle.frames.specs.Sizes.{short_size, long_size, long_length, size_stated, frame_size}
use Rattle.frames.specs.ReportGeneral.{general_fixed, general_fields, general_in, general_read}
use Rattle.frames.specs.Discovery.{discover_fixed, discover_fields, by_result, discover_read}
use Rattle.frames.specs.declared.Discovered.{Discovered}
use Rattle.frames.specs.declared.Discovered.TheVariants.{Vacant as vacant, Fields as fields}
use Rattle.frames.specs.declared.General.{General}
use Rattle.frames.specs.declared.Discover.{Discover}
use Rattle.frames.specs.declared.Response.{Response}
use Rattle.frames.specs.declared.Response.TheVariants.{ReportGeneral, Discover as DiscoverResponse}
use Rattle.frames.proofs.ByteNumbers.{length-bytes_of}
use Rattle.frames.proofs.LongFrames.{number-alike, sized, size-least}
use Rattle.frames.proofs.ValuesPut.{sets-stay, sets_stand}
use Rattle.files.specs.declared.Setting.{Setting}
use Rattle.files.specs.declared.ExpanderUnit.{ExpanderUnit}
use Rattle.files.specs.declared.PhyFields.{PhyFields}
use Rattle.files.specs.declared.Phy.{Phy}
use Rattle.files.specs.declared.Phy.TheVariants.{Vacant, Present}
use Rattle.files.specs.Lists.{is_in}
use Rattle.files.specs.Settings.{within, in_range}
use Rattle.files.specs.Domain.{Domain, expander_at, phy_at}
use Rattle.files.specs.PhyReplaced.{with_phy, set_phy}
use Rattle.files.specs.File.{parsed, placed, size_at, fields_of, ranged, phy_of, phy_unit, phy_units, unit_of, unit_tested, expander_unit, expander_of, expanders, header_unit, domain_read}
use Rattle.files.specs.declared.Parsed.{Parsed}
use Rattle.files.specs.UnitAnswers.{ends_at}
use Rattle.files.proofs.ListMembers.{is_true, and_left, and_right}
use Rattle.files.proofs.CallResults.{never, good-one, unless-good, good-unless, then-good, good-then}
use Rattle.files.proofs.UnitReading.{unit_at, unit-cut, unit-by, size-whole, size-within}
use Rattle.files.proofs.Domains.{phy-range}
use Rattle.tables.specs.events.ReplugCall.{pluggable, replug}
use Rattle.events.specs.declared.Event.{Event}
use Rattle.events.specs.Events.{named, edited}
use Rattle.events.specs.EventFile.{typed, frame_edited, file_edited}
use Rattle.offsets.specs.Offsets.{phy_offset}
use Rattle.events.proofs.FrameOffsets.{past_frame, past_phys, phy_frame, frame-offset}

-- where a unit that was read ends: after its frame
module _ {A B : Type 0} where
  ends : (i p m : ℕ) (x : Result A) (test : A → Result B) (u : Parsed B) → then (placed i p x) (λ v. then (test v) (ends_at m)) ≡ good u → u.next ≡ m
  ends i p m (refused r) test u e = never _ u e
  ends i p m (good v) test u e = let t = then-good (test v) (ends_at m) u e in sym (ap (λ (y : Parsed B). y.next) (good-one (parsed t.0 m) u t.2))

pub past-stated : (kind : Response) (file : List ℕ) (at n : ℕ) → size_at kind file at ≡ good n → at + n ≡ past_frame kind file at
unfolding past_frame
past-stated kind file at n e =
    let w = size-whole kind file at n e in
    let b : byte (drop at file) 3 ≡ byte file (at + 3) = get_or-drop at file 3 0 in
    ⊎_elim (λ h. rw (eq-eqb (byte file (at + 3)) 0x00 (sym b ∙ h.0)) (ap (λ (k : ℕ). at + k) h.1))
    (λ h. rw (ne_eqb (byte file (at + 3)) 0x00 (λ z. long kind (sym h.0 ∙ b ∙ z))) (ap (λ (k : ℕ). at + k) h.1))
    (sized kind (drop at file) n w.size).1
  where
    long : (kind : Response) → long_length kind ≡ 0x00 → ⊥
    long ReportGeneral z = omega arith
    long DiscoverResponse z = omega arith

past_more : (file : List ℕ) (at : ℕ) → at + short_size DiscoverResponse ≤ past_frame DiscoverResponse file at
unfolding past_frame
past_more file at = go (eqb (byte file (at + 3)) 0x00)
  where
    go : (b : Bool) → at + short_size DiscoverResponse ≤ at + cond b (short_size DiscoverResponse) (long_size DiscoverResponse)
    go true = omega arith
    go false = omega arith

general-more : (file : List ℕ) (at : ℕ) → at ≤ past_frame ReportGeneral file at
unfolding past_frame
general-more file at = omega arith

phys-more : (file : List ℕ) (n at : ℕ) → at ≤ past_phys file n at
unfolding past_phys
phys-more file zero at = omega arith
phys-more file (suc n) at = omega (arith, past_more file at, phys-more file n (past_frame DiscoverResponse file at))

phys-before : (file : List ℕ) (n q at : ℕ) → q < n → past_phys file q at + short_size DiscoverResponse ≤ past_phys file n at
unfolding past_phys
phys-before file zero q at h = absurd (omega arith)
phys-before file (suc n) zero at h = omega (arith, past_more file at, phys-more file n (past_frame DiscoverResponse file at))
phys-before file (suc n) (suc q) at h = phys-before file n q (past_frame DiscoverResponse file at) (omega arith)

frame-more : (file : List ℕ) (e q at : ℕ) → at ≤ phy_frame file e q at
unfolding phy_frame
frame-more file zero q at = omega (arith, general-more file (at + 8), phys-more file q (past_frame ReportGeneral file (at + 8)))
frame-more file (suc e) q at =
    let n = past_phys file (byte file (at + 8 + 9)) (past_frame ReportGeneral file (at + 8)) in
    omega (arith, general-more file (at + 8), phys-more file (byte file (at + 8 + 9)) (past_frame ReportGeneral file (at + 8)), frame-more file e q n)

-- where the units of phys end
phy-ends : (file : List ℕ) (own_address i p at : ℕ) (u : Parsed Phy) → phy_unit file own_address i p at ≡ good u → u.next ≡ past_frame DiscoverResponse file at
unfolding phy_unit
phy-ends file own_address i p at u e = go (size_at DiscoverResponse file at) refl
  where
    go : (x : Result ℕ) → size_at DiscoverResponse file at ≡ x → u.next ≡ past_frame DiscoverResponse file at
    go (refused r) f = never _ u (sym (unit-cut DiscoverResponse discover_read (phy_of own_address i p) i p file at r f) ∙ e)
    go (good n) f =
        ends i p (at + n) (discover_read (take n (drop at file))) (phy_of own_address i p) u (sym (unit-by DiscoverResponse discover_read (phy_of own_address i p) i p file at n _ f refl) ∙ e)
        ∙ past-stated DiscoverResponse file at n f

phys-end : (file : List ℕ) (own_address i n p at : ℕ) (us : Parsed (List Phy)) → phy_units file own_address i n p at ≡ good us → (us.next ≡ past_phys file n at) × (length us.value ≡ n)
unfolding phy_units past_phys
phys-end file own_address i zero p at us e = let z = good-one (parsed [] at) us e in (sym (ap (λ (y : Parsed (List Phy)). y.next) z), sym (ap (λ (y : Parsed (List Phy)). length y.value) z))
phys-end file own_address i (suc n) p at us e =
    let u = then-good (phy_unit file own_address i p at) _ us e in
    let v = then-good (phy_units file own_address i n (p + 1) u.0.next) _ us u.2 in
    let z = good-one (parsed (u.0.value ∷ v.0.value) v.0.next) us v.2 in
    let r = phys-end file own_address i n (p + 1) u.0.next v.0 v.1 in (
      sym (ap (λ (y : Parsed (List Phy)). y.next) z) ∙ r.0 ∙ ap (past_phys file n) (phy-ends file own_address i p at u.0 u.1),
      sym (ap (λ (y : Parsed (List Phy)). length y.value) z) ∙ ap suc r.1,
    )

-- an expander's unit: where its frame ends, and its number of phys
expander-ends : (most : Setting) (file used : List ℕ) (i at : ℕ) (u : Parsed ExpanderUnit) → expander_unit most file used i at ≡ good u
    → (u.next ≡ past_frame ReportGeneral file (at + 8)) × (u.value.phys ≡ byte file (at + 8 + 9))
unfolding expander_unit general_read
expander-ends most file used i at u e = go (size_at ReportGeneral file (at + 8)) refl
  where
    test : General → Result ExpanderUnit
    test g = unit_tested most used i (unit_of (number_at file at 8) g)

    go : (x : Result ℕ) → size_at ReportGeneral file (at + 8) ≡ x → (u.next ≡ past_frame ReportGeneral file (at + 8)) × (u.value.phys ≡ byte file (at + 8 + 9))
    go (refused r) f = never _ u (sym (unit-cut ReportGeneral general_read test i 0 file (at + 8) r f) ∙ e)
    go (good n) f =
        let x = general_read (take n (drop (at + 8) file)) in
        let k = sym (unit-by ReportGeneral general_read test i 0 file (at + 8) n x f refl) ∙ e in (
          ends i 0 (at + 8 + n) x test u k ∙ past-stated ReportGeneral file (at + 8) n f,
          counted x refl k ∙ get_or-take n (drop (at + 8) file) 9 0 (omega (arith, (size-within ReportGeneral file (at + 8) n f).0)) ∙ get_or-drop (at + 8) file 9 0,
        )
      where
        s : List ℕ
        s = take n (drop (at + 8) file)

        read : (g : General) → general_read s ≡ good g → g.phys ≡ byte s 9
        read g q =
            let t = then-good (frame_size ReportGeneral s) _ g q in
            let w = unless-good (eqb (length s) t.0) (refusal 1 0 0) (general_in s) g t.2 in
            let z = unless-good (general_fixed s) (refusal 2 0 0) (good (general_fields s)) g w.1 in
            sym (ap (λ (y : General). y.phys) (good-one (general_fields s) g z.1))

        counted : (x : Result General) → general_read s ≡ x → then (placed i 0 x) (λ v. then (test v) (ends_at (at + 8 + n))) ≡ good u → u.value.phys ≡ byte s 9
        counted (refused r) q k = never _ u k
        counted (good g) q k =
            let t = then-good (test g) (ends_at (at + 8 + n)) u k in
            let w = unless-good (within most.phys g.phys) (refusal 3 i 0) _ t.0 t.1 in
            let y = unless-good (not (eqb (number_at file at 8) 0) && not (is_in (number_at file at 8) used)) (refusal 4 i 0) (good (unit_of (number_at file at 8) g)) t.0 w.1 in
            sym (ap (λ (y : Parsed ExpanderUnit). y.value.phys) (good-one (parsed t.0 (at + 8 + n)) u t.2)) ∙ sym (ap (λ (y : ExpanderUnit). y.phys) (good-one (unit_of (number_at file at 8) g) t.0 y.1)) ∙ read g q

-- files of one length with the same byte 3 of a frame: the same size of it
size-alike : (file file' : List ℕ) → length file' ≡ length file → (kind : Response) (at : ℕ) → byte file' (at + 3) ≡ byte file (at + 3) → size_at kind file' at ≡ size_at kind file at
unfolding size_at frame_size
size-alike file file' long kind at h =
    ap₂ (λ l b. then (unless (leb 4 l) (refusal 1 0 0) (size_stated kind b)) (λ n. unless (leb n l) (refusal 1 0 0) (good n)))
    (length-drop at file' ∙ ap (λ (n : ℕ). n - at) long ∙ sym (length-drop at file)) (get_or-drop at file' 3 0 ∙ h ∙ sym (get_or-drop at file 3 0))

-- two files of one length that agree outside bytes 12 to 32 of the frame at `lo`
module _ (file file' : List ℕ) (lo a : ℕ) (long : length file' ≡ length file)
    (same : (k : ℕ) → (k < lo + 12) ⊎ (lo + 33 ≤ k) → byte file' k ≡ byte file k)
    (unit : (own_address i p : ℕ) (u : Parsed Phy) → phy_unit file own_address i p lo ≡ good u → T (pluggable u.value) → phy_unit file' own_address i p lo ≡ good (parsed (replug a u.value) u.next)) where
  -- bytes from `from` up to `to` are not among them
  abbrev Apart : ℕ → ℕ → Type 0
  Apart from to = (to ≤ lo + 12) ⊎ (lo + 33 ≤ from)

  same_in : (from to k : ℕ) → Apart from to → from ≤ k → k < to → byte file' k ≡ byte file k
  same_in from to k h l m = same k (⊎_elim (λ o. inl (omega arith)) (λ o. inr (omega arith)) h)

  part-alike : (at n : ℕ) → at + n ≤ length file → ((k : ℕ) → k < n → byte file' (at + k) ≡ byte file (at + k)) → take n (drop at file') ≡ take n (drop at file)
  part-alike at n l h =
      let x = length-drop at file in
      let y = length-drop at file' in
      let z = long in
      let t = length-take-le n (drop at file) (omega arith) in
      let t' = length-take-le n (drop at file') (omega arith) in
      ext_get_or 0 (take n (drop at file')) (take n (drop at file)) (t' ∙ sym t) (λ k m.
      let o : k < n = rw t' at m in
      get_or-take n (drop at file') k 0 o ∙ get_or-drop at file' k 0 ∙ h k o ∙ sym (get_or-drop at file k 0) ∙ sym (get_or-take n (drop at file) k 0 o))

  module _ {A B : Type 0} (kind : Response) (read : List ℕ → Result A) (test : A → Result B) (i p at : ℕ) where
    unit-alike : (u : Parsed B) → unit_at kind read test i p file at ≡ good u → Apart at u.next → unit_at kind read test i p file' at ≡ good u
    unit-alike u e h = go (size_at kind file at) refl
      where
        go : (x : Result ℕ) → size_at kind file at ≡ x → unit_at kind read test i p file' at ≡ good u
        go (refused r) f = never _ u (sym (unit-cut kind read test i p file at r f) ∙ e)
        go (good n) f =
            let x = read (take n (drop at file)) in
            let k = sym (unit-by kind read test i p file at n x f refl) ∙ e in
            let m : u.next ≡ at + n = ends i p (at + n) x test u k in
            let w = size-within kind file at n f in
            let g : Apart at (at + n) = ⊎_elim (λ o. inl (omega arith)) inr h in
            unit-by kind read test i p file' at n x (size-alike file file' long kind at (same_in at (at + n) (at + 3) g (omega arith) (omega (arith, w.0))) ∙ f)
            (ap read (part-alike at n w.1 (λ j l. same_in at (at + n) (at + j) g (omega arith) (omega arith))))
            ∙ k

  phy-alike : (own_address i p at : ℕ) (u : Parsed Phy) → phy_unit file own_address i p at ≡ good u → Apart at u.next → phy_unit file' own_address i p at ≡ good u
  unfolding phy_unit
  phy-alike own_address i p at = unit-alike DiscoverResponse discover_read (phy_of own_address i p) i p at

  expander-alike : (most : Setting) (used : List ℕ) (i at : ℕ) (u : Parsed ExpanderUnit) → expander_unit most file used i at ≡ good u → Apart at u.next
      → expander_unit most file' used i at ≡ good u
  unfolding expander_unit
  expander-alike most used i at u e h =
      let m = (expander-ends most file used i at u e).0 in
      let l = general-more file (at + 8) in
      let n : number_at file' at 8 ≡ number_at file at 8 = number-alike file' file at at 8 (λ j o. same_in at u.next (at + j) h (omega arith) (omega arith)) in
      rw n (unit-alike ReportGeneral general_read (λ g. unit_tested most used i (unit_of (number_at file at 8) g)) i 0 (at + 8) u e (⊎_elim inl (λ o. inr (omega arith)) h))

  phys-alike : (own_address i n p at : ℕ) (us : Parsed (List Phy)) → phy_units file own_address i n p at ≡ good us → Apart at us.next → phy_units file' own_address i n p at ≡ good us
  unfolding phy_units
  phys-alike own_address i zero p at us e h = e
  phys-alike own_address i (suc n) p at us e h =
      let u = then-good (phy_unit file own_address i p at) _ us e in
      let v = then-good (phy_units file own_address i n (p + 1) u.0.next) _ us u.2 in
      let z = ap (λ (y : Parsed (List Phy)). y.next) (good-one (parsed (u.0.value ∷ v.0.value) v.0.next) us v.2) in
      let b = phy-ends file own_address i p at u.0 u.1 in
      let c = past_more file at in
      let g = (phys-end file own_address i n (p + 1) u.0.next v.0 v.1).0 in
      let o = phys-more file n u.0.next in
      good-then (phy_unit file' own_address i p at) _ u.0 us (phy-alike own_address i p at u.0 u.1 (⊎_elim (λ k. inl (omega arith)) inr h))
      (good-then (phy_units file' own_address i n (p + 1) u.0.next) _ v.0 us (phys-alike own_address i n (p + 1) u.0.next v.0 v.1 (⊎_elim (λ k. inl (omega arith)) (λ k. inr (omega arith)) h)) v.2)

  phys-edited : (own_address i n p at q : ℕ) (us : Parsed (List Phy)) → phy_units file own_address i n p at ≡ good us → lo ≡ past_phys file q at → T (pluggable (get_or us.value q (Vacant 0)))
      → phy_units file' own_address i n p at ≡ good (parsed (set us.value q (replug a (get_or us.value q (Vacant 0)))) us.next)
  unfolding phy_units past_phys
  phys-edited own_address i zero p at q us e l f = absurd (subst (λ (y : Parsed (List Phy)). T (pluggable (get_or y.value q (Vacant 0)))) (sym (good-one (parsed [] at) us e)) f)
  phys-edited own_address i (suc n) p at zero us e l f =
      let u = then-good (phy_unit file own_address i p at) _ us e in
      let v = then-good (phy_units file own_address i n (p + 1) u.0.next) _ us u.2 in
      let z : parsed (u.0.value ∷ v.0.value) v.0.next ≡ us = good-one (parsed (u.0.value ∷ v.0.value) v.0.next) us v.2 in
      let b = phy-ends file own_address i p at u.0 u.1 in
      let c = past_more file at in
      let ψ : Phy = replug a u.0.value in
      let here = unit own_address i p u.0 (subst (λ (k : ℕ). phy_unit file own_address i p k ≡ good u.0) (sym l) u.1) (subst (λ (y : Parsed (List Phy)). T (pluggable (get_or y.value 0 (Vacant 0)))) (sym z) f) in
      subst (λ (y : Parsed (List Phy)). phy_units file' own_address i (suc n) p at ≡ good (parsed (set y.value 0 (replug a (get_or y.value 0 (Vacant 0)))) y.next)) z
      (good-then (phy_unit file' own_address i p at) _ (parsed ψ u.0.next) (parsed (ψ ∷ v.0.value) v.0.next) (subst (λ (k : ℕ). phy_unit file' own_address i p k ≡ good (parsed ψ u.0.next)) l here)
      (good-then (phy_units file' own_address i n (p + 1) u.0.next) _ v.0 (parsed (ψ ∷ v.0.value) v.0.next) (phys-alike own_address i n (p + 1) u.0.next v.0 v.1 (inr (omega arith))) refl))
  phys-edited own_address i (suc n) p at (suc q) us e l f =
      let u = then-good (phy_unit file own_address i p at) _ us e in
      let v = then-good (phy_units file own_address i n (p + 1) u.0.next) _ us u.2 in
      let z : parsed (u.0.value ∷ v.0.value) v.0.next ≡ us = good-one (parsed (u.0.value ∷ v.0.value) v.0.next) us v.2 in
      let b = phy-ends file own_address i p at u.0 u.1 in
      let o = phys-more file q (past_frame DiscoverResponse file at) in
      let w : List Phy = set v.0.value q (replug a (get_or v.0.value q (Vacant 0))) in
      let r = phys-edited own_address i n (p + 1) u.0.next q v.0 v.1 (l ∙ ap (past_phys file q) (sym b)) (subst (λ (y : Parsed (List Phy)). T (pluggable (get_or y.value (suc q) (Vacant 0)))) (sym z) f) in
      subst (λ (y : Parsed (List Phy)). phy_units file' own_address i (suc n) p at ≡ good (parsed (set y.value (suc q) (replug a (get_or y.value (suc q) (Vacant 0)))) y.next)) z
      (good-then (phy_unit file' own_address i p at) _ u.0 (parsed (u.0.value ∷ w) v.0.next) (phy-alike own_address i p at u.0 u.1 (inl (omega arith)))
      (good-then (phy_units file' own_address i n (p + 1) u.0.next) _ (parsed w v.0.next) (parsed (u.0.value ∷ w) v.0.next) r refl))

  expanders-alike : (most : Setting) (n i at : ℕ) (used : List ℕ) (d : Domain) → expanders most file n i at used ≡ good d → lo + 33 ≤ at → expanders most file' n i at used ≡ good d
  unfolding expanders
  expanders-alike most zero i at used d e h = ap (λ (k : ℕ). unless (eqb at k) (refusal 1 i 0) (good [])) long ∙ e
  expanders-alike most (suc n) i at used d e h =
      let u = then-good (expander_unit most file used i at) _ d e in
      let v = then-good (phy_units file u.0.value.address i u.0.value.phys 0 u.0.next) _ d u.2 in
      let w = then-good (expanders most file n (i + 1) v.0.next (used ++ (u.0.value.address ∷ []))) _ d v.2 in
      let b = (expander-ends most file used i at u.0 u.1).0 in
      let c = general-more file (at + 8) in
      let g = (phys-end file u.0.value.address i u.0.value.phys 0 u.0.next v.0 v.1).0 in
      let o = phys-more file u.0.value.phys u.0.next in
      good-then (expander_unit most file' used i at) _ u.0 d (expander-alike most used i at u.0 u.1 (inr h))
      (good-then (phy_units file' u.0.value.address i u.0.value.phys 0 u.0.next) _ v.0 d (phys-alike u.0.value.address i u.0.value.phys 0 u.0.next v.0 v.1 (inr (omega arith)))
      (good-then (expanders most file' n (i + 1) v.0.next (used ++ (u.0.value.address ∷ []))) _ w.0 d (expanders-alike most n (i + 1) v.0.next (used ++ (u.0.value.address ∷ [])) w.0 w.1 (omega arith)) w.2))

  expanders-edited : (most : Setting) (n i at : ℕ) (used : List ℕ) (d : Domain) (e q : ℕ) → expanders most file n i at used ≡ good d → lo ≡ phy_frame file e q at
      → T (pluggable (phy_at d e q)) → expanders most file' n i at used ≡ good (set_phy d e q (replug a (phy_at d e q)))
  unfolding expanders phy_frame set_phy with_phy
  expanders-edited most zero i at used d e q h l f =
      absurd (subst (λ (y : Domain). T (pluggable (phy_at y e q))) (sym (good-one [] d (unless-good (eqb at (length file)) (refusal 1 i 0) (good []) d h).1)) f)
  expanders-edited most (suc n) i at used d zero q h l f =
      let u = then-good (expander_unit most file used i at) _ d h in
      let v = then-good (phy_units file u.0.value.address i u.0.value.phys 0 u.0.next) _ d u.2 in
      let w = then-good (expanders most file n (i + 1) v.0.next (used ++ (u.0.value.address ∷ []))) _ d v.2 in
      let z : expander_of u.0.value v.0.value ∷ w.0 ≡ d = good-one (expander_of u.0.value v.0.value ∷ w.0) d w.2 in
      let f' = subst (λ (y : Domain). T (pluggable (phy_at y 0 q))) (sym z) f in
      let b = (expander-ends most file used i at u.0 u.1).0 in
      let l' : lo ≡ past_phys file q u.0.next = l ∙ ap (past_phys file q) (sym b) in
      let k = phys-end file u.0.value.address i u.0.value.phys 0 u.0.next v.0 v.1 in
      let there = phy-range (expander_of u.0.value v.0.value ∷ w.0) pluggable 0 q f' (λ t. t) in
      let o = phys-more file q u.0.next in
      let g = phys-before file u.0.value.phys q u.0.next (omega (arith, k.1)) in
      let φs : List Phy = set v.0.value q (replug a (get_or v.0.value q (Vacant 0))) in
      subst (λ (y : Domain). expanders most file' (suc n) i at used ≡ good (set_phy y 0 q (replug a (phy_at y 0 q)))) z
      (good-then (expander_unit most file' used i at) _ u.0 (expander_of u.0.value φs ∷ w.0) (expander-alike most used i at u.0 u.1 (inl (omega arith)))
      (good-then (phy_units file' u.0.value.address i u.0.value.phys 0 u.0.next) _ (parsed φs v.0.next) (expander_of u.0.value φs ∷ w.0) (phys-edited u.0.value.address i u.0.value.phys 0 u.0.next q v.0 v.1 l' f')
      (good-then (expanders most file' n (i + 1) v.0.next (used ++ (u.0.value.address ∷ []))) _ w.0 (expander_of u.0.value φs ∷ w.0) (expanders-alike most n (i + 1) v.0.next (used ++ (u.0.value.address ∷ [])) w.0 w.1 (omega (arith, k.0))) refl)))
  expanders-edited most (suc n) i at used d (suc e) q h l f =
      let u = then-good (expander_unit most file used i at) _ d h in
      let v = then-good (phy_units file u.0.value.address i u.0.value.phys 0 u.0.next) _ d u.2 in
      let w = then-good (expanders most file n (i + 1) v.0.next (used ++ (u.0.value.address ∷ []))) _ d v.2 in
      let z : expander_of u.0.value v.0.value ∷ w.0 ≡ d = good-one (expander_of u.0.value v.0.value ∷ w.0) d w.2 in
      let f' = subst (λ (y : Domain). T (pluggable (phy_at y (suc e) q))) (sym z) f in
      let b = expander-ends most file used i at u.0 u.1 in
      let k = (phys-end file u.0.value.address i u.0.value.phys 0 u.0.next v.0 v.1).0 in
      let m : v.0.next ≡ past_phys file (byte file (at + 8 + 9)) (past_frame ReportGeneral file (at + 8)) = k ∙ ap₂ (past_phys file) b.1 b.0 in
      let l' : lo ≡ phy_frame file e q v.0.next = l ∙ ap (phy_frame file e q) (sym m) in
      let o = frame-more file e q v.0.next in
      let g = phys-more file u.0.value.phys u.0.next in
      let x : Domain = set_phy w.0 e q (replug a (phy_at w.0 e q)) in
      subst (λ (y : Domain). expanders most file' (suc n) i at used ≡ good (set_phy y (suc e) q (replug a (phy_at y (suc e) q)))) z
      (good-then (expander_unit most file' used i at) _ u.0 (expander_of u.0.value v.0.value ∷ x) (expander-alike most used i at u.0 u.1 (inl (omega arith)))
      (good-then (phy_units file' u.0.value.address i u.0.value.phys 0 u.0.next) _ v.0 (expander_of u.0.value v.0.value ∷ x) (phys-alike u.0.value.address i u.0.value.phys 0 u.0.next v.0 v.1 (inl (omega arith)))
      (good-then (expanders most file' n (i + 1) v.0.next (used ++ (u.0.value.address ∷ []))) _ x (expander_of u.0.value v.0.value ∷ x) (expanders-edited most n (i + 1) v.0.next (used ++ (u.0.value.address ∷ [])) w.0 e q w.1 l' f') refl)))

-- a number's bytes give it back
number-back : (s : List ℕ) (i w x : ℕ) → x < 256 ^ w → ((j : ℕ) → j < w → byte s (i + j) ≡ byte (bytes_of w x) j) → number_at s i w ≡ x
unfolding number_at bytes_of
number-back s i zero x h g = omega arith
number-back s i (suc w) x h g =
    let n = length-bytes_of w (x / 256) in
    let p : x < 256 ^ w * 256 = subst (λ (m : ℕ). x < m) (pow-suc 256 w) h in
    let r = number-back s i w (x / 256) (omega arith) (λ j l. g j (omega arith) ∙ get_or-append (bytes_of w (x / 256)) (x % 256 ∷ []) 0 j (omega arith)) in
    let b : byte s (i + w) ≡ x % 256 = g w (omega arith) ∙ get_or_at (bytes_of w (x / 256)) (x % 256) [] 0 w n in
    omega arith

typed-type : (t b : ℕ) → t < 8 → bits 4 3 (typed t b) ≡ t
typed-type t b h =
    let e : typed t b / 16 ≡ t + b / 128 * 8 = omega arith in
    let f : (t + b / 128 * 8) % 8 ≡ t = omega arith in
    ap (λ (v : ℕ). v % 8) e ∙ f

-- the bytes of the edited frame at `at`, which lies within the file
module _ (a at : ℕ) (file : List ℕ) (room : at + short_size DiscoverResponse ≤ length file) where
  abbrev after : List ℕ
  after = frame_edited a at file

  abbrev typed_as : ℕ → List ℕ
  typed_as t = set file (at + 12) (typed t (byte file (at + 12)))

  edit-length : length after ≡ length file
  unfolding frame_edited
  edit-length = go (eqb a 0)
    where
      go : (b : Bool) → length (cond b (typed_as 0) (sets (set (typed_as 1) (at + 32) 0) (at + 24) (bytes_of 8 a))) ≡ length file
      go true = length-set file (at + 12) (typed 0 (byte file (at + 12)))
      go false = length-sets (set (typed_as 1) (at + 32) 0) (at + 24) (bytes_of 8 a) ∙ length-set (typed_as 1) (at + 32) 0 ∙ length-set file (at + 12) (typed 1 (byte file (at + 12)))

  edit_outside : (k : ℕ) → (k ≢ at + 12) → (k < at + 24) ⊎ (at + 33 ≤ k) → byte after k ≡ byte file k
  unfolding frame_edited
  edit_outside k n h = go (eqb a 0)
    where
      go : (b : Bool) → byte (cond b (typed_as 0) (sets (set (typed_as 1) (at + 32) 0) (at + 24) (bytes_of 8 a))) k ≡ byte file k
      go true = get_or-set_other file (at + 12) k (typed 0 (byte file (at + 12))) 0 n
      go false =
          sets-stay (bytes_of 8 a) (set (typed_as 1) (at + 32) 0) (at + 24) k 0 (⊎_elim inl (λ o. inr (omega (arith, length-bytes_of 8 a))) h)
          ∙ get_or-set_other (typed_as 1) (at + 32) k 0 0 (λ z. ⊎_elim {C = ⊥} (λ o. omega arith) (λ o. omega arith) h)
          ∙ get_or-set_other file (at + 12) k (typed 1 (byte file (at + 12))) 0 n

  edit-type : bits 4 3 (byte after (at + 12)) ≡ cond (eqb a 0) 0 1
  unfolding frame_edited
  edit-type = go (eqb a 0)
    where
      here : (t : ℕ) → byte (typed_as t) (at + 12) ≡ typed t (byte file (at + 12))
      here t = get_or-set_same file (at + 12) (typed t (byte file (at + 12))) 0 (omega arith)

      go : (b : Bool) → bits 4 3 (byte (cond b (typed_as 0) (sets (set (typed_as 1) (at + 32) 0) (at + 24) (bytes_of 8 a))) (at + 12)) ≡ cond b 0 1
      go true = ap (bits 4 3) (here 0) ∙ typed-type 0 (byte file (at + 12)) (omega arith)
      go false =
          ap (bits 4 3) (sets-stay (bytes_of 8 a) (set (typed_as 1) (at + 32) 0) (at + 24) (at + 12) 0 (inl (omega arith)) ∙ get_or-set_other (typed_as 1) (at + 32) (at + 12) 0 0 (λ z. omega arith) ∙ here 1)
          ∙ typed-type 1 (byte file (at + 12)) (omega arith)

  -- of a plug
  module _ (plug : eqb a 0 ≡ false) (fits : a < 256 ^ 8) where
    put : after ≡ sets (set (typed_as 1) (at + 32) 0) (at + 24) (bytes_of 8 a)
    unfolding frame_edited
    put = ap (λ b. cond b (typed_as 0) (sets (set (typed_as 1) (at + 32) 0) (at + 24) (bytes_of 8 a))) plug

    edit-far : byte after (at + 32) ≡ 0
    edit-far =
        let m = length-set file (at + 12) (typed 1 (byte file (at + 12))) in
        ap (λ s. byte s (at + 32)) put ∙ sets-stay (bytes_of 8 a) (set (typed_as 1) (at + 32) 0) (at + 24) (at + 32) 0 (inr (omega (arith, length-bytes_of 8 a)))
        ∙ get_or-set_same (typed_as 1) (at + 32) 0 0 (omega arith)

    edit-address : (j : ℕ) → j < 8 → byte after (at + 24 + j) ≡ byte (bytes_of 8 a) j
    edit-address j h =
        let l = length-bytes_of 8 a in
        let m = length-set (typed_as 1) (at + 32) 0 ∙ length-set file (at + 12) (typed 1 (byte file (at + 12))) in
        ap (λ s. byte s (at + 24 + j)) put ∙ sets_stand (bytes_of 8 a) (set (typed_as 1) (at + 32) 0) (at + 24) j 0 (omega arith) (omega arith)

-- what an event makes of the fields of a frame; whatever stood as attached address and phy stays where the drive is pulled
abbrev refield : Bool → ℕ → Discover → Discover
refield true a f = record { identifier = f.identifier; device_type = 0; own_address = f.own_address; attached_address = f.attached_address; attached_phy = f.attached_phy; attribute = f.attribute }
refield false a f = record { identifier = f.identifier; device_type = 1; own_address = f.own_address; attached_address = a; attached_phy = record { 0 = 0 }; attribute = f.attribute }

phy_of-edited : (own_address i p a : ℕ) (f : Discover) (φ : Phy) (b : Bool) → eqb a 0 ≡ b → phy_of own_address i p (fields f) ≡ good φ → phy_of own_address i p (fields (refield b a f)) ≡ good (replug a φ)
phy_of-edited own_address i p a f φ b c h =
    let five = unless-good (eqb f.identifier.0 p && eqb f.own_address own_address) (refusal 5 i p) _ φ h in
    let g : PhyFields = fields_of (eqb f.device_type 0) f in
    let six = unless-good (ranged g) (refusal 6 i p) (good (Present g)) φ five.1 in
    let attribute : g.attribute ≡ f.attribute = of (eqb f.device_type 0) in
    let two : T (leb f.attribute 2) = subst (λ (k : ℕ). T (leb k 2)) attribute (and_left (leb g.attribute 2) _ (and_right (leb g.device_type 3) _ six.0)) in
    subst (λ (y : Phy). phy_of own_address i p (fields (refield b a f)) ≡ good (replug a y)) (good-one (Present g) φ six.1)
    (go b c (is_true (eqb f.identifier.0 p && eqb f.own_address own_address) five.0) (is_true (leb f.attribute 2) two) ∙ ap (λ (k : ℕ). good (Present (record { device_type = cond (eqb a 0) 0 1; attribute = k; address = a; attached_phy = record { 0 = 0 } }))) (sym attribute))
  where
    of : (t : Bool) → (fields_of t f).attribute ≡ f.attribute
    of true = refl
    of false = refl

    go : (b : Bool) → eqb a 0 ≡ b → (eqb f.identifier.0 p && eqb f.own_address own_address) ≡ true → leb f.attribute 2 ≡ true
        → phy_of own_address i p (fields (refield b a f)) ≡ good (Present (record { device_type = cond (eqb a 0) 0 1; attribute = f.attribute; address = a; attached_phy = record { 0 = 0 } }))
    go true c x y =
        let z : a ≡ 0 = eqb-true a 0 c in
        rw (x, y, c) (ap (λ (k : ℕ). good (Present (record { device_type = 0; attribute = f.attribute; address = k; attached_phy = record { 0 = 0 } }))) (sym z))
    go false c x y = rw (x, y, c) refl

-- a frame is read by its length, its first four bytes and its fields
abbrev shape : ℕ → ℕ → ℕ → ℕ → ℕ → Discover → Result Discovered
shape l b₀ b₁ b₂ b₃ f =
    then (unless (leb 4 l) (refusal 1 0 0) (size_stated DiscoverResponse b₃)) (λ n.
    unless (eqb l n) (refusal 1 0 0) (unless (eqb b₀ 0x41 && eqb b₁ 0x10) (refusal 2 0 0) (good (by_result (eqb b₂ 0) b₂ f))))

shaped : (s : List ℕ) → discover_read s ≡ shape (length s) (byte s 0) (byte s 1) (byte s 2) (byte s 3) (discover_fields s)
unfolding discover_read discover_fixed frame_size
shaped s = refl

reshaped : (l b₀ b₁ b₂ b₃ : ℕ) (f g : Discover) (D : Discovered) → shape l b₀ b₁ b₂ b₃ f ≡ good D → eqb b₂ 0 ≡ true → (D ≡ fields f) × (shape l b₀ b₁ b₂ b₃ g ≡ good (fields g))
reshaped l b₀ b₁ b₂ b₃ f g D e c =
    let t = then-good (unless (leb 4 l) (refusal 1 0 0) (size_stated DiscoverResponse b₃)) _ D e in
    let w = unless-good (eqb l t.0) (refusal 1 0 0) _ D t.2 in
    let y = unless-good (eqb b₀ 0x41 && eqb b₁ 0x10) (refusal 2 0 0) _ D w.1 in (
      sym (good-one (by_result (eqb b₂ 0) b₂ f) D y.1) ∙ ap (λ b. by_result b b₂ f) c,
      good-then (unless (leb 4 l) (refusal 1 0 0) (size_stated DiscoverResponse b₃)) _ t.0 (fields g) t.1
          (good-unless (eqb l t.0) (refusal 1 0 0) _ w.0 ∙ good-unless (eqb b₀ 0x41 && eqb b₁ 0x10) (refusal 2 0 0) _ y.0 ∙ ap (λ b. good (by_result b b₂ g)) c),
    )

vacated : (l b₀ b₁ b₂ b₃ : ℕ) (f : Discover) (D : Discovered) → shape l b₀ b₁ b₂ b₃ f ≡ good D → eqb b₂ 0 ≡ false → D ≡ vacant b₂
vacated l b₀ b₁ b₂ b₃ f D e c =
    let t = then-good (unless (leb 4 l) (refusal 1 0 0) (size_stated DiscoverResponse b₃)) _ D e in
    let w = unless-good (eqb l t.0) (refusal 1 0 0) _ D t.2 in
    let y = unless-good (eqb b₀ 0x41 && eqb b₁ 0x10) (refusal 2 0 0) _ D w.1 in
    sym (good-one (by_result (eqb b₂ 0) b₂ f) D y.1) ∙ ap (λ b. by_result b b₂ f) c

-- the frame at `at`, of n bytes, before and after
module _ (a at n : ℕ) (file : List ℕ) (room : at + n ≤ length file) (least : short_size DiscoverResponse ≤ n) (fits : a < 256 ^ 8) where
  abbrev before : List ℕ
  before = take n (drop at file)

  abbrev edit : List ℕ
  edit = take n (drop at (frame_edited a at file))

  frame_byte : (s : List ℕ) (k : ℕ) → k < n → byte (take n (drop at s)) k ≡ byte s (at + k)
  frame_byte s k h = get_or-take n (drop at s) k 0 h ∙ get_or-drop at s k 0

  short : at + short_size DiscoverResponse ≤ length file
  short = omega arith

  byte-same : (k : ℕ) → k < n → k ≢ 12 → (k < 24) ⊎ (33 ≤ k) → byte edit k ≡ byte before k
  byte-same k h m o =
      frame_byte (frame_edited a at file) k h ∙ edit_outside a at file short (at + k) (λ z. m (omega arith)) (⊎_elim (λ l. inl (omega arith)) (λ l. inr (omega arith)) o)
      ∙ sym (frame_byte file k h)

  own_same : number_at edit 16 8 ≡ number_at before 16 8
  own_same = number-alike edit before 16 16 8 (λ j l. byte-same (16 + j) (omega arith) (λ z. omega arith) (inl (omega arith)))

  type-is : bits 4 3 (byte edit 12) ≡ cond (eqb a 0) 0 1
  type-is = ap (bits 4 3) (frame_byte (frame_edited a at file) 12 (omega arith)) ∙ edit-type a at file short

  -- the other fields of a pull, and of a plug
  pull_same : eqb a 0 ≡ true → (k : ℕ) → k < n → k ≢ 12 → byte edit k ≡ byte before k
  unfolding frame_edited
  pull_same c k h m =
      frame_byte (frame_edited a at file) k h
      ∙ ap (λ b. byte (cond b (set file (at + 12) (typed 0 (byte file (at + 12)))) (sets (set (set file (at + 12) (typed 1 (byte file (at + 12)))) (at + 32) 0) (at + 24) (bytes_of 8 a))) (at + k)) c
      ∙ get_or-set_other file (at + 12) (at + k) (typed 0 (byte file (at + 12))) 0 (λ z. m (omega arith)) ∙ sym (frame_byte file k h)

  plug_address : eqb a 0 ≡ false → number_at edit 24 8 ≡ a
  plug_address c = number-back edit 24 8 a fits (λ j l.
      let e : at + (24 + j) ≡ at + 24 + j = omega arith in
      frame_byte (frame_edited a at file) (24 + j) (omega arith) ∙ ap (byte (frame_edited a at file)) e ∙ edit-address a at file short c fits j l)

  plug_far : eqb a 0 ≡ false → byte edit 32 ≡ 0
  plug_far c = frame_byte (frame_edited a at file) 32 (omega arith) ∙ edit-far a at file short c fits

  abbrev discover_of : ℕ → ℕ → ℕ → ℕ → ℕ → ℕ → Discover
  discover_of identifier device_type own_address attached_address attached_phy attribute = record { identifier = record { 0 = identifier }; device_type = device_type; own_address = own_address; attached_address = attached_address; attached_phy = record { 0 = attached_phy }; attribute = attribute }

  fields_are : (b : Bool) → eqb a 0 ≡ b → discover_fields edit ≡ refield b a (discover_fields before)
  fields_are true c =
      ap₂ (λ x y. discover_of x y (number_at edit 16 8) (number_at edit 24 8) (byte edit 32) (bits 0 4 (byte edit 44))) (byte-same 9 (omega arith) (λ z. omega arith) (inl (omega arith))) (type-is ∙ ap (λ t. cond t 0 1) c)
      ∙ ap₂ (λ x y. discover_of (byte before 9) 0 x y (byte edit 32) (bits 0 4 (byte edit 44))) own_same (number-alike edit before 24 24 8 (λ j l. pull_same c (24 + j) (omega arith) (λ z. omega arith)))
      ∙ ap₂ (λ x y. discover_of (byte before 9) 0 (number_at before 16 8) (number_at before 24 8) x (bits 0 4 y)) (pull_same c 32 (omega arith) (λ z. omega arith)) (pull_same c 44 (omega arith) (λ z. omega arith))
  fields_are false c =
      ap₂ (λ x y. discover_of x y (number_at edit 16 8) (number_at edit 24 8) (byte edit 32) (bits 0 4 (byte edit 44))) (byte-same 9 (omega arith) (λ z. omega arith) (inl (omega arith))) (type-is ∙ ap (λ t. cond t 0 1) c)
      ∙ ap₂ (λ x y. discover_of (byte before 9) 1 x y (byte edit 32) (bits 0 4 (byte edit 44))) own_same (plug_address c)
      ∙ ap₂ (λ x y. discover_of (byte before 9) 1 (number_at before 16 8) a x (bits 0 4 y)) (plug_far c) (byte-same 44 (omega arith) (λ z. omega arith) (inr (omega arith)))

  edit-size : length edit ≡ length before
  edit-size =
      let l = edit-length a at file short in
      let x = length-drop at file in
      let y = length-drop at (frame_edited a at file) in
      length-take-le n (drop at (frame_edited a at file)) (omega arith) ∙ sym (length-take-le n (drop at file) (omega arith))

  head-same : (k : ℕ) → k < 4 → byte edit k ≡ byte before k
  head-same k h = byte-same k (omega arith) (λ z. omega arith) (inl (omega arith))

  -- a frame that is not vacant reads with its fields edited
  edit-read : (D : Discovered) → discover_read before ≡ good D → eqb (byte before 2) 0 ≡ true
      → (D ≡ fields (discover_fields before)) × (discover_read edit ≡ good (fields (refield (eqb a 0) a (discover_fields before))))
  edit-read D e c =
      let g : Discover = refield (eqb a 0) a (discover_fields before) in
      let r = reshaped (length before) (byte before 0) (byte before 1) (byte before 2) (byte before 3) (discover_fields before) g D (sym (shaped before) ∙ e) c in (
        r.0,
        shaped edit
            ∙ ap₂ (λ x y. shape x y (byte edit 1) (byte edit 2) (byte edit 3) (discover_fields edit)) edit-size (head-same 0 (omega arith))
            ∙ ap₂ (λ x y. shape (length before) (byte before 0) x y (byte edit 3) (discover_fields edit)) (head-same 1 (omega arith)) (head-same 2 (omega arith))
            ∙ ap₂ (shape (length before) (byte before 0) (byte before 1) (byte before 2)) (head-same 3 (omega arith)) (fields_are (eqb a 0) refl)
            ∙ r.1,
      )

-- the unit of a phy to which an event can happen
unit-edited : (a at : ℕ) (file : List ℕ) → a < 256 ^ 8 → (own_address i p : ℕ) (u : Parsed Phy) → phy_unit file own_address i p at ≡ good u → T (pluggable u.value)
    → phy_unit (frame_edited a at file) own_address i p at ≡ good (parsed (replug a u.value) u.next)
unfolding phy_unit
unit-edited a at file fits own_address i p u e t = go (size_at DiscoverResponse file at) refl
  where
    test : Discovered → Result Phy
    test = phy_of own_address i p

    there : (n : ℕ) → size_at DiscoverResponse file at ≡ good n → at + n ≤ length file → short_size DiscoverResponse ≤ n → (D : Discovered) → discover_read (take n (drop at file)) ≡ good D
        → then (test D) (ends_at (at + n)) ≡ good u → (b : Bool) → eqb (byte (take n (drop at file)) 2) 0 ≡ b
        → unit_at DiscoverResponse discover_read test i p (frame_edited a at file) at ≡ good (parsed (replug a u.value) u.next)
    there n q room least D g k true c =
        let r = edit-read a at n file room least fits D g c in
        let f : Discover = discover_fields (take n (drop at file)) in
        let x = then-good (test D) (ends_at (at + n)) u k in
        let z = good-one (parsed x.0 (at + n)) u x.2 in
        let y = phy_of-edited own_address i p a f x.0 (eqb a 0) refl (ap test (sym r.0) ∙ x.1) in
        let s = size-alike file (frame_edited a at file) (edit-length a at file (omega arith)) DiscoverResponse at (edit_outside a at file (omega arith) (at + 3) (λ w. omega arith) (inl (omega arith))) ∙ q in
        unit-by DiscoverResponse discover_read test i p (frame_edited a at file) at n (good (fields (refield (eqb a 0) a f))) s r.1
        ∙ good-then (test (fields (refield (eqb a 0) a f))) (ends_at (at + n)) (replug a x.0) (parsed (replug a x.0) (at + n)) y refl
        ∙ ap (λ (w : Parsed Phy). good (parsed (replug a w.value) w.next)) z
    there n q room least D g k false c =
        let s : List ℕ = take n (drop at file) in
        let o = vacated (length s) (byte s 0) (byte s 1) (byte s 2) (byte s 3) (discover_fields s) D (sym (shaped s) ∙ g) c in
        let z = good-one (parsed (Vacant (byte s 2)) (at + n)) u (ap (λ (w : Discovered). then (test w) (ends_at (at + n))) (sym o) ∙ k) in
        absurd (subst (λ (w : Parsed Phy). T (pluggable w.value)) (sym z) t)

    read : (n : ℕ) → size_at DiscoverResponse file at ≡ good n → at + n ≤ length file → short_size DiscoverResponse ≤ n → (x : Result Discovered) → discover_read (take n (drop at file)) ≡ x
        → then (placed i p x) (λ y. then (test y) (ends_at (at + n))) ≡ good u
        → unit_at DiscoverResponse discover_read test i p (frame_edited a at file) at ≡ good (parsed (replug a u.value) u.next)
    read n q room least (refused r) g k = never _ u k
    read n q room least (good D) g k = there n q room least D g k (eqb (byte (take n (drop at file)) 2) 0) refl

    go : (x : Result ℕ) → size_at DiscoverResponse file at ≡ x → unit_at DiscoverResponse discover_read test i p (frame_edited a at file) at ≡ good (parsed (replug a u.value) u.next)
    go (refused r) q = never _ u (sym (unit-cut DiscoverResponse discover_read test i p file at r q) ∙ e)
    go (good n) q =
        let w = size-whole DiscoverResponse file at n q in
        read n q (size-within DiscoverResponse file at n q).1 (size-least DiscoverResponse (drop at file) n w.size) (discover_read (take n (drop at file))) refl
        (sym (unit-by DiscoverResponse discover_read test i p file at n _ q refl) ∙ e)

-- where all units end
expanders-end : (most : Setting) (file : List ℕ) (n i at : ℕ) (used : List ℕ) (d : Domain) → expanders most file n i at used ≡ good d → at ≤ length file
unfolding expanders
expanders-end most file zero i at used d h = omega (arith, eqb→eq at (length file) (unless-good (eqb at (length file)) (refusal 1 i 0) (good []) d h).0)
expanders-end most file (suc n) i at used d h =
    let u = then-good (expander_unit most file used i at) _ d h in
    let v = then-good (phy_units file u.0.value.address i u.0.value.phys 0 u.0.next) _ d u.2 in
    let w = then-good (expanders most file n (i + 1) v.0.next (used ++ (u.0.value.address ∷ []))) _ d v.2 in
    let b = (expander-ends most file used i at u.0 u.1).0 in
    let c = general-more file (at + 8) in
    let k = (phys-end file u.0.value.address i u.0.value.phys 0 u.0.next v.0 v.1).0 in
    let g = phys-more file u.0.value.phys u.0.next in
    omega (arith, expanders-end most file n (i + 1) v.0.next (used ++ (u.0.value.address ∷ [])) w.0 w.1)

-- the frame of a phy that was read lies within its file
expanders-within : (most : Setting) (file : List ℕ) (n i at : ℕ) (used : List ℕ) (d : Domain) (e q : ℕ) → expanders most file n i at used ≡ good d → q < length (expander_at d e).phys
    → phy_frame file e q at + short_size DiscoverResponse ≤ length file
unfolding expanders phy_frame
expanders-within most file zero i at used d e q h l =
    let z = good-one [] d (unless-good (eqb at (length file)) (refusal 1 i 0) (good []) d h).1 in
    absurd (subst (λ (y : Domain). q < length (expander_at y e).phys → ⊥) z (λ k. omega arith) l)
expanders-within most file (suc n) i at used d zero q h l =
    let u = then-good (expander_unit most file used i at) _ d h in
    let v = then-good (phy_units file u.0.value.address i u.0.value.phys 0 u.0.next) _ d u.2 in
    let w = then-good (expanders most file n (i + 1) v.0.next (used ++ (u.0.value.address ∷ []))) _ d v.2 in
    let z : expander_of u.0.value v.0.value ∷ w.0 ≡ d = good-one (expander_of u.0.value v.0.value ∷ w.0) d w.2 in
    let l' = subst (λ (y : Domain). q < length (expander_at y 0).phys) (sym z) l in
    let b = (expander-ends most file used i at u.0 u.1).0 in
    let k = phys-end file u.0.value.address i u.0.value.phys 0 u.0.next v.0 v.1 in
    let g = phys-before file u.0.value.phys q u.0.next (omega (arith, k.1)) in
    let m : past_phys file q u.0.next ≡ past_phys file q (past_frame ReportGeneral file (at + 8)) = ap (past_phys file q) b in
    omega (arith, k.0, expanders-end most file n (i + 1) v.0.next (used ++ (u.0.value.address ∷ [])) w.0 w.1)
expanders-within most file (suc n) i at used d (suc e) q h l =
    let u = then-good (expander_unit most file used i at) _ d h in
    let v = then-good (phy_units file u.0.value.address i u.0.value.phys 0 u.0.next) _ d u.2 in
    let w = then-good (expanders most file n (i + 1) v.0.next (used ++ (u.0.value.address ∷ []))) _ d v.2 in
    let z : expander_of u.0.value v.0.value ∷ w.0 ≡ d = good-one (expander_of u.0.value v.0.value ∷ w.0) d w.2 in
    let b = expander-ends most file used i at u.0 u.1 in
    let k = (phys-end file u.0.value.address i u.0.value.phys 0 u.0.next v.0 v.1).0 in
    let m : v.0.next ≡ past_phys file (byte file (at + 8 + 9)) (past_frame ReportGeneral file (at + 8)) = k ∙ ap₂ (past_phys file) b.1 b.0 in
    rw (← m) (expanders-within most file n (i + 1) v.0.next (used ++ (u.0.value.address ∷ [])) w.0 e q w.1 (subst (λ (y : Domain). q < length (expander_at y (suc e)).phys) (sym z) l))

-- the edited file reads as the edited domain
module _ (setting : Setting) (file : List ℕ) (d : Domain) (h : domain_read setting file ≡ good d) (v : Event) (f : T (pluggable (named d v))) (fits : v.address < 256 ^ 8) where
  abbrev lo : ℕ
  lo = phy_offset file v.expander.0 v.phy.0

  pub edited-read : (lo + short_size DiscoverResponse ≤ length file) × (domain_read setting (file_edited file v) ≡ good (edited d v))
  unfolding domain_read header_unit
  edited-read =
      let a : ℕ = v.address in
      let file' : List ℕ = file_edited file v in
      let x = unless-good (in_range setting) (refusal 22 0 0) _ d h in
      let y = then-good (header_unit setting file) _ d x.1 in
      let o : phy_frame file v.expander.0 v.phy.0 2 ≡ lo = frame-offset file v.expander.0 v.phy.0 in
      let r : lo + short_size DiscoverResponse ≤ length file = subst (λ (k : ℕ). k + short_size DiscoverResponse ≤ length file) o (expanders-within setting file y.0 0 2 [] d v.expander.0 v.phy.0 y.2 (phy-range d pluggable v.expander.0 v.phy.0 f (λ t. t))) in
      let m : 2 ≤ lo = subst (λ (k : ℕ). 2 ≤ k) o (frame-more file v.expander.0 v.phy.0 2) in
      let long = edit-length a lo file r in
      let outside : (k : ℕ) → (k < lo + 12) ⊎ (lo + 33 ≤ k) → byte file' k ≡ byte file k =
      λ k o. edit_outside a lo file r k (λ z. ⊎_elim {C = ⊥} (λ j. omega arith) (λ j. omega arith) o) (⊎_elim (λ j. inl (omega arith)) inr o) in
      let n : header_unit setting file' ≡ good y.0 =
      ap (λ k. unless (leb 2 k) (refusal 1 0 0) (unless (eqb (byte file' 0) 0x10) (refusal 2 0 0) (unless (within setting.expanders (byte file' 1)) (refusal 3 0 0) (good (byte file' 1))))) long
      ∙ ap₂ (λ j k. unless (leb 2 (length file)) (refusal 1 0 0) (unless (eqb j 0x10) (refusal 2 0 0) (unless (within setting.expanders k) (refusal 3 0 0) (good k)))) (outside 0 (inl (omega arith))) (outside 1 (inl (omega arith)))
      ∙ y.1 in (
        r,
        good-unless (in_range setting) (refusal 22 0 0) _ x.0
            ∙ good-then (header_unit setting file') _ y.0 (edited d v) n
            (expanders-edited file file' lo a long outside (unit-edited a lo file fits) setting y.0 0 2 [] d v.expander.0 v.phy.0 y.2 (sym o) f),
      )
