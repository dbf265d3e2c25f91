-- The join call answers with a length exactly when the conditions of paper 12 hold: over what it promises.
use Prim.Native.Nat.{ℕ, ◌+◌, ◌≤◌}
use mathlib.Core.Path.{◌≡◌, refl, sym, ◌∙◌, ap, subst}
use mathlib.Core.Logic.{◌↔◌}
use mathlib.Core.Bool.{not, ◌&&◌}
use mathlib.Core.List.{List, ◌++◌}
use native.Mathlib.Omega.{arith}
use lib.ListN.{length, take, drop}
use lib.Seq.{take_at, drop_at}
use lib.Dec.{T, leb, not_T, T_not, le→leb}
use Rattle.frames.specs.Refusals.{Result, refused, good, then, refusal, fitting, length_of, new_after}
use Rattle.files.specs.declared.Setting.{Setting}
use Rattle.files.specs.declared.Phy.{Phy}
use Rattle.files.specs.declared.Phy.TheVariants.{Vacant}
use Rattle.files.specs.Lists.{In, any}
use Rattle.files.specs.Settings.{widest}
use Rattle.files.specs.Domain.{Domain, expander_at, phy_at, is_subtractive, attached}
use Rattle.files.specs.ReadDomain.{Bytes}
use Rattle.wiring.specs.graph.Devices.{Borne}
use Rattle.wiring.specs.graph.LongChains.{ShortChains}
use Rattle.files.proofs.ListMembers.{and_left, and_right, and_both, any_of, of-any, get_d_in, in_get_d}
use Rattle.files.proofs.CallResults.{never, good-one, unless-good, good-unless, then-good, good-then}
use Rattle.files.proofs.Domains.{in_range_lem}
use Rattle.wiring.proofs.graph.LongChains.{never-long}
use Rattle.tables.specs.JudgingCall.{judged}
use Rattle.tables.proofs.AcceptedDomains.{judged-file}
use Rattle.benches.specs.JoinConditions.{Free, Joinable}
use Rattle.benches.specs.Bytes.{joined_file}
use Rattle.benches.specs.Joined.{joined}
use Rattle.benches.specs.JoinCall.{upward, free, join_for, join_call, JoinDone}
use Rattle.benches.proofs.PartsOfJoined.{joined_length}
use Rattle.benches.proofs.JoinedReads.{judging-joined, joined-exactly}
use Rattle.benches.proofs.JoinOutcomes.{both-accepted}

-- 21 does not hold exactly when the phy can take the cable
pub free-is : (d : Domain) (i p : ℕ) → T (free d i p) → Free d i p
unfolding free
free-is d i p t =
    let φ = phy_at d i p in
    let l = (expander_at d i).phys in
    let rest = and_right (is_subtractive φ) (not (attached φ) && not (any upward l)) t in
    record {
      subtractive = and_left (is_subtractive φ) (not (attached φ) && not (any upward l)) t;
      unattached = T_not (attached φ) (and_left (not (attached φ)) (not (any upward l)) rest);
      no_other = λ y a r. T_not (any upward l) (and_right (not (attached φ)) (not (any upward l)) rest)
          (any_of upward l (phy_at d i y) (in_get_d l (Vacant 0) y (in_range_lem d i y a).1) (and_both (attached (phy_at d i y)) (is_subtractive (phy_at d i y)) a r));
    }

pub is_free : (d : Domain) (i p : ℕ) → Free d i p → T (free d i p)
unfolding free
is_free d i p f =
    let φ = phy_at d i p in
    let l = (expander_at d i).phys in
    and_both (is_subtractive φ) (not (attached φ) && not (any upward l)) f.subtractive
    (and_both (not (attached φ)) (not (any upward l)) (not_T (attached φ) f.unattached) (not_T (any upward l) (λ t. none (of-any upward l t))))
  where
    none : (w : Phy) × In w (expander_at d i).phys × T (upward w) → ⊥
    none o =
        let g = get_d_in (expander_at d i).phys (Vacant 0) o.0 o.1 in
        let u = subst (λ (ψ : Phy). T (upward ψ)) (sym g.2) o.2 in
        f.no_other g.0 (and_left (attached (phy_at d i g.0)) (is_subtractive (phy_at d i g.0)) u) (and_right (attached (phy_at d i g.0)) (is_subtractive (phy_at d i g.0)) u)

-- the conditions of paper 12, under a setting
pub record Conditions (setting : Setting) (d₁ : Domain) (i p : ℕ) (d₂ : Domain) (j q : ℕ) : Type 0 where
  -- "the expanders number at most 64", or the setting's
  pub few : length d₁ + length d₂ ≤ setting.expanders
  -- "both phys are non-vacant, subtractive and unattached, neither of their expanders has an attached subtractive phy"
  pub first : Free d₁ i p
  pub second : Free d₂ j q
  -- "no address is a device's in both files"
  pub apart : (s : ℕ) → Borne d₁ s → Borne d₂ s → ⊥
  -- no chain of the joined bench is longer than the setting's
  pub short : ShortChains setting.chain (joined d₁ i p d₂ j q)

module _ (setting : Setting) (first : List ℕ) (i p : ℕ) (second : List ℕ) (j q : ℕ) (d₁ d₂ : Domain)
    (e₁ : judged setting first ≡ good d₁) (e₂ : judged setting second ≡ good d₂) (b₁ : Bytes first) (b₂ : Bytes second) where
  abbrev new : List ℕ
  new = joined_file first i p second j q

  module _ (f₁ : Free d₁ i p) (f₂ : Free d₂ j q) where
    exact : (judged setting new ≡ good (joined d₁ i p d₂ j q)) ↔ ((length d₁ + length d₂ ≤ setting.expanders) × (((s : ℕ) → Borne d₁ s → Borne d₂ s → ⊥) × ShortChains setting.chain (joined d₁ i p d₂ j q)))
    exact =
        let r₁ = (judged-file setting first d₁).0 e₁ in
        let r₂ = (judged-file setting second d₂).0 e₂ in
        joined-exactly setting first i p second j q d₁ d₂ r₁.0 r₂.0 b₁ b₂ f₁ f₂ r₁.1 r₂.1

    same : (d : Domain) → judged setting new ≡ good d → judged setting new ≡ good (joined d₁ i p d₂ j q)
    same d h =
        let r₁ = (judged-file setting first d₁).0 e₁ in
        let r₂ = (judged-file setting second d₂).0 e₂ in
        h ∙ ap good (sym ((judging-joined setting first i p second j q d₁ d₂ r₁.0 r₂.0 b₁ b₂ f₁ f₂ d).0 h).0)

  -- past both judgements
  is : (room : ℕ) → join_call setting first i p second j q room ≡ join_for setting first i p d₁ second j q d₂ room
  is room = both-accepted setting first i p second j q room d₁ d₂ e₁ e₂

  -- what the call yields is the joined file, and the conditions hold
  pub yields-joined : (room : ℕ) (file : List ℕ) → join_call setting first i p second j q room ≡ good file → (new ≡ file) × Conditions setting d₁ i p d₂ j q
  yields-joined room file h =
      let a = unless-good (free d₁ i p && free d₂ j q) (refusal 21 0 0) _ file (sym (is room) ∙ h) in
      let f₁ = free-is d₁ i p (and_left (free d₁ i p) (free d₂ j q) a.0) in
      let f₂ = free-is d₂ j q (and_right (free d₁ i p) (free d₂ j q) a.0) in
      let b = then-good (judged setting new) (λ _. fitting room new) file a.1 in
      let g = unless-good (leb (length new) room) (refusal 16 0 0) (good new) file b.2 in
      let c = (exact f₁ f₂).0 (same f₁ f₂ b.0 b.1) in
      (good-one new file g.1, record { few = c.0; first = f₁; second = f₂; apart = c.1.0; short = c.1.1 })

  -- with a buffer long enough, the call yields the joined file exactly then
  pub yields-exactly : (room : ℕ) → length new ≤ room → ((file : List ℕ) × (join_call setting first i p second j q room ≡ good file)) ↔ Conditions setting d₁ i p d₂ j q
  yields-exactly room enough = (λ h. (yields-joined room h.0 h.1).1, back)
    where
      back : Conditions setting d₁ i p d₂ j q → (file : List ℕ) × (join_call setting first i p second j q room ≡ good file)
      back c =
          let t = and_both (free d₁ i p) (free d₂ j q) (is_free d₁ i p c.first) (is_free d₂ j q c.second) in
          let e = (exact c.first c.second).1 (c.few, (c.apart, c.short)) in (
            new,
            is room ∙ good-unless (free d₁ i p && free d₂ j q) (refusal 21 0 0) _ t
                ∙ good-then (judged setting new) (λ _. fitting room new) (joined d₁ i p d₂ j q) new e (good-unless (leb (length new) room) (refusal 16 0 0) (good new) (le→leb (length new) room enough)),
          )

  -- a call that answered with a length yielded a file
  told : (x : Result (List ℕ)) (n : ℕ) → ◌≡◌ {A = Result ℕ} (good n) (then x length_of) → (file : List ℕ) × (x ≡ good file) × (n ≡ length file)
  told (refused r) n h = never r n (sym h)
  told (good file) n h = (file, refl, good-one n (length file) h)

  -- where the call answered with a length, so many of the lent bytes are the joined file, those after stay, and the conditions hold
  pub join_written : (n : ℕ) (before after : List ℕ) → JoinDone (join_call setting first i p second j q (length before)) (good n) before after
      → (take n after ≡ new) × (drop n after ≡ drop n before) × Conditions setting d₁ i p d₂ j q
  join_written n before after done =
      let y = told (join_call setting first i p second j q (length before)) n done.answers in
      let g = yields-joined (length before) y.0 y.1 in
      let m : n ≡ length new = y.2 ∙ ap length (sym g.0) in
      let e : after ≡ new ++ drop n before =
      done.bytes ∙ ap (λ (x : Result (List ℕ)). new_after x before) (y.1 ∙ ap good (sym g.0)) ∙ ap (λ (k : ℕ). new ++ drop k before) (sym m) in
      (ap (take n) e ∙ take_at new (drop n before) n (sym m), ap (drop n) e ∙ drop_at new (drop n before) n (sym m), g.1)

  -- over what the call promises: it answers with a length exactly then
  pub join-exactly : (answer : Result ℕ) (before after : List ℕ) → length new ≤ length before → JoinDone (join_call setting first i p second j q (length before)) answer before after
      → ((n : ℕ) × (answer ≡ good n)) ↔ Conditions setting d₁ i p d₂ j q
  join-exactly answer before after enough done = (there, back)
    where
      outcome : Result (List ℕ)
      outcome = join_call setting first i p second j q (length before)

      there : (n : ℕ) × (answer ≡ good n) → Conditions setting d₁ i p d₂ j q
      there h = let y = told outcome h.0 (sym (h.1) ∙ done.answers) in (yields-joined (length before) y.0 y.1).1

      answered : (a : Result ℕ) (n : ℕ) → a ≡ good n → (n : ℕ) × (a ≡ good n)
      answered (refused r) n h = never r n h
      answered (good m) n h = (m, refl)

      back : Conditions setting d₁ i p d₂ j q → (n : ℕ) × (answer ≡ good n)
      back c = let y = (yields-exactly (length before) enough).1 c in answered answer (length y.0) (done.answers ∙ ap (λ (x : Result (List ℕ)). then x length_of) y.1)

-- for the setting 64, 128, 64 no chain is too long, and the last condition falls away: the paper's own sentence
pub join-widest : (first : List ℕ) (i p : ℕ) (second : List ℕ) (j q : ℕ) (d₁ d₂ : Domain) → judged widest first ≡ good d₁ → judged widest second ≡ good d₂
    → Bytes first → Bytes second → (answer : Result ℕ) (before after : List ℕ) → length (joined_file first i p second j q) ≤ length before
    → JoinDone (join_call widest first i p second j q (length before)) answer before after
    → ((n : ℕ) × (answer ≡ good n)) ↔ ((length d₁ + length d₂ ≤ 64) × Joinable d₁ i p d₂ j q)
join-widest first i p second j q d₁ d₂ e₁ e₂ b₁ b₂ answer before after enough done = (
  λ h. let c = exactly.0 h in (c.few, record { first = c.first; second = c.second; apart = c.apart }),
  λ h. exactly.1 (record { few = h.0; first = h.1.first; second = h.1.second; apart = h.1.apart; short = never-long 64 (joined d₁ i p d₂ j q) (omega (arith, h.0, joined_length d₁ i p d₂ j q)) }),
)
  where
    exactly : ((n : ℕ) × (answer ≡ good n)) ↔ Conditions widest d₁ i p d₂ j q
    exactly = join-exactly widest first i p second j q d₁ d₂ e₁ e₂ b₁ b₂ answer before after enough done
