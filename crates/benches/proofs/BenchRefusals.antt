-- Over what the join call promises, each refusal of paper 12, with its number and place, and no lent byte changed: of the first file, of the second, 21, and
-- of the joined file 3, 4 or 8, and 23; then 16.
use Prim.Native.Nat.{ℕ, ◌+◌, ◌≤◌, ◌<◌}
use mathlib.Core.Path.{◌≡◌, refl, sym, ◌∙◌, ap}
use mathlib.Core.Logic.{by_cases}
use mathlib.Core.Bool.{false, ◌&&◌}
use mathlib.Core.List.{List}
use native.Mathlib.Decide.{dec_lt}
use native.Mathlib.Omega.{arith}
use lib.ListN.{length}
use lib.Dec.{T}
use borrow.Author.Tests.{le-leb, lt-leb}
use Rattle.frames.specs.Refusals.{Result, refused, good, then, refusal, fitting, length_of, new_after}
use Rattle.frames.specs.declared.Refusal.{Refusal}
use Rattle.files.specs.declared.Setting.{Setting}
use Rattle.files.specs.Domain.{Domain, expander_at, to_end}
use Rattle.files.specs.ReadDomain.{Bytes}
use Rattle.files.proofs.CallResults.{never, good-unless, then-good}
use Rattle.files.proofs.Domains.{phy-range}
use Rattle.files.proofs.ListMembers.{tests, is_false, and_left, and_right, and_both}
use Rattle.files.proofs.ReadDomain.{read-good}
use Rattle.wiring.specs.graph.Devices.{Borne}
use Rattle.wiring.specs.WiringCauses.{Passed, Linked}
use Rattle.wiring.specs.graph.LinkCauses.{unlooped, joined_domain, linked_domain}
use Rattle.wiring.specs.graph.LongChains.{chains_within, unlong, ShortChains}
use Rattle.wiring.specs.phys.PhyCauses.{unanswered, claimed, first_of, wired_domain}
use Rattle.wiring.proofs.phys.WiredPhys.{Wired}
use Rattle.wiring.proofs.WiredAndLinked.{first_of-good, good-first_of, passed_iff, wired_iff, linked_iff}
use Rattle.wiring.proofs.graph.LongChains.{never-long}
use Rattle.tables.specs.JudgingCall.{judged_domain, judged}
use Rattle.tables.proofs.AcceptedDomains.{judged-routable, judged-file, judged_wires}
use Rattle.benches.specs.BenchRefusals.{RefusedWith, Repeats, SharedRefused, four, eight}
use Rattle.benches.specs.BenchRows.{repeated, differing}
use Rattle.benches.specs.Bytes.{joined_file}
use Rattle.benches.specs.JoinCall.{free, join_call, JoinDone}
use Rattle.benches.specs.JoinConditions.{Free, Joinable}
use Rattle.benches.specs.Joined.{joined}
use Rattle.benches.proofs.JoinOutcomes.{both-accepted, too_many}
use Rattle.benches.proofs.JoinRefusals.{free-is, is_free}
use Rattle.benches.proofs.JoinedAccepted.{read-joined, phy-few}
use Rattle.benches.proofs.JoinedDomains.{joined-wired, joined-linked}
use Rattle.benches.proofs.JoinedEntries.{accepted}
use Rattle.benches.proofs.JoinedReads.{joined-file, rows-judged}
use Rattle.benches.proofs.LowestPlaces.{first-lowest}
use Rattle.benches.proofs.SharedAddresses.{four-at, four_not, seven_not, eight_somewhere}

-- a call whose outcome is a refusal
refused_with : (outcome : Result (List ℕ)) (r : Refusal) (answer : Result ℕ) (before after : List ℕ) → outcome ≡ refused r → JoinDone outcome answer before after
    → RefusedWith r answer before after
refused_with outcome r answer before after e done =
    record { says = told answer (done.answers ∙ ap (λ (x : Result (List ℕ)). then x length_of) e); bytes = done.bytes ∙ ap (λ (x : Result (List ℕ)). new_after x before) e }
  where
    told : (a : Result ℕ) → a ≡ refused r → a ≡ refused r
    told (refused s) h = let z : s ≡ r = cc in ap refused z
    told (good n) h = never r n (sym h)

claimed-range : (d : Domain) (x y : ℕ) → T (claimed d x y) → y < length (expander_at d x).phys
unfolding claimed
claimed-range d x y t = phy-range d to_end x y (search tests) (λ u. u)

-- 4 of a domain holds, or does not
four-refused : (d : Domain) → repeated d < length d → differing d ≡ refused (refusal 4 (repeated d) 0)
unfolding differing
four-refused d h = rw (lt-leb (length d) (repeated d) h) refl

four-passed : (d : Domain) → length d ≤ repeated d → differing d ≡ good d
unfolding differing
four-passed d h = rw (le-leb (length d) (repeated d) h) refl

-- past 7, judging refuses where 8 does
eight-judged : (chain : ℕ) (d : Domain) (r : Refusal) → ((x y : ℕ) → ¬ (T (unanswered d x y))) → first_of 8 (claimed d) d ≡ refused r → judged_domain chain d ≡ refused r
unfolding judged_domain wired_domain
eight-judged chain d r seven e = rw (good-first_of 7 (unanswered d) d seven, e)

-- wired and linked, judging refuses a chain that is too long, at place 0, 0
long-judged : (chain : ℕ) (d : Domain) → wired_domain d ≡ good d → Linked d → ¬ (ShortChains chain d) → judged_domain chain d ≡ refused (refusal 23 0 0)
unfolding judged_domain linked_domain unlong
long-judged chain d w l n =
    let o = (linked_iff (length d) d).1 (l, never-long (length d) d (omega arith)) in
    let a = then-good (unlooped d) _ d o in
    let b = then-good (joined_domain d) _ d a.2 in
    let k : linked_domain chain d ≡ unlong chain d = rw (a.1, b.1) in
    let c : chains_within chain d ≡ false = is_false (chains_within chain d) (λ t. n ((linked_iff chain d).0 (k ∙ good-unless (chains_within chain d) (refusal 23 0 0) (good d) t)).1) in
    let e : linked_domain chain d ≡ refused (refusal 23 0 0) = k ∙ rw c in
    rw (w, e)

-- a join call on any two files
module _ (setting : Setting) (first : List ℕ) (i p : ℕ) (second : List ℕ) (j q : ℕ) (answer : Result ℕ) (before after : List ℕ)
    (done : JoinDone (join_call setting first i p second j q (length before)) answer before after) where
  -- refusals from judging the first file are the call's
  pub first-refused : (r : Refusal) → judged setting first ≡ refused r → RefusedWith r answer before after
  unfolding join_call
  first-refused r e = refused_with (join_call setting first i p second j q (length before)) r answer before after (rw e) done

  -- "refusals from judging the second file have the first's expander count added to their expander number, place 0, 0 included"
  pub second-refused : (d₁ : Domain) (r : Refusal) → judged setting first ≡ good d₁ → judged setting second ≡ refused r
      → RefusedWith (refusal r.number (length d₁ + r.expander.0) r.phy.0) answer before after
  unfolding join_call
  second-refused d₁ r e f =
      refused_with (join_call setting first i p second j q (length before)) (refusal r.number (length d₁ + r.expander.0) r.phy.0) answer before after (rw (e, f)) done

  -- 21, "a named phy that doesn't exist or breaks these conditions, place 0, 0", from two accepted files, whatever the joined file is
  pub phy-refused : (d₁ d₂ : Domain) → judged setting first ≡ good d₁ → judged setting second ≡ good d₂ → ¬ (Free d₁ i p × Free d₂ j q)
      → RefusedWith (refusal 21 0 0) answer before after
  phy-refused d₁ d₂ e f n =
      let b : (free d₁ i p && free d₂ j q) ≡ false = is_false (free d₁ i p && free d₂ j q)
      (λ t. n (free-is d₁ i p (and_left (free d₁ i p) (free d₂ j q) t), free-is d₂ j q (and_right (free d₁ i p) (free d₂ j q) t))) in
      refused_with (join_call setting first i p second j q (length before)) (refusal 21 0 0) answer before after
      (both-accepted setting first i p second j q (length before) d₁ d₂ e f ∙ rw b) done

-- from two accepted files whose named phys can take the cable
module _ (setting : Setting) (first : List ℕ) (i p : ℕ) (second : List ℕ) (j q : ℕ) (d₁ d₂ : Domain)
    (e₁ : judged setting first ≡ good d₁) (e₂ : judged setting second ≡ good d₂) (f₁ : Free d₁ i p) (f₂ : Free d₂ j q)
    (answer : Result ℕ) (before after : List ℕ) (done : JoinDone (join_call setting first i p second j q (length before)) answer before after) where
  abbrev new : List ℕ
  new = joined_file first i p second j q

  -- what judging the joined file refuses, the call refuses
  judging-refuses : (r : Refusal) → judged setting new ≡ refused r → RefusedWith r answer before after
  judging-refuses r e = refused_with (join_call setting first i p second j q (length before)) r answer before after
      (both-accepted setting first i p second j q (length before) d₁ d₂ e₁ e₂
      ∙ good-unless (free d₁ i p && free d₂ j q) (refusal 21 0 0) _ (and_both (free d₁ i p) (free d₂ j q) (is_free d₁ i p f₁) (is_free d₂ j q f₂))
      ∙ ap (λ (x : Result Domain). then x (λ _. fitting (length before) new)) e) done

  -- "too many expanders 3", at place 0, 0
  pub many-refused : setting.expanders < length d₁ + length d₂ → RefusedWith (refusal 3 0 0) answer before after
  many-refused h = judging-refuses (refusal 3 0 0)
      (too_many setting first i p second j q (length before) (length d₁) (length d₂)
      (record { domain = d₁; accepted = e₁; count = refl }) (record { domain = d₂; accepted = e₂; count = refl }) h)

  module _ (b₁ : Bytes first) (b₂ : Bytes second) (few : length d₁ + length d₂ ≤ setting.expanders) where
    abbrev d : Domain
    d = joined d₁ i p d₂ j q

    -- judging the joined file: 4 of the joined domain, then the rest
    judged-is : (x : Result Domain) → differing d ≡ x → judged setting new ≡ then x (judged_domain setting.chain)
    judged-is x e =
        let r₁ = (judged-file setting first d₁).0 e₁ in
        let r₂ = (judged-file setting second d₂).0 e₂ in
        sym (rows-judged setting first i p second j q d₁ d₂ r₁.0 r₂.0 b₁ b₂ f₁ f₂ few) ∙ ap (λ (y : Result Domain). then y (judged_domain setting.chain)) e

    w₁ : Wired d₁
    w₁ = (judged_wires setting first d₁ e₁).0

    w₂ : Wired d₂
    w₂ = (judged_wires setting second d₂ e₂).0

    passed : (file : List ℕ) (x : Domain) → judged setting file ≡ good x → Passed x
    passed file x e = (passed_iff x).0 (judged-routable setting.chain x x ((judged-file setting file x).0 e).1).1

    repeats : repeated d < length d → SharedRefused d₁ d₂ d answer before after
    repeats h =
        let o = four-at d₁ i p d₂ j q w₁ w₂ f₁ f₂ h in
        four o.0 o.1 (judging-refuses (refusal 4 (length d₁ + o.0) 0) (judged-is _ (four-refused d h) ∙ ap (λ (k : ℕ). refused (refusal 4 k 0)) o.2))

    module _ (h : length d ≤ repeated d) where
      none : (y : ℕ) → ¬ (Repeats d₁ d₂ y)
      none = four_not d₁ i p d₂ j q w₁ w₂ f₁ f₂ h

      seven : (x y : ℕ) → ¬ (T (unanswered d x y))
      seven = seven_not d₁ i p d₂ j q w₁ w₂ f₁ f₂ (passed first d₁ e₁).seven (passed second d₂ e₂).seven none

      claims : (u v : ℕ) × T (claimed d u v) → SharedRefused d₁ d₂ d answer before after
      claims c = go (first_of 8 (claimed d) d) refl
        where
          go : (x : Result Domain) → first_of 8 (claimed d) d ≡ x → SharedRefused d₁ d₂ d answer before after
          go (good x) e = absurd ((first_of-good 8 (claimed d) d x (claimed-range d) e).1 c.0 c.1 c.2)
          go (refused r) e =
              let o = first-lowest 8 (claimed d) d r (claimed-range d) e in
              eight none o.0 o.1 o.2 (judging-refuses (refusal 8 o.0 o.1) (judged-is (good d) (four-passed d h) ∙ eight-judged setting.chain d r seven e ∙ ap refused o.3))

      apart : (s : ℕ) → Borne d₁ s → Borne d₂ s → SharedRefused d₁ d₂ d answer before after
      apart s u v = claims (eight_somewhere d₁ i p d₂ j q w₁ w₂ f₁ f₂ (passed first d₁ e₁).seven (passed second d₂ e₂).seven none s u v)

    -- "device addresses shared by both get 4 or 8 from judging the joined file": which, and at which place
    pub shared_refused : (s : ℕ) → Borne d₁ s → Borne d₂ s → SharedRefused d₁ d₂ (joined d₁ i p d₂ j q) answer before after
    shared_refused s u v = by_cases (dec_lt (repeated d) (length d)) repeats (λ h. apart (omega arith) s u v)

    -- a chain longer than the setting's gets 23, place 0, 0, where no address is a device's in both
    pub long-refused : ((s : ℕ) → Borne d₁ s → Borne d₂ s → ⊥) → ¬ (ShortChains setting.chain (joined d₁ i p d₂ j q)) → RefusedWith (refusal 23 0 0) answer before after
    long-refused away n =
        let c : Joinable d₁ i p d₂ j q = record { first = f₁; second = f₂; apart = away } in
        let r₁ = (judged-file setting first d₁).0 e₁ in
        let r₂ = (judged-file setting second d₂).0 e₂ in
        let g₁ = read-good setting first d₁ r₁.0 in
        let g₂ = read-good setting second d₂ r₂.0 in
        let g = read-joined setting d₁ i p d₂ j q g₁ g₂ c few in
        let l₁ = (judged_wires setting first d₁ e₁).1.linked in
        let l₂ = (judged_wires setting second d₂ e₂).1.linked in
        let k = phy-few setting d₁ i p d₂ j q g₁ g₂ d₁ g₁ i p f₁ in
        let m = phy-few setting d₁ i p d₂ j q g₁ g₂ d₂ g₂ j q f₂ in
        let w = (wired_iff setting d g).1 (joined-wired d₁ i p d₂ j q w₁ l₁ w₂ l₂ g₁.some k m c) in
        let e = (joined-file setting first i p second j q d₁ d₂ r₁.0 r₂.0 b₁ b₂ f₁ f₂ d).1 (refl, g) in
        judging-refuses (refusal 23 0 0)
        (ap (λ (x : Result Domain). then x (judged_domain setting.chain)) e ∙ long-judged setting.chain d w (joined-linked d₁ i p d₂ j q w₁ l₁ w₂ l₂ g₁.some k m c) n)

    -- "16 comes last": the bench can be joined, but the lent bytes are too few
    pub short-refused : ((s : ℕ) → Borne d₁ s → Borne d₂ s → ⊥) → ShortChains setting.chain (joined d₁ i p d₂ j q) → length before < length new → RefusedWith (refusal 16 0 0) answer before after
    short-refused away c h =
        let e = accepted setting first i p second j q d₁ d₂ e₁ e₂ b₁ b₂ (record { few = few; first = f₁; second = f₂; apart = away; short = c }) in
        refused_with (join_call setting first i p second j q (length before)) (refusal 16 0 0) answer before after
        (both-accepted setting first i p second j q (length before) d₁ d₂ e₁ e₂
        ∙ good-unless (free d₁ i p && free d₂ j q) (refusal 21 0 0) _ (and_both (free d₁ i p) (free d₂ j q) (is_free d₁ i p f₁) (is_free d₂ j q f₂))
        ∙ rw (e, lt-leb (length new) (length before) h)) done
