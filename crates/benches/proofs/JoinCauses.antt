-- When the join call answers, and with which numbers it refuses.
use Prim.Native.Nat.{ℕ}
use mathlib.Core.Path.{◌≡◌, refl, sym, subst, ◌∙◌}
use mathlib.Core.Logic.{inl, inr}
use mathlib.Core.Bool.{◌&&◌}
use mathlib.Core.List.{List}
use lib.ListN.{length}
use lib.Dec.{leb, leb→le, le→leb}
use Rattle.frames.specs.Refusals.{Result, refused, good, then, refusal, fitting, length_of}
use Rattle.frames.specs.RefusesExactly.{RefusesExactly}
use Rattle.files.specs.declared.Setting.{Setting}
use Rattle.files.specs.Domain.{Domain}
use Rattle.files.proofs.CallResults.{unless-good, good-unless, then-good, good-then}
use Rattle.files.proofs.ListMembers.{and_left, and_right, and_both}
use Rattle.tables.specs.JudgingCall.{judged}
use Rattle.tables.proofs.TableRefusals.{Numbered, numbered-unless, numbered-then, exactly, judged-numbered, judged_causes, causes_judged}
use Rattle.benches.specs.Bytes.{joined_file}
use Rattle.benches.specs.JoinCall.{free, shifted, join_call, JoinDone}
use Rattle.benches.specs.JoinCauses.{NoJoinCause, join_number}
use Rattle.benches.specs.JoinConditions.{Free}
use Rattle.benches.proofs.JoinOutcomes.{both-accepted, shifted-good}
use Rattle.benches.proofs.JoinRefusals.{free-is, is_free}

-- a shifted refusal keeps its number
shifted-numbered : (P : ℕ → Type 0) (n : ℕ) (x : Result Domain) → Numbered P x → Numbered P (shifted n x)
shifted-numbered P n (refused r) h = h
shifted-numbered P n (good d) h = h

-- the join call answers exactly when none of its causes holds, and refuses with no other number
pub join-refuses : (setting : Setting) (first : List ℕ) (i p : ℕ) (second : List ℕ) (j q : ℕ) (answer : Result ℕ) (before after : List ℕ)
    → JoinDone (join_call setting first i p second j q (length before)) answer before after
    → RefusesExactly answer (NoJoinCause setting first i p second j q (length before)) join_number
unfolding join_call
join-refuses setting first i p second j q answer before after done =
    exactly join_number answer (then (join_call setting first i p second j q room) length_of) (NoJoinCause setting first i p second j q room) done.answers numbered from to
  where
    room : ℕ
    room = length before

    new : List ℕ
    new = joined_file first i p second j q

    numbered : Numbered join_number (then (join_call setting first i p second j q room) length_of)
    numbered =
        numbered-then join_number (join_call setting first i p second j q room) length_of
        (numbered-then join_number (judged setting first) _ (judged-numbered join_number (λ n h. inl h) setting first) (λ d₁.
        numbered-then join_number (shifted (length d₁) (judged setting second)) _ (shifted-numbered join_number (length d₁) (judged setting second) (judged-numbered join_number (λ n h. inl h) setting second)) (λ d₂.
        numbered-unless join_number (free d₁ i p && free d₂ j q) (refusal 21 0 0) _ (inr (inr refl))
        (numbered-then join_number (judged setting new) (λ _. fitting room new) (judged-numbered join_number (λ n h. inl h) setting new) (λ d.
        numbered-unless join_number (leb (length new) room) (refusal 16 0 0) (good new) (inr (inl refl)) tt)))))
        (λ file. tt)

    from : (n : ℕ) → then (join_call setting first i p second j q room) length_of ≡ good n → NoJoinCause setting first i p second j q room
    from n e =
        let y = then-good (join_call setting first i p second j q room) length_of n e in
        let a = then-good (judged setting first) _ y.0 y.1 in
        let b = then-good (shifted (length a.0) (judged setting second)) _ y.0 a.2 in
        let u = unless-good (free a.0 i p && free b.0 j q) (refusal 21 0 0) _ y.0 b.2 in
        let c = then-good (judged setting new) (λ _. fitting room new) y.0 u.1 in
        let r = unless-good (leb (length new) room) (refusal 16 0 0) (good new) y.0 c.2 in
        let one = judged_causes setting first a.0 a.1 in
        let other = judged_causes setting second b.0 (shifted-good (length a.0) (judged setting second) b.0 b.1) in
        record {
          one = one.0;
          other = other.0;
          first_phy = subst (λ (d : Domain). Free d i p) (sym one.1) (free-is a.0 i p (and_left (free a.0 i p) (free b.0 j q) u.0));
          second_phy = subst (λ (d : Domain). Free d j q) (sym other.1) (free-is b.0 j q (and_right (free a.0 i p) (free b.0 j q) u.0));
          both = (judged_causes setting new c.0 c.1).0;
          enough = leb→le (length new) room r.0;
        }

    to : NoJoinCause setting first i p second j q room → (n : ℕ) × (then (join_call setting first i p second j q room) length_of ≡ good n)
    to c =
        let d₁ = c.one.domain in
        let d₂ = c.other.domain in
        let e : join_call setting first i p second j q room ≡ good new =
        both-accepted setting first i p second j q room d₁ d₂ (causes_judged setting first c.one) (causes_judged setting second c.other)
        ∙ good-unless (free d₁ i p && free d₂ j q) (refusal 21 0 0) _ (and_both (free d₁ i p) (free d₂ j q) (is_free d₁ i p c.first_phy) (is_free d₂ j q c.second_phy))
        ∙ good-then (judged setting new) (λ _. fitting room new) c.both.domain new (causes_judged setting new c.both) (good-unless (leb (length new) room) (refusal 16 0 0) (good new) (le→leb (length new) room c.enough)) in
        (length new, good-then (join_call setting first i p second j q room) length_of new (length new) e refl)
