-- A walk, turn by turn.
use Prim.Native.Nat.{ℕ, suc, ◌+◌, ◌-◌, ◌≤◌, ◌<◌}
use mathlib.Core.Path.{◌≡◌, refl, sym, ◌∙◌, ap, subst}
use mathlib.Core.List.{List, [], ◌∷◌, ◌++◌, append-nil, append_assoc}
use native.Mathlib.Omega.{arith}
use lib.ListN.{length, take, drop, set, length-append, take-append-drop}
use lib.Seq.{drop-set-lt, length-take-le, drop-drop}
use Rattle.tables.specs.WiringDefinitions.{Result, good, Domain}
use Rattle.tracing.specs.declared.Outcome.{Outcome}
use Rattle.tracing.specs.declared.Outcome.TheVariants.{NoDestination}
use Rattle.tracing.specs.declared.Step.{Step}
use Rattle.tracing.specs.declared.Step.TheVariants.{Ended, Onward}
use Rattle.tracing.specs.Steps.{Step as Stepped, here, end_device, bad, lost, onward, step}
use Rattle.tracing.specs.Trace.{Traced, ending_at, after, after_step, trace_from, Reported}
use Rattle.tracing.specs.Answers.{step_of, end_of, Walked}
use Rattle.tables.proofs.WiringLemmas.{set_next}

abbrev reported : Outcome → ℕ → ℕ → ℕ → Result Reported
reported o i p count = good (record { outcome = o; last = i; phy = p; count = count })

-- expander i is written as byte k; before it are the expanders passed, after it the bytes as they were
module _ (k i : ℕ) (bytes bytes₀ : List ℕ) (same : drop k bytes ≡ drop k bytes₀) where
  pub kept : k < length bytes → drop (k + 1) (set bytes k i) ≡ drop (k + 1) bytes₀
  kept h = drop-set-lt (k + 1) bytes k i (omega arith) ∙ sym (drop-drop 1 k bytes) ∙ ap (drop 1) same ∙ drop-drop 1 k bytes₀

  written : k < length bytes → set bytes k i ≡ (take k bytes ++ (i ∷ [])) ++ drop (k + 1) bytes₀
  written h =
      sym (take-append-drop (k + 1) (set bytes k i))
      ∙ ap (λ (x : List ℕ). x ++ drop (k + 1) (set bytes k i)) (set_next bytes k i h)
      ∙ ap (λ (x : List ℕ). (take k bytes ++ (i ∷ [])) ++ x) (kept h)

-- the trace by the code's step is that by the definition's
abbrev after_code_step : ℕ → (ℕ → ℕ → Traced) → Step → Traced
after_code_step i go (Ended o p) = ending_at o i p.0
after_code_step i go (Onward j q) = after (i ∷ []) (go j.0 q.0)

after_code_step_lem : (i : ℕ) (go : ℕ → ℕ → Traced) (t : Stepped) → after_code_step i go (step_of t) ≡ after_step i go t
unfolding after_step
after_code_step_lem i go here = refl
after_code_step_lem i go (end_device p) = refl
after_code_step_lem i go bad = refl
after_code_step_lem i go lost = refl
after_code_step_lem i go (onward j q) = refl

-- the walk after k steps, at expander i with arrival phy q; `inv` and `same` are the loop's invariant
module _ (d : Domain) (words : List ℕ) (s n k i q : ℕ) (bytes bytes₀ : List ℕ) {v : Traced}
    (inv : after (take k bytes) (trace_from (n - k) d words i q s) ≡ v) (same : drop k bytes ≡ drop k bytes₀) where
  turn : {t : Step} → t ≡ step_of (step d words i q s) → k < n
      → after (take k bytes) (after_code_step i (λ j p. trace_from (n - (k + 1)) d words j p s) t) ≡ v
  unfolding trace_from
  turn e h =
      let m : n - k ≡ suc (n - (k + 1)) = omega arith in
      let go : ℕ → ℕ → Traced = λ j p. trace_from (n - (k + 1)) d words j p s in
      ap (after (take k bytes)) (ap (after_code_step i go) e ∙ after_code_step_lem i go (step d words i q s))
      ∙ ap (λ (x : ℕ). after (take k bytes) (trace_from x d words i q s)) (sym m) ∙ inv

  -- on to another expander
  pub walk-go : {j p : ℕ} → Onward (record { 0 = j }) (record { 0 = p }) ≡ step_of (step d words i q s) → k < n → k < length bytes
      → after (take (k + 1) (set bytes k i)) (trace_from (n - (k + 1)) d words j p s) ≡ v
  walk-go {j} {p} e h g =
      let t : Traced = trace_from (n - (k + 1)) d words j p s in
      ap (λ (x : List ℕ). after x t) (set_next bytes k i g)
      ∙ ap (λ (x : List ℕ). record { outcome = t.outcome; last = t.last; phy = t.phy; passed = x })
      (append_assoc (take k bytes) (i ∷ []) t.passed)
      ∙ turn e h

  -- it ends at this expander
  pub walk-stop : {o : Outcome} {p : ℕ} → Ended o (record { 0 = p }) ≡ step_of (step d words i q s) → k < n → k < length bytes
      → Walked v (end_of o i p (k + 1)) bytes₀ (set bytes k i)
  walk-stop {o} {p} e h g =
      let m : length (take k bytes ++ (i ∷ [])) ≡ k + 1 =
      length-append (take k bytes) (i ∷ []) ∙ omega (arith, length-take-le k bytes (omega arith)) in
      subst (λ (x : Traced). Walked x (end_of o i p (k + 1)) bytes₀ (set bytes k i)) (turn e h)
      (record {
        ends = ap (reported o i p) (sym m);
        bytes = written k i bytes bytes₀ same g ∙ ap (λ (x : ℕ). (take k bytes ++ (i ∷ [])) ++ drop x bytes₀) (sym m);
      })

  -- as many steps as there are expanders
  pub walk_end : n ≡ k → k ≤ length bytes → Walked v (end_of NoDestination i 255 n) bytes₀ bytes
  unfolding trace_from
  walk_end h g =
      let e : n - k ≡ 0 = omega arith in
      let l : List ℕ = take k bytes ++ [] in
      let u : after (take k bytes) (record { outcome = NoDestination; last = i; phy = 255; passed = [] }) ≡ v =
      ap (λ (x : ℕ). after (take k bytes) (trace_from x d words i q s)) (sym e) ∙ inv in
      let m : length l ≡ k = ap length (append-nil (take k bytes)) ∙ length-take-le k bytes g in
      subst (λ (x : Traced). Walked x (end_of NoDestination i 255 n) bytes₀ bytes) u
      (record {
        ends = ap (reported NoDestination i 255) (h ∙ sym m);
        bytes =
            sym (take-append-drop k bytes) ∙ ap (λ (x : List ℕ). x ++ drop k bytes) (sym (append-nil (take k bytes)))
            ∙ ap (λ (x : List ℕ). l ++ x) (same ∙ ap (λ (x : ℕ). drop x bytes₀) (sym m));
      })
