-- Bit 63 of the answers of the trace call and of the call on one step.
use Prim.Native.Nat.{ℕ, ◌≤◌, ◌<◌}
use mathlib.Core.Bool.{not, ◌&&◌}
use mathlib.Core.List.{List}
use native.Mathlib.Omega.{arith}
use lib.ListN.{length}
use lib.Dec.{eqb, leb}
use Rattle.frames.specs.Bits.{bytes_for}
use Rattle.frames.specs.Refusals.{good, then, refusal}
use Rattle.files.specs.declared.Setting.{Setting}
use Rattle.files.specs.Domain.{Domain}
use Rattle.files.specs.ReadDomain.{Bytes}
use Rattle.tables.specs.filling.Tables.{needed}
use Rattle.tables.specs.filling.Entries.{Entries, room_of, counted}
use Rattle.tables.specs.JudgingCall.{judged}
use Rattle.tracing.specs.Steps.{Step, here, end_device, bad, lost, onward}
use Rattle.tracing.specs.Trace.{Traced, Request, traced, allowed, requested, traced_request, trace_call, report}
use Rattle.tracing.specs.Reasons.{step_allowed, step_requested, step_asked, step_call}
use Rattle.tracing.specs.declared.Outcome.{Outcome}
use Rattle.tracing.specs.declared.Outcome.TheVariants.{Arrived, NoDestination, BadDestination}
use Rattle.tracing.specs.declared.Reason.{Reason}
use Rattle.exports.specs.Packing.{end_packed, step_packed}
use Rattle.exports.specs.AnswerParts.{EndBack, StepBack}
use Rattle.exports.specs.RefusalBit.{ToldApart}
use Rattle.exports.proofs.RefusalBit.{Any, Tells, Yields, tells, tells-unless, tells-then, no_place}
use Rattle.exports.proofs.RefusalPlaces.{ReadBytes, judged-tells}
use Rattle.exports.proofs.DomainCounts.{few-expanders}
use Rattle.exports.proofs.StepsFit.{StepFits, ReasonFits, step_fits, reason-fits, TracedFits, trace-fits}

-- an end in bytes comes back
pub end-yields : (t : Traced) → TracedFits 64 t → Tells (Yields end_packed EndBack) (report t)
end-yields t f = go t.outcome t.last t.phy (length t.passed) f.last f.phy f.count
  where
    go : (o : Outcome) (last phy count : ℕ) → last < 256 → phy < 256 → count ≤ 64 → Yields end_packed EndBack (record { outcome = o; last = last; phy = phy; count = count })
    go Arrived l p c h k m = (omega arith, record { outcome = omega arith; last = omega arith; phy = omega arith; count = omega arith })
    go NoDestination l p c h k m = (omega arith, record { outcome = omega arith; last = omega arith; phy = omega arith; count = omega arith })
    go BadDestination l p c h k m = (omega arith, record { outcome = omega arith; last = omega arith; phy = omega arith; count = omega arith })

-- a step and its reason in bytes come back
step-yields : (r : Reason) (k : Step) → ReasonFits r → StepFits k → Yields step_packed StepBack (record { reason = r; step = k })
step-yields r k f g = go k g f.rule f.phy f.index
  where
    go : (k : Step) → StepFits k → r.rule < 256 → r.phy.0 < 256 → r.index.0 < 65536 → Yields step_packed StepBack (record { reason = r; step = k })
    go here g a b c = (omega arith, record { bad = omega arith; rule = omega arith; phy = omega arith; index = omega arith; expander = omega arith; arrival = omega arith })
    go (end_device p) g a b c = (omega arith, record { bad = omega arith; rule = omega arith; phy = omega arith; index = omega arith; expander = omega arith; arrival = omega arith })
    go bad g a b c = (omega arith, record { bad = omega arith; rule = omega arith; phy = omega arith; index = omega arith; expander = omega arith; arrival = omega arith })
    go lost g a b c = (omega arith, record { bad = omega arith; rule = omega arith; phy = omega arith; index = omega arith; expander = omega arith; arrival = omega arith })
    go (onward j q) g a b c = let x = g.0 in let y = g.1 in (omega arith, record { bad = omega arith; rule = omega arith; phy = omega arith; index = omega arith; expander = omega arith; arrival = omega arith })

module _ (setting : Setting) where
  -- 15, 16, 18 and 17, then the trace
  pub request-tells : (t : Entries) (bytes : ℕ) (q : Request) → q.start < 256 → (d : Domain) → ReadBytes setting d → Tells (TracedFits 64) (traced_request d t bytes q)
  unfolding traced_request requested traced
  request-tells t bytes q h d b =
      let n = few-expanders setting d b in
      tells-then Any (TracedFits 64) (requested q (room_of t) bytes d) _
      (tells-unless Any (allowed d q.start q.arrival) (refusal 15 0 0) _ (no_place 15 (omega arith)) (λ _.
      tells-unless Any (leb (needed d) (room_of t).words && leb (length d) bytes) (refusal 16 0 0) _ (no_place 16 (omega arith)) (λ _.
      tells-unless Any (leb (bytes_for (needed d)) (room_of t).bits) (refusal 18 0 0) _ (no_place 18 (omega arith)) (λ _.
      tells-unless Any (not (eqb q.address 0)) (refusal 17 0 0) (good d) (no_place 17 (omega arith)) (λ _. tt)))))
      (λ _ _ _.
      let r = trace-fits d b.fits (counted t) q.address (length d) q.start q.arrival h in
      let c = r.count in
      record { last = r.last; phy = r.phy; count = omega arith })

  -- the trace call
  pub trace-apart : (file : List ℕ) (t : Entries) (bytes : ℕ) (q : Request) → Bytes file → q.start < 256 → ToldApart end_packed EndBack (then (trace_call setting file t bytes q) report)
  unfolding trace_call
  trace-apart file t bytes q b h =
      tells end_packed EndBack _ (tells-then (TracedFits 64) (Yields end_packed EndBack) (trace_call setting file t bytes q) report
      (tells-then (ReadBytes setting) (TracedFits 64) (judged setting file) _ (judged-tells setting file b) (λ d _. request-tells t bytes q h d)) (λ r _. end-yields r))

  -- the call on one step
  pub step-apart : (file : List ℕ) (t : Entries) (q : Request) → Bytes file → ToldApart step_packed StepBack (step_call setting file t q)
  unfolding step_call step_asked step_requested
  step-apart file t q b =
      let P = Yields step_packed StepBack in
      tells step_packed StepBack _ (tells-then (ReadBytes setting) P (judged setting file) _ (judged-tells setting file b) (λ d _ r.
      tells-then Any P (step_requested q (room_of t) d) _
      (tells-unless Any (step_allowed d q.start q.arrival) (refusal 15 0 0) _ (no_place 15 (omega arith)) (λ _.
      tells-unless Any (leb (needed d) (room_of t).words) (refusal 16 0 0) _ (no_place 16 (omega arith)) (λ _.
      tells-unless Any (leb (bytes_for (needed d)) (room_of t).bits) (refusal 18 0 0) _ (no_place 18 (omega arith)) (λ _.
      tells-unless Any (not (eqb q.address 0)) (refusal 17 0 0) (good d) (no_place 17 (omega arith)) (λ _. tt)))))
      (λ _ _ _. step-yields _ _ (reason-fits d r.fits (counted t) q.start q.arrival q.address) (step_fits d r.fits (counted t) q.start q.arrival q.address))))
