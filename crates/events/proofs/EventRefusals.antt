-- When the event call answers, and with which numbers it refuses.
use Prim.Native.Nat.{ℕ}
use mathlib.Core.Path.{◌≡◌, refl, sym, subst, ◌∙◌}
use mathlib.Core.Logic.{inl, inr, ◌↔◌}
use mathlib.Core.List.{List}
use lib.Dec.{T, leb, not_T, T_not}
use Rattle.frames.specs.Bits.{bytes_for}
use Rattle.frames.specs.Refusals.{Result, good, then, refusal}
use Rattle.frames.specs.RefusesExactly.{RefusesExactly}
use Rattle.files.specs.declared.Setting.{Setting}
use Rattle.files.specs.declared.Phy.{Phy}
use Rattle.files.specs.declared.Phy.TheVariants.{Vacant, Present}
use Rattle.files.specs.declared.PhyFields.{PhyFields}
use Rattle.files.specs.Domain.{Domain, to_expander}
use Rattle.files.proofs.CallResults.{good-one, unless-good, good-unless, then-good, good-then}
use Rattle.files.proofs.Domains.{expander-range, phy-range}
use Rattle.tables.specs.filling.Tables.{needed}
use Rattle.tables.specs.filling.Entries.{Entries, Room, room_of, Enough}
use Rattle.tables.specs.JudgingCall.{judged, tables_for}
use Rattle.tables.specs.declared.Moved.{Moved}
use Rattle.tables.specs.events.TouchedTables.{moved}
use Rattle.tables.specs.events.ReplugCall.{pluggable}
use Rattle.tables.proofs.AcceptedDomains.{tables_iff}
use Rattle.tables.proofs.TableRefusals.{Numbered, numbered-unless, numbered-then, exactly, judged-numbered, judged_causes, causes_judged}
use Rattle.events.specs.declared.Event.{Event}
use Rattle.events.specs.Events.{named}
use Rattle.events.specs.EventFile.{file_edited}
use Rattle.events.specs.Calls.{attempted, event_call, EventDone}
use Rattle.events.specs.EventCauses.{Pluggable, NoEventCause, event_number}

-- 20's test is what the paper says of the named phy
pub pluggable_iff : (d : Domain) (v : Event) → T (pluggable (named d v)) ↔ Pluggable d v
pluggable_iff d v = (
  λ t. let h = phy-range d pluggable v.expander.0 v.phy.0 t (λ u. u) in
      let p = present (named d v) t in
      record { expander = expander-range d v.expander.0 v.phy.0 h; phy = h; fields = p.0; present = p.1; unlinked = p.2 },
  λ c. subst (λ φ. T (pluggable φ)) (sym c.present) (not_T (leb 2 c.fields.device_type) (λ t. c.unlinked (subst (λ φ. T (to_expander φ)) (sym c.present) t))),
)
  where
    present : (φ : Phy) → T (pluggable φ) → (f : PhyFields) × (φ ≡ Present f) × ¬ (T (to_expander φ))
    present (Vacant r) t = absurd t
    present (Present f) t = (f, refl, T_not (leb 2 f.device_type) t)

-- the event call answers exactly when none of its causes holds, and refuses with no other number
pub event-exactly : (setting : Setting) (file file' : List ℕ) (v : Event) (before after : Entries) (answer : Result Moved)
    → EventDone (event_call setting file v (room_of before)) v answer file file' before after
    → RefusesExactly answer (NoEventCause setting file v (room_of before)) event_number
unfolding event_call
event-exactly setting file file' v before after answer o =
    exactly event_number answer (then (event_call setting file v room) told) (NoEventCause setting file v room) o.answers numbered from to
  where
    room : Room
    room = room_of before

    told : Domain → Result Moved
    told d = good (moved d v.expander.0 before after)

    numbered : Numbered event_number (then (event_call setting file v room) told)
    numbered =
        numbered-then event_number (event_call setting file v room) told
        (numbered-then event_number (judged setting file) (attempted setting file v room) (judged-numbered event_number (λ n h. inl (inl h)) setting file)
        (λ d. numbered-unless event_number (pluggable (named d v)) (refusal 20 0 0) _ (inr refl)
        (numbered-then event_number (tables_for room d) _
        (numbered-unless event_number (leb (needed d) room.words) (refusal 16 0 0) _ (inl (inr (inl refl)))
        (numbered-unless event_number (leb (bytes_for (needed d)) room.bits) (refusal 18 0 0) (good d) (inl (inr (inr refl))) tt))
        (λ _. judged-numbered event_number (λ n h. inl (inl h)) setting (file_edited file v)))))
        (λ d. tt)

    from : (n : Moved) → then (event_call setting file v room) told ≡ good n → NoEventCause setting file v room
    from n e =
        let a = then-good (event_call setting file v room) told n e in
        let b = then-good (judged setting file) (attempted setting file v room) a.0 a.1 in
        let d : Domain = b.0 in
        let p = unless-good (pluggable (named d v)) (refusal 20 0 0) _ a.0 b.2 in
        let t = then-good (tables_for room d) _ a.0 p.1 in
        let r = (tables_iff (good d) room t.0).0 t.1 in
        let c = judged_causes setting file d b.1 in
        record {
          judging = c.0;
          pluggable = (pluggable_iff c.0.domain v).0 (subst (λ x. T (pluggable (named x v))) (sym c.1) p.0);
          enough = subst (λ x. Enough (needed x) room) (sym (good-one d t.0 r.0) ∙ sym c.1) r.1;
          edited_judging = (judged_causes setting (file_edited file v) a.0 t.2).0;
        }

    to : NoEventCause setting file v room → (n : Moved) × (then (event_call setting file v room) told ≡ good n)
    to c =
        let d = c.judging.domain in
        let d₂ = c.edited_judging.domain in
        let p = good-unless (pluggable (named d v)) (refusal 20 0 0) (then (tables_for room d) (λ _. judged setting (file_edited file v))) ((pluggable_iff d v).1 c.pluggable) in
        let r = good-then (tables_for room d) (λ _. judged setting (file_edited file v)) d d₂ ((tables_iff (good d) room d).1 (refl, c.enough)) (causes_judged setting (file_edited file v) c.edited_judging) in
        let e = good-then (judged setting file) (attempted setting file v room) d d₂ (causes_judged setting file c.judging) (p ∙ r) in
        (moved d₂ v.expander.0 before after, good-then (event_call setting file v room) told d₂ (moved d₂ v.expander.0 before after) e refl)
