-- Over what the call promises: 24 exactly where there is no rig, then 16 where the lent bytes are too few, and otherwise the file of a rig.
use Prim.Native.Nat.{ℕ, ◌^◌, ◌≤◌, ◌<◌}
use mathlib.Core.Path.{◌≡◌, refl, sym, ap, ap₂, subst, ◌∙◌}
use mathlib.Core.Logic.{inl, inr, ◌↔◌, ⊎_elim, by_cases}
use mathlib.Core.List.{List, ◌++◌}
use native.Mathlib.Omega.{arith}
use native.Mathlib.Decide.{dec_lt}
use lib.ListN.{length, take, drop}
use lib.Seq.{take_at}
use lib.Dec.{T}
use borrow.Author.Tests.{le-leb, lt-leb}
use Rattle.wiring.specs.FrameDefinitions.{Result, Refusal, refused, good, then, refusal}
use Rattle.files.specs.Settings.{widest}
use Rattle.files.specs.Domain.{Domain}
use Rattle.files.specs.ReadDomain.{Bytes}
use Rattle.files.proofs.ListMembers.{T?, is_true, is_false}
use Rattle.files.proofs.CallResults.{good-one}
use Rattle.frames.specs.Refusals.{length_of, new_after}
use Rattle.frames.specs.RefusesExactly.{RefusesExactly}
use Rattle.frames.proofs.FrameRefusals.{exactly}
use Rattle.tables.specs.filling.Tables.{table, tables, needed}
use Rattle.tables.specs.filling.Entries.{Entries, room_of, Enough, put_before}
use Rattle.tables.specs.JudgingCall.{judged, table_call, counts_in, tables_after, TablesDone}
use Rattle.tables.specs.declared.Counted.{Counted}
use Rattle.tables.proofs.filling.TableLengths.{tables-length}
use Rattle.tables.proofs.AcceptedDomains.{table_call_iff}
use Rattle.cards.specs.FileOf.{file_of}
use Rattle.cards.specs.Calls.{MadeDone}
use Rattle.exercises.specs.Rig.{made, no_rig, Kind, Rig}
use Rattle.exercises.specs.Call.{make_call}
use Rattle.exercises.specs.MakeCauses.{NoMakeCause, make_number}
use Rattle.exercises.proofs.RigLimits.{rig-possible}
use Rattle.exercises.proofs.Exercise.{WordsFit, makable, made_bytes, made-accepted, made-kind, made_table, made_one, made-tables, made-rig}

-- what a file that was made is: short frames with zeros where reading ignores, accepted, of the kind, and with the words as its one table
pub record ExerciseMade (a b : ℕ) (ws file : List ℕ) : Type 0 where
  pub short : file ≡ file_of (made a b ws)
  pub bytes : Bytes file
  pub accepted : judged widest file ≡ good (made a b ws)
  pub kind : Kind a b ws (made a b ws)
  pub words : table (made a b ws) 0 0 ≡ ws
  -- it is the only table: the table call answers 1 and the number of words, and gives the words with their bits
  pub only : tables (made a b ws) ≡ ws
  pub given : (before after : Entries) (answer : Result Counted) → Enough (length ws) (room_of before) → TablesDone (table_call widest file (room_of before)) answer before after
      → (answer ≡ good (record { table_count = 1; word_count = length ws })) × (after ≡ put_before ws before)

-- which of three outcomes the call has
data Outcome (a b : ℕ) (ws : List ℕ) (room : ℕ) : Type 0 where
  none : ¬ (Rig a b ws) → make_call a b ws room ≡ refused (refusal 24 0 0) → Outcome a b ws room
  small : Rig a b ws → room < length (file_of (made a b ws)) → make_call a b ws room ≡ refused (refusal 16 0 0) → Outcome a b ws room
  fits : Rig a b ws → length (file_of (made a b ws)) ≤ room → make_call a b ws room ≡ good (file_of (made a b ws)) → Outcome a b ws room

module _ (a b : ℕ) (ws : List ℕ) (x : a < 2 ^ 64) (y : b < 2 ^ 64) (f : WordsFit ws) where
  outcome : (room : ℕ) → Outcome a b ws room
  unfolding make_call
  outcome room =
      let file : List ℕ = file_of (made a b ws) in
      ⊎_elim (λ t. none (λ o. rig-possible a b ws o t) (rw (is_true (no_rig a b ws) t) refl))
      (λ n. let o = made-rig a b ws (makable a b ws n) x y f in
      by_cases (dec_lt room (length file))
      (λ h. small o h (rw (is_false (no_rig a b ws) n, lt-leb (length file) room h) refl))
      (λ h. fits o (omega arith) (rw (is_false (no_rig a b ws) n, le-leb (length file) room (omega arith)) refl)))
      (T? (no_rig a b ws))

  -- the three answers differ
  differ : (m n : ℕ) → ◌≡◌ {A = Result ℕ} (refused (refusal m 0 0)) (refused (refusal n 0 0)) → m ≡ n
  differ m n e = let q : refusal m 0 0 ≡ refusal n 0 0 = cc in ap (λ (r : Refusal). r.number) q

  no_good : (m n : ℕ) → ◌≡◌ {A = Result ℕ} (good m) (refused (refusal n 0 0)) → ⊥
  no_good m n e = let z : ◌≡◌ {A = ℕ} 0 1 = cc in omega arith

  module _ (before after : List ℕ) (answer : Result ℕ) (p : MadeDone (make_call a b ws (length before)) answer before after) where
    said : (r : Result (List ℕ)) → make_call a b ws (length before) ≡ r → answer ≡ then r length_of
    said r e = p.answers ∙ ap (λ z. then z length_of) e

    -- refused for want of a rig exactly where there is none
    pub refused_24 : (answer ≡ refused (refusal 24 0 0)) ↔ (¬ (Rig a b ws))
    refused_24 = go (outcome (length before))
      where
        go : Outcome a b ws (length before) → (answer ≡ refused (refusal 24 0 0)) ↔ (¬ (Rig a b ws))
        go (none n e) = (λ _. n, λ _. said _ e)
        go (small o h e) = (λ q. let z = differ 16 24 (sym (said _ e) ∙ q) in absurd (omega arith), λ n. absurd (n o))
        go (fits o h e) = (λ q. absurd (no_good _ 24 (sym (said _ e) ∙ q)), λ n. absurd (n o))

    -- 16 exactly where there is one, and its file is longer than the lent bytes
    pub refused_16 : (answer ≡ refused (refusal 16 0 0)) ↔ (Rig a b ws × (length before < length (file_of (made a b ws))))
    refused_16 = go (outcome (length before))
      where
        go : Outcome a b ws (length before) → (answer ≡ refused (refusal 16 0 0)) ↔ (Rig a b ws × (length before < length (file_of (made a b ws))))
        go (none n e) = (λ q. let z = differ 24 16 (sym (said _ e) ∙ q) in absurd (omega arith), λ o. absurd (n o.0))
        go (small o h e) = (λ _. (o, h), λ _. said _ e)
        go (fits o h e) = (λ q. absurd (no_good _ 16 (sym (said _ e) ∙ q)), λ k. let z = k.1 in absurd (omega arith))

    -- it answers exactly when neither holds, and refuses with no other number
    pub make-exactly : RefusesExactly answer (NoMakeCause a b ws (length before)) make_number
    make-exactly = go (outcome (length before))
      where
        go : Outcome a b ws (length before) → RefusesExactly answer (NoMakeCause a b ws (length before)) make_number
        go (none n e) = exactly make_number answer (refused (refusal 24 0 0)) (NoMakeCause a b ws (length before)) (said _ e) (inl refl) (λ m q. absurd (no_good m 24 (sym q))) (λ c. absurd (n c.rig))
        go (small o h e) = exactly make_number answer (refused (refusal 16 0 0)) (NoMakeCause a b ws (length before)) (said _ e) (inr refl) (λ m q. absurd (no_good m 16 (sym q))) (λ c. let k = c.enough in absurd (omega arith))
        go (fits o h e) = exactly make_number answer (good (length (file_of (made a b ws)))) (NoMakeCause a b ws (length before)) (said _ e) tt (λ m q. record { rig = o; enough = h }) (λ c. (length (file_of (made a b ws)), refl))

    -- otherwise it answers a length, and a refusal leaves the bytes
    pub answered : (n : ℕ) → answer ≡ good n → (n ≡ length (file_of (made a b ws))) × (after ≡ file_of (made a b ws) ++ drop n before)
    answered n q = go (outcome (length before))
      where
        go : Outcome a b ws (length before) → (n ≡ length (file_of (made a b ws))) × (after ≡ file_of (made a b ws) ++ drop n before)
        go (none k e) = absurd (no_good n 24 (sym q ∙ said _ e))
        go (small o h e) = absurd (no_good n 16 (sym q ∙ said _ e))
        go (fits o h e) =
            let z : n ≡ length (file_of (made a b ws)) = good-one n (length (file_of (made a b ws))) (sym q ∙ said _ e) in
            (z, p.bytes ∙ ap (λ r. new_after r before) e ∙ ap (λ (k : ℕ). file_of (made a b ws) ++ drop k before) (sym z))

  tables-given : (o : ¬ (T (no_rig a b ws))) (before after : Entries) (answer : Result Counted) → Enough (length ws) (room_of before)
      → TablesDone (table_call widest (file_of (made a b ws)) (room_of before)) answer before after
      → (answer ≡ good (record { table_count = 1; word_count = length ws })) × (after ≡ put_before ws before)
  tables-given o before after answer h t =
      let m = makable a b ws o in
      let d : Domain = made a b ws in
      let n : needed d ≡ length ws = sym (tables-length d) ∙ ap length (made-tables a b ws m x y f) in
      let e = (table_call_iff widest (file_of d) d (room_of before)).1 (made-accepted a b ws m x y f, subst (λ (k : ℕ). Enough k (room_of before)) (sym n) h) in (
        t.answers ∙ ap (λ z. then z counts_in) e ∙ ap₂ (λ u v. good (record { table_count = u; word_count = v })) (made_one a b ws m x y f) n,
        t.left ∙ ap (λ z. tables_after z before) e ∙ ap (λ (l : List ℕ). put_before l before) (made-tables a b ws m x y f),
      )

  -- where it answers a length, the first bytes are a file that is accepted and has precisely the words as its table
  pub exercise_made : (before after : List ℕ) (n : ℕ) → MadeDone (make_call a b ws (length before)) (good n) before after → ExerciseMade a b ws (take n after)
  exercise_made before after n p =
      let s = answered before after (good n) p n refl in
      let q : take n after ≡ file_of (made a b ws) = ap (take n) s.1 ∙ take_at (file_of (made a b ws)) (drop n before) n (sym s.0) in
      let o : ¬ (T (no_rig a b ws)) = λ t. no_good n 24 ((refused_24 before after (good n) p).1 (λ r. rig-possible a b ws r t)) in
      let m = makable a b ws o in
      subst (ExerciseMade a b ws) (sym q) (record {
        short = refl;
        bytes = made_bytes a b ws m x y f;
        accepted = made-accepted a b ws m x y f;
        kind = made-kind a b ws m x y f;
        words = made_table a b ws m x y f;
        only = made-tables a b ws m x y f;
        given = tables-given o;
      })
