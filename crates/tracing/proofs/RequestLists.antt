-- A list of requests: one answer after the other, and each is that of its request by itself.
use Prim.Native.Nat.{ℕ, zero, suc, ◌+◌, ◌*◌, ◌≤◌, ◌<◌}
use mathlib.Core.Path.{◌≡◌, refl, sym, ◌∙◌, ap}
use mathlib.Core.List.{List, [], ◌∷◌, ◌++◌}
use native.Mathlib.Omega.{arith}
use native.Mathlib.Numerals.{add-one}
use lib.ListN.{length, get_or, drop, set, length-drop}
use lib.Seq.{sets, drop-cons}
use Rattle.tables.proofs.WiringLemmas.{sets-front}
use Rattle.tables.specs.WiringDefinitions.{Refusal, Result, refused, good, Domain}
use Rattle.tables.specs.filling.Entries.{Entries, Room}
use Rattle.tables.specs.lists.PreparedLists.{judged_in}
use Rattle.tracing.specs.RequestLists.{one_answer, answers_of, request_count, list_for, list_in, ListTraced}

-- all of them
module _ (d : Domain) (t : Entries) where
  pub length-answers : (l : List ℕ) → length (answers_of d t l) ≡ request_count l
  unfolding answers_of
  length-answers [] = omega arith
  length-answers (w ∷ []) = omega arith
  length-answers (w ∷ s ∷ l) = omega (arith, length-answers l)

  few-answers : (l : List ℕ) → length l ≤ 1 → answers_of d t l ≡ []
  unfolding answers_of
  few-answers [] h = refl
  few-answers (w ∷ []) h = refl
  few-answers (w ∷ s ∷ l) h = absurd (omega arith)

  module _ (requests : List ℕ) (k : ℕ) where
    answers_next : k < request_count requests
        → answers_of d t (drop (2 * k) requests) ≡ one_answer d t (get_or requests (2 * k) 0) (get_or requests (2 * k + 1) 0) ∷ answers_of d t (drop (2 * (k + 1)) requests)
    unfolding answers_of
    answers_next h =
        let a : drop (2 * k) requests ≡ get_or requests (2 * k) 0 ∷ drop (suc (2 * k)) requests = drop-cons requests (2 * k) 0 (omega arith) in
        let b : drop (suc (2 * k)) requests ≡ get_or requests (suc (2 * k)) 0 ∷ drop (suc (suc (2 * k))) requests = drop-cons requests (suc (2 * k)) 0 (omega arith) in
        let e : 2 * k + 1 ≡ suc (2 * k) = omega arith in
        let f : 2 * (k + 1) ≡ suc (suc (2 * k)) = omega arith in
        ap (answers_of d t) (a ∙ ap (λ (l : List ℕ). get_or requests (2 * k) 0 ∷ l) b) ∙ rw (e, f) refl

    pub answers-go : (answers : List ℕ) (a : ℕ) → a ≡ one_answer d t (get_or requests (2 * k) 0) (get_or requests (2 * k + 1) 0) → k < request_count requests
        → sets (set answers k a) (k + 1) (answers_of d t (drop (2 * (k + 1)) requests)) ≡ sets answers k (answers_of d t (drop (2 * k) requests))
    answers-go answers a q h =
        ap (λ (i : ℕ). sets (set answers k a) i (answers_of d t (drop (2 * (k + 1)) requests))) (add-one k)
        ∙ ap (λ (x : ℕ). sets answers k (x ∷ answers_of d t (drop (2 * (k + 1)) requests))) q ∙ ap (sets answers k) (sym (answers_next h))

    pub answers-end : (answers before : List ℕ) → sets answers k (answers_of d t (drop (2 * k) requests)) ≡ sets before 0 (answers_of d t requests) → request_count requests ≤ k → request_count requests ≤ length before
        → answers ≡ answers_of d t requests ++ drop (request_count requests) before
    answers-end answers before e h room =
        let z = few-answers (drop (2 * k) requests) (omega (arith, length-drop (2 * k) requests)) in
        let n = length-answers requests in
        sym (ap (sets answers k) z) ∙ e ∙ sets-front (answers_of d t requests) before (omega arith) ∙ ap (λ (m : ℕ). answers_of d t requests ++ drop m before) n

  -- each answer of the list is that of its request
  pub each-answer : (k : ℕ) (requests : List ℕ) → k < request_count requests → get_or (answers_of d t requests) k 0 ≡ one_answer d t (get_or requests (2 * k) 0) (get_or requests (2 * k + 1) 0)
  unfolding answers_of
  each-answer k [] h = absurd (omega arith)
  each-answer k (w ∷ []) h = absurd (omega arith)
  each-answer zero (w ∷ s ∷ l) h = refl
  each-answer (suc k) (w ∷ s ∷ l) h =
      let e : 2 * suc k ≡ suc (suc (2 * k)) = omega arith in
      let f : 2 * suc k + 1 ≡ suc (suc (2 * k + 1)) = omega arith in
      each-answer k l (omega arith) ∙ rw (f, e) refl

module _ (t : Entries) (requests before : List ℕ) where
  -- past the judging call's causes
  pub list-judged : (chain first low : ℕ) (d : Domain) (room : Room) (answer : Result ℕ) (after : List ℕ) → judged_in chain first low d ≡ good d
      → ListTraced (list_for room (length before) (request_count requests) d) t requests answer before after
      → ListTraced (list_in chain first low d room (length before) (request_count requests)) t requests answer before after
  unfolding list_in
  list-judged chain first low d room answer after e o = rw e o

  pub list-refused : (chain first low : ℕ) (d : Domain) (room : Room) (r : Refusal) → judged_in chain first low d ≡ refused r
      → ListTraced (list_in chain first low d room (length before) (request_count requests)) t requests (refused r) before before
  unfolding list_in
  list-refused chain first low d room r e = rw e (record { answers = refl; words = refl })
