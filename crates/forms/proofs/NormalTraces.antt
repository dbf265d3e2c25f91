-- What a domain's form leaves out changes no trace: the steps do not look at it.
use Prim.Native.Nat.{ℕ, zero, suc, ◌/◌, ◌%◌}
use mathlib.Core.Path.{◌≡◌, refl, sym, ap, ◌∙◌}
use mathlib.Core.Bool.{Bool, true, false, cond, not, ◌&&◌}
use mathlib.Core.List.{List, [], ◌∷◌}
use lib.ListN.{length}
use lib.Dec.{eqb, leb}
use Rattle.frames.specs.Refusals.{Result, good, unless, then, refusal}
use Rattle.frames.specs.Bits.{bytes_for}
use Rattle.files.specs.Lists.{up_to}
use Rattle.files.specs.Domain.{Domain, expander_at, phy_at, address_of, attached_phy_of, to_end, number_of}
use Rattle.tables.specs.filling.Tables.{needed}
use Rattle.tables.specs.filling.Entries.{Entries, room_of, counted}
use Rattle.tracing.specs.Steps.{Step, here, end_device, bad, lost, onward, Pick, at, nowhere, pick, phy_numbers, came_from, move_by, subtractively, by_table, directly, bearing, listing, subtracting, step}
use Rattle.tracing.specs.Trace.{Request, request, Traced, after, after_step, trace_from, traced, allowed, requested, traced_request}
use Rattle.tracing.specs.RequestLists.{answers_of}
use Rattle.forms.specs.NormalDomain.{normal_with}
use Rattle.forms.proofs.NormalDomains.{address-at, length_at, length-same, number_same, attribute-at, type_at, attached-at, far_at, bears-at, stretch-same, needed-same, Alike, alike}

pick_same : (f g : ℕ → Bool) (l : List ℕ) → ((p : ℕ) → f p ≡ g p) → pick f l ≡ pick g l
unfolding pick
pick_same f g [] e = refl
pick_same f g (p ∷ l) e = rw (e p, pick_same f g l e) refl

-- the chain of tests of a request, and what follows them
asked : (a b c e : Bool) (x : Domain) (y : Result Traced)
    → then (unless a (refusal 15 0 0) (unless b (refusal 16 0 0) (unless c (refusal 18 0 0) (unless e (refusal 17 0 0) (good x))))) (λ _. y)
    ≡ unless a (refusal 15 0 0) (unless b (refusal 16 0 0) (unless c (refusal 18 0 0) (unless e (refusal 17 0 0) y)))
asked false b c e x y = refl
asked true false c e x y = refl
asked true true false e x y = refl
asked true true true false x y = refl
asked true true true true x y = refl

module _ (d : Domain) where
  abbrev n : Domain
  n = normal_with 0 d

  numbers-same : (i : ℕ) → phy_numbers n i ≡ phy_numbers d i
  numbers-same i = ap up_to (length_at 0 d i)

  bearing-same : (i s : ℕ) → pick (bearing n i s) (phy_numbers n i) ≡ pick (bearing d i s) (phy_numbers d i)
  bearing-same i s = ap (pick (bearing n i s)) (numbers-same i) ∙ pick_same (bearing n i s) (bearing d i s) (phy_numbers d i) (bears-at d s i)

  listing-same : (words : List ℕ) (i s : ℕ) → pick (listing n words i s) (phy_numbers n i) ≡ pick (listing d words i s) (phy_numbers d i)
  listing-same words i s =
      ap (pick (listing n words i s)) (numbers-same i)
      ∙ pick_same (listing n words i s) (listing d words i s) (phy_numbers d i) (λ p. rw (ap (leb 2) (type_at d i p), attribute-at d 2 i p, stretch-same d words i p) refl)

  subtracting-same : (i : ℕ) → pick (subtracting n i) (phy_numbers n i) ≡ pick (subtracting d i) (phy_numbers d i)
  subtracting-same i =
      ap (pick (subtracting n i)) (numbers-same i)
      ∙ pick_same (subtracting n i) (subtracting d i) (phy_numbers d i) (λ p. rw (ap (leb 2) (type_at d i p), attribute-at d 1 i p) refl)

  move_same : (i p : ℕ) → move_by n i p ≡ move_by d i p
  move_same i p =
      ap (λ (s : ℕ). onward (number_of n s) (attached_phy_of (phy_at n i p))) (attached-at d i p) ∙ ap (λ (j : ℕ). onward j (attached_phy_of (phy_at n i p))) (number_same 0 d (address_of (phy_at d i p)))
      ∙ ap (onward (number_of d (address_of (phy_at d i p)))) (far_at d i p)

  subtractively-same : (i came : ℕ) (r : Pick) → subtractively n i came r ≡ subtractively d i came r
  unfolding subtractively
  subtractively-same i came nowhere = refl
  subtractively-same i came (at p) = ap (λ (s : ℕ). cond (eqb s came) lost (move_by n i p)) (attached-at d i p) ∙ ap (cond (eqb (address_of (phy_at d i p)) came) lost) (move_same i p)

  by_table-same : (i came : ℕ) (r : Pick) (s t : Step) → s ≡ t → by_table n i came r s ≡ by_table d i came r t
  unfolding by_table
  by_table-same i came nowhere s t e = e
  by_table-same i came (at p) s t e = ap (λ (k : ℕ). cond (eqb k came) bad (move_by n i p)) (attached-at d i p) ∙ ap (cond (eqb (address_of (phy_at d i p)) came) bad) (move_same i p)

  directly-same : (i came : ℕ) (r : Pick) (s t : Step) → s ≡ t → directly n i came r s ≡ directly d i came r t
  unfolding directly
  directly-same i came nowhere s t e = e
  directly-same i came (at p) s t e =
      ap (λ (k : ℕ). cond (eqb k came) bad (cond (to_end (phy_at n i p)) (end_device p) (move_by n i p))) (attached-at d i p)
      ∙ ap (λ (k : ℕ). cond (eqb (address_of (phy_at d i p)) came) bad (cond (eqb k 1) (end_device p) (move_by n i p))) (type_at d i p)
      ∙ ap (λ (m : Step). cond (eqb (address_of (phy_at d i p)) came) bad (cond (to_end (phy_at d i p)) (end_device p) m)) (move_same i p)

  came_same : (i arrival : ℕ) → came_from n i arrival ≡ came_from d i arrival
  came_same i arrival = ap (cond (eqb arrival 255) 0) (attached-at d i arrival)

  module _ (words : List ℕ) (s : ℕ) where
    step_same : (i arrival : ℕ) → step n words i arrival s ≡ step d words i arrival s
    unfolding step
    step_same i arrival =
        let came : ℕ = came_from d i arrival in
        let x = pick (subtracting d i) (phy_numbers d i) in
        let y = pick (listing d words i s) (phy_numbers d i) in
        let z = pick (bearing d i s) (phy_numbers d i) in
        let a : subtractively n i (came_from n i arrival) (pick (subtracting n i) (phy_numbers n i)) ≡ subtractively d i came x =
        ap (subtractively n i (came_from n i arrival)) (subtracting-same i) ∙ ap (λ (k : ℕ). subtractively n i k x) (came_same i arrival) ∙ subtractively-same i came x in
        let b : by_table n i (came_from n i arrival) (pick (listing n words i s) (phy_numbers n i)) (subtractively n i (came_from n i arrival) (pick (subtracting n i) (phy_numbers n i)))
        ≡ by_table d i came y (subtractively d i came x) =
        ap (λ (q : Pick). by_table n i (came_from n i arrival) q (subtractively n i (came_from n i arrival) (pick (subtracting n i) (phy_numbers n i)))) (listing-same words i s)
        ∙ ap (λ (k : ℕ). by_table n i k y (subtractively n i (came_from n i arrival) (pick (subtracting n i) (phy_numbers n i)))) (came_same i arrival) ∙ by_table-same i came y _ _ a in
        let f : directly n i (came_from n i arrival) (pick (bearing n i s) (phy_numbers n i)) (by_table n i (came_from n i arrival) (pick (listing n words i s) (phy_numbers n i)) (subtractively n i (came_from n i arrival) (pick (subtracting n i) (phy_numbers n i))))
        ≡ directly d i came z (by_table d i came y (subtractively d i came x)) =
        ap (λ (q : Pick). directly n i (came_from n i arrival) q (by_table n i (came_from n i arrival) (pick (listing n words i s) (phy_numbers n i)) (subtractively n i (came_from n i arrival) (pick (subtracting n i) (phy_numbers n i))))) (bearing-same i s)
        ∙ ap (λ (k : ℕ). directly n i k z (by_table n i (came_from n i arrival) (pick (listing n words i s) (phy_numbers n i)) (subtractively n i (came_from n i arrival) (pick (subtracting n i) (phy_numbers n i))))) (came_same i arrival)
        ∙ directly-same i came z _ _ b in
        ap (λ (k : ℕ). cond (eqb k s) here (directly n i (came_from n i arrival) (pick (bearing n i s) (phy_numbers n i)) (by_table n i (came_from n i arrival) (pick (listing n words i s) (phy_numbers n i)) (subtractively n i (came_from n i arrival) (pick (subtracting n i) (phy_numbers n i)))))) (address-at 0 d i)
        ∙ ap (cond (eqb (expander_at d i).address s) here) f

    trace_from-same : (k i arrival : ℕ) → trace_from k n words i arrival s ≡ trace_from k d words i arrival s
    unfolding trace_from after_step
    trace_from-same zero i arrival = refl
    trace_from-same (suc k) i arrival =
        ap (after_step i (λ j q. trace_from k n words j q s)) (step_same i arrival) ∙ go (step d words i arrival s) (λ j q. trace_from-same k j q)
      where
        go : (st : Step) → ((j q : ℕ) → trace_from k n words j q s ≡ trace_from k d words j q s)
            → after_step i (λ j q. trace_from k n words j q s) st ≡ after_step i (λ j q. trace_from k d words j q s) st
        go here r = refl
        go (end_device p) r = refl
        go bad r = refl
        go lost r = refl
        go (onward j q) r = ap (after (i ∷ [])) (r j q)

  traced-same : (words : List ℕ) (q : Request) → traced n words q ≡ traced d words q
  unfolding traced
  traced-same words q = ap (λ (k : ℕ). trace_from k n words q.start q.arrival q.address) (length-same 0 d) ∙ trace_from-same words q.address (length d) q.start q.arrival

  allowed_same : (i arrival : ℕ) → allowed n i arrival ≡ allowed d i arrival
  unfolding allowed
  allowed_same i arrival = rw (length-same 0 d, type_at d i arrival) refl

  request-same : (t : Entries) (bytes : ℕ) (q : Request) → traced_request n t bytes q ≡ traced_request d t bytes q
  unfolding traced_request requested
  request-same t bytes q =
      let room = room_of t in
      let e : Bool = not (eqb q.address 0) in
      let f : Bool → ℕ → ℕ → Traced → Result Traced = λ a m k y. unless a (refusal 15 0 0) (unless (leb m room.words && leb k bytes) (refusal 16 0 0) (unless (leb (bytes_for m) room.bits) (refusal 18 0 0) (unless e (refusal 17 0 0) (good y)))) in
      asked (allowed n q.start q.arrival) (leb (needed n) room.words && leb (length n) bytes) (leb (bytes_for (needed n)) room.bits) e n (good (traced n (counted t) q))
      ∙ ap (λ (a : Bool). f a (needed n) (length n) (traced n (counted t) q)) (allowed_same q.start q.arrival)
      ∙ ap (λ (m : ℕ). f (allowed d q.start q.arrival) m (length n) (traced n (counted t) q)) (needed-same d)
      ∙ ap (λ (k : ℕ). f (allowed d q.start q.arrival) (needed d) k (traced n (counted t) q)) (length-same 0 d)
      ∙ ap (f (allowed d q.start q.arrival) (needed d) (length d)) (traced-same (counted t) q)
      ∙ sym (asked (allowed d q.start q.arrival) (leb (needed d) room.words && leb (length d) bytes) (leb (bytes_for (needed d)) room.bits) e d (good (traced d (counted t) q)))

-- alike domains have the same traces, one by one and in lists
module _ (d e : Domain) (a : Alike d e) (t : Entries) where
  pub request-alike : (bytes : ℕ) (q : Request) → traced_request d t bytes q ≡ traced_request e t bytes q
  request-alike bytes q = alike (λ x. traced_request x t bytes q) (λ x. request-same x t bytes q) d e a

  pub answers-alike : (requests : List ℕ) → answers_of d t requests ≡ answers_of e t requests
  unfolding answers_of
  answers-alike [] = refl
  answers-alike (w ∷ []) = refl
  answers-alike (w ∷ s ∷ l) = rw (request-alike 64 (request (w / 256) (w % 256) s), answers-alike l) refl
