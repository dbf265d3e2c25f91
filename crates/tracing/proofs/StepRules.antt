-- Which rule applies: the index of an address, turn by turn; what a rule does is the step; and the call's outcomes.
use Prim.Native.Nat.{ℕ, zero, suc, ◌+◌, ◌-◌, ◌≤◌, ◌<◌}
use mathlib.Core.Path.{◌≡◌, refl, sym, ◌∙◌, ap}
use mathlib.Core.Bool.{Bool, true, false, cond, not, ◌||◌, ◌&&◌}
use mathlib.Core.List.{List, [], ◌∷◌}
use native.Mathlib.Omega.{arith}
use lib.ListN.{length, get_or, take, drop, drop_of_length-le}
use lib.Dec.{T, eqb, ltb, leb}
use borrow.Author.Tests.{eq-eqb, ne_eqb, eqb-true, eqb-false}
use Rattle.tables.specs.WiringDefinitions.{bytes_for, Refusal, refused, good, unless, refusal, Setting, Domain, expander_at, phy_at, address_of, attached, domain_read, is_in, any}
use Rattle.tables.specs.filling.Tables.{needed, offset, stretch}
use Rattle.tables.specs.filling.Entries.{Entries, Room, room_of, counted}
use Rattle.tables.specs.JudgingCall.{judged_domain}
use Rattle.tables.specs.lists.PreparedLists.{judged_in}
use Rattle.tracing.specs.Steps.{here, lost, Pick, at, nowhere, pick, phy_numbers, came_from, move_by, bearing, listing, subtracting, subtractively, by_table, directly, step}
use Rattle.tracing.specs.Trace.{Request}
use Rattle.tracing.specs.Answers.{bearing_pick, listing_pick, subtracting_pick}
use Rattle.tracing.specs.declared.Reason.{Reason}
use Rattle.tracing.specs.Reasons.{because, index_of, by_subtraction, by_entry, by_phy, reason, done_by, step_allowed, step_requested, StepTold, step_told, step_asked, step_in, step_call}
use Rattle.tables.proofs.WiringLemmas.{drop-next}

-- the index of s among the words that are left, from word k on: `inv` is the loop's invariant
module _ (s left k from : ℕ) (l : List ℕ) {v : ℕ} (inv : k + index_of s (take left (drop from l)) ≡ v) where
  pub index_out : length l ≤ from → k ≡ v
  unfolding index_of
  index_out h = let z : k + index_of s (take left (drop from l)) ≡ k + 0 = rw (drop_of_length-le l h) (none left) in omega (arith, z, inv)
    where
      none : (n : ℕ) → k + index_of s (take n []) ≡ k + 0
      none zero = refl
      none (suc n) = refl

  index-next : 0 < left → from < length l → index_of s (take left (drop from l)) ≡ cond (eqb s (get_or l from 0)) 0 (suc (index_of s (take (left - 1) (drop (from + 1) l))))
  unfolding index_of
  index-next h g =
      let e : left ≡ suc (left - 1) = omega arith in
      let f = drop-next 0 l from g in
      ap (λ (n : ℕ). index_of s (take n (drop from l))) e ∙ ap (λ (m : List ℕ). index_of s (take (suc (left - 1)) m)) f

  pub index-stop : get_or l from 0 ≡ s → 0 < left → from < length l → k ≡ v
  index-stop e h g = let z = rw (eq-eqb s (get_or l from 0) (sym e)) at (index-next h g) in omega (arith, z, inv)

  pub index-go : (get_or l from 0 ≡ s → ⊥) → 0 < left → from < length l → k + 1 + index_of s (take (left - 1) (drop (from + 1) l)) ≡ v
  index-go f h g = let z = rw (ne_eqb s (get_or l from 0) (λ e. f (sym e))) at (index-next h g) in omega (arith, z, inv)

  pub index-end : left ≤ 0 → k ≡ v
  unfolding index_of
  index-end h = let e : left ≡ 0 = omega arith in let z : k + index_of s (take left (drop from l)) ≡ k + 0 = rw e in omega (arith, z, inv)

-- the entry at the index has the address, where an entry has it, and no entry below it
pub record Found (s : ℕ) (l : List ℕ) (k : ℕ) : Type 0 where
  pub within : k < length l
  pub has : get_or l k 0 ≡ s
  pub lowest : (j : ℕ) → j < k → get_or l j 0 ≡ s → ⊥

found-next : (s w : ℕ) (l : List ℕ) (k : ℕ) → (w ≡ s → ⊥) → Found s l k → Found s (w ∷ l) (suc k)
found-next s w l k n f = record { within = omega (arith, f.within); has = f.has; lowest = below }
  where
    below : (j : ℕ) → j < suc k → get_or (w ∷ l) j 0 ≡ s → ⊥
    below zero h e = n e
    below (suc j) h e = f.lowest j (omega arith) e

pub index-has : (s : ℕ) (l : List ℕ) → T (is_in s l) → Found s l (index_of s l)
unfolding index_of is_in any
index-has s [] t = absurd t
index-has s (w ∷ l) t = go (eqb s w) refl t (index-has s l)
  where
    go : (b : Bool) → eqb s w ≡ b → T (b || any (eqb s) l) → (T (any (eqb s) l) → Found s l (index_of s l)) → Found s (w ∷ l) (cond b 0 (suc (index_of s l)))
    go true e u r = record { within = omega arith; has = sym (eqb-true s w e); lowest = λ j h f. omega arith }
    go false e u r = found-next s w l (index_of s l) (λ f. eqb-false s w e (sym f)) (r u)

-- what the rule does with the phy that it picks is the step
pub reason-step : (d : Domain) (words : List ℕ) (i arrival s : ℕ) → step d words i arrival s ≡ done_by d i (came_from d i arrival) (reason d words i arrival s)
unfolding step reason subtractively by_subtraction by_table by_entry directly by_phy
reason-step d words i arrival s = first (eqb (expander_at d i).address s)
  where
    fourth : (v : Pick) → subtractively d i (came_from d i arrival) v ≡ done_by d i (came_from d i arrival) (by_subtraction d i (came_from d i arrival) v)
    fourth nowhere = refl
    fourth (at p) = barred (eqb (address_of (phy_at d i p)) (came_from d i arrival))
      where
        barred : (b : Bool) → cond b lost (move_by d i p) ≡ done_by d i (came_from d i arrival) (cond b (because 5 255 65535) (because 4 p 65535))
        barred true = refl
        barred false = refl

    third : (v w : Pick) → by_table d i (came_from d i arrival) v (subtractively d i (came_from d i arrival) w)
        ≡ done_by d i (came_from d i arrival) (by_entry d words i s v (by_subtraction d i (came_from d i arrival) w))
    third nowhere w = fourth w
    third (at p) w = refl

    second : (u v w : Pick) → directly d i (came_from d i arrival) u (by_table d i (came_from d i arrival) v (subtractively d i (came_from d i arrival) w))
        ≡ done_by d i (came_from d i arrival) (by_phy u (by_entry d words i s v (by_subtraction d i (came_from d i arrival) w)))
    second nowhere v w = third v w
    second (at p) v w = refl

    first : (b : Bool) → cond b here
        (directly d i (came_from d i arrival) (pick (bearing d i s) (phy_numbers d i)) (by_table d i (came_from d i arrival) (pick (listing d words i s) (phy_numbers d i))
        (subtractively d i (came_from d i arrival) (pick (subtracting d i) (phy_numbers d i)))))
        ≡ done_by d i (came_from d i arrival) (cond b (because 1 255 65535)
        (by_phy (pick (bearing d i s) (phy_numbers d i)) (by_entry d words i s (pick (listing d words i s) (phy_numbers d i))
        (by_subtraction d i (came_from d i arrival) (pick (subtracting d i) (phy_numbers d i))))))
    first true = refl
    first false = second (pick (bearing d i s) (phy_numbers d i)) (pick (listing d words i s) (phy_numbers d i)) (pick (subtracting d i) (phy_numbers d i))

-- the reason, by what each rule picks
module _ (d : Domain) (i came : ℕ) {v : Pick} where
  pub subtraction_at : {p : ℕ} {b : Bool} → at p ≡ v → eqb (address_of (phy_at d i p)) came ≡ b
      → cond b (because 5 255 65535) (because 4 p 65535) ≡ by_subtraction d i came v
  unfolding by_subtraction
  subtraction_at e q = rw (← e, q)

  pub subtraction_none : nowhere ≡ v → because 5 255 65535 ≡ by_subtraction d i came v
  unfolding by_subtraction
  subtraction_none e = rw (← e)

module _ (d : Domain) (words : List ℕ) (i s : ℕ) (after : Reason) {v : Pick} where
  pub entry_at : {p : ℕ} → at p ≡ v → because 3 p (index_of s (stretch d words i p)) ≡ by_entry d words i s v after
  unfolding by_entry
  entry_at e = rw (← e)

  pub entry-none : nowhere ≡ v → after ≡ by_entry d words i s v after
  unfolding by_entry
  entry-none e = rw (← e)

pub index-stretch : (d : Domain) (words : List ℕ) (i p s : ℕ) {n from : ℕ} → n ≡ (expander_at d i).route_indexes → from ≡ offset d i p
    → index_of s (take n (drop from words)) ≡ index_of s (stretch d words i p)
unfolding stretch
index-stretch d words i p s e f = rw (e, f)

pub reason-here : (d : Domain) (words : List ℕ) (i arrival s : ℕ) → (expander_at d i).address ≡ s → because 1 255 65535 ≡ reason d words i arrival s
unfolding reason
reason-here d words i arrival s e = sym (rw (eq-eqb (expander_at d i).address s e))

pub reason-phy : (d : Domain) (words : List ℕ) (i arrival s : ℕ) {p : ℕ} → ((expander_at d i).address ≡ s → ⊥) → at p ≡ bearing_pick d i s
    → because 2 p 65535 ≡ reason d words i arrival s
unfolding reason by_phy
reason-phy d words i arrival s n e = sym (rw (ne_eqb (expander_at d i).address s n, ← e))

pub reason-on : (d : Domain) (words : List ℕ) (i arrival s : ℕ) → ((expander_at d i).address ≡ s → ⊥) → nowhere ≡ bearing_pick d i s
    → by_entry d words i s (listing_pick d words i s) (by_subtraction d i (came_from d i arrival) (subtracting_pick d i)) ≡ reason d words i arrival s
unfolding reason by_phy
reason-on d words i arrival s n e = sym (rw (ne_eqb (expander_at d i).address s n, ← e))

-- 15, 16, 18 and 17
pub step_allowed-by : (d : Domain) (i p : ℕ) {a b c : Bool} → ltb i (length d) ≡ a → eqb p 255 ≡ b → attached (phy_at d i p) ≡ c → step_allowed d i p ≡ (a && (b || c))
unfolding step_allowed
step_allowed-by d i p e f g = rw (e, f, g)

pub step_requested-by : (r : Room) (q : Request) (d : Domain) {a b c e : Bool} → step_allowed d q.start q.arrival ≡ a → leb (needed d) r.words ≡ b
    → leb (bytes_for (needed d)) r.bits ≡ c → eqb q.address 0 ≡ e
    → step_requested q r d ≡ unless a (refusal 15 0 0) (unless b (refusal 16 0 0) (unless c (refusal 18 0 0) (unless (not e) (refusal 17 0 0) (good d))))
unfolding step_requested
step_requested-by r q d e f g h = rw (e, f, g, h)

-- the call's outcomes
module _ (d : Domain) (t : Entries) (q : Request) where
  pub asked_no : {r : Refusal} → refused r ≡ step_requested q (room_of t) d → refused r ≡ step_asked d t q
  unfolding step_asked
  asked_no e = rw (← e)

  pub asked_yes : {x : Domain} {a : StepTold} → good x ≡ step_requested q (room_of t) d → a ≡ step_told d (counted t) q → good a ≡ step_asked d t q
  unfolding step_asked
  asked_yes e f = rw (← e, f)

module _ (chain first low : ℕ) (d : Domain) (t : Entries) (q : Request) where
  pub rows_no : (r : Refusal) → judged_in chain first low d ≡ refused r → refused r ≡ step_in chain first low d t q
  unfolding step_in
  rows_no r e = rw e

  pub rows_yes : judged_in chain first low d ≡ good d → step_asked d t q ≡ step_in chain first low d t q
  unfolding step_in
  rows_yes e = rw e

module _ (setting : Setting) (file : List ℕ) (t : Entries) (q : Request) where
  pub file_no : (r : Refusal) → domain_read setting file ≡ refused r → refused r ≡ step_call setting file t q
  unfolding step_call
  file_no r e = rw e

  pub file_yes : (first low : ℕ) (d : Domain) → domain_read setting file ≡ good d → judged_in setting.chain first low d ≡ judged_domain setting.chain d
      → step_in setting.chain first low d t q ≡ step_call setting file t q
  unfolding step_call step_in
  file_yes first low d e j = rw (e, j)
