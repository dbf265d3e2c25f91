-- What an expander does with a request, in bytes: the phys and expanders that a step and its reason name, and those at which a trace ends.
use Prim.Native.Nat.{ℕ, zero, suc, ◌+◌, ◌≤◌, ◌<◌}
use mathlib.Core.Path.{sym, subst}
use mathlib.Core.Logic.{by_cases}
use mathlib.Core.Bool.{Bool, true, false, cond}
use mathlib.Core.List.{List, [], ◌∷◌}
use native.Mathlib.Omega.{arith}
use native.Mathlib.Decide.{dec_lt}
use lib.ListN.{length, drop, length-take, get_or-eq_default}
use lib.Dec.{eqb}
use Rattle.files.specs.declared.Phy.{Phy}
use Rattle.files.specs.declared.Phy.TheVariants.{Vacant, Present}
use Rattle.files.specs.Lists.{numbers}
use Rattle.files.specs.Domain.{Domain, expander_at, phy_at, address_of, attached_phy_of, to_end, number_of}
use Rattle.files.specs.ReadDomain.{FitsPhy, FitsDomain}
use Rattle.files.proofs.ListMembers.{in_get_d}
use Rattle.tables.specs.filling.Tables.{offset, stretch}
use Rattle.tracing.specs.Steps.{Step, here, end_device, bad, lost, onward, Pick, at, nowhere, pick, phy_numbers, came_from, move_by, subtractively, by_table, directly, bearing, listing, subtracting, step}
use Rattle.tracing.specs.Reasons.{because, index_of, by_subtraction, by_entry, by_phy, subtractive_reason, table_reason, reason}
use Rattle.tracing.specs.Trace.{Traced, after_step, trace_from}
use Rattle.tracing.specs.declared.Reason.{Reason}
use Rattle.exports.proofs.DomainCounts.{fits-at}

-- either way
either : {A : Type 0} (P : A → Type 0) (b : Bool) (x y : A) → P x → P y → P (cond b x y)
either P true x y h k = h
either P false x y h k = k

-- the phy picked
abbrev PickFits : Pick → Type 0
PickFits (at p) = p < 255
PickFits nowhere = Unit {0}

-- what a step names
abbrev pub StepFits : Step → Type 0
StepFits here = Unit {0}
StepFits (end_device p) = p < 256
StepFits bad = Unit {0}
StepFits lost = Unit {0}
StepFits (onward j q) = (j < 256) × (q < 256)

-- what its reason names
pub record ReasonFits (r : Reason) : Type 0 where
  pub rule : r.rule < 256
  pub phy : r.phy.0 < 256
  pub index : r.index.0 < 65536

pick-fits : (test : ℕ → Bool) (i count : ℕ) → i + count ≤ 255 → PickFits (pick test (numbers i count))
unfolding pick numbers
pick-fits test i zero h = tt
pick-fits test i (suc count) h = either PickFits (test i) (at i) _ (omega arith) (pick-fits test (i + 1) count (omega arith))

number_up : (d : Domain) (s : ℕ) → number_of d s ≤ length d
unfolding number_of
number_up [] s = omega arith
number_up (e ∷ d) s = let r = number_up d s in either (λ n. n ≤ suc (length d)) (eqb e.address s) 0 _ (omega arith) (omega arith)

index-up : (s : ℕ) (l : List ℕ) → index_of s l ≤ length l
unfolding index_of
index-up s [] = omega arith
index-up s (w ∷ l) = let r = index-up s l in either (λ n. n ≤ suc (length l)) (eqb s w) 0 _ (omega arith) (omega arith)

module _ (d : Domain) (f : FitsDomain d) where
  far-fits : (i p : ℕ) → attached_phy_of (phy_at d i p) < 256
  far-fits i p = go (phy_at d i p) there
    where
      there : FitsPhy (phy_at d i p)
      there =
          by_cases (dec_lt p (length (expander_at d i).phys)) (λ h. (fits-at d f i).phys (phy_at d i p) (in_get_d (expander_at d i).phys (Vacant 0) p h))
          (λ h. subst FitsPhy (sym (get_or-eq_default (expander_at d i).phys (Vacant 0) (omega arith))) (omega arith))

      go : (φ : Phy) → FitsPhy φ → attached_phy_of φ < 256
      go (Vacant r) h = omega arith
      go (Present x) h = h.1

  picks : (i : ℕ) (test : ℕ → Bool) → PickFits (pick test (phy_numbers d i))
  picks i test = let n = (fits-at d f i).count in pick-fits test 0 (length (expander_at d i).phys) (omega arith)

  move_fits : (i p : ℕ) → StepFits (move_by d i p)
  move_fits i p = let n = f.count in let m = number_up d (address_of (phy_at d i p)) in (omega arith, far-fits i p)

  -- rule by rule
  module _ (i came : ℕ) where
    sub-fits : (k : Pick) → StepFits (subtractively d i came k)
    unfolding subtractively
    sub-fits nowhere = tt
    sub-fits (at p) = either StepFits (eqb (address_of (phy_at d i p)) came) lost (move_by d i p) tt (move_fits i p)

    table_fits : (k : Pick) (after : Step) → StepFits after → StepFits (by_table d i came k after)
    unfolding by_table
    table_fits nowhere after h = h
    table_fits (at p) after h = either StepFits (eqb (address_of (phy_at d i p)) came) bad (move_by d i p) tt (move_fits i p)

    direct-fits : (k : Pick) (after : Step) → PickFits k → StepFits after → StepFits (directly d i came k after)
    unfolding directly
    direct-fits nowhere after g h = h
    direct-fits (at p) after g h =
        either StepFits (eqb (address_of (phy_at d i p)) came) bad _ tt (either StepFits (to_end (phy_at d i p)) (end_device p) (move_by d i p) (omega arith) (move_fits i p))

  -- the step
  pub step_fits : (words : List ℕ) (i arrival s : ℕ) → StepFits (step d words i arrival s)
  unfolding step
  step_fits words i arrival s =
      let came = came_from d i arrival in
      either StepFits (eqb (expander_at d i).address s) here _ tt
      (direct-fits i came (pick (bearing d i s) (phy_numbers d i)) _ (picks i (bearing d i s))
      (table_fits i came (pick (listing d words i s) (phy_numbers d i)) _ (sub-fits i came (pick (subtracting d i) (phy_numbers d i)))))

  because-fits : (rule phy index : ℕ) → rule < 256 → phy < 256 → index < 65536 → ReasonFits (because rule phy index)
  because-fits rule phy index h k l = record { rule = h; phy = k; index = l }

  stretch-up : (words : List ℕ) (i p s : ℕ) → index_of s (stretch d words i p) < 65536
  unfolding stretch
  stretch-up words i p s =
      let r = (expander_at d i).route_indexes in
      let a = index-up s (stretch d words i p) in
      let b = length-take r (drop (offset d i p) words) in
      let c = (fits-at d f i).route_indexes in
      omega arith

  -- its reason
  pub reason-fits : (words : List ℕ) (i arrival s : ℕ) → ReasonFits (reason d words i arrival s)
  unfolding reason by_subtraction by_entry by_phy
  reason-fits words i arrival s =
      either ReasonFits (eqb (expander_at d i).address s) (because 1 255 65535) _ (because-fits 1 255 65535 (omega arith) (omega arith) (omega arith))
      (phy (pick (bearing d i s) (phy_numbers d i)) (picks i (bearing d i s)))
    where
      came : ℕ
      came = came_from d i arrival

      none : ReasonFits (because 5 255 65535)
      none = because-fits 5 255 65535 (omega arith) (omega arith) (omega arith)

      sub : (k : Pick) → PickFits k → ReasonFits (by_subtraction d i came k)
      sub nowhere h = none
      sub (at p) h = either ReasonFits (eqb (address_of (phy_at d i p)) came) (because 5 255 65535) (because 4 p 65535) none (because-fits 4 p 65535 (omega arith) (omega arith) (omega arith))

      entry : (k : Pick) → PickFits k → ReasonFits (by_entry d words i s k (subtractive_reason d i came))
      entry nowhere h = sub (pick (subtracting d i) (phy_numbers d i)) (picks i (subtracting d i))
      entry (at p) h = because-fits 3 p (index_of s (stretch d words i p)) (omega arith) (omega arith) (stretch-up words i p s)

      phy : (k : Pick) → PickFits k → ReasonFits (by_phy k (table_reason d words i came s))
      phy nowhere h = entry (pick (listing d words i s) (phy_numbers d i)) (picks i (listing d words i s))
      phy (at p) h = because-fits 2 p 65535 (omega arith) (omega arith) (omega arith)

-- the end of a trace of at most so many steps
pub record TracedFits (steps : ℕ) (t : Traced) : Type 0 where
  pub last : t.last < 256
  pub phy : t.phy < 256
  pub count : length t.passed ≤ steps

-- from an expander whose number is a byte
pub trace-fits : (d : Domain) → FitsDomain d → (words : List ℕ) (s steps i arrival : ℕ) → i < 256 → TracedFits steps (trace_from steps d words i arrival s)
unfolding trace_from after_step
trace-fits d f words s zero i arrival h = record { last = h; phy = omega arith; count = omega arith }
trace-fits d f words s (suc steps) i arrival h = go (step d words i arrival s) (step_fits d f words i arrival s) (trace-fits d f words s steps)
  where
    go : (k : Step) → StepFits k → ((j q : ℕ) → j < 256 → TracedFits steps (trace_from steps d words j q s))
        → TracedFits (suc steps) (after_step i (λ j q. trace_from steps d words j q s) k)
    go here g r = record { last = h; phy = omega arith; count = omega arith }
    go (end_device p) g r = record { last = h; phy = g; count = omega arith }
    go bad g r = record { last = h; phy = omega arith; count = omega arith }
    go lost g r = record { last = h; phy = omega arith; count = omega arith }
    go (onward j q) g r = let t = r j q g.0 in let c = t.count in record { last = t.last; phy = t.phy; count = omega arith }
