-- A search through the phys of a domain that refuses names the lowest phy at which its test holds.
use Prim.Native.Nat.{ℕ, zero, suc, ◌+◌, ◌≤◌, ◌<◌}
use mathlib.Core.Path.{◌≡◌, refl, sym, ap, subst}
use mathlib.Core.Logic.{◌⊎◌, inl, inr, ⊎_elim}
use mathlib.Core.Bool.{Bool}
use mathlib.Core.List.{List, [], ◌∷◌, ◌++◌}
use native.Mathlib.Omega.{arith}
use lib.ListN.{length}
use lib.Dec.{T}
use Rattle.frames.specs.Refusals.{Result, refused, refusal}
use Rattle.frames.specs.declared.Refusal.{Refusal}
use Rattle.files.specs.Lists.{In}
use Rattle.files.specs.Domain.{Domain, expander_at}
use Rattle.files.proofs.CallResults.{never}
use Rattle.files.proofs.ListMembers.{by-test, was_true, was_false, in_append}
use Rattle.wiring.specs.phys.PhyCauses.{Place, place, phy_places, places_from, places, first_in, first_of}
use Rattle.wiring.proofs.phys.WiredPhys.{in_places}
use Rattle.benches.specs.BenchRefusals.{LowestPlace}

-- one place is no higher than another, by expander and then phy
abbrev UpTo : Place → Place → Type 0
UpTo a b = (a.expander < b.expander) ⊎ ((a.expander ≡ b.expander) × (a.phy ≤ b.phy))

-- each place is no higher than those after it
abbrev Ordered : List Place → Type 0
Ordered [] = Unit {0}
Ordered (q ∷ qs) = ((w : Place) → In w qs → UpTo q w) × Ordered qs

ordered-append : (qs rs : List Place) → Ordered qs → Ordered rs → ((a b : Place) → In a qs → In b rs → UpTo a b) → Ordered (qs ++ rs)
ordered-append [] rs o u h = u
ordered-append (q ∷ qs) rs o u h =
    (λ w k. ⊎_elim (o.0 w) (h q w (inl refl)) (in_append qs rs w k), ordered-append qs rs o.1 u (λ a b x y. h a b (inr x) y))

in_phys : (i p count : ℕ) (w : Place) → In w (phy_places i p count) → (w.expander ≡ i) × (p ≤ w.phy)
unfolding phy_places
in_phys i p zero w h = absurd h
in_phys i p (suc count) w (inl e) = (ap (λ (v : Place). v.expander) e, let z = ap (λ (v : Place). v.phy) e in omega arith)
in_phys i p (suc count) w (inr h) = let o = in_phys i (p + 1) count w h in (o.0, let z = o.1 in omega arith)

in_from : (d : Domain) (i : ℕ) (w : Place) → In w (places_from i d) → i ≤ w.expander
unfolding places_from
in_from [] i w h = absurd h
in_from (e ∷ d) i w h = ⊎_elim
    (λ o. let z = (in_phys i 0 (length e.phys) w o).0 in omega arith)
    (λ o. let z = in_from d (i + 1) w o in omega arith) (in_append (phy_places i 0 (length e.phys)) (places_from (i + 1) d) w h)

ordered-phys : (i p count : ℕ) → Ordered (phy_places i p count)
unfolding phy_places
ordered-phys i p zero = tt
ordered-phys i p (suc count) = (λ w h. let o = in_phys i (p + 1) count w h in inr (sym o.0, let z = o.1 in omega arith), ordered-phys i (p + 1) count)

ordered-from : (d : Domain) (i : ℕ) → Ordered (places_from i d)
unfolding places_from
ordered-from [] i = tt
ordered-from (e ∷ d) i = ordered-append (phy_places i 0 (length e.phys)) (places_from (i + 1) d) (ordered-phys i 0 (length e.phys)) (ordered-from d (i + 1))
    (λ a b x y. let u = (in_phys i 0 (length e.phys) a x).0 in let v = in_from d (i + 1) b y in inl (omega arith))

-- what a search that refuses has found
record Found (k : ℕ) (test : ℕ → ℕ → Bool) (qs : List Place) (r : Refusal) : Type 0 where
  at : Place
  holds : T (test at.expander at.phy)
  is : r ≡ refusal k at.expander at.phy
  first : (w : Place) → In w qs → T (test w.expander w.phy) → UpTo at w

found : (k : ℕ) (test : ℕ → ℕ → Bool) (qs : List Place) (d : Domain) (r : Refusal) → Ordered qs → first_in k test qs d ≡ refused r → Found k test qs r
unfolding first_in
found k test [] d r o e = never r d (sym e)
found k test (q ∷ qs) d r o e = by-test (test q.expander q.phy)
    (λ t. let f : ◌≡◌ {A = Result Domain} (refused (refusal k q.expander q.phy)) (refused r) = rw t at e in
    record {
      at = q;
      holds = was_true (test q.expander q.phy) t;
      is = cc;
      first = λ w h u. ⊎_elim (λ s. inr (ap (λ (v : Place). v.expander) (sym s), let z = ap (λ (v : Place). v.phy) s in omega arith)) (o.0 w) h;
    })
    (λ t. let f = found k test qs d r o.1 (rw t at e) in
    record {
      at = f.at;
      holds = f.holds;
      is = f.is;
      first = λ w h u. ⊎_elim (λ s. absurd (was_false (test q.expander q.phy) t (subst (λ (v : Place). T (test v.expander v.phy)) s u))) (λ s. f.first w s u) h;
    })

-- where it refuses, a search over the whole domain names the lowest phy at which its test holds
pub first-lowest : (k : ℕ) (test : ℕ → ℕ → Bool) (d : Domain) (r : Refusal) → ((i p : ℕ) → T (test i p) → p < length (expander_at d i).phys) → first_of k test d ≡ refused r
    → (x y : ℕ) × LowestPlace test x y × (r ≡ refusal k x y)
first-lowest k test d r range e =
    let f = found k test (places d) d r (ordered-from d 0) e in
    (f.at.expander, f.at.phy, record { holds = f.holds; lowest = λ u v t. f.first (place u v) (in_places d u v (range u v t)) t }, f.is)
