-- Entries that tell nothing stay as they were: an entry is written only for an expander or an attached phy.
use Prim.Native.Nat.{ℕ, ◌+◌, ◌*◌, ◌/◌, ◌%◌, ◌<◌, ◌≤◌}
use mathlib.Core.Path.{◌≡◌, refl, sym, ◌∙◌, subst}
use mathlib.Core.Logic.{◌≢◌}
use mathlib.Core.Bool.{Bool}
use mathlib.Core.List.{List}
use native.Mathlib.Omega.{arith}
use lib.ListN.{length, set}
use lib.Seq.{get_or-set_other}
use lib.Dec.{T, lt→ltb}
use borrow.Author.Tests.{lt-ltb, le-ltb}
use Rattle.files.specs.declared.Phy.{Phy}
use Rattle.files.specs.Domain.{Domain, expander_at, phy_at, type_of, attached}
use Rattle.files.specs.Rows.{domain_in}
use Rattle.wiring.specs.index.AddressIndex.{slot_of, tells, attached_at, EntriesKeptBut}
use Rattle.files.proofs.ListMembers.{was_false}
use Rattle.files.proofs.Domains.{type-attached}
use Rattle.wiring.proofs.index.SlotDevices.{short_in, slot_is}

pub kept-none : {test : ℕ → Bool} (l : List ℕ) → EntriesKeptBut test l l
kept-none l = record { same = λ t n. refl }

pub kept_then : {test : ℕ → Bool} {a b c : List ℕ} → EntriesKeptBut test a b → EntriesKeptBut test b c → EntriesKeptBut test a c
kept_then x y = record { same = λ t n. y.same t n ∙ x.same t n }

kept_set : (test : ℕ → Bool) (l : List ℕ) (at v : ℕ) → T (test at) → EntriesKeptBut test l (set l at v)
kept_set test l at v h = record { same = λ t n. get_or-set_other l at t v 0 (λ e. was_false (test t) n (subst (λ (x : ℕ). T (test x)) (sym e) h)) }

-- the entry of an expander
pub expander-kept : (d : Domain) (first : List ℕ) (j v : ℕ) → j < length d → length d ≤ 64 → EntriesKeptBut (tells d) first (set first j v)
unfolding tells
expander-kept d first j v h few = kept_set (tells d) first j v (rw (lt-ltb j 64 (omega arith)) (lt→ltb j (length d) h))

-- and of f, phy p of expander i, where it is attached
module _ (ws : List ℕ) (i p : ℕ) (f : Phy) (e : f ≡ phy_at (domain_in ws) i p) (h : p < length (expander_at (domain_in ws) i).phys) (n : type_of f ≢ 0) (l : List ℕ) (v : ℕ) where
  here : T (attached (phy_at (domain_in ws) i p))
  here = rw e at (type-attached f n)

  pub first-kept : EntriesKeptBut (tells (domain_in ws)) l (set l (slot_of i p) v)
  unfolding tells
  first-kept = kept_set (tells (domain_in ws)) l (slot_of i p) v (rw (le-ltb (slot_of i p) 64 (omega arith), slot_is (domain_in ws) i p (omega (arith, short_in ws i))) here)

  pub low-kept : EntriesKeptBut (attached_at (domain_in ws)) l (set l (128 * i + p) v)
  low-kept =
      let a : (128 * i + p) / 128 ≡ i = omega (arith, short_in ws i) in
      let b : (128 * i + p) % 128 ≡ p = omega (arith, short_in ws i) in
      kept_set (attached_at (domain_in ws)) l (128 * i + p) v (rw (a, b) here)
