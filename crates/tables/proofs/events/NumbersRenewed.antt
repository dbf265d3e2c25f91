-- Numbers renewed at places, each as wide as the table there: what stays before and after them, one place, and places after others.
use Prim.Native.Nat.{ℕ, ◌+◌, ◌≤◌}
use mathlib.Core.Path.{◌≡◌, refl, sym, ◌∙◌, ap, ap₂}
use mathlib.Core.Bool.{Bool, true, false, cond}
use mathlib.Core.List.{List, [], ◌∷◌, ◌++◌, append_assoc}
use native.Mathlib.Omega.{arith}
use lib.ListN.{length, take, drop, length-drop, take-append-drop}
use lib.Seq.{sets, take_at, drop-drop, length-take-le, take-append-add}
use lib.Dec.{T}
use Rattle.frames.proofs.PackedRows.{drop_past}
use Rattle.frames.proofs.ValuesPut.{sets_mid}
use Rattle.files.specs.Lists.{keep}
use Rattle.files.specs.Domain.{Domain}
use Rattle.wiring.specs.phys.PhyCauses.{Place}
use Rattle.files.proofs.ListMembers.{was_true}
use Rattle.tables.specs.filling.Tables.{size, sizes}
use Rattle.tables.specs.events.TouchedTables.{renewed}
use Rattle.tables.specs.events.TablesRewritten.{renewed_at}

-- past a front whose length is known
take_past : (p q : List ℕ) (n k : ℕ) → k ≡ length p + n → take k (p ++ q) ≡ p ++ take n q
take_past p q n k e = rw e (take-append-add p q n)

module _ (d : Domain) (test : Place → Bool) (new : Place → List ℕ) (fits : (v : Place) → T (test v) → length (new v) ≡ size d v) where
  abbrev piece : Place → List ℕ → List ℕ
  piece v l = cond (test v) (new v) (take (size d v) l)

  pub length-piece : (v : Place) (l : List ℕ) → size d v ≤ length l → length (piece v l) ≡ size d v
  length-piece v l h = go (test v) refl
    where
      go : (b : Bool) → test v ≡ b → length (cond b (new v) (take (size d v) l)) ≡ size d v
      go true q = fits v (was_true (test v) q)
      go false q = length-take-le (size d v) l h

  pub renewed-after : (qs : List Place) (l : List ℕ) → sizes d qs ≤ length l → drop (sizes d qs) (renewed test (size d) new qs l) ≡ drop (sizes d qs) l
  unfolding renewed sizes
  renewed-after [] l h = refl
  renewed-after (v ∷ qs) l h =
      let k = length-drop (size d v) l in
      drop_past (piece v l) (renewed test (size d) new qs (drop (size d v) l)) (sizes d qs) (size d v + sizes d qs) (omega (arith, length-piece v l (omega arith)))
      ∙ renewed-after qs (drop (size d v) l) (omega arith) ∙ drop-drop (sizes d qs) (size d v) l

  -- places, and others after them
  renewed-cut : (qs rs : List Place) (l : List ℕ) → sizes d qs ≤ length l → renewed test (size d) new (qs ++ rs) l
      ≡ take (sizes d qs) (renewed test (size d) new qs l) ++ renewed test (size d) new rs (drop (sizes d qs) (renewed test (size d) new qs l))
  unfolding renewed sizes
  renewed-cut [] rs l h = refl
  renewed-cut (v ∷ qs) rs l h =
      let k = length-drop (size d v) l in
      let p : List ℕ = piece v l in
      let x : List ℕ = renewed test (size d) new qs (drop (size d v) l) in
      let n : ℕ = sizes d qs in
      let e : length p ≡ size d v = length-piece v l (omega arith) in
      ap (λ (m : List ℕ). p ++ m) (renewed-cut qs rs (drop (size d v) l) (omega arith)) ∙ sym (append_assoc p (take n x) (renewed test (size d) new rs (drop n x)))
      ∙ sym (ap₂ (λ (a b : List ℕ). a ++ renewed test (size d) new rs b) (take_past p x n (size d v + n) (omega arith)) (drop_past p x n (size d v + n) (omega arith)))

  pub renewed_at-after : (qs : List Place) (at : ℕ) (l : List ℕ) → at + sizes d qs ≤ length l → drop (at + sizes d qs) (renewed_at d test new qs at l) ≡ drop (at + sizes d qs) l
  unfolding renewed_at
  renewed_at-after qs at l h =
      let k = length-drop at l in
      drop_past (take at l) (renewed test (size d) new qs (drop at l)) (sizes d qs) (at + sizes d qs) (omega (arith, length-take-le at l (omega arith)))
      ∙ renewed-after qs (drop at l) (omega arith) ∙ drop-drop (sizes d qs) at l

  pub renewed_at-before : (qs : List Place) (at : ℕ) (l : List ℕ) → at ≤ length l → take at (renewed_at d test new qs at l) ≡ take at l
  unfolding renewed_at
  renewed_at-before qs at l h = take_at (take at l) (renewed test (size d) new qs (drop at l)) at (length-take-le at l h)

  pub renewed_at-then : (qs rs : List Place) (at : ℕ) (l : List ℕ) → at + sizes d qs ≤ length l
      → renewed_at d test new rs (at + sizes d qs) (renewed_at d test new qs at l) ≡ renewed_at d test new (qs ++ rs) at l
  unfolding renewed_at
  renewed_at-then qs rs at l h =
      let k = length-drop at l in
      let p : List ℕ = take at l in
      let x : List ℕ = renewed test (size d) new qs (drop at l) in
      let n : ℕ = sizes d qs in
      let e : length p ≡ at = length-take-le at l (omega arith) in
      ap₂ (λ (a b : List ℕ). a ++ renewed test (size d) new rs b) (take_past p x n (at + n) (omega arith)) (drop_past p x n (at + n) (omega arith))
      ∙ append_assoc p (take n x) (renewed test (size d) new rs (drop n x)) ∙ ap (λ (m : List ℕ). p ++ m) (sym (renewed-cut qs rs (drop at l) (omega arith)))

  pub renewed_at-none : (at : ℕ) (l : List ℕ) → renewed_at d test new [] at l ≡ l
  unfolding renewed_at renewed
  renewed_at-none at l = take-append-drop at l

  -- one place: new numbers put there, or all as it was
  pub renewed_at-new : (v : Place) (at : ℕ) (l : List ℕ) → test v ≡ true → at + size d v ≤ length l → renewed_at d test new (v ∷ []) at l ≡ sets l at (new v)
  unfolding renewed_at renewed
  renewed_at-new v at l q h =
      let t : T (test v) = was_true (test v) q in
      let a : cond (test v) (new v) (take (size d v) (drop at l)) ≡ new v = ap (λ (b : Bool). cond b (new v) (take (size d v) (drop at l))) q in
      ap (λ (x : List ℕ). take at l ++ (x ++ drop (size d v) (drop at l))) a ∙ sets_mid l (new v) at (size d v) (fits v t) h

  pub renewed_at-old : (v : Place) (at : ℕ) (l : List ℕ) → test v ≡ false → renewed_at d test new (v ∷ []) at l ≡ l
  unfolding renewed_at renewed
  renewed_at-old v at l q =
      let a : cond (test v) (new v) (take (size d v) (drop at l)) ≡ take (size d v) (drop at l) = ap (λ (b : Bool). cond b (new v) (take (size d v) (drop at l))) q in
      ap (λ (x : List ℕ). take at l ++ (x ++ drop (size d v) (drop at l))) a ∙ ap (λ (x : List ℕ). take at l ++ x) (take-append-drop (size d v) (drop at l)) ∙ take-append-drop at l

  -- places without a table have no width
  pub renewed-kept : (g : Place → Bool) → ((v : Place) → g v ≡ false → (test v ≡ false) × (size d v ≡ 0)) → (qs : List Place) (l : List ℕ)
      → renewed test (size d) new (keep g qs) l ≡ renewed test (size d) new qs l
  unfolding renewed keep
  renewed-kept g h [] l = refl
  renewed-kept g h (v ∷ qs) l = go (g v) refl (renewed-kept g h qs)
    where
      go : (b : Bool) → g v ≡ b → ((m : List ℕ) → renewed test (size d) new (keep g qs) m ≡ renewed test (size d) new qs m)
          → renewed test (size d) new (cond b (v ∷ keep g qs) (keep g qs)) l ≡ piece v l ++ renewed test (size d) new qs (drop (size d v) l)
      go true q more = ap (λ (m : List ℕ). piece v l ++ m) (more (drop (size d v) l))
      go false q more =
          let z = h v q in
          let a : piece v l ≡ [] = ap₂ (λ (b : Bool) (n : ℕ). cond b (new v) (take n l)) z.0 z.1 in
          let b : drop (size d v) l ≡ l = ap (λ (n : ℕ). drop n l) z.1 in
          more l ∙ sym (ap₂ (λ (x y : List ℕ). x ++ renewed test (size d) new qs y) a b)

  pub renewed_at-all : (g : Place → Bool) → ((v : Place) → g v ≡ false → (test v ≡ false) × (size d v ≡ 0)) → (qs : List Place) (l : List ℕ)
      → renewed_at d test new qs 0 l ≡ renewed test (size d) new (keep g qs) l
  unfolding renewed_at
  renewed_at-all g h qs l = sym (renewed-kept g h qs l)

-- kept places counted: those that a second test drops have the first test false
pub keep-keep : (test g : Place → Bool) → ((v : Place) → g v ≡ false → test v ≡ false) → (qs : List Place) → keep test (keep g qs) ≡ keep test qs
unfolding keep
keep-keep test g h [] = refl
keep-keep test g h (v ∷ qs) = go (g v) refl (keep-keep test g h qs)
  where
    go : (b : Bool) → g v ≡ b → keep test (keep g qs) ≡ keep test qs → keep test (cond b (v ∷ keep g qs) (keep g qs)) ≡ cond (test v) (v ∷ keep test qs) (keep test qs)
    go true q more = ap (λ (m : List Place). cond (test v) (v ∷ m) m) more
    go false q more = more ∙ sym (ap (λ (b : Bool). cond b (v ∷ keep test qs) (keep test qs)) (h v q))
