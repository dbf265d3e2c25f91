-- Two graphs with one bridge between them have a loop only if one of them has.
use mathlib.Core.Path.{◌≡◌, refl, sym, ap, subst, ◌∙◌}
use mathlib.Core.Logic.{◌⊎◌, inl, inr, ◌≢◌, ⊎_elim, by_cases}
use mathlib.Core.List.{List, [], ◌∷◌, map}
use mathlib.Core.Bool.{Bool, Bool-discrete}
use Prim.Native.Nat.{ℕ, ◌<◌}
use lib.Dec.{T}
use Rattle.files.specs.Lists.{In, Distinct, Below, last}
use Rattle.wiring.specs.graph.Graph.{Steps, Loop, self, ring, Tail}
use Rattle.files.proofs.ListMembers.{in_cast, last_in, all_cons}

-- all members have the property
abbrev pub All : (ℕ → Type 0) → List ℕ → Type 0
All P l = (w : ℕ) → In w l → P w

-- two sides, joined by u to v only
module _ (adj : ℕ → ℕ → Bool) (side : ℕ → Bool) (u v : ℕ)
    (bridge : (a b : ℕ) → T (adj a b) → side a ≢ side b → ((a ≡ u) × (b ≡ v)) ⊎ ((a ≡ v) × (b ≡ u))) where
  -- a walk from one side to the other passes u and v
  crosses : (x : ℕ) (l : List ℕ) → Steps adj x l → side x ≢ side (last x l) → In u (x ∷ l) × In v (x ∷ l)
  crosses x [] s k = absurd (k refl)
  crosses x (y ∷ l) s k = by_cases (Bool-discrete (side x) (side y))
      (λ e. let r = crosses y l s.1 (λ f. k (e ∙ f)) in (inr r.0, inr r.1))
      (λ n. ⊎_elim (λ e. (inl (sym e.0), inr (inl (sym e.1)))) (λ e. (inr (inl (sym e.1)), inl (sym e.0))) (bridge x y s.0 n))

  -- one that comes back to its side has not left it
  stays : (x : ℕ) (l : List ℕ) → Steps adj x l → Distinct (x ∷ l) → side x ≡ side (last x l) → All (λ w. side w ≡ side x) (x ∷ l)
  stays x [] s d e = all_cons (λ w. side w ≡ side x) x [] refl (λ w h. absurd h)
  stays x (y ∷ l) s d e = by_cases (Bool-discrete (side x) (side y))
      (λ f. all_cons (λ w. side w ≡ side x) x (y ∷ l) refl (λ w h. stays y l s.1 d.1 (sym f ∙ e) w h ∙ sym f))
      (λ n. let r = crosses y l s.1 (λ f. n (e ∙ sym f)) in
      absurd (d.0 (⊎_elim (λ f. in_cast (y ∷ l) f.0 r.0) (λ f. in_cast (y ∷ l) f.0 r.1) (bridge x y s.0 n))))

  -- so does a ring
  ring-stays : (x y z : ℕ) (l : List ℕ) → Distinct (x ∷ y ∷ z ∷ l) → Steps adj x (y ∷ z ∷ l) → T (adj (last z l) x) → All (λ w. side w ≡ side x) (x ∷ y ∷ z ∷ l)
  ring-stays x y z l d s c = by_cases (Bool-discrete (side x) (side (last z l))) (stays x (y ∷ z ∷ l) s d)
      (λ n. absurd (by_cases (Bool-discrete (side x) (side y))
      (λ f. let r = crosses y (z ∷ l) s.1 (λ g. n (f ∙ g)) in
      d.0 (⊎_elim (λ e. in_cast (y ∷ z ∷ l) e.1 r.1) (λ e. in_cast (y ∷ z ∷ l) e.1 r.0) (bridge (last z l) x c (λ g. n (sym g)))))
      (λ m. d.1.0 (in_cast (z ∷ l) (other (bridge x y s.0 m) (bridge (last z l) x c (λ g. n (sym g)))) (last_in z l)))))
    where
      other : ((x ≡ u) × (y ≡ v)) ⊎ ((x ≡ v) × (y ≡ u)) → ((last z l ≡ u) × (x ≡ v)) ⊎ ((last z l ≡ v) × (x ≡ u)) → y ≡ last z l
      other (inl e) (inl f) = e.1 ∙ sym f.1 ∙ e.0 ∙ sym f.0
      other (inl e) (inr f) = e.1 ∙ sym f.0
      other (inr e) (inl f) = e.1 ∙ sym f.0
      other (inr e) (inr f) = e.1 ∙ sym f.1 ∙ e.0 ∙ sym f.0

-- a graph of which a part is carried into another
module _ (adj adj' : ℕ → ℕ → Bool) (n n' : ℕ) (P : ℕ → Type 0) (f : ℕ → ℕ)
    (one : (a b : ℕ) → P a → P b → f a ≡ f b → a ≡ b)
    (within : (a : ℕ) → P a → f a < n')
    (step : (a b : ℕ) → P a → P b → T (adj a b) → T (adj' (f a) (f b))) where
  of_map : (l : List ℕ) (w : ℕ) → In w (map f l) → (a : ℕ) × In a l × (w ≡ f a)
  of_map [] w h = absurd h
  of_map (x ∷ l) w (inl e) = (x, inl refl, e)
  of_map (x ∷ l) w (inr h) = let r = of_map l w h in (r.0, inr r.1, r.2)

  map-distinct : (l : List ℕ) → All P l → Distinct l → Distinct (map f l)
  map-distinct [] p d = tt
  map-distinct (x ∷ l) p d = (
    λ h. let r = of_map l (f x) h in d.0 (in_cast l (one x r.0 (p x (inl refl)) (p r.0 (inr r.1)) r.2) r.1),
    map-distinct l (λ w h. p w (inr h)) d.1,
  )

  map_below : (l : List ℕ) → All P l → Below n' (map f l)
  map_below l p w h = let r = of_map l w h in subst (λ k. k < n') (sym r.2) (within r.0 (p r.0 r.1))

  map_steps : (x : ℕ) (l : List ℕ) → All P (x ∷ l) → Steps adj x l → Steps adj' (f x) (map f l)
  map_steps x [] p s = tt
  map_steps x (y ∷ l) p s = (step x y (p x (inl refl)) (p y (inr (inl refl))) s.0, map_steps y l (λ w h. p w (inr h)) s.1)

  map_last : (x : ℕ) (l : List ℕ) → last (f x) (map f l) ≡ f (last x l)
  map_last x [] = refl
  map_last x (y ∷ l) = map_last y l

  pub map_tail : (x y : ℕ) (l : List ℕ) → All P (x ∷ l) → Tail n adj x y l → Tail n' adj' (f x) (f y) (map f l)
  map_tail x y l p t = record {
    diff = map-distinct (x ∷ l) p t.diff;
    below = map_below (x ∷ l) p;
    steps = map_steps x l p t.steps;
    ends = map_last x l ∙ ap f t.ends;
  }

  map-ring : (x y z : ℕ) (l : List ℕ) → All P (x ∷ y ∷ z ∷ l) → Distinct (x ∷ y ∷ z ∷ l) → Steps adj x (y ∷ z ∷ l) → T (adj (last z l) x) → Loop n' adj'
  map-ring x y z l p d s c =
      ring (f x) (f y) (f z) (map f l) (map-distinct (x ∷ y ∷ z ∷ l) p d) (map_below (x ∷ y ∷ z ∷ l) p) (map_steps x (y ∷ z ∷ l) p s)
      (subst (λ k. T (adj' k (f x))) (sym (map_last z l)) (step (last z l) x (p (last z l) (inr (inr (last_in z l)))) (p x (inl refl)) c))

-- what carries each side into a graph of its own
pub record Carries (n : ℕ) (adj : ℕ → ℕ → Bool) (side : ℕ → Bool) (b : Bool) : Type 0 where
  pub size : ℕ
  pub near : ℕ → ℕ → Bool
  pub to : ℕ → ℕ
  pub one : (x y : ℕ) → (x < n) × (side x ≡ b) → (y < n) × (side y ≡ b) → to x ≡ to y → x ≡ y
  pub within : (x : ℕ) → (x < n) × (side x ≡ b) → to x < size
  pub step : (x y : ℕ) → (x < n) × (side x ≡ b) → (y < n) × (side y ≡ b) → T (adj x y) → T (near (to x) (to y))
  pub none : ¬ (Loop size near)

pub bridged : (n : ℕ) (adj : ℕ → ℕ → Bool) (side : ℕ → Bool) (u v : ℕ)
    → ((a b : ℕ) → T (adj a b) → side a ≢ side b → ((a ≡ u) × (b ≡ v)) ⊎ ((a ≡ v) × (b ≡ u)))
    → ((b : Bool) → Carries n adj side b) → ¬ (Loop n adj)
bridged n adj side u v bridge c (self x h t) =
    let k = c (side x) in
    k.none (self (k.to x) (k.within x (h, refl)) (k.step x x (h, refl) (h, refl) t))
bridged n adj side u v bridge c (ring x y z l d b s t) =
    let k = c (side x) in
    k.none (map-ring adj k.near n k.size (λ w. (w < n) × (side w ≡ side x)) k.to k.one k.within k.step x y z l
    (λ w h. (b w h, ring-stays adj side u v bridge x y z l d s t w h)) d s t)
