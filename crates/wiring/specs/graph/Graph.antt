-- A graph: vertices 0 to n - 1, and a test of which are adjacent. Chains and loops in document 01's words, and how they are decided.
use Rattle.std.specs.Prelude.{ℕ, zero, suc, ◌<◌, ◌≡◌, Bool, true, false, ◌||◌, List, [], ◌∷◌, T}
use Rattle.files.specs.Lists.{up_to, any, keep, is_in, Distinct, Below, last}

-- in x ∷ l each is adjacent to the next
module _ (adj : ℕ → ℕ → Bool) where
  abbrev pub Steps : ℕ → List ℕ → Type 0
  Steps x [] = Unit {0}
  Steps x (y ∷ l) = T (adj x y) × Steps y l

  abbrev pub Symmetric : Type 0
  Symmetric = (x y : ℕ) → T (adj x y) → T (adj y x)

module _ (n : ℕ) (adj : ℕ → ℕ → Bool) where
  -- "loop": a vertex adjacent to itself, or three or more different ones, each adjacent to the next and the last to the first
  pub data Loop : Type 0 where
    self : (v : ℕ) → v < n → T (adj v v) → Loop
    ring : (x y z : ℕ) (l : List ℕ) → Distinct (x ∷ y ∷ z ∷ l) → Below n (x ∷ y ∷ z ∷ l) → Steps adj x (y ∷ z ∷ l) → T (adj (last z l) x) → Loop

  -- i ∷ l is a chain from i to j: different vertices, each adjacent to the next
  pub record Tail (i j : ℕ) (l : List ℕ) : Type 0 where
    pub diff : Distinct (i ∷ l)
    pub below : Below n (i ∷ l)
    pub steps : Steps adj i l
    pub ends : last i l ≡ j

  -- "chain": the list is one from i to j
  abbrev pub Chain : ℕ → ℕ → List ℕ → Type 0
  Chain i j [] = ⊥
  Chain i j (x ∷ l) = (x ≡ i) × Tail x j l

-- the list has two members or more
abbrev pub two : List ℕ → Bool
two [] = false
two (x ∷ []) = false
two (x ∷ y ∷ l) = true

abbrev pub is_nil : List ℕ → Bool
is_nil [] = true
is_nil (x ∷ l) = false

module _ (n : ℕ) (adj : ℕ → ℕ → Bool) where
  -- v is adjacent to itself, or to two of the rest
  abbrev pub stays : List ℕ → ℕ → Bool
  stays rest v = adj v v || two (keep (adj v) rest)

  -- so many rounds, each of which takes away all that do not stay
  unfoldable pub strip : ℕ → List ℕ → List ℕ
  strip zero rest = rest
  strip (suc rounds) rest = strip rounds (keep (stays rest) rest)

  -- nothing is left after n rounds
  abbrev pub loopfree : Bool
  loopfree = is_nil (strip n (up_to n))

  -- among those met, or adjacent to one
  abbrev pub near : List ℕ → ℕ → Bool
  near met j = is_in j met || any (λ i. adj i j) met

  -- so many rounds, each of which adds what is adjacent
  unfoldable pub reach : ℕ → List ℕ → List ℕ
  reach zero met = met
  reach (suc rounds) met = reach rounds (keep (near met) (up_to n))

  -- j is reached from i in n rounds
  abbrev pub reached : ℕ → ℕ → Bool
  reached i j = is_in j (reach n (i ∷ []))
