-- The plain table that a shelf is compared with, indexed by phy and route index: its results, and what each frame leaves.
use Rattle.std.specs.Prelude.{ℕ, Bool, true, cond, ◌&&◌, List, [], ◌∷◌, eqb, leb, ltb}
use Rattle.frames.specs.Refusals.{Result, refused, good}
use Rattle.frames.specs.ConfigureRoute.{route_read}
use Rattle.frames.specs.declared.Route.{Route}

-- an entry and its disable bit, for each phy and route index
abbrev pub Table : Type 0
Table = ℕ → ℕ → ℕ × Bool

-- all entries zero and disabled
abbrev pub empty : Table
empty phy index = (0, true)

-- the entry and bit that a request names are replaced
abbrev pub replaced : Table → Route → Table
replaced t q phy index = cond (eqb phy q.phy.0 && eqb index q.index.0) (q.address, q.disabled) (t phy index)

-- an expander of so many phys and that R, each phy of its kind: 0 vacant, 1 table, 2 other
module _ (phys route_indexes : ℕ) (kind : ℕ → ℕ) where
  -- the function result, in this order: 10h no such phy; 16h a vacant one; 11h no table phy, or an index not below R; else 00h
  unfoldable pub result_of : ℕ → ℕ → ℕ
  result_of phy index =
      cond (leb phys phy) 0x10
      (cond (eqb (kind phy) 0) 0x16
      (cond (eqb (kind phy) 1 && ltb index route_indexes) 0x00 0x11))

  -- what it answers to a frame, of which the reader says this, and its table after it
  abbrev pub answer_to : Result Route → Result ℕ
  answer_to (refused r) = refused r
  answer_to (good q) = good (result_of q.phy.0 q.index.0)

  unfoldable pub table_after : Table → Result Route → Table
  table_after t (refused r) = t
  table_after t (good q) = cond (eqb (result_of q.phy.0 q.index.0) 0x00) (replaced t q) t

  -- a list of frames: the answers, and the table after all of them
  unfoldable pub table_answers : List (List ℕ) → List (Result ℕ)
  table_answers [] = []
  table_answers (frame ∷ frames) = answer_to (route_read frame) ∷ table_answers frames

  unfoldable pub table_left : Table → List (List ℕ) → Table
  table_left t [] = t
  table_left t (frame ∷ frames) = table_left (table_after t (route_read frame)) frames
