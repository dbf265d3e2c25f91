-- Lists that are made of bytes are bytes.
use Prim.Native.Nat.{ℕ, zero, suc, ◌+◌, ◌/◌, ◌%◌, ◌<◌}
use mathlib.Core.List.{List, [], ◌∷◌, ◌++◌}
use native.Mathlib.Omega.{arith}
use lib.ListN.{drop, set}
use lib.Seq.{get_or-drop, sets}
use Rattle.frames.specs.Bytes.{bytes_of}
use Rattle.files.specs.ReadDomain.{Bytes}

-- no byte
pub bytes-none : Bytes []
bytes-none k = omega arith

-- one more
pub bytes-more : (x : ℕ) (s : List ℕ) → x < 256 → Bytes s → Bytes (x ∷ s)
bytes-more x s h b zero = h
bytes-more x s h b (suc k) = b k

-- one after the other
pub bytes-append : (p s : List ℕ) → Bytes p → Bytes s → Bytes (p ++ s)
bytes-append [] s a b k = b k
bytes-append (x ∷ p) s a b zero = a zero
bytes-append (x ∷ p) s a b (suc k) = bytes-append p s (λ j. a (suc j)) b k

-- what is left
pub bytes_drop : (n : ℕ) (s : List ℕ) → Bytes s → Bytes (drop n s)
bytes_drop n s b k = rw get_or-drop (b (n + k))

-- one stored
pub bytes-set : (s : List ℕ) (i x : ℕ) → x < 256 → Bytes s → Bytes (set s i x)
bytes-set [] i x h b k = b k
bytes-set (y ∷ s) zero x h b zero = h
bytes-set (y ∷ s) zero x h b (suc k) = b (suc k)
bytes-set (y ∷ s) (suc i) x h b zero = b zero
bytes-set (y ∷ s) (suc i) x h b (suc k) = bytes-set s i x h (λ j. b (suc j)) k

-- several stored
pub bytes-sets : (vs s : List ℕ) (i : ℕ) → Bytes vs → Bytes s → Bytes (sets s i vs)
bytes-sets [] s i a b = b
bytes-sets (v ∷ vs) s i a b = bytes-sets vs (set s i v) (suc i) (λ j. a (suc j)) (bytes-set s i v (a zero) b)

-- the bytes of a number
pub number-bytes : (width x : ℕ) → Bytes (bytes_of width x)
unfolding bytes_of
number-bytes zero x = bytes-none
number-bytes (suc width) x = bytes-append (bytes_of width (x / 256)) _ (number-bytes width (x / 256)) (bytes-more (x % 256) [] (omega arith) bytes-none)
