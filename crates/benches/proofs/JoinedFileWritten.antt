-- The bytes of the joined file as they are written: a cable in a frame, two files one after the other, and both cables.
use Prim.Native.Nat.{ℕ, zero, suc, ◌+◌, ◌-◌, ◌≤◌}
use mathlib.Core.Path.{◌≡◌, refl, sym, ◌∙◌, ap, ap₂, subst}
use mathlib.Core.List.{List, [], ◌∷◌, ◌++◌, append_assoc, append-nil}
use native.Mathlib.Omega.{arith}
use native.Mathlib.Nat.{zero-add}
use lib.ListN.{length, take, drop, set, length-append, length-drop, length-set, drop_of_length-le}
use lib.Seq.{paste, take_at, take_all, drop-cons, drop-drop, take-append-le, drop-append-le, take-append-add, drop-append-add, length-take-le, get_or-drop, take-set-le, drop-set-add, take-add}
use borrow.Author.Tests.{le-leb}
use borrow.Rule.Slice.PartMut.{mid_of, put_mid}
use Rattle.frames.specs.Bytes.{byte, bytes_of, at_front}
use Rattle.frames.proofs.ByteNumbers.{length-bytes_of}
use Rattle.frames.specs.Sizes.{short_size}
use Rattle.frames.specs.declared.Response.TheVariants.{Discover as DiscoverResponse}
use Rattle.offsets.specs.Offsets.{Placed}
use Rattle.benches.specs.Bytes.{typed_two, cabled_frame, cabled_at, address_in, joined_file}
use Rattle.offsets.specs.Offsets.{phy_offset}

-- 33 bytes and the rest
abbrev pub listed : (ℕ → ℕ) → List ℕ → List ℕ
listed g r = g 0 ∷ g 1 ∷ g 2 ∷ g 3 ∷ g 4 ∷ g 5 ∷ g 6 ∷ g 7 ∷ g 8 ∷ g 9 ∷ g 10 ∷ g 11 ∷ g 12 ∷ g 13 ∷ g 14 ∷ g 15 ∷ g 16 ∷ g 17 ∷ g 18 ∷ g 19 ∷ g 20 ∷ g 21 ∷ g 22 ∷ g 23 ∷ g 24 ∷ g 25 ∷ g 26 ∷ g 27 ∷ g 28 ∷ g 29 ∷ g 30 ∷ g 31 ∷ g 32 ∷ r

-- so many bytes from offset k on, and then the rest
abbrev pub firsts : ℕ → ℕ → List ℕ → List ℕ
firsts zero k l = drop k l
firsts (suc n) k l = byte l k ∷ firsts n (suc k) l

pub all_firsts : (n k : ℕ) (l : List ℕ) → k + n ≤ length l → drop k l ≡ firsts n k l
all_firsts zero k l h = refl
all_firsts (suc n) k l h = drop-cons l k 0 (omega arith) ∙ ap (λ (m : List ℕ). byte l k ∷ m) (all_firsts n (suc k) l (omega arith))

-- the stores of a cable
abbrev Stored : List ℕ → ℕ → List ℕ → ℕ → Type 0
Stored f b x q = take 24 (set (set f 12 b) 32 q) ++ (x ++ drop 8 (drop 24 (set (set f 12 b) 32 q))) ≡ take 12 f ++ (b ∷ (take 11 (drop 13 f) ++ (x ++ (q ∷ drop 33 f))))

stored-listed : (g : ℕ → ℕ) (r : List ℕ) (b : ℕ) (x : List ℕ) (q : ℕ) → Stored (listed g r) b x q
stored-listed g r b x q = refl

cable_stored : (f : List ℕ) (s q : ℕ) → 33 ≤ length f
    → take 24 (set (set f 12 (typed_two (byte f 12))) 32 q) ++ (bytes_of 8 s ++ drop 8 (drop 24 (set (set f 12 (typed_two (byte f 12))) 32 q))) ≡ cabled_frame f s q
unfolding cabled_frame
cable_stored f s q h =
    let e : f ≡ listed (λ k. byte f k) (drop 33 f) = all_firsts 33 0 f (omega arith) in
    subst (λ (v : List ℕ). Stored v (typed_two (byte f 12)) (bytes_of 8 s) q) (sym e) (stored-listed (λ k. byte f k) (drop 33 f) (typed_two (byte f 12)) (bytes_of 8 s) q)

-- the cable written into the frame at an offset
pub cable_put : (out : List ℕ) (at s q m : ℕ) (part : List ℕ) → at + 33 ≤ length out → m ≡ length out - (at + 24)
    → part ≡ at_front (bytes_of 8 s) (mid_of (at + 24) m (set (set out (at + 12) (typed_two (byte out (at + 12)))) (at + 32) q))
    → put_mid (at + 24) m (set (set out (at + 12) (typed_two (byte out (at + 12)))) (at + 32) q) part ≡ cabled_at out at s q
unfolding cabled_at
cable_put out at s q m part h e w =
    let b = typed_two (byte out (at + 12)) in
    let g : List ℕ = set (set out (at + 12) b) (at + 32) q in
    let f : List ℕ = drop at out in
    let f2 : List ℕ = set (set f 12 b) 32 q in
    let lg : length g ≡ length out = length-set (set out (at + 12) b) (at + 32) q ∙ length-set out (at + 12) b in
    let ta : take at g ≡ take at out = take-set-le at (set out (at + 12) b) (at + 32) q (omega arith) ∙ take-set-le at out (at + 12) b (omega arith) in
    let da : drop at g ≡ f2 = drop-set-add at (set out (at + 12) b) 32 q ∙ ap (λ (v : List ℕ). set v 32 q) (drop-set-add at out 12 b) in
    let t24 : take (at + 24) g ≡ take at out ++ take 24 f2 = take-add at 24 g ∙ ap₂ (λ (u v : List ℕ). u ++ take 24 v) ta da in
    let d24 : drop (at + 24) g ≡ drop 24 f2 = sym (drop-drop 24 at g) ∙ ap (drop 24) da in
    let ld = length-drop (at + 24) g in
    let mid : take m (drop (at + 24) g) ≡ drop 24 f2 = take_all m (drop (at + 24) g) (omega arith) ∙ d24 in
    let post : drop m (drop (at + 24) g) ≡ [] = drop_of_length-le (drop (at + 24) g) {i = m} (omega arith) in
    let n = length-bytes_of 8 s in
    let l2 : length (drop 24 f2) ≡ length (drop (at + 24) g) = ap length (sym d24) in
    let p : part ≡ bytes_of 8 s ++ drop 8 (drop 24 f2) = w ∙ ap (at_front (bytes_of 8 s)) mid ∙ rw (le-leb (length (bytes_of 8 s)) (length (drop 24 f2)) (omega arith), n) in
    let c : byte out (at + 12) ≡ byte f 12 = sym (get_or-drop at out 12 0) in
    let lf = length-drop at out in
    ap₂ (λ (u v : List ℕ). u ++ v) t24 (ap₂ (λ (u v : List ℕ). u ++ v) p post ∙ append-nil (bytes_of 8 s ++ drop 8 (drop 24 f2)))
    ∙ append_assoc (take at out) (take 24 f2) (bytes_of 8 s ++ drop 8 (drop 24 f2))
    ∙ ap (λ (v : List ℕ). take at out ++ v) (ap (λ (k : ℕ). take 24 (set (set f 12 (typed_two k)) 32 q) ++ (bytes_of 8 s ++ drop 8 (drop 24 (set (set f 12 (typed_two k)) 32 q)))) c ∙ cable_stored f s q (omega arith))

-- a cable in a part of a longer list
module _ (s q : ℕ) where
  pub frame-left : (x y : List ℕ) → 33 ≤ length x → cabled_frame (x ++ y) s q ≡ cabled_frame x s q ++ y
  unfolding cabled_frame bytes_of
  frame-left x y h =
      let e : x ≡ listed (λ k. byte x k) (drop 33 x) = all_firsts 33 0 x (omega arith) in
      subst (λ (v : List ℕ). take 12 (v ++ y) ++ (typed_two (byte (v ++ y) 12) ∷ (take 11 (drop 13 (v ++ y)) ++ (bytes_of 8 s ++ (q ∷ drop 33 (v ++ y)))))
      ≡ (take 12 v ++ (typed_two (byte v 12) ∷ (take 11 (drop 13 v) ++ (bytes_of 8 s ++ (q ∷ drop 33 v))))) ++ y) (sym e) (used (λ k. byte x k) (drop 33 x))
    where
      used : (g : ℕ → ℕ) (r : List ℕ) → take 12 (listed g r ++ y) ++ (typed_two (g 12) ∷ (take 11 (drop 13 (listed g r ++ y)) ++ (bytes_of 8 s ++ (q ∷ (r ++ y)))))
          ≡ (take 12 (listed g r) ++ (typed_two (g 12) ∷ (take 11 (drop 13 (listed g r)) ++ (bytes_of 8 s ++ (q ∷ r))))) ++ y
      used g r = refl

  pub cabled-left : (x y : List ℕ) (at : ℕ) → at + 33 ≤ length x → cabled_at (x ++ y) at s q ≡ cabled_at x at s q ++ y
  unfolding cabled_at
  cabled-left x y at h =
      let l = length-drop at x in
      ap₂ (λ (u v : List ℕ). u ++ cabled_frame v s q) (take-append-le at x y (omega arith)) (drop-append-le at x y (omega arith))
      ∙ ap (λ (v : List ℕ). take at x ++ v) (frame-left (drop at x) y (omega arith)) ∙ sym (append_assoc (take at x) (cabled_frame (drop at x) s q) y)

  pub cabled_right : (x y : List ℕ) (at : ℕ) → cabled_at (x ++ y) (length x + at) s q ≡ x ++ cabled_at y at s q
  unfolding cabled_at
  cabled_right x y at =
      ap₂ (λ (u v : List ℕ). u ++ cabled_frame v s q) (take-append-add x y at) (drop-append-add x y at) ∙ append_assoc x (take at y) (cabled_frame (drop at y) s q)

  pub frame-length : (f : List ℕ) → 33 ≤ length f → length (cabled_frame f s q) ≡ length f
  unfolding cabled_frame
  frame-length f h =
      let n = length-bytes_of 8 s in
      let a = length-take-le 12 f (omega arith) in
      let b = length-take-le 11 (drop 13 f) (let z = length-drop 13 f in omega arith) in
      let c = length-drop 33 f in
      length-append (take 12 f) _
      ∙ ap (λ (k : ℕ). length (take 12 f) + suc k) (length-append (take 11 (drop 13 f)) _
      ∙ ap (λ (k : ℕ). length (take 11 (drop 13 f)) + k) (length-append (bytes_of 8 s) (q ∷ drop 33 f))) ∙ omega arith

  pub length-cabled : (x : List ℕ) (at : ℕ) → at + 33 ≤ length x → length (cabled_at x at s q) ≡ length x
  unfolding cabled_at
  length-cabled x at h =
      let l = length-drop at x in
      let f = frame-length (drop at x) (omega arith) in
      let d = length-take-le at x (omega arith) in
      length-append (take at x) (cabled_frame (drop at x) s q) ∙ omega arith

-- a file of two bytes or more
pub head-two : (l : List ℕ) → 2 ≤ length l → l ≡ byte l 0 ∷ byte l 1 ∷ drop 2 l
head-two l h = all_firsts 2 0 l (omega arith)

-- the cable in what follows the first two bytes
cabled-after : (a b s q : ℕ) (x : List ℕ) (at : ℕ) → 2 ≤ at → cabled_at (a ∷ b ∷ x) at s q ≡ a ∷ b ∷ cabled_at x (at - 2) s q
unfolding cabled_at
cabled-after a b s q x zero h = absurd (omega arith)
cabled-after a b s q x (suc zero) h = absurd (omega arith)
cabled-after a b s q x (suc (suc at)) h = let e : suc (suc at) - 2 ≡ at = omega arith in rw e refl

pub cabled-rest : (s q : ℕ) (l : List ℕ) (at : ℕ) → 2 ≤ length l → 2 ≤ at → drop 2 (cabled_at l at s q) ≡ cabled_at (drop 2 l) (at - 2) s q
cabled-rest s q l at h k = ap (λ (v : List ℕ). drop 2 (cabled_at v at s q)) (head-two l h) ∙ ap (drop 2) (cabled-after (byte l 0) (byte l 1) s q (drop 2 l) at k)

-- both files copied, with the header of both
pub both-put : (out first second : List ℕ) (n : ℕ) → 2 ≤ length first → 2 ≤ length second → length first + (length second - 2) ≤ length out
    → set (set (paste (paste out 0 first (length first)) (length first) (drop 2 second) (length (drop 2 second))) 0 0x10) 1 n
    ≡ 0x10 ∷ n ∷ (drop 2 first ++ (drop 2 second ++ drop (length first + (length second - 2)) out))
both-put out first second n h k r =
    let m = length-drop 2 second in
    let z : 0 + length first ≡ length first = zero-add (length first) in
    let a : paste out 0 first (length first) ≡ first ++ drop (length first) out = ap₂ (λ (u v : List ℕ). u ++ v) (take_all (length first) first (omega arith)) (ap (λ (j : ℕ). drop j out) z) in
    let t : take (length first) (first ++ drop (length first) out) ≡ first = take_at first (drop (length first) out) (length first) refl in
    let d : drop (length first + length (drop 2 second)) (first ++ drop (length first) out) ≡ drop (length first + (length second - 2)) out =
    drop-append-add first (drop (length first) out) (length (drop 2 second)) ∙ drop-drop (length (drop 2 second)) (length first) out ∙ ap (λ (j : ℕ). drop (length first + j) out) m in
    let w : paste (paste out 0 first (length first)) (length first) (drop 2 second) (length (drop 2 second)) ≡ first ++ (drop 2 second ++ drop (length first + (length second - 2)) out) =
    ap (λ (v : List ℕ). paste v (length first) (drop 2 second) (length (drop 2 second))) a
    ∙ ap₂ (λ (u v : List ℕ). u ++ v) (ap₂ (λ (u v : List ℕ). u ++ v) t (take_all (length (drop 2 second)) (drop 2 second) (omega arith))) d ∙ append_assoc first (drop 2 second) (drop (length first + (length second - 2)) out) in
    ap (λ (v : List ℕ). set (set v 0 0x10) 1 n) (w ∙ ap (λ (v : List ℕ). v ++ (drop 2 second ++ drop (length first + (length second - 2)) out)) (head-two first h))

-- both cables
pub both-cabled : (first second rest : List ℕ) (i p j q : ℕ) → 2 ≤ length first → 2 ≤ length second
    → 2 ≤ phy_offset first i p → phy_offset first i p + short_size DiscoverResponse ≤ length first → 2 ≤ phy_offset second j q → phy_offset second j q + short_size DiscoverResponse ≤ length second
    → cabled_at (cabled_at (0x10 ∷ (byte first 1 + byte second 1) ∷ (drop 2 first ++ (drop 2 second ++ rest))) (phy_offset first i p) (address_in second j) q) (length first + (phy_offset second j q - 2)) (address_in first i) p
    ≡ joined_file first i p second j q ++ rest
unfolding joined_file
both-cabled first second rest i p j q h k a b c d =
    let n = byte first 1 + byte second 1 in
    let at = phy_offset first i p in
    let to = phy_offset second j q in
    let s = address_in first i in
    let t = address_in second j in
    let x : List ℕ = drop 2 first in
    let y : List ℕ = drop 2 second in
    let lx = length-drop 2 first in
    let ly = length-drop 2 second in
    let x1 : List ℕ = cabled_at x (at - 2) t q in
    let l1 : length x1 ≡ length x = length-cabled t q x (at - 2) (omega arith) in
    let one : cabled_at (0x10 ∷ n ∷ (x ++ (y ++ rest))) at t q ≡ 0x10 ∷ n ∷ (x1 ++ (y ++ rest)) =
    cabled-after 0x10 n t q (x ++ (y ++ rest)) at a ∙ ap (λ (v : List ℕ). 0x10 ∷ n ∷ v) (cabled-left t q x (y ++ rest) (at - 2) (omega arith)) in
    let e : length first + (to - 2) - 2 ≡ length x1 + (to - 2) = omega arith in
    let two : cabled_at (0x10 ∷ n ∷ (x1 ++ (y ++ rest))) (length first + (to - 2)) s p ≡ 0x10 ∷ n ∷ (x1 ++ (cabled_at y (to - 2) s p ++ rest)) =
    cabled-after 0x10 n s p (x1 ++ (y ++ rest)) (length first + (to - 2)) (omega arith)
    ∙ ap (λ (v : List ℕ). 0x10 ∷ n ∷ v) (ap (λ (v : ℕ). cabled_at (x1 ++ (y ++ rest)) v s p) e ∙ cabled_right s p x1 (y ++ rest) (to - 2) ∙ ap (λ (v : List ℕ). x1 ++ v) (cabled-left s p y rest (to - 2) (omega arith))) in
    ap (λ (v : List ℕ). cabled_at v (length first + (to - 2)) s p) one ∙ two
    ∙ ap (λ (v : List ℕ). 0x10 ∷ n ∷ v) (sym (append_assoc x1 (cabled_at y (to - 2) s p) rest)
    ∙ ap (λ (v : List ℕ). v ++ rest) (sym (ap₂ (λ (u v : List ℕ). u ++ v) (cabled-rest t q first at h a) (cabled-rest s p second to k c))))

-- its length
pub length-joined : (first second : List ℕ) (i p j q : ℕ) → 2 ≤ length first → 2 ≤ length second
    → 2 ≤ phy_offset first i p → phy_offset first i p + short_size DiscoverResponse ≤ length first → 2 ≤ phy_offset second j q → phy_offset second j q + short_size DiscoverResponse ≤ length second
    → length (joined_file first i p second j q) ≡ length first + (length second - 2)
unfolding joined_file
length-joined first second i p j q h k a b c d =
    let at = phy_offset first i p in
    let to = phy_offset second j q in
    let s = address_in first i in
    let t = address_in second j in
    let x = length-cabled t q first at (omega arith) in
    let y = length-cabled s p second to (omega arith) in
    let u = length-drop 2 (cabled_at first at t q) in
    let v = length-drop 2 (cabled_at second to s p) in
    ap (λ (z : ℕ). suc (suc z)) (length-append (drop 2 (cabled_at first at t q)) (drop 2 (cabled_at second to s p))) ∙ omega arith

-- the joined file written, with places and addresses as they were found
pub joined-put : (first second rest : List ℕ) (i p j q at to s t : ℕ) → at ≡ phy_offset first i p → to ≡ phy_offset second j q → s ≡ address_in first i → t ≡ address_in second j
    → Placed first i p → Placed second j q
    → cabled_at (cabled_at (0x10 ∷ (byte first 1 + byte second 1) ∷ (drop 2 first ++ (drop 2 second ++ rest))) at t q) (length first + (to - 2)) s p ≡ joined_file first i p second j q ++ rest
joined-put first second rest i p j q at to s t a b c d x y =
    let u = x.within in
    let v = y.within in
    rw (a, b, c, d) (both-cabled first second rest i p j q (omega arith) (omega arith) x.after x.within y.after y.within)
