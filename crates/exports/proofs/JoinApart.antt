-- Bit 63 of the answers of the join call: the joined file is bytes again, and a shifted expander number is still a byte.
use Prim.Native.Nat.{ℕ, ◌+◌, ◌≤◌, ◌<◌}
use mathlib.Core.Path.{subst}
use mathlib.Core.Bool.{◌&&◌}
use mathlib.Core.List.{List, ◌∷◌, ◌++◌}
use native.Mathlib.Omega.{arith}
use lib.ListN.{length, take, drop}
use Rattle.frames.specs.Bytes.{byte, bytes_of}
use Rattle.frames.specs.Refusals.{Result, refused, good, then, refusal, length_of}
use Rattle.files.specs.declared.Setting.{Setting}
use Rattle.files.specs.Domain.{Domain}
use Rattle.files.specs.ReadDomain.{Bytes}
use Rattle.files.proofs.ReadDomain.{part, stated-expanders}
use Rattle.tables.specs.JudgingCall.{judged}
use Rattle.tables.proofs.AcceptedDomains.{judged-file}
use Rattle.offsets.specs.Offsets.{phy_offset}
use Rattle.benches.specs.Bytes.{address_in, typed_two, cabled_frame, cabled_at, joined_file}
use Rattle.benches.specs.JoinCall.{free, shifted, join_call}
use Rattle.benches.proofs.RefusalBounds.{UpTo, judged-up}
use Rattle.exports.specs.Packing.{number}
use Rattle.exports.specs.AnswerParts.{Itself}
use Rattle.exports.specs.RefusalBit.{ToldApart}
use Rattle.exports.proofs.RefusalBit.{Tells, tells-unless, tells_more, tells-then, at_place, no_place}
use Rattle.exports.proofs.RefusalPlaces.{ReadBytes, judged-tells, read_short}
use Rattle.exports.proofs.DomainCounts.{few-expanders}
use Rattle.exports.proofs.CardsApart.{Short, fitting-tells, length-apart}
use Rattle.exports.proofs.ByteLists.{bytes-more, bytes-append, bytes_drop, number-bytes}

-- a frame and a file with the cable
frame-bytes : (f : List ℕ) (s q : ℕ) → Bytes f → q < 256 → Bytes (cabled_frame f s q)
unfolding cabled_frame
frame-bytes f s q b h =
    let k = b 12 in
    bytes-append (take 12 f) (typed_two (byte f 12) ∷ (take 11 (drop 13 f) ++ (bytes_of 8 s ++ (q ∷ drop 33 f)))) (part 12 0 f b)
    (bytes-more (typed_two (byte f 12)) (take 11 (drop 13 f) ++ (bytes_of 8 s ++ (q ∷ drop 33 f))) (omega arith)
    (bytes-append (take 11 (drop 13 f)) (bytes_of 8 s ++ (q ∷ drop 33 f)) (part 11 13 f b)
    (bytes-append (bytes_of 8 s) (q ∷ drop 33 f) (number-bytes 8 s) (bytes-more q (drop 33 f) h (bytes_drop 33 f b)))))

cabled-bytes : (file : List ℕ) (at s q : ℕ) → Bytes file → q < 256 → Bytes (drop 2 (cabled_at file at s q))
unfolding cabled_at
cabled-bytes file at s q b h =
    bytes_drop 2 (take at file ++ cabled_frame (drop at file) s q)
    (bytes-append (take at file) (cabled_frame (drop at file) s q) (part at 0 file b) (frame-bytes (drop at file) s q (bytes_drop at file b) h))

-- the joined file
joined_bytes : (first : List ℕ) (i p : ℕ) (second : List ℕ) (j q : ℕ) → Bytes first → Bytes second → p < 256 → q < 256 → byte first 1 + byte second 1 < 256
    → Bytes (joined_file first i p second j q)
unfolding joined_file
joined_bytes first i p second j q b c h k l =
    let one = drop 2 (cabled_at first (phy_offset first i p) (address_in second j) q) in
    let other = drop 2 (cabled_at second (phy_offset second j q) (address_in first i) p) in
    bytes-more 0x10 ((byte first 1 + byte second 1) ∷ (one ++ other)) (omega arith)
    (bytes-more (byte first 1 + byte second 1) (one ++ other) l
    (bytes-append one other (cabled-bytes first (phy_offset first i p) (address_in second j) q b k) (cabled-bytes second (phy_offset second j q) (address_in first i) p c h)))

-- a refusal of the second file
shifted-tells : {A : Type 0} (P : A → Type 0) (n : ℕ) (x : Result A) → n ≤ 64 → Tells P x → UpTo 64 x → Tells P (shifted n x)
shifted-tells P n (refused r) h t u = at_place r.number (n + r.expander.0) r.phy.0 t.number (omega arith) t.phy
shifted-tells P n (good a) h t u = t

module _ (setting : Setting) (first second : List ℕ) (b : Bytes first) (c : Bytes second) where
  -- an accepted file states its expanders
  stated : (file : List ℕ) → Bytes file → Tells (λ d. (length d ≤ 64) × (byte file 1 ≤ 64)) (judged setting file)
  stated file f =
      let x = judged setting file in
      let P : Domain → Type 0 = λ d. (length d ≤ 64) × (byte file 1 ≤ 64) in
      tells_more (ReadBytes setting) P x (judged-tells setting file f) (λ d e.
      let n = few-expanders setting d (subst (Tells (ReadBytes setting)) e (judged-tells setting file f)) in
      let m = stated-expanders setting file d ((judged-file setting file d).0 e).0 in
      (n, omega arith))

  -- the join call
  pub join_apart : (i p j q room : ℕ) → p < 256 → q < 256 → ToldApart number Itself (then (join_call setting first i p second j q room) length_of)
  unfolding join_call
  join_apart i p j q room h k =
      let P : List ℕ → Domain → Type 0 = λ file d. (length d ≤ 64) × (byte file 1 ≤ 64) in
      let file = joined_file first i p second j q in
      length-apart (join_call setting first i p second j q room) (tells-then (P first) Short (judged setting first) _ (stated first b) (λ d₁ _ l.
      let l1 = l.1 in
      tells-then (P second) Short (shifted (length d₁) (judged setting second)) _
      (shifted-tells (P second) (length d₁) (judged setting second) l.0 (stated second c) (judged-up setting second)) (λ d₂ _ m.
      let m1 = m.1 in
      let f : Bytes file = joined_bytes first i p second j q b c h k (omega arith) in
      tells-unless Short (free d₁ i p && free d₂ j q) (refusal 21 0 0) _ (no_place 21 (omega arith)) (λ _.
      tells-then (ReadBytes setting) Short (judged setting file) _ (judged-tells setting file f) (λ d e _.
      fitting-tells room file (read_short setting file f d ((judged-file setting file d).0 e).0))))))
