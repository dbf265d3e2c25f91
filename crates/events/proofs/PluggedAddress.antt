-- What a plug stores: an address written at the front of a part of a list, from a place on to the end, is stored at that place.
use Prim.Native.Nat.{ℕ, ◌+◌, ◌-◌, ◌≤◌}
use mathlib.Core.Logic.{◌≢◌}
use mathlib.Core.Bool.{cond}
use mathlib.Core.Path.{◌≡◌, refl, sym, ◌∙◌, ap, ap₂}
use mathlib.Core.List.{List, [], ◌++◌, append-nil}
use native.Mathlib.Omega.{arith}
use lib.ListN.{length, take, drop, set, length-set, length-drop, drop_of_length-le}
use lib.Seq.{sets, take_all, drop-drop}
use lib.Dec.{eqb}
use borrow.Author.Tests.{le-leb, eq-eqb, ne_eqb}
use borrow.Rule.Slice.PartMut.{mid_of, put_mid, same_len_mid}
use Rattle.frames.specs.Bytes.{byte, bytes_of, at_front}
use Rattle.frames.proofs.ByteNumbers.{length-bytes_of}
use Rattle.frames.proofs.ValuesPut.{sets-parts}
use Rattle.events.specs.EventFile.{typed, frame_edited}

pub address-put : (l : List ℕ) (k a : ℕ) (part : List ℕ) → k + 8 ≤ length l → part ≡ at_front (bytes_of 8 a) (mid_of k (length l - k) l) → put_mid k (length l - k) l part ≡ sets l k (bytes_of 8 a)
address-put l k a part h w =
    let x : List ℕ = bytes_of 8 a in
    let n : length x ≡ 8 = length-bytes_of 8 a in
    let m : ℕ = length l - k in
    let ld = length-drop k l in
    let mid : mid_of k m l ≡ drop k l = take_all m (drop k l) (omega arith) in
    let post : drop m (drop k l) ≡ [] = drop_of_length-le (drop k l) {i = m} (omega arith) in
    let p : part ≡ x ++ drop (k + length x) l = w ∙ ap (at_front x) mid ∙ rw (le-leb (length x) (length (drop k l)) (omega arith)) (ap (λ (v : List ℕ). x ++ v) (drop-drop (length x) k l)) in
    ap₂ (λ (u v : List ℕ). take k l ++ (u ++ v)) p post ∙ ap (λ (v : List ℕ). take k l ++ v) (append-nil (x ++ drop (k + length x) l)) ∙ sym (sets-parts l k x (omega arith))

-- byte 32 stored, and then the address, as attach_at leaves them
module _ (l : List ℕ) (at a : ℕ) (part : List ℕ) where
  abbrev stored : List ℕ
  stored = set l (at + 32) 0

  pub attach_length : length part ≡ length (mid_of (at + 24) (length stored - (at + 24)) stored) → length (put_mid (at + 24) (length stored - (at + 24)) stored part) ≡ length l
  attach_length h = same_len_mid (at + 24) (length stored - (at + 24)) stored part h ∙ length-set l (at + 32) 0

  pub attach_put : at + 33 ≤ length l → part ≡ at_front (bytes_of 8 a) (mid_of (at + 24) (length stored - (at + 24)) stored)
      → put_mid (at + 24) (length stored - (at + 24)) stored part ≡ sets stored (at + 24) (bytes_of 8 a)
  attach_put h w = let n = length-set l (at + 32) 0 in address-put stored (at + 24) a part (omega arith) w

-- the type and then what attach_at stores, or the type alone, are the edited frame
module _ (a at : ℕ) (file : List ℕ) (t b : ℕ) (q : t ≡ cond (eqb a 0) 0 1) (w : b ≡ typed t (byte file (at + 12))) where
  pub pull_put : a ≡ 0 → set file (at + 12) b ≡ frame_edited a at file
  unfolding frame_edited
  pull_put z =
      let e = eq-eqb a 0 z in
      let k : t ≡ 0 = q ∙ rw e refl in
      rw e (ap (λ (n : ℕ). set file (at + 12) n) (w ∙ ap (λ (n : ℕ). typed n (byte file (at + 12))) k))

  pub plug_put : a ≢ 0 → sets (set (set file (at + 12) b) (at + 32) 0) (at + 24) (bytes_of 8 a) ≡ frame_edited a at file
  unfolding frame_edited
  plug_put z =
      let e = ne_eqb a 0 z in
      let k : t ≡ 1 = q ∙ rw e refl in
      rw e (ap (λ (n : ℕ). sets (set (set file (at + 12) n) (at + 32) 0) (at + 24) (bytes_of 8 a)) (w ∙ ap (λ (n : ℕ). typed n (byte file (at + 12))) k))
