-- Putting a domain's bits one number after the other.
use Prim.Native.Nat.{ℕ, ◌+◌, ◌-◌, ◌*◌, ◌≤◌, ◌<◌}
use mathlib.Core.Path.{◌≡◌, refl, sym, ◌∙◌, ap}
use mathlib.Core.Bool.{Bool, true, false}
use mathlib.Core.List.{List, ◌∷◌, ◌++◌, append_assoc}
use native.Mathlib.Omega.{arith}
use lib.ListN.{length, get_or, drop, replicate, length-append, drop_of_length-le}
use lib.Seq.{sets}
use lib.Dec.{eqb}
use borrow.Author.Tests.{eq-eqb, ne_eqb}
use Rattle.frames.specs.Bits.{number_bits, bits_of, bytes_for}
use Rattle.frames.proofs.PackedBits.{length-number_bits, length-bits_of, length-packed_in}
use Rattle.frames.proofs.PackedRows.{Bytes, bytes-append, bytes_drop, unpacked, bits_of-append, bits_of-drop, same_bits, bytes-packed_in}
use Rattle.frames.proofs.ValuesPut.{sets-front, sets_then}
use Rattle.files.specs.declared.Phy.{Phy}
use Rattle.files.specs.declared.Phy.TheVariants.{Vacant, Present}
use Rattle.files.specs.declared.PhyFields.{PhyFields}
use Rattle.files.specs.Domain.{Expander, Domain, no_expander, expander_at}
use Rattle.files.proofs.OneMore.{drop-next}
use Rattle.cards.specs.Card.{phy_bits, phys_bits, head_bits, expanders_bits, card_bits, card_of, present_size, phy_size, phys_size, expanders_size, card_size, head_size, most_phy_size}
use Rattle.cards.proofs.CardRoundTrip.{size-phy, size-phys, length-head, size-expanders, size-card, bits-card}
use Rattle.cards.proofs.CardDomain.{zero_bits}

spelled : (a b c e : ℕ) → ((number_bits 1 1 ++ (number_bits 3 a ++ number_bits 2 b)) ++ number_bits 64 c) ++ number_bits 8 e ≡ 1 ∷ (number_bits 3 a ++ (number_bits 2 b ++ (number_bits 64 c ++ number_bits 8 e)))
unfolding number_bits
spelled a b c e = refl

module _ (f : PhyFields) (at : ℕ) (l l1 l2 l3 : List ℕ) (a : l1 ≡ sets l at (number_bits 1 1)) (b : l2 ≡ sets l1 (at + 1) (number_bits 3 f.device_type)) (c : l3 ≡ sets l2 (at + 4) (number_bits 2 f.attribute)) where
  front : l3 ≡ sets l at (number_bits 1 1 ++ (number_bits 3 f.device_type ++ number_bits 2 f.attribute))
  front =
      let n = length-number_bits 3 f.device_type in
      let p = sets_then l l1 l2 at (at + 1) (number_bits 1 1) (number_bits 3 f.device_type) a b (omega (arith, length-number_bits 1 1)) in
      sets_then l l2 l3 at (at + 4) (number_bits 1 1 ++ number_bits 3 f.device_type) (number_bits 2 f.attribute) p c (omega (arith, length-append (number_bits 1 1) (number_bits 3 f.device_type), length-number_bits 1 1))
      ∙ ap (sets l at) (append_assoc (number_bits 1 1) (number_bits 3 f.device_type) (number_bits 2 f.attribute))

  pub present-none : f.device_type ≡ 0 → l3 ≡ sets l at (phy_bits (Present f))
  unfolding number_bits
  present-none z = front ∙ ap (sets l at) few
    where
      few : number_bits 1 1 ++ (number_bits 3 f.device_type ++ number_bits 2 f.attribute) ≡ phy_bits (Present f)
      few = rw (eq-eqb f.device_type 0 z)

  pub present-all : (f.device_type ≡ 0 → ⊥) → (l4 l5 : List ℕ) → l4 ≡ sets l3 (at + 6) (number_bits 64 f.address) → l5 ≡ sets l4 (at + 70) (number_bits 8 f.attached_phy.0)
      → l5 ≡ sets l at (phy_bits (Present f))
  present-all z l4 l5 d e =
      let w : List ℕ = number_bits 1 1 ++ (number_bits 3 f.device_type ++ number_bits 2 f.attribute) in
      let n = length-number_bits 3 f.device_type in
      let n' = length-number_bits 2 f.attribute in
      let s = length-number_bits 64 f.address in
      let k : length w ≡ 6 = omega (arith, length-append (number_bits 1 1) (number_bits 3 f.device_type ++ number_bits 2 f.attribute), length-append (number_bits 3 f.device_type) (number_bits 2 f.attribute), length-number_bits 1 1) in
      let p = sets_then l l3 l4 at (at + 6) w (number_bits 64 f.address) front d (omega arith) in
      sets_then l l4 l5 at (at + 70) (w ++ number_bits 64 f.address) (number_bits 8 f.attached_phy.0) p e (omega (arith, length-append w (number_bits 64 f.address))) ∙ ap (sets l at) all
    where
      all : ((number_bits 1 1 ++ (number_bits 3 f.device_type ++ number_bits 2 f.attribute)) ++ number_bits 64 f.address) ++ number_bits 8 f.attached_phy.0 ≡ phy_bits (Present f)
      all = rw (ne_eqb f.device_type 0 z) (spelled f.device_type f.attribute f.address f.attached_phy.0)

pub vacant-put : (r at : ℕ) (l l1 l2 : List ℕ) → l1 ≡ sets l at (number_bits 1 0) → l2 ≡ sets l1 (at + 1) (number_bits 8 r) → l2 ≡ sets l at (phy_bits (Vacant r))
unfolding number_bits
vacant-put r at l l1 l2 a b = sets_then l l1 l2 at (at + 1) (number_bits 1 0) (number_bits 8 r) a b (omega (arith, length-number_bits 1 0))

-- the first 88 bits of an expander
pub head-put : (e : Expander) (at : ℕ) (l l1 l2 l3 l4 : List ℕ) → l1 ≡ sets l at (number_bits 64 e.address) → l2 ≡ sets l1 (at + 64) (number_bits 16 e.route_indexes)
    → l3 ≡ sets l2 (at + 80) (number_bits 1 e.configurable) → l4 ≡ sets l3 (at + 81) (number_bits 7 (length e.phys - 1)) → l4 ≡ sets l at (head_bits e)
head-put e at l l1 l2 l3 l4 a b c d =
    let x = number_bits 64 e.address in
    let y = number_bits 16 e.route_indexes in
    let z = number_bits 1 e.configurable in
    let n = length-number_bits 64 e.address in
    let m = length-number_bits 16 e.route_indexes in
    let k = length-number_bits 1 e.configurable in
    let p = sets_then l l1 l2 at (at + 64) x y a b (omega arith) in
    let q = sets_then l l2 l3 at (at + 80) (x ++ y) z p c (omega (arith, length-append x y)) in
    sets_then l l3 l4 at (at + 81) ((x ++ y) ++ z) (number_bits 7 (length e.phys - 1)) q d (omega (arith, length-append (x ++ y) z, length-append x y))
    ∙ ap (sets l at) (append_assoc (x ++ y) z (number_bits 7 (length e.phys - 1)) ∙ append_assoc x y (z ++ number_bits 7 (length e.phys - 1)))

pub sizes-next : (φs : List Phy) (p : ℕ) → p < length φs → phys_size (drop p φs) ≡ phy_size (get_or φs p (Vacant 0)) + phys_size (drop (p + 1) φs)
unfolding phys_size
sizes-next φs p h = ap phys_size (drop-next (Vacant 0) φs p h)

pub sizes-none : (φs : List Phy) (p : ℕ) → length φs ≤ p → phys_size (drop p φs) ≡ 0
unfolding phys_size
sizes-none φs p h = rw (drop_of_length-le φs h)

pub phy-at-most : (φ : Phy) → phy_size φ ≤ most_phy_size
phy-at-most (Vacant r) = omega arith
phy-at-most (Present f) = go (eqb f.device_type 0)
  where
    go : (b : Bool) → present_size b ≤ most_phy_size
    go true = omega arith
    go false = omega arith

-- a turn of putting phys, and the end
pub phys-turn : (φs : List Phy) (p at : ℕ) (l l' v : List ℕ) → p < length φs → sets l at (phys_bits (drop p φs)) ≡ v → l' ≡ sets l at (phy_bits (get_or φs p (Vacant 0)))
    → sets l' (at + phy_size (get_or φs p (Vacant 0))) (phys_bits (drop (p + 1) φs)) ≡ v
unfolding phys_bits
phys-turn φs p at l l' v h inv e =
    let φ : Phy = get_or φs p (Vacant 0) in
    let s : List ℕ = phys_bits (drop (p + 1) φs) in
    sets_then l l' (sets l' (at + phy_size φ) s) at (at + phy_size φ) (phy_bits φ) s e refl (omega (arith, size-phy φ))
    ∙ sym (ap (λ (m : List Phy). sets l at (phys_bits m)) (drop-next (Vacant 0) φs p h)) ∙ inv

pub phys-end : (φs : List Phy) (p at : ℕ) (l v : List ℕ) → length φs ≤ p → sets l at (phys_bits (drop p φs)) ≡ v → l ≡ v
unfolding phys_bits
phys-end φs p at l v h inv = rw (drop_of_length-le φs h) at inv

-- an expander's bits written from numbers that are its own
pub head-put_as : (e : Expander) (at : ℕ) (l l1 l2 l3 l4 : List ℕ) (a b c n : ℕ) → a ≡ e.address → b ≡ e.route_indexes → c ≡ e.configurable → n ≡ length e.phys - 1
    → l1 ≡ sets l at (number_bits 64 a) → l2 ≡ sets l1 (at + 64) (number_bits 16 b) → l3 ≡ sets l2 (at + 80) (number_bits 1 c) → l4 ≡ sets l3 (at + 81) (number_bits 7 n)
    → l4 ≡ sets l at (head_bits e)
head-put_as e at l l1 l2 l3 l4 a b c n p q r s w x y z =
    head-put e at l l1 l2 l3 l4 (w ∙ ap (λ (k : ℕ). sets l at (number_bits 64 k)) p) (x ∙ ap (λ (k : ℕ). sets l1 (at + 64) (number_bits 16 k)) q)
    (y ∙ ap (λ (k : ℕ). sets l2 (at + 80) (number_bits 1 k)) r) (z ∙ ap (λ (k : ℕ). sets l3 (at + 81) (number_bits 7 k)) s)

pub total-next : (d : Domain) (i : ℕ) → i < length d → expanders_size (drop i d) ≡ head_size + (phys_size (expander_at d i).phys + expanders_size (drop (i + 1) d))
unfolding expanders_size
total-next d i h = ap expanders_size (drop-next no_expander d i h)

pub total-none : (d : Domain) (i : ℕ) → length d ≤ i → expanders_size (drop i d) ≡ 0
unfolding expanders_size
total-none d i h = rw (drop_of_length-le d h)

-- a turn of putting expanders, and the end
pub expanders-turn : (d : Domain) (i at at' : ℕ) (l m l' v : List ℕ) → i < length d → sets l at (expanders_bits (drop i d)) ≡ v
    → m ≡ sets l at (head_bits (expander_at d i)) → l' ≡ sets m (at + head_size) (phys_bits (expander_at d i).phys) → at' ≡ at + head_size + phys_size (expander_at d i).phys
    → sets l' at' (expanders_bits (drop (i + 1) d)) ≡ v
unfolding expanders_bits
expanders-turn d i at at' l m l' v h inv e f k =
    let x : Expander = expander_at d i in
    let s : List ℕ = expanders_bits (drop (i + 1) d) in
    let w : sets l at (expanders_bits (drop i d)) ≡ sets l at (head_bits x ++ (phys_bits x.phys ++ s)) = ap (λ (n : Domain). sets l at (expanders_bits n)) (drop-next no_expander d i h) in
    let p = sets_then l m l' at (at + head_size) (head_bits x) (phys_bits x.phys) e f (omega (arith, length-head x)) in
    let n : at' ≡ at + length (head_bits x ++ phys_bits x.phys) = omega (arith, length-append (head_bits x) (phys_bits x.phys), length-head x, size-phys x.phys) in
    sets_then l l' (sets l' at' s) at at' (head_bits x ++ phys_bits x.phys) s p refl n
    ∙ ap (sets l at) (append_assoc (head_bits x) (phys_bits x.phys) s) ∙ sym w ∙ inv

pub expanders-end : (d : Domain) (i at : ℕ) (l v : List ℕ) → length d ≤ i → sets l at (expanders_bits (drop i d)) ≡ v → l ≡ v
unfolding expanders_bits
expanders-end d i at l v h inv = rw (drop_of_length-le d h) at inv

card-bits : (d : Domain) → ((number_bits 4 2 ++ number_bits 6 (length d - 1)) ++ number_bits 6 0) ++ expanders_bits d ≡ card_bits d
unfolding card_bits number_bits
card-bits d = refl

-- a whole card
pub card-put : (d : Domain) (s s1 s2 s3 s4 s5 : List ℕ) (k at fill : ℕ) → Bytes s → Bytes s5 → bytes_for (card_size d) ≤ length s
    → k ≡ length d - 1 → at ≡ card_size d → fill ≡ 8 * bytes_for (card_size d) - card_size d
    → bits_of s1 ≡ sets (bits_of s) 0 (number_bits 4 2) → bits_of s2 ≡ sets (bits_of s1) 4 (number_bits 6 k) → bits_of s3 ≡ sets (bits_of s2) 10 (number_bits 6 0)
    → bits_of s4 ≡ sets (bits_of s3) 16 (expanders_bits d) → bits_of s5 ≡ sets (bits_of s4) at (number_bits fill 0)
    → s5 ≡ card_of d ++ drop (bytes_for (card_size d)) s
card-put d s s1 s2 s3 s4 s5 k at fill b b' h e f g p1 p2 p3 p4 p5 =
    let v : List ℕ = number_bits 4 2 in
    let n : List ℕ = number_bits 6 (length d - 1) in
    let z : List ℕ = number_bits 6 0 in
    let x : List ℕ = expanders_bits d in
    let nv = length-number_bits 4 2 in
    let nn = length-number_bits 6 (length d - 1) in
    let nz = length-number_bits 6 0 in
    let nx = size-expanders d in
    let c : ℕ = bytes_for (card_size d) in
    let q2 : bits_of s2 ≡ sets (bits_of s) 0 (v ++ n) = sets_then (bits_of s) (bits_of s1) (bits_of s2) 0 4 v n p1 (p2 ∙ ap (λ (m : ℕ). sets (bits_of s1) 4 (number_bits 6 m)) e) (omega arith) in
    let q3 : bits_of s3 ≡ sets (bits_of s) 0 ((v ++ n) ++ z) = sets_then (bits_of s) (bits_of s2) (bits_of s3) 0 10 (v ++ n) z q2 p3 (omega (arith, length-append v n)) in
    let q4 : bits_of s4 ≡ sets (bits_of s) 0 (((v ++ n) ++ z) ++ x) = sets_then (bits_of s) (bits_of s3) (bits_of s4) 0 16 ((v ++ n) ++ z) x q3 p4 (omega (arith, length-append (v ++ n) z, length-append v n)) in
    let w : ((v ++ n) ++ z) ++ x ≡ card_bits d = card-bits d in
    let l = size-card d in
    let q4' : bits_of s4 ≡ sets (bits_of s) 0 (card_bits d) = q4 ∙ ap (sets (bits_of s) 0) w in
    let q5 : bits_of s5 ≡ sets (bits_of s) 0 (card_bits d ++ number_bits fill 0) = sets_then (bits_of s) (bits_of s4) (bits_of s5) 0 at (card_bits d) (number_bits fill 0) q4' p5 (omega arith) in
    let o : number_bits fill 0 ≡ replicate (8 * bytes_for (length (card_bits d)) - length (card_bits d)) 0 = zero_bits fill ∙ ap (λ (m : ℕ). replicate m 0) (g ∙ ap (λ (m : ℕ). 8 * bytes_for m - m) (sym l)) in
    let u : bits_of (card_of d) ≡ card_bits d ++ replicate (8 * bytes_for (length (card_bits d)) - length (card_bits d)) 0 = unpacked (bytes_for (length (card_bits d))) (card_bits d) (bits-card d) (omega arith) in
    let q6 : bits_of s5 ≡ sets (bits_of s) 0 (bits_of (card_of d)) = q5 ∙ ap (λ (m : List ℕ). sets (bits_of s) 0 (card_bits d ++ m)) o ∙ ap (sets (bits_of s) 0) (sym u) in
    let lc : length (card_of d) ≡ c = length-packed_in (bytes_for (length (card_bits d))) (card_bits d) ∙ ap bytes_for l in
    let lb : length (bits_of (card_of d)) ≡ 8 * c = length-bits_of (card_of d) ∙ ap (λ (m : ℕ). 8 * m) lc in
    let q7 : bits_of s5 ≡ bits_of (card_of d) ++ drop (8 * c) (bits_of s) =
    q6 ∙ sets-front (bits_of (card_of d)) (bits_of s) (omega (arith, length-bits_of s)) ∙ ap (λ (m : ℕ). bits_of (card_of d) ++ drop m (bits_of s)) lb in
    let q8 : bits_of s5 ≡ bits_of (card_of d ++ drop c s) = q7 ∙ sym (bits_of-append (card_of d) (drop c s) ∙ ap (λ (m : List ℕ). bits_of (card_of d) ++ m) (bits_of-drop c s)) in
    same_bits s5 (card_of d ++ drop c s) b' (bytes-append (card_of d) (drop c s) (bytes-packed_in (bytes_for (length (card_bits d))) (card_bits d) (bits-card d)) (bytes_drop c s b)) q8
