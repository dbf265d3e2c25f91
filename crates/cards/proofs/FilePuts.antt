-- Writing a file's units one after the other.
use Prim.Native.Nat.{ℕ, ◌+◌, ◌*◌, ◌≤◌, ◌<◌}
use mathlib.Core.Path.{◌≡◌, refl, sym, ◌∙◌, ap}
use mathlib.Core.List.{List, ◌∷◌, ◌++◌, append_assoc, append-nil}
use native.Mathlib.Omega.{arith}
use lib.ListN.{length, get_or, take, drop, set, length-append, drop_of_length-le}
use lib.Seq.{sets}
use Rattle.frames.specs.Bytes.{bytes_of, at_front}
use Rattle.cards.specs.ShortFrames.{short_general}
use Rattle.frames.specs.declared.General.{General}
use Rattle.frames.proofs.ByteNumbers.{length-bytes_of, front-room}
use Rattle.frames.proofs.ValuesPut.{sets-front, sets_then, sets_mid, sets_mid_then}
use Rattle.frames.specs.Sizes.{short_size}
use Rattle.frames.specs.declared.Response.TheVariants.{ReportGeneral, Discover as DiscoverResponse}
use Rattle.cards.proofs.ShortFrames.{length-general}
use Rattle.files.specs.declared.Phy.{Phy}
use Rattle.files.specs.declared.Phy.TheVariants.{Vacant}
use Rattle.files.specs.Domain.{Expander, Domain, no_expander, expander_at}
use Rattle.files.proofs.OneMore.{drop-next}
use Rattle.cards.specs.FileOf.{general_of, phy_frame, phys_frames, unit_head, units_of, file_of, head_bytes}
use Rattle.cards.proofs.FileRoundTrip.{length-phy, length-frames, length-head}

-- a frame written at the front of a part that it fills
pub front-whole : (new before : List ℕ) → length before ≡ length new → at_front new before ≡ new
front-whole new before h = front-room new before (omega arith) ∙ ap (λ (m : List ℕ). new ++ m) (drop_of_length-le before {i = length new} (omega arith)) ∙ append-nil new

-- an expander's address and its REPORT GENERAL response
pub head-put : (e : Expander) (s s1 s2 r1 r2 : List ℕ) (to k1 k2 own_address : ℕ) (g : General) → to + head_bytes ≤ length s → length s1 ≡ length s → own_address ≡ e.address → g ≡ general_of e
    → k1 ≡ 8 → r1 ≡ bytes_of 8 own_address → s1 ≡ take to s ++ (r1 ++ drop k1 (drop to s)) → k2 ≡ short_size ReportGeneral → r2 ≡ short_general g → s2 ≡ take (to + 8) s1 ++ (r2 ++ drop k2 (drop (to + 8) s1))
    → s2 ≡ sets s to (unit_head e)
unfolding unit_head
head-put e s s1 s2 r1 r2 to k1 k2 own_address g h n qo qg q1 e1 f1 q2 e2 f2 =
    let l1 : length r1 ≡ k1 = ap length e1 ∙ length-bytes_of 8 own_address ∙ sym q1 in
    let l2 : length r2 ≡ k2 = ap length e2 ∙ length-general g ∙ sym q2 in
    let p1 : s1 ≡ sets s to r1 = f1 ∙ sets_mid s r1 to k1 l1 (omega arith) in
    let p2 : s2 ≡ sets s1 (to + 8) r2 = f2 ∙ sets_mid s1 r2 (to + 8) k2 l2 (omega arith) in
    let a : r1 ≡ bytes_of 8 e.address = e1 ∙ ap (bytes_of 8) qo in
    let b : r2 ≡ short_general (general_of e) = e2 ∙ ap short_general qg in
    sets_then s s1 s2 to (to + 8) r1 r2 p1 p2 (omega arith) ∙ ap (λ (m : List ℕ). sets s to (m ++ r2)) a ∙ ap (λ (m : List ℕ). sets s to (bytes_of 8 e.address ++ m)) b

pub frames-go : (φs : List Phy) (s v r : List ℕ) (own_address o p to a k : ℕ) (φ : Phy) → p < length φs → to + short_size DiscoverResponse * length φs ≤ length s → o ≡ own_address → φ ≡ get_or φs p (Vacant 0)
    → sets s (to + short_size DiscoverResponse * p) (phys_frames own_address p (drop p φs)) ≡ v → a ≡ to + short_size DiscoverResponse * p → k ≡ short_size DiscoverResponse → r ≡ phy_frame o p φ
    → sets (take a s ++ (r ++ drop k (drop a s))) (to + short_size DiscoverResponse * (p + 1)) (phys_frames own_address (p + 1) (drop (p + 1) φs)) ≡ v
unfolding phys_frames
frames-go φs s v r own_address o p to a k φ h m qo qφ inv qa qk qr =
    let f : List ℕ = phy_frame own_address p (get_or φs p (Vacant 0)) in
    let n : length f ≡ short_size DiscoverResponse = length-phy own_address p (get_or φs p (Vacant 0)) in
    let e : r ≡ f = qr ∙ ap (λ (x : ℕ). phy_frame x p φ) qo ∙ ap (phy_frame own_address p) qφ in
    let lr : length r ≡ k = ap length e ∙ n ∙ sym qk in
    let rest : List ℕ = phys_frames own_address (p + 1) (drop (p + 1) φs) in
    sets_mid_then s r rest (to + short_size DiscoverResponse * p) (to + short_size DiscoverResponse * (p + 1)) a k qa lr (omega arith) (omega arith) ∙ ap (λ (x : List ℕ). sets s (to + short_size DiscoverResponse * p) (x ++ rest)) e
    ∙ sym (ap (λ (x : List Phy). sets s (to + short_size DiscoverResponse * p) (phys_frames own_address p x)) (drop-next (Vacant 0) φs p h)) ∙ inv

pub frames-end : (φs : List Phy) (s v : List ℕ) (own_address p to : ℕ) → length φs ≤ p → sets s to (phys_frames own_address p (drop p φs)) ≡ v → s ≡ v
unfolding phys_frames
frames-end φs s v own_address p to h inv = sym (ap (λ (x : List Phy). sets s to (phys_frames own_address p x)) (drop_of_length-le φs h)) ∙ inv

pub length-next : (d : Domain) (i : ℕ) → i < length d → length (units_of (drop i d)) ≡ head_bytes + short_size DiscoverResponse * length (expander_at d i).phys + length (units_of (drop (i + 1) d))
unfolding units_of
length-next d i h =
    let e : Expander = expander_at d i in
    let a = length-head e in
    let f = length-frames e.address 0 e.phys in
    let r : List ℕ = units_of (drop (i + 1) d) in
    ap (λ (x : Domain). length (units_of x)) (drop-next no_expander d i h) ∙ omega (arith, length-append (unit_head e) (phys_frames e.address 0 e.phys ++ r), length-append (phys_frames e.address 0 e.phys) r)

pub length_none : (d : Domain) (i : ℕ) → length d ≤ i → length (units_of (drop i d)) ≡ 0
unfolding units_of
length_none d i h = ap (λ (x : Domain). length (units_of x)) (drop_of_length-le d h)

pub units-go : (d : Domain) (i to : ℕ) (s s1 s2 v : List ℕ) (n : ℕ) → i < length d → n ≡ length (expander_at d i).phys → sets s to (units_of (drop i d)) ≡ v
    → s1 ≡ sets s to (unit_head (expander_at d i)) → s2 ≡ sets s1 (to + head_bytes) (phys_frames (expander_at d i).address 0 (expander_at d i).phys)
    → sets s2 (to + (head_bytes + short_size DiscoverResponse * n)) (units_of (drop (i + 1) d)) ≡ v
unfolding units_of
units-go d i to s s1 s2 v n h qn inv e1 e2 =
    let e : Expander = expander_at d i in
    let f : List ℕ = unit_head e in
    let g : List ℕ = phys_frames e.address 0 e.phys in
    let r : List ℕ = units_of (drop (i + 1) d) in
    let lf = length-head e in
    let lg = length-frames e.address 0 e.phys in
    let p = sets_then s s1 s2 to (to + head_bytes) f g e1 e2 (omega arith) in
    sets_then s s2 (sets s2 (to + (head_bytes + short_size DiscoverResponse * n)) r) to (to + (head_bytes + short_size DiscoverResponse * n)) (f ++ g) r p refl (omega (arith, length-append f g))
    ∙ ap (sets s to) (append_assoc f g r) ∙ sym (ap (λ (x : Domain). sets s to (units_of x)) (drop-next no_expander d i h)) ∙ inv

pub units-end : (d : Domain) (i to : ℕ) (s v : List ℕ) → length d ≤ i → sets s to (units_of (drop i d)) ≡ v → s ≡ v
unfolding units_of
units-end d i to s v h inv = sym (ap (λ (x : Domain). sets s to (units_of x)) (drop_of_length-le d h)) ∙ inv

-- a whole file
pub length-file : (d : Domain) → length (file_of d) ≡ 2 + length (units_of d)
unfolding file_of
length-file d = omega arith

pub file-put : (d : Domain) (n : ℕ) (s t : List ℕ) → n ≡ length d → length (file_of d) ≤ length s → t ≡ sets (set (set s 0 0x10) 1 n) 2 (units_of d)
    → t ≡ file_of d ++ drop (length (file_of d)) s
unfolding file_of
file-put d n s t e h q =
    q ∙ ap (λ (k : ℕ). sets (set (set s 0 0x10) 1 k) 2 (units_of d)) e ∙ sets-front (0x10 ∷ length d ∷ units_of d) s (omega arith)

pub general-same : (e : Expander) (r m c : ℕ) → r ≡ e.route_indexes → m ≡ length e.phys → c ≡ e.configurable → record { route_indexes = r; phys = m; configurable = c } ≡ general_of e
general-same e r m c qr qm qc = rw (qr, qm, qc)
