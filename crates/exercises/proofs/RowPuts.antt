-- Storing the rows of an exercise: the words of one phy after the other, then the two rows.
use Prim.Native.Nat.{ℕ, suc, ◌+◌, ◌-◌, ◌*◌, ◌≤◌}
use mathlib.Core.Path.{◌≡◌, ◌∙◌, ap}
use mathlib.Core.List.{List, [], ◌∷◌, ◌++◌, map}
use native.Mathlib.Omega.{arith}
use lib.ListN.{length, take, drop, set, replicate, length-map, length-drop, length-append, drop_of_length-le}
use lib.Seq.{sets, drop_at, take_at}
use Rattle.files.specs.declared.Phy.{Phy}
use Rattle.files.specs.declared.ExpanderUnit.{ExpanderUnit}
use Rattle.files.specs.Domain.{Expander, address_of}
use Rattle.files.specs.Rows.{phy_word, phy_words, head_word, row_of, rows_of, row_words}
use Rattle.files.proofs.RowFilling.{length-phy_words, length-row_of, stored_in_zeros}
use Rattle.exercises.specs.Rig.{drive, toward, first_of, second_of}

-- an expander's row: its link, and then the words' phys
pub row_put : (l after : List ℕ) (u : ExpanderUnit) (φ : Phy) (ws : List ℕ) (h a w : ℕ) → l ≡ replicate row_words 0 → h ≡ head_word u.route_indexes u.phys u.configurable
    → a ≡ address_of φ → w ≡ phy_word φ → u.phys ≡ suc (length ws) → length ws ≤ 127
    → after ≡ sets (set (set (set (set l 0 u.address) 1 h) 2 a) 3 w) 4 (phy_words (map drive ws))
    → after ≡ row_of (record { address = u.address; route_indexes = u.route_indexes; configurable = u.configurable; phys = φ ∷ map drive ws })
unfolding row_of
row_put l after u φ ws h a w ql qh qa qw qn few q =
    let m = length-map ws drive in
    let k = length-phy_words (map drive ws) in
    let n : u.phys ≡ length (φ ∷ map drive ws) = omega arith in
    let g : h ≡ head_word u.route_indexes (length (φ ∷ map drive ws)) u.configurable = qh ∙ ap (λ (x : ℕ). head_word u.route_indexes x u.configurable) n in
    let s : after ≡ sets (set (set l 0 u.address) 1 h) 2 (phy_words (φ ∷ map drive ws)) = q ∙ rw (qa, qw) in
    s ∙ stored_in_zeros l u.address h (phy_words (φ ∷ map drive ws)) ql (omega arith)
    ∙ ap (λ (x : ℕ). u.address ∷ x ∷ (phy_words (φ ∷ map drive ws) ++ replicate (256 - length (phy_words (φ ∷ map drive ws))) 0)) g

-- both rows, one after the other
pub rig-put : (a b i : ℕ) (ws rows r t s after : List ℕ) (k : ℕ) (φ ψ : Phy) → length rows ≡ 2 * row_words → length ws ≤ 127 → φ ≡ toward b 2 → ψ ≡ toward a 1
    → r ≡ row_of (record { address = a; route_indexes = i; configurable = 1; phys = φ ∷ [] })
    → t ≡ row_of (record { address = b; route_indexes = 0; configurable = 0; phys = ψ ∷ map drive ws })
    → s ≡ r ++ drop row_words rows → k ≡ length s - row_words → after ≡ take row_words s ++ (t ++ drop k (drop row_words s)) → after ≡ rows_of (first_of a b i ∷ second_of a b ws ∷ [])
unfolding rows_of
rig-put a b i ws rows r t s after k φ ψ n few qφ qψ er et qs qk q =
    let e : Expander = first_of a b i in
    let g : Expander = second_of a b ws in
    let qr : r ≡ row_of e = er ∙ ap (λ (χ : Phy). row_of (record { address = a; route_indexes = i; configurable = 1; phys = χ ∷ [] })) qφ in
    let qt : t ≡ row_of g = et ∙ ap (λ (χ : Phy). row_of (record { address = b; route_indexes = 0; configurable = 0; phys = χ ∷ map drive ws })) qψ in
    let lr : length r ≡ row_words = ap length qr ∙ length-row_of e (omega arith) in
    let d : drop row_words s ≡ drop row_words rows = ap (drop row_words) qs ∙ drop_at r (drop row_words rows) row_words lr in
    let f : take row_words s ≡ row_of e = ap (take row_words) qs ∙ take_at r (drop row_words rows) row_words lr ∙ qr in
    let ld : length (drop row_words rows) ≡ row_words = length-drop row_words rows ∙ (omega arith) in
    let ls : length s ≡ length r + length (drop row_words rows) = ap length qs ∙ length-append r (drop row_words rows) in
    let z : drop k (drop row_words s) ≡ [] = ap (drop k) d ∙ drop_of_length-le (drop row_words rows) {i = k} (omega arith) in
    q ∙ ap (λ (l : List ℕ). l ++ (t ++ drop k (drop row_words s))) f ∙ ap (λ (l : List ℕ). row_of e ++ (t ++ l)) z ∙ ap (λ (l : List ℕ). row_of e ++ (l ++ [])) qt
