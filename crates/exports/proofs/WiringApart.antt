-- Bit 63 of the answers of the wiring call.
use Prim.Native.Nat.{ℕ, ◌*◌, ◌≤◌}
use mathlib.Core.Path.{refl}
use mathlib.Core.List.{List, [], ◌∷◌, flat_map}
use native.Mathlib.Omega.{arith}
use lib.ListN.{length, length-append}
use lib.Dec.{leb}
use Rattle.frames.specs.Refusals.{good, then, refusal}
use Rattle.files.specs.declared.Setting.{Setting}
use Rattle.files.specs.Lists.{up_to, keep}
use Rattle.files.specs.Domain.{Domain}
use Rattle.files.specs.ReadDomain.{Bytes}
use Rattle.files.proofs.ListMembers.{keep-shorter, length-numbers}
use Rattle.wiring.specs.phys.PhyCauses.{wired}
use Rattle.wiring.specs.graph.Neighbours.{neighbours, neighbour_words, bits_in, words_for, wiring_call, bits_set}
use Rattle.wiring.proofs.graph.WordSets.{count_pairs}
use Rattle.exports.specs.Packing.{number}
use Rattle.exports.specs.AnswerParts.{Itself}
use Rattle.exports.specs.RefusalBit.{ToldApart}
use Rattle.exports.proofs.RefusalBit.{Yields, tells, tells-unless, tells-then, no_place}
use Rattle.exports.proofs.RefusalPlaces.{ReadBytes, wired-file-tells}
use Rattle.exports.proofs.DomainCounts.{few-expanders}

-- at most 64 bits for each expander
few_bits : (d : Domain) → length d ≤ 64 → bits_in (neighbour_words d) ≤ 4096
unfolding flat_map
few_bits d h = let a = count_pairs d in let b = go (up_to (length d)) in let c = length-numbers 0 (length d) in omega arith
  where
    go : (l : List ℕ) → length (flat_map (λ i. keep (neighbours d i) (up_to (length d))) l) ≤ 64 * length l
    go [] = omega arith
    go (i ∷ l) =
        let a = length-append (keep (neighbours d i) (up_to (length d))) (flat_map (λ i. keep (neighbours d i) (up_to (length d))) l) in
        let b = keep-shorter (neighbours d i) (up_to (length d)) in
        let c = length-numbers 0 (length d) in
        let r = go l in
        omega arith

-- the wiring call
pub wire-apart : (setting : Setting) (file : List ℕ) (room : ℕ) → Bytes file → ToldApart number Itself (then (wiring_call setting file room) bits_set)
unfolding wiring_call
wire-apart setting file room b =
    let P : List ℕ → Type 0 = λ ws. bits_in ws ≤ 4096 in
    tells number Itself _ (tells-then P (Yields number Itself) (wiring_call setting file room) bits_set
    (tells-then (ReadBytes setting) P (wired setting file) (words_for room) (wired-file-tells setting file b) (λ d _ r.
    tells-unless P (leb (length d) room) (refusal 16 0 0) (good (neighbour_words d)) (no_place 16 (omega arith)) (λ _. few_bits d (few-expanders setting d r))))
    (λ ws _ h. (omega arith, refl)))
