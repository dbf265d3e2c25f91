-- Decoding by cases is the field of the definitions.
use Prim.Native.Nat.{ℕ, zero, suc, ◌/◌, ◌-◌, ◌^◌, ◌≤◌, ◌<◌}
use mathlib.Core.Path.{◌≡◌, sym, ◌∙◌, ap}
use mathlib.Core.List.{List}
use native.Mathlib.Omega.{arith}
use lib.Bits.{bit_and, mask_lt}
use borrow.Enum.Match.{each_below}
use Rattle.frames.specs.Bytes.{bits}
use Rattle.frames.specs.Codes.{named, device_types, routing_attributes, device_type, routing_attribute}
use Rattle.frames.proofs.Masks.{field}

-- each code has its case, and the case its number
each-type : (code : ℕ) → code < 8 → named device_types code ≡ code
each-type = each_below 8 (λ k. named device_types k ≡ k) (search)

each-attribute : (code : ℕ) → code < 16 → named routing_attributes code ≡ code
each-attribute = each_below 16 (λ k. named routing_attributes k ≡ k) (search)

-- for every byte, decoding by cases is the field of the definitions
pub decoded-by_cases : (byte : ℕ) → (device_type byte ≡ bits 4 3 byte) × (routing_attribute byte ≡ bits 0 4 byte)
unfolding device_type routing_attribute
decoded-by_cases byte = (each-type (bits 4 3 byte) (omega arith), each-attribute (bits 0 4 byte) (omega arith))

-- what the case of a code names is what a byte with this code decodes to
pub in_case : (low count : ℕ) (cases : List (ℕ × ℕ)) (byte code : ℕ) → bit_and (byte / 2 ^ low) (2 ^ count - 1) ≡ code → named cases code ≡ named cases (bits low count byte)
in_case low count cases byte code e = ap (named cases) (sym e ∙ field low count byte)

-- none of the codes below n, as the last arm of a `match` knows it
abbrev NoneBelow : ℕ → ℕ → Type 0
NoneBelow zero code = Unit
NoneBelow (suc n) code = NoneBelow n code × (code ≡ n → ⊥)

none_below : (n code : ℕ) → NoneBelow n code → n ≤ code
none_below zero code h = omega arith
none_below (suc n) code h = let l = none_below n code h.0 in let e = h.1 in omega arith

-- the last code is the only one left
pub in_last : (low count : ℕ) (cases : List (ℕ × ℕ)) (byte : ℕ) → NoneBelow (2 ^ count - 1) (bit_and (byte / 2 ^ low) (2 ^ count - 1)) → named cases (2 ^ count - 1) ≡ named cases (bits low count byte)
in_last low count cases byte h =
    let l = none_below (2 ^ count - 1) (bit_and (byte / 2 ^ low) (2 ^ count - 1)) h in
    let m = mask_lt (byte / 2 ^ low) count in
    in_case low count cases byte (2 ^ count - 1) (omega arith)
