-- Attached device type and routing attribute of DISCOVER by name: a case for each code, in the order of the standard.
use Rattle.std.specs.Prelude.{ℕ, cond, List, [], ◌∷◌, eqb}
use Rattle.frames.specs.Bytes.{bits}

-- ATTACHED DEVICE TYPE (source document 002, table 6)
abbrev pub no_device : ℕ
no_device = 0

abbrev pub end_device : ℕ
end_device = 1

abbrev pub edge_expander : ℕ
edge_expander = 2

abbrev pub fanout_expander : ℕ
fanout_expander = 3

-- ROUTING ATTRIBUTE (document 01; source document 003 has 1h and 2h)
abbrev pub direct : ℕ
direct = 0

abbrev pub subtractive : ℕ
subtractive = 1

abbrev pub table : ℕ
table = 2

-- a reserved code of either stands for itself
abbrev pub reserved : ℕ → ℕ
reserved code = code

-- what the case of a code names, 0 where there is no such case
abbrev pub named : List (ℕ × ℕ) → ℕ → ℕ
named [] code = 0
named (case ∷ cases) code = cond (eqb code case.0) case.1 (named cases code)

abbrev pub device_types : List (ℕ × ℕ)
device_types =
    (0b000, no_device)
    ∷ (0b001, end_device)
    ∷ (0b010, edge_expander)
    ∷ (0b011, fanout_expander)
    ∷ (0b100, reserved 4)
    ∷ (0b101, reserved 5)
    ∷ (0b110, reserved 6)
    ∷ (0b111, reserved 7)
    ∷ []

abbrev pub routing_attributes : List (ℕ × ℕ)
routing_attributes =
    (0x0, direct)
    ∷ (0x1, subtractive)
    ∷ (0x2, table)
    ∷ (0x3, reserved 3)
    ∷ (0x4, reserved 4)
    ∷ (0x5, reserved 5)
    ∷ (0x6, reserved 6)
    ∷ (0x7, reserved 7)
    ∷ (0x8, reserved 8)
    ∷ (0x9, reserved 9)
    ∷ (0xa, reserved 10)
    ∷ (0xb, reserved 11)
    ∷ (0xc, reserved 12)
    ∷ (0xd, reserved 13)
    ∷ (0xe, reserved 14)
    ∷ (0xf, reserved 15)
    ∷ []

-- bits 6 to 4 of a byte, and bits 3 to 0, decoded by cases
unfoldable pub device_type : ℕ → ℕ
device_type byte = named device_types (bits 4 3 byte)

unfoldable pub routing_attribute : ℕ → ℕ
routing_attribute byte = named routing_attributes (bits 0 4 byte)
