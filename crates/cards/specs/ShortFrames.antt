-- Short responses of given fields: every byte and bit that reading ignores is zero. They read as these fields: `general-back`,
-- `vacant-back`, `discover-back` (proofs/ShortFrames).
use Rattle.std.specs.Prelude.{ℕ, ◌*◌, ◌%◌, List, ◌∷◌, ◌++◌, replicate}
use Rattle.frames.specs.Bytes.{bytes_of}
use Rattle.frames.specs.declared.General.{General}
use Rattle.frames.specs.declared.Discover.{Discover}

-- REPORT GENERAL: R at 6, number of phys at 9, configurable at 10
unfoldable pub short_general : General → List ℕ
short_general g = 0x41 ∷ 0 ∷ 0 ∷ 0 ∷ 0 ∷ 0 ∷ (bytes_of 2 g.route_indexes ++ (0 ∷ g.phys ∷ g.configurable ∷ replicate 17 0))

-- DISCOVER of a vacant phy: its result at 2
unfoldable pub short_vacant : ℕ → List ℕ
short_vacant result = 0x41 ∷ 0x10 ∷ result ∷ 0 ∷ replicate 48 0

-- DISCOVER: identifier at 9, type in bits 6 to 4 of byte 12, own address at 16, attached address at 24, attached phy at 32, attribute in
-- bits 3 to 0 of byte 44
unfoldable pub short_discover : Discover → List ℕ
short_discover d =
    0x41 ∷ 0x10 ∷ 0 ∷ 0 ∷ 0 ∷ 0 ∷ 0 ∷ 0 ∷ 0 ∷ d.identifier.0 ∷ 0 ∷ 0 ∷ d.device_type % 8 * 16 ∷ 0 ∷ 0 ∷ 0
    ∷ (bytes_of 8 d.own_address ++ (bytes_of 8 d.attached_address ++ (d.attached_phy.0 ∷ (replicate 11 0 ++ (d.attribute % 16 ∷ replicate 7 0)))))
