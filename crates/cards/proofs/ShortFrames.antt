-- Short responses: their sizes, and that they read as their fields.
use Prim.Native.Nat.{ℕ, ◌*◌, ◌/◌, ◌%◌, ◌^◌, ◌≤◌, ◌<◌}
use mathlib.Core.Path.{◌≡◌, refl}
use mathlib.Core.List.{List, ◌++◌}
use native.Mathlib.Omega.{arith}
use lib.ListN.{length, set, length-append, length-set}
use borrow.Author.Tests.{ne_eqb, le-leb}
use Rattle.frames.specs.Bytes.{byte, number_at, bytes_of}
use Rattle.frames.specs.Refusals.{good}
use Rattle.frames.specs.Sizes.{short_size, frame_size}
use Rattle.frames.specs.ReportGeneral.{general_fixed, general_read}
use Rattle.frames.specs.Discovery.{discover_fixed, discover_read}
use Rattle.frames.specs.declared.Discovered.TheVariants.{Vacant as vacant, Fields as fields}
use Rattle.frames.specs.declared.General.{General}
use Rattle.frames.specs.declared.Discover.{Discover}
use Rattle.frames.specs.declared.Response.{Response}
use Rattle.frames.specs.declared.Response.TheVariants.{ReportGeneral, Discover as DiscoverResponse}
use Rattle.cards.specs.ShortFrames.{short_general, short_vacant, short_discover}
use Rattle.frames.proofs.ByteNumbers.{number-back}

-- sizes
pub length-general : (g : General) → length (short_general g) ≡ short_size ReportGeneral
unfolding short_general bytes_of
length-general g = refl

pub length-vacant : (result : ℕ) → length (short_vacant result) ≡ short_size DiscoverResponse
unfolding short_vacant
length-vacant result = refl

pub length-discover : (d : Discover) → length (short_discover d) ≡ short_size DiscoverResponse
unfolding short_discover bytes_of
length-discover d = refl

-- sizes by byte 3, whatever stands behind
size-short : (kind : Response) (frame rest : List ℕ) → 4 ≤ length frame → byte (frame ++ rest) 3 ≡ 0 → frame_size kind (frame ++ rest) ≡ good (short_size kind)
unfolding frame_size
size-short kind frame rest h e = rw (le-leb 4 (length (frame ++ rest)) (omega (arith, length-append frame rest)), e)

pub size-general : (g : General) (rest : List ℕ) → frame_size ReportGeneral (short_general g ++ rest) ≡ good (short_size ReportGeneral)
unfolding short_general
size-general g rest = size-short ReportGeneral (short_general g) rest (omega (arith, length-general g)) refl

pub size-vacant : (result : ℕ) (rest : List ℕ) → frame_size DiscoverResponse (short_vacant result ++ rest) ≡ good (short_size DiscoverResponse)
unfolding short_vacant
size-vacant result rest = size-short DiscoverResponse (short_vacant result) rest (omega (arith, length-vacant result)) refl

pub size-discover : (d : Discover) (rest : List ℕ) → frame_size DiscoverResponse (short_discover d ++ rest) ≡ good (short_size DiscoverResponse)
unfolding short_discover
size-discover d rest = size-short DiscoverResponse (short_discover d) rest (omega (arith, length-discover d)) refl

-- R has two bytes, and the configurable bit one bit
pub general-back : (g : General) → g.route_indexes < 65536 → g.configurable < 2 → general_read (short_general g) ≡ good g
unfolding general_read general_fixed frame_size short_general number_at bytes_of
general-back g h k =
    let r : number_at (bytes_of 2 g.route_indexes) 0 2 ≡ g.route_indexes = number-back 2 g.route_indexes h in
    let c : g.configurable / 2 ^ 0 % 2 ^ 1 ≡ g.configurable = omega arith in
    simp (r, c)

pub vacant-back : (result : ℕ) → 0 < result → discover_read (short_vacant result) ≡ good (vacant result)
unfolding discover_read discover_fixed frame_size short_vacant
vacant-back result h = simp (ne_eqb result 0 (λ (z : result ≡ 0). omega arith))

-- addresses have eight bytes, the type three bits and the attribute four
pub discover-back : (d : Discover) → d.own_address < 2 ^ 64 → d.attached_address < 2 ^ 64 → d.device_type < 8 → d.attribute < 16 → discover_read (short_discover d) ≡ good (fields d)
unfolding discover_read discover_fixed frame_size short_discover number_at bytes_of
discover-back d h k t u =
    let o : number_at (bytes_of 8 d.own_address) 0 8 ≡ d.own_address = number-back 8 d.own_address h in
    let s : number_at (bytes_of 8 d.attached_address) 0 8 ≡ d.attached_address = number-back 8 d.attached_address k in
    let e : d.device_type % 8 * 16 / 2 ^ 4 % 2 ^ 3 ≡ d.device_type = omega arith in
    let a : d.attribute % 16 / 2 ^ 0 % 2 ^ 4 ≡ d.attribute = omega arith in
    simp (o, s, e, a)

-- six bytes stored
pub length-stored : (s : List ℕ) (a b c d e f : ℕ) → length (set (set (set (set (set (set s 0 a) 1 b) 9 c) 12 d) 32 e) 44 f) ≡ length s
length-stored s a b c d e f = simp length-set
