-- Bit 63 of the answers of the calls on one frame: reading REPORT GENERAL, DISCOVER and CONFIGURE ROUTE INFORMATION, and writing the last.
use Prim.Native.Nat.{ℕ, ◌<◌}
use mathlib.Core.Path.{refl}
use mathlib.Core.Bool.{Bool, true, false}
use mathlib.Core.List.{List}
use native.Mathlib.Omega.{arith}
use lib.ListN.{length}
use lib.Dec.{eqb, leb}
use Rattle.frames.specs.Bytes.{byte, number_at}
use Rattle.frames.specs.Refusals.{good, refusal}
use Rattle.frames.specs.declared.General.{General}
use Rattle.frames.specs.declared.LongGeneral.{LongGeneral}
use Rattle.frames.specs.declared.Discover.{Discover}
use Rattle.frames.specs.declared.Route.{Route}
use Rattle.frames.specs.ReportGeneral.{general_fields, general_read, long_fields, by_length, general_read_sas2}
use Rattle.frames.specs.declared.GeneralSas2.TheVariants.{Long as long}
use Rattle.frames.specs.Discovery.{discover_read, discover_fields, by_result}
use Rattle.frames.specs.ConfigureRoute.{is_length, is_disabled, route_frame, route_written, route_fixed, route_read}
use Rattle.files.specs.ReadDomain.{Bytes}
use Rattle.files.proofs.ReadDomain.{number_fits}
use Rattle.exports.specs.Packing.{general, general_sas2, discovered, forty, route}
use Rattle.exports.specs.AnswerParts.{Itself, GeneralBack, Sas2Back, DiscoveredBack, RouteBack}
use Rattle.exports.specs.RefusalBit.{ToldApart}
use Rattle.exports.proofs.RefusalBit.{Yields, tells, tells-unless, tells-then, no_place}
use Rattle.exports.proofs.RefusalPlaces.{general-tells, discover-tells}

-- R has two bytes, the number of phys one, the configurable bit a bit
record GeneralFits (g : General) : Type 0 where
  route_indexes : g.route_indexes < 65536
  phys : g.phys < 256
  configurable : g.configurable < 2

general-yields : (g : General) → GeneralFits g → Yields general GeneralBack g
general-yields g f =
    let a = f.route_indexes in
    let b = f.phys in
    let c = f.configurable in
    (omega arith, record { route_indexes = omega arith; phys = omega arith; configurable = omega arith })

long-yields : (g : General) (l : LongGeneral) → GeneralFits g → l.table_to_table < 2 → l.configures_others < 2 → Yields general_sas2 Sas2Back (long g l)
long-yields g l f h k =
    let a = f.route_indexes in
    let b = f.phys in
    let c = f.configurable in
    (omega arith, (omega arith, record { table_to_table = omega arith; configures_others = omega arith }, record { route_indexes = omega arith; phys = omega arith; configurable = omega arith }))

fields_yield : (d : Discover) → d.identifier.0 < 256 → d.device_type < 8 → d.attribute < 16 → d.attached_phy.0 < 256 → Yields discovered DiscoveredBack (by_result true 0 d)
fields_yield d h k l m = (omega arith, (omega arith, record { identifier = omega arith; device_type = omega arith; attribute = omega arith; attached_phy = omega arith }))

-- writing a request
pub write_route-apart : (room : ℕ) (q : Route) → ToldApart forty (λ _. Itself 40) (route_written room q)
unfolding route_written
write_route-apart room q =
    let P : List ℕ → Type 0 = Yields forty (λ _. Itself 40) in
    tells forty (λ _. Itself 40) _
    (tells-unless P (is_length q.length) (refusal 2 0 0) _ (no_place 2 (omega arith)) (λ _.
    tells-unless P (leb q.phy.0 127) (refusal 15 0 0) _ (no_place 15 (omega arith)) (λ _.
    tells-unless P (leb 40 room) (refusal 16 0 0) (good (route_frame q)) (no_place 16 (omega arith)) (λ _. (omega arith, refl)))))

module _ (frame : List ℕ) (b : Bytes frame) where
  -- reading a request
  pub read-route-apart : ToldApart route RouteBack (route_read frame)
  unfolding route_read
  read-route-apart =
      let P = Yields route RouteBack in
      tells route RouteBack _
      (tells-unless P (eqb (length frame) 40) (refusal 1 0 0) _ (no_place 1 (omega arith)) (λ _.
      tells-unless P (route_fixed frame) (refusal 2 0 0) _ (no_place 2 (omega arith)) (λ _.
      tells-unless P (leb (byte frame 9) 127) (refusal 15 0 0) _ (no_place 15 (omega arith)) (λ _.
      go (is_disabled frame) (byte frame 3) (byte frame 9) (number_at frame 6 2) (number_at frame 16 8) (b 3) (b 9) (number_fits frame 6 2 b)))))
    where
      go : (disabled : Bool) (length phy index address : ℕ) → length < 256 → phy < 256 → index < 65536
          → Yields route RouteBack (record { length = length; phy = record { 0 = phy }; index = record { 0 = index }; address = address; disabled = disabled })
      go true n p i a h k l = (omega arith, record { disabled = omega arith; length = omega arith; phy = omega arith; index = omega arith })
      go false n p i a h k l = (omega arith, record { disabled = omega arith; length = omega arith; phy = omega arith; index = omega arith })

  fields_fit : GeneralFits (general_fields frame)
  fields_fit = record { route_indexes = number_fits frame 6 2 b; phys = b 9; configurable = omega arith }

  -- reading REPORT GENERAL
  pub general-apart : ToldApart general GeneralBack (general_read frame)
  general-apart = tells general GeneralBack _ (general-tells (Yields general GeneralBack) frame (general-yields (general_fields frame) fields_fit))

  -- and as SAS-2 has it
  pub sas2_apart : ToldApart general_sas2 Sas2Back (general_read_sas2 frame)
  unfolding general_read_sas2
  sas2_apart = tells general_sas2 Sas2Back _ (tells-then GeneralFits (Yields general_sas2 Sas2Back) (general_read frame) _ (general-tells GeneralFits frame fields_fit) (λ g _ f. go (eqb (byte frame 3) 0x00) g f))
    where
      go : (b : Bool) (g : General) → GeneralFits g → Yields general_sas2 Sas2Back (by_length b g (long_fields frame))
      go true g f = let y = general-yields g f in let a = f.route_indexes in let b = f.phys in let c = f.configurable in (y.0, (omega arith, y.1))
      go false g f = long-yields g (long_fields frame) f (omega arith) (omega arith)

  -- reading DISCOVER
  pub discover-apart : ToldApart discovered DiscoveredBack (discover_read frame)
  discover-apart = tells discovered DiscoveredBack _ (discover-tells (Yields discovered DiscoveredBack) frame (go (eqb (byte frame 2) 0) (byte frame 2) (b 2)))
    where
      go : (none : Bool) (result : ℕ) → result < 256 → Yields discovered DiscoveredBack (by_result none result (discover_fields frame))
      go true result h = fields_yield (discover_fields frame) (b 9) (omega arith) (omega arith) (b 32)
      go false result h = (omega arith, (omega arith, omega arith))
