-- What the two card calls test, cause by cause.
use Rattle.std.specs.Prelude.{ℕ, ◌-◌, ◌*◌, ◌≤◌, ◌≡◌, ◌≢◌, ◌⊎◌, true, List, length, drop}
use Rattle.frames.specs.Bits.{field, bits_of, bytes_for}
use Rattle.frames.specs.Refusals.{good}
use Rattle.files.specs.declared.Setting.{Setting}
use Rattle.files.specs.declared.Phy.{Phy}
use Rattle.files.specs.declared.Phy.TheVariants.{Vacant, Present}
use Rattle.files.specs.declared.PhyFields.{PhyFields}
use Rattle.files.specs.Lists.{In, Distinct}
use Rattle.files.specs.Settings.{InRange}
use Rattle.files.specs.Domain.{Expander, Domain}
use Rattle.files.specs.ReadDomain.{addresses, read_number}
use Rattle.files.specs.File.{domain_read}
use Rattle.cards.specs.Card.{card_of, card_size, domain_on}
use Rattle.cards.specs.CardRead.{all_fine}
use Rattle.cards.specs.FileOf.{file_of}

-- none of the causes that making a card of a file tests holds, with so many bytes lent
pub record NoCardCause (setting : Setting) (file : List ℕ) (room : ℕ) : Type 0 where
  pub domain : Domain
  -- 22: a setting outside its range
  pub range : InRange setting
  -- 1 to 6, unit by unit
  pub read : domain_read setting file ≡ good domain
  -- 16: lent bytes fewer than the card has
  pub enough : length (card_of domain) ≤ room

-- 1 to 6, 22 and 16
abbrev pub card_number : ℕ → Type 0
card_number n = read_number n ⊎ (n ≡ 16)

-- 19 does not hold: a card's version, its six zero bits, its results, its length, and the zero bits that fill its last byte
pub record Formed (card : List ℕ) (d : Domain) : Type 0 where
  pub version : field 4 (bits_of card) ≡ 2
  pub zeros : field 6 (drop 10 (bits_of card)) ≡ 0
  pub results : all_fine d ≡ true
  pub long : length card ≡ bytes_for (card_size d)
  pub fill : field (8 * length card - card_size d) (drop (card_size d) (bits_of card)) ≡ 0

-- 6 does not hold of a phy's fields
pub record RangedFields (f : PhyFields) : Type 0 where
  pub device_type : f.device_type ≤ 3
  pub attribute : f.attribute ≤ 2
  pub borne : f.device_type ≢ 0 → f.address ≢ 0

-- and a vacant phy has none
abbrev pub RangedPhy : Phy → Type 0
RangedPhy (Vacant result) = Unit {0}
RangedPhy (Present f) = RangedFields f

-- none of the causes that making a file of a card tests holds, with so many bytes lent
pub record NoFileCause (setting : Setting) (card : List ℕ) (room : ℕ) : Type 0 where
  -- what stands on the card
  pub domain : Domain
  pub on : domain_on (bits_of card) ≡ domain
  -- 22: a setting outside its range
  pub range : InRange setting
  -- 19: version, zero bits, a result or the length wrong
  pub formed : Formed card domain
  -- 3: expanders, or phys of an expander, outside their range
  pub expanders : (1 ≤ length domain) × (length domain ≤ setting.expanders)
  pub phys : (e : Expander) → In e domain → (1 ≤ length e.phys) × (length e.phys ≤ setting.phys)
  -- 4: an expander's address zero or already used
  pub borne : (e : Expander) → In e domain → e.address ≢ 0
  pub differ : Distinct (addresses domain)
  -- 6: a phy's type or attribute outside its range, or attached with address zero
  pub ranged : (e : Expander) → In e domain → (φ : Phy) → In φ e.phys → RangedPhy φ
  -- 16: lent bytes fewer than the file has
  pub enough : length (file_of domain) ≤ room

-- 22, 19, 3, 4, 6 and 16
abbrev pub file_number : ℕ → Type 0
file_number n = (n ≡ 22) ⊎ ((n ≡ 19) ⊎ ((n ≡ 3) ⊎ ((n ≡ 4) ⊎ ((n ≡ 6) ⊎ (n ≡ 16)))))
