-- What the inner functions over a form promise: its rows, the comparison by the attached expanders that the words name, and which refusals stay.
use Rattle.std.specs.Prelude.{ℕ, ◌+◌, ◌*◌, ◌/◌, ◌%◌, ◌≤◌, ◌<◌, ◌≡◌, Bool, true, false, cond, not, ◌&&◌, List, [], ◌∷◌, ◌++◌, length, get_or, take, eqb, leb}
use Rattle.frames.specs.Refusals.{Result, refused, good, refusal}
use Rattle.frames.specs.declared.Refusal.{Refusal}
use Rattle.files.specs.declared.Setting.{Setting}
use Rattle.files.specs.declared.Phy.{Phy}
use Rattle.files.specs.declared.Phy.TheVariants.{Vacant, Present}
use Rattle.files.specs.declared.PhyFields.{PhyFields}
use Rattle.files.specs.Domain.{Expander, Domain, address_of, expander_at}
use Rattle.files.specs.Rows.{row_in, domain_in, row_words}
use Rattle.wiring.specs.index.AddressIndex.{IndexRoom}
use Rattle.forms.specs.Form.{head_field, phy_field, form_in}
use Rattle.forms.specs.FormCalls.{unread}

-- a row holds an expander, whatever follows it
abbrev pub RowHolds : Expander → List ℕ → Type 0
RowHolds e row = (rest : List ℕ) → row_in (row ++ rest) ≡ e

-- a phy whose fields have as many bits as rows keep of them
abbrev pub SmallPhy : Phy → Type 0
SmallPhy (Vacant result) = result < 256
SmallPhy (Present f) = (f.device_type < 4) × ((f.attribute < 4) × (f.attached_phy.0 < 256))

-- the attached expander that a phy's second word names
abbrev pub named_by : ℕ → ℕ
named_by v = v / 9007199254740992 % 64

-- a second word is right for these fields: it names no expander, or one that has the attached address, and has these fields alone
abbrev pub right_named : Bool → Domain → PhyFields → ℕ → Bool
right_named true d f v = eqb (expander_at d (named_by v)).address f.address && eqb v (phy_field 0 f.device_type f.attribute (named_by v) f.attached_phy.0)
right_named false d f v = eqb v (phy_field 0 f.device_type f.attribute 0 f.attached_phy.0)

abbrev pub right_field : Domain → Phy → ℕ → Bool
right_field d (Vacant result) v = eqb v (phy_field 1 0 0 0 0)
right_field d (Present f) v = right_named (leb 2 f.device_type) d f v

-- the words of phys, from word `at` on
unfoldable pub right_phys : Domain → List Phy → ℕ → List ℕ → Bool
right_phys d [] at ws = true
right_phys d (φ ∷ φs) at ws = eqb (get_or ws at 0) (address_of φ) && (right_field d φ (get_or ws (at + 1) 0) && right_phys d φs (at + 2) ws)

-- the words of expanders, from word `at` on, and then none
unfoldable pub right_expanders : Domain → Domain → ℕ → List ℕ → Bool
right_expanders d [] at ws = eqb at (length ws)
right_expanders d (e ∷ es) at ws =
    eqb (get_or ws at 0) e.address && (eqb (get_or ws (at + 1) 0) (head_field e.route_indexes (length e.phys))
    && (right_phys d e.phys (at + 2) ws && right_expanders d es (at + 2 + 2 * length e.phys) ws))

-- none of 3, 4 and 6, and the words are right for what they read as
unfoldable pub opens : Setting → List ℕ → Bool
opens most ws = not (unread most (form_in ws)) && right_expanders (form_in ws) (form_in ws) 0 ws

-- room for the rows of n expanders, as many as the words read as, and for the entries of their slots and phys
pub record FormRoom (ws : List ℕ) (n : ℕ) (rows first low : List ℕ) : Type 0 where
  pub count : n ≡ length (form_in ws)
  pub space : row_words * n ≤ length rows
  pub index : IndexRoom (form_in ws) first low

-- the first rows hold what the words read as
pub record FormOpened (most : Setting) (ws : List ℕ) (n : ℕ) (answer : Bool) (after : List ℕ) : Type 0 where
  pub answers : answer ≡ opens most ws
  pub holds : domain_in (take (row_words * n) after) ≡ form_in ws

-- 15 to 18 stay; any other number, which judging has found, is 1 at place 0, 0
abbrev pub as_form : Refusal → Refusal
as_form r = cond (leb 15 r.number && leb r.number 18) r (refusal 1 0 0)

module _ {A : Type 0} where
  -- the answer of a call over rows, as one over a form
  abbrev pub over_form : Result A → Result A
  over_form (refused r) = refused (as_form r)
  over_form (good a) = good a
