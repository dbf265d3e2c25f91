-- A course's setting: the most expanders of a domain, the most phys of an expander, and the longest chain in expanders.
use Rattle.std.specs.Prelude.{ℕ, ◌≤◌, Bool, ◌&&◌, leb}
use Rattle.files.specs.declared.Setting.{Setting}

-- the most expanders of a domain, the most phys of an expander, and the longest chain that a setting may allow
abbrev pub most_expanders : ℕ
most_expanders = 64

abbrev pub most_phys : ℕ
most_phys = 128

abbrev pub longest_chain : ℕ
longest_chain = 64

-- n is 1 to `most`
abbrev pub within : ℕ → ℕ → Bool
within most n = leb 1 n && leb n most

-- 22 does not hold: expanders 1 to 64, phys 1 to 128, chain 1 to 64
unfoldable pub in_range : Setting → Bool
in_range setting = within most_expanders setting.expanders && (within most_phys setting.phys && within longest_chain setting.chain)

-- a setting in its range, in numbers: `range_iff` (proofs/SettingRanges)
pub record InRange (setting : Setting) : Type 0 where
  pub expanders : (1 ≤ setting.expanders) × (setting.expanders ≤ most_expanders)
  pub phys : (1 ≤ setting.phys) × (setting.phys ≤ most_phys)
  pub chain : (1 ≤ setting.chain) × (setting.chain ≤ longest_chain)

-- the limits of document 01
abbrev pub widest : Setting
widest = record { expanders = most_expanders; phys = most_phys; chain = longest_chain }

-- no smaller in all three
pub record NoSmaller (setting other : Setting) : Type 0 where
  pub expanders : setting.expanders ≤ other.expanders
  pub phys : setting.phys ≤ other.phys
  pub chain : setting.chain ≤ other.chain
