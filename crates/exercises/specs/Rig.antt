-- An exercise from its solution: two expanders, of which the first has one phy, a table phy to the second, whose table is a given list of words.
use Rattle.std.specs.Prelude.{ℕ, ◌≡◌, Bool, cond, ◌||◌, List, [], ◌∷◌, map, length, T, eqb, ltb}
use Rattle.wiring.specs.FrameDefinitions.{good}
use Rattle.files.specs.declared.Phy.{Phy}
use Rattle.files.specs.declared.Phy.TheVariants.{Present}
use Rattle.files.specs.Lists.{is_in}
use Rattle.files.specs.Settings.{widest}
use Rattle.files.specs.Domain.{Expander, Domain, expander_at, phy_at, address_of, is_table, to_expander}
use Rattle.files.specs.ReadDomain.{Bytes}
use Rattle.tables.specs.filling.Tables.{table}
use Rattle.tables.specs.JudgingCall.{judged}

-- the words up to the last non-zero one
abbrev pub trim_cons : ℕ → List ℕ → List ℕ
trim_cons w [] = cond (eqb w 0) [] (w ∷ [])
trim_cons w (x ∷ l) = w ∷ x ∷ l

unfoldable pub trimmed : List ℕ → List ℕ
trimmed [] = []
trimmed (w ∷ ws) = trim_cons w (trimmed ws)

-- a direct phy: the word's drive, with attached phy 0, or nothing for a zero word
abbrev pub drive : ℕ → Phy
drive s = Present (record { device_type = cond (eqb s 0) 0 1; attribute = 0; address = s; attached_phy = record { 0 = 0 } })

-- a phy to phy 0 of the expander with this address, which is attached as type 2
abbrev pub toward : ℕ → ℕ → Phy
toward s attribute = Present (record { device_type = 2; attribute = attribute; address = s; attached_phy = record { 0 = 0 } })

-- the first expander: one phy, a table phy to the second; the configurable bit is 1
abbrev pub first_of : ℕ → ℕ → ℕ → Expander
first_of a b route_indexes = record { address = a; route_indexes = route_indexes; configurable = 1; phys = toward b 2 ∷ [] }

-- the second: R 0 and bit 0, phy 0 subtractive to the first, then a direct phy for each word
abbrev pub second_of : ℕ → ℕ → List ℕ → Expander
second_of a b ws = record { address = b; route_indexes = 0; configurable = 0; phys = toward a 1 ∷ map drive ws }

-- the domain that is made: R is the number of words
unfoldable pub made : ℕ → ℕ → List ℕ → Domain
made a b ws = first_of a b (length ws) ∷ second_of a b (trimmed ws) ∷ []

-- 24 holds: an address zero, or both equal; a word that is one of them; more words than R can say, or than the second expander has phys for.
-- `rig_iff` (proofs/Exercise): exactly where there is no `Rig`
unfoldable pub no_rig : ℕ → ℕ → List ℕ → Bool
no_rig a b ws =
    eqb a 0 || (eqb b 0 || (eqb a b || (is_in a ws || (is_in b ws || (ltb 65535 (length ws) || ltb 127 (length (trimmed ws)))))))

-- "of that kind with those addresses": two expanders, the first with one phy, a table phy to the second, and R the number of words; the second
-- whatever it may be
pub record Kind (a b : ℕ) (ws : List ℕ) (d : Domain) : Type 0 where
  pub two : length d ≡ 2
  pub first : (expander_at d 0).address ≡ a
  pub second : (expander_at d 1).address ≡ b
  pub one_phy : length (expander_at d 0).phys ≡ 1
  pub table_phy : T (is_table (phy_at d 0 0))
  pub leads : T (to_expander (phy_at d 0 0))
  pub to_second : address_of (phy_at d 0 0) ≡ b
  pub route_indexes : (expander_at d 0).route_indexes ≡ length ws

-- a file of that kind, accepted under the setting 64, 128, 64, has precisely those words as its table
pub record Rig (a b : ℕ) (ws : List ℕ) : Type 0 where
  pub file : List ℕ
  pub bytes : Bytes file
  pub domain : Domain
  pub accepted : judged widest file ≡ good domain
  pub kind : Kind a b ws domain
  pub words : table domain 0 0 ≡ ws
