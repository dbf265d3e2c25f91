-- Which words are the form of an accepted domain (cause 1 of the calls over a form), and these calls.
use Rattle.std.specs.Prelude.{ℕ, ◌^◌, ◌<◌, ◌≡◌, Bool, true, false, not, ◌||◌, ◌&&◌, List, [], ◌∷◌, length, get_or, eqb, leb}
use Rattle.frames.specs.Refusals.{Result, refused, good, unless, then, refusal}
use Rattle.files.specs.declared.Setting.{Setting}
use Rattle.files.specs.declared.Phy.{Phy}
use Rattle.files.specs.declared.Phy.TheVariants.{Vacant, Present}
use Rattle.files.specs.Lists.{up_to, any}
use Rattle.files.specs.Settings.{within, in_range}
use Rattle.files.specs.Domain.{Domain, expander_at, number_of}
use Rattle.files.specs.File.{ranged}
use Rattle.files.specs.ReadDomain.{Read, FitsDomain}
use Rattle.tables.specs.filling.Entries.{Entries, Room}
use Rattle.tables.specs.JudgingCall.{judged_domain, judged, tables_for}
use Rattle.tracing.specs.Trace.{Request, Traced, traced_request}
use Rattle.tracing.specs.RequestLists.{list_for}
use Rattle.forms.specs.Form.{form_of, form_in}

-- 6 at a phy
abbrev pub bad_phy : Phy → Bool
bad_phy (Vacant result) = false
bad_phy (Present f) = not (ranged f)

-- 3, 4 or 6 at expander i: phy count outside its range; address zero, or an earlier expander's; a phy out of range
unfoldable pub bad_unit : Setting → Domain → ℕ → Bool
bad_unit most d i =
    not (within most.phys (length (expander_at d i).phys))
    || (eqb (expander_at d i).address 0
    || (not (eqb (number_of d (expander_at d i).address) i) || any bad_phy (expander_at d i).phys))

-- 3, 4 or 6 somewhere
unfoldable pub unread : Setting → Domain → Bool
unread most d = not (within most.expanders (length d)) || any (bad_unit most d) (up_to (length d))

abbrev pub is_good : {A : Type 0} → Result A → Bool
is_good (refused r) = false
is_good (good a) = true

abbrev pub same_words : List ℕ → List ℕ → Bool
same_words [] [] = true
same_words [] (x ∷ l) = false
same_words (x ∷ l) [] = false
same_words (x ∷ l) (y ∷ m) = eqb x y && same_words l m

-- what the words read as is accepted, and has these words as its form
unfoldable pub formed : Setting → List ℕ → Bool
formed most ws = not (unread most (form_in ws)) && (same_words (form_of (form_in ws)) ws && is_good (judged_domain most.chain (form_in ws)))

-- 22, then 1 where the words are the form of no accepted domain: `formed_iff` (proofs/AcceptedForms)
unfoldable pub form_read : Setting → List ℕ → Result Domain
form_read most ws = unless (in_range most) (refusal 22 0 0) (unless (formed most ws) (refusal 1 0 0) (good (form_in ws)))

-- an accepted domain under this setting, of numbers that a file has room for, has these words as its form
pub record FormOf (most : Setting) (ws : List ℕ) : Type 0 where
  pub domain : Domain
  pub read : Read most domain
  pub fits : FitsDomain domain
  pub accepted : judged_domain most.chain domain ≡ good domain
  pub words : form_of domain ≡ ws

-- 64-bit words
abbrev pub Words : List ℕ → Type 0
Words ws = (k : ℕ) → get_or ws k 0 < 2 ^ 64

-- making a form in so many words: the causes of judging, then 16
abbrev pub form_for : ℕ → Domain → Result Domain
form_for room d = unless (leb (length (form_of d)) room) (refusal 16 0 0) (good d)

unfoldable pub form_call : Setting → List ℕ → ℕ → Result Domain
form_call setting file room = then (judged setting file) (form_for room)

-- tables over a form: 22, 1, then 16 and 18
unfoldable pub form_tables : Setting → List ℕ → Room → Result Domain
form_tables setting ws room = then (form_read setting ws) (tables_for room)

-- a trace over a form: 22, 1, then 15, 16, 18 and 17
unfoldable pub form_trace : Setting → List ℕ → Entries → ℕ → Request → Result Traced
form_trace setting ws t bytes q = then (form_read setting ws) (λ d. traced_request d t bytes q)

-- a list of requests over a form: 22, 1, then 16 and 18; so many words for answers, and so many requests
unfoldable pub form_list : Setting → List ℕ → Room → ℕ → ℕ → Result Domain
form_list setting ws room answers count = then (form_read setting ws) (list_for room answers count)
