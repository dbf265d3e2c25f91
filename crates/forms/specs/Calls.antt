-- What making a form promises.
use Rattle.std.specs.Prelude.{ℕ, ◌≡◌, List, ◌++◌, length, drop}
use Rattle.frames.specs.Refusals.{Result, refused, good, then}
use Rattle.files.specs.Domain.{Domain}
use Rattle.tracing.specs.RequestLists.{request_count}
use Rattle.forms.specs.declared.FormCounts.{FormCounts}
use Rattle.forms.specs.Form.{form_of}

-- what making a form answers: the number of expanders and of words
abbrev pub form_counts : Domain → Result FormCounts
form_counts d = good (record { expander_count = length d; word_count = length (form_of d) })

-- what a list of requests answers: how many there are
abbrev pub requests_in : List ℕ → Domain → Result ℕ
requests_in requests d = good (request_count requests)

-- the words after the call: the form, and the words after it as they were; all as they were where refused
abbrev pub form_after : Result Domain → List ℕ → List ℕ
form_after (refused r) before = before
form_after (good d) before = form_of d ++ drop (length (form_of d)) before

-- all that making a form with this outcome promises: the answer, and the words after
pub record FormDone (outcome : Result Domain) (answer : Result FormCounts) (before after : List ℕ) : Type 0 where
  pub answers : answer ≡ then outcome form_counts
  pub words : after ≡ form_after outcome before
