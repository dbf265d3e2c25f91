-- Many requests over one domain, as words: two for each request, start * 256 + arrival phy and then the address; one for each answer.
use Rattle.std.specs.Prelude.{ℕ, ◌/◌, ◌%◌, ◌≤◌, ◌≡◌, ◌&&◌, List, [], ◌∷◌, ◌++◌, length, drop, ltb, leb}
use Rattle.tables.specs.WiringDefinitions.{bytes_for, Result, refused, good, unless, then, refusal, Domain}
use Rattle.tables.specs.filling.Tables.{needed}
use Rattle.tables.specs.filling.Entries.{Entries, Room, Enough}
use Rattle.tables.specs.lists.PreparedLists.{judged_in}
use Rattle.tracing.specs.Trace.{Traced, request, traced_request, report}
use Rattle.tracing.specs.Packing.{packed, end_packed}

-- one request of the list: 15 where its first word has a bit above start and arrival phy; else as by itself, with 64 bytes of its own
abbrev pub one_traced : Domain → Entries → ℕ → ℕ → Result Traced
one_traced d t w s = unless (ltb w 65536) (refusal 15 0 0) (traced_request d t 64 (request (w / 256) (w % 256) s))

-- its answer
abbrev pub one_answer : Domain → Entries → ℕ → ℕ → ℕ
one_answer d t w s = packed end_packed (then (one_traced d t w s) report)

-- the answers to all requests; an odd last word is no request
unfoldable pub answers_of : Domain → Entries → List ℕ → List ℕ
answers_of d t [] = []
answers_of d t (w ∷ []) = []
answers_of d t (w ∷ s ∷ ws) = one_answer d t w s ∷ answers_of d t ws

abbrev pub request_count : List ℕ → ℕ
request_count requests = length requests / 2

-- 16 where the table words or the words for answers are too few, then 18: an accepted domain, so much room for table entries, so many words for
-- answers, and so many requests
abbrev pub list_for : Room → ℕ → ℕ → Domain → Result Domain
list_for room answers count d =
    unless (leb (needed d) room.words && leb count answers) (refusal 16 0 0)
    (unless (leb (bytes_for (needed d)) room.bits) (refusal 18 0 0)
    (good d))

-- the call on a list of requests with 14 by own lists, and 16 where there is no room for entries of so many slots and phys
unfoldable pub list_in : ℕ → ℕ → ℕ → Domain → Room → ℕ → ℕ → Result Domain
list_in chain first low d room answers count = then (judged_in chain first low d) (list_for room answers count)

-- the words after the call: the answers, and the rest as it was; all as it was where refused
abbrev pub list_after : Result Domain → Entries → List ℕ → List ℕ → List ℕ
list_after (refused r) t requests before = before
list_after (good d) t requests before = answers_of d t requests ++ drop (request_count requests) before

-- all that a list of requests with this outcome promises: the answer, and the words after
pub record ListTraced (outcome : Result Domain) (t : Entries) (requests : List ℕ) (answer : Result ℕ) (before after : List ℕ) : Type 0 where
  pub answers : answer ≡ then outcome (λ d. good (request_count requests))
  pub words : after ≡ list_after outcome t requests before

-- tracing one request of a list: room for the tables and for the expanders passed
abbrev pub RequestReady : Domain → Room → List ℕ → Type 0
RequestReady d room passed = Enough (needed d) room × (length d ≤ length passed)
