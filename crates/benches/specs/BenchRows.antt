-- The joined domain in rows: both domains one after the other, with two phys replaced, and what its judging tests: 4, then causes 7 to 12, 23 and 14.
use Rattle.std.specs.Prelude.{ℕ, zero, suc, ◌+◌, cond, List, [], ◌++◌, length, eqb, leb}
use Rattle.frames.specs.Refusals.{Result, refused, good, unless, then, refusal}
use Rattle.files.specs.declared.Setting.{Setting}
use Rattle.files.specs.Domain.{Domain, expander_at, number_of}
use Rattle.files.specs.File.{domain_read}
use Rattle.files.specs.PhyReplaced.{set_phy}
use Rattle.tables.specs.JudgingCall.{judged_domain}
use Rattle.tables.specs.lists.PreparedLists.{judged_in}
use Rattle.benches.specs.Joined.{cabled_to}

-- the domain that a file reads as; no expander where it is refused
abbrev pub read_as : Result Domain → Domain
read_as (refused r) = []
read_as (good d) = d

-- the first file's expanders, then the second's
abbrev pub both_read : Setting → List ℕ → List ℕ → Domain
both_read setting first second = read_as (domain_read setting first) ++ read_as (domain_read setting second)

-- the cable between phy p of expander i and phy q of the expander that comes j after the first n, written at both ends
unfoldable pub cabled : Domain → ℕ → ℕ → ℕ → ℕ → ℕ → Domain
cabled d n i p j q =
    set_phy (set_phy d i p (cabled_to (expander_at d (n + j)).address q)) (n + j) q (cabled_to (expander_at d i).address p)

-- the lowest expander from k on, of so many, that has the address of one before it; k and so many where there is none
unfoldable pub repeated_from : Domain → ℕ → ℕ → ℕ
repeated_from d zero k = k
repeated_from d (suc count) k = cond (eqb (number_of d (expander_at d k).address) k) (repeated_from d count (k + 1)) k

-- the lowest expander that has the address of one before it; the count of expanders where there is none
abbrev pub repeated : Domain → ℕ
repeated d = repeated_from d (length d) 0

-- 4, as a file's reader tests it: an address that an expander before it has
unfoldable pub differing : Domain → Result Domain
differing d = unless (leb (length d) (repeated d)) (refusal 4 (repeated d) 0) (good d)

-- 4, then causes 7 to 12, 23 and 14: of the joined domain, what judging the joined file tests of it (`rows-judged`, proofs/JoinedReads)
abbrev pub judged_apart : ℕ → Domain → Result Domain
judged_apart chain d = then (differing d) (judged_domain chain)

-- 4, then judging with 14 by own lists, and room for entries of so many slots and phys
abbrev pub apart_in : ℕ → ℕ → ℕ → Domain → Result Domain
apart_in chain who low d = then (differing d) (judged_in chain who low)

-- what a judgement says, without the domain
abbrev pub check_of : Result Domain → Result Unit
check_of (refused r) = refused r
check_of (good d) = (good tt)
