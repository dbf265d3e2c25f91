-- copy_own meets its contract: the cell of expander i has the length of its own list, and then the list.
use Prim.Native.Nat.{ℕ, ◌+◌, ◌-◌, ◌*◌, ◌<◌}
use mathlib.Core.List.{List, ◌++◌, append-nil}
use mathlib.Core.Path.{◌≡◌, ◌∙◌, ap}
use native.Mathlib.Omega.{arith}
use lib.ListN.{length, get_or, take, drop}
use Rattle.files.specs.Domain.{Domain}
use Rattle.files.specs.Rows.{domain_in}
use Rattle.tables.specs.lists.OwnLists.{own_words}
use Rattle.tables.specs.lists.PreparedLists.{OwnListsHeld, own_list_words}
use Rattle.tables.proofs.lists.GrowingLists.{grown-kept}
use Rattle.tables.proofs.lists.OwnListLoops.{own_count_lem, own_list, own_none}
use Rattle.tables.proofs.filling.WordsChanged.{replaced-none}
use Rattle.tables.proofs.filling.table_filling.copy_own.Goals as goal

-- expander i's own list as a part of the lent words
part-own : (d : Domain) (words : List ℕ) → OwnListsHeld d words → (i : ℕ) → i < length d
    → take (own_list_words * i + 1 + get_or words (own_list_words * i) 0 - (own_list_words * i + 1)) (drop (own_list_words * i + 1) words) ≡ own_words d i
part-own d words held i h =
    let k : own_list_words * i + 1 + get_or words (own_list_words * i) 0 - (own_list_words * i + 1) ≡ length (own_words d i) = omega (arith, own_count_lem d words held i h) in
    ap (λ (m : ℕ). take m (drop (own_list_words * i + 1) words)) k ∙ own_list d words held i h

pub returns-then-i-expander_count : goal.returns-then-i-expander_count
returns-then-i-expander_count c =
    let at-args = c.args in
    (grown-kept at-args.s.at at-args.part.now (ap (λ (m : List ℕ). take at-args.s.at at-args.part.now ++ m) (own_none (domain_in at-args.d.now.levels.attached.rows.now) at-args.i.0 (omega (arith, c.expander_count.ensures.0))) ∙ append-nil (take at-args.s.at at-args.part.now)) (omega arith), replaced-none at-args.s at-args.part.now)
