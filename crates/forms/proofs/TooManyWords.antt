-- More words than any form has are refused as no words are.
use Prim.Native.Nat.{ℕ, zero, suc, ◌+◌, ◌*◌, ◌≤◌, ◌<◌}
use mathlib.Core.Path.{◌≡◌, refl, sym, ap, subst, ◌∙◌}
use mathlib.Core.Bool.{Bool, true, false, not, ◌&&◌}
use mathlib.Core.List.{List, [], ◌∷◌}
use native.Mathlib.Omega.{arith}
use lib.ListN.{length, drop, length-append}
use Rattle.frames.specs.Refusals.{Result, good, unless, then, refusal}
use Rattle.files.specs.declared.Setting.{Setting}
use Rattle.files.specs.Settings.{in_range}
use Rattle.files.specs.Domain.{Domain}
use Rattle.files.proofs.ListMembers.{by-test}
use Rattle.files.specs.Rows.{row_words, most_row_words}
use Rattle.tables.specs.filling.Entries.{Entries, Room}
use Rattle.tables.specs.JudgingCall.{judged_domain, tables_for, TablesDone}
use Rattle.tracing.specs.Trace.{Request, traced_request, TraceDone}
use Rattle.tracing.specs.RequestLists.{list_for, ListTraced}
use Rattle.tables.specs.declared.Counted.{Counted}
use Rattle.tracing.specs.declared.End.{End}
use Rattle.forms.specs.Form.{form_phys, form_expanders, form_of, count_in, expander_back, expanders_back, form_in}
use Rattle.forms.specs.FormCalls.{unread, is_good, same_words, formed, form_read, form_tables, form_trace, form_list}
use Rattle.forms.proofs.FormRows.{length-phys_back}
use Rattle.forms.proofs.FormWords.{length-form_phys}
use Rattle.forms.proofs.RightWords.{same-words}

phys-few : (ws : List ℕ) → length (expander_back ws).phys ≤ 128
unfolding expander_back
phys-few ws = omega (arith, length-phys_back (count_in ws) (drop 2 ws))

size_few : (d : Domain) (m : ℕ) (ws : List ℕ) → length (form_expanders d (expanders_back m ws)) ≤ row_words * m
unfolding form_expanders expanders_back
size_few d zero ws = omega arith
size_few d (suc m) [] = omega arith
size_few d (suc m) (w ∷ ws) =
    let more : List ℕ = drop (2 + 2 * count_in (w ∷ ws)) (w ∷ ws) in
    omega (arith, phys-few (w ∷ ws), size_few d m more, length-form_phys d (expander_back (w ∷ ws)).phys, length-append (form_phys d (expander_back (w ∷ ws)).phys) (form_expanders d (expanders_back m more)))

form-few-words : (ws : List ℕ) → length (form_of (form_in ws)) ≤ most_row_words
unfolding form_of form_in
form-few-words ws = omega (arith, size_few (expanders_back 64 ws) 64 ws)

none-formed : (most : Setting) → formed most [] ≡ false
unfolding formed unread form_in expanders_back
none-formed most = refl

long-formed : (most : Setting) (ws : List ℕ) → most_row_words < length ws → formed most ws ≡ false
unfolding formed
long-formed most ws h =
    let s : same_words (form_of (form_in ws)) ws ≡ false =
    by-test (same_words (form_of (form_in ws)) ws) (λ t. absurd (omega (arith, form-few-words ws, ap length (same-words (form_of (form_in ws)) ws t)))) (λ e. e) in
    ap (λ (b : Bool). not (unread most (form_in ws)) && (b && is_good (judged_domain most.chain (form_in ws)))) s ∙ go (not (unread most (form_in ws)))
  where
    go : (b : Bool) → (b && (false && is_good (judged_domain most.chain (form_in ws)))) ≡ false
    go true = refl
    go false = refl

module _ (most : Setting) (ws : List ℕ) (h : most_row_words < length ws) where
  long-read : form_read most ws ≡ form_read most []
  unfolding form_read
  long-read =
      ap (unless (in_range most) (refusal 22 0 0))
      (ap (λ (b : Bool). unless b (refusal 1 0 0) (good (form_in ws))) (long-formed most ws h) ∙ sym (ap (λ (b : Bool). unless b (refusal 1 0 0) (good (form_in []))) (none-formed most)))

  pub trace-cut : (t : Entries) (bytes : ℕ) (q : Request) (answer : Result End) (before after : List ℕ) → TraceDone (form_trace most [] t bytes q) answer before after → TraceDone (form_trace most ws t bytes q) answer before after
  unfolding form_trace
  trace-cut t bytes q answer before after o = subst (λ (x : Result Domain). TraceDone (then x (λ d. traced_request d t bytes q)) answer before after) (sym long-read) o

  pub tables-cut : (room : Room) (answer : Result Counted) (before after : Entries) → TablesDone (form_tables most [] room) answer before after → TablesDone (form_tables most ws room) answer before after
  unfolding form_tables
  tables-cut room answer before after o = subst (λ (x : Result Domain). TablesDone (then x (tables_for room)) answer before after) (sym long-read) o

  pub list-cut : (room : Room) (answers count : ℕ) (t : Entries) (requests : List ℕ) (answer : Result ℕ) (before after : List ℕ) → ListTraced (form_list most [] room answers count) t requests answer before after
      → ListTraced (form_list most ws room answers count) t requests answer before after
  unfolding form_list
  list-cut room answers count t requests answer before after o = subst (λ (x : Result Domain). ListTraced (then x (list_for room answers count)) t requests answer before after) (sym long-read) o
