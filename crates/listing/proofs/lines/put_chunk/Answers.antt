-- Meets: the lines from the cursor on are put, up to the first that finds no room or no word, and the cursor that remains
-- stands at its entry. The loop keeps what is left to put, and where that ends (`Putting`).
use Prim.Native.Nat.{ℕ, ◌+◌, ◌<◌}
use mathlib.Core.Path.{sym, ◌∙◌, ap, subst}
use native.Mathlib.Omega.{arith}
use mathlib.Core.List.{List}
use lib.ListN.{get_or}
use Rattle.tables.specs.WiringDefinitions.{Domain, domain_in}
use Rattle.listing.specs.declared.Cursor.{Cursor}
use Rattle.listing.specs.Lines.{Entry, entry, entries_on, entries_from, cursor, cursor_at}
use Rattle.listing.proofs.Cursors.{left, index-less, moved, entry_here, entries-past}
use Rattle.listing.proofs.Chunks.{putting_start, putting_line, putting_end, putting_same, fit_full, lines_end, entries-end}
use Rattle.listing.proofs.Digits.{line_short}
use Rattle.listing.proofs.lines.put_chunk.Goals as goal

pub loop-at-init : goal.loop-at-init
loop-at-init c = (omega arith, (c.expander_count-n.ensures.0, putting_start _))

pub loop-at-smaller-then-at-entry_count : goal.loop-at-smaller-then-at-entry_count
loop-at-smaller-then-at-entry_count c =
    let at-args = c.args in
    let d : Domain = domain_in at-args.rows.now in
    let at : Cursor = c.loop-at.at in
    let s = c.entry_count.ensures in
    (moved d at _ c.next_place-at.ensures (omega arith) (omega (arith, c.loop-at.invariant.1.0)) (omega arith) (omega arith)).less

pub loop-at-preserved-then-at-entry_count : goal.loop-at-preserved-then-at-entry_count
loop-at-preserved-then-at-entry_count c =
    let at-args = c.args in
    let d : Domain = domain_in at-args.rows.now in
    let at : Cursor = c.loop-at.at in
    let s = c.entry_count.ensures in
    let m = moved d at _ c.next_place-at.ensures (omega arith) (omega (arith, c.loop-at.invariant.1.0)) (omega arith) (omega arith) in
    (c.loop-at.invariant.0, (c.loop-at.invariant.1.0, putting_same _ (sym m.entries) (sym m.word) c.loop-at.invariant.1.1))

pub returns-then-w-words : goal.returns-then-w-words
returns-then-w-words c =
    let at-args = c.args in
    let d : Domain = domain_in at-args.rows.now in
    let at : Cursor = c.loop-at.at in
    let s = c.entry_count.ensures in
    let e = entry_here d at.expander.0 at.phy.0 at.index.0 (omega arith) in
    let z = c.loop-at.invariant.1.1.text.same in
    putting_end c.loop-at.invariant.1.1 at (sym (ap (λ (es : List Entry). cursor_at d es at.word) e)) (lines_end c.loop-at.end (entries_from d at) at-args.words.now at.word (omega arith)) (omega arith)

pub returns-then-end-gt65456 : goal.returns-then-end-gt65456
returns-then-end-gt65456 c =
    let at-args = c.args in
    let d : Domain = domain_in at-args.rows.now in
    let at : Cursor = c.loop-at.at in
    let s = c.entry_count.ensures in
    let e = entry_here d at.expander.0 at.phy.0 at.index.0 (omega arith) in
    let z = c.loop-at.invariant.1.1.text.same in
    putting_end c.loop-at.invariant.1.1 at (sym (ap (λ (es : List Entry). cursor_at d es at.word) e)) (fit_full c.loop-at.end _ (omega arith)) (omega arith)

pub put_line_at-end-requires : goal.put_line_at-end-requires
put_line_at-end-requires c =
    let z = c.loop-at.invariant.1.1.text.same in
    omega arith

pub next_index-at-requires : goal.next_index-at-requires
next_index-at-requires c =
    let s = c.entry_count.ensures in
    record { index_bound = omega arith; word_bound = omega arith }

pub loop-at-smaller : goal.loop-at-smaller
loop-at-smaller c =
    let at-args = c.args in
    let d : Domain = domain_in at-args.rows.now in
    let at : Cursor = c.loop-at.at in
    subst (λ (x : Cursor). left d x < left d at) (sym c.next_index-at.ensures) (index-less d at (at.word + 1) (omega arith))

pub loop-at-preserved : goal.loop-at-preserved
loop-at-preserved c =
    let at-args = c.args in
    let d : Domain = domain_in at-args.rows.now in
    let at : Cursor = c.loop-at.at in
    let s = c.entry_count.ensures in
    let e = entry_here d at.expander.0 at.phy.0 at.index.0 (omega arith) in
    let f = sym c.next_index-at.ensures in
    let u = c.put_line_at-end.ensures in
    let z = c.loop-at.invariant.1.1.text.same in
    let g = putting_line _ c.loop-at.invariant.1.1 (entry at.expander.0 at.phy.0 at.index.0) (entries_on d at.expander.0 at.phy.0 (at.index.0 + 1)) e
    (omega arith) (omega arith) u in
    let h = line_short at.expander.0 at.phy.0 at.index.0 (get_or at-args.words.now at.word 0) in
    (omega (arith, u.next, u.same), (c.loop-at.invariant.1.0, putting_same _ (ap (entries_from d) f) (ap (λ (x : Cursor). x.word) f) g))

pub returns : goal.returns
returns c =
    let at-args = c.args in
    let d : Domain = domain_in at-args.rows.now in
    let at : Cursor = c.loop-at.at in
    let n = c.loop-at.invariant.1.0 in
    let e = entries-past d at.expander.0 at.phy.0 at.index.0 (omega arith) in
    let z = c.loop-at.invariant.1.1.text.same in
    putting_end c.loop-at.invariant.1.1 _ (ap (λ (x : ℕ). cursor x 0 0 at.word) n ∙ sym (ap (λ (es : List Entry). cursor_at d es at.word) e))
    (entries-end c.loop-at.end (entries_from d at) _ e) (omega arith)
