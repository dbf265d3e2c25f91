-- The searches for the entry that a word of the tables is, turn by turn, and what a survey of a file says.
use Prim.Native.Nat.{ℕ, ◌+◌, ◌-◌, ◌≤◌, ◌<◌}
use mathlib.Core.Path.{◌≡◌, sym, ◌∙◌, ap}
use mathlib.Core.List.{List, ◌∷◌, ◌++◌}
use lib.ListN.{length, drop}
use borrow.Author.Tests.{lt-ltb, le-ltb}
use Rattle.wiring.specs.FrameDefinitions.{Refusal, Result, refused, good, then, refusal}
use Rattle.files.specs.Domain.{Domain}
use Rattle.files.specs.declared.Setting.{Setting}
use Rattle.files.specs.File.{domain_read}
use Rattle.wiring.specs.phys.PhyCauses.{Place, place, phy_places, places_from}
use Rattle.tables.specs.filling.Tables.{size}
use Rattle.tables.specs.JudgingCall.{judged_domain, judged}
use Rattle.surveys.specs.WordEntries.{entry, word_in, sought_in, SoughtAt, survey_in}
use Rattle.surveys.specs.declared.Entry.{Entry}
use Rattle.std.specs.declared.result.Result.{Result as Search}
use Rattle.tables.proofs.filling.TablesPut.{phys-next, phys-last, from_next, from_last}

module _ (d : Domain) where
  -- a word of the first table, and one after it
  pub word-here : (q : Place) (qs : List Place) (k : ℕ) → k < size d q → word_in d (q ∷ qs) k ≡ good (entry q.expander q.phy k)
  unfolding word_in
  word-here q qs k h = rw (lt-ltb k (size d q) h)

  pub word-past : (q : Place) (qs : List Place) (k : ℕ) → size d q ≤ k → word_in d (q ∷ qs) k ≡ word_in d qs (k - size d q)
  unfolding word_in
  word-past q qs k h = rw (le-ltb k (size d q) h)

  -- the search through the phys of expander i, from phy p on: `inv` is the loop's invariant
  module _ (i n p left : ℕ) (after : List Place) {v : Result Entry} (inv : word_in d (phy_places i p (n - p) ++ after) left ≡ v) where
    pub seek_stop : left < size d (place i p) → p < n → v ≡ good (entry i p left)
    seek_stop h g = sym inv ∙ ap (λ l. word_in d (l ++ after) left) (phys-next i n p g) ∙ word-here (place i p) _ left h

    pub seek_go : size d (place i p) ≤ left → p < n → word_in d (phy_places i (p + 1) (n - (p + 1)) ++ after) (left - size d (place i p)) ≡ v
    seek_go h g = sym (ap (λ l. word_in d (l ++ after) left) (phys-next i n p g) ∙ word-past (place i p) _ left h) ∙ inv

    pub seek_end : n ≤ p → v ≡ word_in d after left
    seek_end h = sym inv ∙ ap (λ l. word_in d (l ++ after) left) (phys-last i n p h)

  -- the search through the expanders, from expander i on
  module _ (i left : ℕ) {v : Result Entry} (inv : word_in d (places_from i (drop i d)) left ≡ v) where
    pub find-next : {r known : Search Entry ℕ} → r ≡ known → SoughtAt d i left r → i < length d → sought_in d (places_from (i + 1) (drop (i + 1) d)) known ≡ v
    find-next e s h = ap (sought_in d (places_from (i + 1) (drop (i + 1) d))) (sym e) ∙ sym (s (places_from (i + 1) (drop (i + 1) d))) ∙ sym (ap (λ l. word_in d l left) (from_next d i h)) ∙ inv

    pub find-end : length d ≤ i → refused (refusal 15 0 0) ≡ v
    unfolding word_in
    find-end h = sym (ap (λ l. word_in d l left) (from_last d i h)) ∙ inv

-- a survey: of a domain past its causes or not, of a file, and what it says of the counts and of the word
module _ (k : ℕ) where
  pub file-refused : (setting : Setting) (file : List ℕ) (r : Refusal) → domain_read setting file ≡ refused r → refused r ≡ then (judged setting file) (survey_in k)
  file-refused setting file r e = rw e

  pub file-done : (setting : Setting) (file : List ℕ) (d : Domain) (x : Result Domain) → domain_read setting file ≡ good d → x ≡ judged_domain setting.chain d
      → then x (survey_in k) ≡ then (judged setting file) (survey_in k)
  file-done setting file d x e q = rw (e, q)
