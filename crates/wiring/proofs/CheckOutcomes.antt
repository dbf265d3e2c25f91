-- The outcomes of the checks in order, and of the wiring call.
use Prim.Native.Nat.{ℕ, ◌*◌, ◌/◌, ◌%◌, ◌≤◌, ◌<◌}
use mathlib.Core.Path.{◌≡◌, refl}
use mathlib.Core.Bool.{true, false, ◌&&◌}
use mathlib.Core.List.{List, ◌++◌}
use lib.ListN.{length}
use lib.Dec.{leb, leb→le}
use borrow.Author.Tests.{le-leb, lt-leb}
use Rattle.frames.specs.Refusals.{Result, refused, good, then, refusal}
use Rattle.frames.specs.declared.Refusal.{Refusal}
use Rattle.files.specs.declared.Setting.{Setting}
use Rattle.files.specs.Lists.{up_to}
use Rattle.files.specs.Domain.{Domain}
use Rattle.wiring.specs.phys.PhyCauses.{wired_domain}
use Rattle.wiring.specs.graph.Graph.{strip, loopfree}
use Rattle.wiring.specs.graph.Neighbours.{neighbours, neighbour_word, neighbour_words, words_for, wiring_call, WiringDone}
use Rattle.files.specs.File.{domain_read}
use Rattle.wiring.specs.graph.LinkCauses.{unlooped, joined_in, linked_domain, checked_domain}
use Rattle.wiring.specs.graph.LongChains.{chains_within, unlong}
use Rattle.wiring.specs.index.AddressIndex.{slots_before, IndexRoom}
use Rattle.wiring.specs.phys.Checks.{checked_in}
use Rattle.wiring.specs.graph.Rounds.{NeighbourWordsHeld}
use Rattle.files.proofs.ListMembers.{tests, is_false}
use Rattle.files.proofs.CallResults.{unless-good}
use Rattle.wiring.proofs.graph.NeighbourWords.{each-held}

-- the neighbour words at the front of lent words
pub words-held : (d : Domain) (words rest : List ℕ) → words ≡ neighbour_words d ++ rest → NeighbourWordsHeld d words
unfolding neighbour_words
words-held d words rest e = each-held (neighbour_word d) (length d) words rest e

module _ (chain : ℕ) (d : Domain) where
  -- causes 11, 12 and 23
  pub links_loop : loopfree (length d) (neighbours d) ≡ false → linked_domain chain d ≡ refused (refusal 11 0 0)
  unfolding linked_domain unlooped
  links_loop q = rw q

  pub links-joined : (x : Result Domain) → loopfree (length d) (neighbours d) ≡ true → joined_in (up_to (length d)) d ≡ x
      → linked_domain chain d ≡ then x (λ _. unlong chain d)
  unfolding linked_domain unlooped
  links-joined x q e = rw (q, e)

  -- cause 23, where n are left after the rounds
  pub chains_few : length d ≤ chain → unlong chain d ≡ good d
  unfolding unlong chains_within
  chains_few h = rw (le-leb (length d) chain h)

  module _ (n : ℕ) (e : n ≡ length (strip (length d) (neighbours d) (chain / 2) (up_to (length d)))) (h : chain < length d) where
    pub chains_long : chain % 2 < n → unlong chain d ≡ refused (refusal 23 0 0)
    unfolding unlong chains_within
    chains_long k = rw (lt-leb (length d) chain h, ← e, lt-leb n (chain % 2) k)

    pub chains_short : n ≤ chain % 2 → unlong chain d ≡ good d
    unfolding unlong chains_within
    chains_short k = rw (lt-leb (length d) chain h, ← e, le-leb n (chain % 2) k)

  -- causes 7 to 12 and 23
  pub checked_by : (x : Result Domain) → wired_domain d ≡ x → checked_domain chain d ≡ then x (λ _. linked_domain chain d)
  unfolding checked_domain
  checked_by x e = rw e

  -- with room for the entries, or without
  pub checked_short : (first low : ℕ) → (slots_before (length d) ≤ first → 128 * length d ≤ low → ⊥) → checked_in chain first low d ≡ refused (refusal 16 0 0)
  unfolding checked_in
  checked_short first low n =
      rw (is_false (leb (slots_before (length d)) first && leb (128 * length d) low) (λ t. n (search (tests, leb→le)) (search (tests, leb→le))))

  pub checked_room : (first low : ℕ) → slots_before (length d) ≤ first → 128 * length d ≤ low → checked_in chain first low d ≡ checked_domain chain d
  unfolding checked_in
  checked_room first low a b = rw (le-leb (slots_before (length d)) first a, le-leb (128 * length d) low b)

  pub room_checked : (first low : List ℕ) (x : Domain) → checked_in chain (length first) (length low) d ≡ good x → IndexRoom d first low
  unfolding checked_in
  room_checked first low x e =
      let t = (unless-good (leb (slots_before (length d)) (length first) && leb (128 * length d) (length low)) _ _ x e).0 in
      record { slots = leb→le (slots_before (length d)) (length first) (search tests); phys = leb→le (128 * length d) (length low) (search tests) }

-- the wiring call on a file
pub wire-refused : (setting : Setting) (file before : List ℕ) (r : Refusal) → domain_read setting file ≡ refused r → WiringDone (wiring_call setting file (length before)) (refused r) before before
unfolding wiring_call
wire-refused setting file before r e = rw e (record { answers = refl; words = refl })

pub wire-done : (setting : Setting) (file before after : List ℕ) (d : Domain) (answer : Result ℕ) → domain_read setting file ≡ good d
    → WiringDone (then (wired_domain d) (words_for (length before))) answer before after → WiringDone (wiring_call setting file (length before)) answer before after
unfolding wiring_call
wire-done setting file before after d answer e w = rw e w
