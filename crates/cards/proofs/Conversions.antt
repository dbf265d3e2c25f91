-- Card to file to card, and file to card to file, over what the calls promise; and of which domain a card is.
use Prim.Native.Nat.{ℕ}
use mathlib.Core.Path.{◌≡◌, refl, sym, ◌∙◌, ap}
use mathlib.Core.List.{List}
use lib.ListN.{length, take, drop}
use lib.Seq.{take_at}
use lib.Dec.{leb}
use Rattle.frames.specs.Refusals.{Result, refused, good, then, refusal, fitting}
use Rattle.files.specs.declared.Setting.{Setting}
use Rattle.files.specs.Domain.{Domain}
use Rattle.files.specs.ReadDomain.{Bytes, Read, FitsDomain}
use Rattle.files.specs.File.{domain_read}
use Rattle.files.proofs.ReadDomain.{read-good, read_fits}
use Rattle.files.proofs.CallResults.{never, good-one, unless-good, then-good}
use Rattle.cards.specs.Card.{card_of}
use Rattle.cards.specs.CardRead.{card_read}
use Rattle.cards.specs.FileOf.{file_of}
use Rattle.cards.specs.Calls.{card_for, card_call, file_for, file_call, MadeDone}
use Rattle.cards.proofs.CardRoundTrip.{card-back}
use Rattle.cards.proofs.CardDomain.{CardIs, card-is}
use Rattle.cards.proofs.FileRoundTrip.{file-of}
use Rattle.cards.proofs.ReadDomainsFit.{legal-read, legal-fits, read-legal}
use Rattle.cards.proofs.OtherSettings.{limited, limited-same, read-other, file-other, card-other}

-- the file of a domain that causes 22 and 1 to 6 leave, and that fits in bytes, reads as the domain, and so does its card
pub file-back : (setting : Setting) (d : Domain) → Read setting d → FitsDomain d → domain_read setting (file_of d) ≡ good d
file-back setting d g h = file-of setting d (read-legal setting d g h)

pub card-reads : (setting : Setting) (d : Domain) → Read setting d → FitsDomain d → card_read setting (card_of d) ≡ good d
card-reads setting d g h = card-back setting d (read-legal setting d g h)

-- a card that is accepted is the card of a domain that these causes leave, and of no other
pub record OneDomain (setting : Setting) (card : List ℕ) (d : Domain) : Type 0 where
  pub allowed : Read setting d
  pub fits : FitsDomain d
  pub card-is : card_of d ≡ card
  pub only : (e : Domain) → Read setting e → FitsDomain e → card_of e ≡ card → e ≡ d

pub one-domain : (setting : Setting) (card : List ℕ) (d : Domain) → Bytes card → card_read setting card ≡ good d → OneDomain setting card d
one-domain setting card d b q =
    let c = card-is setting card d b q in
    record {
      allowed = legal-read setting d c.legal;
      fits = legal-fits setting d c.legal;
      card-is = c.same;
      only = λ e g h s. good-one e d (sym (card-reads setting e g h) ∙ ap (card_read setting) s ∙ q);
    }

-- what was made stands at the front of the lent bytes
record MadeIs (outcome : Result (List ℕ)) (n : ℕ) (after : List ℕ) : Type 0 where
  new : List ℕ
  is : outcome ≡ good new
  front : take n after ≡ new

made-is : (outcome : Result (List ℕ)) (n : ℕ) (before after : List ℕ) → MadeDone outcome (good n) before after → MadeIs outcome n after
made-is (refused r) n before after m = never r n (sym m.answers)
made-is (good new) n before after m =
    let e : n ≡ length new = good-one n (length new) m.answers in
    record { new = new; is = refl; front = ap (take n) m.bytes ∙ take_at new (drop (length new) before) n (sym e) }

fitted-is : (room : ℕ) (made new : List ℕ) → fitting room made ≡ good new → made ≡ new
fitted-is room made new e = good-one made new (unless-good (leb (length made) room) (refusal 16 0 0) (good made) new e).1

card-made-is : (setting : Setting) (file : List ℕ) (room : ℕ) (new : List ℕ) → card_call setting file room ≡ good new → (d : Domain) × (domain_read setting file ≡ good d) × (card_of d ≡ new)
unfolding card_call
card-made-is setting file room new e = let t = then-good (domain_read setting file) (card_for room) new e in (t.0, t.1, fitted-is room (card_of t.0) new t.2)

file-made-is : (setting : Setting) (card : List ℕ) (room : ℕ) (new : List ℕ) → file_call setting card room ≡ good new → (d : Domain) × (card_read setting card ≡ good d) × (file_of d ≡ new)
unfolding file_call
file-made-is setting card room new e = let t = then-good (card_read setting card) (file_for room) new e in (t.0, t.1, fitted-is room (file_of t.0) new t.2)

-- a file that was made of a card
record FileMade (one : Setting) (card file : List ℕ) : Type 0 where
  domain : Domain
  read : card_read one card ≡ good domain
  is : file ≡ file_of domain

file-made : (one : Setting) (card before after : List ℕ) (n : ℕ) → MadeDone (file_call one card (length before)) (good n) before after → FileMade one card (take n after)
file-made one card before after n p =
    let x = made-is (file_call one card (length before)) n before after p in
    let f = file-made-is one card (length before) x.new x.is in
    record { domain = f.0; read = f.1; is = x.front ∙ sym f.2 }

-- a card that was made of a file
record CardMade (one : Setting) (file card : List ℕ) : Type 0 where
  domain : Domain
  read : domain_read one file ≡ good domain
  is : card ≡ card_of domain

card-made : (one : Setting) (file before after : List ℕ) (n : ℕ) → MadeDone (card_call one file (length before)) (good n) before after → CardMade one file (take n after)
card-made one file before after n p =
    let x = made-is (card_call one file (length before)) n before after p in
    let c = card-made-is one file (length before) x.new x.is in
    record { domain = c.0; read = c.1; is = x.front ∙ sym c.2 }

-- card to file to card: of the file that was made of a card the second call makes the same card, byte for byte, where it has room; under any other setting it
-- does so, too, where the card is read under it, and refuses as the card is refused
pub record CardBack (one : Setting) (card file : List ℕ) : Type 0 where
  pub same : (room : ℕ) → card_call one file room ≡ fitting room card
  pub others : (other : Setting) (room : ℕ) → card_call other file room ≡ then (card_read other card) (λ _. fitting room card)

pub card_back_under : (one : Setting) (card before after : List ℕ) (n : ℕ) → Bytes card → MadeDone (file_call one card (length before)) (good n) before after
    → CardBack one card (take n after)
unfolding card_call
card_back_under one card before after n b p = record { same = λ room. under one room ∙ ap (λ x. then x (λ _. fitting room card)) f.read; others = under }
  where
    f : FileMade one card (take n after)
    f = file-made one card before after n p

    c : CardIs one card f.domain
    c = card-is one card f.domain b f.read

    back : (room : ℕ) (x : Result Domain) → ((d : Domain) → x ≡ good d → f.domain ≡ d) → then x (card_for room) ≡ then x (λ _. fitting room card)
    back room (refused r) h = refl
    back room (good d) h = ap (λ y. fitting room (card_of y)) (sym (h d refl)) ∙ ap (fitting room) c.same

    under : (other : Setting) (room : ℕ) → card_call other (take n after) room ≡ then (card_read other card) (λ _. fitting room card)
    under other room =
        let k : domain_read other (take n after) ≡ limited other f.domain = ap (domain_read other) f.is ∙ file-other one other f.domain c.legal in
        let l : limited other f.domain ≡ card_read other card = sym (card-other one other f.domain c.legal) ∙ ap (card_read other) c.same in
        ap (λ x. then x (card_for room)) k ∙ back room (limited other f.domain) (limited-same other f.domain) ∙ ap (λ x. then x (λ _. fitting room card)) l

-- the same under one setting: where the first call made a file, the second makes the same card of it, byte for byte, where it has room
pub card-file-card : (setting : Setting) (card before after : List ℕ) (n room : ℕ) → Bytes card → MadeDone (file_call setting card (length before)) (good n) before after
    → card_call setting (take n after) room ≡ fitting room card
card-file-card setting card before after n room b p = (card_back_under setting card before after n b p).same room

-- the card that was made of a file under one setting reads under any other as the file does
card_as_file : (one other : Setting) (file before after : List ℕ) (n : ℕ) → Bytes file → MadeDone (card_call one file (length before)) (good n) before after
    → card_read other (take n after) ≡ domain_read other file
card_as_file one other file before after n b p =
    let c = card-made one file before after n p in
    let l = read-legal one c.domain (read-good one file c.domain c.read) (read_fits one file c.domain b c.read) in
    ap (card_read other) c.is ∙ card-other one other c.domain l ∙ sym (read-other one other file c.domain c.read)

-- file to card to file: of the card that was made of a file the second call, under any setting, makes the file of the domain that the first file is read as under
-- that setting, where it has room, and refuses as the first file is refused
pub file_back_under : (one other : Setting) (file before after : List ℕ) (n room : ℕ) → Bytes file → MadeDone (card_call one file (length before)) (good n) before after
    → file_call other (take n after) room ≡ then (domain_read other file) (file_for room)
unfolding file_call
file_back_under one other file before after n room b p = ap (λ x. then x (file_for room)) (card_as_file one other file before after n b p)

-- the same under one setting: where the first call made a card, the second makes of it the file of the first file's domain, where it has room
pub file-card-file : (setting : Setting) (file before after : List ℕ) (n room : ℕ) (d : Domain) → Bytes file → domain_read setting file ≡ good d
    → MadeDone (card_call setting file (length before)) (good n) before after → file_call setting (take n after) room ≡ fitting room (file_of d)
file-card-file setting file before after n room d b q p = file_back_under setting setting file before after n room b p ∙ ap (λ x. then x (file_for room)) q

-- both calls one after the other, each under its own setting: the file is that of the first file's domain, and reads as the first file under every setting
pub record ConvertedUnder (one back : Setting) (file other : List ℕ) : Type 0 where
  pub domain : Domain
  pub read : domain_read one file ≡ good domain
  pub read_back : domain_read back file ≡ good domain
  pub is : other ≡ file_of domain
  pub reads : (setting : Setting) → domain_read setting other ≡ domain_read setting file

pub converted_under : (one back : Setting) (file before after before' after' : List ℕ) (n m : ℕ) → Bytes file
    → MadeDone (card_call one file (length before)) (good n) before after → MadeDone (file_call back (take n after) (length before')) (good m) before' after'
    → ConvertedUnder one back file (take m after')
converted_under one back file before after before' after' n m b p q =
    let c = card-made one file before after n p in
    let d : Domain = c.domain in
    let f = file-made back (take n after) before' after' m q in
    let r : domain_read back file ≡ good f.domain = sym (card_as_file one back file before after n b p) ∙ f.read in
    let z : d ≡ f.domain = limited-same back d f.domain (sym (read-other one back file d c.read) ∙ r) in
    let i : take m after' ≡ file_of d = f.is ∙ ap file_of (sym z) in
    let l = read-legal one d (read-good one file d c.read) (read_fits one file d b c.read) in
    record {
      domain = d;
      read = c.read;
      read_back = r ∙ ap good (sym z);
      is = i;
      reads = λ setting. ap (domain_read setting) i ∙ file-other one setting d l ∙ sym (read-other one setting file d c.read);
    }

-- the same under one setting
pub record Converted (setting : Setting) (file other : List ℕ) : Type 0 where
  pub domain : Domain
  pub read : domain_read setting file ≡ good domain
  pub is : other ≡ file_of domain
  pub reads : domain_read setting other ≡ domain_read setting file

pub converted : (setting : Setting) (file before after before' after' : List ℕ) (n m : ℕ) → Bytes file
    → MadeDone (card_call setting file (length before)) (good n) before after → MadeDone (file_call setting (take n after) (length before')) (good m) before' after'
    → Converted setting file (take m after')
converted setting file before after before' after' n m b p q =
    let c = converted_under setting setting file before after before' after' n m b p q in
    record { domain = c.domain; read = c.read; is = c.is; reads = c.reads setting }
