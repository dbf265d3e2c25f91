-- When the readers and the writer of frames answer, and with which numbers they refuse.
use Prim.Native.Nat.{ℕ, ◌≤◌}
use mathlib.Core.Path.{◌≡◌, refl, sym, subst}
use mathlib.Core.Logic.{◌⊎◌, inl, inr, ⊎_elim}
use mathlib.Core.Bool.{Bool, true, false, cond, ◌||◌}
use mathlib.Core.List.{List}
use native.Mathlib.Omega.{arith}
use lib.ListN.{length}
use lib.Dec.{T, eqb, leb, eqb→eq, eqb_refl, leb→le, le→leb}
use Rattle.frames.specs.declared.Refusal.{Refusal}
use Rattle.frames.specs.declared.Route.{Route}
use Rattle.frames.specs.declared.General.{General}
use Rattle.frames.specs.declared.Response.{Response}
use Rattle.frames.specs.declared.Response.TheVariants.{ReportGeneral, Discover}
use Rattle.frames.specs.Bytes.{byte}
use Rattle.frames.specs.Refusals.{Result, refused, good, unless, then, refusal}
use Rattle.frames.specs.RefusesExactly.{RefusesExactly}
use Rattle.frames.specs.Sizes.{short_size, long_size, long_length, Sized, frame_size, by_itself}
use Rattle.frames.specs.ReportGeneral.{general_fixed, general_in, general_read, general_read_sas2}
use Rattle.frames.specs.declared.GeneralSas2.{GeneralSas2}
use Rattle.frames.specs.Discovery.{discover_fixed, discover_in, discover_read}
use Rattle.frames.specs.declared.Discovered.{Discovered}
use Rattle.frames.specs.ConfigureRoute.{is_length, route_fixed, route_written, write_answer, route_read}

-- where it is a refusal, its number is one of N; where it is good, P holds of what it yields
module _ {A : Type 0} (N : ℕ → Type 0) where
  abbrev pub ResultHolds : (A → Type 0) → Result A → Type 0
  ResultHolds P (refused r) = N r.number
  ResultHolds P (good a) = P a

  pub unless_holds : (P : A → Type 0) (b : Bool) (r : Refusal) (x : Result A) → N r.number → (b ≡ true → ResultHolds P x) → ResultHolds P (unless b r x)
  unless_holds P true r x h k = k refl
  unless_holds P false r x h k = h

  -- its number alone
  abbrev pub Numbered : Result A → Type 0
  Numbered = ResultHolds (λ _. Unit {0})

  pub numbered-unless : (b : Bool) (r : Refusal) (x : Result A) → N r.number → Numbered x → Numbered (unless b r x)
  numbered-unless b r x h k = unless_holds (λ _. Unit {0}) b r x h (λ _. k)

module _ {A B : Type 0} (N : ℕ → Type 0) where
  pub then-holds : (P : A → Type 0) (Q : B → Type 0) (x : Result A) (k : A → Result B) → ResultHolds N P x
      → ((a : A) → x ≡ good a → P a → ResultHolds N Q (k a)) → ResultHolds N Q (then x k)
  then-holds P Q (refused r) k h f = h
  then-holds P Q (good a) k h f = f a refl h

  pub numbered-then : (x : Result A) (k : A → Result B) → Numbered N x → ((a : A) → Numbered N (k a)) → Numbered N (then x k)
  numbered-then x k h f = then-holds (λ _. Unit {0}) (λ _. Unit {0}) x k h (λ a _ _. f a)

-- nothing is both refused and good, and a refusal is one
pub never : {A B : Type 0} (r : Refusal) (a : A) → ◌≡◌ {A = Result A} (refused r) (good a) → B
never r a q = let z : ◌≡◌ {A = ℕ} 0 1 = cc in absurd (omega arith)

pub refused-one : {A : Type 0} (r t : Refusal) → ◌≡◌ {A = Result A} (refused r) (refused t) → r ≡ t
refused-one r t q = cc

module _ {A : Type 0} (P : ℕ → Type 0) where
  -- a refusal with a number that is tested, where a cause holds
  refuses : (r : Refusal) (N : Type 0) → P r.number → ¬ N → RefusesExactly {A = A} (refused r) N P
  refuses r N h k = record { answers = (λ a. never r a.0 a.1, λ n. absurd (k n)); numbers = λ t q. subst (λ u. P u.number) (refused-one r t q) h }

  -- one test after the other: the first refuses with number n, and x is what comes after
  passes : (b : Bool) (n : ℕ) (x : Result A) (N : Type 0) → P n → RefusesExactly x N P → RefusesExactly (unless b (refusal n 0 0) x) (T b × N) P
  passes true n x N h e = record { answers = (λ a. (tt, e.answers.0 a), λ t. e.answers.1 t.1); numbers = e.numbers }
  passes false n x N h e = refuses (refusal n 0 0) _ h (λ t. t.0)

  yields : (a : A) (N : Type 0) → N → RefusesExactly (good a) N P
  yields a N n = record { answers = (λ _. n, λ _. (a, refl)); numbers = λ r q. never r a (sym q) }

  -- the same causes in other words, and what the answer of the call says
  pub as_said : (said x : Result A) (N M : Type 0) → said ≡ x → RefusesExactly x N P → (N → M) → (M → N) → RefusesExactly said M P
  as_said said x N M q e f g =
      subst (λ y. RefusesExactly y M P) (sym q)
      (record { answers = (λ a. f (e.answers.0 a), λ m. e.answers.1 (g m)); numbers = e.numbers })

  -- of a call whose outcome is x: where it is a refusal its number is tested, and it is good exactly when no cause holds
  pub exactly : (said x : Result A) (N : Type 0) → said ≡ x → Numbered P x → ((a : A) → x ≡ good a → N) → (N → (a : A) × (x ≡ good a)) → RefusesExactly said N P
  exactly said x N q h f g =
      subst (λ y. RefusesExactly y N P) (sym q) (record { answers = (λ a. f a.0 a.1, g); numbers = λ r e. subst (Numbered P) e h })

is-length : (s : List ℕ) (n : ℕ) → length s ≡ n → T (eqb (length s) n)
is-length s n e = subst (λ v. T (eqb (length s) v)) e (eqb_refl (length s))

-- the tests of a frame's size, as tests of byte 3 and of the length
sized-tests : (kind : Response) (b n : ℕ) → Sized kind b n
    → T (leb 4 n) × (T (eqb b 0x00 || eqb b (long_length kind)) × T (eqb n (cond (eqb b 0x00) (short_size kind) (long_size kind))))
sized-tests ReportGeneral b n (inl h) = rw (h.0, h.1) (tt, (tt, tt))
sized-tests ReportGeneral b n (inr h) = rw (h.0, h.1) (tt, (tt, tt))
sized-tests Discover b n (inl h) = rw (h.0, h.1) (tt, (tt, tt))
sized-tests Discover b n (inr h) = rw (h.0, h.1) (tt, (tt, tt))

tests-sized : (kind : Response) (b n : ℕ) → T (eqb b 0x00 || eqb b (long_length kind)) → T (eqb n (cond (eqb b 0x00) (short_size kind) (long_size kind)))
    → Sized kind b n
tests-sized kind b n t h =
    ⊎_elim (λ c. inl (eqb→eq b 0x00 c.0, c.1)) (λ c. inr (eqb→eq b (long_length kind) c.0, c.1))
    (either (eqb b 0x00) (eqb b (long_length kind)) (short_size kind) (long_size kind) t h)
  where
    either : (a c : Bool) (m l : ℕ) → T (a || c) → T (eqb n (cond a m l)) → (T a × (n ≡ m)) ⊎ (T c × (n ≡ l))
    either true c m l t h = inl (tt, eqb→eq n m h)
    either false c m l t h = inr (t, eqb→eq n l h)

-- reading one frame by itself: fewer than four bytes (1), byte 3 (2), a length that is not the size found (1), then the other bytes
module _ {A : Type 0} (P : ℕ → Type 0) (one : P 1) (two : P 2) where
  in_order : (a b c : Bool) (m l : ℕ) (k : ℕ → Result A)
      → then (unless a (refusal 1 0 0) (cond b (good m) (cond c (good l) (refused (refusal 2 0 0))))) k
      ≡ unless a (refusal 1 0 0) (unless (b || c) (refusal 2 0 0) (k (cond b m l)))
  in_order true true c m l k = refl
  in_order true false true m l k = refl
  in_order true false false m l k = refl
  in_order false b c m l k = refl

  itself : (kind : Response) (s : List ℕ) (rest : List ℕ → Result A) (N : Type 0) → RefusesExactly (rest s) N P
      → RefusesExactly (by_itself kind rest s) (Sized kind (byte s 3) (length s) × N) P
  unfolding frame_size
  itself kind s rest N e =
      let a = leb 4 (length s) in
      let b = eqb (byte s 3) 0x00 in
      let c = eqb (byte s 3) (long_length kind) in
      let size = cond b (short_size kind) (long_size kind) in
      as_said P _ _ _ _ (in_order a b c (short_size kind) (long_size kind) (λ n. unless (eqb (length s) n) (refusal 1 0 0) (rest s)))
      (passes P a 1 _ _ one (passes P (b || c) 2 _ _ two (passes P (eqb (length s) size) 1 _ _ one e)))
      (λ t. (tests-sized kind (byte s 3) (length s) t.1.0 t.1.1.0, t.1.1.1))
      (λ t. let u = sized-tests kind (byte s 3) (length s) t.0 in (u.0, (u.1.0, (u.1.1, t.1))))

  -- the other fixed bytes (2)
  fixed : (b : Bool) (a : A) → RefusesExactly (unless b (refusal 2 0 0) (good a)) (T b) P
  fixed b a = as_said P _ _ _ _ refl (passes P b 2 _ _ two (yields P a (Unit {0}) tt)) (λ t. t.0) (λ t. (t, tt))

-- showing more of what was read
shows : {A B : Type 0} (P : ℕ → Type 0) (x : Result A) (f : A → B) (N : Type 0) → RefusesExactly x N P → RefusesExactly (then x (λ a. good (f a))) N P
shows P (refused r) f N e = refuses P r N (e.numbers r refl) (λ n. let a = e.answers.1 n in never r a.0 a.1)
shows P (good a) f N e = yields P (f a) N (e.answers.0 (a, refl))

-- the size that byte 3 states (1, 2), the other fixed bytes (2)
general-read : (s : List ℕ) → RefusesExactly (general_read s) (Sized ReportGeneral (byte s 3) (length s) × T (general_fixed s)) (λ n. (n ≡ 1) ⊎ (n ≡ 2))
unfolding general_read
general-read s = itself _ (inl refl) (inr refl) ReportGeneral s general_in _ (fixed _ (inl refl) (inr refl) (general_fixed s) _)

pub general-exactly : (s : List ℕ) (answer : Result General) → answer ≡ general_read s
    → RefusesExactly answer (Sized ReportGeneral (byte s 3) (length s) × T (general_fixed s)) (λ n. (n ≡ 1) ⊎ (n ≡ 2))
general-exactly s answer q = as_said _ answer (general_read s) _ _ q (general-read s) (λ t. t) (λ t. t)

-- the SAS-2 reader refuses as the SAS-1.1 reader does
pub sas2_exactly : (s : List ℕ) (answer : Result GeneralSas2) → answer ≡ general_read_sas2 s
    → RefusesExactly answer (Sized ReportGeneral (byte s 3) (length s) × T (general_fixed s)) (λ n. (n ≡ 1) ⊎ (n ≡ 2))
unfolding general_read_sas2
sas2_exactly s answer q = as_said _ answer (general_read_sas2 s) _ _ q (shows _ (general_read s) _ _ (general-read s)) (λ t. t) (λ t. t)

pub discover-exactly : (s : List ℕ) (answer : Result Discovered) → answer ≡ discover_read s
    → RefusesExactly answer (Sized Discover (byte s 3) (length s) × T (discover_fixed s)) (λ n. (n ≡ 1) ⊎ (n ≡ 2))
unfolding discover_read
discover-exactly s answer q =
    as_said _ answer (discover_read s) _ _ q
    (itself _ (inl refl) (inr refl) Discover s discover_in _ (fixed _ (inl refl) (inr refl) (discover_fixed s) _)) (λ t. t) (λ t. t)

-- reading a request: its length (1), bytes 0, 1 and 3 (2), its phy (15)
pub route-exactly : (s : List ℕ) (answer : Result Route) → answer ≡ route_read s
    → RefusesExactly answer ((length s ≡ 40) × (T (route_fixed s) × (byte s 9 ≤ 127))) (λ n. (n ≡ 1) ⊎ ((n ≡ 2) ⊎ (n ≡ 15)))
unfolding route_read
route-exactly s answer q =
    as_said _ answer (route_read s) _ _ q
    (passes _ (eqb (length s) 40) 1 _ _ (inl refl)
    (passes _ (route_fixed s) 2 _ _ (inr (inl refl)) (passes _ (leb (byte s 9) 127) 15 _ _ (inr (inr refl)) (yields _ _ (Unit {0}) tt))))
    (λ t. (eqb→eq (length s) 40 t.0, (t.1.0, leb→le (byte s 9) 127 t.1.1.0)))
    (λ t. (is-length s 40 t.0, (t.1.0, (le→leb (byte s 9) 127 t.1.1, tt))))

-- writing a request: REQUEST LENGTH (2), its phy (15), the room (16)
pub written-exactly : (room : ℕ) (request : Route) (answer : Result Unit) → write_answer request answer ≡ route_written room request
    → RefusesExactly (write_answer request answer) (T (is_length request.length) × ((request.phy.0 ≤ 127) × (40 ≤ room))) (λ n. (n ≡ 2) ⊎ ((n ≡ 15) ⊎ (n ≡ 16)))
unfolding route_written
written-exactly room request answer q =
    as_said _ (write_answer request answer) (route_written room request) _ _ q
    (passes _ (is_length request.length) 2 _ _ (inl refl)
    (passes _ (leb request.phy.0 127) 15 _ _ (inr (inl refl)) (passes _ (leb 40 room) 16 _ _ (inr (inr refl)) (yields _ _ (Unit {0}) tt))))
    (λ t. (t.0, (leb→le request.phy.0 127 t.1.0, leb→le 40 room t.1.1.0)))
    (λ t. (t.0, (le→leb request.phy.0 127 t.1.0, (le→leb 40 room t.1.1, tt))))
