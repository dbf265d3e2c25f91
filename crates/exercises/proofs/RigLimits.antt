-- What every accepted domain of the maker's kind has: at most one level, no word that is an expander's address, and at most 127 words.
use Prim.Native.Nat.{ℕ, suc, ◌+◌, ◌-◌, ◌≤◌, ◌<◌}
use mathlib.Core.Path.{◌≡◌, refl, sym, ap, subst, ◌∙◌}
use mathlib.Core.Logic.{inl, inr, ◌≢◌, ⊎_elim, by_cases}
use mathlib.Core.Bool.{Bool, true, false, cond, not, ◌||◌, ◌&&◌}
use mathlib.Core.List.{List, [], ◌∷◌, ◌++◌, map, flat_map, append-nil}
use native.Mathlib.Omega.{arith}
use native.Mathlib.Decide.{ℕ_discrete}
use lib.ListN.{length, get_or, length-append, get_or-eq_default}
use lib.Dec.{T, eqb, ltb, eqb→eq, ltb→lt, T_not}
use Rattle.files.specs.declared.Phy.{Phy}
use Rattle.files.specs.declared.Phy.TheVariants.{Vacant}
use Rattle.files.specs.Lists.{keep, In, is_in}
use Rattle.files.specs.Settings.{widest}
use Rattle.files.specs.Domain.{Domain, no_expander, expander_at, phy_at, address_of, attached_phy_of, is_table, is_direct, attached, to_expander, number_of}
use Rattle.files.specs.ReadDomain.{Read}
use Rattle.wiring.specs.phys.PhyCauses.{far_phy}
use Rattle.wiring.specs.graph.Graph.{self}
use Rattle.wiring.specs.WiringCauses.{Linked}
use Rattle.files.proofs.ListMembers.{tests, T?, or_cases, is_true, is_false, in_get_d, get_d_in, of-is_in}
use Rattle.files.proofs.ReadDomain.{read-good, read_fits}
use Rattle.wiring.proofs.phys.WiredPhys.{AttachedTo, Wired, far-below, far-is, to_number, to-adj, differ}
use Rattle.files.proofs.Domains.{expander-attached, attribute-one, in_range_lem}
use Rattle.wiring.proofs.WiredAndLinked.{read-expander}
use Rattle.tables.specs.levels.Levels.{each_once, down, downstream_of_phys, downstream, next_level, levels_from, levels}
use Rattle.tables.specs.filling.Tables.{word, address_at, gives, give, give_all, level_list, table}
use Rattle.tables.specs.TableCauses.{Routable}
use Rattle.tables.proofs.lists.LevelListLaw.{levels-empty}
use Rattle.tables.proofs.lists.LevelListMembers.{held-self, held-phy, list-beyond}
use Rattle.tables.proofs.filling.TableLengths.{in_table, table-entry}
use Rattle.tables.proofs.AcceptedDomains.{judged-file, judged_wires}
use Rattle.exercises.specs.Rig.{trimmed, no_rig, Kind, Rig}
use Rattle.exercises.proofs.TrimmedWords.{trimmed-last}

pub keep-none : {A : Type 0} (f : A → Bool) (l : List A) → ((x : A) → In x l → ¬ (T (f x))) → keep f l ≡ []
unfolding keep
keep-none f [] n = refl
keep-none f (x ∷ l) n = rw (is_false (f x) (n x (inl refl))) (keep-none f l (λ y h. n y (inr h)))

module _ (a b : ℕ) (ws : List ℕ) (d : Domain) (k : Kind a b ws d) (w : Wired d) (r : Linked d) where
  pub zeroth : 0 < length d
  zeroth = omega (arith, k.two)

  pub firsth : 1 < length d
  firsth = omega (arith, k.two)

  leads-to : AttachedTo d 0 0 1
  leads-to = record { expander = k.leads; address = k.to_second ∙ sym k.second }

  number-far : number_of d (address_of (phy_at d 0 0)) ≡ 1
  number-far = to_number d w 0 0 1 firsth leads-to

  -- no table phy of the second expander leads on
  no_down : (q : ℕ) → ¬ (T (down d (phy_at d 1 q)))
  no_down q t =
      let e : T (to_expander (phy_at d 1 q)) = search tests in
      let v : T (not (is_table (far_phy d (phy_at d 1 q)))) = search tests in
      let n = number_of d (address_of (phy_at d 1 q)) in
      let h = far-below d w 1 q e in
      let two = k.two in
      by_cases (ℕ_discrete n 1)
      (λ o. r.no_loop (self 1 firsth (to-adj d w 1 q 1 (subst (AttachedTo d 1 q) o (far-is d w 1 q e)))))
      (λ o. let z : n ≡ 0 = omega arith in
      let back : AttachedTo d 0 (attached_phy_of (phy_at d 1 q)) 1 = subst (λ v. AttachedTo d v (attached_phy_of (phy_at d 1 q)) 1) z (w.answer 1 q e) in
      let c = (in_range_lem d 0 (attached_phy_of (phy_at d 1 q)) (expander-attached (phy_at d 0 (attached_phy_of (phy_at d 1 q))) back.expander)).1 in
      let f : attached_phy_of (phy_at d 1 q) ≡ 0 = omega (arith, k.one_phy) in
      let g : far_phy d (phy_at d 1 q) ≡ phy_at d 0 0 = rw (z, f) refl in
      T_not (is_table (far_phy d (phy_at d 1 q))) v (subst (λ φ. T (is_table φ)) (sym g) k.table_phy))

  downstream-none : downstream d 1 ≡ []
  unfolding downstream downstream_of_phys
  downstream-none =
      let n : keep (down d) (expander_at d 1).phys ≡ [] =
      keep-none (down d) (expander_at d 1).phys
      (λ φ h t. let g = get_d_in (expander_at d 1).phys (Vacant 0) φ h in no_down g.0 (subst (λ ψ. T (down d ψ)) (sym g.2) t)) in
      ap (map (λ φ. number_of d (address_of φ))) n

  -- where the far phy is no table phy there is one level, the second expander
  module _ (t : T (down d (phy_at d 0 0))) where
    downstream-first : downstream_of_phys d (phy_at d 0 0 ∷ []) ≡ 1 ∷ []
    unfolding downstream_of_phys keep
    downstream-first = rw (is_true (down d (phy_at d 0 0)) t) (ap (λ (n : ℕ). n ∷ []) number-far)

    levels-one : levels d 0 0 ≡ 1 ∷ []
    unfolding levels levels_from next_level flat_map each_once keep
    levels-one = rw (k.two, downstream-first, downstream-none) refl

    pub list-is : level_list d 0 0 ≡ give_all d 0 [] (expander_at d 1).phys
    unfolding level_list flat_map
    list-is = rw levels-one (ap (give_all d 0 []) (append-nil (expander_at d 1).phys))

  -- where it is one, there is none, and no word (document 02, paper 3)
  list-none : ¬ (T (down d (phy_at d 0 0))) → level_list d 0 0 ≡ []
  unfolding level_list flat_map give_all
  list-none n = rw (levels-empty d 0 0 n) refl

-- a phy gives at most one word, and one that never gives leaves room for the others only
give-few : (d : Domain) (x : ℕ) (l : List ℕ) (φ : Phy) → length (give d x l φ) ≤ suc (length l)
unfolding give
give-few d x l φ = go (gives d x l φ)
  where
    go : (c : Bool) → length (cond c (l ++ (word φ ∷ [])) l) ≤ suc (length l)
    go true = omega (arith, length-append l (word φ ∷ []))
    go false = omega arith

give_all-few : (d : Domain) (x : ℕ) (φs : List Phy) (l : List ℕ) → length (give_all d x l φs) ≤ length l + length φs
unfolding give_all
give_all-few d x [] l = omega arith
give_all-few d x (φ ∷ φs) l = omega (arith, give_all-few d x φs (give d x l φ), give-few d x l φ)

give_all_fewer : (d : Domain) (x : ℕ) (φs : List Phy) (l : List ℕ) (φ : Phy) → In φ φs → ((m : List ℕ) → give d x m φ ≡ m)
    → length (give_all d x l φs) < length l + length φs
unfolding give_all
give_all_fewer d x [] l φ h n = absurd h
give_all_fewer d x (ψ ∷ φs) l φ (inl e) n =
    let s : give d x l ψ ≡ l = subst (λ χ. give d x l χ ≡ l) e (n l) in
    let t = give_all-few d x φs (give d x l ψ) in
    omega (arith, ap length s)
give_all_fewer d x (ψ ∷ φs) l φ (inr h) n = omega (arith, give_all_fewer d x φs (give d x l ψ) φ h n, give-few d x l ψ)

-- a phy that is not direct, whose address x holds, gives nothing
pub gives_none : (d : Domain) (x : ℕ) (l : List ℕ) (φ : Phy) → ¬ (T (is_direct φ)) → T (address_at d x (address_of φ)) → give d x l φ ≡ l
unfolding give gives
gives_none d x l φ n t =
    rw (is_false (is_direct φ || (attached φ && (not (address_at d x (address_of φ)) && not (is_in (address_of φ) l))))
    (λ u. ⊎_elim n (λ v. T_not (address_at d x (address_of φ)) (search tests) t) (or_cases (is_direct φ) (attached φ && (not (address_at d x (address_of φ)) && not (is_in (address_of φ) l))) u)))
    refl

neither : (x y : Bool) → ¬ (T x) → ¬ (T y) → ¬ (T (x || y))
neither x y m n t = ⊎_elim m n (or_cases x y t)

module _ (a b : ℕ) (ws : List ℕ) (d : Domain) (k : Kind a b ws d) (w : Wired d) (r : Routable 64 d) (g : Read widest d) where
  abbrev lk : Linked d
  lk = r.linked

  fit : length (level_list d 0 0) ≤ (expander_at d 0).route_indexes
  fit = r.fits 0 0 k.table_phy

  -- the second expander's link
  link : AttachedTo d 1 (attached_phy_of (phy_at d 0 0)) 0
  link = subst (λ v. AttachedTo d v (attached_phy_of (phy_at d 0 0)) 0) (number-far a b ws d k w lk) (w.answer 0 0 k.leads)

  link_quiet : (m : List ℕ) → give d 0 m (phy_at d 1 (attached_phy_of (phy_at d 0 0))) ≡ m
  link_quiet m =
      let φ = phy_at d 1 (attached_phy_of (phy_at d 0 0)) in
      gives_none d 0 m φ
      (λ z. ⊎_elim (λ o. let n = attribute-one 0 1 φ z o in omega arith) (λ o. let n = attribute-one 0 2 φ z o in omega arith) (w.routing 1 (attached_phy_of (phy_at d 0 0)) link.expander))
      (held-self d 0 (address_of φ) (sym link.address))

  few_words : length (level_list d 0 0) ≤ 127
  few_words =
      let q = attached_phy_of (phy_at d 0 0) in
      let h = (in_range_lem d 1 q (expander-attached (phy_at d 1 q) link.expander)).1 in
      let m = (read-expander widest d g 1 (firsth a b ws d k w lk)).few in
      let f = give_all_fewer d 0 (expander_at d 1).phys [] (phy_at d 1 q) (in_get_d (expander_at d 1).phys (Vacant 0) q h) link_quiet in
      ⊎_elim (λ t. omega (arith, ap length (list-is a b ws d k w lk t))) (λ n. omega (arith, ap length (list-none a b ws d k w lk n))) (T? (down d (phy_at d 0 0)))

  borne-first : a ≢ 0
  borne-first z = w.borne 0 (zeroth a b ws d k w lk) (k.first ∙ z)

  borne-second : b ≢ 0
  borne-second z = w.borne 1 (firsth a b ws d k w lk) (k.second ∙ z)

  other : a ≢ b
  other e = let z = differ d w 0 1 (zeroth a b ws d k w lk) (firsth a b ws d k w lk) (k.first ∙ e ∙ sym k.second) in omega arith

  -- an address that the first expander holds is no word
  unheld : (s : ℕ) → s ≢ 0 → T (address_at d 0 s) → In s (table d 0 0) → ⊥
  unheld s z t h =
      (list-beyond d w lk 0 0 1 s (firsth a b ws d k w lk) (leads-to a b ws d k w lk) k.table_phy z ((in_table d 0 0 fit s z).0 h)).0 t

  no_first_lem : ¬ (In a (table d 0 0))
  no_first_lem = unheld a borne-first (held-self d 0 a k.first)

  no_second : ¬ (In b (table d 0 0))
  no_second = unheld b borne-second (held-phy d 0 b 0 (expander-attached (phy_at d 0 0) k.leads) k.to_second)

  pub possible : table d 0 0 ≡ ws → (expander_at d 0).route_indexes < 65536 → ¬ (T (no_rig a b ws))
  unfolding no_rig
  possible e i =
      let c6 : Bool = ltb 65535 (length ws) || ltb 127 (length (trimmed ws)) in
      let c5 : Bool = is_in b ws || c6 in
      let c4 : Bool = is_in a ws || c5 in
      let c3 : Bool = eqb a b || c4 in
      let c2 : Bool = eqb b 0 || c3 in
      neither (eqb a 0) c2 (λ u. borne-first (eqb→eq a 0 u))
      (neither (eqb b 0) c3 (λ u. borne-second (eqb→eq b 0 u))
      (neither (eqb a b) c4 (λ u. other (eqb→eq a b u))
      (neither (is_in a ws) c5 (λ u. no_first_lem (subst (In a) (sym e) (of-is_in a ws u)))
      (neither (is_in b ws) c6 (λ u. no_second (subst (In b) (sym e) (of-is_in b ws u)))
      (neither (ltb 65535 (length ws)) (ltb 127 (length (trimmed ws)))
      (λ u. omega (arith, ltb→lt 65535 (length ws) u, k.route_indexes)) (λ u. long (ltb→lt 127 (length (trimmed ws)) u)))))))
    where
      long : 127 < length (trimmed ws) → ⊥
      long h =
          let n : ℕ = length (trimmed ws) - 1 in
          let q : length (trimmed ws) ≡ suc n = omega arith in
          let z : get_or ws n 0 ≡ 0 =
          ap (λ (l : List ℕ). get_or l n 0) (sym e) ∙ table-entry d 0 0 fit n ∙ get_or-eq_default (level_list d 0 0) 0 (omega (arith, few_words)) in
          trimmed-last ws n q z

-- where an accepted file of the kind has the words as its table, 24 does not hold
pub rig-possible : (a b : ℕ) (ws : List ℕ) → Rig a b ws → ¬ (T (no_rig a b ws))
rig-possible a b ws o =
    let d = o.domain in
    let c = judged_wires widest o.file d o.accepted in
    let e = ((judged-file widest o.file d).0 o.accepted).0 in
    let f = read_fits widest o.file d o.bytes e in
    let i = (f.each (expander_at d 0) (in_get_d d no_expander 0 (omega (arith, o.kind.two)))).route_indexes in
    possible a b ws d o.kind c.0 c.1 (read-good widest o.file d e) o.words i
