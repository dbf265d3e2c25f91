-- The domain that is made: its file reads as it, it is accepted, and its one table is the words.
use Prim.Native.Nat.{ℕ, zero, suc, ◌+◌, ◌^◌, ◌≤◌, ◌<◌}
use mathlib.Core.Path.{◌≡◌, refl, sym, ap, subst, ◌∙◌}
use mathlib.Core.Logic.{◌⊎◌, inl, inr, ◌≢◌, ◌↔◌, ⊎_elim, by_cases}
use mathlib.Core.Bool.{Bool, true, false, cond, not, ◌||◌, ◌&&◌}
use mathlib.Core.List.{List, [], ◌∷◌, ◌++◌, map, flat_map, append-nil, append_assoc}
use native.Mathlib.Omega.{arith}
use native.Mathlib.Decide.{ℕ_discrete, dec_lt}
use lib.ListN.{length, get_or, length-map}
use lib.Dec.{T, eqb, ltb, lt→ltb, leb→le}
use borrow.Author.Tests.{eq-eqb, ne_eqb}
use Rattle.files.specs.declared.Phy.{Phy}
use Rattle.files.specs.declared.Phy.TheVariants.{Vacant}
use Rattle.wiring.specs.FrameDefinitions.{good}
use Rattle.files.specs.Lists.{keep, In, is_in}
use Rattle.files.specs.Settings.{widest}
use Rattle.files.specs.Domain.{Domain, expander_at, phy_at, type_of, address_of, attached_phy_of, attribute_of, is_table, is_subtractive, attached, to_end, to_expander, number_of}
use Rattle.files.specs.ReadDomain.{ReadPhy, ReadExpander, Read, Bytes, FitsPhy, FitsExpander, FitsDomain}
use Rattle.files.specs.File.{domain_read}
use Rattle.files.specs.Rows.{rows_of, domain_in}
use Rattle.wiring.specs.phys.PhyCauses.{Place, place, phy_places, places_from, far_phy}
use Rattle.wiring.specs.graph.Graph.{self, ring}
use Rattle.wiring.specs.graph.Neighbours.{neighbours}
use Rattle.wiring.specs.graph.Devices.{LoopIn, ChainIn, AttachedTo}
use Rattle.wiring.specs.WiringCauses.{Linked}
use Rattle.files.proofs.ListMembers.{or_left, or_right, is_in-of, eq→eqb, pigeonhole, get_d_in, in_map}
use Rattle.wiring.proofs.phys.WiredPhys.{Plain, Wired, adj-to, to-adj}
use Rattle.files.proofs.Domains.{in_range_lem}
use Rattle.files.proofs.RowsRoundTrip.{domain-back}
use Rattle.wiring.proofs.WiredAndLinked.{read-expander}
use Rattle.wiring.proofs.graph.LongChains.{never-long}
use Rattle.tables.specs.levels.Levels.{down}
use Rattle.tables.specs.filling.Tables.{word, gives, give, give_all, level_list, table, table_places, tables}
use Rattle.tables.specs.JudgingCall.{judged}
use Rattle.tables.specs.TableCauses.{Routable}
use Rattle.tables.proofs.lists.LevelListMembers.{held-self}
use Rattle.tables.proofs.filling.TableLengths.{table_is}
use Rattle.tables.proofs.AcceptedDomains.{accepted_iff, judged-file}
use Rattle.cards.specs.FileOf.{file_of}
use Rattle.cards.proofs.Conversions.{file-back}
use Rattle.exercises.specs.Rig.{trimmed, drive, toward, first_of, second_of, made, no_rig, Kind, Rig}
use Rattle.exercises.proofs.TrimmedWords.{trimmed-few, trimmed-whole, trimmed_in}
use Rattle.exercises.proofs.FileBytes.{file-bytes}
use Rattle.exercises.proofs.RigLimits.{keep-none, list-is, gives_none, rig-possible}

-- all that the maker asks of its words
pub record Makable (a b : ℕ) (ws : List ℕ) : Type 0 where
  pub first : a ≢ 0
  pub second : b ≢ 0
  pub other : a ≢ b
  pub no_first : ¬ (In a ws)
  pub no_second : ¬ (In b ws)
  pub route_indexes : length ws ≤ 65535
  pub phys : length (trimmed ws) ≤ 127

pub makable : (a b : ℕ) (ws : List ℕ) → ¬ (T (no_rig a b ws)) → Makable a b ws
unfolding no_rig
makable a b ws n =
    let c6 : Bool = ltb 65535 (length ws) || ltb 127 (length (trimmed ws)) in
    let c5 : Bool = is_in b ws || c6 in
    let c4 : Bool = is_in a ws || c5 in
    let c3 : Bool = eqb a b || c4 in
    let c2 : Bool = eqb b 0 || c3 in
    let n2 : ¬ (T c2) = λ t. n (or_right (eqb a 0) c2 t) in
    let n3 : ¬ (T c3) = λ t. n2 (or_right (eqb b 0) c3 t) in
    let n4 : ¬ (T c4) = λ t. n3 (or_right (eqb a b) c4 t) in
    let n5 : ¬ (T c5) = λ t. n4 (or_right (is_in a ws) c5 t) in
    let n6 : ¬ (T c6) = λ t. n5 (or_right (is_in b ws) c6 t) in
    record {
      first = λ z. n (or_left (eqb a 0) c2 (eq→eqb a 0 z));
      second = λ z. n2 (or_left (eqb b 0) c3 (eq→eqb b 0 z));
      other = λ z. n3 (or_left (eqb a b) c4 (eq→eqb a b z));
      no_first = λ h. n4 (or_left (is_in a ws) c5 (is_in-of a ws h));
      no_second = λ h. n5 (or_left (is_in b ws) c6 (is_in-of b ws h));
      route_indexes = by_cases (dec_lt 65535 (length ws)) (λ h. absurd (n6 (or_left (ltb 65535 (length ws)) _ (lt→ltb 65535 (length ws) h)))) (λ h. omega arith);
      phys = by_cases (dec_lt 127 (length (trimmed ws)))
          (λ h. absurd (n6 (or_right (ltb 65535 (length ws)) (ltb 127 (length (trimmed ws))) (lt→ltb 127 (length (trimmed ws)) h)))) (λ h. omega arith);
    }

-- the words have 64 bits
abbrev pub WordsFit : List ℕ → Type 0
WordsFit ws = (k : ℕ) → get_or ws k 0 < 2 ^ 64

drive-type : (s : ℕ) → cond (eqb s 0) 0 1 ≤ 1
drive-type s = go (eqb s 0)
  where
    go : (c : Bool) → ◌≤◌ (cond c 0 1) 1
    go true = omega arith
    go false = omega arith

drive-read : (s : ℕ) → ReadPhy (drive s)
drive-read s = record {
  device_type = let t = drive-type s in omega arith;
  attribute = omega arith;
  borne = λ n z. n (rw (eq-eqb s 0 z) refl);
  bare = λ e. by_cases (ℕ_discrete s 0) (λ z. (z, refl)) (λ n. let o : ◌≡◌ {A = ℕ} (cond (eqb s 0) 0 1) 1 = rw (ne_eqb s 0 n) refl in absurd (omega arith));
}

toward-read : (s k : ℕ) → s ≢ 0 → k ≤ 2 → ReadPhy (toward s k)
toward-read s k n h = record { device_type = omega arith; attribute = h; borne = λ _. n; bare = λ e. absurd (omega arith) }

-- what stands at a place of the made domain
data View (a b : ℕ) (ws : List ℕ) (i p : ℕ) (φ : Phy) : Type 0 where
  nothing : φ ≡ Vacant 0 → View a b ws i p φ
  forth : i ≡ 0 → p ≡ 0 → φ ≡ toward b 2 → View a b ws i p φ
  back : i ≡ 1 → p ≡ 0 → φ ≡ toward a 1 → View a b ws i p φ
  drives : (s : ℕ) → i ≡ 1 → In s ws → φ ≡ drive s → View a b ws i p φ

drive-at : (l : List ℕ) (k : ℕ) → (get_or (map drive l) k (Vacant 0) ≡ Vacant 0) ⊎ ((s : ℕ) × In s l × (get_or (map drive l) k (Vacant 0) ≡ drive s))
drive-at [] k = inl refl
drive-at (s ∷ l) zero = inr (s, inl refl, refl)
drive-at (s ∷ l) (suc k) = ⊎_elim inl (λ r. inr (r.0, inr r.1, r.2)) (drive-at l k)

module _ (a b : ℕ) (ws : List ℕ) where
  view : (i p : ℕ) → View a b ws i p (phy_at (made a b ws) i p)
  unfolding made
  view zero zero = forth refl refl refl
  view zero (suc p) = nothing refl
  view (suc zero) zero = back refl refl refl
  view (suc zero) (suc p) =
      ⊎_elim nothing (λ r. drives r.0 refl (trimmed_in ws r.0 r.1) r.2) (drive-at (trimmed ws) p)
  view (suc (suc i)) p = nothing refl

-- types and attributes of what stands there
drive_no_expander : (s : ℕ) (φ : Phy) → φ ≡ drive s → ¬ (T (to_expander φ))
drive_no_expander s φ e t = let h = leb→le 2 (type_of φ) t in omega (arith, ap type_of e, drive-type s)

module _ (a b : ℕ) (ws : List ℕ) (m : Makable a b ws) (x : a < 2 ^ 64) (y : b < 2 ^ 64) (f : WordsFit ws) where
  abbrev dom : Domain
  dom = made a b ws

  -- causes 22 and 1 to 6 leave it, and it fits in bytes
  read_first : ReadExpander widest (first_of a b (length ws))
  read_first = record {
    borne = m.first;
    configurable = omega arith;
    some = omega arith;
    few = omega arith;
    phys = λ φ. ⊎_elim (λ e. subst ReadPhy (sym e) (toward-read b 2 m.second (omega arith))) (λ z. absurd z);
  }

  read-second : ReadExpander widest (second_of a b (trimmed ws))
  read-second = record {
    borne = m.second;
    configurable = omega arith;
    some = omega arith;
    few = omega (arith, m.phys, length-map (trimmed ws) drive);
    phys = λ φ. ⊎_elim (λ e. subst ReadPhy (sym e) (toward-read a 1 m.first (omega arith)))
        (λ h. let r = in_map drive (trimmed ws) φ h in subst ReadPhy (sym r.2) (drive-read r.0));
  }

  read : Read widest dom
  unfolding made
  read = record {
    range = record { expanders = (omega arith, omega arith); phys = (omega arith, omega arith); chain = (omega arith, omega arith) };
    some = omega arith;
    few = omega arith;
    differ = (⊎_elim m.other (λ z. z), (λ z. z, tt));
    each = λ e. ⊎_elim (λ q. subst (ReadExpander widest) (sym q) read_first) (⊎_elim (λ q. subst (ReadExpander widest) (sym q) read-second) (λ z. absurd z));
  }

  fits-first : FitsExpander (first_of a b (length ws))
  fits-first = record {
    address = x;
    route_indexes = omega (arith, m.route_indexes);
    count = omega arith;
    phys = λ φ. ⊎_elim (λ e. subst FitsPhy (sym e) (y, omega arith)) (λ z. absurd z);
  }

  fits-second : FitsExpander (second_of a b (trimmed ws))
  fits-second = record {
    address = y;
    route_indexes = omega arith;
    count = omega (arith, m.phys, length-map (trimmed ws) drive);
    phys = λ φ. ⊎_elim (λ e. subst FitsPhy (sym e) (x, omega arith))
        (λ h. let r = in_map drive (trimmed ws) φ h in
        let g = get_d_in ws 0 r.0 (trimmed_in ws r.0 r.1) in
        subst FitsPhy (sym r.2) (subst (λ v. v < 2 ^ 64) g.2 (f g.0), omega arith));
  }

  fits-made : FitsDomain dom
  unfolding made
  fits-made = record {
    count = omega arith;
    each = λ e. ⊎_elim (λ q. subst FitsExpander (sym q) fits-first) (⊎_elim (λ q. subst FitsExpander (sym q) fits-second) (λ z. absurd z));
  }

  made-read : domain_read widest (file_of dom) ≡ good dom
  made-read = file-back widest dom read fits-made

  pub rows_back : domain_in (rows_of dom) ≡ dom
  rows_back = domain-back widest dom read fits-made

  number-a : number_of dom a ≡ 0
  unfolding made number_of
  number-a = rw (eq-eqb a a refl) refl

  number-b : number_of dom b ≡ 1
  unfolding made number_of
  number-b = rw (ne_eqb a b m.other, eq-eqb b b refl) refl

  first-phy : phy_at dom 0 0 ≡ toward b 2
  unfolding made
  first-phy = refl

  second-phy : phy_at dom 1 0 ≡ toward a 1
  unfolding made
  second-phy = refl

  first-address : (expander_at dom 0).address ≡ a
  unfolding made
  first-address = refl

  second-address : (expander_at dom 1).address ≡ b
  unfolding made
  second-address = refl

  -- a phy that leads to an expander is one of the two
  leading : (i p : ℕ) (φ : Phy) → View a b ws i p φ → T (to_expander φ) → ((i ≡ 0) × (p ≡ 0) × (φ ≡ toward b 2)) ⊎ ((i ≡ 1) × (p ≡ 0) × (φ ≡ toward a 1))
  leading i p φ (nothing e) t = absurd (subst (λ ψ. T (to_expander ψ)) e t)
  leading i p φ (forth j q e) t = inl (j, q, e)
  leading i p φ (back j q e) t = inr (j, q, e)
  leading i p φ (drives s j h e) t = absurd (drive_no_expander s φ e t)

  -- and one at an end device is a drive
  ending : (i p : ℕ) (φ : Phy) → View a b ws i p φ → T (to_end φ) → (s : ℕ) × (i ≡ 1) × In s ws × (φ ≡ drive s)
  ending i p φ (nothing e) t = absurd (subst (λ ψ. T (to_end ψ)) e t)
  ending i p φ (forth j q e) t = absurd (subst (λ ψ. T (to_end ψ)) e t)
  ending i p φ (back j q e) t = absurd (subst (λ ψ. T (to_end ψ)) e t)
  ending i p φ (drives s j h e) t = (s, j, h, e)

  leads-at : (i p : ℕ) → T (to_expander (phy_at dom i p))
      → ((i ≡ 0) × (p ≡ 0) × (phy_at dom i p ≡ toward b 2)) ⊎ ((i ≡ 1) × (p ≡ 0) × (phy_at dom i p ≡ toward a 1))
  leads-at i p t = leading i p (phy_at dom i p) (view a b ws i p) t

  routed : (i p : ℕ) → T (to_expander (phy_at dom i p)) → T (is_subtractive (phy_at dom i p)) ⊎ T (is_table (phy_at dom i p))
  routed i p t =
      ⊎_elim (λ r. inr (subst (λ φ. T (is_table φ)) (sym r.2) tt)) (λ r. inl (subst (λ φ. T (is_subtractive φ)) (sym r.2) tt)) (leads-at i p t)

  to-first : AttachedTo dom 1 0 0
  to-first = record { expander = subst (λ φ. T (to_expander φ)) (sym second-phy) tt; address = ap address_of second-phy ∙ sym first-address }

  to-second : AttachedTo dom 0 0 1
  to-second = record { expander = subst (λ φ. T (to_expander φ)) (sym first-phy) tt; address = ap address_of first-phy ∙ sym second-address }

  answered : (i p : ℕ) → T (to_expander (phy_at dom i p)) → AttachedTo dom (number_of dom (address_of (phy_at dom i p))) (attached_phy_of (phy_at dom i p)) i
  answered i p t =
      ⊎_elim (λ r. rw (r.2, number-b, r.0) to-first) (λ r. rw (r.2, number-a, r.0) to-second) (leads-at i p t)

  named_back : (i p : ℕ) → T (to_expander (phy_at dom i p)) → attached_phy_of (far_phy dom (phy_at dom i p)) ≡ p
  named_back i p t =
      ⊎_elim (λ r. rw (r.2, number-b, second-phy) (sym r.1)) (λ r. rw (r.2, number-a, first-phy) (sym r.1)) (leads-at i p t)

  far_from : (s i : ℕ) → In s ws → i < 2 → s ≢ (expander_at dom i).address
  far_from s zero h k e = m.no_first (subst (λ v. In v ws) (e ∙ first-address) h)
  far_from s (suc zero) h k e = m.no_second (subst (λ v. In v ws) (e ∙ second-address) h)
  far_from s (suc (suc i)) h k e = omega arith

  two : length dom ≡ 2
  unfolding made
  two = refl

  apart : (i p j : ℕ) → T (to_end (phy_at dom i p)) → j < length dom → address_of (phy_at dom i p) ≢ (expander_at dom j).address
  apart i p j t h e =
      let r = ending i p (phy_at dom i p) (view a b ws i p) t in
      far_from r.0 j r.2 (omega (arith, two)) (sym (ap address_of r.3) ∙ e)

  one_place : (i p j q : ℕ) → T (to_end (phy_at dom i p)) → T (to_end (phy_at dom j q)) → address_of (phy_at dom i p) ≡ address_of (phy_at dom j q) → i ≡ j
  one_place i p j q t u e = (ending i p (phy_at dom i p) (view a b ws i p) t).1 ∙ sym (ending j q (phy_at dom j q) (view a b ws j q) u).1

  -- the attribute goes by expander and address
  abbrev kind_at : ℕ → ℕ → ℕ
  kind_at zero s = 2
  kind_at (suc i) s = cond (eqb s a) 1 0

  kind-is : (i p : ℕ) (φ : Phy) → View a b ws i p φ → T (attached φ) → attribute_of φ ≡ kind_at i (address_of φ)
  kind-is i p φ (nothing e) t = absurd (subst (λ χ. T (attached χ)) e t)
  kind-is i p φ (forth j k e) t = rw (e, j) refl
  kind-is i p φ (back j k e) t = rw (e, j, eq-eqb a a refl) refl
  kind-is i p φ (drives s j h e) t = rw (e, j, ne_eqb s a (λ q. m.no_first (subst (λ v. In v ws) q h))) refl

  kinds : (i p q : ℕ) → T (attached (phy_at dom i p)) → T (attached (phy_at dom i q)) → address_of (phy_at dom i p) ≡ address_of (phy_at dom i q)
      → attribute_of (phy_at dom i p) ≡ attribute_of (phy_at dom i q)
  kinds i p q t u e =
      kind-is i p (phy_at dom i p) (view a b ws i p) t ∙ ap (kind_at i) e ∙ sym (kind-is i q (phy_at dom i q) (view a b ws i q) u)

  -- the one subtractive phy
  subtractive : (i p : ℕ) (φ : Phy) → View a b ws i p φ → T (is_subtractive φ) → φ ≡ toward a 1
  subtractive i p φ (nothing e) t = absurd (subst (λ χ. T (is_subtractive χ)) e t)
  subtractive i p φ (forth j k e) t = absurd (subst (λ χ. T (is_subtractive χ)) e t)
  subtractive i p φ (back j k e) t = e
  subtractive i p φ (drives s j h e) t = absurd (subst (λ χ. T (is_subtractive χ)) e t)

  -- the one table phy
  tabled : (i p : ℕ) (φ : Phy) → View a b ws i p φ → T (is_table φ) → (i ≡ 0) × (p ≡ 0)
  tabled i p φ (nothing e) t = absurd (subst (λ χ. T (is_table χ)) e t)
  tabled i p φ (forth j k e) t = (j, k)
  tabled i p φ (back j k e) t = absurd (subst (λ χ. T (is_table χ)) e t)
  tabled i p φ (drives s j h e) t = absurd (subst (λ χ. T (is_table χ)) e t)

  tabled-at : (i p : ℕ) → T (is_table (phy_at dom i p)) → (i ≡ 0) × (p ≡ 0)
  tabled-at i p t = tabled i p (phy_at dom i p) (view a b ws i p) t

  configured : (i p : ℕ) → T (is_table (phy_at dom i p)) → (expander_at dom i).configurable ≢ 0
  unfolding made
  configured i p t z =
      let e : (expander_at dom i).configurable ≡ 1 = ap (λ (v : ℕ). (expander_at dom v).configurable) (tabled-at i p t).0 in omega arith

  plain : (i p : ℕ) (φ : Phy) → View a b ws i p φ → Plain φ
  plain i p φ (nothing e) = subst Plain (sym e) tt
  plain i p φ (forth j k e) = subst Plain (sym e) (omega arith, omega arith)
  plain i p φ (back j k e) = subst Plain (sym e) (omega arith, omega arith)
  plain i p φ (drives s j h e) = subst Plain (sym e) (let t = drive-type s in omega arith, omega arith)

  borne-at : (i p : ℕ) (φ : Phy) → View a b ws i p φ → T (attached φ) → address_of φ ≢ 0
  borne-at i p φ (nothing e) t z = absurd (subst (λ χ. T (attached χ)) e t)
  borne-at i p φ (forth j k e) t z = m.second (sym (ap address_of e) ∙ z)
  borne-at i p φ (back j k e) t z = m.first (sym (ap address_of e) ∙ z)
  borne-at i p φ (drives s j h e) t z =
      let o : s ≡ 0 = sym (ap address_of e) ∙ z in
      subst (λ χ. T (attached χ)) (e ∙ ap drive o) t

  numbered : (j : ℕ) → j < length dom → number_of dom (expander_at dom j).address ≡ j
  numbered zero h = ap (number_of dom) first-address ∙ number-a
  numbered (suc zero) h = ap (number_of dom) second-address ∙ number-b
  numbered (suc (suc j)) h = absurd (omega (arith, two))

  made_wires : Wired dom
  made_wires = record {
    number = numbered;
    borne = λ j h. (read-expander widest dom read j h).borne;
    few = λ i p t. let c = in_range_lem dom i p t in omega (arith, c.1, (read-expander widest dom read i c.0).few);
    plain = λ i p. plain i p (phy_at dom i p) (view a b ws i p);
    attached_borne = λ i p t. borne-at i p (phy_at dom i p) (view a b ws i p) t;
    routing = routed;
    answer = answered;
    back = named_back;
    apart = apart;
    one_place = one_place;
    kind = kinds;
    one_way = λ i p q t u r s. ap address_of (subtractive i p (phy_at dom i p) (view a b ws i p) r) ∙ sym (ap address_of (subtractive i q (phy_at dom i q) (view a b ws i q) s));
    configured = configured;
  }

  adjacent : T (neighbours dom 0 1)
  adjacent = to-adj dom made_wires 0 0 1 to-second

  no_loop : LoopIn dom → ⊥
  no_loop (self v h t) =
      let o = adj-to dom made_wires v v h t in
      ⊎_elim
      (λ r. m.other (sym first-address ∙ ap (λ (i : ℕ). (expander_at dom i).address) (sym r.0) ∙ sym o.1.address ∙ ap address_of r.2))
      (λ r. m.other (sym (ap address_of r.2) ∙ o.1.address ∙ ap (λ (i : ℕ). (expander_at dom i).address) r.0 ∙ second-address))
      (leads-at v o.0 o.1.expander)
  no_loop (ring p q r l di be st cl) = pigeonhole (length dom) (p ∷ q ∷ r ∷ l) be (omega (arith, two)) di

  chained : (i : ℕ) → i < length dom → (l : List ℕ) × ChainIn dom 0 i l
  chained zero h = (0 ∷ [], (refl, record { diff = (λ z. z, tt); below = λ w. ⊎_elim (λ e. omega (arith, two)) (λ z. absurd z); steps = tt; ends = refl }))
  chained (suc zero) h = (
    0 ∷ 1 ∷ [],
    (
      refl,
      record {
        diff = (⊎_elim (λ e. omega arith) (λ z. z), (λ z. z, tt));
        below = λ w. ⊎_elim (λ e. omega (arith, two)) (⊎_elim (λ e. omega (arith, two)) (λ z. absurd z));
        steps = (adjacent, tt);
        ends = refl;
      },
    ),
  )
  chained (suc (suc i)) h = absurd (omega (arith, two))

  made-links : Linked dom
  made-links = record { no_loop = no_loop; chained = chained }

  -- the first expander's far phy is subtractive, so the levels go on there
  leads-down : T (down dom (phy_at dom 0 0))
  leads-down =
      let e : far_phy dom (phy_at dom 0 0) ≡ toward a 1 = ap (far_phy dom) first-phy ∙ ap (λ (n : ℕ). phy_at dom n 0) number-b ∙ second-phy in
      subst (λ φ. T (to_expander φ && (is_table φ && not (is_table (far_phy dom (phy_at dom 0 0)))))) (sym first-phy)
      (subst (λ ψ. T (not (is_table ψ))) (sym e) tt)

  pub made-kind : Kind a b ws dom
  unfolding made
  made-kind = record { two = refl; first = refl; second = refl; one_phy = refl; table_phy = tt; leads = tt; to_second = refl; route_indexes = refl }

  -- the drives give their words, one after the other
  word-drive : (s : ℕ) → word (drive s) ≡ s
  word-drive s = by_cases (ℕ_discrete s 0) (λ z. rw z refl) (λ n. rw (ne_eqb s 0 n) refl)

  give-drive : (l : List ℕ) (s : ℕ) → give dom 0 l (drive s) ≡ l ++ (s ∷ [])
  unfolding give gives
  give-drive l s = ap (λ (v : ℕ). l ++ (v ∷ [])) (word-drive s)

  give-drives : (ss l : List ℕ) → give_all dom 0 l (map drive ss) ≡ l ++ ss
  unfolding give_all
  give-drives [] l = sym (append-nil l)
  give-drives (s ∷ ss) l = ap (λ (k : List ℕ). give_all dom 0 k (map drive ss)) (give-drive l s) ∙ give-drives ss (l ++ (s ∷ [])) ∙ append_assoc l (s ∷ []) ss

  second-phys : (expander_at dom 1).phys ≡ toward a 1 ∷ map drive (trimmed ws)
  unfolding made
  second-phys = refl

  made_list : level_list dom 0 0 ≡ trimmed ws
  unfolding give_all
  made_list =
      let quiet : give dom 0 [] (toward a 1) ≡ [] = gives_none dom 0 [] (toward a 1) (λ t. t) (held-self dom 0 a first-address) in
      list-is a b ws dom made-kind made_wires made-links leads-down ∙ ap (give_all dom 0 []) second-phys
      ∙ ap (λ (k : List ℕ). give_all dom 0 k (map drive (trimmed ws))) quiet ∙ give-drives (trimmed ws) []

  first-route_indexes : (expander_at dom 0).route_indexes ≡ length ws
  unfolding made
  first-route_indexes = refl

  fits : length (level_list dom 0 0) ≤ (expander_at dom 0).route_indexes
  fits = omega (arith, ap length made_list, trimmed-few ws, first-route_indexes)

  made-routable : Routable 64 dom
  made-routable = record {
    linked = made-links;
    short = never-long 64 dom (omega (arith, two));
    fits = λ i p t. let r = tabled-at i p t in rw (r.0, r.1) fits;
  }

  pub made_table : table dom 0 0 ≡ ws
  made_table = table_is dom 0 0 fits ∙ rw (made_list, first-route_indexes) (trimmed-whole ws)

  pub made-accepted : judged widest (file_of dom) ≡ good dom
  made-accepted = (judged-file widest (file_of dom) dom).1 (made-read, (accepted_iff widest dom read 64).1 (made_wires, made-routable))

  pub made_bytes : Bytes (file_of dom)
  made_bytes = file-bytes widest dom read fits-made

  pub made-rig : Rig a b ws
  made-rig = record {
    file = file_of dom;
    bytes = made_bytes;
    domain = dom;
    accepted = made-accepted;
    kind = made-kind;
    words = made_table;
  }

  -- it has no other table
  made-places : table_places dom ≡ place 0 0 ∷ []
  unfolding table_places places_from phy_places keep made
  made-places =
      let n : keep (λ q. is_table (phy_at dom q.expander q.phy)) (phy_places 1 0 (suc (length (map drive (trimmed ws)))) ++ []) ≡ [] =
      keep-none (λ q. is_table (phy_at dom q.expander q.phy)) (phy_places 1 0 (suc (length (map drive (trimmed ws)))) ++ [])
      (λ q h t. let e = in_second 0 (suc (length (map drive (trimmed ws)))) q h in let z = (tabled-at q.expander q.phy t).0 in omega arith) in
      rw n refl
    where
      in_second : (p n : ℕ) (q : Place) → In q (phy_places 1 p n ++ []) → q.expander ≡ 1
      in_second p zero q h = absurd h
      in_second p (suc n) q (inl e) = ap (λ (o : Place). o.expander) e
      in_second p (suc n) q (inr h) = in_second (p + 1) n q h

  pub made_one : length (table_places dom) ≡ 1
  made_one = ap length made-places

  pub made-tables : tables dom ≡ ws
  unfolding tables flat_map
  made-tables = ap (flat_map (λ q. table dom q.expander q.phy)) made-places ∙ append-nil (table dom 0 0) ∙ made_table

-- "exactly when": 24 holds exactly where there is no such rig
pub rig_iff : (a b : ℕ) (ws : List ℕ) → a < 2 ^ 64 → b < 2 ^ 64 → WordsFit ws → (¬ (T (no_rig a b ws))) ↔ Rig a b ws
rig_iff a b ws x y f = (λ n. made-rig a b ws (makable a b ws n) x y f, rig-possible a b ws)
