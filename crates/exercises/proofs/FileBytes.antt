-- The file of a domain that fits in bytes is bytes.
use Prim.Native.Nat.{ℕ, zero, suc, ◌+◌, ◌-◌, ◌*◌, ◌/◌, ◌%◌, ◌≤◌, ◌<◌}
use mathlib.Core.Path.{◌≡◌, refl, sym, subst, ap, ◌∙◌}
use mathlib.Core.Logic.{inl, inr, by_cases}
use mathlib.Core.List.{List, [], ◌∷◌, ◌++◌}
use native.Mathlib.Omega.{arith}
use native.Mathlib.Decide.{dec_lt}
use lib.ListN.{length, get_or, replicate, get_or-append}
use lib.Seq.{get_or-append-add}
use Rattle.frames.specs.Bytes.{bytes_of}
use Rattle.cards.specs.ShortFrames.{short_general, short_vacant, short_discover}
use Rattle.files.specs.declared.Phy.{Phy}
use Rattle.files.specs.declared.Phy.TheVariants.{Vacant, Present}
use Rattle.files.specs.declared.Setting.{Setting}
use Rattle.files.specs.Lists.{In}
use Rattle.files.specs.Domain.{Expander, Domain}
use Rattle.files.specs.ReadDomain.{ReadExpander, Read, Bytes, FitsPhy, FitsExpander, FitsDomain}
use Rattle.cards.specs.FileOf.{phy_frame, phys_frames, unit_head, units_of, file_of}

-- bytes as a record, whose list antt finds by itself
record Full (s : List ℕ) : Type 0 where
  all : Bytes s

none : Full []
none = record { all = λ k. omega arith }

more : {x : ℕ} {s : List ℕ} → x < 256 → Full s → Full (x ∷ s)
more {x} {s} h b = record { all = go }
  where
    go : Bytes (x ∷ s)
    go zero = h
    go (suc k) = b.all k

join : {p s : List ℕ} → Full p → Full s → Full (p ++ s)
join {p} {s} a b = record {
  all = λ k. by_cases (dec_lt k (length p))
      (λ h. subst (λ v. v < 256) (sym (get_or-append p s 0 k h)) (a.all k))
      (λ h. let e : k ≡ length p + (k - length p) = omega arith in
      let q : get_or (p ++ s) k 0 ≡ get_or s (k - length p) 0 = ap (λ (n : ℕ). get_or (p ++ s) n 0) e ∙ get_or-append-add p s (k - length p) 0 in
      subst (λ v. v < 256) (sym q) (b.all (k - length p)));
}

number-bytes : (width x : ℕ) → Full (bytes_of width x)
unfolding bytes_of
number-bytes zero x = none
number-bytes (suc width) x = join (number-bytes width (x / 256)) (more (omega arith) none)

zeros : (n : ℕ) → Full (replicate n 0)
zeros zero = none
zeros (suc n) = more (omega arith) (zeros n)

zero-byte : {s : List ℕ} → Full s → Full (0 ∷ s)
zero-byte b = more (omega arith) b

head_bytes : (most : Setting) (e : Expander) → ReadExpander most e → FitsExpander e → Full (unit_head e)
unfolding unit_head short_general
head_bytes most e g h =
    join (number-bytes 8 e.address)
    (more (omega arith) (join (zeros 5) (join (number-bytes 2 e.route_indexes) (zero-byte (more {x = length e.phys} h.count (more {x = e.configurable} (omega (arith, g.configurable)) (zeros 17)))))))

phy-bytes : (own_address p : ℕ) (φ : Phy) → p < 256 → FitsPhy φ → Full (phy_frame own_address p φ)
unfolding short_vacant short_discover
phy-bytes own_address p (Vacant r) h f = more (omega arith) (more (omega arith) (more f (zeros 49)))
phy-bytes own_address p (Present f) h k =
    let tail = more k.1 (join (zeros 11) (more {x = f.attribute % 16} (omega arith) (zeros 7))) in
    let low = zero-byte (zero-byte (zero-byte (join (number-bytes 8 own_address) (join (number-bytes 8 f.address) tail)))) in
    more (omega arith) (more (omega arith) (join (zeros 7) (more h (zero-byte (zero-byte (more {x = f.device_type % 8 * 16} (omega arith) low))))))

phys-bytes : (own_address : ℕ) (φs : List Phy) (p : ℕ) → p + length φs ≤ 256 → ((φ : Phy) → In φ φs → FitsPhy φ) → Full (phys_frames own_address p φs)
unfolding phys_frames
phys-bytes own_address [] p h f = none
phys-bytes own_address (φ ∷ φs) p h f = join (phy-bytes own_address p φ (omega arith) (f φ (inl refl))) (phys-bytes own_address φs (p + 1) (omega arith) (λ ψ k. f ψ (inr k)))

units-bytes : (most : Setting) (d : Domain) → ((e : Expander) → In e d → ReadExpander most e) → ((e : Expander) → In e d → FitsExpander e) → Full (units_of d)
unfolding units_of
units-bytes most [] g h = none
units-bytes most (e ∷ d) g h =
    let f = h e (inl refl) in
    join (head_bytes most e (g e (inl refl)) f)
    (join (phys-bytes e.address e.phys 0 (omega (arith, f.count)) f.phys) (units-bytes most d (λ x k. g x (inr k)) (λ x k. h x (inr k))))

pub file-bytes : (most : Setting) (d : Domain) → Read most d → FitsDomain d → Bytes (file_of d)
unfolding file_of
file-bytes most d g h = (more {x = 0x10} (omega arith) (more {x = length d} h.count (units-bytes most d g.each h.each))).all
