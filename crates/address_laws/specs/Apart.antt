-- Lists of addresses in which each stands once.
use Rattle.std.specs.Prelude.{◌≡◌, ◌⊎◌, zero, suc, List, [], ◌∷◌, ◌++◌, All, Bool, true, false, Contains, refl}
use Rattle.std.specs.List.{IsDistinct}
use Rattle.std.proofs.Common.{arith, inl, inr, sym, ap₂, subst, ◌∙◌}
use Rattle.std.proofs.lemmas.List.Elements.{All-append, All-cons, All-contains, All-head, All-nil, All-tail, All-weaker, recursion_from_All}
use Rattle.std.proofs.lemmas.Map.Keys.{IsDistinct-cons}
use Rattle.ratio_core.specs.Rational.{one_ℚ, zero_ℚ, ◌+ℚ◌}
use Rattle.rational_laws.specs.Field.{+ℚ-zero, zero-+ℚ}
use Rattle.aff_core.specs.Address.{Address, address_eq, address_eq-Decides}
use Rattle.aff_core.specs.Points.{unit}
use Rattle.linear_laws.specs.SupportLaws.{count}
use Rattle.linear_laws.specs.UnitLaws.{same_or_other, unit_other, unit_same}
use Rattle.map_laws.specs.EachLaws.{all_first, all_second, contains_here, contains_later}

-- the address isn't in the list
abbrev pub Avoids : List Address → Address → Type 0
Avoids keys v = All (λ k. ¬ (k ≡ v)) keys

-- no address stands twice
abbrev pub Distinct : List Address → Type 0
Distinct [] = Unit {0}
Distinct (k ∷ keys) = Avoids keys k × Distinct keys

-- ---- in the list or not

pub in_or_not : (keys : List Address) (v : Address) → Contains keys v ⊎ Avoids keys v
in_or_not [] v = inr (All-nil (λ k. ¬ (k ≡ v)))
in_or_not (k ∷ keys) v = by (in_or_not keys v)
  where
    by : Contains keys v ⊎ Avoids keys v → Contains (k ∷ keys) v ⊎ Avoids (k ∷ keys) v
    by (inl c) = inl (contains_later k v keys c)
    by (inr h) =
        same_or_other (Contains (k ∷ keys) v ⊎ Avoids (k ∷ keys) v) k v
        (λ e. inl (subst (λ u. Contains (k ∷ keys) u) e (contains_here k keys)))
        (λ n. inr (All-cons (λ u. ¬ (u ≡ v)) k keys n h))

pub not_in : (keys : List Address) (v : Address) → Avoids keys v → ¬ (Contains keys v)
not_in keys v h c = All-contains (λ k. ¬ (k ≡ v)) keys v h c refl

pub avoids : (keys : List Address) (v : Address) → ¬ (Contains keys v) → Avoids keys v
avoids keys v h = by (in_or_not keys v)
  where
    by : Contains keys v ⊎ Avoids keys v → Avoids keys v
    by (inl c) = absurd (h c)
    by (inr n) = n

-- ---- one list after another

pub distinct-append : (xs ys : List Address) → Distinct xs → Distinct ys → All (Avoids ys) xs
    → Distinct (xs ++ ys)
distinct-append [] ys d e h = e
distinct-append (x ∷ xs) ys d e h = (
  All-append (λ k. ¬ (k ≡ x)) xs ys d.0 (All-head (Avoids ys) x xs h),
  distinct-append xs ys d.1 e (All-tail (Avoids ys) x xs h),
)

pub distinct-first : (xs ys : List Address) → Distinct (xs ++ ys) → Distinct xs
distinct-first [] ys d = tt
distinct-first (x ∷ xs) ys d =
    (all_first (λ k. ¬ (k ≡ x)) xs ys d.0, distinct-first xs ys d.1)

pub distinct-second : (xs ys : List Address) → Distinct (xs ++ ys) → Distinct ys
distinct-second [] ys d = d
distinct-second (x ∷ xs) ys d = distinct-second xs ys d.1

-- what stands in the first isn't in the second
pub distinct-across : (xs ys : List Address) → Distinct (xs ++ ys) → All (Avoids ys) xs
distinct-across [] ys d = All-nil (Avoids ys)
distinct-across (x ∷ xs) ys d =
    All-cons (Avoids ys) x xs (all_second (λ k. ¬ (k ≡ x)) xs ys d.0)
    (distinct-across xs ys d.1)

pub in_first : (xs ys : List Address) (v : Address) → Distinct (xs ++ ys) → Contains xs v
    → Avoids ys v
in_first xs ys v d c = All-contains (Avoids ys) xs v (distinct-across xs ys d) c

pub in_second : (xs ys : List Address) (v : Address) → Distinct (xs ++ ys) → Contains ys v
    → Avoids xs v
in_second xs ys v d c = avoids xs v (λ k. not_in ys v (in_first xs ys v d k) c)

-- ---- the same in other words

pub is_distinct : (keys : List Address) → Distinct keys → IsDistinct address_eq keys
unfolding IsDistinct
is_distinct [] d = tt
is_distinct (k ∷ keys) d =
    IsDistinct-cons address_eq k keys
    (recursion_from_All (λ u. address_eq k u ≡ false) keys
    (All-weaker (λ u. ¬ (u ≡ k)) (λ u. address_eq k u ≡ false) other keys d.0))
    (is_distinct keys d.1)
  where
    other : (u : Address) → ¬ (u ≡ k) → address_eq k u ≡ false
    other u n = by (address_eq k u) refl
      where
        by : (b : Bool) → address_eq k u ≡ b → b ≡ false
        by true e = absurd (n (sym ((address_eq-Decides k u).0 e)))
        by false e = refl

-- an address of the list stands there once, and another never
pub counted_never : (keys : List Address) (v : Address) → Avoids keys v → count keys v ≡ zero_ℚ
counted_never [] v h = refl
counted_never (k ∷ keys) v h =
    ap₂ ◌+ℚ◌ (unit_other k v (All-head (λ u. ¬ (u ≡ v)) k keys h))
    (counted_never keys v (All-tail (λ u. ¬ (u ≡ v)) k keys h))
    ∙ +ℚ-zero zero_ℚ

pub counted_once : (keys : List Address) (v : Address) → Distinct keys → Contains keys v
    → count keys v ≡ one_ℚ
counted_once [] v d c = absurd (omega (arith, c.1))
counted_once (k ∷ keys) v d (zero, inside, is) =
    ap₂ ◌+ℚ◌ (subst (λ u. unit k u ≡ one_ℚ) is (unit_same k))
    (counted_never keys v (subst (Avoids keys) is d.0))
    ∙ +ℚ-zero one_ℚ
counted_once (k ∷ keys) v d (suc place, inside, is) =
    let later : Contains keys v = (place, omega (arith, inside), is) in
    ap₂ ◌+ℚ◌ (unit_other k v (λ e. not_in keys v (subst (Avoids keys) e d.0) later))
    (counted_once keys v d.1 later)
    ∙ zero-+ℚ one_ℚ
