-- Lists that are made of two others, place by place, one after the other.
use Rattle.std.specs.Prelude.{◌≡◌, ◌<◌, ◌≤◌, ◌+◌, ℕ, List, [], ◌∷◌, ◌++◌, map, take, slice_index_or, All, length, refl}
use Rattle.std.specs.List.{zip}
use Rattle.std.proofs.Common.{sym, ap, ap₂, subst, ◌∙◌, arith}
use Rattle.std.proofs.lemmas.List.{take_more, map-append}
use Rattle.std.proofs.lemmas.List.{take_all}
use Rattle.std.proofs.lemmas.List.Elements.{All-get_or, All-more}
use Rattle.std.proofs.lemmas.Slice.Zip.{get_or-zip}
use Rattle.ratio_core.specs.Rational.{Rational, SumFits, ◌+ℚ◌}
use Rattle.rational_laws.specs.Dot.{plus}
use Rattle.bridge_face.specs.BackOf.{SumsFit}

pub length-paired : {X Y : Type 0} (u : List X) (v : List Y) → length u ≡ length v
    → length (zip u v) ≡ length u
length-paired [] v e = refl
length-paired (p ∷ u) [] e = absurd (omega (arith, e))
length-paired (p ∷ u) (q ∷ v) e =
    let rest = length-paired u v (omega (arith, e)) in omega (arith, rest)

module _
    {X Y : Type 0} (n : ℕ) (u : List X) (v : List Y) (long : length u ≡ length v) (p : X) (q : Y)
    (below : n < length u) (first : p ≡ slice_index_or u n p)
    (second : q ≡ slice_index_or v n q) where
  pub within : n < length (zip u v)
  within = let e = length-paired u v long in omega (arith, e, below)

  pub at_place : slice_index_or (zip u v) n (p, q) ≡ (p, q)
  at_place =
      get_or-zip u v n (p, q) below (omega (arith, below, long))
      ∙ ap₂ (λ a b. (a, b)) (sym first) (sym second)

  -- a loop's step: one more
  pub zipped_more : {Z : Type 0} (f : X × Y → Z) (made : List Z) → made ≡ map f (take n (zip u v))
      → made ++ f (p, q) ∷ [] ≡ map f (take (n + 1) (zip u v))
  zipped_more f made so_far =
      ap₂ (λ xs r. xs ++ f r ∷ []) so_far (sym at_place)
      ∙ sym (map-append f (take n (zip u v)) (slice_index_or (zip u v) n (p, q) ∷ []))
      ∙ sym (ap (map f) (take_more (zip u v) n (p, q) within))

-- and its end
pub zipped_all : {X Y : Type 0} (n : ℕ) (u : List X) (v : List Y) → length u ≡ length v
    → length u ≤ n
    → take n (zip u v) ≡ zip u v
zipped_all n u v long past =
    take_all n (zip u v) (let e : length (zip u v) ≡ length u = length-paired u v long
    in omega (arith, e, past))

-- ---- sums

abbrev Pair : Type 0
Pair = Rational × Rational

abbrev summed : Pair → Rational
summed r = r.0 +ℚ r.1

abbrev PairFits : Pair → Type 0
PairFits r = SumFits r.0 r.1

plus-zip : (u v : List Rational) → plus u v ≡ map summed (zip u v)
plus-zip [] v = refl
plus-zip (p ∷ u) [] = refl
plus-zip (p ∷ u) (q ∷ v) = ap (λ s. (p +ℚ q) ∷ s) (plus-zip u v)

-- the first n sums are made, and each fits
pub record SummedTo (n : ℕ) (u v made : List Rational) : Type 0 where
  pub sums : made ≡ map summed (take n (zip u v))
  pub fit : All PairFits (take n (zip u v))

module _
    (n : ℕ) (u v : List Rational) (long : length u ≡ length v) (p q : Rational)
    (below : n < length u)
    (first : p ≡ slice_index_or u n p) (second : q ≡ slice_index_or v n q) where
  pub summed_more : (made : List Rational) → SumFits p q → SummedTo n u v made
      → SummedTo (n + 1) u v (made ++ (p +ℚ q) ∷ [])
  summed_more made fits so_far = record {
    sums = zipped_more n u v long p q below first second summed made so_far.sums;
    fit = All-more PairFits (zip u v) n (p, q) (within n u v long p q below first second) so_far.fit
        (subst PairFits (sym (at_place n u v long p q below first second)) fits);
  }

  -- where one doesn't fit, not all do
  pub sum_refused : ¬ (SumFits p q) → ¬ (SumsFit u v)
  sum_refused refused all =
      refused (subst PairFits (at_place n u v long p q below first second)
      (All-get_or PairFits (zip u v) n (p, q) (within n u v long p q below first second) all))

pub summed_all : (n : ℕ) (u v made : List Rational) → length u ≡ length v → length u ≤ n
    → SummedTo n u v made → SumsFit u v × made ≡ plus u v
summed_all n u v made long past done =
    let all : take n (zip u v) ≡ zip u v = zipped_all n u v long past in
    (subst (All PairFits) all done.fit, done.sums ∙ ap (map summed) all ∙ sym (plus-zip u v))
