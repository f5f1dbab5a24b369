-- Numbers beside their places in a list: those that aren't listed are 0.
use Rattle.std.specs.Prelude.{◌≡◌, ℕ, ◌+◌, ◌<◌, ◌≤◌, nat_eq, List, [], ◌∷◌, length, map, slice_index_or, if◌then◌else◌}
use Rattle.std.specs.List.{range_with_len}
use Rattle.ratio_core.specs.Rational.{Rational, zero_ℚ}

-- the number at place k: the first that is listed there, or else 0
abbrev pub number_at : List (ℕ × Rational) → ℕ → Rational
number_at [] k = zero_ℚ
number_at (t ∷ ts) k = if nat_eq t.0 k then t.1 else number_at ts k

-- the first n numbers
abbrev pub numbers_of : ℕ → List (ℕ × Rational) → List Rational
numbers_of n ts = map (number_at ts) (range_with_len 0 n)

-- the places rise, are at least `from` and below `to`
abbrev pub AreTerms : ℕ → ℕ → List (ℕ × Rational) → Type 0
AreTerms from to [] = Unit {0}
AreTerms from to (t ∷ ts) = (from ≤ t.0) × (t.0 < to) × AreTerms (t.0 + 1) to ts

-- no number is 0
abbrev pub HaveNoZeros : List (ℕ × Rational) → Type 0
HaveNoZeros [] = Unit {0}
HaveNoZeros (t ∷ ts) = ¬ (t.1 ≡ zero_ℚ) × HaveNoZeros ts

-- the first n terms are those at places below b
pub record AreTermsSplit (b n : ℕ) (ts : List (ℕ × Rational)) : Type 0 where
  pub before : (k : ℕ) (d : ℕ × Rational) → k < n → (slice_index_or ts k d).0 < b
  pub after : (k : ℕ) (d : ℕ × Rational) → n ≤ k → k < length ts → b ≤ (slice_index_or ts k d).0

-- place p has the number x now, and each other the same; the places before were below p
pub record Puts (p : ℕ) (x : Rational) (before after : List (ℕ × Rational)) : Type 0 where
  pub terms : (n : ℕ) → AreTerms 0 n before → n ≤ p → AreTerms 0 (p + 1) after
  pub nonzero : HaveNoZeros before → HaveNoZeros after
  pub here : (n : ℕ) → AreTerms 0 n before → n ≤ p → number_at after p ≡ x
  pub others : (k : ℕ) → ¬ (p ≡ k) → number_at after k ≡ number_at before k
