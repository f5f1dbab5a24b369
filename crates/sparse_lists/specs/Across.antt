-- Lists side by side.
use Rattle.std.specs.Prelude.{◌≡◌, ℕ, ◌+◌, ◌-◌, ◌<◌, ◌≤◌, List, [], ◌∷◌, ◌++◌, length, replicate, slice_index_or}
use Rattle.ratio_core.specs.Rational.{Rational, zero_ℚ}
use Rattle.sparse_ratios.specs.Terms.{AreTerms}

-- the list at b, which is empty past the last
abbrev pub list_at : List (List Rational) → ℕ → List Rational
list_at lists b = slice_index_or lists b []

-- the list, with zeros behind it so that it has n numbers
abbrev pub padded : ℕ → List Rational → List Rational
padded n list = list ++ replicate (n - length list) zero_ℚ

-- the places rise
abbrev pub PlacesRise : List (ℕ × Rational) → Type 0
PlacesRise terms = (to : ℕ) × AreTerms 0 to terms

-- `all` is the list with zeros behind it
abbrev pub IsStartOf : List Rational → List Rational → Type 0
IsStartOf list all = (n : ℕ) × (all ≡ list ++ replicate n zero_ℚ)

-- the b-th list, where there is one, has the number at the place, with zeros before it
pub record IsPutIn (b place : ℕ) (number : Rational) (before after : List (List Rational)) :
    Type 0 where
  pub long : length after ≡ length before
  pub here : b < length before → list_at after b ≡ padded place (list_at before b) ++ number ∷ []
  pub others : (k : ℕ) → ¬ (k ≡ b) → list_at after k ≡ list_at before k

-- each list, which stood for `place` numbers, stands for one more
pub record ArePutAcross (place : ℕ) (number : ℕ → Rational) (before after : List (List Rational)) :
    Type 0 where
  pub long : length after ≡ length before
  pub each : (b : ℕ) (all : List Rational) → b < length before → length all ≡ place →
      IsStartOf (list_at before b) all → IsStartOf (list_at after b) (all ++ number b ∷ [])
  pub low : (b : ℕ) → length (list_at after b) ≤ place + 1

-- each list, which stood for `place` numbers, stands for those of `more` behind them too
pub record GrowBy (place next : ℕ) (more : ℕ → List Rational) (before after : List (List Rational)) :
    Type 0 where
  pub long : length after ≡ length before
  pub low : (b : ℕ) → length (list_at after b) ≤ next
  pub width : (b : ℕ) → b < length before → place + length (more b) ≡ next
  pub each : (b : ℕ) (row : List Rational) → b < length before → length row ≡ place →
      IsStartOf (list_at before b) row → IsStartOf (list_at after b) (row ++ more b)
