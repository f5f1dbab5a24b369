-- Magnitudes added from the left, step by step.
use Rattle.std.specs.Prelude.{◌≡◌, ℕ, ◌+◌, ◌<◌, List, [], ◌∷◌, map, length, refl}
use Rattle.std.proofs.Common.{get_or, drop, sym, ap, subst, ◌∙◌}
use Rattle.std.proofs.lemmas.List.{drop_more}
use Rattle.ratio_core.specs.Rational.{Rational, ◌+ℚ◌, abs_ℚ, SumFits}
use Rattle.ratio_core.specs.Folds.{FoldFits, sum_from}

-- what is left, from the sum so far, is as all of it is
pub record IsAsAll (start sum : Rational) (qs rest : List Rational) : Type 0 where
  pub value : sum_from sum (map abs_ℚ rest) ≡ sum_from start (map abs_ℚ qs)
  pub fits : FoldFits sum (map abs_ℚ rest) → FoldFits start (map abs_ℚ qs)
  pub only : FoldFits start (map abs_ℚ qs) → FoldFits sum (map abs_ℚ rest)

pub as_all-start : (start : Rational) (qs : List Rational) → IsAsAll start start qs qs
as_all-start start qs = record { value = refl; fits = λ h. h; only = λ h. h }

pub as_all-end : (start sum : Rational) (qs : List Rational) → IsAsAll start sum qs []
    → FoldFits start (map abs_ℚ qs) × (sum ≡ sum_from start (map abs_ℚ qs))
unfolding FoldFits
as_all-end start sum qs h = (h.fits tt, h.value)

-- what is left begins with the number that is read
pub next_number : (qs : List Rational) (i : ℕ) (q : Rational) → q ≡ get_or qs i q → i < length qs
    → drop i qs ≡ q ∷ drop (i + 1) qs
next_number qs i q is lt = drop_more qs i q lt ∙ ap (λ r. r ∷ drop (i + 1) qs) (sym is)

module _ (start sum : Rational) (qs rest left : List Rational) (q : Rational)
    (so_far : IsAsAll start sum qs rest) (next : rest ≡ q ∷ left) where
  pub as_all-step : SumFits sum (abs_ℚ q) → IsAsAll start (sum +ℚ abs_ℚ q) qs left
  unfolding FoldFits
  as_all-step step = record {
    value = sym (ap (λ l. sum_from sum (map abs_ℚ l)) next) ∙ so_far.value;
    fits = λ h. so_far.fits (subst (λ l. FoldFits sum (map abs_ℚ l)) (sym next) (step, h));
    only = λ h. (subst (λ l. FoldFits sum (map abs_ℚ l)) next (so_far.only h)).1;
  }

  pub as_all-fits : FoldFits start (map abs_ℚ qs) → SumFits sum (abs_ℚ q)
  unfolding FoldFits
  as_all-fits h = (subst (λ l. FoldFits sum (map abs_ℚ l)) next (so_far.only h)).0
