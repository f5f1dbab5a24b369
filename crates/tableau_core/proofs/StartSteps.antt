-- A column's sum up to the i-th row.
use Rattle.std.specs.Prelude.{◌≡◌, ℕ, ◌+◌, ◌*◌, ◌<◌, ◌≤◌, Bool, true, false, suc, refl, List, length, replicate}
use Rattle.std.proofs.Common.{sym, ◌∙◌, ap, arith, subst, true≢false}
use Rattle.std.proofs.lemmas.List.{length-replicate}
use Rattle.ratio_core.specs.Rational.{Fits, Rational, SumFits, neg_ℚ, one_ℚ, sum_fits, zero_ℚ, ◌+ℚ◌}
use Rattle.ratio_core.specs.RationalLaws.{sum_fits_Decides}
use Rattle.rational_laws.specs.Fitting.{Fits_zero}
use Rattle.simplex_laws.specs.BoundedSumLaws.{same_or_other}
use Rattle.simplex_laws.specs.SearchLaws.{all_below_all, all_below_failed, all_below_more}
use Rattle.simplex_form.specs.Basis.{start}
use Rattle.simplex_form.specs.Board.{entry, price}
use Rattle.simplex_form.specs.BoundedSums.{sum_to}
use Rattle.simplex_form.specs.Fit.{first_sum_fits, start_fits}
use Rattle.simplex_form.specs.Form.{Form, first_cost}
use Rattle.simplex_form.specs.Search.{all_below}
use Rattle.tableau_core.specs.Row.{AllFit, IsChanged, cell}
use Rattle.tableau_core.specs.Start.{AtEachStart, IsListOf, form_of}
use Rattle.tableau_core.specs.StartLaws.{first-artificial, first-real, real-entry, unit-entry, zero-entry}
use Rattle.tableau_core.proofs.ListSteps.{below_or_past, zeros-cell}

-- the first i numbers f are added, and each sum fits
pub record IsSummedTo (n : ℕ) (f : ℕ → Rational) (i : ℕ) (sum : Rational) : Type 0 where
  pub within : i ≤ n
  pub value : sum ≡ sum_to i f
  pub fit : all_below i (λ k. sum_fits (sum_to k f) (f k)) ≡ true

pub summed-more : (n : ℕ) (f : ℕ → Rational) (i : ℕ) (sum next : Rational) → IsSummedTo n f i sum
    → i < n → SumFits sum (f i) → next ≡ sum +ℚ f i → IsSummedTo n f (i + 1) next
summed-more n f i sum next h b fit is = record {
  within = omega arith;
  value = is ∙ ap (λ x. x +ℚ f i) h.value ∙ ap (λ k. sum_to k f) (more_lem i);
  fit = all_below_more i (λ k. sum_fits (sum_to k f) (f k)) h.fit
      ((sum_fits_Decides (sum_to i f) (f i)).1 (subst (λ x. SumFits x (f i)) h.value fit));
}
  where
    more_lem : (i : ℕ) → suc i ≡ i + 1
    more_lem i = omega arith

pub sum-refused : (n : ℕ) (f : ℕ → Rational) (i : ℕ) (sum : Rational) → IsSummedTo n f i sum → i < n
    → ¬ (SumFits sum (f i)) → all_below n (λ k. sum_fits (sum_to k f) (f k)) ≡ false
sum-refused n f i sum h b n-fits =
    all_below_failed n i (λ k. sum_fits (sum_to k f) (f k)) b (by_test (sum_fits (sum_to i f) (f i))
    (sum_fits_Decides (sum_to i f) (f i)).0)
  where
    by_test : (t : Bool) → (t ≡ true → SumFits (sum_to i f) (f i)) → t ≡ false
    by_test true g = absurd (n-fits (subst (λ x. SumFits x (f i)) (sym h.value) (g refl)))
    by_test false g = refl

-- ---- the sums of the columns

-- the sums of the first i rows of a matrix of m rows, each of which fits, and zeros behind them
pub record AreSummed (m c : ℕ) (matrix : List Rational) (i : ℕ)
    (sums : List Rational) : Type 0 where
  pub within : i ≤ m
  pub long : length sums ≡ c + m
  pub columns : (j : ℕ) → j < c → IsSummedTo m (λ k. cell matrix (k * c + j)) i (cell sums j)
  pub rest : (j : ℕ) → c ≤ j → cell sums j ≡ zero_ℚ
  pub all_fit : AllFit sums

pub summed-none : (m c : ℕ) (matrix sums : List Rational) (z : Rational) → z ≡ zero_ℚ
    → sums ≡ replicate (c + m) z → AreSummed m c matrix 0 sums
summed-none m c matrix sums z is e = record {
  within = omega arith;
  long = ap length e ∙ length-replicate (c + m) z;
  columns = λ j b. record { within = omega arith; value = zero_at j; fit = refl };
  rest = λ j b. zero_at j;
  all_fit = λ j. subst Fits (sym (zero_at j)) Fits_zero;
}
  where
    zero_at : (j : ℕ) → cell sums j ≡ zero_ℚ
    zero_at j = ap (λ l. cell l j) (e ∙ ap (replicate (c + m)) is) ∙ zeros-cell (c + m) j

module _ (m c : ℕ) (matrix : List Rational) (i : ℕ) (sums : List Rational)
    (h : AreSummed m c matrix i sums) (row : i < m) where
  pub summed-row : (next : List Rational)
      → IsChanged (λ j x. x +ℚ cell matrix (i * c + j)) c sums next
      → ((j : ℕ) → j < c → sum_fits (cell sums j) (cell matrix (i * c + j)) ≡ true) → AllFit next
      → AreSummed m c matrix (i + 1) next
  summed-row next changed fit all_fit = record {
    within = omega (arith, row);
    long = changed.long ∙ h.long;
    columns = λ j b. summed-more m (λ k. cell matrix (k * c + j)) i (cell sums j) (cell next j)
        (h.columns j b) row ((sum_fits_Decides (cell sums j) (cell matrix (i * c + j))).0 (fit j b))
        (changed.changed j b);
    rest = λ j b. changed.others j b ∙ h.rest j b;
    all_fit = all_fit;
  }

  pub summed-refused : (right costs : List Rational) (j : ℕ) → j < c
      → sum_fits (cell sums j) (cell matrix (i * c + j)) ≡ false
      → start_fits (form_of m c matrix right costs) ≡ false
  summed-refused right costs j b e =
      all_below_failed c j (first_sum_fits (form_of m c matrix right costs)) b
      (sum-refused m (λ k. cell matrix (k * c + j)) i (cell sums j) (h.columns j b) row
      (λ f. true≢false (sym ((sum_fits_Decides (cell sums j) (cell matrix (i * c + j))).1 f) ∙ e)))

-- at the end
module _ (m c : ℕ) (matrix : List Rational) (i : ℕ) (sums : List Rational)
    (h : AreSummed m c matrix i sums) (all : i ≡ m) (right costs : List Rational) where
  abbrev F : Form
  F = form_of m c matrix right costs

  pub prices-fit : start_fits F ≡ true
  prices-fit =
      all_below_all c (first_sum_fits F) (λ j b. subst
      (λ n. all_below n (λ k. sum_fits (sum_to k (λ l. cell matrix (l * c + j)))
      (cell matrix (k * c + j))) ≡ true) all (h.columns j b).fit)

  pub prices-listed : (prices : List Rational) → IsChanged (λ _ x. neg_ℚ x) c sums prices
      → IsListOf (c + m) (price F (start F) (first_cost F)) prices
  prices-listed prices negated = record {
    long = negated.long ∙ h.long;
    cells = λ j b. below_or_past (cell prices j ≡ price F (start F) (first_cost F) j) j c
        (λ k. first-real F j (cell prices j) k (negated.changed j k
        ∙ ap neg_ℚ ((h.columns j k).value
        ∙ ap (λ n. sum_to n (λ l. cell matrix (l * c + j))) all)))
        (λ k. negated.others j k ∙ h.rest j k ∙ sym (first-artificial F j k b));
  }

-- ---- a row at the start

-- its entries, the unit number of its artificial column, and zeros in the others
pub started : (m c : ℕ) (matrix : List Rational) (i : ℕ) → i < m → (row : List Rational)
    → ((j : ℕ) → j < c → cell row j ≡ cell matrix (i * c + j)) → cell row (c + i) ≡ one_ℚ
    → ((j : ℕ) → c ≤ j → j < c + m → ¬ (j ≡ c + i) → cell row j ≡ zero_ℚ)
    → AtEachStart m c matrix (λ F s. (j : ℕ) → j < c + m → cell row j ≡ entry F s j i)
started m c matrix i within row reals unit others right costs j b =
    below_or_past (cell row j ≡ entry F (start F) j i) j c
    (λ d. real-entry F j i (cell row j) within d (reals j d))
    (λ d. same_or_other (cell row j ≡ entry F (start F) j i) j (c + i)
    (λ e. unit-entry F j i (cell row j) within d (omega (arith, e)) (ap (cell row) e ∙ unit))
    (λ n. zero-entry F j i (cell row j) within d (λ e. n (omega (arith, d, e))) (others j d b n)))
  where
    F : Form
    F = form_of m c matrix right costs
