-- Readings that agree below the sizes lead to the same turn, to the same tests of a pivot, and to
-- readings that agree.
use Rattle.std.specs.Prelude.{◌≡◌, ℕ, ◌+◌, ◌<◌, Bool, true, false, ◌&&◌, ◌||◌, not, nat_eq, nat_le, nat_lt, Option, Some, None, IsTrue, if◌then◌else◌, slice_index, slice_set, refl}
use Rattle.std.proofs.Common.{◌∙◌, ap, ap₂, arith, sym}
use Rattle.ratio_core.specs.Rational.{Rational, fits, inverse_ℚ, neg_ℚ, one_ℚ, rational_eq, sum_fits, zero_ℚ, ◌*ℚ◌, ◌-ℚ◌, ◌/ℚ◌}
use Rattle.simplex_form.specs.Basis.{pivoted}
use Rattle.simplex_form.specs.Fit.{divided_row_fits, lowered_fits, lowered_prices_fit, lowered_row_fits, pivot_fits, uses_first}
use Rattle.simplex_form.specs.Readings.{Agrees, Readings, basic_at, columns, lowered_price, pivoted_readings, quotient}
use Rattle.simplex_form.specs.Search.{all_below, best_below, least_below, least_row, some_below}
use Rattle.simplex_form.specs.Turns.{entering, enters, first_turn, infeasible_turn, is_artificial, is_below, is_left_above, leaves_before, leaving, may_leave, multipliers_fit, ratio, second_turn, sweep_turn, swept_column, swept_entry, swept_in, turn_in}
use Rattle.simplex_form.specs.declared.turn.Phase.{Phase}
use Rattle.simplex_form.specs.declared.turn.Phase.TheVariants.{First, Second, Sweep}
use Rattle.simplex_laws.specs.RuleLaws.{IsEntering, entering_is}
use Rattle.simplex_laws.specs.SearchLaws.{all_below_same, best_below_same, least_below_same, least_row_same, some_below_same}

pub real_column : (q c m : ℕ) → q < c → q < c + m
real_column q c m h = omega (arith, h)

pub artificial_column : (c m k : ℕ) → k < m → c + k < c + m
artificial_column c m k b = omega (arith, b)

-- ---- how agreement goes on

pub agrees_back : (in_first : Bool) (R S : Readings) → Agrees in_first R S → Agrees in_first S R
agrees_back in_first R S h = record {
  rows = sym h.rows;
  reals = sym h.reals;
  basis = sym h.basis;
  entries = λ i j b c. sym (h.entries i j (row i b) (within j c));
  rights = λ i b. sym (h.rights i (row i b));
  first = λ u j c. sym (h.first u j (within j c));
  second = λ j c. sym (h.second j (within j c));
}
  where
    row : (i : ℕ) → i < R.rows → i < S.rows
    row i b = omega (arith, h.rows, b)

    within : (j : ℕ) → j < R.reals + R.rows → j < S.reals + S.rows
    within j c = omega (arith, h.rows, h.reals, c)

pub agrees_chain : (in_first : Bool) (R S T : Readings) → Agrees in_first R S → Agrees in_first S T
    → Agrees in_first R T
agrees_chain in_first R S T h k = record {
  rows = h.rows ∙ k.rows;
  reals = h.reals ∙ k.reals;
  basis = h.basis ∙ k.basis;
  entries = λ i j b c. h.entries i j (row i b) (within j c) ∙ k.entries i j b c;
  rights = λ i b. h.rights i (row i b) ∙ k.rights i b;
  first = λ u j c. h.first u j (within j c) ∙ k.first u j c;
  second = λ j c. h.second j (within j c) ∙ k.second j c;
}
  where
    row : (i : ℕ) → i < T.rows → i < S.rows
    row i b = omega (arith, k.rows, b)

    within : (j : ℕ) → j < T.reals + T.rows → j < S.reals + S.rows
    within j c = omega (arith, k.rows, k.reals, c)

-- and with the first prices out of use
pub agrees_less : (less in_first : Bool) (R S : Readings) → (IsTrue less → IsTrue in_first)
    → Agrees in_first R S → Agrees less R S
agrees_less less in_first R S u h = record {
  rows = h.rows;
  reals = h.reals;
  basis = h.basis;
  entries = h.entries;
  rights = h.rights;
  first = λ v. h.first (u v);
  second = h.second;
}

module _ (in_first : Bool) (R S : Readings) (h : Agrees in_first R S) where
  basic_same : (i : ℕ) → basic_at R i ≡ basic_at S i
  basic_same i = ap (λ basis. slice_index basis i) h.basis

  -- ---- the rule's choices

  entering_same : (p o : ℕ → Rational) → ((j : ℕ) → j < columns S → p j ≡ o j)
      → entering R p ≡ entering S o
  entering_same p o e =
      ap (λ n. least_below n (λ j. is_below (p j) zero_ℚ)) h.reals
      ∙ least_below_same S.reals (λ j. is_below (p j) zero_ℚ) (λ j. is_below (o j) zero_ℚ)
      (λ j b. ap (λ x. is_below x zero_ℚ) (e j (real_column j S.reals S.rows b)))

  ratio_same : (q i : ℕ) → q < S.reals → i < S.rows → ratio R q i ≡ ratio S q i
  ratio_same q i c b =
      ap₂ (λ x y. x /ℚ y) (h.rights i b) (h.entries i q b (real_column q S.reals S.rows c))

  before_same : (q i k : ℕ) → q < S.reals → i < S.rows → k < S.rows
      → leaves_before R q i k ≡ leaves_before S q i k
  before_same q i k c b d = λ z.
      is_below (ratio_same q i c b z) (ratio_same q k c d z)
      || rational_eq (ratio_same q i c b z) (ratio_same q k c d z)
      && nat_lt (basic_same i z) (basic_same k z)

  leaving_same : (q : ℕ) → q < S.reals → leaving R q ≡ leaving S q
  leaving_same q c =
      ap (λ n. best_below n (may_leave R q) (leaves_before R q)) h.rows
      ∙ best_below_same (may_leave R q) (may_leave S q) (leaves_before R q) (leaves_before S q)
      S.rows (λ i b. ap (is_below zero_ℚ) (h.entries i q b (real_column q S.reals S.rows c)))
      (λ i k b d. before_same q i k c b d)

  swept_column_same : (i : ℕ) → i < S.rows → swept_column R i ≡ swept_column S i
  swept_column_same i b =
      ap (λ n. least_below n (λ j. not (rational_eq (R.entry j i) zero_ℚ))) h.reals
      ∙ least_below_same S.reals (λ j. not (rational_eq (R.entry j i) zero_ℚ))
      (λ j. not (rational_eq (S.entry j i) zero_ℚ))
      (λ j c. ap (λ x. not (rational_eq x zero_ℚ)) (h.entries i j b
      (real_column j S.reals S.rows c)))

  swept_in_same : (i : ℕ) → i < S.rows → swept_in R i ≡ swept_in S i
  swept_in_same i b =
      λ z. if nat_le (h.reals z) (basic_same i z) then swept_column_same i b z else None

  swept_same : swept_entry R ≡ swept_entry S
  swept_same = ap (λ n. least_row n (swept_in R)) h.rows
      ∙ least_row_same S.rows (swept_in R) (swept_in S) swept_in_same

  above_same : is_left_above R ≡ is_left_above S
  above_same =
      ap (λ n. some_below n (λ i. is_artificial R (basic_at R i) && is_below zero_ℚ (R.right i)))
      h.rows
      ∙ some_below_same S.rows (λ i. is_artificial R (basic_at R i) && is_below zero_ℚ (R.right i))
      (λ i. is_artificial S (basic_at S i) && is_below zero_ℚ (S.right i))
      (λ i b z. nat_le (h.reals z) (basic_same i z) && is_below zero_ℚ (h.rights i b z))

  multipliers_same : IsTrue in_first → multipliers_fit R ≡ multipliers_fit S
  multipliers_same u =
      (λ z. all_below (h.rows z) (λ k. sum_fits one_ℚ (neg_ℚ (R.first_price (h.reals z + k)))))
      ∙ all_below_same S.rows (λ k. sum_fits one_ℚ (neg_ℚ (R.first_price (S.reals + k))))
      (λ k. sum_fits one_ℚ (neg_ℚ (S.first_price (S.reals + k))))
      (λ k b. ap (λ x. sum_fits one_ℚ (neg_ℚ x)) (h.first u (S.reals + k)
      (artificial_column S.reals S.rows k b)))

  -- ---- the turn

  second_turn_same : second_turn R (entering R R.second_price)
      ≡ second_turn S (entering S S.second_price)
  second_turn_same = ap (second_turn R) (entering_same R.second_price S.second_price h.second)
      ∙ by_entering (entering S S.second_price) (entering_is S S.second_price)
    where
      by_entering : (o : Option ℕ) → IsEntering S S.second_price o
          → second_turn R o ≡ second_turn S o
      by_entering None e = refl
      by_entering (Some q) e = ap (enters Second q) (leaving_same q e.real)

  sweep_turn_same : sweep_turn R (swept_entry R) ≡ sweep_turn S (swept_entry S)
  sweep_turn_same = ap (sweep_turn R) swept_same ∙ by_entry (swept_entry S)
    where
      by_entry : (o : Option (ℕ × ℕ)) → sweep_turn R o ≡ sweep_turn S o
      by_entry None = second_turn_same
      by_entry (Some found) = refl

  first_turn_same : IsTrue in_first
      → first_turn R (entering R R.first_price) ≡ first_turn S (entering S S.first_price)
  first_turn_same u = ap (first_turn R) (entering_same R.first_price S.first_price (h.first u))
      ∙ by_entering (entering S S.first_price) (entering_is S S.first_price)
    where
      by_entering : (o : Option ℕ) → IsEntering S S.first_price o → first_turn R o ≡ first_turn S o
      by_entering None e =
          λ z. if above_same z then infeasible_turn (multipliers_same u z) else sweep_turn_same z
      by_entering (Some q) e = ap (enters First q) (leaving_same q e.real)

  pub turn_same : (phase : Phase) → (IsTrue (uses_first phase) → IsTrue in_first)
      → turn_in phase R ≡ turn_in phase S
  turn_same First u = first_turn_same (u refl)
  turn_same Sweep u = sweep_turn_same
  turn_same Second u = second_turn_same

  -- ---- a pivot

  module _ (r q : ℕ) (row : r < S.rows) (column : q < columns S) where
    quotient_same : (j : ℕ) → j < columns S → quotient R r q j ≡ quotient S r q j
    quotient_same j b = ap₂ (λ x y. x /ℚ y) (h.entries r j row b) (h.entries r q row column)

    quotient_right : R.right r /ℚ R.entry q r ≡ S.right r /ℚ S.entry q r
    quotient_right = ap₂ (λ x y. x /ℚ y) (h.rights r row) (h.entries r q row column)

    columns_same : columns R ≡ columns S
    columns_same = ap₂ ◌+◌ h.reals h.rows

    divided_same : divided_row_fits R r q ≡ divided_row_fits S r q
    divided_same =
        ap₂ ◌&&◌
        (ap (λ n. all_below n (λ j. fits (quotient R r q j))) columns_same
        ∙ all_below_same (columns S) (λ j. fits (quotient R r q j))
        (λ j. fits (quotient S r q j)) (λ j b. ap fits (quotient_same j b)))
        (ap fits quotient_right)

    lowered_same : (i : ℕ) → i < S.rows → lowered_row_fits R r q i ≡ lowered_row_fits S r q i
    lowered_same i c =
        ap₂ ◌&&◌
        (ap (λ n. all_below n (λ j. lowered_fits (R.entry j i) (R.entry q i) (quotient R r q j)))
        columns_same
        ∙ all_below_same (columns S) (λ j. lowered_fits (R.entry j i) (R.entry q i)
        (quotient R r q j)) (λ j. lowered_fits (S.entry j i) (S.entry q i) (quotient S r q j))
        (λ j b z. lowered_fits (h.entries i j c b z) (h.entries i q c column z)
        (quotient_same j b z)))
        (λ z. lowered_fits (h.rights i c z) (h.entries i q c column z) (quotient_right z))

    others_same : all_below R.rows (λ i. nat_eq i r || lowered_row_fits R r q i)
        ≡ all_below S.rows (λ i. nat_eq i r || lowered_row_fits S r q i)
    others_same =
        ap (λ n. all_below n (λ i. nat_eq i r || lowered_row_fits R r q i)) h.rows
        ∙ all_below_same S.rows (λ i. nat_eq i r || lowered_row_fits R r q i)
        (λ i. nat_eq i r || lowered_row_fits S r q i)
        (λ i c. ap (λ x. nat_eq i r || x) (lowered_same i c))

    prices_same : (p o : ℕ → Rational) → ((j : ℕ) → j < columns S → p j ≡ o j)
        → lowered_prices_fit R p r q ≡ lowered_prices_fit S o r q
    prices_same p o e =
        ap (λ n. all_below n (λ j. lowered_fits (p j) (p q) (quotient R r q j))) columns_same
        ∙ all_below_same (columns S) (λ j. lowered_fits (p j) (p q) (quotient R r q j))
        (λ j. lowered_fits (o j) (o q) (quotient S r q j))
        (λ j b z. lowered_fits (e j b z) (e q column z) (quotient_same j b z))

    first_same : (used : Bool) → (IsTrue used → IsTrue in_first)
        → (not used || lowered_prices_fit R R.first_price r q)
        ≡ (not used || lowered_prices_fit S S.first_price r q)
    first_same true u = prices_same R.first_price S.first_price (h.first (u refl))
    first_same false u = refl

    pub pivot_fits_same : pivot_fits in_first R r q ≡ pivot_fits in_first S r q
    pivot_fits_same = λ z.
        divided_same z && others_same z && first_same in_first (λ u. u) z
        && prices_same R.second_price S.second_price h.second z

    price_same : (p o : ℕ → Rational) → ((j : ℕ) → j < columns S → p j ≡ o j) → (j : ℕ)
        → j < columns S → lowered_price R p r q j ≡ lowered_price S o r q j
    price_same p o e j b = λ z. e j b z -ℚ e q column z *ℚ quotient_same j b z

    pivoted_same_numbers : (w v : ℕ → Rational) → ((i : ℕ) → i < S.rows → w i ≡ v i) → (i : ℕ)
        → i < S.rows → pivoted r (R.entry q) w i ≡ pivoted r (S.entry q) v i
    unfolding pivoted
    pivoted_same_numbers w v e i b = λ z.
        if nat_eq i r then e r row z *ℚ inverse_ℚ (h.entries r q row column z)
        else e i b z
        -ℚ h.entries i q b column z *ℚ (e r row z *ℚ inverse_ℚ (h.entries r q row column z))

    -- what is read after the pivot agrees too
    pub pivoted_agrees : Agrees in_first (pivoted_readings r q R) (pivoted_readings r q S)
    pivoted_agrees = record {
      rows = h.rows;
      reals = h.reals;
      basis = ap (λ basis. slice_set basis r q) h.basis;
      entries =
          λ i j b c. pivoted_same_numbers (R.entry j) (S.entry j) (λ k d. h.entries k j d c) i b;
      rights = λ i b. pivoted_same_numbers R.right S.right h.rights i b;
      first = λ u. price_same R.first_price S.first_price (h.first u);
      second = price_same R.second_price S.second_price h.second;
    }
