-- The rows of the relaxation have as many slacks as the model's own, so a certificate is read by
-- them as by the model's.
use Rattle.std.specs.Prelude.{◌≡◌, ℕ, ◌+◌, ◌-◌, ◌≤◌, cond, not, List, [], ◌∷◌, Result, Ok, Err, IfOk, drop, length, take, refl}
use Rattle.std.proofs.Common.{ap, ap₂, arith, subst, sym, ◌∙◌}
use Rattle.lists.specs.declared.memory.Memory.{Memory}
use Rattle.ratio_core.specs.Rational.{Rational}
use Rattle.certificates.specs.declared.certificate.Certificate.{Certificate}
use Rattle.certificates.specs.declared.certificate.Certificate.TheVariants.{Infeasible, Optimal, Unbounded}
use Rattle.certificates.specs.Good.{Good, IsInfeasible, IsOptimal, IsUnbounded}
use Rattle.user_model.specs.declared.row.Row.{Row}
use Rattle.user_model.specs.Model.{ModelValue, variables}
use Rattle.user_model.specs.Valid.{IsValid}
use Rattle.relaxed_model.specs.HardLaws.{hard_infeasible}
use Rattle.relaxed_model.specs.LeastLaws.{least_is, never_unbounded}
use Rattle.relaxed_model.specs.PlacedLaws.{length-relaxed}
use Rattle.relaxed_model.specs.Relaxed.{at_hard_rows, is_hard, is_soft, slack_violation, relaxed_row, relaxed_rows, row_signs, signs_on, slack_count, slack_violations}
use Rattle.relaxation.specs.Answers.{IsRelaxedFrom, ReadsRelaxation, ShowsRelaxation, hopeless_by, least_by}
use Rattle.relaxation.specs.KeptLaws.{soft_kept}
use Rattle.relaxation.specs.declared.reading.Relaxation.{Relaxation}
use Rattle.relaxation.specs.declared.reading.Relaxation.TheVariants.{Hopeless, Least}

signs_kept : (n : ℕ) (r : Row) → row_signs (relaxed_row n r) ≡ row_signs r
signs_kept n r = ap (λ b. cond b (signs_on r.set) []) (soft_kept n r)

count_kept : (n : ℕ) (rows : List Row) → slack_count (relaxed_rows n rows) ≡ slack_count rows
count_kept n [] = refl
count_kept n (r ∷ rows) =
    ap₂ (λ j k. j + k) (ap length (signs_kept n r)) (count_kept (n + length (row_signs r)) rows)

violations_kept : (n : ℕ) (rows : List Row) (s : List Rational)
    → slack_violations (relaxed_rows n rows) s ≡ slack_violations rows s
violations_kept n [] s = refl
violations_kept n (r ∷ rows) s =
    let later : ℕ = n + length (row_signs r) in
    (λ i. cond (soft_kept n r i)
    (slack_violation (take (length (signs_kept n r i)) s)
    ∷ slack_violations (relaxed_rows later rows) (drop (length (signs_kept n r i)) s))
    (slack_violations (relaxed_rows later rows) s))
    ∙ ap₂ (λ these those. cond (is_soft r)
    (slack_violation (take (length (row_signs r)) s) ∷ these) those)
    (violations_kept later rows (drop (length (row_signs r)) s)) (violations_kept later rows s)

hard_kept : (n : ℕ) (rows : List Row) (ys : List (List Rational))
    → at_hard_rows (relaxed_rows n rows) ys ≡ at_hard_rows rows ys
hard_kept n [] ys = refl
hard_kept n (r ∷ rows) [] = refl
hard_kept n (r ∷ rows) (y ∷ ys) =
    let later : ℕ = n + length (row_signs r) in
    (λ i. cond (not (soft_kept n r i)) (y ∷ at_hard_rows (relaxed_rows later rows) ys)
    (at_hard_rows (relaxed_rows later rows) ys))
    ∙ ap (λ zs. cond (is_hard r) (y ∷ zs) zs) (hard_kept later rows ys)

-- ---- certificates

module _ (model relaxed : ModelValue) (from : IsRelaxedFrom model relaxed) where
  rows_are : relaxed.rows ≡ relaxed_rows model.next.variable model.rows
  rows_are = ap (λ (m : ModelValue). m.rows) from.is

  count_is : slack_count relaxed.rows ≡ slack_count model.rows
  count_is = ap slack_count rows_are ∙ count_kept model.next.variable model.rows

  -- of a list with a number for each variable of the relaxation
  module _ (z : List Rational) (size : length z ≡ length (variables relaxed)) where
    pub enough : slack_count relaxed.rows ≤ length z
    enough =
        omega (
          arith,
          size,
          ap (λ (m : ModelValue). length (variables m)) from.is,
          length-relaxed model from.valid.consistent,
          count_is,
        )

    own_size : length z - slack_count relaxed.rows ≡ length (variables model)
    own_size =
        omega (
          arith,
          size,
          ap (λ (m : ModelValue). length (variables m)) from.is,
          length-relaxed model from.valid.consistent,
          count_is,
        )

  pub reads_least : (value : Rational) (z : List Rational) (rows : List (List Rational))
      (vars : List Rational) → length z ≡ length (variables relaxed)
      → least_by relaxed.rows (length z - slack_count relaxed.rows) value z
      ≡ least_by model.rows (length (variables model)) value z
  reads_least value z rows vars size =
      ap₂ (λ rs k. least_by rs k value z) rows_are (own_size z size)
      ∙ ap (Least value (take (length (variables model)) z))
      (violations_kept model.next.variable model.rows (drop (length (variables model)) z))

  pub reads_hopeless : (gap : Rational) (rows : List (List Rational)) (vars : List Rational)
      → length vars ≡ length (variables relaxed)
      → hopeless_by relaxed.rows (length vars - slack_count relaxed.rows) gap rows vars
      ≡ hopeless_by model.rows (length (variables model)) gap rows vars
  reads_hopeless gap rows vars size =
      ap₂ (λ rs k. hopeless_by rs k gap rows vars) rows_are (own_size vars size)
      ∙ ap (λ ys. Hopeless gap ys (take (length (variables model)) vars))
      (hard_kept model.next.variable model.rows rows)

  -- what is read is shown
  pub shows : (certificate : Certificate) (answer : Relaxation) → IsValid relaxed
      → Good relaxed certificate → ReadsRelaxation model certificate answer
      → ShowsRelaxation model answer
  shows (Optimal value z rows vars) answer valid good reads =
      subst (ShowsRelaxation model) (sym reads)
      (least_is model from.valid (subst IsValid from.is valid) value z rows vars
      (subst (λ m. IsOptimal m value z rows vars) from.is good))
  shows (Infeasible gap rows vars) answer valid good reads =
      subst (ShowsRelaxation model) (sym reads)
      (hard_infeasible model from.valid gap rows vars
      (subst (λ m. IsInfeasible m gap rows vars) from.is good))
  shows (Unbounded x d) answer valid good reads = absurd reads

  pub not_unbounded : (x d : List Rational) → ¬ (Good relaxed (Unbounded x d))
  not_unbounded x d good =
      never_unbounded model from.valid x d (subst (λ m. IsUnbounded m x d) from.is good)

  -- ---- what is answered to a certificate

  module _ (own : List Row) (count : ℕ) (same : own ≡ relaxed.rows)
      (counted : count ≡ slack_count own) where
    counted_too : count ≡ slack_count relaxed.rows
    counted_too = counted ∙ ap slack_count same

    pub enough_for : (z : List Rational) → length z ≡ length (variables relaxed)
        → count ≤ length z
    enough_for z size = omega (arith, counted_too, enough z size)

    module _ (certificate : Certificate) (good : Good relaxed certificate)
        (told : Result Relaxation Memory) where
      pub told_least : (value : Rational) (z : List Rational) (rows : List (List Rational))
          (vars : List Rational) → certificate ≡ Optimal value z rows vars
          → IfOk told (λ answer. answer ≡ least_by own (length z - count) value z)
          → IfOk told (ReadsRelaxation model certificate)
      told_least value z rows vars is h = by told h
        where
          by : (r : Result Relaxation Memory)
              → IfOk r (λ answer. answer ≡ least_by own (length z - count) value z)
              → IfOk r (ReadsRelaxation model certificate)
          by (Ok answer) h =
              subst (λ c. ReadsRelaxation model c answer) (sym is)
              (h ∙ ap₂ (λ rs k. least_by rs (length z - k) value z) same counted_too
              ∙ reads_least value z rows vars (subst (Good relaxed) is good).feasible.size)
          by (Err e) h = tt

      pub told_hopeless : (gap : Rational) (rows : List (List Rational)) (vars : List Rational)
          → certificate ≡ Infeasible gap rows vars
          → IfOk told (λ answer. answer ≡ hopeless_by own (length vars - count) gap rows vars)
          → IfOk told (ReadsRelaxation model certificate)
      told_hopeless gap rows vars is h = by told h
        where
          by : (r : Result Relaxation Memory)
              → IfOk r (λ answer. answer ≡ hopeless_by own (length vars - count) gap rows vars)
              → IfOk r (ReadsRelaxation model certificate)
          by (Ok answer) h =
              subst (λ c. ReadsRelaxation model c answer) (sym is)
              (h ∙ ap₂ (λ rs k. hopeless_by rs (length vars - k) gap rows vars) same counted_too
              ∙ reads_hopeless gap rows vars
              (subst (Good relaxed) is good).duals.each_variable)
          by (Err e) h = tt

      pub told_shown : IsValid relaxed → IfOk told (ReadsRelaxation model certificate)
          → IfOk told (ShowsRelaxation model)
      told_shown valid h = by told h
        where
          by : (r : Result Relaxation Memory) → IfOk r (ReadsRelaxation model certificate)
              → IfOk r (ShowsRelaxation model)
          by (Ok answer) h = shows certificate answer valid good h
          by (Err e) h = tt
