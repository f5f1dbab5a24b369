-- What a certificate of the relaxation says of the model.
use Rattle.std.specs.Prelude.{◌≡◌, ℕ, cond, List, [], ◌∷◌, drop, length, take}
use Rattle.ratio_core.specs.Rational.{Rational}
use Rattle.certificates.specs.declared.certificate.Certificate.{Certificate}
use Rattle.certificates.specs.declared.certificate.Certificate.TheVariants.{Infeasible, Optimal, Unbounded}
use Rattle.certificates.specs.Good.{IsInfeasible}
use Rattle.user_model.specs.declared.row.Row.{Row}
use Rattle.user_model.specs.Model.{ModelValue, variables}
use Rattle.user_model.specs.Valid.{IsValid}
use Rattle.relaxed_model.specs.LeastLaws.{IsLeastMissed}
use Rattle.relaxed_model.specs.Relaxed.{at_hard_rows, hard_model, is_hard, is_soft, relaxed_model, slack_violation, slack_violations}
use Rattle.relaxation.specs.declared.reading.Relaxation.{Relaxation}
use Rattle.relaxation.specs.declared.reading.Relaxation.TheVariants.{Hopeless, Least}

-- the model is valid, and the other is its relaxation
pub record IsRelaxedFrom (model relaxed : ModelValue) : Type 0 where
  pub valid : IsValid model
  pub is : relaxed ≡ relaxed_model model

-- what is shown: the least total violation of the soft rows, or that no point meets the hard rows
abbrev pub ShowsRelaxation : ModelValue → Relaxation → Type 0
ShowsRelaxation model (Least total x violations) = IsLeastMissed model total x violations
ShowsRelaxation model (Hopeless gap rows vars) = IsInfeasible (hard_model model) gap rows vars

-- ---- what is read, by the rows and the number of the model's variables

-- of an optimal point its first numbers, and from the others the violation of each soft row
abbrev pub least_by : List Row → ℕ → Rational → List Rational → Relaxation
least_by rows size value z = Least value (take size z) (slack_violations rows (drop size z))

-- of duals those of the hard rows, and the first of the variables
abbrev pub hopeless_by : List Row → ℕ → Rational → List (List Rational) → List Rational
    → Relaxation
hopeless_by rows size gap duals vars = Hopeless gap (at_hard_rows rows duals) (take size vars)

abbrev pub ReadsRelaxation : ModelValue → Certificate → Relaxation → Type 0
ReadsRelaxation model (Optimal value z rows vars) answer =
    answer ≡ least_by model.rows (length (variables model)) value z
ReadsRelaxation model (Infeasible gap rows vars) answer =
    answer ≡ hopeless_by model.rows (length (variables model)) gap rows vars
ReadsRelaxation model (Unbounded x d) answer = ⊥

-- ---- one row

-- its violation, where it is soft, and its duals, where it is hard
abbrev pub own_violations : Row → List Rational → List Rational
own_violations r own = cond (is_soft r) (slack_violation own ∷ []) []

abbrev pub own_duals : Row → List Rational → List (List Rational)
own_duals r own = cond (is_hard r) (own ∷ []) []
