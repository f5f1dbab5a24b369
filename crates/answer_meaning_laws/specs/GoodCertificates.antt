-- What a good certificate shows of a valid model: of its feasible points alone.
--     Shows model certificate      what it shows
--     GoodCertificatesShow         the law
use Rattle.std.specs.Prelude.{◌≡◌, List}
use Rattle.ratio_core.specs.Rational.{Rational}
use Rattle.certificates.specs.Feasible.{IsBetter, IsFeasible}
use Rattle.certificates.specs.Good.{Good}
use Rattle.certificates.specs.GoodLaws.{BetterPoint, none_is_better, none_is_feasible, some_is_better}
use Rattle.certificates.specs.Points.{objective_value, sense_of}
use Rattle.certificates.specs.declared.certificate.Certificate.{Certificate}
use Rattle.certificates.specs.declared.certificate.Certificate.TheVariants.{Optimal, Infeasible, Unbounded}
use Rattle.user_model.specs.Model.{ModelValue}
use Rattle.user_model.specs.Valid.{IsValid}

module _ (model : ModelValue) where
  -- the point is feasible and has this value, and no feasible point has a better one
  pub record IsBestPoint (value : Rational) (x : List Rational) : Type 0 where
    pub feasible : IsFeasible model x
    pub reached : value ≡ objective_value model x
    pub best : (y : List Rational) → IsFeasible model y
        → ¬ (IsBetter (sense_of model.objective) (objective_value model y) value)

  abbrev pub Shows : Certificate → Type 0
  Shows (Optimal value x rows vars) = IsBestPoint value x
  Shows (Infeasible gap rows vars) = (y : List Rational) → ¬ (IsFeasible model y)
  Shows (Unbounded x d) = (b : Rational) → BetterPoint model b

abbrev pub GoodCertificatesShow : Type 0
GoodCertificatesShow =
    (model : ModelValue) → IsValid model → (certificate : Certificate) → Good model certificate
    → Shows model certificate

pub good_shows : (model : ModelValue) → IsValid model → (certificate : Certificate)
    → Good model certificate → Shows model certificate
good_shows model valid (Optimal value x rows vars) good = record {
  feasible = good.feasible;
  reached = good.primal;
  best = none_is_better model valid value x rows vars good;
}
good_shows model valid (Infeasible gap rows vars) good =
    none_is_feasible model valid gap rows vars good
good_shows model valid (Unbounded x d) good = some_is_better model x d good
