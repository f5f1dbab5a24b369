use Rattle.std.specs.Prelude.{◌≡◌}
use Rattle.std.proofs.Common.{◌∙◌, subst, sym}
use Rattle.aff_core.specs.Function.{evaluated}
use Rattle.certificates.specs.Points.{objective_function}
use Rattle.cert_core.specs.Folds.{EvaluationFits}
use Rattle.cert_core.specs.Points.{numbers_in}
use Rattle.cert_core.specs.Readings.{one_of}
use Rattle.cert_core.proofs.Evaluated.{nothing_read}
use Rattle.cert_core.proofs.objective.reading_of.Goals as goal

pub returns-in-Feasibility : goal.returns-in-Feasibility
returns-in-Feasibility c =
    let one = one_of c.args.reading in
    let x = numbers_in c.args.at.now in
    let nothing = nothing_read one x in
    subst (λ o. EvaluationFits one (objective_function o) x
    × (c.zero.result ≡ evaluated one (objective_function o) x)) (sym c.in-Feasibility.is)
    (nothing.0, c.zero.ensures ∙ nothing.1)
