use Rattle.std.specs.Prelude.{◌≡◌, All}
use Rattle.std.proofs.Common.{◌∙◌, subst}
use Rattle.aff_core.specs.FunctionLists.{evaluations}
use Rattle.certificates.specs.Points.{functions_of}
use Rattle.cert_core.specs.Folds.{EvaluationFits}
use Rattle.cert_core.specs.Points.{numbers_in}
use Rattle.cert_core.specs.Readings.{one_of}
use Rattle.cert_core.proofs.Evaluated.{hold_in}
use Rattle.cert_core.proofs.points.row_holds.Goals as goal

pub returns : goal.returns
returns c =
    let one = one_of c.args.reading in
    let x = numbers_in c.args.at.now in
    let fs = functions_of c.args.row.now.func in
    let read = subst (λ gs. All (λ f. EvaluationFits one f x) gs
    × (c.in_ok-read.read.items ≡ evaluations one gs x)) c.components_of.ensures
    c.in_ok-read.ensures in
    hold_in c.holds.result one c.args.row.now.set fs x c.deref.result.now read.0
    (c.deref.ensures.value ∙ read.1) c.holds.ensures
