use Rattle.std.proofs.Common.{◌≡◌, subst}
use Rattle.std.specs.Prelude.{IsTrue}
use Rattle.aff_core.specs.Arithmetic.{composed}
use Rattle.fresh_bridging.specs.Entries.{function_in}
use Rattle.fresh_bridging.specs.FitTests.{substitution_fits}
use Rattle.bridge_plan.proofs.NamedLaws.{composed_itself, fits_itself}
use Rattle.bridge_plan.proofs.standing.Standing.composed_owned.Goals as goal

pub returns-then-stays-clause-answer : goal.returns-then-stays-clause-answer
returns-then-stays-clause-answer c =
    let f = c.args.func in
    let e = function_in c.self.inside.expressions in
    let stays = c.stays.ensures c.if-stays.true in
    subst (λ es. IsTrue (substitution_fits (function_in es) f) × (f ≡ composed (function_in es) f))
    c.self.view_is (fits_itself e f stays, composed_itself e f stays)
