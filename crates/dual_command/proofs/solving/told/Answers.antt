use Rattle.std.proofs.Common.{subst}
use Rattle.std.specs.Prelude.{IfOk}
use Rattle.std.proofs.Common.{sym}
use Rattle.certificates.specs.Good.{Good}
use Rattle.dual_command.proofs.Told.{point_size, says_none, says_unbounded}
use Rattle.dual_command.proofs.solving.told.Goals as goal
use Rattle.dual_command.specs.Says.{SaysDualCertificate}
use Rattle.dual_model.specs.DualOf.{dual_of_model}
use Rattle.dual_model.specs.Solved.{best_duals, no_duals}

pub carried-requires-clause-size : goal.carried-requires-clause-size
carried-requires-clause-size c =
    let m = c.args.model.now.model in
    point_size m _ _ _ _ (subst (Good (dual_of_model m)) c.in-Optimal.is c.requires.good)

pub carried-requires-clause-best : goal.carried-requires-clause-best
carried-requires-clause-best c =
    let m = c.args.model.now.model in
    best_duals m c.rows-valid.ensures.valid c.requires.valid _ _ _ _
    (subst (Good (dual_of_model m)) c.in-Optimal.is c.requires.good)

pub returns-in-Optimal : goal.returns-in-Optimal
returns-in-Optimal c =
    subst (λ d. IfOk c.carried.result (SaysDualCertificate c.args.model.now.model d))
    (sym c.in-Optimal.is) c.carried.ensures

pub returns-in-Infeasible : goal.returns-in-Infeasible
returns-in-Infeasible c =
    let m = c.args.model.now.model in
    says_none m c.printed.result c.args.certificate.now _ _ _ c.in-Infeasible.is
    (no_duals m c.rows-valid.ensures.valid c.requires.valid _ _ _
    (subst (Good (dual_of_model m)) c.in-Infeasible.is c.requires.good))
    c.printed.ensures

pub returns-in-Unbounded : goal.returns-in-Unbounded
returns-in-Unbounded c =
    let m = c.args.model.now.model in
    says_unbounded m c.printed-in-Unbounded.result c.args.certificate.now _ _ c.in-Unbounded.is
    (subst (Good (dual_of_model m)) c.in-Unbounded.is c.requires.good)
    c.printed-in-Unbounded.ensures
