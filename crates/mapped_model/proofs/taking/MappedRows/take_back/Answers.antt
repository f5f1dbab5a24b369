use Rattle.std.proofs.Common.{subst, sym, ◌∙◌}
use Rattle.mapped_model.proofs.taking.MappedRows.take_back.Goals as goal
use Rattle.mapped_model.specs.Tells.{HasDualsFor, TellsBack}

pub certificate_back-requires-clause-shaped : goal.certificate_back-requires-clause-shaped
certificate_back-requires-clause-shaped c = c.self.invariant.shaped

pub certificate_back-requires-clause-maps : goal.certificate_back-requires-clause-maps
certificate_back-requires-clause-maps c = c.deref.ensures.value ∙ c.self.invariant.maps

pub certificate_back-requires-clause-duals : goal.certificate_back-requires-clause-duals
certificate_back-requires-clause-duals c =
    subst (λ f. HasDualsFor f c.args.certificate) (sym c.self.view_is) c.requires

pub returns : goal.returns
returns c =
    subst (λ f. TellsBack f c.args.certificate c.certificate_back.result) c.self.view_is
    c.certificate_back.ensures
