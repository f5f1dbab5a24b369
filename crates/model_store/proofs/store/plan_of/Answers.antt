use Rattle.std.proofs.Common.{ap, ◌∙◌}
use Rattle.user_model.specs.Refusals.{first_refusal}
use Rattle.model_store.proofs.store.plan_of.Goals as goal

pub planned-requires-clause-accepts : goal.planned-requires-clause-accepts
planned-requires-clause-accepts c = record {
  consistent = c.groups.ensures.consistent;
  within = c.groups.ensures.within;
  accepted = ap (first_refusal c.args.catalog.now.model) c.in-Ok.ensures.1 ∙ c.in-Ok.ensures.0;
}
