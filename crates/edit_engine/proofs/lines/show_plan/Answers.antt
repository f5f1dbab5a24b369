use Rattle.std.proofs.Common.{ap, subst}
use Rattle.std.specs.Prelude.{Ok}
use Rattle.cache_layer.specs.Cached.{state_of}
use Rattle.fresh_bridging.specs.TheRules.{graph_of}
use Rattle.lazy_bridge.specs.Owned.{Owned, setting_in}
use Rattle.report_core.specs.declared.answer.Answer.TheVariants.{Printed}
use Rattle.edit_engine.specs.Script.{AreKindChoices}
use Rattle.edit_engine.proofs.Steps.{plans}
use Rattle.edit_engine.proofs.lines.show_plan.Goals as goal

pub returns : goal.returns
returns g c =
    let choices = c.choices_of-choices.result in
    plans (state_of c.args.cache.now) choices (Ok (Printed c.in_ok-text.text))
    (subst (λ (l : Owned). AreKindChoices (graph_of (setting_in l)) choices) c.lazy.ensures
    c.choices_of-choices.ensures)
    (ap Printed c.in_ok-text.ensures)
