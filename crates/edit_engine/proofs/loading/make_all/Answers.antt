use Rattle.std.proofs.Common.{List, subst}
use Rattle.cache_layer.specs.Answers.{IsLoaded}
use Rattle.cache_layer.specs.Cached.{state_of}
use Rattle.edit_engine.specs.Script.{load_answer}
use Rattle.edit_engine.proofs.Steps.{told}
use Rattle.edit_engine.proofs.loading.make_all.Goals as goal
use Rattle.user_model.specs.declared.edit.Edit.{Edit}
use Rattle.edit_engine.proofs.FewTold.{few_stays}

pub returns-clause-step : goal.returns-clause-step
returns-clause-step g c =
    let old = state_of c.args.cache.now in
    let new = state_of c.load-made.new.self in
    told load_answer (IsLoaded old c.args.edits) old new c.load-made.result c.tell_loaded.result
    (subst (λ (es : List Edit). IsLoaded old es c.load-made.result new) c.into_vec.ensures
    c.load-made.ensures.answer)
    c.tell_loaded.ensures

pub returns-clause-few : goal.returns-clause-few
returns-clause-few g c =
    few_stays c.tell_loaded.result c.args.cache.now.lazy c.load-made.new.self.lazy
    c.load-made.ensures.lazy
