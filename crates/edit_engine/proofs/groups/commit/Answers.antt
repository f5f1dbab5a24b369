use Rattle.std.proofs.Common.{List, subst}
use Rattle.cache_layer.specs.Answers.{IsGroupAnswer}
use Rattle.cache_layer.specs.Cached.{state_of}
use Rattle.edit_engine.specs.Script.{group_answer}
use Rattle.edit_engine.proofs.FewTold.{group_told}
use Rattle.edit_engine.proofs.Steps.{told}
use Rattle.edit_engine.proofs.Untouched.{group_untouched}
use Rattle.edit_engine.proofs.groups.commit.Goals as goal
use Rattle.user_model.specs.declared.edit.Edit.{Edit}

pub returns-clause-step : goal.returns-clause-step
returns-clause-step g c =
    let old = state_of c.args.cache.now in
    told group_answer (IsGroupAnswer old c.args.edits.now) old (state_of c.group-made.new.self)
    c.group-made.result c.tell.result
    (subst (λ (es : List Edit). IsGroupAnswer old es c.group-made.result
    (state_of c.group-made.new.self)) c.as_slice.ensures c.group-made.ensures.answer)
    c.tell.ensures

pub returns-clause-untouched : goal.returns-clause-untouched
returns-clause-untouched g c =
    group_untouched c.group-made.result c.args.cache.now c.group-made.new.self c.tell.result
    c.group-made.ensures.untouched c.tell.ensures

pub returns-clause-few : goal.returns-clause-few
returns-clause-few g c =
    group_told (state_of c.args.cache.now) (state_of c.group-made.new.self) c.as_slice.result.now
    c.group-made.result c.args.cache.now.lazy c.group-made.new.self.lazy c.tell.result
    c.group-made.ensures.answer c.group-made.ensures.few c.tell.ensures
