use Rattle.cache_layer.specs.Answers.{IsEdited}
use Rattle.cache_layer.specs.Cached.{state_of}
use Rattle.edit_engine.specs.Script.{edit_answer}
use Rattle.edit_engine.proofs.Steps.{told}
use Rattle.edit_engine.proofs.Untouched.{edit_untouched}
use Rattle.edit_engine.proofs.lines.make.Goals as goal
use Rattle.edit_engine.proofs.FewTold.{edit_told}

pub returns-clause-step : goal.returns-clause-step
returns-clause-step g c =
    let old = state_of c.args.cache.now in
    told edit_answer (IsEdited old c.args.edit) old (state_of c.edit-made.new.self)
    c.edit-made.result c.tell.result c.edit-made.ensures.answer c.tell.ensures

pub returns-clause-untouched : goal.returns-clause-untouched
returns-clause-untouched g c =
    edit_untouched c.edit-made.result c.args.cache.now c.edit-made.new.self c.tell.result
    c.edit-made.ensures.untouched c.tell.ensures

pub returns-clause-few : goal.returns-clause-few
returns-clause-few g c =
    edit_told (state_of c.args.cache.now) (state_of c.edit-made.new.self) c.args.edit
    c.edit-made.result c.args.cache.now.lazy c.edit-made.new.self.lazy c.tell.result
    c.edit-made.ensures.answer c.edit-made.ensures.few c.tell.ensures
