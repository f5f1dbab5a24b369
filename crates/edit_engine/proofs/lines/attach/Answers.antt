use Rattle.cache_layer.specs.Answers.{IsAttached}
use Rattle.cache_layer.specs.Cached.{state_of}
use Rattle.edit_engine.specs.Script.{attach_answer}
use Rattle.edit_engine.proofs.Steps.{told}
use Rattle.edit_engine.proofs.Untouched.{attach_untouched}
use Rattle.edit_engine.proofs.lines.attach.Goals as goal
use Rattle.edit_engine.proofs.FewTold.{attach_told}

pub returns-clause-step : goal.returns-clause-step
returns-clause-step g c =
    let old = state_of c.args.cache.now in
    told attach_answer (IsAttached old) old (state_of c.attach-made.new.self)
    c.attach-made.result c.tell_attached.result c.attach-made.ensures.answer
    c.tell_attached.ensures

pub returns-clause-untouched : goal.returns-clause-untouched
returns-clause-untouched g c =
    attach_untouched c.attach-made.result c.args.cache.now c.attach-made.new.self
    c.tell_attached.result c.attach-made.ensures.untouched c.tell_attached.ensures

pub returns-clause-few : goal.returns-clause-few
returns-clause-few g c =
    attach_told (state_of c.args.cache.now) (state_of c.attach-made.new.self)
    c.attach-made.result c.args.cache.now.lazy c.attach-made.new.self.lazy
    c.tell_attached.result c.attach-made.ensures.answer c.attach-made.ensures.few
    c.tell_attached.ensures
