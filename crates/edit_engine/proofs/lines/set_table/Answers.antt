use Rattle.cache_layer.specs.Answers.{Becomes}
use Rattle.cache_layer.specs.Cached.{state_of}
use Rattle.cache_layer.specs.CacheState.{with_table}
use Rattle.edit_engine.specs.Script.{edit_answer}
use Rattle.edit_engine.proofs.Steps.{told}
use Rattle.edit_engine.proofs.Untouched.{edit_untouched}
use Rattle.edit_engine.proofs.lines.set_table.Goals as goal
use Rattle.edit_engine.proofs.FewTold.{table_told}

pub returns-clause-step : goal.returns-clause-step
returns-clause-step g c =
    let old = state_of c.args.cache.now in
    told edit_answer (Becomes old (with_table old c.args.table)) old
    (state_of c.table-made.new.self) c.table-made.result c.tell.result c.table-made.ensures.answer
    c.tell.ensures

pub returns-clause-untouched : goal.returns-clause-untouched
returns-clause-untouched g c =
    edit_untouched c.table-made.result c.args.cache.now c.table-made.new.self c.tell.result
    c.table-made.ensures.untouched c.tell.ensures

pub returns-clause-few : goal.returns-clause-few
returns-clause-few g c =
    let old = state_of c.args.cache.now in
    table_told old (with_table old c.args.table) (state_of c.table-made.new.self)
    c.table-made.result c.args.cache.now.lazy c.table-made.new.self.lazy c.tell.result
    c.table-made.ensures.answer c.table-made.ensures.few c.tell.ensures
