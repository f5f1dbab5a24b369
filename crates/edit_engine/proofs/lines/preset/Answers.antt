use Rattle.std.proofs.Common.{subst, sym}
use Rattle.std.specs.Prelude.{OnOk}
use Rattle.cache_layer.specs.Cached.{state_of}
use Rattle.cache_layer.specs.CacheState.{with_table}
use Rattle.lazy_bridge.specs.Few.{ChangesFew}
use Rattle.edit_engine.proofs.FewTold.{preset_few}
use Rattle.edit_engine.proofs.lines.preset.Goals as goal
use Rattle.edit_engine.proofs.lines.preset.Goals.{in-Err, in-Ok}
use Rattle.file_answers.specs.AskingLaws.{on_ok}

pub returns-clause-few : goal.returns-clause-few
returns-clause-few g c =
    let old = state_of c.args.cache.now in
    let few = c.args.cache.now.lazy in
    let new = c.table.new.self.lazy in
    elim c.match-table.branch [
      | in-Ok w ↦ on_ok c.match-table.result _
          (preset_few old (with_table old c.args.table) (state_of c.table.new.self)
          c.table.result _ few new w.in-Ok.is c.table.ensures.answer c.requires.detached
          c.table.ensures.few)
      | in-Err w ↦ subst (λ r. OnOk r (ChangesFew few 0 new)) (sym w.result-is) tt
    ]
