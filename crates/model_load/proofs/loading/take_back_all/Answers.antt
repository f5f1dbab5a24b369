use Rattle.std.proofs.Common.{reverse, subst, sym}
use Rattle.model_load.specs.Loads.{LeadBack}
use Rattle.model_load.proofs.Stepping.{last_step}
use Rattle.model_load.proofs.loading.take_back_all.Goals as goal

pub loop-undo-preserved : goal.loop-undo-preserved
loop-undo-preserved c = λ start h.
    let last =
    last_step start c.loop-undo.model c.loop-undo.undos.items c.pop.new.self.items
    c.in-Some.undo c.in-Some.ensures.items (c.loop-undo.invariant start h) in
    subst (LeadBack start (reverse c.pop.new.self.items))
    (sym (c.take_back.ensures last.0 last.2)) last.1
