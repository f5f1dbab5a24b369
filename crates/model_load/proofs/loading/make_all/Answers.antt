use Rattle.std.proofs.Common.{length, reverse, ap, sym, arith, ◌∙◌}
use Rattle.std.specs.Vec.Iter.{into_iter_items}
use Rattle.std.proofs.lemmas.List.{nil_from_length}
use Rattle.model_load.proofs.Stepping.{all_made, kept_back, one_made, one_refused}
use Rattle.model_load.proofs.loading.make_all.Goals as goal

pub returns-in-Err-clause-unmade : goal.returns-in-Err-clause-unmade
returns-in-Err-clause-unmade c =
    one_refused c.args.model.now c.loop-edit.model c.args.edits.items
    (into_iter_items c.loop-edit.edit-iterator) (into_iter_items c.next.new.self) c.in-Some.edit
    c.loop-edit.undos.items c.make.new.undos.items c.len.result c.in-Err.fault
    c.behind-unmade.result
    c.in-Some.ensures.steps.0 c.loop-edit.invariant.0 c.in-Err.ensures.refused
    c.in-Err.ensures.undos (c.len.ensures ∙ c.make.new.undos.ok.0)
    c.behind-unmade.ensures

pub returns-in-Err-clause-kept : goal.returns-in-Err-clause-kept
returns-in-Err-clause-kept c =
    c.take_back_all.ensures c.args.model.now
    (kept_back c.args.model.now c.loop-edit.model c.make.new.model c.loop-edit.undos.items
    c.make.new.undos.items c.in-Err.ensures.kept c.in-Err.ensures.undos
    c.loop-edit.invariant.0.back)

pub loop-edit-preserved : goal.loop-edit-preserved
loop-edit-preserved c = (
  one_made c.args.model.now c.loop-edit.model c.make.new.model c.args.edits.items
      (into_iter_items c.loop-edit.edit-iterator) (into_iter_items c.next.new.self) c.in-Some.edit
      c.loop-edit.undos.items c.make.new.undos.items c.in-Some.ensures.steps.0
      c.loop-edit.invariant.0 c.in_default.ensures.ok,
  let was = c.loop-edit.invariant.1 in
      let gone = c.in-Some.ensures.steps.1 in
      let short = ap length c.in-Some.ensures.steps.0 in
      omega arith,
  tt,
  tt,
)

pub returns-clause-made : goal.returns-clause-made
returns-clause-made c =
    all_made c.args.model.now c.loop-edit.model c.args.edits.items
    (into_iter_items c.loop-edit.edit-iterator) c.loop-edit.undos.items
    (nil_from_length _ (sym c.loop-edit.invariant.1 ∙ c.in-None.ensures.steps.0))
    c.loop-edit.invariant.0
