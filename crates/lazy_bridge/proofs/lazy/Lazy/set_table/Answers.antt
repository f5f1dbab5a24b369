use Rattle.std.proofs.Common.{ap, ◌∙◌}
use Rattle.bridge_set.specs.Bridges.{choice_in}
use Rattle.item_core.specs.Kind.{kind_number}
use Rattle.lazy_bridge.specs.Owned.{Owned}
use Rattle.lazy_bridge.proofs.Rebridging.{few_on, set_back, set_on}
use Rattle.lazy_bridge.proofs.TableSteps.{start_now, touched_on}
use Rattle.lazy_bridge.proofs.lazy.Lazy.set_table.Goals as goal

pub rebridge-requires : goal.rebridge-requires
rebridge-requires g c =
    let set = c.preset.ensures in (
      c.args.self.now.bridges.table,
      start_now c.args.self.now c.preset.new.self c.args.model.now.model c.args.table
          (record {
            table_is = set.table;
            states = set.states;
            solver = set.solver;
            map = set.map;
            objective_at = set.objective_at;
          })
          c.table-before.ensures.sound set.sound c.table-before.ensures.once
          c.table-before.ensures.native c.requires.native c.requires.stands c.list_choices-choices.result
          (λ kind. c.list_choices-choices.ensures.each kind
          ∙ ap (λ (o : Owned). choice_in o.bridges.choices (kind_number kind)) c.self.view_is),
    )

pub returns-in-Ok-clause-bridged : goal.returns-in-Ok-clause-bridged
returns-in-Ok-clause-bridged g c =
    let set = c.preset.ensures in
    set_on c.args.self.now c.preset.new.self c.rebridge.new.self c.args.table c.args.model.now.model
    c.in-Ok.count
    (record {
      table_is = set.table;
      states = set.states;
      solver = set.solver;
      map = set.map;
      objective_at = set.objective_at;
    })
    c.in-Ok.ensures.bridged

pub returns-in-Err-clause-bridged : goal.returns-in-Err-clause-bridged
returns-in-Err-clause-bridged g c =
    let set = c.preset.ensures in
    let back = c.preset-in-Err.ensures in
    set_back c.args.self.now c.preset.new.self c.rebridge.new.self c.preset-in-Err.new.self
    c.args.table c.args.model.now.model
    (record {
      table_is = set.table;
      states = set.states;
      solver = set.solver;
      map = set.map;
      objective_at = set.objective_at;
    })
    (record {
      table_is = back.table ∙ c.table-before.ensures.table;
      states = back.states;
      solver = back.solver;
      map = back.map;
      objective_at = back.objective_at;
    })
    c.table-before.ensures.sound back.sound c.in-Err.fault c.in-Err.ensures.bridged

pub returns-in-Ok-clause-few : goal.returns-in-Ok-clause-few
returns-in-Ok-clause-few g c =
    let set = c.preset.ensures in
    few_on c.args.self.now c.preset.new.self c.rebridge.new.self c.args.table c.in-Ok.count
    (record {
      table_is = set.table;
      states = set.states;
      solver = set.solver;
      map = set.map;
      objective_at = set.objective_at;
    })
    c.in-Ok.ensures.few

pub returns-in-Ok-clause-touched : goal.returns-in-Ok-clause-touched
returns-in-Ok-clause-touched g c =
    let set = c.preset.ensures in
    touched_on c.args.self.now c.preset.new.self c.args.model.now.model c.args.table
    (record {
      table_is = set.table;
      states = set.states;
      solver = set.solver;
      map = set.map;
      objective_at = set.objective_at;
    })
    c.table-before.ensures.sound set.sound c.table-before.ensures.once
    c.table-before.ensures.native c.requires.native c.requires.stands c.list_choices-choices.result
    (λ kind. c.list_choices-choices.ensures.each kind
    ∙ ap (λ (o : Owned). choice_in o.bridges.choices (kind_number kind)) c.self.view_is) c.rebridge.new.self c.in-Ok.ensures.touched
