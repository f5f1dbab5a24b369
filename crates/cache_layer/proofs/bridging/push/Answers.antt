use Rattle.std.proofs.Common.{Err, Ok, subst, sym}
use Rattle.lazy_bridge.specs.Pushed.{IsBridgedBy}
use Rattle.local_laws.specs.Unlisted.{LeadBackTo}
use Rattle.small_number_laws.specs.SmallNumbers.{HasSmallNumbers}
use Rattle.user_model.specs.Model.{ModelValue}
use Rattle.user_model.specs.Valid.{IsValid}
use Rattle.cache_layer.proofs.Editing.{fault_of, never_told, told_as}
use Rattle.cache_layer.proofs.bridging.push.Goals as goal

pub push-requires : goal.push-requires
push-requires g c =
    let same = sym c.new-reading.ensures.model in
    record {
      model = c.requires.0;
      stands = c.requires.1;
      back = subst (LeadBackTo c.requires.0 c.args.undos.now) same c.requires.2;
      valid = subst IsValid same c.objective-valid.ensures.valid;
    }

pub returns-in-Ok-clause-bridged : goal.returns-in-Ok-clause-bridged
returns-in-Ok-clause-bridged g c =
    subst (λ (m : ModelValue). IsBridgedBy c.args.lazy.now c.args.lazy.now.bridges.table m
    (Ok c.in-Ok.changed) c.push.new.self) c.new-reading.ensures.model c.in-Ok.ensures.bridged

pub in_names-requires : goal.in_names-requires
in_names-requires g c =
    fault_of c.args.lazy.now c.push.new.self c.args.lazy.now.bridges.table c.args.model.now.model
    c.in-Err.fault
    (subst (λ (m : ModelValue). IsBridgedBy c.args.lazy.now c.args.lazy.now.bridges.table m
    (Err c.in-Err.fault) c.push.new.self) c.new-reading.ensures.model c.in-Err.ensures.bridged)

pub returns-in-Err-clause-bridged : goal.returns-in-Err-clause-bridged
returns-in-Err-clause-bridged g c =
    told_as c.args.lazy.now c.push.new.self c.in_names.new.lazy c.args.lazy.now.bridges.table
    c.args.model.now.model c.in-Err.fault c.in_names.result
    (subst (λ (m : ModelValue). IsBridgedBy c.args.lazy.now c.args.lazy.now.bridges.table m
    (Err c.in-Err.fault) c.push.new.self) c.new-reading.ensures.model c.in-Err.ensures.bridged)
    c.in_names.ensures

pub returns-in-Err-clause-small : goal.returns-in-Err-clause-small
returns-in-Err-clause-small g c = λ small.
    never_told c.args.model.now.model c.push.new.self c.in_names.new.lazy c.in-Err.fault
    c.in_names.result c.in_names.ensures
    (c.in-Err.ensures.small (subst HasSmallNumbers (sym c.new-reading.ensures.model) small))
