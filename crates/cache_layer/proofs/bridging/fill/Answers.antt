use Rattle.cache_layer.proofs.Editing.{fault_of, never_told, told_as}
use Rattle.cache_layer.proofs.bridging.fill.Goals as goal

pub in_names-requires : goal.in_names-requires
in_names-requires g c =
    fault_of c.args.lazy.now c.fill.new.self c.args.lazy.now.bridges.table c.args.model.now.model
    c.in-Err.fault c.in-Err.ensures.bridged

pub returns-in-Err-clause-bridged : goal.returns-in-Err-clause-bridged
returns-in-Err-clause-bridged g c =
    told_as c.args.lazy.now c.fill.new.self c.in_names.new.lazy c.args.lazy.now.bridges.table
    c.args.model.now.model c.in-Err.fault c.in_names.result c.in-Err.ensures.bridged
    c.in_names.ensures

pub returns-in-Err-clause-small : goal.returns-in-Err-clause-small
returns-in-Err-clause-small g c = λ small.
    never_told c.args.model.now.model c.fill.new.self c.in_names.new.lazy c.in-Err.fault
    c.in_names.result c.in_names.ensures (c.in-Err.ensures.small small)
