-- Faults of the layers below, as the cache tells them.
use Rattle.ratio_core.specs.declared.fault.NumberFault.{NumberFault}
use Rattle.ratio_core.specs.declared.fault.NumberFault.TheVariants as number
use Rattle.cache_layer.specs.declared.fault.AttachFault.{AttachFault}
use Rattle.cache_layer.specs.declared.fault.AttachFault.TheVariants as attach
use Rattle.cache_layer.specs.declared.fault.BridgeFault.{BridgeFault}
use Rattle.cache_layer.specs.declared.fault.BridgeFault.TheVariants as bridge
use Rattle.cache_layer.specs.declared.fault.EditFault.{EditFault}
use Rattle.cache_layer.specs.declared.fault.EditFault.TheVariants.{Memory, Overflow, Refused, Unsupported}
use Rattle.cache_layer.specs.declared.fault.GroupFault.{GroupFault}
use Rattle.cache_layer.specs.declared.fault.GroupFault.TheVariants as group
use Rattle.cache_layer.specs.declared.fault.OptFault.{OptFault}
use Rattle.cache_layer.specs.declared.fault.OptFault.TheVariants as opt
use Rattle.model_load.specs.declared.fault.Unmade.{Unmade}
use Rattle.model_load.specs.declared.fault.Unmade.TheVariants as part
use Rattle.report_core.specs.declared.refused.Place.TheVariants.{Solver}
use Rattle.simplex_core.specs.declared.fault.SolveFault.{SolveFault}
use Rattle.simplex_core.specs.declared.fault.SolveFault.TheVariants as solve
use Rattle.std_form.specs.declared.fault.FormFault.{FormFault}
use Rattle.std_form.specs.declared.fault.FormFault.TheVariants as form
use Rattle.user_model.specs.declared.refusal.ApplyFault.{ApplyFault}
use Rattle.user_model.specs.declared.refusal.ApplyFault.TheVariants as apply

abbrev pub edit_fault : ApplyFault → EditFault
edit_fault (apply.Refused refusal) = Refused refusal
edit_fault apply.Memory = Memory

abbrev pub group_fault_of : Unmade → GroupFault
group_fault_of (part.Refused index refusal) = group.Refused index refusal
group_fault_of part.Memory = group.Memory

abbrev pub group_fault : BridgeFault → GroupFault
group_fault (bridge.Unsupported kind) = group.Unsupported kind
group_fault (bridge.Overflow place) = group.Overflow place
group_fault bridge.Memory = group.Memory

abbrev pub bridge_fault : BridgeFault → EditFault
bridge_fault (bridge.Unsupported kind) = Unsupported kind
bridge_fault (bridge.Overflow place) = Overflow place
bridge_fault bridge.Memory = Memory

abbrev pub attach_fault : BridgeFault → AttachFault
attach_fault (bridge.Unsupported kind) = attach.Unsupported kind
attach_fault (bridge.Overflow place) = attach.Overflow place
attach_fault bridge.Memory = attach.Memory

abbrev pub form_fault : FormFault → OptFault
form_fault (form.TooLarge cells) = opt.TooLarge cells
form_fault form.Overflow = opt.Overflow Solver
form_fault form.Memory = opt.Memory

abbrev pub solve_fault : SolveFault → OptFault
solve_fault (solve.Limit basis pivots) = opt.Limit pivots
solve_fault (solve.Overflow basis) = opt.Overflow Solver
solve_fault solve.Memory = opt.Memory

abbrev pub read_fault : NumberFault → OptFault
read_fault number.Overflow = opt.Overflow Solver
read_fault number.Memory = opt.Memory
