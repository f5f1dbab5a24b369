-- What is answered without a certificate is no fault of the shelf.
use Rattle.std.specs.Prelude.{◌≡◌, None, refl}
use Rattle.cache_layer.specs.declared.fault.AttachFault.{AttachFault}
use Rattle.cache_layer.specs.declared.fault.AttachFault.TheVariants as attach
use Rattle.cache_layer.specs.declared.fault.OptFault.{OptFault}
use Rattle.cache_layer.specs.declared.fault.OptFault.TheVariants as opt
use Rattle.file_command.specs.LoadingLaws.{shelf_fault}
use Rattle.model_command.specs.Telling.{attach_fault_answer, optimize_fault_answer}

pub attach_fault : (fault : AttachFault) → shelf_fault (attach_fault_answer fault) ≡ None
attach_fault attach.AlreadyAttached = refl
attach_fault (attach.Unsupported kind) = refl
attach_fault (attach.Overflow place) = refl
attach_fault attach.Memory = refl

pub optimize_fault : (fault : OptFault) → shelf_fault (optimize_fault_answer fault) ≡ None
optimize_fault opt.NotAttached = refl
optimize_fault (opt.TooLarge cells) = refl
optimize_fault (opt.Overflow place) = refl
optimize_fault (opt.Limit n) = refl
optimize_fault opt.Memory = refl
