-- How few calls of the solver's model a call of the cache takes, by the number that it answers, and
-- that leaves keep their solver indices: over the lazy bridging that the cache shows. Nothing is
-- said after running out of memory.
use Rattle.std.specs.Prelude.{ℕ, Option, Result, Ok, Err, unwrap_or}
use Rattle.lazy_bridge.specs.Few.{ChangesFew}
use Rattle.lazy_bridge.specs.Owned.{Owned}
use Rattle.cache_layer.specs.declared.fault.AttachFault.{AttachFault}
use Rattle.cache_layer.specs.declared.fault.AttachFault.TheVariants as attach
use Rattle.cache_layer.specs.declared.fault.EditFault.{EditFault}
use Rattle.cache_layer.specs.declared.fault.EditFault.TheVariants as edit

-- of an edit or another table; without a number, and after a refusal, no call is made
abbrev pub EditsFew : Result (Option ℕ) EditFault → Owned → Owned → Type 0
EditsFew (Ok count) old new = ChangesFew old (unwrap_or count 0) new
EditsFew (Err edit.Memory) old new = Unit {0}
EditsFew (Err fault) old new = ChangesFew old 0 new

-- the same where a solver is to be attached
abbrev pub AttachesFew : Result ℕ AttachFault → Owned → Owned → Type 0
AttachesFew (Ok count) old new = ChangesFew old count new
AttachesFew (Err attach.Memory) old new = Unit {0}
AttachesFew (Err fault) old new = ChangesFew old 0 new
