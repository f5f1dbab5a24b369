-- The bounds that a set sets.
use Rattle.std.specs.Prelude.{Bool, is_some}
use Rattle.set_core.specs.declared.set.Set.{Set}
use Rattle.set_core.specs.Shapes.{lower_bound, upper_bound}

abbrev pub sets_lower : Set → Bool
sets_lower set = is_some (lower_bound set)

abbrev pub sets_upper : Set → Bool
sets_upper set = is_some (upper_bound set)
