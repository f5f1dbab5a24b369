-- Sets that differ are distinguished.
use Rattle.std.specs.Prelude.{MatchBool}
use Rattle.std.proofs.Common.{◌≡◌, ◌≢◌, arith}
use Rattle.ratio_core.specs.RationalLaws.{rational_eq_Decides}
use Rattle.set_core.specs.contracts.set.SetPartialEq.TheImpl as sets
use Rattle.set_core.specs.declared.set.Set.{Set}

pub same_sets : (s t : Set) → MatchBool ((sets.ghosts).eq s t) (s ≡ t) (s ≢ t)
same_sets s t = grind (arith, rational_eq_Decides)
