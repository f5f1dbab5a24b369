-- The addresses of a model's variables in their order, and at which place one stands.
use Rattle.std.specs.Prelude.{◌≡◌, List, ℕ, AllPairs, Option, Some, None, slice_get, Contains}
use Rattle.std.specs.declared.cmp.Ordering.TheVariants.{Less}
use Rattle.aff_core.specs.Address.{Address, address_cmp}

-- each address is below all later ones
pub record Ascend (us : List Address) : Type 0 where
  pub ascending : AllPairs (λ u w. address_cmp u w ≡ Less) us

-- the address stands at the place, or nowhere
abbrev pub IsVariablePlace : List Address → Address → Option ℕ → Type 0
IsVariablePlace us at (Some place) = slice_get us place ≡ Some at
IsVariablePlace us at None = ¬ (Contains us at)
