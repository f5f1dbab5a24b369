-- The objective set, set at another address, or removed. It has an address and no index.
use Rattle.std.specs.Prelude.{◌≡◌, ℕ, List, All, IsSome, Option, Some}
use Rattle.std.specs.FinMap as finite
use Rattle.std.specs.FinMap.{FinMap}
use Rattle.std.specs.Option.{option_map, option_map_or}
use Rattle.address_map.specs.AddressMap.{AddressMap}
use Rattle.aff_core.specs.Address.{Address, address_cmp}
use Rattle.item_core.specs.declared.item.Body.{Body}
use Rattle.leaf_update.specs.Named.{NamesEach}
use Rattle.leaf_update.specs.Splice.{spliced}
use Rattle.leaf_update.specs.Steps.{CallsAtMost}
use Rattle.leaf_model.specs.LeafModel.{Differ, IsCountOf}
use Rattle.leaf_model.specs.ReadThrough.{read_objective, read_through}
use Rattle.solver_store.specs.SolverModel.{Leaves}

abbrev pub no_body : FinMap address_cmp Body
no_body = finite.empty

-- the objective at its address, and nothing else
abbrev pub only : Address → Body → FinMap address_cmp Body
only at body = finite.insert no_body at body

-- at most one objective, at its address
abbrev pub objective_held : Address → Option Body → FinMap address_cmp Body
objective_held at held = option_map_or (only at) held no_body

abbrev pub objective_in : AddressMap → Leaves → Option Body
objective_in map leaves = option_map (read_objective map.vars.indices) leaves.objective

-- all stand at one address at most
abbrev pub HasOneAddress : FinMap address_cmp Body → Type 0
HasOneAddress m =
    (one other : Address) (f g : Body)
    → finite.get m one ≡ Some f → finite.get m other ≡ Some g → one ≡ other

-- an objective can stand in the place of what goes
pub record CanChange (held : FinMap address_cmp Body) (gone : List Address)
    (es : List (Address × Body)) : Type 0 where
  pub there : All (λ at. IsSome (finite.get held at)) gone
  pub one : HasOneAddress (spliced held gone es)

-- it does
pub record ChangesObjective (map : AddressMap) (leaves : Leaves) (at : Address)
    (gone : List Address) (es : List (Address × Body)) (n : ℕ) (after : Leaves)
    (at_after : Address) : Type 0 where
  pub named : NamesEach map after
  pub vars : after.vars ≡ leaves.vars
  pub rows : after.rows ≡ leaves.rows
  pub spliced_is :
      (read_through map after at_after).objective
      ≡ spliced (read_through map leaves at).objective gone es
  pub counts :
      IsCountOf (Differ (read_through map leaves at).objective
      (read_through map after at_after).objective) n
  pub calls : CallsAtMost leaves after n

-- it stands at the address p
pub record SetsObjective (map : AddressMap) (leaves : Leaves) (at p : Address) (body : Body)
    (n : ℕ) (after : Leaves) (at_after : Address) : Type 0 where
  pub named : NamesEach map after
  pub vars : after.vars ≡ leaves.vars
  pub rows : after.rows ≡ leaves.rows
  pub set : (read_through map after at_after).objective ≡ only p body
  pub counts :
      IsCountOf (Differ (read_through map leaves at).objective
      (read_through map after at_after).objective) n
  pub calls : CallsAtMost leaves after n
