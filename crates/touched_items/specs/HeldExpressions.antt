-- What a map of addresses has for a variable.
--     is_itself      the variable that is kept is this one
--     stays_as       an expression of a variable is what the map has for it: its function, and
--                    whether it is kept; or the variable itself, where the map has none
use Rattle.std.specs.Prelude.{Bool, false, ◌&&◌, Option, Some, None, is_some}
use Rattle.std.specs.Bool.{beq}
use Rattle.std.specs.FinMap as finite
use Rattle.std.specs.Option.{option_map_or}
use Rattle.address_map.specs.AddressMap.{AddressMap}
use Rattle.aff_core.specs.Address.{Address, address_eq}
use Rattle.aff_core.specs.FunctionEq.{function_eq}
use Rattle.bridge_face.specs.Law.{expressed}
use Rattle.fresh_bridging.specs.Entries.{is_kept}
use Rattle.item_core.specs.declared.image.Expression.{Expression}
use Rattle.item_core.specs.declared.image.Expression.TheVariants.{Kept, Bridged}

abbrev pub is_itself : Address → Option Address → Bool
is_itself var kept = option_map_or (λ k. address_eq k var) kept false

abbrev pub kept_by : Expression → Option Address
kept_by (Kept var) = Some var
kept_by (Bridged func) = None

abbrev pub stays_as : AddressMap → Address → Expression → Bool
stays_as m var e =
    option_map_or
    (λ f. beq (is_some (finite.get m.kept var)) (is_kept e) && function_eq f (expressed e))
    (finite.get m.exprs var) (is_itself var (kept_by e))
