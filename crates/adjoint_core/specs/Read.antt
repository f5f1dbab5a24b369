-- What is read through the map of addresses.
use Rattle.std.specs.Prelude.{List, [], unwrap_or}
use Rattle.std.specs.FinMap as finite
use Rattle.std.specs.FinMap.{FinMap}
use Rattle.std.specs.Ordering.{nat_cmp}
use Rattle.address_map.specs.AddressMap.{AddressMap, ExpressionsByAddress}
use Rattle.aff_core.specs.Address.{Address}
use Rattle.aff_core.specs.Function.{Function, variable}
use Rattle.ratio_core.specs.Rational.{Rational, zero_ℚ}
use Rattle.std_form.specs.Answers.{at_address}

-- a variable's expression: one that has none stands for itself
abbrev pub expression_at : ExpressionsByAddress → Address → Function
expression_at exprs v = unwrap_or (finite.get exprs v) (variable v)

-- the numbers of leaf variables, which are 0 elsewhere
abbrev pub numbers_by : AddressMap → FinMap nat_cmp Rational → Address → Rational
numbers_by map x = at_address zero_ℚ map.vars.indices x

-- the duals of leaf rows
abbrev pub duals_by : AddressMap → FinMap nat_cmp (List Rational) → Address → List Rational
duals_by map y = at_address [] map.rows.indices y
