-- Affine functions of solver indices.
use Rattle.std.specs.Prelude.{ℕ, List}
use Rattle.std.specs.Ordering.{nat_cmp}
use Rattle.aff_core.specs.Function.{FunctionOver}
use Rattle.aff_core.specs.Rising.{RiseBy}

abbrev pub SolverFunction : Type 0
SolverFunction = FunctionOver nat_cmp

-- each index is above all earlier ones
abbrev pub IndicesRise : {X : Type 0} → List (ℕ × X) → Type 0
IndicesRise es = RiseBy nat_cmp es
