-- Leaf models that a solver may have: each row has a set for which there are equations, of its
-- own number of components, and rows and objective name only variables that are there.
use Rattle.std.specs.Prelude.{◌≡◌, All, IsSome, length}
use Rattle.std.specs.FinMap as finite
use Rattle.aff_core.specs.Function.{Function, terms_of}
use Rattle.item_core.specs.declared.item.Body.{Body}
use Rattle.item_core.specs.Item.{functions_of, set_of}
use Rattle.leaf_model.specs.LeafModel.{LeafModel}
use Rattle.set_core.specs.declared.set.Set.{Set}
use Rattle.set_core.specs.declared.set.Set.TheVariants.{LessThan, GreaterThan, EqualTo, Zeros, Nonnegatives, Nonpositives}
use Rattle.set_core.specs.Shapes.{dimension_of}

-- the six sets of native rows
abbrev pub HasEquations : Set → Type 0
HasEquations (LessThan u) = Unit {0}
HasEquations (GreaterThan l) = Unit {0}
HasEquations (EqualTo a) = Unit {0}
HasEquations (Zeros n) = Unit {0}
HasEquations (Nonnegatives n) = Unit {0}
HasEquations (Nonpositives n) = Unit {0}
HasEquations _ = ⊥

pub record IsNativeRow (body : Body) : Type 0 where
  pub set : HasEquations (set_of body)
  pub dimension : dimension_of (set_of body) ≡ length (functions_of body)

abbrev pub NamesVariables : LeafModel → Function → Type 0
NamesVariables leaves f = All (λ t. IsSome (finite.get leaves.variables t.0)) (terms_of f)

pub record IsNativeModel (leaves : LeafModel) : Type 0 where
  pub rows : All (λ row. IsNativeRow row.1) (finite.entries leaves.rows)
  pub row_names :
      All (λ row. All (NamesVariables leaves) (functions_of row.1)) (finite.entries leaves.rows)
  pub objective_names :
      All (λ objective. All (NamesVariables leaves) (functions_of objective.1))
      (finite.entries leaves.objective)
