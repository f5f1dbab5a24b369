-- The columns of a leaf model's equality form: those of the variables in the order of their
-- addresses, a free variable as two, and then a slack for each equation that has one.
use Rattle.std.specs.Prelude.{ℕ, suc, Bool, true, false, List, [], ◌∷◌, ◌++◌, Option, Some, None, flat_map, map}
use Rattle.std.specs.FinMap as finite
use Rattle.std.specs.declared.cmp.Ordering.{Ordering}
use Rattle.aff_core.specs.Address.{Address}
use Rattle.leaf_model.specs.LeafModel.{LeafModel}
use Rattle.solver_store.specs.declared.leaf.LeafVar.{LeafVar}
use Rattle.solver_store.specs.declared.leaf.LeafVar.TheVariants.{Free, Nonneg}
use Rattle.equality_form.specs.Equations.{EquationOver, equations, slack_of}

-- the columns of a variable, and whether they are negated: a free one is the difference of two
abbrev pub signs : LeafVar → List Bool
signs Free = false ∷ true ∷ []
signs Nonneg = false ∷ []

module _ {K : Type 0} where
  abbrev pub parts_of : K × LeafVar → List (K × Bool)
  parts_of var = map (λ negated. (var.0, negated)) (signs var.1)

  abbrev pub parts_among : List (K × LeafVar) → List (K × Bool)
  parts_among vars = flat_map parts_of vars

abbrev pub parts : LeafModel → List (Address × Bool)
parts leaves = parts_among (finite.entries leaves.variables)

-- the slack of the equation of that number, and whether it is taken off
abbrev pub slack_at : ℕ → Option Bool → List (ℕ × Bool)
slack_at k None = []
slack_at k (Some negated) = (k, negated) ∷ []

-- those of equations that are numbered from k on
module _ {K : Type 0} {R : K → K → Ordering} where
  abbrev pub slacks_from : ℕ → List (EquationOver R) → List (ℕ × Bool)
  slacks_from k [] = []
  slacks_from k (e ∷ es) = slack_at k (slack_of e.set) ++ slacks_from (suc k) es

abbrev pub slacks : LeafModel → List (ℕ × Bool)
slacks leaves = slacks_from 0 (equations leaves)
