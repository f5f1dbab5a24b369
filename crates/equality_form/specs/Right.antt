-- Answers that are right for a leaf model, by the model alone.
use Rattle.std.specs.Prelude.{◌≡◌, List, All, map}
use Rattle.std.specs.FinMap as finite
use Rattle.ratio_core.specs.Rational.{Rational, one_ℚ, zero_ℚ, ◌+ℚ◌, ◌-ℚ◌, ◌≤ℚ◌, ◌‹ℚ◌}
use Rattle.aff_core.specs.Address.{Address}
use Rattle.aff_core.specs.Function.{coefficient, slope, value_of}
use Rattle.aff_core.specs.FunctionLists.{evaluations}
use Rattle.dual_laws.specs.Held.{DualRow, HasDuals, adjoint, gap}
use Rattle.item_core.specs.declared.item.Body.{Body}
use Rattle.item_core.specs.Item.{functions_of, set_of}
use Rattle.leaf_model.specs.LeafModel.{LeafModel}
use Rattle.set_core.specs.Membership.{In}
use Rattle.set_core.specs.Mirrored.{multiplied}
use Rattle.solver_store.specs.declared.leaf.LeafVar.{LeafVar}
use Rattle.solver_store.specs.declared.leaf.LeafVar.TheVariants.{Free, Nonneg}
use Rattle.equality_form.specs.EqualityForm.{cost}
use Rattle.equality_form.specs.ReadBack.{AnswerByAddress, infeasible, optimal, unbounded}

-- ---- rows with duals

abbrev pub held : (Address → List Rational) → Address × Body → DualRow
held y row = record { duals = y row.0; functions = functions_of row.1; set = set_of row.1 }

abbrev pub held_rows : LeafModel → (Address → List Rational) → List DualRow
held_rows leaves y = map (held y) (finite.entries leaves.rows)

-- ---- variables

-- a variable may have the number
abbrev pub Admits : LeafVar → Rational → Type 0
Admits Free q = Unit {0}
Admits Nonneg q = zero_ℚ ≤ℚ q

-- the number may be what is left of a variable's cost
abbrev pub MayCost : LeafVar → Rational → Type 0
MayCost Free q = q ≡ zero_ℚ
MayCost Nonneg q = zero_ℚ ≤ℚ q

-- ---- answers

module _ (leaves : LeafModel) where
  -- a point where `one` is 1, and a ray where it is 0
  pub record IsLeafFeasible (one : Rational) (x : Address → Rational) : Type 0 where
    pub variables : All (λ var. Admits var.1 (x var.0)) (finite.entries leaves.variables)
    pub rows :
        All (λ row. In (multiplied one (set_of row.1)) (evaluations one (functions_of row.1) x))
        (finite.entries leaves.rows)

  -- duals in the dual sets, which leave of each variable's cost what may be left of it
  pub record AreLeafDuals (costs : Address → Rational) (y : Address → List Rational) : Type 0 where
    pub duals : All HasDuals (held_rows leaves y)
    pub left :
        All (λ var. MayCost var.1 (costs var.0 -ℚ adjoint (held_rows leaves y) var.0))
        (finite.entries leaves.variables)

  -- a feasible point and duals that have the same value
  pub record IsLeafOptimal (x : Address → Rational) (y : Address → List Rational) : Type 0 where
    pub feasible : IsLeafFeasible one_ℚ x
    pub duals : AreLeafDuals (coefficient (cost leaves)) y
    pub equal : value_of (cost leaves) x ≡ (cost leaves).constant +ℚ gap (held_rows leaves y)

  -- duals that leave nothing at no cost, and yet have a gap
  pub record IsLeafInfeasible (y : Address → List Rational) : Type 0 where
    pub duals : AreLeafDuals (λ at. zero_ℚ) y
    pub above : zero_ℚ ‹ℚ gap (held_rows leaves y)

  -- a feasible point, and a ray along which the cost falls
  pub record IsLeafUnbounded (x d : Address → Rational) : Type 0 where
    pub feasible : IsLeafFeasible one_ℚ x
    pub ray : IsLeafFeasible zero_ℚ d
    pub falls : slope (cost leaves) d ‹ℚ zero_ℚ

  abbrev pub IsRight : AnswerByAddress → Type 0
  IsRight (optimal x y) = IsLeafOptimal x y
  IsRight (infeasible y) = IsLeafInfeasible y
  IsRight (unbounded x d) = IsLeafUnbounded x d
