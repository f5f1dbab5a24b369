-- What the answers of `build` and `read_back` tell.
use Rattle.std.specs.Prelude.{◌≡◌, ◌-◌, ◌<◌, ◌≤◌, ◌^◌, List, All, Result, Ok, Err, min}
use Rattle.std.specs.FinMap as finite
use Rattle.std.specs.declared.cmp.Ordering.{Ordering}
use Rattle.ratio_core.specs.declared.fault.NumberFault.{NumberFault}
use Rattle.ratio_core.specs.declared.fault.NumberFault.TheVariants as number
use Rattle.address_map.specs.AddressMap.{AddressMap}
use Rattle.aff_core.specs.Function.{FunctionOver}
use Rattle.equality_form.specs.EqualityForm.{cells_of, cost, form_from}
use Rattle.equality_form.specs.Equations.{EquationOver, RightFits, equations}
use Rattle.equality_form.specs.ReadBack.{AnswerFits, read_back}
use Rattle.leaf_model.specs.LeafModel.{LeafModel}
use Rattle.simplex_core.specs.declared.answer.SolverAnswer.{SolverAnswer}
use Rattle.simplex_core.specs.declared.form.StdForm.{StdForm}
use Rattle.solver_store.specs.declared.answer.LeafAnswer.{LeafAnswer}
use Rattle.solver_store.specs.declared.leaf.LeafVar.{LeafVar}
use Rattle.std_form.specs.declared.fault.FormFault.{FormFault}
use Rattle.std_form.specs.declared.fault.FormFault.TheVariants.{TooLarge, Overflow, Memory}
use Rattle.std_form.specs.Answers.{answer_of}

-- the form, its number of cells where they are more than the limit, or else that some right side
-- exceeds 128 bits; running out of memory says nothing
abbrev pub TellsBuilt : {K : Type 0} {R : K → K → Ordering} → List (K × LeafVar)
    → List (EquationOver R)
    → FunctionOver R → Result StdForm FormFault → Type 0
TellsBuilt vars es cost (Ok form) =
    (form ≡ form_from vars es cost) × (cells_of vars es ≤ 16777216) × All RightFits es
TellsBuilt vars es cost (Err (TooLarge cells)) =
    (16777216 < cells_of vars es) × (cells ≡ min (cells_of vars es) (2 ^ 64 - 1))
TellsBuilt vars es cost (Err Overflow) = (cells_of vars es ≤ 16777216) × ¬ All RightFits es
TellsBuilt vars es cost (Err Memory) = Unit {0}

abbrev pub TellsForm : LeafModel → Result StdForm FormFault → Type 0
TellsForm leaves result =
    TellsBuilt (finite.entries leaves.variables) (equations leaves) (cost leaves) result

-- the answer, or that a difference of a free variable's columns doesn't fit
abbrev pub TellsAnswer : AddressMap → LeafModel → SolverAnswer → Result LeafAnswer NumberFault
    → Type 0
TellsAnswer map leaves a (Ok answer) = (answer_of map answer ≡ read_back leaves a)
    × AnswerFits leaves a
TellsAnswer map leaves a (Err number.Overflow) = ¬ AnswerFits leaves a
TellsAnswer map leaves a (Err number.Memory) = Unit {0}
