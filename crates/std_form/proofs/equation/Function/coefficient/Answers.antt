use Rattle.std.proofs.Common.{◌∙◌, ap, sym}
use Rattle.ratio_core.specs.Rational.{zero_ℚ}
use Rattle.aff_core.specs.Function.{coefficient}
use Rattle.aff_core.specs.FunctionLaws.{coefficient-constant_function}
use Rattle.std_form.specs.Borrowed.{function_in}
use Rattle.std_form.specs.NameLaws.{index_order}
use Rattle.std_form.proofs.equation.Function.coefficient.Goals as goal

pub returns-in-Zero : goal.returns-in-Zero
returns-in-Zero c =
    c.zero.ensures ∙ sym (coefficient-constant_function index_order zero_ℚ c.args.i)
    ∙ ap (λ f. coefficient (function_in f) c.args.i) (sym c.in-Zero.is)
