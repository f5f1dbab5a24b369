use Rattle.std.proofs.Common.{◌∙◌, ap, sym}
use Rattle.std.specs.Ordering.{nat_cmp}
use Rattle.ratio_core.specs.Rational.{zero_ℚ}
use Rattle.std_form.specs.Borrowed.{function_in}
use Rattle.aff_core.specs.FunctionLaws.{constant-constant_function, constant-variable}
use Rattle.std_form.proofs.equation.Function.constant.Goals as goal

pub returns-in-Zero : goal.returns-in-Zero
returns-in-Zero c =
    c.zero.ensures ∙ sym (constant-constant_function nat_cmp zero_ℚ)
    ∙ ap (λ f. (function_in f).constant) (sym c.in-Zero.is)

pub returns-in-Variable : goal.returns-in-Variable
returns-in-Variable c =
    c.zero-in-Variable.ensures ∙ sym (constant-variable nat_cmp c.in-Variable.field-0)
    ∙ ap (λ f. (function_in f).constant) (sym c.in-Variable.is)
