-- The form that the lists stand for.
use Rattle.std.specs.Prelude.{◌≡◌, ◌*◌, length}
use Rattle.std.specs.List.{All}
use Rattle.ratio_core.specs.Rational.{zero_ℚ, ◌≤ℚ◌}
use Rattle.simplex_form.specs.Form.{Form}
use Rattle.tableau_core.specs.Start.{form_of}
use Rattle.simplex_core.specs.declared.form.StdForm.{StdForm}

-- each list has its length, and no right side is below 0
pub record IsWellShaped (form : StdForm) : Type 0 where
  pub matrix : length form.matrix ≡ form.m * form.c
  pub right : length form.right ≡ form.m
  pub costs : length form.costs ≡ form.c
  pub flips : length form.flips ≡ form.m
  pub nonneg : All (λ b. zero_ℚ ≤ℚ b) form.right

abbrev pub equality_form : StdForm → Form
equality_form form = form_of form.m form.c form.matrix form.right form.costs
