use Rattle.std.proofs.Common.{◌≡◌, ◌++◌, map, take}
use Rattle.ratio_core.specs.Rational.{zero_ℚ}
use Rattle.aff_core.specs.Function.{coefficient}
use Rattle.equality_form.specs.Columns.{parts_among}
use Rattle.equality_form.specs.EqualityForm.{numbers_at}
use Rattle.equality_form.specs.Equations.{flipped}
use Rattle.std.specs.Option.{option_copied}
use Rattle.std_form.specs.Indexed.{is_greatest, objective_in}
use Rattle.std_form.proofs.cells.costs.Given as goal

abbrev pub invariant-loop-slack : goal.invariant-loop-slack
invariant-loop-slack l =
    l.costs.items ≡ map (flipped (is_greatest (option_copied l.fn.objective)))
    (numbers_at (parts_among l.variables)
    (coefficient (objective_in (option_copied l.fn.objective)))) ++ map (λ slack. zero_ℚ)
    (take l._slack-index l.slacks)
