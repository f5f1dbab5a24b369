use Rattle.std.proofs.Common.{◌++◌, ◌∙◌, false, map}
use Rattle.aff_core.specs.Function.{coefficient}
use Rattle.equality_form.specs.EqualityForm.{numbers_at}
use Rattle.equality_form.specs.Equations.{flipped}
use Rattle.std_form.specs.Indexed.{is_greatest, objective_in}
use Rattle.std.proofs.lemmas.List.{take_all}
use Rattle.std.specs.Option.{option_copied}
use Rattle.ratio_core.specs.Rational.{zero_ℚ}
use Rattle.equality_form.specs.Columns.{parts_among}
use Rattle.std_form.proofs.Pushes.{cost_numbers, mapped_more}
use Rattle.std_form.proofs.cells.costs.Goals as goal

pub returns : goal.returns
returns c =
    c.loop-slack.invariant
    ∙ (λ i. cost_numbers (option_copied c.args.objective) (parts_among c.args.variables.now) i
    ++ map (λ slack. zero_ℚ) (take_all c.loop-slack._slack-index c.args.slacks.now
    c.loop-slack-test.false i))

pub loop-slack-preserved : goal.loop-slack-preserved
loop-slack-preserved c =
    mapped_more (λ slack. zero_ℚ) c.args.slacks.now c.loop-slack._slack-index (0, false)
    (map (flipped (is_greatest (option_copied c.args.objective)))
    (numbers_at (parts_among c.args.variables.now)
    (coefficient (objective_in (option_copied c.args.objective))))) c.loop-slack.costs.items
    c.push.new.self.items c.zero.result c.loop-slack-test.true c.loop-slack.invariant
    c.zero.ensures c.in_ok-push.ensures.items
