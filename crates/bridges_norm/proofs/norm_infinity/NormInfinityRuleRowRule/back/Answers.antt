use Rattle.std.proofs.Common.{◌∙◌, ◌-◌, ◌/◌, ap, subst, sym, length}
use Rattle.ratio_core.specs.Folds.{FoldFits}
use Rattle.ratio_core.specs.Rational.{zero_ℚ}
use Rattle.ratio_core.specs.AnsweredLaws.{passed_on}
use Rattle.item_core.specs.Item.{functions_of}
use Rattle.bridges_norm.specs.NormInfinityLaws.{CarriedFits, back_made, dual_long}
use Rattle.bridges_norm.proofs.Loops.{even, halves}
use Rattle.bridges_norm.proofs.norm_infinity.NormInfinityRuleRowRule.back.Goals as goal

pub across_behind-requires : goal.across_behind-requires
across_behind-requires c =
    even (length c.as_slice-numbers.result.now) (length (functions_of c.args._row.now) - 1)
    (ap length c.as_slice-numbers.ensures ∙ dual_long c.args._row.now c.args.dual.now
    c.requires.some c.requires.size)

pub returns-in_err-first : goal.returns-in_err-first
returns-in_err-first c =
    passed_on c.from_residual.result c.in_err-first.field-0.0
    (FoldFits zero_ℚ c.as_slice-numbers.result.now)
    (CarriedFits c.args._row.now c.args.dual.now) _ _ c.from_residual.ensures.1
    c.in_err-first.ensures
    (λ h. subst (FoldFits zero_ℚ) (sym c.as_slice-numbers.ensures) h.0)

pub returns : goal.returns
returns c =
    back_made c.args._row.now c.args.dual.now c.as_slice-numbers.result.now
    (length c.as_slice-numbers.result.now / 2) c.in_ok-first.first c.across_behind.result
    c.as_slice-numbers.ensures
    (halves (length c.as_slice-numbers.result.now) (length (functions_of c.args._row.now) - 1)
    (ap length c.as_slice-numbers.ensures ∙ dual_long c.args._row.now c.args.dual.now
    c.requires.some c.requires.size))
    c.in_ok-first.ensures.0 c.in_ok-first.ensures.1 c.across_behind.ensures
