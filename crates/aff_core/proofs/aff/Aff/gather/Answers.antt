use Rattle.std.proofs.Common.{sym, ap, subst, ◌∙◌}
use Rattle.std.specs.Prelude.{filter}
use Rattle.std.specs.FinMap.{entries, from_entries}
use Rattle.aff_core.specs.Address.{address_cmp}
use Rattle.aff_core.specs.Function.{function_of, gathered, HasEachTerm}
use Rattle.aff_core.specs.FunctionLaws.{entries_rise, filter_nonzero, filter_rises, function_of-filter, has_each_term}
use Rattle.aff_core.specs.KeyOrder.{address_order}
use Rattle.aff_core.specs.Rising.{RiseStrictly}
use Rattle.aff_core.specs.Terms.{HaveNoZero, is_nonzero}
use Rattle.aff_core.proofs.aff.Aff.gather.Goals as goal

pub of-requires-clause-rising : goal.of-requires-clause-rising
of-requires-clause-rising c =
    subst RiseStrictly (sym (c.in_ok-terms.ensures
    ∙ ap (λ m. filter is_nonzero (entries m)) c.in_ok-first_coefficients.ensures))
    (filter_rises _ (entries_rise (from_entries {R = address_cmp} c.args.terms.now)))

pub of-requires-clause-nonzero : goal.of-requires-clause-nonzero
of-requires-clause-nonzero c =
    subst HaveNoZero (sym (c.in_ok-terms.ensures ∙ ap (λ m. filter is_nonzero (entries m))
    c.in_ok-first_coefficients.ensures)) (filter_nonzero _)

pub returns-clause-same : goal.returns-clause-same
unfolding gathered
returns-clause-same c =
    c.of.ensures ∙ ap (λ ts. function_of ts c.args.constant) (c.in_ok-terms.ensures
    ∙ ap (λ m. filter is_nonzero (entries m)) c.in_ok-first_coefficients.ensures)
    ∙ function_of-filter _ c.args.constant
    (entries_rise (from_entries {R = address_cmp} c.args.terms.now))

pub returns-clause-each : goal.returns-clause-each
returns-clause-each c =
    subst (HasEachTerm c.args.terms.now) (sym (returns-clause-same c))
    (has_each_term address_order c.args.terms.now c.args.constant c.requires)
