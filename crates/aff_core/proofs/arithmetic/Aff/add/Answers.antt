use Rattle.std.specs.Prelude.{◌≡◌, filter}
use Rattle.std.proofs.Common.{sym, ap, subst, ◌∙◌}
use Rattle.std.specs.FinMap.{entries, from_sorted}
use Rattle.ratio_core.specs.Rational.{SumFits, ◌+ℚ◌}
use Rattle.ratio_core.specs.AnsweredLaws.{passed_on}
use Rattle.aff_core.specs.Address.{address_cmp, address_total}
use Rattle.aff_core.specs.Arithmetic.{sum_of, added_terms, TermsFit}
use Rattle.aff_core.specs.ArithmeticLaws.{is_sum}
use Rattle.aff_core.specs.Function.{function_of, terms_of}
use Rattle.aff_core.specs.FunctionLaws.{entries_rise, filter_nonzero, filter_rises, function_of-filter}
use Rattle.aff_core.specs.KeyOrder.{address_order}
use Rattle.aff_core.specs.Rising.{RiseStrictly}
use Rattle.aff_core.specs.Terms.{HaveNoZero, is_nonzero}
use Rattle.map_laws.specs.MadeLaws.{from_sorted-entries}
use Rattle.aff_core.proofs.arithmetic.Aff.add.Goals as goal

pub summed_terms-requires-clause-left : goal.summed_terms-requires-clause-left
summed_terms-requires-clause-left c =
    subst RiseStrictly (sym c.terms.ensures.all) c.terms.ensures.rising

pub summed_terms-requires-clause-right : goal.summed_terms-requires-clause-right
summed_terms-requires-clause-right c =
    subst RiseStrictly (sym c.terms-2.ensures.all) c.terms-2.ensures.rising

pub summed_terms-requires-clause-left_nonzero : goal.summed_terms-requires-clause-left_nonzero
summed_terms-requires-clause-left_nonzero c =
    subst HaveNoZero (sym c.terms.ensures.all) c.terms.ensures.nonzero

pub summed_terms-requires-clause-right_nonzero : goal.summed_terms-requires-clause-right_nonzero
summed_terms-requires-clause-right_nonzero c =
    subst HaveNoZero (sym c.terms-2.ensures.all) c.terms-2.ensures.nonzero

pub returns-in_err-terms : goal.returns-in_err-terms
returns-in_err-terms c =
    let mine : c.args.self.now.terms ≡ from_sorted {R = address_cmp} c.terms.result.now =
    sym (from_sorted-entries address_total c.args.self.now.terms) ∙ ap from_sorted
    (sym c.terms.ensures.all) in
    passed_on c.from_residual-in_err-terms.result c.in_err-terms.field-0.0
    (TermsFit (from_sorted {R = address_cmp} c.terms.result.now) c.terms-2.result.now) _ _ _
    c.from_residual-in_err-terms.ensures.1 c.in_err-terms.ensures
    (λ h. subst (λ m. TermsFit m c.terms-2.result.now) mine (subst (TermsFit c.args.self.now.terms)
    (sym c.terms-2.ensures.all) h.terms))

pub of-requires-clause-rising : goal.of-requires-clause-rising
of-requires-clause-rising c =
    subst RiseStrictly (sym c.in_ok-terms.ensures.1) (filter_rises _ (entries_rise _))

pub of-requires-clause-nonzero : goal.of-requires-clause-nonzero
of-requires-clause-nonzero c = subst HaveNoZero (sym c.in_ok-terms.ensures.1) (filter_nonzero _)

pub returns : goal.returns
unfolding sum_of
returns c =
    let f = c.args.self.now in
    let g = c.args.other.now in
    let mine : from_sorted {R = address_cmp} c.terms.result.now ≡ f.terms =
    ap from_sorted c.terms.ensures.all ∙ from_sorted-entries address_total f.terms in (
      record {
        constant = subst (SumFits f.constant) c.constant-2.ensures
            (subst (λ k. SumFits k c.constant-2.result) c.constant.ensures
            c.in_ok-constant.ensures.exact.0);
        terms = subst (TermsFit f.terms) c.terms-2.ensures.all
            (subst (λ m. TermsFit m c.terms-2.result.now) mine c.in_ok-terms.ensures.0);
      },
      is_sum address_order f g _ (c.of.ensures
          ∙ (λ i. function_of ((c.in_ok-terms.ensures.1
          ∙ (λ k. filter is_nonzero (entries (added_terms (mine k) (c.terms-2.ensures.all k)))))
          i) ((c.in_ok-constant.ensures.exact.1
          ∙ (λ k. c.constant.ensures k +ℚ c.constant-2.ensures k)) i))
          ∙ function_of-filter (entries (added_terms f.terms (terms_of g)))
          (f.constant +ℚ g.constant) (entries_rise (added_terms f.terms (terms_of g)))),
    )
