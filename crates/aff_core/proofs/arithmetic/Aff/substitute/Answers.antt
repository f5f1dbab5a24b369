use Rattle.std.specs.Prelude.{◌≡◌, [], ◌∷◌, length, ◌≤◌}
use Rattle.std.proofs.Common.{drop, sym, ap, subst, ◌∙◌, ◌+◌}
use Rattle.std.proofs.Math.ListN.{drop_of_length-le}
use Rattle.std.specs.FinMap.{empty, entries}
use Rattle.map_laws.specs.LoopLaws.{next_item}
use Rattle.ratio_core.specs.Rational.{zero_ℚ}
use Rattle.ratio_core.specs.AnsweredLaws.{passed_on, overflowed}
use Rattle.aff_core.specs.Address.{address_cmp}
use Rattle.aff_core.specs.Arithmetic.{TermsFit, added_terms, composed, expression_at}
use Rattle.aff_core.specs.ArithmeticLaws.{is_composition, value_from-linear}
use Rattle.aff_core.specs.Function.{constant_function, function_of, terms_of, value_of}
use Rattle.aff_core.specs.FunctionLaws.{entries_rise, filter_nonzero, filter_rises, function_of-filter}
use Rattle.aff_core.specs.KeyOrder.{address_order}
use Rattle.aff_core.specs.Rising.{RiseStrictly}
use Rattle.aff_core.specs.Terms.{HaveNoZero, TimesFit, times}
use Rattle.aff_core.proofs.Steps.{SubstitutesAsAll, substitutes-start, substitutes-step, substitutes-fits, substitutes-end}
use Rattle.aff_core.proofs.Values.{IsAsAll, as_all-start, as_all-step, as_all-end, as_all-refused, found_is}
use Rattle.aff_core.proofs.arithmetic.Aff.substitute.Goals as goal
use Rattle.aff_core.proofs.arithmetic.Aff.substitute.Goals.{After-unwrap-expression}

pub loop-address-init : goal.loop-address-init
loop-address-init c =
    let e = expression_at c.args.by.now in
    let f = c.args.self.now in
    record {
      constant = subst (λ k. IsAsAll f.constant k (terms_of f) (terms_of f) (λ u. (e u).constant))
          (sym c.constant-constant.ensures) (as_all-start f.constant (terms_of f)
          (λ u. (e u).constant));
      sums = subst (λ m. SubstitutesAsAll e (empty {R = address_cmp}) m (terms_of f) (terms_of f))
          (sym c.new-sums.ensures) (substitutes-start e (empty {R = address_cmp}) (terms_of f));
    }

-- the term of this turn, and its expression
next : (c : After-unwrap-expression) → drop c.loop-address.address-index (terms_of c.args.self.now)
    ≡ c.loop-address-item.result ∷ drop (c.loop-address.address-index + 1)
    (terms_of c.args.self.now)
next c =
    next_item (terms_of c.args.self.now) c.terms-address-items.result.now
    c.loop-address.address-index c.loop-address-item.result c.terms-address-items.ensures.all
    c.loop-address-item.is c.loop-address-test.true

read : (c : After-unwrap-expression) → c.unwrap-expression.result.now
    ≡ expression_at c.args.by.now c.loop-address-item.result.0
read c =
    found_is c.args.by.now c.loop-address-item.result.0 c.get.result c.unwrap-expression.result
    (constant_function zero_ℚ) c.get.ensures c.unwrap-expression.ensures

pub returns-in_err-constant : goal.returns-in_err-constant
returns-in_err-constant c =
    let at = (goal.at.returns-in_err-constant c).After-unwrap-expression in
    overflowed c.from_residual.result c.in_err-constant.field-0.0 _ _ c.from_residual.ensures.1
    c.in_err-constant.ensures.err
    (λ h. as_all-refused c.loop-address.invariant.constant (next at)
    (c.constant.ensures ∙ ap (λ f. f.constant) (read at))
    c.in_err-constant.ensures.exact h.constant)

pub returns-in_err-add_products : goal.returns-in_err-add_products
returns-in_err-add_products c =
    let at = (goal.at.returns-in_err-add_products c).After-unwrap-expression in
    let t = c.loop-address-item.result in
    let terms = c.terms.ensures.all ∙ ap terms_of (read at) in
    passed_on c.from_residual-in_err-add_products.result c.in_err-add_products.field-0.0
    (TimesFit t.1 c.terms.result.now × TermsFit c.loop-address.sums
    (times t.1 c.terms.result.now)) _ _ _
    c.from_residual-in_err-add_products.ensures.1 c.in_err-add_products.ensures
    (λ h.
    let step = substitutes-fits c.loop-address.invariant.sums (next at) (record {
      products = h.products;
      sums_fit = h.sums;
    }) in (
      subst (TimesFit t.1) (sym terms) step.0,
      subst (λ l. TermsFit c.loop-address.sums (times t.1 l)) (sym terms) step.1,
    ))

pub loop-address-preserved : goal.loop-address-preserved
loop-address-preserved c =
    let at = (goal.at.loop-address-preserved c).After-unwrap-expression in
    let t = c.loop-address-item.result in
    let terms = c.terms.ensures.all ∙ ap terms_of (read at) in
    let added = c.in_ok-add_products.ensures in
    record {
      constant = as_all-step c.loop-address.invariant.constant (next at)
          (c.constant.ensures ∙ ap (λ f. f.constant) (read at))
          c.in_ok-constant.ensures.exact.0 c.in_ok-constant.ensures.exact.1;
      sums =
          subst (λ m. SubstitutesAsAll (expression_at c.args.by.now) (empty {R = address_cmp}) m
          (terms_of c.args.self.now)
          (drop (c.loop-address.address-index + 1) (terms_of c.args.self.now)))
          (sym (added.1 ∙ ap (λ l. added_terms c.loop-address.sums (times t.1 l)) terms))
          (substitutes-step c.loop-address.invariant.sums (next at)
          (subst (TimesFit t.1) terms added.0.0)
          (subst (λ l. TermsFit c.loop-address.sums (times t.1 l)) terms added.0.1));
    }

pub of-requires-clause-rising : goal.of-requires-clause-rising
of-requires-clause-rising c =
    subst RiseStrictly (sym c.in_ok-nonzero_terms.ensures)
    (filter_rises _ (entries_rise c.loop-address.sums))

pub of-requires-clause-nonzero : goal.of-requires-clause-nonzero
of-requires-clause-nonzero c =
    subst HaveNoZero (sym c.in_ok-nonzero_terms.ensures) (filter_nonzero _)

pub returns : goal.returns
unfolding composed value_of
returns c =
    let e = expression_at c.args.by.now in
    let f = c.args.self.now in
    let done : drop c.loop-address.address-index (terms_of f) ≡ [] =
    drop_of_length-le (terms_of f) (subst (λ l. length l ≤ c.loop-address.address-index)
    c.terms-address-items.ensures.all c.loop-address-test.false) in
    let sums = substitutes-end c.loop-address.invariant.sums done in
    let value = as_all-end c.loop-address.invariant.constant done in (
      record { constant = value.0; products = sums.0.products; sums = sums.0.sums_fit },
      is_composition address_order e f _ (c.of.ensures
          ∙ ap (λ ts. function_of ts c.loop-address.constant) c.in_ok-nonzero_terms.ensures
          ∙ function_of-filter (entries c.loop-address.sums) c.loop-address.constant
          (entries_rise c.loop-address.sums)
          ∙ (λ i. function_of (entries (sums.1 i))
          ((value.1 ∙ value_from-linear f.constant (terms_of f) (λ u. (e u).constant)) i))
          ),
    )
