use Rattle.std.specs.Prelude.{◌≡◌, [], length, OkIff, IsErr, T, Result, Ok, Err, ◌≤◌}
use Rattle.std.proofs.Common.{drop, sym, subst, ◌∙◌}
use Rattle.std.proofs.Math.ListN.{drop_of_length-le}
use Rattle.map_laws.specs.LoopLaws.{next_item}
use Rattle.ratio_core.specs.Rational.{zero_ℚ}
use Rattle.aff_core.specs.Function.{terms_of}
use Rattle.aff_core.specs.Arithmetic.{number_at}
use Rattle.aff_core.specs.ArithmeticLaws.{value_from-value_of}
use Rattle.aff_core.proofs.Values.{IsAsAll, as_all-start, as_all-step, as_all-end, as_all-refused, found_is}
use Rattle.aff_core.proofs.arithmetic.Aff.value.Goals as goal

refused : {T E : Type 0} (r : Result T E) (P : Type 0) (v : T) → IsErr r → (P → ⊥) → OkIff r P v
refused (Ok x) P v is bars = absurd (subst T (sym is) tt)
refused (Err e) P v is bars = bars

pub loop-address-init : goal.loop-address-init
loop-address-init c =
    subst (λ k. IsAsAll c.args.self.now.constant k (terms_of c.args.self.now)
    (terms_of c.args.self.now) (number_at c.args.at.now)) (sym c.constant-value.ensures)
    (as_all-start c.args.self.now.constant (terms_of c.args.self.now) (number_at c.args.at.now))

pub loop-address-preserved : goal.loop-address-preserved
loop-address-preserved c =
    as_all-step c.loop-address.invariant
    (next_item (terms_of c.args.self.now) c.terms-address-items.result.now
    c.loop-address.address-index c.loop-address-item.result c.terms-address-items.ensures.all
    c.loop-address-item.is c.loop-address-test.true)
    (found_is c.args.at.now c.loop-address-item.result.0 c.get.result c.unwrap-number.result zero_ℚ
    c.get.ensures c.unwrap-number.ensures)
    c.in_ok-value.ensures.exact.0 c.in_ok-value.ensures.exact.1

pub returns-in_err-value-clause-exact : goal.returns-in_err-value-clause-exact
returns-in_err-value-clause-exact c =
    refused c.from_residual.result _ _ c.from_residual.ensures.0
    (as_all-refused c.loop-address.invariant
    (next_item (terms_of c.args.self.now) c.terms-address-items.result.now
    c.loop-address.address-index c.loop-address-item.result c.terms-address-items.ensures.all
    c.loop-address-item.is c.loop-address-test.true)
    (found_is c.args.at.now c.loop-address-item.result.0 c.get.result c.unwrap-number.result zero_ℚ
    c.get.ensures c.unwrap-number.ensures)
    c.in_err-value.ensures.exact)

pub returns-clause-exact : goal.returns-clause-exact
returns-clause-exact c =
    let done : drop c.loop-address.address-index (terms_of c.args.self.now) ≡ [] =
    drop_of_length-le (terms_of c.args.self.now)
    (subst (λ l. length l ≤ c.loop-address.address-index) c.terms-address-items.ensures.all
    c.loop-address-test.false) in
    let all = as_all-end c.loop-address.invariant done in
    (all.0, all.1 ∙ value_from-value_of c.args.self.now (number_at c.args.at.now))
