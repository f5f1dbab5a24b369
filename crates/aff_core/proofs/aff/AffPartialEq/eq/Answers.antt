use Rattle.std.specs.Prelude.{◌≡◌, ◌&&◌}
use Rattle.std.proofs.Common.{sym, ap, subst, ◌∙◌}
use Rattle.std.specs.Bool.{Decides}
use Rattle.std.specs.Cmp.Lexicographic.{pointwise}
use Rattle.ratio_core.specs.Rational.{rational_eq}
use Rattle.aff_core.specs.Function.{terms_of}
use Rattle.aff_core.specs.FunctionEq.{term_eq, function_eq, function_eq-Decides}
use Rattle.aff_core.proofs.aff.AffPartialEq.eq.Goals as goal
use Rattle.aff_core.proofs.aff.AffPartialEq.eq.Goals.{After-eq}

constants : (c : After-eq)
    → rational_eq c.args.self.now.constant c.args.other.now.constant ≡ c.eq.result
constants c =
    (λ i. rational_eq (sym c.constant.ensures i) (sym c.constant-2.ensures i)) ∙ sym c.eq.ensures

pub returns-then-eq-clause-value : goal.returns-then-eq-clause-value
unfolding function_eq
returns-then-eq-clause-value c =
    c.eq-then-eq.ensures ∙ (λ i. pointwise term_eq (c.terms.ensures.all i)
    (c.terms-then-eq.ensures.all i))
    ∙ sym (ap (λ b. b && pointwise term_eq (terms_of c.args.self.now) (terms_of c.args.other.now))
    (constants (goal.at.returns-then-eq-clause-value c).After-eq ∙ c.if-eq.true))

pub returns-then-eq-clause-same : goal.returns-then-eq-clause-same
returns-then-eq-clause-same c =
    subst (λ b. Decides b (c.args.self.now ≡ c.args.other.now))
    (sym (returns-then-eq-clause-value c)) (function_eq-Decides c.args.self.now
    c.args.other.now)

pub returns-else-eq-clause-value : goal.returns-else-eq-clause-value
unfolding function_eq
returns-else-eq-clause-value c =
    c.if-eq.false
    ∙ sym (ap (λ b. b && pointwise term_eq (terms_of c.args.self.now) (terms_of c.args.other.now))
    (constants (goal.at.returns-else-eq-clause-value c).After-eq ∙ c.if-eq.false))

pub returns-else-eq-clause-same : goal.returns-else-eq-clause-same
returns-else-eq-clause-same c =
    subst (λ b. Decides b (c.args.self.now ≡ c.args.other.now))
    (sym (returns-else-eq-clause-value c)) (function_eq-Decides c.args.self.now
    c.args.other.now)
