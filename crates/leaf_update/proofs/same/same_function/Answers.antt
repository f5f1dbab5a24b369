use Rattle.std.proofs.Common.{◌≡◌, ◌↔◌, IsTrue, sym, ◌∙◌, subst, true≢false}
use Rattle.std.specs.Cmp.Lexicographic.{pointwise}
use Rattle.ratio_core.specs.RationalLaws.{eq_rational_eq, rational_eq-true}
use Rattle.leaf_update.proofs.SameLaws.{by_terms, term_eq}
use Rattle.leaf_update.proofs.SameRows.{refused}
use Rattle.leaf_update.proofs.same.same_function.Goals as goal

pub returns-then-eq : goal.returns-then-eq
returns-then-eq c =
    by_terms c.args.one.now c.args.other.now
    (sym c.constant.ensures
    ∙ rational_eq-true c.constant.result c.constant-2.result (sym c.eq.ensures ∙ c.if-eq.true)
    ∙ c.constant-2.ensures)
    c.eq-then-eq.result
    (c.eq-then-eq.ensures
    ∙ (λ i. pointwise term_eq (c.terms.ensures.all i) (c.terms-then-eq.ensures.all i)))

pub returns-else-eq : goal.returns-else-eq
returns-else-eq c =
    subst (λ r. IsTrue r ↔ (c.args.one.now ≡ c.args.other.now)) (sym c.if-eq.false)
    (refused (λ e. true≢false
    (sym (eq_rational_eq c.constant.result c.constant-2.result
    (c.constant.ensures ∙ (λ i. (e i).constant) ∙ sym c.constant-2.ensures))
    ∙ sym c.eq.ensures ∙ c.if-eq.false)))
