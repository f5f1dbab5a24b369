use Rattle.std.proofs.Common.{rules, sym, subst, ap, arith, ◌∙◌, ◌≡◌, ◌+◌, ◌-◌, ◌<◌, ◌≤◌, ℕ, length, drop, take, slice_index_or}
use Rattle.ratio_core.specs.Rational.{zero_ℚ}
use Rattle.std.proofs.Common.{true≢false}
use Rattle.sparse_ratios.specs.Terms.{Puts}
use Rattle.sparse_ratios.specs.TermLaws.{puts_none, puts_one}
use Rattle.sparse_ratios.proofs.ratios.push_term.Goals as goal

pub returns-then-is_zero-clause-ok : goal.returns-then-is_zero-clause-ok
returns-then-is_zero-clause-ok c =
    puts_none c.args.place c.args.number c.args.terms.now.items
    (c.is_zero.ensures.0 c.if-is_zero.true)

pub returns-clause-ok : goal.returns-clause-ok
returns-clause-ok c =
    subst (Puts c.args.place c.args.number c.args.terms.now.items) (sym c.in_ok-push.ensures.items)
    (puts_one c.args.place c.args.number c.args.terms.now.items
    (λ e. true≢false (sym (c.is_zero.ensures.1 e) ∙ c.if-is_zero.false)))
