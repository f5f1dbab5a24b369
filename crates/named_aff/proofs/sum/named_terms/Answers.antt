use Rattle.std.proofs.Common.{◌++◌, ap, sym, ◌∙◌}
use Rattle.named_aff.specs.declared.terms.NamedTerm.{NamedTerm}
use Rattle.named_aff.proofs.Apart.{distinct_more, distinct_terms}
use Rattle.named_aff.specs.Entries.{terms_in}
use Rattle.named_aff.proofs.sum.named_terms.Goals as goal

pub loop-variable-init : goal.loop-variable-init
loop-variable-init c = record {
  same =
      ap (λ ts. ts ++ terms_in c.into_iter-variable-iterator.result) c.new-terms.ensures
      ∙ ap terms_in c.into_iter-variable-iterator.ensures.into_iter_gives.0;
  distinct = distinct_terms c.args.coefficients.entries
      c.into_iter-variable-iterator.ensures.into_iter_gives.4;
}

pub push-requires : goal.push-requires
push-requires c =
    let t : NamedTerm = record {
      variable = c.in-Some.variable;
      coefficient = c.in-Some.coefficient;
    } in
    let before = sym (ap (λ es. c.loop-variable.terms ++ terms_in es) c.in-Some.ensures.steps)
    ∙ c.loop-variable.invariant.same in
    distinct_more c.loop-variable.terms t (terms_in c.next.new.self)
    (terms_in c.args.coefficients.entries) before c.loop-variable.invariant.distinct
