use Rattle.std.specs.Prelude.{[], ◌∷◌, ◌++◌}
use Rattle.std.proofs.Common.{◌∙◌, ap, arith, subst, sym}
use Rattle.named_aff.specs.Distinct.{HasDistinctNames}
use Rattle.std.proofs.lemmas.List.{take_all}
use Rattle.dualization.specs.ByName.{named_terms, term_of}
use Rattle.dualization.proofs.TermLemmas.{named_none, next_apart, next_named}
use Rattle.dualization.proofs.by_name.named_function.Goals as goal

pub loop-i-init : goal.loop-i-init
loop-i-init c = c.new-terms.ensures ∙ sym (named_none c.args.names.now)

pub push_nonzero-requires : goal.push_nonzero-requires
push_nonzero-requires c =
    subst (λ ts. HasDistinctNames (ts
    ++ record { variable = c.index-names-i.result; coefficient = c.index-coefficients-i.result } ∷ []))
    (sym c.loop-i.invariant)
    (next_apart c.args.names.now c.args.coefficients.now c.loop-i.i c.index-names-i.result
    c.index-coefficients-i.result (omega arith) (omega arith) c.index-names-i.is c.requires.distinct)

pub loop-i-preserved : goal.loop-i-preserved
loop-i-preserved c =
    c.in_ok-push_nonzero.ensures
    ∙ ap (λ ts. ts ++ term_of c.index-names-i.result c.index-coefficients-i.result)
    c.loop-i.invariant
    ∙ sym (next_named c.args.names.now c.args.coefficients.now c.loop-i.i c.index-names-i.result
    c.index-coefficients-i.result (omega arith) (omega arith) c.index-names-i.is
    c.index-coefficients-i.is)

pub returns : goal.returns
returns c =
    λ i. record {
      terms = (c.loop-i.invariant
          ∙ ap (named_terms c.args.names.now)
          (take_all c.loop-i.i c.args.coefficients.now c.loop-i-test.false)) i;
      constant = c.args.constant;
    }
