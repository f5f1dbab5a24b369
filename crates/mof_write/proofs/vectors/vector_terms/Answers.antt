use Rattle.std.proofs.Common.{◌+◌, ◌++◌, ◌∙◌, ap, map, refl, subst}
use Rattle.std.specs.Prelude.{All}
use Rattle.aff_core.specs.Function.{terms_of}
use Rattle.serde_json.specs.View.{view}
use Rattle.mof_write.specs.Written.{naming, vector_term_data, vector_terms}
use Rattle.mof_write.specs.Sayable.{EachTermFits, TermFits}
use Rattle.mof_write.proofs.EachItem.{all_of, one_more, written_more}
use Rattle.mof_write.proofs.vectors.vector_terms.Goals as goal

pub loop-place-preserved : goal.loop-place-preserved
loop-place-preserved c =
    let name = naming c.args.model.now.model in
    let xs = c.args.funcs.now in
    let i = c.loop-place.place in
    let x = c.index-funcs-place.result in
    record {
      made = written_more xs i x c.index-funcs-place.is c.loop-place-test.true
          (vector_terms name i) (vector_terms name (i + 1))
          (map (vector_term_data name (i + 1)) (terms_of x)) (map view c.loop-place.values.items)
          (map view c.put_terms.new.values.items) _ refl
          (c.in_ok-put_terms.ensures.value
          ∙ ap (λ ts. map view c.loop-place.values.items ++ map (vector_term_data name (i + 1)) ts)
          c.terms.ensures.all)
          c.loop-place.invariant.made;
      fits = one_more xs i x c.index-funcs-place.is c.loop-place-test.true EachTermFits
          c.loop-place.invariant.fits
          (subst (All TermFits) c.terms.ensures.all c.in_ok-put_terms.ensures.fits);
    }

pub returns-clause-fits : goal.returns-clause-fits
returns-clause-fits c =
    all_of EachTermFits c.args.funcs.now c.loop-place.place c.loop-place-test.false
    c.loop-place.invariant.fits
