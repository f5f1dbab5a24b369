use Rattle.std.proofs.Common.{map, arith, sym}
use Rattle.user_model.specs.Edited.{affine}
use Rattle.user_model.specs.Functions.{term_count}
use Rattle.model_refusals.proofs.Counting.{known_count_at, refused_by, sum_left, within_more, within_refused}
use Rattle.map_laws.specs.PlaceLaws.{none_past}
use Rattle.model_refusals.proofs.counted.vec_terms_within.Goals.{in-Some+in_ok-all, in_default}
use Rattle.model_refusals.proofs.counted.vec_terms_within.Goals as goal

pub returns-in_err-all-clause-value : goal.returns-in_err-all-clause-value
returns-in_err-all-clause-value c = λ model consistent known.
    let here = known_count_at model c.loop-place.place c.args.funcs.now c.in-Some.func.now
    c.named_terms.result (sym c.in-Some.ensures) known
    (c.named_terms.ensures.value model consistent) in
    refused_by c.from_residual.result c.in_err-all.field-0.0 _ _ c.from_residual.ensures.1
    (within_refused (map term_count (map (affine model) c.args.funcs.now)) c.loop-place.place
    c.named_terms.result here (c.loop-place.invariant.passed model consistent known)
    c.in_err-all.field-0.0 (sym c.in_err-all.ensures))

pub loop-place-preserved : goal.loop-place-preserved
loop-place-preserved c =
    elim c.match-get.branch [
      | in-Some+in_ok-all w ↦
          let ok = w.in_ok-all.ensures in
          record {
            few = omega (arith, ok.0, ok.1);
            passed = λ model consistent known.
                let here = known_count_at model c.loop-place.place c.args.funcs.now
                w.in-Some.func.now w.named_terms.result (sym w.in-Some.ensures) known
                (w.named_terms.ensures.value model consistent) in
                within_more (map term_count (map (affine model) c.args.funcs.now))
                c.loop-place.place w.named_terms.result here
                (c.loop-place.invariant.passed model consistent known) ok.0;
            added = λ model consistent known.
                let here = known_count_at model c.loop-place.place c.args.funcs.now
                w.in-Some.func.now w.named_terms.result (sym w.in-Some.ensures) known
                (w.named_terms.ensures.value model consistent) in
                omega (
                  arith,
                  ok.1,
                  sum_left (map term_count (map (affine model) c.args.funcs.now))
                      c.loop-place.place w.named_terms.result here,
                  c.loop-place.invariant.added model consistent known,
                );
          }
      | in_default w ↦ absurd (none_past c.loop-place.place c.args.funcs.now
          (sym w.in_default.ensures) (omega arith))
    ]
