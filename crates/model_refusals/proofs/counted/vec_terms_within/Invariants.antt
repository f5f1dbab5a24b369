use Rattle.std.proofs.Common.{◌≡◌, ◌≤◌, ◌+◌, ◌*◌, drop, map, sum}
use Rattle.user_model.specs.declared.edit.NamedFunc.TheVariants.{AffineVec}
use Rattle.user_model.specs.Consistent.{IsConsistent}
use Rattle.user_model.specs.Edited.{affine}
use Rattle.user_model.specs.Functions.{term_count}
use Rattle.user_model.specs.Limits.{TERMS}
use Rattle.user_model.specs.Model.{ModelValue}
use Rattle.user_model.specs.Refusals.{IsKnown, within}
use Rattle.model_refusals.proofs.Firsts.{first_full}
use Rattle.model_refusals.proofs.counted.vec_terms_within.Given as goal

-- no component so far has too many terms, and with those that are left the sum is that of all
abbrev pub invariant-loop-place : goal.invariant-loop-place
invariant-loop-place l = record {
  few : l.all ≤ 4096 * l.place;
  passed : (model : ModelValue) → IsConsistent model → IsKnown model (AffineVec l.funcs)
      → first_full (within TERMS (drop l.place (map term_count (map (affine model) l.funcs))))
      ≡ first_full (within TERMS (map term_count (map (affine model) l.funcs)));
  added : (model : ModelValue) → IsConsistent model → IsKnown model (AffineVec l.funcs)
      → l.all + sum (drop l.place (map term_count (map (affine model) l.funcs)))
      ≡ sum (map term_count (map (affine model) l.funcs));
}
