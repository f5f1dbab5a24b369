-- A row of the relaxation is soft where the model's own is.
use Rattle.std.specs.Prelude.{◌≡◌, ℕ, refl}
use Rattle.std.proofs.Common.{ap}
use Rattle.user_model.specs.declared.function.UserFunc.{UserFunc}
use Rattle.user_model.specs.declared.row.Row.{Row}
use Rattle.user_model.specs.Functions.{is_scalar_affine}
use Rattle.relaxed_model.specs.Relaxed.{is_soft, relaxed_row, signs_on, with_slacks}
use Rattle.relaxed_model.specs.RowLaws.{with_func}
use Rattle.relaxed_model.specs.SoftOrHard.{SoftOrHard, of_hard, of_soft, soft_or_hard}

pub soft_kept : (n : ℕ) (r : Row) → is_soft (relaxed_row n r) ≡ is_soft r
soft_kept n r = by (soft_or_hard r.func)
  where
    by : {func : UserFunc} → SoftOrHard func
        → is_soft (relaxed_row n (with_func r func)) ≡ is_soft (with_func r func)
    by (of_soft f) = refl
    by (of_hard isnt same) = ap is_scalar_affine (same (with_slacks n (signs_on r.set)))
