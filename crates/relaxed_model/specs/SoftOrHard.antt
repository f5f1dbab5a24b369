-- A row's function is a scalar affine one, to which slacks are added, or it has none.
use Rattle.std.specs.Prelude.{◌≡◌, false, refl}
use Rattle.aff_core.specs.Function.{Function}
use Rattle.user_model.specs.declared.function.UserFunc.{UserFunc}
use Rattle.user_model.specs.declared.function.UserFunc.TheVariants.{Plain, Affine, PlainVec, AffineVec}
use Rattle.user_model.specs.Edited.{on_affine}
use Rattle.user_model.specs.Functions.{is_scalar_affine}

pub data SoftOrHard : UserFunc → Type 0 where
  of_soft : (f : Function) → SoftOrHard (Affine f)
  of_hard : {func : UserFunc} → is_scalar_affine func ≡ false
      → ((h : Function → Function) → on_affine h func ≡ func) → SoftOrHard func

pub soft_or_hard : (func : UserFunc) → SoftOrHard func
soft_or_hard (Plain var) = of_hard refl (λ h. refl)
soft_or_hard (Affine f) = of_soft f
soft_or_hard (PlainVec vars) = of_hard refl (λ h. refl)
soft_or_hard (AffineVec fs) = of_hard refl (λ h. refl)
