-- Numbers are as many as the dual has variables.
use Rattle.std.specs.Prelude.{◌≡◌, ℕ, ◌+◌, ◌<◌, IfSome, Option, Some, None, refl}
use Rattle.std.proofs.Common.{ap, arith}
use Rattle.std.proofs.lemmas.Option.{none-some, same_Some}

-- where none is left behind the rows' and the groups' own, and only there
pub as_many : (all total own count left : ℕ) (o : Option ℕ) → left + total ≡ count
    → IfSome o (λ rest. rest + own ≡ left) → (o ≡ None → left < own) → all ≡ total + own
    → (o ≡ Some 0 → count ≡ all) × (count ≡ all → o ≡ Some 0)
as_many all total own count left None rows some none size =
    (λ e. absurd (none-some 0 e), λ e. absurd (omega (arith, rows, none refl, size, e)))
as_many all total own count left (Some rest) rows some none size = (
  λ e. omega (arith, rows, some, size, same_Some rest 0 e),
  λ e. ap Some (omega (arith, rows, some, size, e)),
)
