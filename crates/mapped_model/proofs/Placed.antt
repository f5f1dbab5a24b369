-- The variables of M f are variables of f.
use Rattle.std.specs.Prelude.{◌≡◌, true, false, List, [], ◌∷◌, Option, Some, None, is_some, map, unwrap_or, refl}
use Rattle.std.specs.FinMap as finite
use Rattle.std.specs.List.{list_any}
use Rattle.std.proofs.Common.{ap, ap₂, inl, inr, sym, ◌∙◌}
use Rattle.std.proofs.lemmas.Bool.{both_ways, cases_Bool, or_from, or_parts}
use Rattle.ratio_core.specs.Rational.{Rational, zero_ℚ, ◌*ℚ◌, ◌+ℚ◌}
use Rattle.rational_laws.specs.Dot.{dot}
use Rattle.rational_laws.specs.Field.{*ℚ-zero, +ℚ-zero}
use Rattle.aff_core.specs.Address.{Address}
use Rattle.aff_core.specs.Function.{Function, coefficient}
use Rattle.aff_core.specs.FunctionLists.{coefficients}
use Rattle.aff_core.specs.FunctionLaws.{same_coefficient}
use Rattle.aff_core.specs.KeyOrder.{address_order}
use Rattle.certificates.specs.Points.{functions_of}
use Rattle.mapped_model.specs.Mapping.{mapped_functions}
use Rattle.model_laws.specs.Mentions.{without_mentions_none}
use Rattle.mof_round_trip_laws.specs.Functions.{IsPlaced}
use Rattle.mof_round_trip_laws.specs.Rows.{placed_function}
use Rattle.set_map.specs.CombinationLaws.{coefficient-combined}
use Rattle.set_map.specs.Combinations.{combined}
use Rattle.set_map.specs.Matrices.{Matrix}
use Rattle.user_model.specs.declared.function.UserFunc.{UserFunc}
use Rattle.user_model.specs.declared.function.UserFunc.TheVariants.{Affine, AffineVec, Plain, PlainVec}
use Rattle.user_model.specs.declared.row.Row.{Row}
use Rattle.user_model.specs.Functions.{func_mentions, has_term, is_vector_affine}
use Rattle.user_model.specs.Model.{ModelValue}
use Rattle.user_model.specs.Valid.{IsValidRow}

module _ (at : Address) where
  without_term : (f : Function) → coefficient f at ≡ zero_ℚ → has_term at f ≡ false
  without_term f e =
      ap (has_term at) (sym (same_coefficient address_order f at zero_ℚ e))
      ∙ without_mentions_none at f

  zero_coefficient : (f : Function) → has_term at f ≡ false → coefficient f at ≡ zero_ℚ
  zero_coefficient f e = none (finite.get f.terms at) e
    where
      none : (o : Option Rational) → is_some o ≡ false → unwrap_or o zero_ℚ ≡ zero_ℚ
      none None e = refl
      none (Some q) e = absurd (both_ways true e refl)

  nothing : (w : List Rational) (fs : List Function) → list_any (has_term at) fs ≡ false
      → dot w (coefficients fs at) ≡ zero_ℚ
  nothing [] fs e = refl
  nothing (p ∷ w) [] e = refl
  nothing (p ∷ w) (f ∷ fs) e =
      let parts = or_parts (has_term at f) (list_any (has_term at) fs) e in
      ap₂ (λ q s. p *ℚ q +ℚ s) (zero_coefficient f parts.0) (nothing w fs parts.1)
      ∙ ap (λ q. q +ℚ zero_ℚ) (*ℚ-zero p) ∙ +ℚ-zero zero_ℚ

  none_mapped : (m : Matrix) (fs : List Function) → list_any (has_term at) fs ≡ false
      → list_any (has_term at) (map (λ w. combined w fs) m) ≡ false
  none_mapped [] fs e = refl
  none_mapped (w ∷ m) fs e =
      or_from (has_term at (combined w fs)) (list_any (has_term at) (map (λ w. combined w fs) m))
      (without_term (combined w fs) (coefficient-combined w fs at ∙ nothing w fs e))
      (none_mapped m fs e)

  mentioned_before : (m : Matrix) (fs : List Function)
      → list_any (has_term at) (map (λ w. combined w fs) m) ≡ true
      → list_any (has_term at) fs ≡ true
  mentioned_before m fs is =
      elim (cases_Bool (list_any (has_term at) fs)) [
        | inl some ↦ some
        | inr none ↦ absurd (both_ways (list_any (has_term at) (map (λ w. combined w fs) m))
            (none_mapped m fs none) is)
      ]

pub mapped_placed : (model : ModelValue) (row : Row) (matrix : Matrix)
    → IsValidRow model.groups row → is_vector_affine row.func ≡ true
    → IsPlaced model (AffineVec (mapped_functions matrix row))
mapped_placed model row matrix valid vector =
    placed_function model (AffineVec (mapped_functions matrix row))
    (λ at is. valid.stand at (by row.func vector at
    (mentioned_before at matrix (functions_of row.func) is)))
  where
    by : (func : UserFunc) → is_vector_affine func ≡ true → (at : Address)
        → list_any (has_term at) (functions_of func) ≡ true → func_mentions at func ≡ true
    by (Plain var) v at is = absurd (both_ways false refl v)
    by (Affine f) v at is = absurd (both_ways false refl v)
    by (PlainVec vars) v at is = absurd (both_ways false refl v)
    by (AffineVec fs) v at is = is
