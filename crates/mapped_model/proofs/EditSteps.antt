-- The function and the edits of one use.
use Rattle.std.specs.Prelude.{◌≡◌, ℕ, true, false, List, [], ◌∷◌, ◌++◌, Option, Some, None, length, refl}
use Rattle.std.proofs.Common.{ap, ap₂, append_assoc, subst, sym, ◌∙◌}
use Rattle.std.proofs.lemmas.Bool.{both_ways}
use Rattle.aff_core.specs.Function.{Function}
use Rattle.certificates.specs.Points.{functions_of}
use Rattle.mapped_model.proofs.Placed.{mapped_placed}
use Rattle.mapped_model.specs.Edits.{IsMappedFunction, Pushes}
use Rattle.mapped_model.specs.Mapping.{FitsMap, edits_by, mapped_functions}
use Rattle.mof_laws.specs.ReadBack.{named_function}
use Rattle.mof_round_trip_laws.specs.Functions.{IsPlaced}
use Rattle.mof_write.specs.Written.{naming}
use Rattle.set_core.specs.declared.set.Set.{Set}
use Rattle.set_map.specs.Combinations.{IsMapped, mapped}
use Rattle.set_map.specs.Fitting.{MappedFits}
use Rattle.set_map.specs.Matrices.{Matrix}
use Rattle.user_model.specs.declared.edit.Edit.{Edit}
use Rattle.user_model.specs.declared.edit.Edit.TheVariants as edit
use Rattle.user_model.specs.declared.function.UserFunc.{UserFunc}
use Rattle.user_model.specs.declared.function.UserFunc.TheVariants.{Affine, AffineVec, Plain, PlainVec}
use Rattle.user_model.specs.declared.row.Row.{Row}
use Rattle.user_model.specs.Functions.{is_vector_affine}
use Rattle.user_model.specs.Model.{ModelValue}
use Rattle.user_model.specs.Valid.{IsValidRow}

module _ (matrix : Matrix) (row : Row) (fs : List Function) (is : row.func ≡ AffineVec fs) where
  pub mapped_is : (gs : List Function) → MappedFits matrix fs → IsMapped matrix fs gs
      → IsMappedFunction matrix row (Some (AffineVec gs))
  mapped_is gs fits h = (
    subst (λ f. MappedFits matrix (functions_of f)) (sym is) fits,
    ap AffineVec (h.same ∙ ap (λ f. mapped matrix (functions_of f)) (sym is)),
  )

  pub unmapped : ¬ (MappedFits matrix fs) → IsMappedFunction matrix row None
  unmapped not fits = not (subst (λ f. MappedFits matrix (functions_of f)) is fits)

  pub size_of : (n : ℕ) → length (functions_of row.func) ≡ n → length fs ≡ n
  size_of n e = ap (λ f. length (functions_of f)) (sym is) ∙ e

pub two_pushed : (before between after : List Edit) (d a d' a' : Edit)
    → between ≡ before ++ d ∷ [] → after ≡ between ++ a ∷ [] → d ≡ d' → a ≡ a'
    → after ≡ before ++ d' ∷ a' ∷ []
two_pushed before between after d a d' a' one two same same' =
    two ∙ ap (λ es. es ++ a ∷ []) one ∙ append_assoc before (d ∷ []) (a ∷ [])
    ∙ ap₂ (λ e f. before ++ e ∷ f ∷ []) same same'

-- a vector affine function is one
pub affine_vector : (func : UserFunc) → is_vector_affine func ≡ true
    → ((fs : List Function) → func ≡ AffineVec fs → ⊥) → ⊥
affine_vector (Plain var) v not = both_ways false refl v
affine_vector (Affine f) v not = both_ways false refl v
affine_vector (PlainVec vars) v not = both_ways false refl v
affine_vector (AffineVec fs) v not = not fs refl

-- ---- the edits, by the function

module _ (model : ModelValue) (matrix : Matrix) (row : Row) (found : Option UserFunc)
    (is : IsMappedFunction matrix row found) where
  of : (func : UserFunc) → found ≡ Some func
      → FitsMap matrix row × (func ≡ AffineVec (mapped_functions matrix row))
  of func some = subst (IsMappedFunction matrix row) some is

  pub placed_so : (func : UserFunc) → found ≡ Some func → IsValidRow model.groups row
      → is_vector_affine row.func ≡ true → IsPlaced model func
  placed_so func some valid vector =
      subst (IsPlaced model) (sym (of func some).1) (mapped_placed model row matrix valid vector)

  pub pushed_so : (func : UserFunc) (cone : Set) (before after : List Edit) → found ≡ Some func
      → after ≡ before ++ edit.DeleteRow row.name
      ∷ edit.AddRow row.name (named_function (naming model) func) cone ∷ []
      → Pushes true matrix row before (edits_by (naming model) row matrix cone) after
  pushed_so func cone before after some pushed = (
    (of func some).0,
    pushed ∙ ap (λ f. before ++ edit.DeleteRow row.name
        ∷ edit.AddRow row.name (named_function (naming model) f) cone ∷ []) (of func some).1,
  )

  pub unpushed_so : found ≡ None → ¬ (FitsMap matrix row)
  unpushed_so none = subst (IsMappedFunction matrix row) none is
