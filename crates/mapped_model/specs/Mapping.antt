-- The model with the mapped rows: each used row is deleted and added again under its name as M f in its
-- cone, one after the other.
use Rattle.std.specs.Prelude.{◌≡◌, ◌++◌, ℕ, Bool, true, false, ◌==◌, List, [], ◌∷◌, Option, Some, None, Result, Ok, Err, All, flat_map}
use Rattle.std.specs.List.{list_any}
use Rattle.aff_core.specs.Function.{Function}
use Rattle.certificates.specs.Points.{functions_of}
use Rattle.mapped_certificates.specs.GoodSeen.{Use}
use Rattle.model_load.specs.Loads.{after_edits}
use Rattle.mof_laws.specs.ReadBack.{named_function}
use Rattle.mof_write.specs.Written.{Naming, naming}
use Rattle.set_core.specs.declared.set.Set.{Set}
use Rattle.set_core.specs.declared.set.Set.TheVariants.{NormInfinityCone, NormOneCone}
use Rattle.set_map.specs.Combinations.{mapped}
use Rattle.set_map.specs.Fitting.{MappedFits}
use Rattle.set_map.specs.Matrices.{Matrix}
use Rattle.user_model.specs.declared.edit.Edit.{Edit}
use Rattle.user_model.specs.declared.edit.Edit.TheVariants as edit
use Rattle.user_model.specs.declared.function.UserFunc.TheVariants.{AffineVec}
use Rattle.user_model.specs.declared.refusal.Refusal.{Refusal}
use Rattle.user_model.specs.declared.refusal.Refusal.TheVariants.{BadDimension}
use Rattle.user_model.specs.declared.row.Row.{Row}
use Rattle.user_model.specs.Model.{ModelValue}

-- ---- the edits

-- M f
abbrev pub mapped_functions : Matrix → Row → List Function
mapped_functions matrix row = mapped matrix (functions_of row.func)

abbrev pub FitsMap : Matrix → Row → Type 0
FitsMap matrix row = MappedFits matrix (functions_of row.func)

abbrev pub edits_by : Naming → Row → Matrix → Set → List Edit
edits_by name row matrix cone =
    edit.DeleteRow row.name
    ∷ edit.AddRow row.name (named_function name (AffineVec (mapped_functions matrix row))) cone ∷ []

abbrev pub edits_of : Naming → Use → List Edit
edits_of name u = edits_by name u.row u.set.matrix u.set.cone

abbrev pub edits_for : ModelValue → List Use → List Edit
edits_for model uses = flat_map (edits_of (naming model)) uses

abbrev pub UseFits : Use → Type 0
UseFits u = FitsMap u.set.matrix u.row

-- the uses before the first whose M f exceeds 128 bits, which is one of this row
pub record IsFirstUnfitUse (uses fitting : List Use) (name : List ℕ) : Type 0 where
  pub this : Use
  pub rest : List Use
  pub parts : uses ≡ fitting ++ this ∷ rest
  pub unfit : ¬ (UseFits this)
  pub row : name ≡ this.row.name

-- the uses before it, or all
abbrev pub AreBefore : List Use → List Use → Option (List ℕ) → Type 0
AreBefore uses fitting None = fitting ≡ uses
AreBefore uses fitting (Some name) = IsFirstUnfitUse uses fitting name

-- the edits of the uses whose M f fits, up to the first whose doesn't
pub record AreEditsFor (model : ModelValue) (uses : List Use) (edits : List Edit)
    (exceeds : Option (List ℕ)) : Type 0 where
  pub fitting : List Use
  pub before : AreBefore uses fitting exceeds
  pub fit : All UseFits fitting
  pub same : edits ≡ edits_for model fitting

-- ---- what comes of it

pub data Mapped : Type 0 where
  Made : ModelValue → Mapped
  IsRefused : Refusal → Mapped
  Exceeds : List ℕ → Mapped

-- the first edit that is refused comes before what exceeds
abbrev pub mapped_by : Option (List ℕ) → Result ModelValue Refusal → Mapped
mapped_by exceeds (Err refusal) = IsRefused refusal
mapped_by None (Ok model) = Made model
mapped_by (Some row) (Ok model) = Exceeds row

abbrev pub MapsEach : ModelValue → List Use → Mapped → Type 0
MapsEach model uses what =
    (edits : List Edit) × (exceeds : Option (List ℕ)) × AreEditsFor model uses edits exceeds
    × (what ≡ mapped_by exceeds (after_edits model edits))

-- a norm cone of one number
abbrev pub is_lone : Set → Bool
is_lone (NormInfinityCone n) = n == 1
is_lone (NormOneCone n) = n == 1
is_lone set = false

-- which is refused before anything else
abbrev pub MapsBy : Bool → ModelValue → List Use → Mapped → Type 0
MapsBy true model uses what = what ≡ IsRefused BadDimension
MapsBy false model uses what = MapsEach model uses what

abbrev pub Maps : ModelValue → List Use → Mapped → Type 0
Maps model uses what = MapsBy (list_any (λ u. is_lone u.set.cone) uses) model uses what
