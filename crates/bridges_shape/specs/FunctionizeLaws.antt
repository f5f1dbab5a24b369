-- A plain row is an affine one of the same variables.
use Rattle.std.specs.Prelude.{◌≡◌, true, false, List, ◌∷◌, [], cond, refl}
use Rattle.std.proofs.Common.{ap, subst, sym, ◌∙◌}
use Rattle.aff_core.specs.Address.{Address}
use Rattle.aff_core.specs.Function.{variable}
use Rattle.set_core.specs.Shapes.{is_scalar}
use Rattle.set_core.specs.declared.set.Set.{Set}
use Rattle.item_core.specs.declared.family.Family.{Family}
use Rattle.item_core.specs.declared.item.Body.{Body}
use Rattle.item_core.specs.declared.item.Body.TheVariants.{Affine, AffineVec, Plain, PlainVec}
use Rattle.item_core.specs.Item.{functions_of, set_of}
use Rattle.item_core.specs.Valid.{FitsItsFunction}
use Rattle.bridge_face.specs.ComponentLaws.{variables}
use Rattle.bridge_face.specs.FamilyLaws.{back_is, sums_in_images, sums_of_duals}
use Rattle.bridge_face.specs.Images.{affine, first_in}
use Rattle.bridge_face.specs.Law.{growth}
use Rattle.bridge_face.specs.OneRowLaws.{IsRowBody, RowRule, UnsummedRule, row, same_dual, unsummed}
use Rattle.bridge_face.specs.SameRowLaws.{same_is_one_row}

-- a plain row
pub data IsPlainRow : Body → Type 0 where
  number : {var : Address} {set : Set} → is_scalar set ≡ true → IsPlainRow (Plain var set)
  vector : {vars : List Address} {set : Set} → is_scalar set ≡ false
      → IsPlainRow (PlainVec vars set)

-- what the edges make of it
abbrev pub made : Body → Body
made b = affine (functions_of b) (set_of b)

-- the row and what is made of it have the same functions and the same set
record StaysSame (b child : Body) : Type 0 where
  source : IsRowBody b
  row : IsRowBody child
  shaped : FitsItsFunction child
  functions : functions_of child ≡ functions_of b
  set : set_of child ≡ set_of b

stays_same : {b child : Body} → IsRowBody b → IsRowBody child → FitsItsFunction child
    → functions_of child ≡ functions_of b → set_of child ≡ set_of b → StaysSame b child
stays_same source row shaped functions set = record {
  source = source;
  row = row;
  shaped = shaped;
  functions = functions;
  set = set;
}

stays : {b : Body} → IsPlainRow b → StaysSame b (made b)
stays (number {var} {set} s) =
    subst (StaysSame (Plain var set))
    (sym (ap (λ c. cond c (Affine (variable var) set) (AffineVec (variable var ∷ []) set)) s))
    (stays_same (row refl refl) (row refl refl) s refl refl)
stays (vector {vars} {set} s) =
    subst (StaysSame (PlainVec vars set))
    (sym (ap (λ c. cond c (Affine (first_in (variables vars)) set)
    (AffineVec (variables vars) set)) s))
    (stays_same (row refl refl) (row refl refl) s refl refl)

-- ---- the law

-- a family that makes affine rows of plain ones
pub functionize_rule : {f : Family} → RowRule f IsPlainRow made same_dual → growth f ≡ 1
    → sums_in_images f ≡ false → sums_of_duals f ≡ false → UnsummedRule f IsPlainRow made same_dual
functionize_rule rule no_growth no_sum no_dual_sum =
    unsummed rule no_sum no_dual_sum (λ edge own item valid source.
    let same = stays source.source in
    same_is_one_row edge item (made item.body) (record {
      item_valid = valid;
      source = same.source;
      made = same.row;
      shaped = same.shaped;
      functions = same.functions;
      set = same.set;
      back = λ y. back_is rule edge own item (y ∷ []);
      no_growth = ap growth own ∙ no_growth;
      leads = source.leads;
    }))
