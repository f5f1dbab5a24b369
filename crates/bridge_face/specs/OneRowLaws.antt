-- The law of an edge that makes one row of a row, from what is said of the two rows alone.
use Rattle.std.specs.Prelude.{◌≡◌, ◌↔◌, ◌*◌, ◌<◌, ◌≤◌, false, All, List, [], ◌∷◌, Result, map, cond, length, None, refl, slice_index_or}
use Rattle.std.proofs.Common.{sym, ap, subst, ◌∙◌, true≢false}
use Rattle.std.proofs.lemmas.List.Elements.{All-cons, All-head, All-nil}
use Rattle.ratio_core.specs.Rational.{Rational, zero_ℚ, ◌≤ℚ◌}
use Rattle.rational_laws.specs.Field.{+ℚ-zero}
use Rattle.aff_core.specs.Address.{Address}
use Rattle.ratio_core.specs.AnsweredLaws.{exact_as}
use Rattle.ratio_core.specs.Answers.{ExactWhere}
use Rattle.aff_core.specs.Function.{Function, coefficient, evaluated}
use Rattle.ratio_core.specs.declared.fault.NumberFault.{NumberFault}
use Rattle.dual_laws.specs.Held.{DualRow, Holds, IsHeld, adjoint_of, gap_of}
use Rattle.set_core.specs.declared.set.Set.{Set}
use Rattle.item_core.specs.declared.edge.Edge.{Edge}
use Rattle.item_core.specs.declared.family.Family.{Family}
use Rattle.item_core.specs.declared.item.Body.{Body}
use Rattle.item_core.specs.declared.item.Body.TheVariants as body
use Rattle.item_core.specs.declared.item.Item.{Item}
use Rattle.item_core.specs.declared.image.Image.{Image}
use Rattle.item_core.specs.Edge.{family_of}
use Rattle.item_core.specs.Item.{functions_of, is_group, set_of}
use Rattle.item_core.specs.Valid.{IsValidItem}
use Rattle.bridge_face.specs.BackOf.{BackFits, BackFitsBy, back_of, first_of}
use Rattle.bridge_face.specs.FamilyLaws.{Rule, Sourced, back_is, dual_count, dual_sizes, first_size, fits_back_by, unsummed_fits, image_is, kept_by, lawful_by, only, sums_in_images, sums_of_duals}
use Rattle.bridge_face.specs.ImageOf.{FitsBy, ImageFits}
use Rattle.bridge_face.specs.Images.{child_at, row_at}
use Rattle.bridge_face.specs.ChildDualLaws.{carries_duals}
use Rattle.bridge_face.specs.Law.{CarriesValues, ChildrenHold, EdgeLaw, GrowsBy, HasComponents, HoldsAt, IsCovered, IsLawful, IsValidWithin, LeadsToKind, MentionsKnown, Miss, cost_of, expressed, growth, held_body, held_item, is_objective, listed, row_functions, row_set}
use Rattle.bridge_face.specs.BridgeState.{IsCarriedBack, TakesDuals}

-- a row is neither a group nor an objective
pub record IsRowBody (b : Body) : Type 0 where
  pub no_group : is_group b ≡ false
  pub no_objective : is_objective b ≡ false

pub row : {b : Body} → is_group b ≡ false → is_objective b ≡ false → IsRowBody b
row no_group no_objective = record { no_group = no_group; no_objective = no_objective }

-- a body with duals
abbrev pub row_held : Body → List Rational → DualRow
row_held b w = record { duals = w; functions = functions_of b; set = set_of b }

-- what an edge owes that makes this row of the item
pub record OneRow (edge : Edge) (item : Item) (child : Body) : Type 0 where
  pub source : IsRowBody item.body
  pub made : IsRowBody child
  pub values : (one : Rational) (x : Address → Rational) → zero_ℚ ≤ℚ one
      → Holds one (row_held child []) x → Holds one (row_held item.body []) x
  pub holds : (y : List Rational) → IsHeld (row_held child y)
      → IsHeld (row_held item.body (back_of edge item (y ∷ [])))
  pub same : (y : List Rational) → IsHeld (row_held child y) → (v : Address)
      → adjoint_of (row_held item.body (back_of edge item (y ∷ []))) v
      ≡ adjoint_of (row_held child y) v
  pub gaps : (y : List Rational) → IsHeld (row_held child y)
      → gap_of (row_held child y) ≤ℚ gap_of (row_held item.body (back_of edge item (y ∷ [])))
  pub valid : length item.at.positions < 38 → length (functions_of child) ≤ 32767
      → IsValidItem (child_at item 0 child)
  pub sizes : length (functions_of child)
      ≤ growth (family_of edge) * length (functions_of item.body)
  pub leads : LeadsToKind edge child
  pub mentioned : (v : Address) → Miss (functions_of item.body) v → Miss (functions_of child) v

abbrev record_of : List Rational → List Function → Set → DualRow
record_of w fs set = record { duals = w; functions = fs; set = set }

pub held_row : (bound : Rational) (b : Body) (w : List Rational) → IsRowBody b
    → held_body bound b w ≡ row_held b w
held_row bound (body.Group set vars) w r = absurd (true≢false r.no_group)
held_row bound (body.Free vars) w r = absurd (true≢false r.no_group)
held_row bound (body.Plain var set) w r = refl
held_row bound (body.Affine func set) w r = refl
held_row bound (body.PlainVec vars set) w r = refl
held_row bound (body.AffineVec funcs set) w r = refl
held_row bound (body.PlainObj sense var) w r = absurd (true≢false r.no_objective)
held_row bound (body.AffineObj sense func) w r = absurd (true≢false r.no_objective)

pub source_held : (bound : Rational) (b : Body) (w : List Rational) (fs : List Function)
    → IsRowBody b
    → record_of w (cond (is_group b) fs (row_functions b)) (row_set bound b) ≡ row_held b w
source_held bound (body.Group set vars) w fs r = absurd (true≢false r.no_group)
source_held bound (body.Free vars) w fs r = absurd (true≢false r.no_group)
source_held bound (body.Plain var set) w fs r = refl
source_held bound (body.Affine func set) w fs r = refl
source_held bound (body.PlainVec vars set) w fs r = refl
source_held bound (body.AffineVec funcs set) w fs r = refl
source_held bound (body.PlainObj sense var) w fs r = absurd (true≢false r.no_objective)
source_held bound (body.AffineObj sense func) w fs r = absurd (true≢false r.no_objective)

-- a row stands over its children as itself
pub row_stands : (bound : Rational) (item : Item) (image : Image) (w : List Rational)
    → IsRowBody item.body → held_item bound item image w ≡ row_held item.body w
row_stands bound item image w r = source_held bound item.body w (map expressed image.exprs) r

-- so values are carried to it where it holds with them
pub row_values : (item : Item) (image : Image) → IsRowBody item.body → image.objective ≡ None
    → ((one : Rational) (x : Address → Rational) → zero_ℚ ≤ℚ one → ChildrenHold one x image
    → Holds one (row_held item.body []) x)
    → CarriesValues item image
row_values item image r none h = record {
  holds = λ no one x nonneg below.
      subst (λ k. Holds one k x) (sym (row_stands zero_ℚ item image [] r)) (h one x nonneg below);
  costs = λ one x nonneg below.
      subst (λ o. All (λ child. evaluated one (cost_of item.body) x
      ≤ℚ evaluated one (cost_of child.body) x) (listed o)) (sym none) (All-nil _);
}

module _ (edge : Edge) (item : Item) (child : Body) (o : OneRow edge item child) where
  abbrev image : Image
  image = row_at item child

  values : CarriesValues item image
  values = row_values item image o.source refl (λ one x h below.
      o.values one x h (subst (λ k. Holds one k x) (held_row zero_ℚ child [] o.made)
      (All-head (HoldsAt one x) (child_at item 0 child) [] below)))

  module _ (bound : Rational) (y w : List Rational) (w_is : w ≡ back_of edge item (y ∷ [])) where
    child_is : held_body bound child y ≡ row_held child y
    child_is = held_row bound child y o.made

    item_is : held_item bound item image w ≡ row_held item.body (back_of edge item (y ∷ []))
    item_is = row_stands bound item image w o.source ∙ ap (row_held item.body) w_is

    covered_by : IsHeld (held_body bound child y)
        → IsCovered bound item image (record { groups = []; rows = y ∷ []; objective = [] }) w
    covered_by h = record {
      holds = subst IsHeld (sym item_is) (o.holds y (subst IsHeld child_is h));
      same = λ v.
          ap (λ k. adjoint_of k v) item_is ∙ o.same y (subst IsHeld child_is h) v
          ∙ sym (ap (λ k. adjoint_of k v) child_is)
          ∙ sym (+ℚ-zero (adjoint_of (held_body bound child y) v));
      gaps =
          subst (λ q. q ≤ℚ gap_of (held_item bound item image w))
          (ap gap_of (sym child_is) ∙ sym (+ℚ-zero (gap_of (held_body bound child y))))
          (subst (λ k. gap_of (row_held child y) ≤ℚ gap_of k) (sym item_is)
          (o.gaps y (subst IsHeld child_is h)));
    }

  pub one_row_law : EdgeLaw edge item image
  one_row_law = record {
    values = values;
    duals = carries_duals edge item image (λ bound w y b.
        covered_by bound y w (b.carries.by_rule o.source.no_group o.source.no_objective)
        (All-head IsHeld (held_body bound child y) [] b.hold));
    positions = refl;
    valid = λ room. All-cons IsValidWithin (child_at item 0 child) [] (o.valid room)
        (All-nil IsValidWithin);
    sizes = All-cons (GrowsBy (growth (family_of edge)) item) (child_at item 0 child) [] o.sizes
        (All-nil (GrowsBy (growth (family_of edge)) item));
    kinds = All-cons (λ child. LeadsToKind edge child.body) (child_at item 0 child) [] o.leads
        (All-nil (λ child. LeadsToKind edge child.body));
    components = All-nil HasComponents;
    mentioned = All-cons (MentionsKnown item image) (child_at item 0 child) []
        (λ v m n. o.mentioned v m) (All-nil (MentionsKnown item image));
    exprs = λ group. absurd (true≢false (sym group ∙ o.source.no_group));
    expressed = λ v n. All-nil (λ f. coefficient f v ≡ zero_ℚ);
  }

-- ---- families whose edges make one row of a row

abbrev pub RowRule : Family → (Body → Type 0) → (Body → Body)
    → (Body → List Rational → List Rational) → Type 0
RowRule f Source made carry =
    Rule f (Sourced Source made) (λ edge item. row_at item (made item.body))
    (λ item ys. carry item.body (first_of ys))

-- where the dual is carried back as it is
abbrev pub same_dual : Body → List Rational → List Rational
same_dual row dual = dual

-- what such a family does, what must fit for the row and for what is carried back, and that each
-- edge keeps the law
pub record IsRowRule (f : Family) (Source : Body → Type 0) (made : Body → Body)
    (Fits : Body → Type 0) (carry : Body → List Rational → List Rational)
    (CarryFits : Body → List Rational → Type 0) : Type 0 where
  pub rule : RowRule f Source made carry
  pub fits : (item : Item) → FitsBy f item ↔ Fits item.body
  pub back_fits :
      (item : Item) (y : List Rational) → BackFitsBy f item (y ∷ []) ↔ CarryFits item.body y
  pub one_row :
      (edge : Edge) → family_of edge ≡ f → (item : Item) → IsValidItem item
      → Sourced Source made edge item.body → OneRow edge item (made item.body)

-- a family that sums nothing
abbrev pub UnsummedRule : Family → (Body → Type 0) → (Body → Body)
    → (Body → List Rational → List Rational) → Type 0
UnsummedRule f Source made carry =
    IsRowRule f Source made (λ row. Unit {0}) carry (λ row dual. Unit {0})

pub unsummed : {f : Family} {Source : Body → Type 0} {made : Body → Body}
    {carry : Body → List Rational → List Rational}
    → RowRule f Source made carry → sums_in_images f ≡ false → sums_of_duals f ≡ false
    → ((edge : Edge) → family_of edge ≡ f → (item : Item) → IsValidItem item
    → Sourced Source made edge item.body → OneRow edge item (made item.body))
    → UnsummedRule f Source made carry
unsummed {f} rule no_sum no_dual_sum one_row = record {
  rule = rule;
  fits = λ item. ((λ h. tt), (λ h. unsummed_fits f no_sum item));
  back_fits = λ item y. ((λ h. tt), (λ h. fits_back_by f no_dual_sum item (y ∷ [])));
  one_row = one_row;
}

module _ {f : Family} {Source : Body → Type 0} {made : Body → Body} {Fits : Body → Type 0}
    {carry : Body → List Rational → List Rational} {CarryFits : Body → List Rational → Type 0}
    (r : IsRowRule f Source made Fits carry CarryFits)
    (edge : Edge) (own : family_of edge ≡ f) (item : Item) where
  pub row_fits : ImageFits edge item → Fits item.body
  row_fits h = (r.fits item).0 (subst (λ g. FitsBy g item) own h)

  pub row_fits_back : Fits item.body → ImageFits edge item
  row_fits_back h = subst (λ g. FitsBy g item) (sym own) ((r.fits item).1 h)

  -- the dual of the child row
  module _ (ys : List (List Rational)) (takes : TakesDuals (kept_by edge item) ys) where
    pub one_dual : length ys ≡ 1
    one_dual =
        dual_count edge item (row_at item (made item.body)) (image_is r.rule edge own item) ys takes

    module _ (y : List Rational) (first : y ≡ slice_index_or ys 0 y) where
      duals_are : ys ≡ y ∷ []
      duals_are = only ys y one_dual first

      pub dual_size : length y ≡ length (functions_of (made item.body))
      dual_size =
          ap first_size
          (ap (map length) (sym duals_are)
          ∙ dual_sizes edge item (row_at item (made item.body))
          (image_is r.rule edge own item) ys takes)

      -- what is answered to it is answered to the item's duals
      pub dual_answer : (answer : Result (List Rational) NumberFault)
          → ExactWhere answer (CarryFits item.body y) (λ dual. dual ≡ carry item.body y)
          → IsCarriedBack answer ys (kept_by edge item)
      dual_answer answer said =
          exact_as answer (CarryFits item.body y) (BackFits edge item ys)
          (λ dual. dual ≡ carry item.body y) (λ dual. dual ≡ back_of edge item ys)
          (λ h. subst (BackFits edge item) (sym duals_are)
          (subst (λ g. BackFitsBy g item (y ∷ [])) (sym own) ((r.back_fits item y).1 h)))
          (λ h. (r.back_fits item y).0 (subst (λ g. BackFitsBy g item (y ∷ [])) own
          (subst (BackFits edge item) duals_are h)))
          (λ dual e. e ∙ sym (ap (back_of edge item) duals_are
          ∙ back_is r.rule edge own item (y ∷ [])))
          said

-- so the family keeps the law
pub row_lawful : {f : Family} {Source : Body → Type 0} {made : Body → Body} {Fits : Body → Type 0}
    {carry : Body → List Rational → List Rational} {CarryFits : Body → List Rational → Type 0}
    → IsRowRule f Source made Fits carry CarryFits → IsLawful f
row_lawful {f} {Source} {made} r =
    lawful_by r.rule (λ edge own item valid source.
    one_row_law edge item (made item.body) (r.one_row edge own item valid source))
