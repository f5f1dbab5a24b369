-- The law of an edge that makes an objective of an objective with the same cost.
use Rattle.std.specs.Prelude.{◌≡◌, ◌*◌, ◌≤◌, ◌<◌, false, true, List, ◌∷◌, map, cond, length, refl, All, ℕ, []}
use Rattle.std.proofs.Common.{sym, ap, subst, ◌∙◌, arith, true≢false}
use Rattle.std.proofs.lemmas.List.Elements.{All-cons, All-head, All-nil, All-weaker}
use Rattle.std.proofs.lemmas.List.{length-append}
use Rattle.aff_core.specs.declared.sense.Sense.{Sense}
use Rattle.ratio_core.specs.Rational.{Rational, zero_ℚ, ◌≤ℚ◌}
use Rattle.rational_laws.specs.Field.{+ℚ-zero}
use Rattle.rational_laws.specs.Order.{≤ℚ_from_≡}
use Rattle.aff_core.specs.Address.{Address, child_of}
use Rattle.aff_core.specs.Function.{Function, coefficient, evaluated}
use Rattle.dual_laws.specs.Held.{IsHeld, adjoint_of, gap_of}
use Rattle.set_core.specs.declared.set.Set.TheVariants.{LessThan}
use Rattle.item_core.specs.declared.edge.Edge.{Edge}
use Rattle.item_core.specs.declared.family.Family.{Family}
use Rattle.item_core.specs.declared.item.Body.{Body}
use Rattle.item_core.specs.declared.item.Item.{Item}
use Rattle.item_core.specs.declared.image.Image.{Image}
use Rattle.item_core.specs.Edge.{family_of}
use Rattle.item_core.specs.Item.{functions_of, is_group, set_of}
use Rattle.item_core.specs.Valid.{FitsItsFunction, IsValidItem, NamesNothingBelow, below}
use Rattle.bridge_face.specs.FamilyLaws.{Rule, Sourced, lawful_by, sums_in_images}
use Rattle.bridge_face.specs.GroupLaws.{held_of}
use Rattle.bridge_face.specs.ImageOf.{objective_at}
use Rattle.bridge_face.specs.Images.{child_at}
use Rattle.bridge_face.specs.ChildDualLaws.{carries_duals}
use Rattle.bridge_face.specs.Law.{CarriesValues, EdgeLaw, GrowsBy, HasComponents, IsCovered, IsLawful, IsValidWithin, LeadsToKind, MentionsKnown, Miss, cost_of, expressed, growth, held_body, held_item, is_objective, row_functions, row_set}
use Rattle.set_core.specs.Shapes.{IsSetOf}
use Rattle.bridge_face.specs.ComponentLaws.{all_unnamed_below, each_at}
use Rattle.item_core.specs.declared.item.Body.TheVariants as body

-- an affine objective
pub data IsAffineObjective : Body → Type 0 where
  affine_objective : {sense : Sense} {func : Function}
      → IsAffineObjective (body.AffineObj sense func)

-- ---- objectives as rows

pub objective_held : (bound : Rational) (b : Body) (w : List Rational) → is_objective b ≡ true
    → held_body bound b w ≡ held_of w (cost_of b ∷ []) (LessThan bound)
objective_held bound (body.PlainObj sense var) w o = refl
objective_held bound (body.AffineObj sense func) w o = refl
objective_held bound _ w o = absurd (true≢false (sym o))

pub objective_stands : (b : Body) (fs : List Function) → is_objective b ≡ true
    → cond (is_group b) fs (row_functions b) ≡ row_functions b
objective_stands (body.Group set vars) fs o = absurd (true≢false (sym o))
objective_stands (body.Free vars) fs o = absurd (true≢false (sym o))
objective_stands _ fs o = refl

pub objective_no_group : (b : Body) → is_objective b ≡ true → is_group b ≡ false
objective_no_group (body.Group set vars) o = absurd (true≢false (sym o))
objective_no_group (body.Free vars) o = absurd (true≢false (sym o))
objective_no_group _ o = refl

pub objective_alone : (b : Body) → is_objective b ≡ true → length (functions_of b) ≡ 1
objective_alone (body.PlainObj sense var) o = refl
objective_alone (body.AffineObj sense func) o = refl
objective_alone _ o = absurd (true≢false (sym o))

shaped : (b : Body) → is_objective b ≡ true → FitsItsFunction b
shaped (body.PlainObj sense var) o = tt
shaped (body.AffineObj sense func) o = tt
shaped _ o = absurd (true≢false (sym o))

any_number : (b : Body) → is_objective b ≡ true → IsSetOf 1 (set_of b)
any_number (body.PlainObj sense var) o =
    record { dimension = refl; enough = omega arith; uncrossed = refl }
any_number (body.AffineObj sense func) o =
    record { dimension = refl; enough = omega arith; uncrossed = refl }
any_number _ o = absurd (true≢false (sym o))

-- a child objective at a position
pub objective_valid : (item : Item) (n : ℕ) (child : Body) → is_objective child ≡ true
    → All (NamesNothingBelow (child_of item.at n)) (functions_of child)
    → length item.at.positions < 38 → IsValidWithin (child_at item n child)
objective_valid item n child o unnamed room few =
    let one = objective_alone child o in
    record {
      function = shaped child o;
      some = omega (arith, one);
      at_most = few;
      set = subst (λ m. IsSetOf m (set_of child)) (sym one) (any_number child o);
      depth = subst (λ m. m ≤ 38) (sym (length-append item.at.positions (n ∷ [])))
          (omega (arith, room));
      others = λ _. unnamed;
    }

-- ---- one objective

-- an objective that stands for such an objective
pub record Replaces (b child : Body) : Type 0 where
  pub source : is_objective b ≡ true
  pub made : is_objective child ≡ true
  pub cost : cost_of child ≡ cost_of b
  pub mentioned : (v : Address) → Miss (functions_of b) v → Miss (functions_of child) v

module _ (edge : Edge) (item : Item) (child : Body) (valid : IsValidItem item)
    (no_growth : growth (family_of edge) ≡ 1) (leads : LeadsToKind edge child)
    (o : Replaces item.body child) where
  abbrev image : Image
  image = objective_at item child

  item_is : (bound : Rational) (w : List Rational)
      → held_item bound item image w ≡ held_body bound child w
  item_is bound w =
      ap (λ fs. held_of w fs (row_set bound item.body))
      (objective_stands item.body (map expressed image.exprs) o.source)
      ∙ objective_held bound item.body w o.source
      ∙ ap (λ f. held_of w (f ∷ []) (LessThan bound)) (sym o.cost)
      ∙ sym (objective_held bound child w o.made)

  values : CarriesValues item image
  values = record {
    holds = λ no. absurd (true≢false (sym o.source ∙ no));
    costs = λ one x h below.
        All-cons (λ child. evaluated one (cost_of item.body) x ≤ℚ evaluated one (cost_of child.body)
        x) (child_at item 0 child) [] (≤ℚ_from_≡ _ _ (ap (λ f. evaluated one f x) (sym o.cost)))
        (All-nil (λ child. evaluated one (cost_of item.body) x ≤ℚ evaluated one
        (cost_of child.body) x));
  }

  covered_by : (bound : Rational) (u w : List Rational) → w ≡ u → IsHeld (held_body bound child u)
      → IsCovered bound item image (record { groups = []; rows = []; objective = u ∷ [] }) w
  covered_by bound u w e h =
      let same_held : held_item bound item image w ≡ held_body bound child u = item_is bound w
      ∙ ap (held_body bound child) e in
      record {
        holds = subst IsHeld (sym same_held) h;
        same = λ v. ap (λ k. adjoint_of k v) same_held
            ∙ sym (+ℚ-zero (adjoint_of (held_body bound child u) v));
        gaps =
            ≤ℚ_from_≡ _ _ (+ℚ-zero (gap_of (held_body bound child u)) ∙ sym (ap gap_of same_held));
      }

  no_more : GrowsBy (growth (family_of edge)) item (child_at item 0 child)
  no_more =
      subst (λ n. length (functions_of child) ≤ n * length (functions_of item.body))
      (sym no_growth)
      (let here : length (functions_of child) ≡ 1 = objective_alone child o.made in
      let there : length (functions_of item.body) ≡ 1 = objective_alone item.body o.source
      in omega (arith, here, there))

  unnamed : All (NamesNothingBelow item.at) (functions_of child)
  unnamed =
      each_at (λ rest f. coefficient f (below item.at rest) ≡ zero_ℚ) (functions_of child)
      (λ rest. o.mentioned (below item.at rest) (All-weaker (NamesNothingBelow item.at)
      (λ f. coefficient f (below item.at rest) ≡ zero_ℚ) (λ f none. none rest)
      (functions_of item.body) (valid.others (objective_no_group item.body o.source))))

  one_objective_law : EdgeLaw edge item image
  one_objective_law = record {
    values = values;
    duals = carries_duals edge item image (λ bound w u b.
        covered_by bound u w (b.carries.by_objective o.source)
        (All-head IsHeld (held_body bound child u) [] b.hold));
    positions = refl;
    valid = λ room. All-cons IsValidWithin (child_at item 0 child) []
        (objective_valid item 0 child o.made (all_unnamed_below item.at 0 (functions_of child)
        unnamed) room) (All-nil IsValidWithin);
    sizes = All-cons (GrowsBy (growth (family_of edge)) item) (child_at item 0 child) [] no_more
        (All-nil (GrowsBy (growth (family_of edge)) item));
    kinds = All-cons (λ child. LeadsToKind edge child.body) (child_at item 0 child) [] leads
        (All-nil (λ child. LeadsToKind edge child.body));
    components = All-nil HasComponents;
    mentioned = All-cons (MentionsKnown item image) (child_at item 0 child) []
        (λ v m n. o.mentioned v m) (All-nil (MentionsKnown item image));
    exprs = λ group. absurd (true≢false (sym group ∙ objective_no_group item.body o.source));
    expressed = λ v n. All-nil (λ f. coefficient f v ≡ zero_ℚ);
  }

-- ---- families whose edges make one objective of an objective

abbrev pub ObjectiveRule : Family → (Body → Type 0) → (Body → Body) → Type 0
ObjectiveRule f Source made =
    Rule f (Sourced Source made) (λ edge item. objective_at item (made item.body)) (λ item ys. [])

pub record IsObjectiveRule (f : Family) (Source : Body → Type 0) (made : Body → Body)
    : Type 0 where
  pub rule : ObjectiveRule f Source made
  pub no_growth : growth f ≡ 1
  pub no_sum : sums_in_images f ≡ false
  pub replaces : (b : Body) → Source b → Replaces b (made b)

pub objective_lawful : {f : Family} {Source : Body → Type 0} {made : Body → Body}
    → IsObjectiveRule f Source made → IsLawful f
objective_lawful {f} {Source} {made} r =
    lawful_by r.rule (λ edge own item valid source.
    one_objective_law edge item (made item.body) valid (ap growth own ∙ r.no_growth) source.leads
    (r.replaces item.body source.source))
