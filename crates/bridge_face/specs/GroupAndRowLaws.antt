-- The law of an edge that makes a group and a row of a row, from what is said of numbers alone.
use Rattle.std.specs.Prelude.{◌≡◌, ◌*◌, ◌≤◌, ◌<◌, ℕ, Contains, List, [], ◌∷◌, map, All, length, None, refl}
use Rattle.std.proofs.Common.{sym, ap, ap₂, subst, ◌∙◌, arith, true≢false}
use Rattle.std.proofs.lemmas.List.{append-nil, length-append, length-map}
use Rattle.std.proofs.lemmas.List.Elements.{All-contains, All-cons, All-head, All-nil, All-tail}
use Rattle.ratio_core.specs.Rational.{Rational, neg_ℚ, zero_ℚ, ◌≤ℚ◌, ◌+ℚ◌}
use Rattle.rational_laws.specs.Dot.{dot, negated}
use Rattle.rational_laws.specs.Field.{+ℚ-zero, +ℚ_comm, neg_ℚ_unique, zero-+ℚ}
use Rattle.aff_core.specs.Address.{Address, child_of}
use Rattle.aff_core.specs.Function.{Function, coefficient, variable}
use Rattle.aff_core.specs.FunctionLists.{coefficients}
use Rattle.linear_laws.specs.ListLaws.{evaluations_variables}
use Rattle.dual_laws.specs.Held.{Holds, IsHeld, adjoint, adjoint_of, gap, gap_of}
use Rattle.set_core.specs.Membership.{Dual, In, low_of}
use Rattle.set_core.specs.Mirrored.{multiplied}
use Rattle.set_core.specs.Shapes.{IsSetOf}
use Rattle.set_core.specs.declared.set.Set.{Set}
use Rattle.item_core.specs.declared.edge.Edge.{Edge}
use Rattle.item_core.specs.declared.item.Body.{Body}
use Rattle.item_core.specs.declared.item.Body.TheVariants.{Group}
use Rattle.item_core.specs.declared.item.Item.{Item}
use Rattle.item_core.specs.declared.image.Image.{Image}
use Rattle.item_core.specs.Edge.{family_of}
use Rattle.item_core.specs.Item.{functions_of, set_of}
use Rattle.item_core.specs.Valid.{FitsItsFunction, IsValidItem, NamesNothingBelow}
use Rattle.bridge_face.specs.BackOf.{back_of}
use Rattle.bridge_face.specs.ComponentLaws.{contained_or_not, dot_missed, length-components, misses_inner, not_contained, variables, variables_missed, weighed}
use Rattle.bridge_face.specs.GroupLaws.{child_group_valid, group_gap, group_numbers, has_components, held_of}
use Rattle.bridge_face.specs.ImageOf.{group_at, inner}
use Rattle.bridge_face.specs.Images.{child_at}
use Rattle.bridge_face.specs.ChildDualLaws.{carries_duals}
use Rattle.bridge_face.specs.Law.{Balances, CarriesValues, ChildDuals, EdgeLaw, GrowsBy, HasComponents, HoldsAt, IsCovered, IsValidWithin, LeadsToKind, MentionsKnown, Miss, growth, held_body, held_children, held_item}
use Rattle.bridge_face.specs.OneRowLaws.{IsRowBody, held_row, row_held, row_stands, row_values}
use Rattle.item_core.specs.declared.image.Expression.{Expression}

-- the numbers that the row's duals leave for the components
abbrev pub left_over : List Rational → List Function → List Address → List Rational
left_over y fs vs = negated (weighed y fs vs)

-- what an edge owes that makes this group and this row of the item
pub record GroupAndRow
    (edge : Edge) (item : Item) (set : Set) (n : ℕ) (child : Body) : Type 0 where
  pub item_valid : IsValidItem item
  pub source : IsRowBody item.body
  pub made : IsRowBody child
  pub values :
      (one : Rational) (x : Address → Rational) → zero_ℚ ≤ℚ one
      → In (multiplied one set) (map x (inner item n)) → Holds one (row_held child []) x
      → Holds one (row_held item.body []) x
  pub holds :
      (y : List Rational) → IsHeld (row_held child y)
      → Dual set (left_over y (functions_of child) (inner item n))
      → IsHeld (row_held item.body (back_of edge item (y ∷ [])))
  pub same :
      (y : List Rational) → IsHeld (row_held child y)
      → (v : Address) → ¬ (Contains (inner item n) v)
      → adjoint_of (row_held item.body (back_of edge item (y ∷ []))) v
      ≡ adjoint_of (row_held child y) v
  pub gaps :
      (y : List Rational) → IsHeld (row_held child y)
      → Dual set (left_over y (functions_of child) (inner item n))
      → (low_of set (left_over y (functions_of child) (inner item n)) +ℚ gap_of (row_held child y))
      ≤ℚ gap_of (row_held item.body (back_of edge item (y ∷ [])))
  pub some : 1 ≤ n
  pub fits : IsSetOf n set
  pub grows : n ≤ growth (family_of edge) * length (functions_of item.body)
  pub leads : LeadsToKind edge (Group set (inner item n))
  pub row_shaped : FitsItsFunction child
  pub row_some : 1 ≤ length (functions_of child)
  pub row_fits : IsSetOf (length (functions_of child)) (set_of child)
  pub row_apart : All (NamesNothingBelow (child_of item.at 1)) (functions_of child)
  pub row_grows :
      length (functions_of child) ≤ growth (family_of edge) * length (functions_of item.body)
  pub row_leads : LeadsToKind edge child
  pub mentioned :
      (v : Address) → Miss (functions_of item.body) v → ¬ (Contains (inner item n) v)
      → Miss (functions_of child) v

-- an image of a child group and a child row
abbrev pub group_and_row : Item → Item → List Expression → Body → Image
group_and_row item group exprs row =
    record { groups = group ∷ []; exprs = exprs; rows = child_at item 1 row ∷ []; objective = None }

-- one that is made of such parts
pub group_and_row_made : (item : Item) (s t : Set) (us vs : List Address) (group : Item)
    (es ds : List Expression) (b c : Body) (image : Image)
    → s ≡ t → us ≡ vs → es ≡ ds → b ≡ c → group ≡ child_at item 0 (Group s us)
    → image ≡ group_and_row item group es b
    → image ≡ group_and_row item (child_at item 0 (Group t vs)) ds c
group_and_row_made item s t us vs group es ds b c image same_set same_vars same_exprs same_row
    group_is image_is =
    image_is ∙ ap (λ g. group_and_row item g es b) group_is
    ∙ ap₂ (λ x y. group_and_row item (child_at item 0 (Group x y)) es b) same_set same_vars
    ∙ ap₂ (λ x y. group_and_row item (child_at item 0 (Group t vs)) x y) same_exprs same_row

-- a child row after the child group
pub second_row_valid : (item : Item) (child : Body) → FitsItsFunction child
    → 1 ≤ length (functions_of child) → IsSetOf (length (functions_of child)) (set_of child)
    → All (NamesNothingBelow (child_of item.at 1)) (functions_of child)
    → length item.at.positions < 38 → IsValidWithin (child_at item 1 child)
second_row_valid item child shaped some fits apart room few = record {
  function = shaped;
  some = some;
  at_most = few;
  set = fits;
  depth =
      subst (λ m. m ≤ 38) (sym (length-append item.at.positions (1 ∷ []))) (omega (arith, room));
  others = λ _. apart;
}

module _
    (edge : Edge) (item : Item) (set : Set) (n : ℕ) (child : Body)
    (o : GroupAndRow edge item set n child) where
  abbrev ss : List Address
  ss = inner item n

  abbrev group : Item
  group = group_at item set n

  abbrev row : Item
  row = child_at item 1 child

  abbrev image : Image
  image = record { groups = group ∷ []; exprs = []; rows = row ∷ []; objective = None }

  abbrev fs : List Function
  fs = functions_of child

  values : CarriesValues item image
  values = row_values item image o.source refl (λ one x h below.
      o.values one x h
      (subst (In (multiplied one set)) (evaluations_variables one ss x)
      (All-head (HoldsAt one x) group (row ∷ []) below))
      (subst (λ k. Holds one k x) (held_row zero_ℚ child [] o.made)
      (All-head (HoldsAt one x) row [] (All-tail (HoldsAt one x) group (row ∷ []) below))))

  abbrev duals_of : List Rational → List Rational → ChildDuals
  duals_of g y = record { groups = g ∷ []; rows = y ∷ []; objective = [] }

  module _
      (bound : Rational) (g y w : List Rational)
      (b : Balances bound edge item image (duals_of g y) w) where
    group_held_by : IsHeld (held_of g (variables ss) set)
    group_held_by =
        All-head IsHeld (held_of g (variables ss) set) (held_body bound child y ∷ []) b.hold

    row_held_by : IsHeld (row_held child y)
    row_held_by =
        subst IsHeld (held_row bound child y o.made)
        (All-head IsHeld (held_body bound child y) []
        (All-tail IsHeld (held_of g (variables ss) set) (held_body bound child y ∷ []) b.hold))

    carried : w ≡ back_of edge item (y ∷ [])
    carried = b.carries.by_rule o.source.no_group o.source.no_objective

    w_is : held_item bound item image w ≡ row_held item.body (back_of edge item (y ∷ []))
    w_is = row_stands bound item image w o.source ∙ ap (row_held item.body) carried

    abbrev Agree : Address → Type 0
    Agree v =
        adjoint_of (held_item bound item image w) v
        ≡ adjoint (held_children bound image (duals_of g y)) v

    balance : All Agree ss
    balance = subst (All Agree) (append-nil ss) b.inner

    of_row : (v : Address)
        → adjoint_of (held_body bound child y) v +ℚ zero_ℚ ≡ dot y (coefficients fs v)
    of_row v = +ℚ-zero (adjoint_of (held_body bound child y) v)
        ∙ ap (λ k. adjoint_of k v) (held_row bound child y o.made)

    -- the item names no component, so that the group's sums are the row's, negated
    left_at : (v : Address) → Miss (functions_of item.body) v → Agree v
        → dot g (coefficients (variables ss) v) ≡ neg_ℚ (dot y (coefficients fs v))
    left_at v m e =
        neg_ℚ_unique (dot y (coefficients fs v)) (dot g (coefficients (variables ss) v))
        (+ℚ_comm (dot y (coefficients fs v)) (dot g (coefficients (variables ss) v))
        ∙ sym (ap (λ q. dot g (coefficients (variables ss) v) +ℚ q) (of_row v))
        ∙ sym e ∙ ap (λ k. adjoint_of k v) (row_stands bound item image w o.source)
        ∙ dot_missed w (functions_of item.body) v m)

    misses : All (λ v. Miss (functions_of item.body) v) ss
    misses = misses_inner item.at n (functions_of item.body) (o.item_valid.others o.source.no_group)

    left_each : (vs : List Address) → All (λ v. Miss (functions_of item.body) v) vs → All Agree vs
        → weighed g (variables ss) vs ≡ left_over y fs vs
    left_each [] m e = refl
    left_each (v ∷ vs) m e =
        ap₂ ◌∷◌
        (left_at v (All-head (λ v. Miss (functions_of item.body) v) v vs m) (All-head Agree v vs e))
        (left_each vs (All-tail (λ v. Miss (functions_of item.body) v) v vs m)
        (All-tail Agree v vs e))

    given : g ≡ left_over y fs ss
    given = sym (group_numbers item set n g group_held_by) ∙ left_each ss misses balance

    dual_there : Dual set (left_over y fs ss)
    dual_there = subst (Dual set) given group_held_by.dual

    same_at : (v : Address) → Agree v
    same_at v =
        contained_or_not (Agree v) ss v
        (λ there. All-contains Agree ss v balance there)
        (λ absent.
        ap (λ k. adjoint_of k v) w_is ∙ o.same y row_held_by v absent
        ∙ sym (ap₂ ◌+ℚ◌ (dot_missed g (variables ss) v
        (variables_missed ss v (not_contained ss v absent))) (of_row v)
        ∙ zero-+ℚ (dot y (coefficients fs v))))

    gaps_are : gap (held_children bound image (duals_of g y))
        ≡ low_of set (left_over y fs ss) +ℚ gap_of (row_held child y)
    gaps_are =
        ap₂ ◌+ℚ◌ (group_gap set ss g ∙ ap (low_of set) given)
        (+ℚ-zero (gap_of (held_body bound child y)) ∙ ap gap_of (held_row bound child y o.made))

    covered_by : IsCovered bound item image (duals_of g y) w
    covered_by = record {
      holds = subst IsHeld (sym w_is) (o.holds y row_held_by dual_there);
      same = same_at;
      gaps =
          subst (λ q. q ≤ℚ gap_of (held_item bound item image w)) (sym gaps_are)
          (subst (λ k. (low_of set (left_over y fs ss) +ℚ gap_of (row_held child y)) ≤ℚ gap_of k)
          (sym w_is) (o.gaps y row_held_by dual_there));
    }

  abbrev both : (P : Item → Type 0) → P group → P row → All P (group ∷ row ∷ [])
  both P p q = All-cons P group (row ∷ []) p (All-cons P row [] q (All-nil P))

  pub group_and_row_law : EdgeLaw edge item image
  group_and_row_law = record {
    values = values;
    duals = carries_duals edge item image (λ bound w g y b. covered_by bound g y w b);
    positions = refl;
    valid = λ room. both IsValidWithin (child_group_valid item set n o.some o.fits room)
        (second_row_valid item child o.row_shaped o.row_some o.row_fits o.row_apart room);
    sizes = both (GrowsBy (growth (family_of edge)) item)
        (subst (λ m. m ≤ growth (family_of edge) * length (functions_of item.body))
        (sym (length-map ss variable ∙ length-components (child_of item.at 0) n)) o.grows)
        o.row_grows;
    kinds = both (λ child. LeadsToKind edge child.body) o.leads o.row_leads;
    components =
        All-cons HasComponents group [] (has_components item set n) (All-nil HasComponents);
    mentioned = All-cons (MentionsKnown item image) row []
        (λ v m absent. o.mentioned v m (λ there. absent
        (subst (λ us. Contains us v) (sym (append-nil ss)) there)))
        (All-nil (MentionsKnown item image));
    exprs = λ group. absurd (true≢false (sym group ∙ o.source.no_group));
    expressed = λ v n. All-nil (λ f. coefficient f v ≡ zero_ℚ);
  }
