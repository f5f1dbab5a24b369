-- The law of Later: x in S is s, free at first, and a row s in S.
use Rattle.std.specs.Prelude.{All, Bool, Contains, List, None, [], cond, false, length, map, refl, true, ℕ, ◌*◌, ◌<◌, ◌∷◌, ◌≡◌, ◌≤◌}
use Rattle.std.proofs.lemmas.List.Elements.{All-cons, All-nil, All-weaker}
use Rattle.std.proofs.Common.{ap, ap₂, arith, subst, sym, true≢false, ◌∙◌}
use Rattle.std.proofs.lemmas.List.{append-nil, length-append, length-map}
use Rattle.std.specs.List.{range_with_len}
use Rattle.map_laws.specs.EachLaws.{map_same_on}
use Rattle.rational_laws.specs.Field.{+ℚ-zero, zero-+ℚ, -ℚ-itself}
use Rattle.aff_core.specs.Address.{Address, child_of}
use Rattle.item_core.specs.declared.item.Body.TheVariants.{Affine, AffineVec, Free, Group, Plain, PlainVec}
use Rattle.bridge_face.specs.ChildDualLaws.{carries_duals}
use Rattle.bridge_face.specs.Law.{Balances, CarriesValues, ChildDuals, EdgeLaw, GrowsBy, HasComponents, IsCovered, IsValidWithin, LeadsToKind, MentionsKnown, Miss, expressed, growth, held_body, held_children, held_item, inner_of}
use Rattle.item_core.specs.declared.item.Body.{Body}
use Rattle.item_core.specs.declared.edge.Edge.TheVariants.{E49, E50, E51, E52, E53, E54, E55, E56, E57}
use Rattle.item_core.specs.declared.edge.Edge.{Edge}
use Rattle.set_core.specs.declared.set.Set.TheVariants.{Reals}
use Rattle.bridge_face.specs.ImageOf.{begins_free, free_at, group_at, image_by, inner, inner_functions, later}
use Rattle.item_core.specs.Valid.{FitsItsFunction, IsValidItem, NamesNothingBelow}
use Rattle.dual_laws.specs.Held.{Holds, IsHeld, adjoint, adjoint_of, gap, gap_of}
use Rattle.item_core.specs.declared.image.Image.{Image}
use Rattle.bridge_face.specs.OneRowLaws.{IsRowBody, held_row}
use Rattle.set_core.specs.Shapes.{IsSetOf, is_scalar}
use Rattle.item_core.specs.declared.item.Item.{Item}
use Rattle.item_core.specs.declared.image.Expression.TheVariants.{Kept}
use Rattle.item_core.specs.declared.family.Family.TheVariants.{Later}
use Rattle.bridge_face.specs.FamilyLaws.{of_another}
use Rattle.bridge_face.specs.Sources.{OfKind, group_equal_to, group_greater_than, group_interval, group_less_than, group_nonnegatives, group_norm_infinity_cone, group_norm_one_cone}
use Rattle.ratio_core.specs.Rational.{Rational, zero_ℚ, ◌+ℚ◌, ◌-ℚ◌}
use Rattle.set_core.specs.declared.set.Set.{Set}
use Rattle.set_core.specs.ShapeLaws.{scalar_one}
use Rattle.bridge_face.specs.Images.{affine, child_at, first_in, plain}
use Rattle.item_core.specs.Edge.{children_of, edge_entry, family_of, source_of}
use Rattle.aff_core.specs.FunctionLists.{coefficients, constants}
use Rattle.bridge_face.specs.ComponentLaws.{components_apart, constants-variables, length-components, not_contained, variables, variables_missed, weighed_components}
use Rattle.rational_laws.specs.Dot.{dot}
use Rattle.rational_laws.specs.DotLaws.{dot_zeros, zeros_dot}
use Rattle.item_core.specs.Item.{functions_of, is_group, item_of, set_of, variables_of}
use Rattle.bridge_face.specs.GroupLaws.{IsGroupRule, group_held, held_of}
use Rattle.item_core.specs.KindOf.{kind_of_body}
use Rattle.bridge_face.specs.GroupAndRowLaws.{second_row_valid, group_and_row}
use Rattle.bridge_face.specs.BackOf.{back_by, size}
use Rattle.aff_core.specs.Function.{variable}
use Rattle.rational_laws.specs.Order.{≤ℚ_from_≡}
use Rattle.item_core.specs.declared.image.Expression.{Expression}

-- ---- the child group and the row

-- the child group: free variables, or variables in Reals
abbrev pub first_child : Bool → ℕ → List Address → Body
first_child free d ss = cond free (Free ss) (Group (Reals d) ss)

-- the row: of plain variables or of functions, of one or of several
abbrev pub second_child : Bool → Bool → Address → List Address → Set → Body
second_child free scalar v ss set =
    cond free (cond scalar (Plain v set) (PlainVec ss set))
    (cond scalar (Affine (variable v) set) (AffineVec (variables ss) set))

-- what is said of the child group
record IsOfFree (b : Body) (ss : List Address) : Type 0 where
  group : is_group b ≡ true
  shaped : FitsItsFunction b
  functions : functions_of b ≡ variables ss
  named : variables_of b ≡ ss
  set : set_of b ≡ Reals (length ss)

of_free : (free : Bool) (d : ℕ) (ss : List Address) → length ss ≡ d
    → IsOfFree (first_child free d ss) ss
of_free true d ss e =
    record { group = refl; shaped = tt; functions = refl; named = refl; set = refl }
of_free false d ss e =
    record { group = refl; shaped = tt; functions = refl; named = refl; set = ap Reals (sym e) }

-- and of the row
record IsOfRow (b : Body) (ss : List Address) (set : Set) : Type 0 where
  row : IsRowBody b
  shaped : FitsItsFunction b
  functions : functions_of b ≡ variables ss
  same_set : set_of b ≡ set

is_of_row : {b : Body} {ss : List Address} {set : Set} → IsRowBody b → FitsItsFunction b
    → functions_of b ≡ variables ss → set_of b ≡ set → IsOfRow b ss set
is_of_row row shaped functions same_set =
    record { row = row; shaped = shaped; functions = functions; same_set = same_set }

of_row : (free scalar : Bool) (v : Address) (ss : List Address) (set : Set) → is_scalar set ≡ scalar
    → (scalar ≡ true → ss ≡ v ∷ []) → IsOfRow (second_child free scalar v ss set) ss set
of_row true true v ss set s one =
    is_of_row (record { no_group = refl; no_objective = refl }) s (ap variables (sym (one refl)))
    refl
of_row true false v ss set s one =
    is_of_row (record { no_group = refl; no_objective = refl }) s refl refl
of_row false true v ss set s one =
    is_of_row (record { no_group = refl; no_objective = refl }) s (ap variables (sym (one refl)))
    refl
of_row false false v ss set s one =
    is_of_row (record { no_group = refl; no_objective = refl }) s refl refl

-- ---- the law, over the two

record IsLater (edge : Edge) (item : Item) (group row : Body) : Type 0 where
  item_valid : IsValidItem item
  source : is_group item.body ≡ true
  of_group : IsOfFree group (inner item (size item))
  of_row : IsOfRow row (inner item (size item)) (set_of item.body)
  no_growth : growth (family_of edge) ≡ 1
  group_leads : LeadsToKind edge group
  row_leads : LeadsToKind edge row

expressed-kept : (ss : List Address) → map expressed (map Kept ss) ≡ variables ss
expressed-kept [] = refl
expressed-kept (s ∷ ss) = ap (λ fs. variable s ∷ fs) (expressed-kept ss)

group_body_held : (bound : Rational) (b : Body) (w : List Rational) → is_group b ≡ true
    → held_body bound b w ≡ held_of w (functions_of b) (set_of b)
group_body_held bound (Group set vars) w g = refl
group_body_held bound (Free vars) w g = refl
group_body_held bound _ w g = absurd (true≢false (sym g))

module _ (edge : Edge) (item : Item) (group row : Body) (l : IsLater edge item group row) where
  abbrev n : ℕ
  n = size item

  abbrev ss : List Address
  ss = inner item n

  abbrev set : Set
  set = set_of item.body

  abbrev image : Image
  image = record {
    groups = child_at item 0 group ∷ [];
    exprs = map Kept ss;
    rows = child_at item 1 row ∷ [];
    objective = None;
  }

  long : length ss ≡ n
  long = length-components (child_of item.at 0) n

  vars_long : length (variables ss) ≡ n
  vars_long = length-map ss variable ∙ long

  item_is : (bound : Rational) (w : List Rational)
      → held_item bound item image w ≡ held_of w (variables ss) set
  item_is bound w =
      group_held bound item.body w (map expressed image.exprs) l.source
      ∙ ap (λ gs. held_of w gs set) (expressed-kept ss)

  group_is : (bound : Rational) (g : List Rational)
      → held_body bound group g ≡ held_of g (variables ss) (Reals (length ss))
  group_is bound g =
      group_body_held bound group g l.of_group.group
      ∙ ap₂ (held_of g) l.of_group.functions l.of_group.set

  row_is : (bound : Rational) (y : List Rational)
      → held_body bound row y ≡ held_of y (variables ss) set
  row_is bound y = held_row bound row y l.of_row.row
      ∙ ap₂ (held_of y) l.of_row.functions l.of_row.same_set

  values : CarriesValues item image
  values = record {
    holds = λ no_objective one x h below.
        subst (λ k. Holds one k x) (row_is zero_ℚ [] ∙ sym (item_is zero_ℚ []))
        (below 1 (child_at item 1 row) (omega arith));
    costs = λ one x h below. All-nil _;
  }

  abbrev duals_of : List Rational → List Rational → ChildDuals
  duals_of g y = record { groups = g ∷ []; rows = y ∷ []; objective = [] }

  module _
      (bound : Rational) (g y w : List Rational)
      (b : Balances bound edge item image (duals_of g y) w) where
    group_held_by : IsHeld (held_of g (variables ss) (Reals (length ss)))
    group_held_by =
        subst IsHeld (group_is bound g) (b.hold 0 (held_body bound row y) (omega arith))

    row_held_by : IsHeld (held_of y (variables ss) set)
    row_held_by = subst IsHeld (row_is bound y) (b.hold 1 (held_body bound row y) (omega arith))

    -- the sums over the children are the row's, since the free variables' numbers are 0
    children_at : (v : Address)
        → adjoint (held_children bound image (duals_of g y)) v
        ≡ dot y (coefficients (variables ss) v)
    children_at v =
        ap₂ ◌+ℚ◌ (ap (λ k. adjoint_of k v) (group_is bound g)
        ∙ zeros_dot g (coefficients (variables ss) v) group_held_by.dual)
        (+ℚ-zero (adjoint_of (held_body bound row y) v) ∙ ap (λ k. adjoint_of k v) (row_is bound y))
        ∙ zero-+ℚ (dot y (coefficients (variables ss) v))

    abbrev Agree : Address → Type 0
    Agree v = adjoint_of (held_item bound item image w) v
        ≡ adjoint (held_children bound image (duals_of g y)) v

    balance : All Agree ss
    balance = subst (All Agree) (append-nil (variables_of group) ∙ l.of_group.named) b.inner

    w_long : length w ≡ n
    w_long = b.carries.by_component l.source

    w_is : w ≡ y
    w_is =
        sym (weighed_components (child_of item.at 0) n w w_long)
        ∙ map_same_on (λ v. dot w (coefficients (variables ss) v))
        (λ v. dot y (coefficients (variables ss) v)) ss
        (All-weaker Agree (λ v. dot w (coefficients (variables ss) v)
        ≡ dot y (coefficients (variables ss) v))
        (λ v e. sym (ap (λ k. adjoint_of k v) (item_is bound w)) ∙ e ∙ children_at v) ss balance)
        ∙ weighed_components (child_of item.at 0) n y (row_held_by.size ∙ vars_long)

    same_held : held_item bound item image w ≡ held_of y (variables ss) set
    same_held = item_is bound w ∙ ap (λ u. held_of u (variables ss) set) w_is

    gaps_are : gap (held_children bound image (duals_of g y))
        ≡ gap_of (held_of y (variables ss) set)
    gaps_are =
        ap₂ ◌+ℚ◌
        (ap gap_of (group_is bound g)
        ∙ ap (λ q. zero_ℚ
        -ℚ q) (dot_zeros g (constants (variables ss)) (constants-variables ss))
        ∙ -ℚ-itself zero_ℚ)
        (+ℚ-zero (gap_of (held_body bound row y)) ∙ ap gap_of (row_is bound y))
        ∙ zero-+ℚ (gap_of (held_of y (variables ss) set))

    covered_by : IsCovered bound item image (duals_of g y) w
    covered_by = record {
      holds = subst IsHeld (sym same_held) row_held_by;
      same = λ v. ap (λ k. adjoint_of k v) same_held ∙ sym (children_at v);
      gaps = ≤ℚ_from_≡ _ _ (gaps_are ∙ sym (ap gap_of same_held));
    }

  group_size : length (functions_of group) ≡ n
  group_size = ap length l.of_group.functions ∙ vars_long

  row_size : length (functions_of row) ≡ n
  row_size = ap length l.of_row.functions ∙ vars_long

  group_valid : length item.at.positions < 38 → IsValidWithin (child_at item 0 group)
  group_valid room few = record {
    function = l.of_group.shaped;
    some = subst (λ m. 1 ≤ m) (sym group_size) l.item_valid.some;
    at_most = few;
    set =
        subst (λ m. IsSetOf m (set_of group)) (sym group_size)
        (subst (IsSetOf n) (sym l.of_group.set) (record {
          dimension = long;
          enough = l.item_valid.some;
          uncrossed = refl;
        }));
    depth =
        subst (λ m. m ≤ 38) (sym (length-append item.at.positions (0 ∷ []))) (omega (arith, room));
    others = λ none. absurd (true≢false (sym l.of_group.group ∙ none));
  }

  row_valid : length item.at.positions < 38 → IsValidWithin (child_at item 1 row)
  row_valid room =
      second_row_valid item row l.of_row.shaped
      (subst (λ m. 1 ≤ m) (sym row_size) l.item_valid.some)
      (subst (λ m. IsSetOf m (set_of row)) (sym row_size)
      (subst (IsSetOf n) (sym l.of_row.same_set) l.item_valid.set))
      (subst (All (NamesNothingBelow (child_of item.at 1))) (sym l.of_row.functions)
      (components_apart item.at 1 n (omega arith)))
      room

  has_them : HasComponents (child_at item 0 group)
  has_them =
      l.of_group.named
      ∙ sym (ap (λ m. map (child_of (child_of item.at 0)) (range_with_len 0 m))
      (ap length l.of_group.named ∙ long))

  abbrev both : (P : Item → Type 0) → P (child_at item 0 group) → P (child_at item 1 row)
      → All P (child_at item 0 group ∷ child_at item 1 row ∷ [])
  both P p q = All-cons P (child_at item 0 group) (child_at item 1 row ∷ []) p
      (All-cons P (child_at item 1 row) [] q (All-nil P))

  grows : (b : Body) → length (functions_of b) ≡ n
      → length (functions_of b) ≤ growth (family_of edge) * n
  grows b e = subst (λ m. length (functions_of b) ≤ m * n) (sym l.no_growth) (omega (arith, e))

  -- what isn't among the child group's variables
  absent_from : (v : Address) → ¬ (Contains (inner_of image.groups) v) → Miss (variables ss) v
  absent_from v absent =
      variables_missed ss v
      (not_contained ss v (λ there. absent (subst (λ us. Contains us v)
      (sym (append-nil (variables_of group) ∙ l.of_group.named)) there)))

  later_law : EdgeLaw edge item image
  later_law = record {
    values = values;
    duals = carries_duals edge item image (λ bound w g y b. covered_by bound g y w b);
    positions = refl;
    valid = λ room. both IsValidWithin (group_valid room) (row_valid room);
    sizes =
        both (GrowsBy (growth (family_of edge)) item) (grows group group_size) (grows row row_size);
    kinds = both (λ child. LeadsToKind edge child.body) l.group_leads l.row_leads;
    components = All-cons HasComponents (child_at item 0 group) [] has_them (All-nil HasComponents);
    mentioned = All-cons (MentionsKnown item image) (child_at item 1 row) []
        (λ v m absent. subst (λ fs. Miss fs v) (sym l.of_row.functions) (absent_from v absent))
        (All-nil (MentionsKnown item image));
    exprs = λ _. length-map ss Kept ∙ long;
    expressed =
        λ v absent. subst (λ fs. Miss fs v) (sym (expressed-kept ss)) (absent_from v absent);
  }

-- ---- what an edge of the family leads from

pub record LaterSourced (edge : Edge) (b : Body) : Type 0 where
  pub group : is_group b ≡ true
  scalar : Bool
  scalar_is : is_scalar (set_of b) ≡ scalar
  free : Bool
  free_is : begins_free (children_of edge) ≡ free
  group_leads : (d : ℕ) (ss : List Address) → LeadsToKind edge (first_child free d ss)
  row_leads : (v : Address) (ss : List Address)
      → LeadsToKind edge (second_child free scalar v ss (set_of b))

from : {edge : Edge} {b : Body} (free scalar : Bool) → is_group b ≡ true
    → begins_free (children_of edge) ≡ free → is_scalar (set_of b) ≡ scalar
    → ((d : ℕ) (ss : List Address) → LeadsToKind edge (first_child free d ss))
    → ((v : Address) (ss : List Address) → LeadsToKind edge (second_child free scalar v ss (set_of b)))
    → LaterSourced edge b
from free scalar group free_is scalar_is group_leads row_leads = record {
  group = group;
  scalar = scalar;
  scalar_is = scalar_is;
  free = free;
  free_is = free_is;
  group_leads = group_leads;
  row_leads = row_leads;
}

sourced : (edge : Edge) → family_of edge ≡ Later → {b : Body} → OfKind (source_of edge) b
    → LaterSourced edge b
unfolding edge_entry kind_of_body
sourced E49 own group_less_than = from true true refl refl refl (λ d ss. refl) (λ v ss. refl)
sourced E50 own group_greater_than = from true true refl refl refl (λ d ss. refl) (λ v ss. refl)
sourced E51 own group_equal_to = from true true refl refl refl (λ d ss. refl) (λ v ss. refl)
sourced E52 own group_interval = from true true refl refl refl (λ d ss. refl) (λ v ss. refl)
sourced E53 own group_nonnegatives = from true false refl refl refl (λ d ss. refl) (λ v ss. refl)
sourced E54 own group_interval = from false true refl refl refl (λ d ss. refl) (λ v ss. refl)
sourced E55 own group_nonnegatives = from false false refl refl refl (λ d ss. refl) (λ v ss. refl)
sourced E56 own group_norm_infinity_cone =
    from false false refl refl refl (λ d ss. refl) (λ v ss. refl)
sourced E57 own group_norm_one_cone = from false false refl refl refl (λ d ss. refl) (λ v ss. refl)
sourced _ own k = of_another own refl

-- ---- the children that the table names

abbrev head_of : Item → Address
head_of item = child_of (child_of item.at 0) 0

abbrev row_of : Bool → List Address → Set → Body
row_of free ss set = cond free (plain ss set) (affine (variables ss) set)

plain_is : (scalar : Bool) (v : Address) (ss : List Address) (set : Set) → is_scalar set ≡ scalar
    → (scalar ≡ true → ss ≡ v ∷ []) → plain ss set ≡ second_child true scalar v ss set
plain_is true v us t s one = ap (λ ws. plain ws t) (one refl)
    ∙ ap (λ b. cond b (Plain v t) (PlainVec (v ∷ []) t)) s
plain_is false v [] t s one = refl
plain_is false v (u ∷ us) t s one = ap (λ b. cond b (Plain u t) (PlainVec (u ∷ us) t)) s

affine_is : (scalar : Bool) (v : Address) (ss : List Address) (set : Set) → is_scalar set ≡ scalar
    → (scalar ≡ true → ss ≡ v ∷ []) → affine (variables ss) set ≡ second_child false scalar v ss set
affine_is true v us t s one =
    ap (λ ws. affine (variables ws) t) (one refl)
    ∙ ap (λ b. cond b (Affine (variable v) t) (AffineVec (variables (v ∷ [])) t)) s
affine_is false v us t s one =
    ap (λ b. cond b (Affine (first_in (variables us)) t) (AffineVec (variables us) t)) s

pub row_is_second : (free scalar : Bool) (v : Address) (ss : List Address) (set : Set)
    → is_scalar set ≡ scalar
    → (scalar ≡ true → ss ≡ v ∷ []) → row_of free ss set ≡ second_child free scalar v ss set
row_is_second true scalar v us t s one = plain_is scalar v us t s one
row_is_second false scalar v us t s one = affine_is scalar v us t s one

one_inner : (item : Item) → IsValidItem item → (scalar : Bool)
    → is_scalar (set_of item.body) ≡ scalar
    → scalar ≡ true → inner item (size item) ≡ head_of item ∷ []
one_inner item valid scalar s e =
    ap (inner item) (sym valid.set.dimension ∙ scalar_one (set_of item.body) (s ∙ e))

abbrev pub later_parts : Item → Body → Body → List Address → Image
later_parts item group row ss = group_and_row item (child_at item 0 group) (map Kept ss) row

free_child : (free : Bool) (item : Item)
    → cond free (free_at item (size item)) (group_at item (Reals (size item)) (size item))
    ≡ child_at item 0 (first_child free (size item) (inner item (size item)))
free_child true item = refl
free_child false item = refl

later_is : (edge : Edge) (item : Item) (free : Bool) → begins_free (children_of edge) ≡ free
    → later edge item
    ≡ later_parts item (first_child free (size item) (inner item (size item)))
    (row_of free (inner item (size item)) (set_of item.body)) (inner item (size item))
later_is edge item free e =
    ap (λ b. record {
      groups =
          cond b (free_at item (size item)) (group_at item (Reals (size item)) (size item)) ∷ [];
      exprs = map Kept (inner item (size item));
      rows = child_at item 1 (cond b (plain (inner item (size item)) (set_of item.body))
          (affine (inner_functions item (size item)) (set_of item.body))) ∷ [];
      objective = None;
    }) e
    ∙ ap (λ g. group_and_row item g (map Kept (inner item (size item)))
    (row_of free (inner item (size item)) (set_of item.body))) (free_child free item)

-- an image that is made of these parts is the item's
pub parts_made : (edge : Edge) (item : Item) → IsValidItem item
    → (at first : Address) (free : Bool) (count : ℕ) (vars : List Address)
    (exprs : List Expression) (part : Set) (group row : Body)
    → at ≡ child_of item.at 0 → first ≡ child_of at 0 → free ≡ begins_free (children_of edge)
    → count ≡ size item
    → vars ≡ inner item count → exprs ≡ map Kept vars → part ≡ set_of item.body
    → group ≡ first_child free count vars
    → row ≡ second_child free (is_scalar part) first vars part
    → group_and_row item (item_of at group) exprs row ≡ later edge item
parts_made edge item valid at first free count vars exprs part group row at_is first_is free_is
    count_is vars_are exprs_are part_is group_is row_is =
    let whole = set_of item.body in
    let all = inner item (size item) in
    let all_are : vars ≡ all = vars_are ∙ ap (inner item) count_is in
    let child : item_of at group ≡ child_at item 0 (first_child free (size item) all) =
    ap₂ item_of at_is (group_is ∙ ap₂ (first_child free) count_is all_are) in
    let head : first ≡ head_of item = first_is ∙ ap (λ a. child_of a 0) at_is in
    let made : row ≡ second_child free (is_scalar whole) (head_of item) all whole =
    row_is ∙ λ i. second_child free (is_scalar (part_is i)) (head i) (all_are i) (part_is i) in
    (λ i. group_and_row item (child i) ((exprs_are ∙ ap (map Kept) all_are) i) (made i))
    ∙ sym (later_is edge item free (sym free_is)
    ∙ ap (λ r. later_parts item (first_child free (size item) all) r all)
    (row_is_second free (is_scalar whole) (head_of item) all whole refl
    (one_inner item valid (is_scalar whole) refl)))

module _ (edge : Edge) (own : family_of edge ≡ Later) (item : Item) (valid : IsValidItem item)
    (s : LaterSourced edge item.body) where
  one : s.scalar ≡ true → inner item (size item) ≡ head_of item ∷ []
  one = one_inner item valid s.scalar s.scalar_is

  abbrev group : Body
  group = first_child s.free (size item) (inner item (size item))

  abbrev row : Body
  row = second_child s.free s.scalar (head_of item) (inner item (size item)) (set_of item.body)

  keeps_law : EdgeLaw edge item (later edge item)
  keeps_law =
      subst (EdgeLaw edge item)
      (sym (later_is edge item s.free s.free_is
      ∙ ap (λ r. later_parts item group r (inner item (size item)))
      (row_is_second s.free s.scalar (head_of item) (inner item (size item)) (set_of item.body)
      s.scalar_is one)))
      (later_law edge item group row (record {
        item_valid = valid;
        source = s.group;
        of_group = of_free s.free (size item) (inner item (size item))
            (length-components (child_of item.at 0) (size item));
        of_row = of_row s.free s.scalar (head_of item) (inner item (size item)) (set_of item.body)
            s.scalar_is one;
        no_growth = ap growth own;
        group_leads = s.group_leads (size item) (inner item (size item));
        row_leads = s.row_leads (head_of item) (inner item (size item));
      }))

pub rule : IsGroupRule Later LaterSourced later 1
unfolding image_by back_by
rule = record {
  carry = λ item ys. [];
  rule = record { image = λ edge item. refl; back = λ item ys. refl; sourced = sourced };
  no_sum = refl;
  no_dual_sum = refl;
  children = λ edge item. refl;
  dual = λ edge item s no_group. absurd (true≢false (sym s.group ∙ no_group));
  law = keeps_law;
}
