-- What each edge owes: values are carried from the children to the item, and duals with them.
--
-- For duals an objective is the row that its cost is at most a bound, whatever the bound: its
-- function where the least value is sought, and the negated function where the greatest is.
use Rattle.std.specs.Prelude.{◌≡◌, ◌*◌, ◌<◌, ◌≤◌, ℕ, cond, Contains, Bool, true, false, List, [], ◌∷◌, ◌++◌, map, All, length, Option, None, Some}
use Rattle.std.specs.List.{list_any, range_with_len, zip}
use Rattle.ratio_core.specs.Rational.{Rational, zero_ℚ, ◌≤ℚ◌}
use Rattle.aff_core.specs.Address.{Address, child_of}
use Rattle.aff_core.specs.Function.{Function, coefficient, constant_function, evaluated, negated, variable}
use Rattle.set_core.specs.declared.set.Set.{Set}
use Rattle.set_core.specs.declared.set.Set.TheVariants.{LessThan}
use Rattle.dual_laws.specs.Held.{DualsHold, DualRow, Holds, IsHeld, adjoint, adjoint_of, gap, gap_of}
use Rattle.item_core.specs.declared.edge.Edge.{Edge}
use Rattle.item_core.specs.declared.family.Family.{Family}
use Rattle.item_core.specs.declared.family.Family.TheVariants as family
use Rattle.aff_core.specs.declared.sense.Sense.{Sense}
use Rattle.aff_core.specs.declared.sense.Sense.TheVariants.{Min, Max}
use Rattle.item_core.specs.declared.item.Body.{Body}
use Rattle.item_core.specs.declared.item.Body.TheVariants.{PlainObj, AffineObj}
use Rattle.item_core.specs.declared.item.Item.{Item}
use Rattle.item_core.specs.declared.image.Image.{Image}
use Rattle.item_core.specs.declared.image.Expression.{Expression}
use Rattle.item_core.specs.declared.image.Expression.TheVariants.{Kept, Bridged}
use Rattle.item_core.specs.Edge.{children_of, edges_of, family_of, source_of}
use Rattle.item_core.specs.Item.{functions_of, is_group, set_of, variables_of}
use Rattle.item_core.specs.Kind.{kind_eq}
use Rattle.item_core.specs.KindOf.{kind_of_body}
use Rattle.item_core.specs.Valid.{IsValidItem}
use Rattle.bridge_face.specs.ImageOf.{image_of}
use Rattle.bridge_face.specs.BackOf.{back_of, first_of}

-- ---- items as rows

abbrev pub is_objective : Body → Bool
is_objective (PlainObj sense var) = true
is_objective (AffineObj sense func) = true
is_objective _ = false

-- the function for the least value, and its negation for the greatest
abbrev pub cost_by : Sense → Function → Function
cost_by Min f = f
cost_by Max f = negated f

abbrev pub cost_of : Body → Function
cost_of (PlainObj sense var) = cost_by sense (variable var)
cost_of (AffineObj sense func) = cost_by sense func
cost_of _ = constant_function zero_ℚ

abbrev pub row_functions : Body → List Function
row_functions (PlainObj sense var) = cost_by sense (variable var) ∷ []
row_functions (AffineObj sense func) = cost_by sense func ∷ []
row_functions body = functions_of body

-- a body's set, with this bound on an objective's cost
abbrev pub row_set : Rational → Body → Set
row_set bound (PlainObj sense var) = LessThan bound
row_set bound (AffineObj sense func) = LessThan bound
row_set bound body = set_of body

abbrev pub held_body : Rational → Body → List Rational → DualRow
held_body bound body w =
    record { duals = w; functions = row_functions body; set = row_set bound body }

abbrev pub expressed : Expression → Function
expressed (Kept var) = variable var
expressed (Bridged func) = func

-- what stands for the item over its children: a group's expressions, and another item's functions
abbrev pub standing : Item → Image → List Function
standing item image =
    cond (is_group item.body) (map expressed image.exprs) (row_functions item.body)

-- the item with its dual, which for a group are its components' numbers
abbrev pub held_item : Rational → Item → Image → List Rational → DualRow
held_item bound item image w =
    record { duals = w; functions = standing item image; set = row_set bound item.body }

abbrev pub listed : Option Item → List Item
listed None = []
listed (Some item) = item ∷ []

-- the children in the order of their positions
abbrev pub children : Image → List Item
children image = image.groups ++ (image.rows ++ listed image.objective)

-- the variables of the child groups
abbrev pub inner_of : List Item → List Address
inner_of [] = []
inner_of (group ∷ groups) = variables_of group.body ++ inner_of groups

-- ---- values upward: at a point, where `one` is 1, and along a ray, where it is 0

abbrev pub HoldsAt : Rational → (Address → Rational) → Item → Type 0
HoldsAt one x item = Holds one (held_body zero_ℚ item.body []) x

-- the child groups and rows hold
abbrev pub ChildrenHold : Rational → (Address → Rational) → Image → Type 0
ChildrenHold one x image = All (HoldsAt one x) (image.groups ++ image.rows)

-- where they hold, the item does, and no child objective costs less than the item's
pub record CarriesValues (item : Item) (image : Image) : Type 0 where
  pub holds :
      is_objective item.body ≡ false → (one : Rational) (x : Address → Rational) → zero_ℚ ≤ℚ one
      → ChildrenHold one x image → Holds one (held_item zero_ℚ item image []) x
  pub costs :
      (one : Rational) (x : Address → Rational) → zero_ℚ ≤ℚ one → ChildrenHold one x image
      → All (λ child. evaluated one (cost_of item.body) x ≤ℚ evaluated one (cost_of child.body) x)
      (listed image.objective)

-- ---- duals downward

-- items with their duals
abbrev pub held : Rational → List Item → List (List Rational) → List DualRow
held bound items duals = map (λ p. held_body bound p.0.body p.1) (zip items duals)

-- duals of the children: of its groups the variables' numbers
pub record ChildDuals : Type 0 where
  pub groups : List (List Rational)
  pub rows : List (List Rational)
  pub objective : List (List Rational)

pub record OnePerChild (image : Image) (duals : ChildDuals) : Type 0 where
  pub groups : length duals.groups ≡ length image.groups
  pub rows : length duals.rows ≡ length image.rows
  pub objective : length duals.objective ≡ length (listed image.objective)

abbrev pub held_children : Rational → Image → ChildDuals → List DualRow
held_children bound image duals =
    held bound image.groups duals.groups
    ++ (held bound image.rows duals.rows ++ held bound (listed image.objective) duals.objective)

-- what is carried to the item: to a row by its edge's rule, and to an objective from the child
-- objective; a group has any numbers, one for each component
pub record Carries
    (edge : Edge) (item : Item) (duals : ChildDuals) (w : List Rational) : Type 0 where
  pub by_rule :
      is_group item.body ≡ false → is_objective item.body ≡ false
      → w ≡ back_of edge item duals.rows
  pub by_objective : is_objective item.body ≡ true → w ≡ first_of duals.objective
  pub by_component : is_group item.body ≡ true → length w ≡ length (functions_of item.body)

-- what is asked of the children's duals
pub record Balances
    (bound : Rational) (edge : Edge) (item : Item) (image : Image) (duals : ChildDuals)
    (w : List Rational) : Type 0 where
  pub each : OnePerChild image duals
  pub carries : Carries edge item duals w
  pub hold : DualsHold (held_children bound image duals)
  -- the sums of duals times coefficients agree at each variable of the child groups
  pub inner :
      All
      (λ v. adjoint_of (held_item bound item image w) v
      ≡ adjoint (held_children bound image duals) v)
      (inner_of image.groups)

-- what they give
pub record IsCovered
    (bound : Rational) (item : Item) (image : Image) (duals : ChildDuals)
    (w : List Rational) : Type 0 where
  pub holds : IsHeld (held_item bound item image w)
  pub same :
      (v : Address)
      → adjoint_of (held_item bound item image w) v ≡ adjoint (held_children bound image duals) v
  pub gaps : gap (held_children bound image duals) ≤ℚ gap_of (held_item bound item image w)

-- the adjoint law
abbrev pub CarriesDuals : Edge → Item → Image → Type 0
CarriesDuals edge item image =
    (bound : Rational) (duals : ChildDuals) (w : List Rational)
    → Balances bound edge item image duals w → IsCovered bound item image duals w

-- ---- where the children stand, and what they mention

-- the children stand at the positions from 0 on
abbrev pub StandsInOrder : Item → Image → Type 0
StandsInOrder item image =
    map (λ child. child.at) (children image)
    ≡ map (child_of item.at) (range_with_len 0 (length (children image)))

-- a child group's variables are its components
abbrev pub HasComponents : Item → Type 0
HasComponents group =
    variables_of group.body
    ≡ map (child_of group.at) (range_with_len 0 (length (variables_of group.body)))

-- no function mentions the address
abbrev pub Miss : List Function → Address → Type 0
Miss fs v = All (λ f. coefficient f v ≡ zero_ℚ) fs

-- a body's kind is one of those that the edge leads to
abbrev pub LeadsToKind : Edge → Body → Type 0
LeadsToKind edge b = list_any (kind_eq (kind_of_body b)) (children_of edge) ≡ true

-- a child mentions variables of the item and of the child groups alone
abbrev pub MentionsKnown : Item → Image → Item → Type 0
MentionsKnown item image child =
    (v : Address) → Miss (functions_of item.body) v → ¬ (Contains (inner_of image.groups) v)
    → Miss (functions_of child.body) v

-- a child is valid where it is within the limit on components
abbrev pub IsValidWithin : Item → Type 0
IsValidWithin child = length (functions_of child.body) ≤ 32767 → IsValidItem child

-- a child has at most n components for each of the item's
abbrev pub GrowsBy : ℕ → Item → Item → Type 0
GrowsBy n item child = length (functions_of child.body) ≤ n * length (functions_of item.body)

-- how many components a child may have for each of the item's
abbrev pub growth : Family → ℕ
growth family.NormInfinity = 2
growth family.NormOne = 2
growth family.FreeVar = 2
growth _ = 1

pub record EdgeLaw (edge : Edge) (item : Item) (image : Image) : Type 0 where
  pub values : CarriesValues item image
  pub duals : CarriesDuals edge item image
  pub positions : StandsInOrder item image
  pub valid : length item.at.positions < 38 → All IsValidWithin (children image)
  pub sizes : All (GrowsBy (growth (family_of edge)) item) (children image)
  pub kinds : All (λ child. LeadsToKind edge child.body) (children image)
  pub components : All HasComponents image.groups
  pub mentioned : All (MentionsKnown item image) (image.rows ++ listed image.objective)
  -- there is an expression for each component, which mentions variables of the child groups
  pub exprs : is_group item.body ≡ true → length image.exprs ≡ length (functions_of item.body)
  pub expressed :
      (v : Address) → ¬ (Contains (inner_of image.groups) v)
      → Miss (map expressed image.exprs) v

-- an item that the edge leads from
pub record IsItemFor (edge : Edge) (item : Item) : Type 0 where
  pub valid : IsValidItem item
  pub kind : kind_of_body item.body ≡ source_of edge

-- each edge of the family keeps the law
abbrev pub IsLawful : Family → Type 0
IsLawful family =
    All (λ edge. (item : Item) → IsItemFor edge item → EdgeLaw edge item (image_of edge item))
    (edges_of family)
