-- The image of an item by an edge: its children, and the expressions of a group's components.
--
-- x is the item's variable, f its function, d the number of its components, S its set, and s the
-- components of its child group.
use Rattle.std.specs.Prelude.{ℕ, ◌+◌, Bool, true, false, cond, List, [], ◌∷◌, ◌++◌, map, take, drop, fold, length, All, None, Some}
use Rattle.std.specs.List.{zip}
use Rattle.ratio_core.specs.Rational.{zero_ℚ, neg_ℚ, SumFits}
use Rattle.aff_core.specs.Address.{Address, child_of}
use Rattle.aff_core.specs.Arithmetic.{sum_of, PlusFits}
use Rattle.aff_core.specs.Function.{Function, constant_function, negated, variable}
use Rattle.set_core.specs.Mirrored.{mirrored}
use Rattle.set_core.specs.declared.set.Set.{Set}
use Rattle.set_core.specs.declared.set.Set.TheVariants.{LessThan, GreaterThan, EqualTo, Reals, Zeros, Nonnegatives}
use Rattle.item_core.specs.declared.edge.Edge.{Edge}
use Rattle.item_core.specs.declared.family.Family.{Family}
use Rattle.item_core.specs.declared.family.Family.TheVariants as family
use Rattle.item_core.specs.declared.kind.Kind.{Kind}
use Rattle.item_core.specs.declared.kind.Kind.TheVariants as kind
use Rattle.aff_core.specs.declared.sense.Sense.{Sense}
use Rattle.aff_core.specs.declared.sense.Sense.TheVariants.{Min, Max}
use Rattle.item_core.specs.declared.item.Body.{Body}
use Rattle.item_core.specs.declared.item.Body.TheVariants.{Group, Free, Affine, AffineVec, PlainObj, AffineObj}
use Rattle.item_core.specs.declared.item.Item.{Item}
use Rattle.item_core.specs.declared.image.Image.{Image}
use Rattle.item_core.specs.declared.image.Expression.{Expression}
use Rattle.item_core.specs.declared.image.Expression.TheVariants.{Kept, Bridged}
use Rattle.item_core.specs.Edge.{children_of, family_of}
use Rattle.item_core.specs.Item.{functions_of, set_of}
use Rattle.bridge_face.specs.BackOf.{size}
use Rattle.bridge_face.specs.Images.{affine, child_at, component_of, components, cone_of, difference, each_component, first_in, function_of_body, group_by, lower_part, number_in, plain, raised, rest_of, row_at, rows_at, upper_part, with_set}

-- ---- pieces

-- the components of the child group
abbrev pub inner : Item → ℕ → List Address
inner item n = components (child_of item.at 0) n

abbrev pub inner_functions : Item → ℕ → List Function
inner_functions item n = map variable (inner item n)

-- the child group
abbrev pub group_at : Item → Set → ℕ → Item
group_at item set n = child_at item 0 (Group set (inner item n))

abbrev pub free_at : Item → ℕ → Item
free_at item n = child_at item 0 (Free (inner item n))

abbrev pub differences : List Function → List Function → List Function
differences fs gs = map (λ p. difference p.0 p.1) (zip fs gs)

abbrev pub sums : List Function → List Function → List Function
sums fs gs = map (λ p. sum_of p.0 p.1) (zip fs gs)

abbrev pub bridged : List Function → List Expression
bridged fs = map Bridged fs

abbrev pub opposite : Sense → Sense
opposite Min = Max
opposite Max = Min

-- where the objective is sought: above the function for the least value, below it for the greatest
abbrev pub beyond : Sense → Set
beyond Min = GreaterThan zero_ℚ
beyond Max = LessThan zero_ℚ

abbrev pub sense_of : Body → Sense
sense_of (PlainObj sense var) = sense
sense_of (AffineObj sense func) = sense
sense_of _ = Min

-- whether the first child is free variables
abbrev pub begins_free : List Kind → Bool
begins_free (kind.Free ∷ kinds) = true
begins_free _ = false

-- ---- rows

-- f ≤ u is -f ≥ -u, and f ≥ l is -f ≤ -l
abbrev pub greater_less : Item → Image
greater_less item =
    row_at item (Affine (negated (function_of_body item.body)) (mirrored (set_of item.body)))

-- f ≥ 0 is -f ≤ 0, and f ≤ 0 is -f ≥ 0
abbrev pub orthant_flip : Item → Image
orthant_flip item =
    row_at item (AffineVec (map negated (functions_of item.body)) (mirrored (set_of item.body)))

-- f ≤ u is (f - u) ≤ 0 with one component, and so for ≥ and =
abbrev pub vectorize : Item → Image
vectorize item =
    let set = set_of item.body in
    let f = raised (function_of_body item.body) (neg_ℚ (number_in set)) in
    row_at item (AffineVec (f ∷ []) (cone_of set))

-- l ≤ f ≤ u is f ≥ l and f ≤ u, f = v is f ≥ v and f ≤ v, and f = 0 is f ≥ 0 and f ≤ 0
abbrev pub split_set : Item → Image
split_set item =
    let set = set_of item.body in
    rows_at item (with_set item.body (lower_part set) ∷ with_set item.body (upper_part set) ∷ [])

-- a row for each component: f_i = 0, f_i ≥ 0 or f_i ≤ 0
abbrev pub scalarize : Item → Image
scalarize item = rows_at item (each_component item.body (component_of (set_of item.body)))

-- a plain row is an affine one of the same variables
abbrev pub functionize : Item → Image
functionize item = row_at item (affine (functions_of item.body) (set_of item.body))

-- f in S is s in S and f - s = 0
abbrev pub scalar_slack : Item → Image
scalar_slack item =
    let rest = differences (functions_of item.body) (inner_functions item 1) in
    record {
      groups = group_at item (set_of item.body) 1 ∷ [];
      exprs = [];
      rows = child_at item 1 (Affine (first_in rest) (EqualTo zero_ℚ)) ∷ [];
      objective = None;
    }

abbrev pub vector_slack : Item → Image
vector_slack item =
    let d = size item in
    let rest = differences (functions_of item.body) (inner_functions item d) in
    record {
      groups = group_at item (set_of item.body) d ∷ [];
      exprs = [];
      rows = child_at item 1 (AffineVec rest (Zeros d)) ∷ [];
      objective = None;
    }

-- t ≥ |x_i| for each i is t - x_i ≥ 0 and t + x_i ≥ 0
abbrev pub norm_infinity : Item → Image
norm_infinity item =
    let t = function_of_body item.body in
    let xs = rest_of (functions_of item.body) in
    let n = length xs in
    row_at item (AffineVec (map (difference t) xs ++ map (sum_of t) xs) (Nonnegatives (n + n)))

-- t ≥ Σ |x_i| is t - Σ s_i ≥ 0, s_i - x_i ≥ 0 and s_i + x_i ≥ 0
abbrev pub norm_one : Item → Image
norm_one item =
    let t = function_of_body item.body in
    let xs = rest_of (functions_of item.body) in
    let n = length xs in
    let ss = inner_functions item n in
    let made = fold difference t ss ∷ differences ss xs ++ sums ss xs in
    record {
      groups = group_at item (Reals n) n ∷ [];
      exprs = [];
      rows = child_at item 1 (AffineVec made (Nonnegatives (n + n + 1))) ∷ [];
      objective = None;
    }

-- ---- groups

-- x is s - s' with both at least 0
abbrev pub free_var : Item → Image
free_var item =
    let d = size item in
    let ss = inner_functions item (d + d) in
    group_by (group_at item (Nonnegatives (d + d)) (d + d) ∷ [])
    (bridged (differences (take d ss) (drop d ss)))

-- x ≤ 0 is -s with s ≥ 0
abbrev pub nonpos_var : Item → Image
nonpos_var item =
    let d = size item in
    group_by (group_at item (Nonnegatives d) d ∷ [])
    (bridged (map negated (inner_functions item d)))

-- x = 0 is 0
abbrev pub zeros_var : Item → Image
zeros_var item =
    group_by [] (bridged (map (λ _. constant_function zero_ℚ) (functions_of item.body)))

-- x ≤ u is u + s with s ≤ 0, and so for ≥ and =
abbrev pub vectorize_var : Item → Image
vectorize_var item =
    let set = set_of item.body in
    group_by (group_at item (cone_of set) 1 ∷ [])
    (bridged (map (λ s. raised s (number_in set)) (inner_functions item 1)))

-- x in S is s, free at first, and a row s in S: plain where the child group is free variables,
-- else affine
abbrev pub later_image : Bool → Item → Set → ℕ → Image
later_image free item set d = record {
  groups = cond free (free_at item d) (group_at item (Reals d) d) ∷ [];
  exprs = map Kept (inner item d);
  rows =
      child_at item 1 (cond free (plain (inner item d) set)
      (affine (inner_functions item d) set))
      ∷ [];
  objective = None;
}

abbrev pub later : Edge → Item → Image
later edge item =
    later_image (begins_free (children_of edge)) item (set_of item.body) (size item)

-- ---- objectives

abbrev pub objective_at : Item → Body → Image
objective_at item body =
    record { groups = []; exprs = []; rows = []; objective = Some (child_at item 0 body) }

-- the least f is minus the greatest -f
abbrev pub obj_flip : Item → Image
obj_flip item =
    objective_at item
    (AffineObj (opposite (sense_of item.body)) (negated (function_of_body item.body)))

abbrev pub obj_functionize : Item → Image
obj_functionize item =
    objective_at item (AffineObj (sense_of item.body) (function_of_body item.body))

-- the least f is the least s with s - f ≥ 0, and the greatest f the greatest s with s - f ≤ 0
abbrev pub obj_slack : Item → Image
obj_slack item =
    let sense = sense_of item.body in
    let over = differences (inner_functions item 1) (functions_of item.body) in
    record {
      groups = free_at item 1 ∷ [];
      exprs = [];
      rows = child_at item 1 (Affine (first_in over) (beyond sense)) ∷ [];
      objective = Some (child_at item 2 (PlainObj sense (child_of (child_of item.at 0) 0)));
    }

-- ---- the table

unfoldable pub image_by : Family → Edge → Item → Image
image_by family.GreaterLess edge item = greater_less item
image_by family.OrthantFlip edge item = orthant_flip item
image_by family.NonposVar edge item = nonpos_var item
image_by family.ObjFlip edge item = obj_flip item
image_by family.Vectorize edge item = vectorize item
image_by family.Scalarize edge item = scalarize item
image_by family.ScalarFunctionize edge item = functionize item
image_by family.VectorFunctionize edge item = functionize item
image_by family.VectorizeVar edge item = vectorize_var item
image_by family.ObjFunctionize edge item = obj_functionize item
image_by family.SplitSet edge item = split_set item
image_by family.DropReals edge item = rows_at item []
image_by family.ZerosVar edge item = zeros_var item
image_by family.FreeVar edge item = free_var item
image_by family.ScalarSlack edge item = scalar_slack item
image_by family.VectorSlack edge item = vector_slack item
image_by family.Later edge item = later edge item
image_by family.ObjSlack edge item = obj_slack item
image_by family.NormInfinity edge item = norm_infinity item
image_by family.NormOne edge item = norm_one item

abbrev pub image_of : Edge → Item → Image
image_of edge item = image_by (family_of edge) edge item

-- ---- what must fit

-- each sum of the second function into the first
abbrev pub EachSumFits : List Function → List Function → Type 0
EachSumFits fs gs = All (λ p. PlusFits p.0 p.1) (zip fs gs)

-- the sums are made from the left: t - s_1 - s_2 ..
unfoldable pub DifferencesFit : Function → List Function → Type 0
DifferencesFit t [] = Unit {0}
DifferencesFit t (s ∷ ss) = PlusFits t (negated s) × DifferencesFit (difference t s) ss

abbrev pub negations : List Function → List Function
negations fs = map negated fs

-- each sum that the image of an edge of the family names
unfoldable pub FitsBy : Family → Item → Type 0
FitsBy family.Vectorize item =
    SumFits (function_of_body item.body).constant (neg_ℚ (number_in (set_of item.body)))
FitsBy family.NormInfinity item =
    let t = function_of_body item.body in
    let xs = rest_of (functions_of item.body) in
    All (λ x. PlusFits t (negated x)) xs × All (λ x. PlusFits t x) xs
FitsBy family.NormOne item =
    let xs = rest_of (functions_of item.body) in
    let ss = inner_functions item (length xs) in
    DifferencesFit (function_of_body item.body) ss
    × EachSumFits ss (negations xs) × EachSumFits ss xs
FitsBy _ item = Unit {0}

abbrev pub ImageFits : Edge → Item → Type 0
ImageFits edge item = FitsBy (family_of edge) item
