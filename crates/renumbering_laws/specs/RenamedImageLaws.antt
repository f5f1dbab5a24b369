-- The image of an item under another address is the image of the item, under other addresses.
use Rattle.std.specs.Prelude.{◌≡◌, ℕ, ◌+◌, Bool, true, false, List, [], ◌∷◌, ◌++◌, Some, None, drop, fold, length, map, take}
use Rattle.std.proofs.Common.{ap, ap₂, sym, ◌∙◌}
use Rattle.std.proofs.lemmas.List.{drop-map, length-map, map-append, take-map}
use Rattle.ratio_core.specs.Rational.{neg_ℚ, zero_ℚ}
use Rattle.set_core.specs.Mirrored.{mirrored}
use Rattle.set_core.specs.declared.set.Set.{Set}
use Rattle.set_core.specs.declared.set.Set.TheVariants.{EqualTo, Nonnegatives, Reals, Zeros}
use Rattle.aff_core.specs.Address.{Address, child_of}
use Rattle.aff_core.specs.Arithmetic.{sum_of}
use Rattle.aff_core.specs.Function.{Function, constant_function, negated}
use Rattle.aff_core.specs.KeyOrder.{address_order}
use Rattle.bridge_face.specs.BackOf.{size}
use Rattle.bridge_face.specs.ImageOf.{begins_free, beyond, bridged, differences, free_at, free_var, functionize, greater_less, group_at, image_by, image_of, inner, inner_functions, later, later_image, nonpos_var, norm_infinity, norm_one, obj_flip, obj_functionize, obj_slack, objective_at, opposite, orthant_flip, scalar_slack, scalarize, sense_of, split_set, sums, vector_slack, vectorize, vectorize_var, zeros_var}
use Rattle.bridge_face.specs.Images.{affine, child_at, component_of, cone_of, difference, each_component, first_in, function_of_body, group_by, lower_part, number_in, plain, raised, rest_of, row_at, rows_at, upper_part, with_set}
use Rattle.item_core.specs.declared.edge.Edge.{Edge}
use Rattle.item_core.specs.declared.family.Family.{Family}
use Rattle.item_core.specs.declared.family.Family.TheVariants as family
use Rattle.item_core.specs.declared.image.Expression.TheVariants.{Kept}
use Rattle.item_core.specs.declared.image.Image.{Image}
use Rattle.item_core.specs.declared.item.Body.{Body}
use Rattle.item_core.specs.declared.item.Body.TheVariants.{Affine, AffineObj, AffineVec, PlainObj}
use Rattle.item_core.specs.declared.item.Item.{Item}
use Rattle.item_core.specs.Edge.{children_of, family_of}
use Rattle.item_core.specs.Item.{functions_of, set_of}
use Rattle.renumbering_laws.specs.RenamedFunctions.{constant_function-renamed, negated-renamed, sum-renamed}
use Rattle.renumbering_laws.specs.RenamedItems.{IsRenaming, functions-renamed, map_either, renamed, renamed_body, renamed_expression, renamed_image, renamed_item, set-renamed, size-renamed}
use Rattle.renumbering_laws.specs.RenamedPieceLaws.{affine-renamed, bridged-renamed, child-renamed, difference-renamed, differences-renamed, each_component-renamed, first-renamed, free_at-renamed, function-renamed, group_at-renamed, inner-renamed, inner_functions-renamed, kept-renamed, less-renamed, negations-renamed, plain-renamed, raised-renamed, rest-renamed, row-renamed, rows-renamed, sense-renamed, sums-renamed, with_set-renamed}

module _ (σ : Address → Address) (r : IsRenaming σ) where
  -- ---- rows of the item's own functions

  greater_less-renamed : (item : Item)
      → greater_less (renamed_item σ item) ≡ renamed_image σ (greater_less item)
  greater_less-renamed item =
      let f = function_of_body item.body in
      let set = set_of item.body in
      (λ i. row_at (renamed_item σ item) (Affine (negated (function-renamed σ r item.body i))
      (mirrored (set-renamed σ item.body i))))
      ∙ (λ i. row_at (renamed_item σ item) (Affine (negated-renamed σ r.order f i) (mirrored set)))
      ∙ row-renamed σ r item (Affine (negated f) (mirrored set))

  orthant_flip-renamed : (item : Item)
      → orthant_flip (renamed_item σ item) ≡ renamed_image σ (orthant_flip item)
  orthant_flip-renamed item =
      let fs = functions_of item.body in
      let set = set_of item.body in
      (λ i. row_at (renamed_item σ item)
      (AffineVec (map negated (functions-renamed σ r item.body i))
      (mirrored (set-renamed σ item.body i))))
      ∙ (λ i. row_at (renamed_item σ item) (AffineVec (negations-renamed σ r fs i) (mirrored set)))
      ∙ row-renamed σ r item (AffineVec (map negated fs) (mirrored set))

  vectorize-renamed : (item : Item)
      → vectorize (renamed_item σ item) ≡ renamed_image σ (vectorize item)
  vectorize-renamed item =
      let f = function_of_body item.body in
      let set = set_of item.body in
      let q = neg_ℚ (number_in set) in
      (λ i. row_at (renamed_item σ item) (AffineVec (raised (function-renamed σ r item.body i)
      (neg_ℚ (number_in (set-renamed σ item.body i))) ∷ [])
      (cone_of (set-renamed σ item.body i))))
      ∙ (λ i. row_at (renamed_item σ item) (AffineVec (raised-renamed σ r f q i ∷ [])
      (cone_of set)))
      ∙ row-renamed σ r item (AffineVec (raised f q ∷ []) (cone_of set))

  split_set-renamed : (item : Item)
      → split_set (renamed_item σ item) ≡ renamed_image σ (split_set item)
  split_set-renamed item =
      let b = item.body in
      let set = set_of item.body in
      (λ i. rows_at (renamed_item σ item)
      (with_set (renamed_body σ b) (lower_part (set-renamed σ b i))
      ∷ with_set (renamed_body σ b) (upper_part (set-renamed σ b i)) ∷ []))
      ∙ (λ i. rows_at (renamed_item σ item) (with_set-renamed σ b (lower_part set) i
      ∷ with_set-renamed σ b (upper_part set) i ∷ []))
      ∙ rows-renamed σ r item (with_set b (lower_part set) ∷ with_set b (upper_part set) ∷ [])

  scalarize-renamed : (item : Item)
      → scalarize (renamed_item σ item) ≡ renamed_image σ (scalarize item)
  scalarize-renamed item =
      let b = item.body in
      let set = set_of item.body in
      (λ i. rows_at (renamed_item σ item)
      (each_component (renamed_body σ b) (component_of (set-renamed σ b i))))
      ∙ (λ i. rows_at (renamed_item σ item) (each_component-renamed σ b (component_of set) i))
      ∙ rows-renamed σ r item (each_component b (component_of set))

  functionize-renamed : (item : Item)
      → functionize (renamed_item σ item) ≡ renamed_image σ (functionize item)
  functionize-renamed item =
      let fs = functions_of item.body in
      let set = set_of item.body in
      (λ i. row_at (renamed_item σ item)
      (affine (functions-renamed σ r item.body i) (set-renamed σ item.body i)))
      ∙ (λ i. row_at (renamed_item σ item) (affine-renamed σ r fs set i))
      ∙ row-renamed σ r item (affine fs set)

  abbrev infinity_body : Function → List Function → Body
  infinity_body t xs =
      AffineVec (map (difference t) xs ++ map (sum_of t) xs) (Nonnegatives (length xs + length xs))

  infinity_body-renamed : (t : Function) (xs : List Function)
      → infinity_body (renamed σ t) (map (renamed σ) xs) ≡ renamed_body σ (infinity_body t xs)
  infinity_body-renamed t xs =
      let less = map_either (renamed σ) (difference (renamed σ t)) (difference t) (renamed σ)
      (λ x. difference-renamed σ r t x) xs in
      let more = map_either (renamed σ) (sum_of (renamed σ t)) (sum_of t) (renamed σ)
      (λ x. sum-renamed address_order σ r.order t x) xs in
      let n = length-map xs (renamed σ) in
      (λ i. AffineVec (less i ++ more i) (Nonnegatives (n i + n i)))
      ∙ ap (λ fs. AffineVec fs (Nonnegatives (length xs + length xs)))
      (sym (map-append (renamed σ) (map (difference t) xs) (map (sum_of t) xs)))

  norm_infinity-renamed : (item : Item)
      → norm_infinity (renamed_item σ item) ≡ renamed_image σ (norm_infinity item)
  norm_infinity-renamed item =
      let t = function_of_body item.body in
      let xs = rest_of (functions_of item.body) in
      (λ i. row_at (renamed_item σ item) (infinity_body (function-renamed σ r item.body i)
      (rest_of (functions-renamed σ r item.body i))))
      ∙ (λ i. row_at (renamed_item σ item)
      (infinity_body (renamed σ t) (rest-renamed σ (functions_of item.body) i)))
      ∙ (λ i. row_at (renamed_item σ item) (infinity_body-renamed t xs i))
      ∙ row-renamed σ r item (infinity_body t xs)

  -- ---- a child group and a row

  abbrev grouped : Item → Item → Body → Image
  grouped item group row = record {
    groups = group ∷ [];
    exprs = [];
    rows = child_at item 1 row ∷ [];
    objective = None;
  }

  grouped-renamed : (item group : Item) (row : Body)
      → grouped (renamed_item σ item) (renamed_item σ group) (renamed_body σ row)
      ≡ renamed_image σ (grouped item group row)
  grouped-renamed item group row =
      ap (λ c. record {
        groups = renamed_item σ group ∷ [];
        exprs = [];
        rows = c ∷ [];
        objective = None;
      }) (child-renamed σ r item 1 row)

  -- functions less the child group's components
  rest_over : (item : Item) (fs : List Function) (n : ℕ)
      → differences (map (renamed σ) fs) (inner_functions (renamed_item σ item) n)
      ≡ map (renamed σ) (differences fs (inner_functions item n))
  rest_over item fs n =
      ap (differences (map (renamed σ) fs)) (inner_functions-renamed σ r item n)
      ∙ differences-renamed σ r fs (inner_functions item n)

  scalar_slack-renamed : (item : Item)
      → scalar_slack (renamed_item σ item) ≡ renamed_image σ (scalar_slack item)
  scalar_slack-renamed item =
      let fs = functions_of item.body in
      let set = set_of item.body in
      let rest = differences fs (inner_functions item 1) in
      let over = renamed_item σ item in
      (λ i. grouped over (group_at over (set-renamed σ item.body i) 1) (Affine (first_in
      (differences (functions-renamed σ r item.body i) (inner_functions over 1)))
      (EqualTo zero_ℚ)))
      ∙ (λ i. grouped over (group_at-renamed σ r item set 1 i)
      (Affine (first_in (rest_over item fs 1 i)) (EqualTo zero_ℚ)))
      ∙ (λ i. grouped over (renamed_item σ (group_at item set 1))
      (Affine (first-renamed σ r rest i) (EqualTo zero_ℚ)))
      ∙ grouped-renamed item (group_at item set 1) (Affine (first_in rest) (EqualTo zero_ℚ))

  vector_slack-renamed : (item : Item)
      → vector_slack (renamed_item σ item) ≡ renamed_image σ (vector_slack item)
  vector_slack-renamed item =
      let fs = functions_of item.body in
      let set = set_of item.body in
      let d = size item in
      let over = renamed_item σ item in
      let count = size-renamed σ r item.body in
      (λ i. grouped over (group_at over (set-renamed σ item.body i) (count i))
      (AffineVec (differences (functions-renamed σ r item.body i) (inner_functions over (count i)))
      (Zeros (count i))))
      ∙ (λ i. grouped over (group_at-renamed σ r item set d i)
      (AffineVec (rest_over item fs d i) (Zeros d)))
      ∙ grouped-renamed item (group_at item set d)
      (AffineVec (differences fs (inner_functions item d)) (Zeros d))

  abbrev one_body : Function → List Function → List Function → Body
  one_body t xs ss =
      AffineVec (fold difference t ss ∷ differences ss xs ++ sums ss xs)
      (Nonnegatives (length xs + length xs + 1))

  one_body-renamed : (t : Function) (xs ss : List Function)
      → one_body (renamed σ t) (map (renamed σ) xs) (map (renamed σ) ss)
      ≡ renamed_body σ (one_body t xs ss)
  one_body-renamed t xs ss =
      let n = length-map xs (renamed σ) in
      (λ i. AffineVec (less-renamed σ r t ss i
      ∷ differences-renamed σ r ss xs i ++ sums-renamed σ r ss xs i)
      (Nonnegatives (n i + n i + 1)))
      ∙ ap (λ fs. AffineVec (renamed σ (fold difference t ss) ∷ fs)
      (Nonnegatives (length xs + length xs + 1)))
      (sym (map-append (renamed σ) (differences ss xs) (sums ss xs)))

  abbrev one_image : Item → Function → List Function → ℕ → Image
  one_image item t xs n =
      grouped item (group_at item (Reals n) n) (one_body t xs (inner_functions item n))

  norm_one-renamed : (item : Item)
      → norm_one (renamed_item σ item) ≡ renamed_image σ (norm_one item)
  norm_one-renamed item =
      let t = function_of_body item.body in
      let xs = rest_of (functions_of item.body) in
      let n = length xs in
      let over = renamed_item σ item in
      (λ i. one_image over (function-renamed σ r item.body i)
      (rest_of (functions-renamed σ r item.body i))
      (length (rest_of (functions-renamed σ r item.body i))))
      ∙ (λ i. one_image over (renamed σ t) (rest-renamed σ (functions_of item.body) i)
      (length (rest-renamed σ (functions_of item.body) i)))
      ∙ (λ i. one_image over (renamed σ t) (map (renamed σ) xs) (length-map xs (renamed σ) i))
      ∙ (λ i. grouped over (group_at-renamed σ r item (Reals n) n i)
      (one_body (renamed σ t) (map (renamed σ) xs) (inner_functions-renamed σ r item n i)))
      ∙ (λ i. grouped over (renamed_item σ (group_at item (Reals n) n))
      (one_body-renamed t xs (inner_functions item n) i))
      ∙ grouped-renamed item (group_at item (Reals n) n) (one_body t xs (inner_functions item n))

  -- ---- groups

  -- expressions of a group over its child group
  grouped_exprs : (groups : List Item) (fs : List Function)
      → group_by (map (renamed_item σ) groups) (bridged (map (renamed σ) fs))
      ≡ renamed_image σ (group_by groups (bridged fs))
  grouped_exprs groups fs =
      ap (λ es. group_by (map (renamed_item σ) groups) es) (bridged-renamed σ fs)

  halves-renamed : (item : Item) (d : ℕ) (ss : List Function)
      → differences (take d (map (renamed σ) ss)) (drop d (map (renamed σ) ss))
      ≡ map (renamed σ) (differences (take d ss) (drop d ss))
  halves-renamed item d ss =
      ap₂ differences (take-map (renamed σ) d ss) (drop-map (renamed σ) d ss)
      ∙ differences-renamed σ r (take d ss) (drop d ss)

  free_var-renamed : (item : Item)
      → free_var (renamed_item σ item) ≡ renamed_image σ (free_var item)
  free_var-renamed item =
      let d = size item in
      let over = renamed_item σ item in
      let ss = inner_functions item (d + d) in
      let count = size-renamed σ r item.body in
      (λ i. group_by (group_at over (Nonnegatives (count i + count i)) (count i + count i) ∷ [])
      (bridged (differences (take (count i) (inner_functions over (count i + count i)))
      (drop (count i) (inner_functions over (count i + count i))))))
      ∙ (λ i. group_by (group_at-renamed σ r item (Nonnegatives (d + d)) (d + d) i ∷ [])
      (bridged (differences (take d (inner_functions-renamed σ r item (d + d) i))
      (drop d (inner_functions-renamed σ r item (d + d) i)))))
      ∙ (λ i. group_by (renamed_item σ (group_at item (Nonnegatives (d + d)) (d + d)) ∷ [])
      (bridged (halves-renamed item d ss i)))
      ∙ grouped_exprs (group_at item (Nonnegatives (d + d)) (d + d) ∷ [])
      (differences (take d ss) (drop d ss))

  nonpos_var-renamed : (item : Item)
      → nonpos_var (renamed_item σ item) ≡ renamed_image σ (nonpos_var item)
  nonpos_var-renamed item =
      let d = size item in
      let over = renamed_item σ item in
      let ss = inner_functions item d in
      let count = size-renamed σ r item.body in
      (λ i. group_by (group_at over (Nonnegatives (count i)) (count i) ∷ [])
      (bridged (map negated (inner_functions over (count i)))))
      ∙ (λ i. group_by (group_at-renamed σ r item (Nonnegatives d) d i ∷ [])
      (bridged (map negated (inner_functions-renamed σ r item d i))))
      ∙ (λ i. group_by (renamed_item σ (group_at item (Nonnegatives d) d) ∷ [])
      (bridged (negations-renamed σ r ss i)))
      ∙ grouped_exprs (group_at item (Nonnegatives d) d ∷ []) (map negated ss)

  zeros_var-renamed : (item : Item)
      → zeros_var (renamed_item σ item) ≡ renamed_image σ (zeros_var item)
  zeros_var-renamed item =
      let fs = functions_of item.body in
      let zero : Function → Function = λ f. constant_function zero_ℚ in
      (λ i. group_by [] (bridged (map zero (functions-renamed σ r item.body i))))
      ∙ (λ i. group_by [] (bridged (map_either (renamed σ) zero zero (renamed σ)
      (λ f. constant_function-renamed σ r.order zero_ℚ) fs i)))
      ∙ grouped_exprs [] (map zero fs)

  vectorize_var-renamed : (item : Item)
      → vectorize_var (renamed_item σ item) ≡ renamed_image σ (vectorize_var item)
  vectorize_var-renamed item =
      let set = set_of item.body in
      let over = renamed_item σ item in
      let ss = inner_functions item 1 in
      let raise : Function → Function = λ s. raised s (number_in set) in
      (λ i. group_by (group_at over (cone_of (set-renamed σ item.body i)) 1 ∷ [])
      (bridged (map (λ s. raised s (number_in (set-renamed σ item.body i)))
      (inner_functions over 1))))
      ∙ (λ i. group_by (group_at-renamed σ r item (cone_of set) 1 i ∷ [])
      (bridged (map raise (inner_functions-renamed σ r item 1 i))))
      ∙ (λ i. group_by (renamed_item σ (group_at item (cone_of set) 1) ∷ [])
      (bridged (map_either (renamed σ) raise raise (renamed σ)
      (λ s. raised-renamed σ r s (number_in set)) ss i)))
      ∙ grouped_exprs (group_at item (cone_of set) 1 ∷ []) (map raise ss)

  later_image-renamed : (free : Bool) (item : Item) (set : Set) (d : ℕ)
      → later_image free (renamed_item σ item) set d
      ≡ renamed_image σ (later_image free item set d)
  later_image-renamed free item set d = by free
    where
      kept : map Kept (inner (renamed_item σ item) d)
          ≡ map (renamed_expression σ) (map Kept (inner item d))
      kept = ap (map Kept) (inner-renamed σ r item d) ∙ kept-renamed σ (inner item d)

      plain_row : child_at (renamed_item σ item) 1 (plain (inner (renamed_item σ item) d) set)
          ≡ renamed_item σ (child_at item 1 (plain (inner item d) set))
      plain_row =
          ap (λ vars. child_at (renamed_item σ item) 1 (plain vars set)) (inner-renamed σ r item d)
          ∙ ap (child_at (renamed_item σ item) 1) (plain-renamed σ (inner item d) set)
          ∙ child-renamed σ r item 1 (plain (inner item d) set)

      affine_row : child_at (renamed_item σ item) 1
          (affine (inner_functions (renamed_item σ item) d) set)
          ≡ renamed_item σ (child_at item 1 (affine (inner_functions item d) set))
      affine_row =
          ap (λ fs. child_at (renamed_item σ item) 1 (affine fs set))
          (inner_functions-renamed σ r item d)
          ∙ ap (child_at (renamed_item σ item) 1) (affine-renamed σ r (inner_functions item d) set)
          ∙ child-renamed σ r item 1 (affine (inner_functions item d) set)

      by : (free : Bool) → later_image free (renamed_item σ item) set d
          ≡ renamed_image σ (later_image free item set d)
      by true = λ i. record {
        groups = free_at-renamed σ r item d i ∷ [];
        exprs = kept i;
        rows = plain_row i ∷ [];
        objective = None;
      }
      by false = λ i. record {
        groups = group_at-renamed σ r item (Reals d) d i ∷ [];
        exprs = kept i;
        rows = affine_row i ∷ [];
        objective = None;
      }

  later-renamed : (edge : Edge) (item : Item)
      → later edge (renamed_item σ item) ≡ renamed_image σ (later edge item)
  later-renamed edge item =
      ap₂ (later_image (begins_free (children_of edge)) (renamed_item σ item))
      (set-renamed σ item.body) (size-renamed σ r item.body)
      ∙ later_image-renamed (begins_free (children_of edge)) item (set_of item.body) (size item)

  -- ---- objectives

  objective_at-renamed : (item : Item) (b : Body)
      → objective_at (renamed_item σ item) (renamed_body σ b)
      ≡ renamed_image σ (objective_at item b)
  objective_at-renamed item b =
      ap (λ c. record { groups = []; exprs = []; rows = []; objective = Some c })
      (child-renamed σ r item 0 b)

  obj_flip-renamed : (item : Item)
      → obj_flip (renamed_item σ item) ≡ renamed_image σ (obj_flip item)
  obj_flip-renamed item =
      let sense = opposite (sense_of item.body) in
      let f = function_of_body item.body in
      (λ i. objective_at (renamed_item σ item)
      (AffineObj (opposite (sense-renamed σ item.body i))
      (negated (function-renamed σ r item.body i))))
      ∙ (λ i. objective_at (renamed_item σ item) (AffineObj sense (negated-renamed σ r.order f i)))
      ∙ objective_at-renamed item (AffineObj sense (negated f))

  obj_functionize-renamed : (item : Item)
      → obj_functionize (renamed_item σ item) ≡ renamed_image σ (obj_functionize item)
  obj_functionize-renamed item =
      (λ i. objective_at (renamed_item σ item)
      (AffineObj (sense-renamed σ item.body i) (function-renamed σ r item.body i)))
      ∙ objective_at-renamed item (AffineObj (sense_of item.body) (function_of_body item.body))

  obj_slack-renamed : (item : Item)
      → obj_slack (renamed_item σ item) ≡ renamed_image σ (obj_slack item)
  obj_slack-renamed item =
      let sense = sense_of item.body in
      let fs = functions_of item.body in
      let ss = inner_functions item 1 in
      let rest = differences ss fs in
      let over = renamed_item σ item in
      let first = child_of (child_of item.at 0) 0 in
      let place : child_of (child_of over.at 0) 0 ≡ σ first =
      ap (λ a. child_of a 0) (sym (r.child item.at 0)) ∙ sym (r.child (child_of item.at 0) 0) in
      let less : differences (inner_functions over 1) (functions_of over.body)
      ≡ map (renamed σ) rest = ap₂ differences (inner_functions-renamed σ r item 1)
      (functions-renamed σ r item.body) ∙ differences-renamed σ r ss fs in
      let row : child_at over 1 (Affine (first_in (map (renamed σ) rest)) (beyond sense))
      ≡ renamed_item σ (child_at item 1 (Affine (first_in rest) (beyond sense))) =
      ap (λ f. child_at over 1 (Affine f (beyond sense))) (first-renamed σ r rest)
      ∙ child-renamed σ r item 1 (Affine (first_in rest) (beyond sense)) in
      let goal : child_at over 2 (PlainObj sense (child_of (child_of over.at 0) 0))
      ≡ renamed_item σ (child_at item 2 (PlainObj sense first)) =
      ap (λ v. child_at over 2 (PlainObj sense v)) place
      ∙ child-renamed σ r item 2 (PlainObj sense first) in
      (λ i. record {
        groups = free_at over 1 ∷ [];
        exprs = [];
        rows = child_at over 1
            (Affine (first_in (less i)) (beyond (sense-renamed σ item.body i))) ∷ [];
        objective = Some (child_at over 2
            (PlainObj (sense-renamed σ item.body i) (child_of (child_of over.at 0) 0)));
      })
      ∙ (λ i. record {
        groups = free_at-renamed σ r item 1 i ∷ [];
        exprs = [];
        rows = row i ∷ [];
        objective = Some (goal i);
      })

  -- ---- the table

  by_family : (f : Family) (edge : Edge) (item : Item)
      → image_by f edge (renamed_item σ item) ≡ renamed_image σ (image_by f edge item)
  unfolding image_by
  by_family family.GreaterLess edge item = greater_less-renamed item
  by_family family.OrthantFlip edge item = orthant_flip-renamed item
  by_family family.NonposVar edge item = nonpos_var-renamed item
  by_family family.ObjFlip edge item = obj_flip-renamed item
  by_family family.Vectorize edge item = vectorize-renamed item
  by_family family.Scalarize edge item = scalarize-renamed item
  by_family family.ScalarFunctionize edge item = functionize-renamed item
  by_family family.VectorFunctionize edge item = functionize-renamed item
  by_family family.VectorizeVar edge item = vectorize_var-renamed item
  by_family family.ObjFunctionize edge item = obj_functionize-renamed item
  by_family family.SplitSet edge item = split_set-renamed item
  by_family family.DropReals edge item = rows-renamed σ r item []
  by_family family.ZerosVar edge item = zeros_var-renamed item
  by_family family.FreeVar edge item = free_var-renamed item
  by_family family.ScalarSlack edge item = scalar_slack-renamed item
  by_family family.VectorSlack edge item = vector_slack-renamed item
  by_family family.Later edge item = later-renamed edge item
  by_family family.ObjSlack edge item = obj_slack-renamed item
  by_family family.NormInfinity edge item = norm_infinity-renamed item
  by_family family.NormOne edge item = norm_one-renamed item

  pub image-renamed : (edge : Edge) (item : Item)
      → image_of edge (renamed_item σ item) ≡ renamed_image σ (image_of edge item)
  image-renamed edge item = by_family (family_of edge) edge item
