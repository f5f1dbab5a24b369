-- What the edges of each family make of numbers that are within bounds.
--
-- The rows and the objective of an image have the item's functions or some of them, perhaps negated
-- (`kept`), sums of two of them, or with variables of a child group (`summed`), or variables of a
-- child group alone (`anew`). So coefficients and constants double at most, and that only at sums.
use Rattle.std.specs.Prelude.{◌≡◌, ℕ, ◌+◌, ◌*◌, ◌^◌, ◌≤◌, ◌&&◌, Bool, true, false, cond, List, [], ◌∷◌, ◌++◌, All, drop, fold, length, map, take, refl}
use Rattle.std.proofs.Common.{sym, ap₂, ◌∙◌, arith, true≢false}
use Rattle.std.proofs.lemmas.List.{length-map}
use Rattle.std.proofs.lemmas.List.Elements.{All-append, All-cons, All-drop, All-map, All-nil, All-take, All-weaker}
use Rattle.std.proofs.lemmas.List.Sums.{list_all-from_AllPass}
use Rattle.ratio_core.specs.Rational.{neg_ℚ, zero_ℚ}
use Rattle.ratio_core.specs.RationalLaws.{sum_fits_Decides}
use Rattle.aff_core.specs.Address.{Address, address_cmp, child_of}
use Rattle.aff_core.specs.Arithmetic.{sum_of}
use Rattle.aff_core.specs.Function.{Function, constant_function, negated, variable}
use Rattle.aff_core.specs.KeyOrder.{address_order}
use Rattle.bridge_face.specs.BackOf.{size}
use Rattle.bridge_face.specs.ComponentLaws.{length-components}
use Rattle.bridge_face.specs.ImageOf.{begins_free, beyond, differences, free_at, group_at, image_by, inner, inner_functions, negations, opposite, sense_of, sums}
use Rattle.bridge_face.specs.Images.{affine, child_at, component_of, cone_of, difference, each_component, first_in, function_of_body, lower_part, number_in, plain, raised, rest_of, upper_part, with_set}
use Rattle.bridge_face.specs.Law.{expressed, listed}
use Rattle.map_laws.specs.EachLaws.{all_from_map}
use Rattle.fresh_bridging.specs.FitTests.{plus_fits}
use Rattle.fresh_bridging.specs.TheRules.{fits_by}
use Rattle.item_core.specs.declared.edge.Edge.{Edge}
use Rattle.item_core.specs.declared.family.Family.{Family}
use Rattle.item_core.specs.declared.family.Family.TheVariants as family
use Rattle.item_core.specs.declared.image.Expression.{Expression}
use Rattle.item_core.specs.declared.image.Expression.TheVariants.{Kept, Bridged}
use Rattle.item_core.specs.declared.item.Body.TheVariants.{Affine, AffineVec, PlainObj, AffineObj}
use Rattle.item_core.specs.declared.item.Item.{Item}
use Rattle.item_core.specs.Edge.{children_of}
use Rattle.item_core.specs.Item.{functions_of, set_of}
use Rattle.set_core.specs.Mirrored.{mirrored}
use Rattle.set_core.specs.declared.set.Set.{Set}
use Rattle.set_core.specs.declared.set.Set.TheVariants.{EqualTo, Reals, Zeros, Nonnegatives}
use Rattle.small_number_laws.specs.BodyLaws.{IsBodyWithin, all_more}
use Rattle.small_number_laws.specs.ListLaws.{difference_within, differences_within, each_sum_passes, first_within, length_rest, less_each_fit, less_each_within, negations_within, plus_passes, raised_within, rest_within, sums_within, variables_within, with_each_within}
use Rattle.small_number_laws.specs.SetLaws.{beyond_small, component_small, cone_small, equal_to_zero, lower_small, mirrored_small, none_small, number_small, upper_small}
use Rattle.small_number_laws.specs.SmallNumbers.{set_numbers}
use Rattle.small_number_laws.specs.Whole.{AreSmall}
use Rattle.small_number_laws.specs.WholeLaws.{whole_neg, whole_sum_fits}
use Rattle.small_number_laws.specs.WithinLaws.{IsFunctionWithin, negated_within, sum_within, within_more, zero_within}
use Rattle.small_number_laws.specs.ShapeLaws.{AreBodiesWithin, affine_body, affine_row, each_body, free_body, group_body, no_items, one_function, one_item, plain_body, rows_alone, variables_one, vector_row, with_set_body}

pub data Making : Type 0 where
  kept : Making
  summed : Making
  anew : Making

abbrev pub making_of : Family → Making
making_of family.Vectorize = summed
making_of family.ScalarSlack = summed
making_of family.VectorSlack = summed
making_of family.ObjSlack = summed
making_of family.NormInfinity = summed
making_of family.NormOne = summed
making_of family.NonposVar = anew
making_of family.VectorizeVar = anew
making_of family.ZerosVar = anew
making_of family.FreeVar = anew
making_of family.Later = anew
making_of _ = kept

-- the bound of what is made
abbrev pub made_of : Making → ℕ → ℕ
made_of kept a = a
made_of summed a = 2 * a
made_of anew a = 1

-- ---- rows and objectives

module _ (item : Item) (a : ℕ) (w : IsBodyWithin a item.body) (low : 2 ^ 53 ≤ a) where
  abbrev fs : List Function
  fs = functions_of item.body

  abbrev set : Set
  set = set_of item.body

  abbrev t : Function
  t = function_of_body item.body

  abbrev xs : List Function
  xs = rest_of fs

  one : 1 ≤ a
  one = omega (arith, low)

  first : IsFunctionWithin a (a * 2 ^ 41) t
  first = first_within a (a * 2 ^ 41) fs w.functions

  rest : All (IsFunctionWithin a (a * 2 ^ 41)) xs
  rest = rest_within a (a * 2 ^ 41) fs w.functions

  inners : (n : ℕ) → All (IsFunctionWithin 1 0) (inner_functions item n)
  inners n = variables_within (inner item n)

  inner_count : (n : ℕ) → length (inner_functions item n) ≡ n
  inner_count n =
      length-map (inner item n) variable ∙ length-components (child_of item.at 0) n

  less_inner : (n : ℕ)
      → All (IsFunctionWithin (2 * a) (2 * a * 2 ^ 41)) (differences fs (inner_functions item n))
  less_inner n =
      all_more (a + 1) (2 * a) (a * 2 ^ 41 + 0) (2 * a * 2 ^ 41)
      (differences fs (inner_functions item n)) (omega (arith, low)) (omega arith)
      (differences_within a 1 (a * 2 ^ 41) 0 fs (inner_functions item n) w.functions (inners n))

  vectorized : IsFunctionWithin (2 * a) (2 * a * 2 ^ 41) (raised t (neg_ℚ (number_in set)))
  vectorized =
      within_more a (2 * a) (a * 2 ^ 41 + 2 ^ 40) (2 * a * 2 ^ 41)
      (raised t (neg_ℚ (number_in set))) (omega arith) (omega (arith, low))
      (raised_within a (a * 2 ^ 41) (2 ^ 40) t (neg_ℚ (number_in set)) first
      (whole_neg (2 ^ 40) (number_in set) (number_small set w.set)))

  abbrev over : List Function
  over = differences (inner_functions item 1) fs

  over_within : All (IsFunctionWithin (2 * a) (2 * a * 2 ^ 41)) over
  over_within =
      all_more (1 + a) (2 * a) (0 + a * 2 ^ 41) (2 * a * 2 ^ 41) over (omega (arith, low))
      (omega arith)
      (differences_within 1 a 0 (a * 2 ^ 41) (inner_functions item 1) fs (inners 1) w.functions)

  slack_objective : AreBodiesWithin (2 * a)
      (child_at item 1 (Affine (first_in over) (beyond (sense_of item.body)))
      ∷ child_at item 2 (PlainObj (sense_of item.body) (child_of (child_of item.at 0) 0)) ∷ [])
  slack_objective =
      All-cons (λ c. IsBodyWithin (2 * a) c.body)
      (child_at item 1 (Affine (first_in over) (beyond (sense_of item.body))))
      (child_at item 2 (PlainObj (sense_of item.body) (child_of (child_of item.at 0) 0)) ∷ [])
      (affine_row (2 * a) (first_in over) (beyond (sense_of item.body))
      (first_within (2 * a) (2 * a * 2 ^ 41) over over_within)
      (beyond_small (sense_of item.body)))
      (one_item (2 * a)
      (child_at item 2 (PlainObj (sense_of item.body) (child_of (child_of item.at 0) 0)))
      (record {
        functions =
            variables_one (2 * a) (child_of (child_of item.at 0) 0 ∷ []) (omega (arith, low));
        set = none_small;
      }))

  abbrev ss : List Function
  ss = inner_functions item (length xs)

  -- t ± x for each x
  infinity_within : All (IsFunctionWithin (2 * a) (2 * a * 2 ^ 41))
      (map (difference t) xs ++ map (sum_of t) xs)
  infinity_within =
      all_more (a + a) (2 * a) (a * 2 ^ 41 + a * 2 ^ 41) (2 * a * 2 ^ 41)
      (map (difference t) xs ++ map (sum_of t) xs) (omega arith) (omega arith)
      (All-append (IsFunctionWithin (a + a) (a * 2 ^ 41 + a * 2 ^ 41)) (map (difference t) xs)
      (map (sum_of t) xs)
      (with_each_within a a (a * 2 ^ 41) (a * 2 ^ 41) t xs difference
      (λ g v. difference_within a a (a * 2 ^ 41) (a * 2 ^ 41) t g first v) rest)
      (with_each_within a a (a * 2 ^ 41) (a * 2 ^ 41) t xs sum_of
      (λ g v. sum_within address_order a a (a * 2 ^ 41) (a * 2 ^ 41) t g first v) rest))

  -- t less each s, and s ± x
  one_within : length fs ≤ 32767 → All (IsFunctionWithin (2 * a) (2 * a * 2 ^ 41))
      (fold difference t ss ∷ (differences ss xs ++ sums ss xs))
  one_within count =
      All-cons (IsFunctionWithin (2 * a) (2 * a * 2 ^ 41)) (fold difference t ss)
      (differences ss xs ++ sums ss xs)
      (within_more (a + length ss) (2 * a) (a * 2 ^ 41) (2 * a * 2 ^ 41) (fold difference t ss)
      (omega (arith, low, count, inner_count (length xs), length_rest fs)) (omega arith)
      (less_each_within a (a * 2 ^ 41) t ss first (inners (length xs))))
      (all_more (1 + a) (2 * a) (0 + a * 2 ^ 41) (2 * a * 2 ^ 41)
      (differences ss xs ++ sums ss xs) (omega (arith, low)) (omega arith)
      (All-append (IsFunctionWithin (1 + a) (0 + a * 2 ^ 41)) (differences ss xs) (sums ss xs)
      (differences_within 1 a 0 (a * 2 ^ 41) ss xs (inners (length xs)) rest)
      (sums_within 1 a 0 (a * 2 ^ 41) ss xs (inners (length xs)) rest)))

  later_row : (free : Bool)
      → IsBodyWithin 1
      (cond free (plain (inner item (size item)) set)
      (affine (inner_functions item (size item)) set))
  later_row true = plain_body 1 (inner item (size item)) set (omega arith) w.set
  later_row false =
      affine_body 1 (inner_functions item (size item)) set
      (variables_one 1 (inner item (size item)) (omega arith)) w.set

  abbrev Others : Family → Edge → Type 0
  Others f edge =
      AreBodiesWithin (made_of (making_of f) a)
      ((image_by f edge item).rows ++ listed (image_by f edge item).objective)

  pub others_within : (f : Family) (edge : Edge) → length fs ≤ 32767 → Others f edge
  unfolding image_by
  others_within family.GreaterLess edge count =
      one_item a (child_at item 0 (Affine (negated t) (mirrored set)))
      (affine_row a (negated t) (mirrored set) (negated_within a (a * 2 ^ 41) t first)
      (mirrored_small set w.set))
  others_within family.OrthantFlip edge count =
      one_item a (child_at item 0 (AffineVec (map negated fs) (mirrored set)))
      (vector_row a (map negated fs) (mirrored set)
      (negations_within a (a * 2 ^ 41) fs w.functions) (mirrored_small set w.set))
  others_within family.NonposVar edge count = no_items 1
  others_within family.ObjFlip edge count =
      one_item a (child_at item 0 (AffineObj (opposite (sense_of item.body)) (negated t)))
      (record {
        functions =
            one_function a (a * 2 ^ 41) (negated t) (negated_within a (a * 2 ^ 41) t first);
        set = none_small;
      })
  others_within family.Vectorize edge count =
      one_item (2 * a)
      (child_at item 0 (AffineVec (raised t (neg_ℚ (number_in set)) ∷ []) (cone_of set)))
      (vector_row (2 * a) (raised t (neg_ℚ (number_in set)) ∷ []) (cone_of set)
      (one_function (2 * a) (2 * a * 2 ^ 41) (raised t (neg_ℚ (number_in set))) vectorized)
      (cone_small set w.set))
  others_within family.Scalarize edge count =
      rows_alone a item (each_component item.body (component_of set))
      (each_body a item.body (component_of set) one w (component_small set w.set))
  others_within family.ScalarFunctionize edge count =
      one_item a (child_at item 0 (affine fs set)) (affine_body a fs set w.functions w.set)
  others_within family.VectorFunctionize edge count =
      one_item a (child_at item 0 (affine fs set)) (affine_body a fs set w.functions w.set)
  others_within family.VectorizeVar edge count = no_items 1
  others_within family.ObjFunctionize edge count =
      one_item a (child_at item 0 (AffineObj (sense_of item.body) t))
      (record { functions = one_function a (a * 2 ^ 41) t first; set = none_small })
  others_within family.SplitSet edge count =
      rows_alone a item
      (with_set item.body (lower_part set) ∷ with_set item.body (upper_part set) ∷ [])
      (All-cons (IsBodyWithin a) (with_set item.body (lower_part set))
      (with_set item.body (upper_part set) ∷ [])
      (with_set_body a item.body (lower_part set) w (lower_small set w.set))
      (All-cons (IsBodyWithin a) (with_set item.body (upper_part set)) []
      (with_set_body a item.body (upper_part set) w (upper_small set w.set))
      (All-nil (IsBodyWithin a))))
  others_within family.DropReals edge count = no_items a
  others_within family.ZerosVar edge count = no_items 1
  others_within family.FreeVar edge count = no_items 1
  others_within family.ScalarSlack edge count =
      one_item (2 * a)
      (child_at item 1
      (Affine (first_in (differences fs (inner_functions item 1))) (EqualTo zero_ℚ)))
      (affine_row (2 * a) (first_in (differences fs (inner_functions item 1))) (EqualTo zero_ℚ)
      (first_within (2 * a) (2 * a * 2 ^ 41) (differences fs (inner_functions item 1))
      (less_inner 1)) equal_to_zero)
  others_within family.VectorSlack edge count =
      one_item (2 * a)
      (child_at item 1
      (AffineVec (differences fs (inner_functions item (size item))) (Zeros (size item))))
      (vector_row (2 * a) (differences fs (inner_functions item (size item))) (Zeros (size item))
      (less_inner (size item)) none_small)
  others_within family.Later edge count =
      one_item 1
      (child_at item 1
      (cond (begins_free (children_of edge)) (plain (inner item (size item)) set)
      (affine (inner_functions item (size item)) set)))
      (later_row (begins_free (children_of edge)))
  others_within family.ObjSlack edge count = slack_objective
  others_within family.NormInfinity edge count =
      one_item (2 * a)
      (child_at item 0
      (AffineVec (map (difference t) xs ++ map (sum_of t) xs)
      (Nonnegatives (length xs + length xs))))
      (vector_row (2 * a) (map (difference t) xs ++ map (sum_of t) xs)
      (Nonnegatives (length xs + length xs)) infinity_within none_small)
  others_within family.NormOne edge count =
      one_item (2 * a)
      (child_at item 1
      (AffineVec (fold difference t ss ∷ (differences ss xs ++ sums ss xs))
      (Nonnegatives (length xs + length xs + 1))))
      (vector_row (2 * a) (fold difference t ss ∷ (differences ss xs ++ sums ss xs))
      (Nonnegatives (length xs + length xs + 1)) (one_within count) none_small)

  -- ---- child groups

  one_group : (s : Set) (n : ℕ) → AreSmall (set_numbers s)
      → AreBodiesWithin a (group_at item s n ∷ [])
  one_group s n h = one_item a (group_at item s n) (group_body a (inner item n) s one h)

  later_group : (free : Bool)
      → AreBodiesWithin a
      (cond free (free_at item (size item)) (group_at item (Reals (size item)) (size item)) ∷ [])
  later_group true =
      one_item a (free_at item (size item)) (free_body a (inner item (size item)) one)
  later_group false = one_group (Reals (size item)) (size item) none_small

  pub groups_within : (f : Family) (edge : Edge) → AreBodiesWithin a (image_by f edge item).groups
  unfolding image_by
  groups_within family.NonposVar edge =
      one_group (Nonnegatives (size item)) (size item) none_small
  groups_within family.VectorizeVar edge = one_group (cone_of set) 1 (cone_small set w.set)
  groups_within family.FreeVar edge =
      one_group (Nonnegatives (size item + size item)) (size item + size item) none_small
  groups_within family.ScalarSlack edge = one_group set 1 w.set
  groups_within family.VectorSlack edge = one_group set (size item) w.set
  groups_within family.Later edge = later_group (begins_free (children_of edge))
  groups_within family.ObjSlack edge =
      one_item a (free_at item 1) (free_body a (inner item 1) one)
  groups_within family.NormOne edge = one_group (Reals (length xs)) (length xs) none_small
  groups_within _ edge = no_items a

  -- ---- what fits

  pub image_passes : (f : Family) → length fs ≤ 32767 → a ≤ 2 ^ 79 → fits_by f item ≡ true
  unfolding fits_by
  image_passes family.Vectorize count high =
      (sum_fits_Decides t.constant (neg_ℚ (number_in set))).1
      (whole_sum_fits (a * 2 ^ 41) (2 ^ 40) t.constant (neg_ℚ (number_in set)) first.constant
      (whole_neg (2 ^ 40) (number_in set) (number_small set w.set)) (omega (arith, high)))
  image_passes family.NormInfinity count high =
      ap₂ ◌&&◌
      (list_all-from_AllPass (λ x. plus_fits t (negated x)) xs
      (All-weaker (IsFunctionWithin a (a * 2 ^ 41)) (λ x. plus_fits t (negated x) ≡ true)
      (λ x v. plus_passes a a (a * 2 ^ 41) (a * 2 ^ 41) t (negated x) (omega (arith, high))
      (omega (arith, high)) first (negated_within a (a * 2 ^ 41) x v)) xs rest))
      (list_all-from_AllPass (λ x. plus_fits t x) xs
      (All-weaker (IsFunctionWithin a (a * 2 ^ 41)) (λ x. plus_fits t x ≡ true)
      (λ x v. plus_passes a a (a * 2 ^ 41) (a * 2 ^ 41) t x (omega (arith, high))
      (omega (arith, high)) first v) xs rest))
  image_passes family.NormOne count high =
      ap₂ ◌&&◌
      (less_each_fit a (a * 2 ^ 41) t ss first (inners (length xs))
      (omega (arith, high, count, inner_count (length xs), length_rest fs))
      (omega (arith, high)))
      (ap₂ ◌&&◌
      (each_sum_passes 1 a 0 (a * 2 ^ 41) ss (negations xs) (omega (arith, high))
      (omega (arith, high)) (inners (length xs)) (negations_within a (a * 2 ^ 41) xs rest))
      (each_sum_passes 1 a 0 (a * 2 ^ 41) ss xs (omega (arith, high)) (omega (arith, high))
      (inners (length xs)) rest))
  image_passes _ count high = refl

-- ---- expressions of components

-- how heavy they are, and how large their constants
abbrev pub widened : Family → ℕ
widened family.FreeVar = 2
widened _ = 1

abbrev pub lifted : Family → ℕ
lifted family.VectorizeVar = 2 ^ 40
lifted _ = 0

abbrev pub IsExpressionWithin : ℕ → ℕ → Expression → Type 0
IsExpressionWithin l c e = IsFunctionWithin l c (expressed e)

kept_exprs : (vs : List Address) → All (IsExpressionWithin 1 0) (map Kept vs)
kept_exprs vs =
    All-map (IsExpressionWithin 1 0) Kept vs
    (all_from_map (IsFunctionWithin 1 0) variable vs (variables_within vs))

made_exprs : (l c : ℕ) (fs : List Function) → All (IsFunctionWithin l c) fs
    → All (IsExpressionWithin l c) (map Bridged fs)
made_exprs l c fs w = All-map (IsExpressionWithin l c) Bridged fs w

pub exprs_within : (f : Family) (edge : Edge) (item : Item)
    → AreSmall (set_numbers (set_of item.body))
    → All (IsExpressionWithin (widened f) (lifted f)) (image_by f edge item).exprs
unfolding image_by
exprs_within family.NonposVar edge item s =
    made_exprs 1 0 (map negated (inner_functions item (size item)))
    (negations_within 1 0 (inner_functions item (size item))
    (variables_within (inner item (size item))))
exprs_within family.ZerosVar edge item s =
    made_exprs 1 0 (map (λ _. constant_function zero_ℚ) (functions_of item.body))
    (all_zero (functions_of item.body))
  where
    all_zero : (fs : List Function)
        → All (IsFunctionWithin 1 0) (map (λ _. constant_function {R = address_cmp} zero_ℚ) fs)
    all_zero [] = All-nil (IsFunctionWithin 1 0)
    all_zero (f ∷ fs) =
        All-cons (IsFunctionWithin 1 0) (constant_function zero_ℚ)
        (map (λ _. constant_function {R = address_cmp} zero_ℚ) fs)
        (within_more 0 1 0 0 (constant_function zero_ℚ) (omega arith) (omega arith) zero_within)
        (all_zero fs)
exprs_within family.VectorizeVar edge item s =
    made_exprs 1 (2 ^ 40)
    (map (λ f. raised f (number_in (set_of item.body))) (inner_functions item 1))
    (All-map (IsFunctionWithin 1 (2 ^ 40)) (λ f. raised f (number_in (set_of item.body)))
    (inner_functions item 1)
    (All-weaker (IsFunctionWithin 1 0)
    (λ f. IsFunctionWithin 1 (2 ^ 40) (raised f (number_in (set_of item.body))))
    (λ f w. within_more 1 1 (0 + 2 ^ 40) (2 ^ 40) (raised f (number_in (set_of item.body)))
    (omega arith) (omega arith)
    (raised_within 1 0 (2 ^ 40) f (number_in (set_of item.body)) w
    (number_small (set_of item.body) s)))
    (inner_functions item 1) (variables_within (inner item 1))))
exprs_within family.FreeVar edge item s =
    let vs = inner_functions item (size item + size item) in
    let all = variables_within (inner item (size item + size item)) in
    made_exprs 2 0 (differences (take (size item) vs) (drop (size item) vs))
    (all_more (1 + 1) 2 (0 + 0) 0 (differences (take (size item) vs) (drop (size item) vs))
    (omega arith) (omega arith)
    (differences_within 1 1 0 0 (take (size item) vs) (drop (size item) vs)
    (All-take (IsFunctionWithin 1 0) (size item) vs all)
    (All-drop (IsFunctionWithin 1 0) (size item) vs all)))
exprs_within family.Later edge item s = kept_exprs (inner item (size item))
exprs_within _ edge item s = All-nil (IsExpressionWithin 1 0)

-- ---- which images have which parts

abbrev pub has_exprs : Family → Bool
has_exprs family.NonposVar = true
has_exprs family.ZerosVar = true
has_exprs family.VectorizeVar = true
has_exprs family.FreeVar = true
has_exprs family.Later = true
has_exprs _ = false

pub no_exprs : (f : Family) (edge : Edge) (item : Item) → has_exprs f ≡ false
    → (image_by f edge item).exprs ≡ []
unfolding image_by
no_exprs family.NonposVar edge item h = absurd (true≢false h)
no_exprs family.ZerosVar edge item h = absurd (true≢false h)
no_exprs family.VectorizeVar edge item h = absurd (true≢false h)
no_exprs family.FreeVar edge item h = absurd (true≢false h)
no_exprs family.Later edge item h = absurd (true≢false h)
no_exprs _ edge item h = refl

abbrev pub is_kept_making : Making → Bool
is_kept_making kept = true
is_kept_making _ = false

pub no_groups : (f : Family) (edge : Edge) (item : Item) → is_kept_making (making_of f) ≡ true
    → (image_by f edge item).groups ≡ []
unfolding image_by
no_groups family.Vectorize edge item h = refl
no_groups family.ScalarSlack edge item h = absurd (true≢false (sym h))
no_groups family.VectorSlack edge item h = absurd (true≢false (sym h))
no_groups family.ObjSlack edge item h = absurd (true≢false (sym h))
no_groups family.NormInfinity edge item h = refl
no_groups family.NormOne edge item h = absurd (true≢false (sym h))
no_groups family.NonposVar edge item h = absurd (true≢false (sym h))
no_groups family.VectorizeVar edge item h = absurd (true≢false (sym h))
no_groups family.ZerosVar edge item h = refl
no_groups family.FreeVar edge item h = absurd (true≢false (sym h))
no_groups family.Later edge item h = absurd (true≢false (sym h))
no_groups _ edge item h = refl
