-- The law of small numbers: each number fits that the fresh bridging of a valid model of small
-- numbers is made with.
use Rattle.std.specs.Prelude.{◌≡◌, ◌+◌, ◌*◌, ◌^◌, ◌≤◌, true, ◌&&◌, if◌then◌else◌, List, [], ◌∷◌, ◌++◌, All, Option, Some, None, length, map, flat_map, refl}
use Rattle.std.proofs.Common.{ap, ap₂, ◌∙◌, arith}
use Rattle.std.specs.Option.{option_map, option_or}
use Rattle.std.proofs.lemmas.List.Elements.{All-append, All-cons, All-head, All-map, All-nil, All-tail, All-weaker}
use Rattle.ratio_core.specs.Rational.{Rational}
use Rattle.aff_core.specs.Address.{Address}
use Rattle.aff_core.specs.Function.{Function, terms_of}
use Rattle.bridge_graph.specs.Hypergraph.{IsCostly}
use Rattle.expansion.specs.Bridged.{EachBridged, EachBridgedIn, each, each_in, none, none_in}
use Rattle.expansion.specs.Read.{fits, fits_each, fits_in, unfit_each, unfit_in}
use Rattle.expansion.specs.Rules.{Rules}
use Rattle.fresh_bridging.specs.CanLaws.{AreLawful, Can}
use Rattle.map_laws.specs.EachLaws.{all_both, all_first, all_second}
use Rattle.fresh_bridging.specs.Entries.{Entry, put_in}
use Rattle.fresh_bridging.specs.ExistenceLaws.{groups_can_all, others_can_all, trees_of_bridged}
use Rattle.fresh_bridging.specs.FreshBridging.{FreshBridging, HasTree}
use Rattle.fresh_bridging.specs.ModelImage.{group_item, model_image, objective_item, objective_items, row_body, row_item}
use Rattle.fresh_bridging.specs.OmitLaws.{IsGroup}
use Rattle.fresh_bridging.specs.TableLaws.{and_first, and_second}
use Rattle.fresh_bridging.specs.TheRules.{Setting, graph_of}
use Rattle.item_core.specs.declared.item.Body.TheVariants as body
use Rattle.item_core.specs.declared.item.Item.{Item}
use Rattle.item_core.specs.KindOf.{kind_of_body}
use Rattle.set_core.specs.declared.set.Set.{Set}
use Rattle.small_number_laws.specs.BodyLaws.{IsBodyWithin, IsEntryWithin}
use Rattle.small_number_laws.specs.FitLaws.{IsItemWithin, IsPutWithin, any_entries, each_fits, growths_left, in_fits, put_one}
use Rattle.small_number_laws.specs.LevelLaws.{fewer_quadrupled, grows_at, most_left, quadrupled, thirteen_grow, thirteen_levels}
use Rattle.small_number_laws.specs.SetLaws.{none_small}
use Rattle.small_number_laws.specs.ShapeLaws.{group_body, one_function, variables_one}
use Rattle.small_number_laws.specs.SmallNumbers.{AllNumbersFit, HasSmallNumbers, SmallNumbersFit, func_numbers, function_numbers, objective_numbers, set_numbers}
use Rattle.small_number_laws.specs.WeightLaws.{WeighsAtMost, weighs_cons, weighs_more, weighs_none}
use Rattle.small_number_laws.specs.Whole.{AreSmall, IsWholeWithin}
use Rattle.small_number_laws.specs.WholeLaws.{whole_more}
use Rattle.small_number_laws.specs.WithinLaws.{IsFunctionWithin}
use Rattle.user_model.specs.Functions.{term_count, term_counts}
use Rattle.user_model.specs.Limits.{TERMS}
use Rattle.user_model.specs.Model.{ModelValue, objective_terms, variable_address}
use Rattle.user_model.specs.Valid.{IsValid, IsValidRow}
use Rattle.user_model.specs.declared.function.UserFunc.{UserFunc}
use Rattle.user_model.specs.declared.function.UserFunc.TheVariants.{Plain, Affine, PlainVec, AffineVec}
use Rattle.user_model.specs.declared.objective.Objective.{Objective}
use Rattle.user_model.specs.declared.objective.Objective.TheVariants as objective

-- ---- the user's functions

abbrev IsSmall : Rational → Type 0
IsSmall q = IsWholeWithin (2 ^ 40) q

terms_small : (ts : List (Address × Rational)) → AreSmall (map (λ t. t.1) ts)
    → WeighsAtMost (length ts * 2 ^ 40) ts
terms_small [] h = weighs_none
terms_small (t ∷ ts) h =
    weighs_more (2 ^ 40 + length ts * 2 ^ 40) (length (t ∷ ts) * 2 ^ 40) (t ∷ ts) (omega arith)
    (weighs_cons (2 ^ 40) (length ts * 2 ^ 40) t ts
    (All-head IsSmall t.1 (map (λ u. u.1) ts) h)
    (terms_small ts (All-tail IsSmall t.1 (map (λ u. u.1) ts) h)))

-- 4,096 terms of at most 2 ^ 40
function_small : (f : Function) → term_count f ≤ TERMS → AreSmall (function_numbers f)
    → IsFunctionWithin (2 ^ 52) (2 ^ 52 * 2 ^ 41) f
function_small f count h = record {
  terms =
      weighs_more (length (terms_of f) * 2 ^ 40) (2 ^ 52) (terms_of f) (omega (arith, count))
      (terms_small (terms_of f)
      (All-tail IsSmall f.constant (map (λ t. t.1) (terms_of f)) h));
  constant =
      whole_more (2 ^ 40) (2 ^ 52 * 2 ^ 41) f.constant (omega arith)
      (All-head IsSmall f.constant (map (λ t. t.1) (terms_of f)) h);
}

functions_small : (fs : List Function) → All (λ count. count ≤ TERMS) (map term_count fs)
    → AreSmall (flat_map function_numbers fs)
    → All (IsFunctionWithin (2 ^ 52) (2 ^ 52 * 2 ^ 41)) fs
functions_small [] counts h = All-nil (IsFunctionWithin (2 ^ 52) (2 ^ 52 * 2 ^ 41))
functions_small (f ∷ fs) counts h =
    All-cons (IsFunctionWithin (2 ^ 52) (2 ^ 52 * 2 ^ 41)) f fs
    (function_small f
    (All-head (λ count. count ≤ TERMS) (term_count f) (map term_count fs) counts)
    (all_first IsSmall (function_numbers f) (flat_map function_numbers fs) h))
    (functions_small fs
    (All-tail (λ count. count ≤ TERMS) (term_count f) (map term_count fs) counts)
    (all_second IsSmall (function_numbers f) (flat_map function_numbers fs) h))

row_small : (func : UserFunc) (set : Set) → All (λ count. count ≤ TERMS) (term_counts func)
    → AreSmall (func_numbers func ++ set_numbers set) → IsBodyWithin (2 ^ 52) (row_body func set)
row_small (Plain var) set counts h =
    record { functions = variables_one (2 ^ 52) (var ∷ []) (omega arith); set = h }
row_small (Affine f) set counts h = record {
  functions =
      one_function (2 ^ 52) (2 ^ 52 * 2 ^ 41) f
      (function_small f (All-head (λ count. count ≤ TERMS) (term_count f) [] counts)
      (all_first IsSmall (function_numbers f) (set_numbers set) h));
  set = all_second IsSmall (function_numbers f) (set_numbers set) h;
}
row_small (PlainVec vars) set counts h =
    record { functions = variables_one (2 ^ 52) vars (omega arith); set = h }
row_small (AffineVec fs) set counts h = record {
  functions =
      functions_small fs counts
      (all_first IsSmall (flat_map function_numbers fs) (set_numbers set) h);
  set = all_second IsSmall (flat_map function_numbers fs) (set_numbers set) h;
}

abbrev IsUserItem : Item → Type 0
IsUserItem item = IsBodyWithin (2 ^ 52) item.body

objective_small : (o : Objective) → objective_terms o ≤ TERMS → AreSmall (objective_numbers o)
    → All IsUserItem (objective_items o)
objective_small objective.Feasibility count h = All-nil IsUserItem
objective_small (objective.Plain sense var) count h =
    All-cons IsUserItem (objective_item (body.PlainObj sense var)) []
    (record {
      functions = variables_one (2 ^ 52) (var ∷ []) (omega arith);
      set = none_small;
    })
    (All-nil IsUserItem)
objective_small (objective.Affine sense f) count h =
    All-cons IsUserItem (objective_item (body.AffineObj sense f)) []
    (record {
      functions =
          one_function (2 ^ 52) (2 ^ 52 * 2 ^ 41) f (function_small f count h);
      set = none_small;
    })
    (All-nil IsUserItem)

others_user : (model : ModelValue) → IsValid model → HasSmallNumbers model
    → All IsUserItem (model_image model).others
others_user model valid small =
    All-append IsUserItem (map row_item model.rows) (objective_items model.objective)
    (All-map IsUserItem row_item model.rows
    (All-weaker
    (λ r. IsValidRow model.groups r × AreSmall (func_numbers r.func ++ set_numbers r.set))
    (λ r. IsUserItem (row_item r)) (λ r h. row_small r.func r.set h.0.terms h.1) model.rows
    (all_both (IsValidRow model.groups)
    (λ r. AreSmall (func_numbers r.func ++ set_numbers r.set)) model.rows
    valid.parts.valid_rows small.rows)))
    (objective_small model.objective valid.parts.valid_objective.terms small.objective)

-- ---- where all fits, there is no first item that doesn't

module _ {Item Entry : Type 0} {rules : Rules Item Entry} where
  none_unfit : {items : List Item} {entries : List Entry}
      (trees : EachBridged rules items entries) → fits_each trees ≡ true
      → unfit_each trees ≡ None
  unfolding fits unfit_each
  none_unfit none h = refl
  none_unfit (each {item} first rest) h =
      ap (λ b. if b then unfit_each rest else Some item)
      (and_first (fits first) (fits_each rest) h)
      ∙ none_unfit rest (and_second (fits first) (fits_each rest) h)

  none_unfit_in : {inner : List Entry} {items : List Item}
      (trees : EachBridgedIn rules inner items) → fits_in trees ≡ true → unfit_in trees ≡ None
  unfolding fits unfit_in
  none_unfit_in none_in h = refl
  none_unfit_in (each_in {inner} {item} first rest) h =
      let here = rules.put_in_fits inner item && fits first in
      ap (λ b. if b then unfit_in rest else Some item) (and_first here (fits_in rest) h)
      ∙ none_unfit_in rest (and_second here (fits_in rest) h)

-- ---- the law

module _ (setting : Setting) (costly : IsCostly (graph_of setting)) (lawful : AreLawful setting)
    (model : ModelValue) (valid : IsValid model) (small : HasSmallNumbers model)
    (bridging : FreshBridging setting model) where
  abbrev groups : List Item
  groups = (model_image model).groups

  abbrev others : List Item
  others = (model_image model).others

  abbrev inner : List Entry
  inner = bridging.made.entries

  abbrev IsWithinHere : Item → Type 0
  IsWithinHere item = IsItemWithin setting costly bridging.choice bridging.chosen lawful item

  abbrev IsPutHere : Item → Type 0
  IsPutHere item = IsPutWithin setting costly bridging.choice bridging.chosen lawful inner item

  abbrev IsGroupHere : Item → Type 0
  IsGroupHere g = IsGroup setting costly bridging.choice bridging.chosen lawful g

  abbrev CanHere : Item → Type 0
  CanHere item = Can setting costly bridging.choice bridging.chosen item

  -- the bound at the start has room for all growth
  start : (item : Item)
      → quadrupled (growths_left setting costly bridging.choice bridging.chosen lawful item)
      (2 ^ 53) ≤ 2 ^ 79
  start item =
      let left = growths_left setting costly bridging.choice bridging.chosen lawful item in
      omega (
        arith,
        fewer_quadrupled left 13 (2 ^ 53)
            (omega (
              arith,
              most_left setting costly bridging.choice bridging.chosen grows_at
                  (kind_of_body item.body),
              thirteen_grow,
            )),
        thirteen_levels,
      )

  groups_small : All IsWithinHere groups
  groups_small =
      All-map IsWithinHere group_item model.groups
      (All-weaker (λ g. AreSmall (set_numbers g.set)) (λ g. IsWithinHere (group_item g))
      (λ g h. record {
        bound = 2 ^ 53;
        low = omega arith;
        high = start (group_item g);
        body = group_body (2 ^ 53) (map (λ v. variable_address v.number) g.vars) g.set
            (omega arith) h;
      })
      model.groups small.groups)

  trees : All (HasTree (graph_of setting)) groups
      × All (λ item. HasTree (graph_of setting) (put_in inner item)) others
  trees =
      trees_of_bridged setting costly bridging.choice bridging.chosen lawful
      (model_image model) bridging.made

  groups_can : All IsGroupHere groups
  groups_can =
      groups_can_all setting costly bridging.choice bridging.chosen lawful model valid trees.0

  others_can : All (λ item. CanHere (put_in inner item)) others
  others_can =
      others_can_all setting costly bridging.choice bridging.chosen lawful model valid inner
      bridging.made.groups trees.1

  inner_within : All (IsEntryWithin 2 (2 ^ 40)) inner
  inner_within =
      any_entries setting costly bridging.choice bridging.chosen lawful bridging.made.groups
      groups_can groups_small

  others_small : All IsPutHere others
  others_small =
      All-weaker IsUserItem IsPutHere
      (λ item w. put_one setting costly bridging.choice bridging.chosen lawful 2 (2 ^ 40)
      (2 ^ 52) (2 ^ 53) inner (omega arith) inner_within (omega arith) (omega arith)
      (omega arith) (omega arith) item (start (put_in inner item)) w)
      others (others_user model valid small)

  groups_fit : fits_each bridging.made.groups ≡ true
  groups_fit =
      each_fits setting costly bridging.choice bridging.chosen lawful bridging.made.groups
      (All-weaker IsGroupHere CanHere (λ g h. h.can) groups groups_can) groups_small

  others_fit : fits_in bridging.made.others ≡ true
  others_fit =
      in_fits setting costly bridging.choice bridging.chosen lawful bridging.made.others
      others_can others_small

  all_fit : AllNumbersFit setting model bridging
  all_fit = record {
    made = ap₂ ◌&&◌ groups_fit others_fit;
    unfit =
        ap₂ (λ (a b : Option Item). option_map (λ item. item.at) (option_or a b))
        (none_unfit bridging.made.groups groups_fit)
        (none_unfit_in bridging.made.others others_fit);
  }

pub small_numbers_fit : SmallNumbersFit
small_numbers_fit setting costly lawful model valid small bridging =
    all_fit setting costly lawful model valid small bridging
