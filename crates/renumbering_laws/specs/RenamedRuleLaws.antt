-- The rules of a bridging, at items under other addresses in the same order.
use Rattle.std.specs.Prelude.{◌≡◌, ℕ, Bool, true, false, ◌&&◌, cond, List, [], ◌∷◌, ◌++◌, length, map, refl}
use Rattle.std.proofs.Common.{ap, ap₂, sym, ◌∙◌}
use Rattle.std.proofs.lemmas.List.{length-map, map-append}
use Rattle.std.specs.List.{list_all, zip}
use Rattle.ratio_core.specs.Rational.{neg_ℚ, sum_fits}
use Rattle.aff_core.specs.Address.{Address}
use Rattle.aff_core.specs.Function.{Function, negated}
use Rattle.aff_core.specs.KeyOrder.{address_order}
use Rattle.bridge_face.specs.ImageOf.{image_of, inner_functions, negations}
use Rattle.bridge_face.specs.Images.{difference, function_of_body, number_in, rest_of}
use Rattle.bridge_face.specs.Law.{listed}
use Rattle.bridge_graph.specs.declared.Choice.{Choice}
use Rattle.fresh_bridging.specs.Entries.{Entry, put_into, put_into_fits}
use Rattle.fresh_bridging.specs.FitTests.{plus_fits}
use Rattle.fresh_bridging.specs.TheRules.{children_by, differences_fit, each_sum_fits, edge_at, fits_by, image_fits, outer_entries, own_entries, rules_by}
use Rattle.item_core.specs.declared.family.Family.{Family}
use Rattle.item_core.specs.declared.family.Family.TheVariants as family
use Rattle.item_core.specs.declared.image.Expression.{Expression}
use Rattle.item_core.specs.declared.image.Expression.TheVariants.{Kept}
use Rattle.item_core.specs.declared.item.Item.{Item}
use Rattle.item_core.specs.Edge.{family_of}
use Rattle.item_core.specs.Item.{functions_of, is_group, set_of, variables_of}
use Rattle.item_core.specs.Kind.{kind_number}
use Rattle.renumbering_laws.specs.RenamedEntries.{all_put_into_fits, listed-renamed, put_in-renamed, put_in_fits-renamed, put_into-renamed, renamed_children, renamed_entry}
use Rattle.renumbering_laws.specs.RenamedFitLaws.{plus_fits-renamed}
use Rattle.renumbering_laws.specs.RenamedFunctions.{constant-renamed, negated-renamed}
use Rattle.renumbering_laws.specs.RenamedImageLaws.{image-renamed}
use Rattle.renumbering_laws.specs.RenamedItems.{IsRenaming, functions-renamed, is_group-renamed, kind-renamed, map_either, renamed, renamed_expression, renamed_item, set-renamed, variables-renamed}
use Rattle.renumbering_laws.specs.RenamedPieceLaws.{difference-renamed, function-renamed, inner_functions-renamed, negations-renamed, rest-renamed}
use Rattle.renumbering_laws.specs.RenamedTrees.{IsRewriting}

-- a native group's component
abbrev own : Address → Entry
own v = record { component = v; expression = Kept v }

module _ (σ : Address → Address) (r : IsRenaming σ) where
  own-renamed : (item : Item)
      → own_entries (renamed_item σ item) ≡ map (renamed_entry σ) (own_entries item)
  own-renamed item =
      (λ i. cond (is_group-renamed σ item.body i)
      (map own (variables-renamed σ item.body i)) [])
      ∙ by (is_group item.body)
    where
      by : (b : Bool) → cond b (map own (map σ (variables_of item.body))) []
          ≡ map (renamed_entry σ) (cond b (map own (variables_of item.body)) [])
      by true = map_either σ own own (renamed_entry σ) (λ v. refl) (variables_of item.body)
      by false = refl

  zipped : (inner : List Entry) (vs : List Address) (es : List Expression)
      → map
      (λ p. record { component = p.0; expression = put_into (map (renamed_entry σ) inner) p.1 })
      (zip (map σ vs) (map (renamed_expression σ) es))
      ≡ map (renamed_entry σ) (map
      (λ p. record { component = p.0; expression = put_into inner p.1 })
      (zip vs es))
  zipped inner [] es = refl
  zipped inner (v ∷ vs) [] = refl
  zipped inner (v ∷ vs) (e ∷ es) =
      ap₂ (λ x xs. record { component = σ v; expression = x } ∷ xs)
      (put_into-renamed σ r inner e) (zipped inner vs es)

  outer-renamed : (edge : ℕ) (item : Item) (inner : List Entry)
      → outer_entries edge (renamed_item σ item) (map (renamed_entry σ) inner)
      ≡ map (renamed_entry σ) (outer_entries edge item inner)
  outer-renamed edge item inner =
      (λ i. map
      (λ p. record { component = p.0; expression = put_into (map (renamed_entry σ) inner) p.1 })
      (zip (variables-renamed σ item.body i) (image-renamed σ r (edge_at edge) item i).exprs))
      ∙ zipped inner (variables_of item.body) (image_of (edge_at edge) item).exprs

  outer_fits-renamed : (edge : ℕ) (item : Item) (inner : List Entry)
      → list_all (put_into_fits (map (renamed_entry σ) inner))
      (image_of (edge_at edge) (renamed_item σ item)).exprs
      ≡ list_all (put_into_fits inner) (image_of (edge_at edge) item).exprs
  outer_fits-renamed edge item inner =
      (λ i. list_all (put_into_fits (map (renamed_entry σ) inner))
      (image-renamed σ r (edge_at edge) item i).exprs)
      ∙ all_put_into_fits σ r inner (image_of (edge_at edge) item).exprs

  children-renamed : (edge : ℕ) (item : Item)
      → children_by edge (renamed_item σ item) ≡ renamed_children σ (children_by edge item)
  children-renamed edge item =
      let image = image_of (edge_at edge) item in
      (λ i. let made = image-renamed σ r (edge_at edge) item i in
      record { groups = made.groups; others = made.rows ++ listed made.objective })
      ∙ ap (λ l. record {
        groups = map (renamed_item σ) image.groups;
        others = map (renamed_item σ) image.rows ++ l;
      }) (listed-renamed σ image.objective)
      ∙ ap (λ l. record { groups = map (renamed_item σ) image.groups; others = l })
      (sym (map-append (renamed_item σ) image.rows (listed image.objective)))

  -- ---- what of an image fits

  differences_fit-renamed : (t : Function) (ss : List Function)
      → differences_fit (renamed σ t) (map (renamed σ) ss) ≡ differences_fit t ss
  unfolding differences_fit
  differences_fit-renamed t [] = refl
  differences_fit-renamed t (s ∷ ss) =
      (λ i. plus_fits (renamed σ t) (negated-renamed σ r.order s i)
      && differences_fit (difference-renamed σ r t s i) (map (renamed σ) ss))
      ∙ ap₂ (λ a b. a && b) (plus_fits-renamed address_order σ r.order t (negated s))
      (differences_fit-renamed (difference t s) ss)

  each_sum_fits-renamed : (fs gs : List Function)
      → each_sum_fits (map (renamed σ) fs) (map (renamed σ) gs) ≡ each_sum_fits fs gs
  each_sum_fits-renamed [] gs = refl
  each_sum_fits-renamed (f ∷ fs) [] = refl
  each_sum_fits-renamed (f ∷ fs) (g ∷ gs) =
      ap₂ (λ a b. a && b) (plus_fits-renamed address_order σ r.order f g)
      (each_sum_fits-renamed fs gs)

  all_fit-renamed : (p q : Function → Bool) → ((f : Function) → q (renamed σ f) ≡ p f)
      → (fs : List Function) → list_all q (map (renamed σ) fs) ≡ list_all p fs
  all_fit-renamed p q same [] = refl
  all_fit-renamed p q same (f ∷ fs) = ap₂ (λ a b. a && b) (same f) (all_fit-renamed p q same fs)

  abbrev infinity_fits : Function → List Function → Bool
  infinity_fits t xs =
      list_all (λ x. plus_fits t (negated x)) xs && list_all (λ x. plus_fits t x) xs

  infinity_fits-renamed : (t : Function) (xs : List Function)
      → infinity_fits (renamed σ t) (map (renamed σ) xs) ≡ infinity_fits t xs
  infinity_fits-renamed t xs =
      ap₂ (λ a b. a && b)
      (all_fit-renamed (λ x. plus_fits t (negated x)) (λ x. plus_fits (renamed σ t) (negated x))
      (λ x. ap (plus_fits (renamed σ t)) (negated-renamed σ r.order x)
      ∙ plus_fits-renamed address_order σ r.order t (negated x)) xs)
      (all_fit-renamed (plus_fits t) (plus_fits (renamed σ t))
      (plus_fits-renamed address_order σ r.order t) xs)

  abbrev one_fits : Function → List Function → List Function → Bool
  one_fits t xs ss =
      differences_fit t ss && (each_sum_fits ss (negations xs) && each_sum_fits ss xs)

  one_fits-renamed : (t : Function) (xs ss : List Function)
      → one_fits (renamed σ t) (map (renamed σ) xs) (map (renamed σ) ss) ≡ one_fits t xs ss
  one_fits-renamed t xs ss =
      (λ i. differences_fit-renamed t ss i
      && (each_sum_fits (map (renamed σ) ss) (negations-renamed σ r xs i)
      && each_sum_fits-renamed ss xs i))
      ∙ ap (λ b. differences_fit t ss && (b && each_sum_fits ss xs))
      (each_sum_fits-renamed ss (negations xs))

  by_family : (f : Family) (item : Item) → fits_by f (renamed_item σ item) ≡ fits_by f item
  unfolding fits_by
  by_family family.Vectorize item =
      (λ i. sum_fits (function-renamed σ r item.body i).constant
      (neg_ℚ (number_in (set-renamed σ item.body i))))
      ∙ ap (λ c. sum_fits c (neg_ℚ (number_in (set_of item.body))))
      (constant-renamed σ r.order (function_of_body item.body))
  by_family family.NormInfinity item =
      let t = function_of_body item.body in
      let fs = functions_of item.body in
      (λ i. infinity_fits (function-renamed σ r item.body i)
      (rest_of (functions-renamed σ r item.body i)))
      ∙ (λ i. infinity_fits (renamed σ t) (rest-renamed σ fs i))
      ∙ infinity_fits-renamed t (rest_of fs)
  by_family family.NormOne item =
      let t = function_of_body item.body in
      let fs = functions_of item.body in
      let xs = rest_of fs in
      let over = renamed_item σ item in
      (λ i. one_fits (function-renamed σ r item.body i)
      (rest_of (functions-renamed σ r item.body i))
      (inner_functions over (length (rest_of (functions-renamed σ r item.body i)))))
      ∙ (λ i. one_fits (renamed σ t) (rest-renamed σ fs i)
      (inner_functions over (length (rest-renamed σ fs i))))
      ∙ (λ i. one_fits (renamed σ t) (map (renamed σ) xs)
      (inner_functions over (length-map xs (renamed σ) i)))
      ∙ (λ i. one_fits (renamed σ t) (map (renamed σ) xs)
      (inner_functions-renamed σ r item (length xs) i))
      ∙ one_fits-renamed t xs (inner_functions item (length xs))
  by_family _ item = refl

  image_fits-renamed : (edge : ℕ) (item : Item)
      → image_fits edge (renamed_item σ item) ≡ image_fits edge item
  image_fits-renamed edge item = by_family (family_of (edge_at edge)) item

  -- ---- all rules

  pub rules-renamed : (choice : ℕ → Choice)
      → IsRewriting (rules_by choice) (renamed_item σ) (renamed_entry σ)
  rules-renamed choice = record {
    choice = λ item. ap (λ k. choice (kind_number k)) (kind-renamed σ item.body);
    groups = λ edge item. ap (λ c. c.groups) (children-renamed edge item);
    others = λ edge item. ap (λ c. c.others) (children-renamed edge item);
    own = own-renamed;
    outer = outer-renamed;
    put_in = λ inner item. put_in-renamed σ r inner item;
    image_fits = image_fits-renamed;
    outer_fits = outer_fits-renamed;
    put_in_fits = λ inner item. put_in_fits-renamed σ r inner item;
  }
