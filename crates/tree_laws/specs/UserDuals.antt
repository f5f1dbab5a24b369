-- The duals of the user's rows and variables, by those of the leaf model.
use Rattle.std.specs.Prelude.{◌≡◌, List, ◌++◌, All, Contains, drop, flat_map, length, map, take, refl}
use Rattle.std.proofs.Common.{arith, sym, ap, subst, ◌∙◌}
use Rattle.std.proofs.lemmas.List.{length-append, length-map, length-take}
use Rattle.std.proofs.lemmas.List.Elements.{All-append}
use Rattle.bridge_graph.specs.Hypergraph.{IsCostly}
use Rattle.ratio_core.specs.Rational.{Rational, neg_ℚ, zero_ℚ, ◌*ℚ◌, ◌+ℚ◌, ◌≤ℚ◌}
use Rattle.rational_laws.specs.Sums.{sum_by_ℚ, sum_by_ℚ-map}
use Rattle.aff_core.specs.Address.{Address}
use Rattle.aff_core.specs.Function.{Function, coefficient}
use Rattle.dual_laws.specs.Held.{DualsHold, DualRow, IsHeld, HasDuals, adjoint, adjoint_of, gap, gap_of}
use Rattle.dual_laws.specs.PullLaws.{adjoint-append, gap-append}
use Rattle.certificates.specs.Duals.{AreDuals, adjoint_of_rows, dual_gap, groups_with, rows_with}
use Rattle.certificates.specs.Points.{all_addresses, at_point}
use Rattle.equality_form.specs.EqualityForm.{cost}
use Rattle.equality_form.specs.Right.{AreLeafDuals, held_rows}
use Rattle.bridge_face.specs.Law.{held}
use Rattle.fresh_bridging.specs.CanLaws.{AreLawful}
use Rattle.map_laws.specs.EachLaws.{all_first, all_second}
use Rattle.fresh_bridging.specs.FreshBridging.{FreshBridging, leaves_of}
use Rattle.fresh_bridging.specs.Leaves.{leaf_objectives}
use Rattle.fresh_bridging.specs.ModelImage.{model_image, objective_items, row_item}
use Rattle.fresh_bridging.specs.TheRules.{Setting, graph_of}
use Rattle.item_core.specs.declared.item.Item.{Item}
use Rattle.user_model.specs.Model.{ModelValue, variables}
use Rattle.user_model.specs.Valid.{IsValid}
use Rattle.tree_laws.specs.Carried.{LeafAnswerDuals, backs, group_helds, leaf_helds}
use Rattle.tree_laws.specs.Certificate.{leaf_duals, rows_of}
use Rattle.tree_laws.specs.LeafLaws.{SupportsNativeKinds, objective_held}
use Rattle.tree_laws.specs.NodeLaws.{held_split, length-backs}
use Rattle.tree_laws.specs.ObjectivePart.{WeighsCost, leaf_weighs, user_cost, user_weighs}
use Rattle.tree_laws.specs.CarriedLaws.{gaps_grow, left, leaves_gap, other_helds, user_balance, user_duals_hold, user_helds}
use Rattle.tree_laws.specs.PrimalLaws.{all_leaves}
use Rattle.tree_laws.specs.UserHelds.{groups_are, held_duals, rows_are}

module _ (setting : Setting) (costly : IsCostly (graph_of setting)) (lawful : AreLawful setting)
    (native : SupportsNativeKinds setting) (model : ModelValue) (valid : IsValid model)
    (bridging : FreshBridging setting model) where
  abbrev leaves_here : List Item
  leaves_here = all_leaves setting costly lawful native model valid bridging

  abbrev user_f : Function
  user_f = user_cost model.objective

  -- ---- duals

  module _ (o : Rational) (costs : Address → Rational) (y : Address → List Rational)
      (nonpos : o ≤ℚ zero_ℚ) (duals : AreLeafDuals (leaves_of bridging) costs y)
      (weighed : (v : Address) → costs v +ℚ o *ℚ coefficient (cost (leaves_of bridging)) v ≡ zero_ℚ)
    where
      abbrev pub d : LeafAnswerDuals
      d = leaf_duals bridging o costs y

      pub leaf_part : WeighsCost o (cost (leaves_of bridging))
          (map (objective_held d) (flat_map leaf_objectives leaves_here))
      leaf_part = leaf_weighs setting costly lawful native model valid bridging d o refl refl

      pub weighs : (v : Address)
          → costs v +ℚ sum_by_ℚ (λ e. adjoint_of (objective_held d e) v)
          (flat_map leaf_objectives leaves_here)
          ≡ zero_ℚ
      weighs v =
          ap (λ q. costs v +ℚ q)
          (sym (sum_by_ℚ-map (λ h. adjoint_of h v) (objective_held d)
          (flat_map leaf_objectives leaves_here))
          ∙ leaf_part.adjoints v)
          ∙ weighed v

      abbrev pub rows_here : List (List Rational)
      rows_here = rows_of bridging d

      abbrev pub objective_part : List DualRow
      objective_part =
          held d.bound (objective_items model.objective)
          (drop (length (map row_item model.rows)) (backs d bridging.made.others))

      pub user_part : WeighsCost o user_f objective_part
      user_part = user_weighs setting costly lawful native model valid bridging d o refl refl

      abbrev pub row_helds : List DualRow
      row_helds = rows_with rows_here model.rows

      abbrev pub numbers : Address → Rational
      numbers = left setting costly lawful native model valid bridging o costs y nonpos duals weighs

      abbrev pub group_part : List DualRow
      group_part = group_helds zero_ℚ numbers (model_image model).groups

      -- the user's rows, and beside them the objective
      parts : other_helds setting costly lawful native model valid bridging o costs y nonpos duals
          weighs
          ≡ row_helds ++ objective_part
      parts =
          sym (held_split d.bound (map row_item model.rows) (objective_items model.objective)
          (backs d bridging.made.others))
          ∙ ap (λ n. held d.bound (map row_item model.rows) (take n (backs d bridging.made.others))
          ++ objective_part) (length-map model.rows row_item)
          ∙ ap (λ hs. hs ++ objective_part) (rows_are d.bound model.rows rows_here)

      all_parts : user_helds setting costly lawful native model valid bridging o costs y nonpos
          duals weighs
          ≡ group_part ++ (row_helds ++ objective_part)
      all_parts = ap (λ hs. group_part ++ hs) parts

      parts_hold : DualsHold (group_part ++ (row_helds ++ objective_part))
      parts_hold =
          subst DualsHold all_parts
          (user_duals_hold setting costly lawful native model valid bridging o costs y nonpos duals
          weighs)

      pub groups_hold_here : DualsHold group_part
      groups_hold_here = all_first IsHeld group_part (row_helds ++ objective_part) parts_hold

      pub rows_hold_here : DualsHold row_helds
      rows_hold_here =
          all_first IsHeld row_helds objective_part
          (all_second IsHeld group_part (row_helds ++ objective_part) parts_hold)

      -- the number of a variable is what the rows and the objective leave for it
      pub numbers_are : (v : Address)
          → numbers v ≡ neg_ℚ (adjoint_of_rows model rows_here v +ℚ o *ℚ coefficient user_f v)
      numbers_are v =
          ap (λ hs. neg_ℚ (adjoint hs v)) parts
          ∙ ap neg_ℚ (adjoint-append row_helds objective_part v
          ∙ ap (λ q. adjoint row_helds v +ℚ q) (user_part.adjoints v))

      pub balance : (v : Address)
          → adjoint group_part v +ℚ (adjoint row_helds v +ℚ o *ℚ coefficient user_f v) ≡ zero_ℚ
      balance v =
          ap (λ q. adjoint group_part v +ℚ q)
          (ap (λ q. adjoint row_helds v +ℚ q) (sym (user_part.adjoints v))
          ∙ sym (adjoint-append row_helds objective_part v))
          ∙ sym (adjoint-append group_part (row_helds ++ objective_part) v)
          ∙ ap (λ hs. adjoint hs v) (sym all_parts)
          ∙ user_balance setting costly lawful native model valid bridging o costs y nonpos duals
          weighs v

      -- the gap of the leaf model is at most that of the user's, each with the objective's
      pub gaps : (gap (held_rows (leaves_of bridging) y)
          +ℚ neg_ℚ (o *ℚ (cost (leaves_of bridging)).constant))
          ≤ℚ (gap group_part +ℚ (gap row_helds +ℚ neg_ℚ (o *ℚ user_f.constant)))
      gaps =
          subst (λ q. q ≤ℚ (gap group_part +ℚ (gap row_helds +ℚ neg_ℚ (o *ℚ user_f.constant))))
          (leaves_gap setting costly lawful native model valid bridging o costs y nonpos duals
          weighs
          ∙ ap (λ q. gap (held_rows (leaves_of bridging) y) +ℚ q)
          (sym (sum_by_ℚ-map gap_of (objective_held d) (flat_map leaf_objectives leaves_here))
          ∙ leaf_part.gaps))
          (subst (λ q. gap (leaf_helds d leaves_here) ≤ℚ q)
          (ap gap all_parts ∙ gap-append group_part (row_helds ++ objective_part)
          ∙ ap (λ q. gap group_part +ℚ q)
          (gap-append row_helds objective_part ∙ ap (λ q. gap row_helds +ℚ q) user_part.gaps))
          (gaps_grow setting costly lawful native model valid bridging o costs y nonpos duals
          weighs))

      -- ---- with duals for the variables

      module _ (vars : List Rational) (size : length vars ≡ length (variables model))
          (vars_are : (v : Address) → Contains (all_addresses model.groups) v
          → at_point model vars v ≡ numbers v) where
        same_groups : groups_with (at_point model vars) model.groups ≡ group_part
        same_groups = groups_are (at_point model vars) numbers model.groups vars_are

        pub are_duals : AreDuals model rows_here vars
        are_duals = record {
          each_row =
              omega (
                arith,
                length-take (length model.rows) (backs d bridging.made.others),
                length-backs setting costly bridging.choice bridging.chosen lawful d
                    bridging.made.others,
                length-append (map row_item model.rows) (objective_items model.objective),
                length-map model.rows row_item,
              );
          each_variable = size;
          duals =
              All-append HasDuals row_helds (groups_with (at_point model vars) model.groups)
              (held_duals row_helds rows_hold_here)
              (subst (All HasDuals) (sym same_groups) (held_duals group_part groups_hold_here));
        }

        pub gap_is : dual_gap model rows_here vars ≡ gap row_helds +ℚ gap group_part
        gap_is =
            gap-append row_helds (groups_with (at_point model vars) model.groups)
            ∙ ap (λ hs. gap row_helds +ℚ gap hs) same_groups
