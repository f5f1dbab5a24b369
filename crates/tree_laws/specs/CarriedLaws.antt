-- Right duals of the leaf model stand, carried back, for the user's rows and variables.
use Rattle.std.specs.Prelude.{◌≡◌, ◌⊎◌, true, false, List, [], ◌++◌, All, Contains, flat_map, map, refl}
use Rattle.std.specs.FinMap as finite
use Rattle.std.proofs.Common.{arith, inl, inr, sym, ap, ap₂, subst, ◌∙◌}
use Rattle.std.proofs.lemmas.Grind.{flat_map-append}
use Rattle.std.proofs.lemmas.List.Elements.{All-append, All-contains, All-map, All-weaker}
use Rattle.std.proofs.lemmas.Bool.{false_from_ne_true}
use Rattle.bridge_graph.specs.Hypergraph.{IsCostly}
use Rattle.expansion.specs.Read.{leaves_in, leaves_of_each, model_leaves}
use Rattle.ratio_core.specs.Rational.{Rational, neg_ℚ, zero_ℚ, ◌*ℚ◌, ◌+ℚ◌, ◌-ℚ◌, ◌≤ℚ◌}
use Rattle.rational_laws.specs.Field.{+ℚ-zero, neg_ℚ-+ℚ, neg_ℚ-zero, one-*ℚ, zero-*ℚ, zero-+ℚ}
use Rattle.rational_laws.specs.Ring.{as_expression, by_ring, ring₃}
use Rattle.rational_laws.specs.Sums.{sum_by_ℚ, sum_by_ℚ-map}
use Rattle.aff_core.specs.Address.{Address, root_number}
use Rattle.aff_core.specs.Function.{coefficient}
use Rattle.aff_core.specs.declared.root.Root.TheVariants as root
use Rattle.linear_laws.specs.SupportLaws.{count}
use Rattle.dual_laws.specs.Held.{DualsHold, DualRow, HasDuals, adjoint, adjoint_of, gap, gap_of}
use Rattle.dual_laws.specs.PullLaws.{adjoint-append}
use Rattle.equality_form.specs.Right.{AreLeafDuals, MayCost, held as entry_held, held_rows}
use Rattle.item_core.specs.declared.item.Item.{Item}
use Rattle.item_core.specs.Item.{functions_of, is_group}
use Rattle.bridge_face.specs.Law.{held, inner_of}
use Rattle.fresh_bridging.specs.CanLaws.{AreLawful}
use Rattle.map_laws.specs.EachLaws.{all_both, all_from_map}
use Rattle.fresh_bridging.specs.Entries.{Entry, function_in, put_in}
use Rattle.fresh_bridging.specs.FreshBridging.{FreshBridging, leaves_of}
use Rattle.fresh_bridging.specs.Leaves.{leaf_objectives, leaf_rows}
use Rattle.fresh_bridging.specs.ModelImage.{model_image, objective_items, row_item}
use Rattle.fresh_bridging.specs.ModelLaws.{IsFurther, further, objective_omits}
use Rattle.fresh_bridging.specs.OmitLaws.{IsBelow}
use Rattle.fresh_bridging.specs.TheRules.{Setting, graph_of}
use Rattle.user_model.specs.Model.{ModelValue, objective_mentions, variables}
use Rattle.user_model.specs.Valid.{IsValid, IsValidRow}
use Rattle.address_laws.specs.Apart.{Avoids, Distinct, avoids, counted_never, counted_once, in_or_not, in_second, not_in}
use Rattle.address_laws.specs.DistinctLaws.{model_keys_distinct, numbered_root, rows_distinct}
use Rattle.address_laws.specs.LeafKeys.{leaf_keys_in, leaf_keys_of_each, no_keys, variables_are}
use Rattle.address_laws.specs.ImageLaws.{Misses}
use Rattle.address_laws.specs.KeyLaws.{IsHere, other_below, within_in}
use Rattle.address_laws.specs.Keys.{Mine, keys_in, keys_of_each, own}
use Rattle.address_laws.specs.MadeLaws.{made_summed}
use Rattle.address_laws.specs.PutLaws.{group_stays}
use Rattle.tree_laws.specs.Carried.{LeafAnswerDuals, StandFor, backs, group_helds, leaf_helds, through}
use Rattle.tree_laws.specs.LeafLaws.{AreLeavesRight, SupportsNativeKinds, groups_part_gap, groups_part_weighs, leaves_hold, objective_held, parted}
use Rattle.tree_laws.specs.LevelLaws.{IsLevel, children_hold, groups_weigh, level_stands, meets}
use Rattle.tree_laws.specs.LookupLaws.{Missed, components}
use Rattle.tree_laws.specs.NodeLaws.{held_missed}
use Rattle.tree_laws.specs.PrimalLaws.{groups_there, inner_apart, native_leaves, others_there, rows_from, variables_from}
use Rattle.tree_laws.specs.SeenLaws.{IsGroupHere, IsRowHere, components_of_each, omit_each, put_in_misses}
use Rattle.tree_laws.specs.StandLaws.{groups_stand, level_groups, level_rows, rows_stand}
use Rattle.tree_laws.specs.ThroughLaws.{adjoints_missed, gaps_through, pull_alike}
use Rattle.tree_laws.specs.UserLaws.{inner_is, user_row_misses, stands_in}
use Rattle.certificates.specs.Points.{all_addresses}
use Rattle.tree_laws.specs.Certificate.{leaf_duals}

module _ (setting : Setting) (costly : IsCostly (graph_of setting)) (lawful : AreLawful setting)
    (native : SupportsNativeKinds setting) (model : ModelValue) (valid : IsValid model)
    (bridging : FreshBridging setting model) where
  abbrev pub entries : List Entry
  entries = bridging.made.entries

  abbrev pub groups : List Item
  groups = (model_image model).groups

  abbrev pub others : List Item
  others = (model_image model).others

  abbrev pub group_keys : List Address
  group_keys = keys_of_each own no_keys bridging.made.groups

  abbrev pub other_keys : List Address
  other_keys = keys_in own no_keys bridging.made.others

  abbrev pub all_leaves : List Item
  all_leaves = leaves_of_each bridging.made.groups ++ leaves_in bridging.made.others

  -- ---- the leaf variables

  pub keys_are : group_keys ++ other_keys ≡ flat_map own all_leaves
  keys_are =
      ap₂ ◌++◌ (leaf_keys_of_each own bridging.made.groups) (leaf_keys_in own bridging.made.others)
      ∙ sym (flat_map-append own (leaves_of_each bridging.made.groups)
      (leaves_in bridging.made.others))

  keys_apart : Distinct (group_keys ++ other_keys)
  keys_apart =
      model_keys_distinct setting costly lawful model valid bridging own no_keys variables_are

  -- what isn't a variable of the user's isn't mentioned by rows and objective
  pub others_miss : (v : Address) → Avoids (all_addresses model.groups) v → All (Misses v) others
  others_miss v h =
      All-append (Misses v) (map row_item model.rows) (objective_items model.objective)
      (All-map (Misses v) row_item model.rows
      (All-weaker (IsValidRow model.groups) (λ r. Misses v (row_item r))
      (λ r k. user_row_misses model.groups r k v h) model.rows valid.parts.valid_rows))
      (objective_omits model.objective v
      (false_from_ne_true (objective_mentions v model.objective)
      (λ t. not_in (all_addresses model.groups) v h
      (stands_in model.groups v (valid.parts.valid_objective.stand v t)))))

  -- and what stands below a row or the objective isn't one
  other_keys_avoid : All (Avoids (all_addresses model.groups)) other_keys
  other_keys_avoid =
      within_in setting costly bridging.choice bridging.chosen lawful own no_keys variables_are
      (Avoids (all_addresses model.groups)) bridging.made.others
      (All-weaker (λ c. IsRowHere setting costly bridging.choice bridging.chosen lawful
      (put_in entries c)) (λ c. IsHere setting costly bridging.choice bridging.chosen lawful
      (put_in entries c)) (λ c h. h.here) others
      (others_there setting costly lawful native model valid bridging))
      (All-weaker IsFurther
      (λ c. (v : Address) → Mine (put_in entries c) v → Avoids (all_addresses model.groups) v)
      (λ c h v m. avoids (all_addresses model.groups) v (λ k. clash c h v
      (other_below (put_in entries c) (group_stays entries c.body ∙ h.no_group) v m)
      (numbered_root (variables model) v k)))
      others (further model valid))
    where
      clash : (c : Item) → IsFurther c → (v : Address) → IsBelow c.at v
          → v.root ≡ root.Variable → ⊥
      clash c h v b e = moved h.root
        where
          same : c.at.root ≡ root.Variable
          same = sym (ap (λ (u : Address). u.root) b.is) ∙ e

          moved : (c.at.root ≡ root.Row) ⊎ (c.at.root ≡ root.Objective) → ⊥
          moved (inl k) =
              let n : 2 ≡ 0 = ap root_number (sym k ∙ same) in omega (arith, n)
          moved (inr k) =
              let n : 3 ≡ 0 = ap root_number (sym k ∙ same) in omega (arith, n)

  -- ---- the components

  pub same_components : components entries ≡ all_addresses model.groups
  same_components =
      components_of_each setting costly bridging.choice bridging.chosen lawful
      bridging.made.groups (groups_there setting costly lawful native model valid bridging)
      ∙ inner_is model.groups

  -- ---- right duals

  module _ (o : Rational) (costs : Address → Rational) (y : Address → List Rational)
      (nonpos : o ≤ℚ zero_ℚ) (duals : AreLeafDuals (leaves_of bridging) costs y)
      (weighs : (v : Address)
      → costs v +ℚ sum_by_ℚ (λ e. adjoint_of (objective_held (leaf_duals bridging o costs y) e) v)
      (flat_map leaf_objectives all_leaves) ≡ zero_ℚ) where
    abbrev pub d : LeafAnswerDuals
    d = leaf_duals bridging o costs y

    abbrev pub other_helds : List DualRow
    other_helds = held d.bound others (backs d bridging.made.others)

    are_right : AreLeavesRight d all_leaves
    are_right = record {
      leaves = native_leaves setting costly lawful native model valid bridging;
      variables = variables_from setting costly lawful native model valid bridging
          (λ var. MayCost var.1 (d.numbers var.0)) duals.left;
      rows = rows_from setting costly lawful native model valid bridging
          (λ e. HasDuals (entry_held y e))
          (all_from_map HasDuals (entry_held y) (finite.entries (leaves_of bridging).rows)
          duals.duals);
      size = refl;
      dual = nonpos;
    }

    -- sums over the leaf model's rows are those over the leaves
    rows_summed : (F : DualRow → Rational)
        → sum_by_ℚ F (held_rows (leaves_of bridging) y)
        ≡ sum_by_ℚ (λ e. F (entry_held y e)) (flat_map leaf_rows all_leaves)
    unfolding model_leaves
    rows_summed F =
        sum_by_ℚ-map F (entry_held y) (finite.entries (leaves_of bridging).rows)
        ∙ made_summed (λ e. F (entry_held y e)) (flat_map leaf_rows all_leaves)
        (rows_distinct setting costly lawful model valid bridging)

    cancelled : (n c r s : Rational) → n ≡ c -ℚ r → c +ℚ s ≡ zero_ℚ
        → n +ℚ (r +ℚ s) ≡ zero_ℚ
    cancelled n c r s e k = ap (λ q. q +ℚ (r +ℚ s)) e ∙ regrouped c r s ∙ k
      where
        regrouped : (a b t : Rational) → (a -ℚ b) +ℚ (b +ℚ t) ≡ a +ℚ t
        regrouped = ring₃ _ (λ ρ. simp as_expression (by_ring ρ _ _ refl))

    -- the leaves' duals balance at each leaf variable
    leaves_balance : (v : Address) → Contains (group_keys ++ other_keys) v
        → adjoint (leaf_helds d all_leaves) v ≡ zero_ℚ
    leaves_balance v c =
        parted d (λ h. adjoint_of h v) all_leaves
        ∙ ap (λ q. q +ℚ (sum_by_ℚ (λ e. adjoint_of (entry_held y e) v)
        (flat_map leaf_rows all_leaves)
        +ℚ sum_by_ℚ (λ e. adjoint_of (objective_held d e) v) (flat_map leaf_objectives all_leaves)))
        (groups_part_weighs d v all_leaves
        ∙ ap (λ n. n *ℚ d.numbers v)
        (ap (λ l. count l v) (sym keys_are) ∙ counted_once (group_keys ++ other_keys) v keys_apart
        c)
        ∙ one-*ℚ (d.numbers v))
        ∙ cancelled (d.numbers v) (costs v)
        (sum_by_ℚ (λ e. adjoint_of (entry_held y e) v) (flat_map leaf_rows all_leaves))
        (sum_by_ℚ (λ e. adjoint_of (objective_held d e) v) (flat_map leaf_objectives all_leaves))
        (ap (λ q. costs v -ℚ q) (rows_summed (λ h. adjoint_of h v))) (weighs v)

    -- the gap of the leaves
    pub leaves_gap : gap (leaf_helds d all_leaves)
        ≡ gap (held_rows (leaves_of bridging) y)
        +ℚ sum_by_ℚ (λ e. gap_of (objective_held d e)) (flat_map leaf_objectives all_leaves)
    leaves_gap =
        parted d gap_of all_leaves
        ∙ ap₂ ◌+ℚ◌
        (groups_part_gap d all_leaves (native_leaves setting costly lawful native model valid
        bridging))
        (ap (λ q. q +ℚ sum_by_ℚ (λ e. gap_of (objective_held d e))
        (flat_map leaf_objectives all_leaves))
        (sym (rows_summed gap_of)))
        ∙ zero-+ℚ (gap (held_rows (leaves_of bridging) y)
        +ℚ sum_by_ℚ (λ e. gap_of (objective_held d e)) (flat_map leaf_objectives all_leaves))

    -- ---- the user's level

    others_missed : (v : Address) → Contains other_keys v
        → All (λ c. Misses v (put_in entries c)) others
    others_missed v c =
        All-weaker (λ x. Misses v x × IsFurther x) (λ x. Misses v (put_in entries x))
        (λ x h. put_in_misses setting costly bridging.choice bridging.chosen lawful entries x v
        h.1.no_group
        (omit_each setting costly bridging.choice bridging.chosen lawful bridging.made.groups
        (groups_there setting costly lawful native model valid bridging) v
        (in_second group_keys other_keys v keys_apart c))
        (All-weaker (λ f. coefficient f v ≡ zero_ℚ) (Missed entries v) (λ f z. inl z)
        (functions_of x.body) h.0))
        others
        (all_both (Misses v) IsFurther others
        (others_miss v
        (All-contains (Avoids (all_addresses model.groups)) other_keys v other_keys_avoid c))
        (further model valid))

    user_level : IsLevel setting costly bridging.choice bridging.chosen lawful d groups others
        entries bridging.made.groups bridging.made.others []
    user_level = record {
      groups_here = groups_there setting costly lawful native model valid bridging;
      others_here = others_there setting costly lawful native model valid bridging;
      rows_only =
          All-weaker IsFurther (λ c. is_group c.body ≡ false) (λ c h. h.no_group) others
          (further model valid);
      distinct = keys_apart;
      distinct_inner = inner_apart setting costly lawful native model valid bridging;
      duals = leaves_hold d all_leaves are_right;
      balance = λ v c. sym (leaves_balance v c);
      quiet = λ v c. refl;
      missed = others_missed;
      outside = λ v c h. (
        refl,
        adjoints_missed other_helds v
            (held_missed d.bound v others (backs d bridging.made.others)
            (others_miss v (subst (λ l. Avoids l v) (inner_is model.groups) h))),
      );
    }

    -- the numbers that are left for the user's variables
    abbrev pub left : Address → Rational
    left v = neg_ℚ (adjoint other_helds v)

    left_rest : (v : Address) → left v +ℚ adjoint other_helds v ≡ zero_ℚ
    left_rest v = neg_ℚ-+ℚ (adjoint other_helds v)

    rows : StandFor (held d.bound (map (put_in entries) others) (backs d bridging.made.others))
        (leaf_helds d (leaves_in bridging.made.others))
    rows =
        rows_stand setting costly bridging.choice bridging.chosen lawful d bridging.made.others
        (level_rows setting costly bridging.choice bridging.chosen lawful d groups others entries
        bridging.made.groups bridging.made.others [] user_level)

    below : StandFor (map (through entries) (group_helds d.bound left groups))
        (leaf_helds d (leaves_of_each bridging.made.groups))
    below =
        groups_stand setting costly bridging.choice bridging.chosen lawful d bridging.made.groups
        left
        (level_groups setting costly bridging.choice bridging.chosen lawful d groups others entries
        bridging.made.groups bridging.made.others [] user_level left left_rest rows)

    abbrev pub user_helds : List DualRow
    user_helds = group_helds d.bound left groups ++ other_helds

    -- the duals hold
    pub user_duals_hold : DualsHold user_helds
    user_duals_hold =
        children_hold setting costly bridging.choice bridging.chosen lawful d groups others entries
        bridging.made.groups bridging.made.others [] user_level left left_rest rows below

    -- they come to nothing at the user's variables, and elsewhere nothing is mentioned
    pub user_balance : (v : Address) → adjoint user_helds v ≡ zero_ℚ
    user_balance v = by (in_or_not (inner_of groups) v)
      where
        by : Contains (inner_of groups) v ⊎ Avoids (inner_of groups) v
            → adjoint user_helds v ≡ zero_ℚ
        by (inl c) =
            meets setting costly bridging.choice bridging.chosen lawful d groups others entries
            bridging.made.groups bridging.made.others [] user_level left left_rest rows v c
        by (inr h) =
            adjoint-append (group_helds d.bound left groups) other_helds v
            ∙ ap₂ ◌+ℚ◌
            (groups_weigh d.bound left groups v
            (All-weaker (IsGroupHere setting costly bridging.choice bridging.chosen lawful)
            (λ g. is_group g.body ≡ true) (λ g k. k.group) groups
            (groups_there setting costly lawful native model valid bridging))
            ∙ ap (λ q. q *ℚ left v) (counted_never (inner_of groups) v h) ∙ zero-*ℚ (left v))
            (adjoints_missed other_helds v
            (held_missed d.bound v others (backs d bridging.made.others)
            (others_miss v (subst (λ l. Avoids l v) (inner_is model.groups) h))))
            ∙ +ℚ-zero zero_ℚ

    -- and their gap is no smaller
    pub gaps_grow : gap (leaf_helds d all_leaves) ≤ℚ gap user_helds
    gaps_grow =
        subst (λ q. gap (leaf_helds d all_leaves) ≤ℚ q)
        (gaps_through entries user_helds
        ∙ ap (λ q. gap user_helds -ℚ q)
        (pull_alike user_helds [] (λ u. (function_in entries u).constant)
        (λ u. ap (λ q. q *ℚ (function_in entries u).constant) (user_balance u)))
        ∙ minus_zero (gap user_helds))
        (level_stands setting costly bridging.choice bridging.chosen lawful d groups others entries
        bridging.made.groups bridging.made.others [] user_level left left_rest rows below).gaps
      where
        minus_zero : (q : Rational) → q -ℚ zero_ℚ ≡ q
        minus_zero q = ap (λ p. q +ℚ p) neg_ℚ-zero ∙ +ℚ-zero q
