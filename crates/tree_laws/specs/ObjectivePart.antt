-- The objective's part of what is weighed: in the leaf model and in the user's.
use Rattle.std.specs.Prelude.{◌≡◌, true, false, List, [], ◌∷◌, ◌++◌, All, drop, flat_map, length, map, refl}
use Rattle.std.specs.FinMap as finite
use Rattle.std.specs.List.Sorted.{IsPermutation}
use Rattle.std.proofs.Common.{arith, sym, ap, ap₂, subst, ◌∙◌, true≢false}
use Rattle.std.proofs.lemmas.List.Elements.{All-append, All-cons, All-head, All-nil}
use Rattle.std.proofs.lemmas.List.Sorted.{length_permutation}
use Rattle.std.proofs.lemmas.List.{nil_from_length}
use Rattle.bridge_graph.specs.Hypergraph.{IsCostly}
use Rattle.expansion.specs.Bridged.{EachBridgedIn}
use Rattle.expansion.specs.Read.{leaves_in, leaves_of_each, model_leaves}
use Rattle.ratio_core.specs.Rational.{Rational, neg_ℚ, zero_ℚ, ◌*ℚ◌, ◌+ℚ◌, ◌-ℚ◌, ◌≤ℚ◌}
use Rattle.rational_laws.specs.Field.{*ℚ-zero, +ℚ-zero, neg_ℚ-zero}
use Rattle.rational_laws.specs.Order.{≤ℚ_from_≡}
use Rattle.rational_laws.specs.Ring.{as_expression, by_ring, ring₂, zero_as}
use Rattle.aff_core.specs.Address.{Address, address_cmp}
use Rattle.aff_core.specs.Function.{Function, coefficient, constant_function, evaluated, variable}
use Rattle.aff_core.specs.FunctionLaws.{constant-constant_function}
use Rattle.linear_laws.specs.ListLaws.{evaluated_constant_function}
use Rattle.dual_laws.specs.Held.{DualRow, adjoint, gap}
use Rattle.certificates.specs.Points.{objective_function, sense_of}
use Rattle.equality_form.specs.EqualityForm.{cost, cost_among}
use Rattle.equality_form.specs.Right.{IsLeafFeasible}
use Rattle.item_core.specs.declared.item.Body.{Body}
use Rattle.item_core.specs.declared.item.Body.TheVariants.{Group, Free, Plain, Affine, PlainVec, AffineVec, PlainObj, AffineObj}
use Rattle.item_core.specs.declared.item.Item.{Item}
use Rattle.bridge_face.specs.BackOf.{first_of}
use Rattle.bridge_face.specs.Law.{cost_by, cost_of, held, held_body, is_objective}
use Rattle.fresh_bridging.specs.CanLaws.{AreLawful}
use Rattle.fresh_bridging.specs.FreshBridging.{FreshBridging, leaves_of}
use Rattle.fresh_bridging.specs.Leaves.{leaf_objectives}
use Rattle.fresh_bridging.specs.ModelImage.{objective_item, objective_items, row_item}
use Rattle.fresh_bridging.specs.TheRules.{Setting, graph_of, rules_by}
use Rattle.user_model.specs.Model.{ModelValue}
use Rattle.user_model.specs.Valid.{IsValid}
use Rattle.user_model.specs.declared.objective.Objective.{Objective}
use Rattle.user_model.specs.declared.objective.Objective.TheVariants as objective
use Rattle.address_laws.specs.DistinctLaws.{each_apart}
use Rattle.address_laws.specs.ImageLaws.{constant_misses}
use Rattle.tree_laws.specs.Carried.{LeafAnswerDuals, backs}
use Rattle.tree_laws.specs.LeafLaws.{SupportsNativeKinds, objective_held}
use Rattle.tree_laws.specs.ObjectiveLaws.{CostsNothing, HasOneLeafObjective, none_at_all, none_below_each, none_below_in}
use Rattle.tree_laws.specs.PrimalLaws.{all_leaves, cost_of_one, costs_less, groups_there, has_leaf, others_there, rows_no_objective, seen_point}
use Rattle.tree_laws.specs.BackLaws.{last_of_rows}

-- what an objective costs: nothing, where there is none
abbrev pub user_cost : Objective → Function
user_cost o = cost_by (sense_of o) (objective_function o)

-- a row of one function, weighed
one_weighed : (o c : Rational) → (o *ℚ c +ℚ zero_ℚ) +ℚ zero_ℚ ≡ o *ℚ c
one_weighed o c = +ℚ-zero (o *ℚ c +ℚ zero_ℚ) ∙ +ℚ-zero (o *ℚ c)

one_gap : (o c : Rational)
    → (zero_ℚ *ℚ o -ℚ (o *ℚ c +ℚ zero_ℚ)) +ℚ zero_ℚ ≡ neg_ℚ (o *ℚ c)
one_gap = ring₂ _ (λ ρ. simp (as_expression, zero_as ρ) (by_ring ρ _ _ refl))

-- without an objective nothing is weighed
none_weighed : (o : Rational) (v : Address)
    → zero_ℚ ≡ o *ℚ coefficient (constant_function {R = address_cmp} zero_ℚ) v
none_weighed o v = sym (ap (λ q. o *ℚ q) (constant_misses v) ∙ *ℚ-zero o)

none_gap : (o : Rational) → zero_ℚ ≡ neg_ℚ (o *ℚ (constant_function {R = address_cmp}
    zero_ℚ).constant)
none_gap o =
    sym (ap (λ q. neg_ℚ (o *ℚ q)) (constant-constant_function address_cmp zero_ℚ)
    ∙ ap neg_ℚ (*ℚ-zero o) ∙ neg_ℚ-zero)

-- the objective weighs its cost, and its gap is that of the constant
pub record WeighsCost (o : Rational) (f : Function) (hs : List DualRow) : Type 0 where
  pub adjoints : (v : Address) → adjoint hs v ≡ o *ℚ coefficient f v
  pub gaps : gap hs ≡ neg_ℚ (o *ℚ f.constant)

pub body_weighs : (o : Rational) (b : Body) → is_objective b ≡ true
    → WeighsCost o (cost_of b) (held_body zero_ℚ b (o ∷ []) ∷ [])
body_weighs o (PlainObj sense var) h = record {
  adjoints = λ v. one_weighed o (coefficient (cost_by sense (variable var)) v);
  gaps = one_gap o (cost_by sense (variable var)).constant;
}
body_weighs o (AffineObj sense func) h = record {
  adjoints = λ v. one_weighed o (coefficient (cost_by sense func) v);
  gaps = one_gap o (cost_by sense func).constant;
}
body_weighs o _ h = absurd (true≢false (sym h))

none_weighs : (o : Rational) → WeighsCost o (constant_function zero_ℚ) []
none_weighs o = record { adjoints = none_weighed o; gaps = none_gap o }

-- ---- the leaf objective

objective_entry : (i : Item) → All (λ e. is_objective e.1 ≡ true) (leaf_objectives i)
objective_entry i = by i.body
  where
    by : (b : Body)
        → All (λ e. is_objective e.1 ≡ true) (leaf_objectives (record { at = i.at; body = b }))
    by (Group s vars) = All-nil (λ e. is_objective e.1 ≡ true)
    by (Free vars) = All-nil (λ e. is_objective e.1 ≡ true)
    by (Plain var s) = All-nil (λ e. is_objective e.1 ≡ true)
    by (Affine func s) = All-nil (λ e. is_objective e.1 ≡ true)
    by (PlainVec vars s) = All-nil (λ e. is_objective e.1 ≡ true)
    by (AffineVec funcs s) = All-nil (λ e. is_objective e.1 ≡ true)
    by (PlainObj sense var) =
        All-cons (λ e. is_objective e.1 ≡ true) (i.at, PlainObj sense var) [] refl
        (All-nil (λ e. is_objective e.1 ≡ true))
    by (AffineObj sense func) =
        All-cons (λ e. is_objective e.1 ≡ true) (i.at, AffineObj sense func) [] refl
        (All-nil (λ e. is_objective e.1 ≡ true))

objective_entries : (items : List Item)
    → All (λ e. is_objective e.1 ≡ true) (flat_map leaf_objectives items)
objective_entries [] = All-nil (λ e. is_objective e.1 ≡ true)
objective_entries (i ∷ items) =
    All-append (λ e. is_objective e.1 ≡ true) (leaf_objectives i) (flat_map leaf_objectives items)
    (objective_entry i) (objective_entries items)

module _ (setting : Setting) (costly : IsCostly (graph_of setting)) (lawful : AreLawful setting)
    (native : SupportsNativeKinds setting) (model : ModelValue) (valid : IsValid model)
    (bridging : FreshBridging setting model) where
  abbrev pub leaves_here : List Item
  leaves_here = all_leaves setting costly lawful native model valid bridging

  -- where the user has no objective, the leaf model has none
  pub none_here : objective_items model.objective ≡ [] → flat_map leaf_objectives leaves_here ≡ []
  none_here e =
      none_at_all leaves_here
      (All-append CostsNothing (leaves_of_each bridging.made.groups)
      (leaves_in bridging.made.others)
      (none_below_each setting costly bridging.choice bridging.chosen lawful bridging.made.groups
      (groups_there setting costly lawful native model valid bridging))
      (none_below_in setting costly bridging.choice bridging.chosen lawful bridging.made.others
      (others_there setting costly lawful native model valid bridging)
      (subst (λ l. All (λ c. is_objective c.body ≡ false) (map row_item model.rows ++ l)) (sym e)
      (All-append (λ c. is_objective c.body ≡ false) (map row_item model.rows) []
      (rows_no_objective model.rows) (All-nil (λ c. is_objective c.body ≡ false))))))

  no_cost : objective_items model.objective ≡ []
      → cost (leaves_of bridging) ≡ constant_function zero_ℚ
  unfolding model_leaves
  no_cost e =
      ap cost_among
      (nil_from_length (finite.entries (leaves_of bridging).objective)
      (length_permutation [] (finite.entries (leaves_of bridging).objective)
      (subst (λ l. IsPermutation l (finite.entries (leaves_of bridging).objective)) (none_here e)
      (each_apart setting costly lawful model valid bridging).objective.entries)))

  -- by whether there is an objective
  pub by_objective : {C : Type 0}
      → (objective_items model.objective ≡ []
      → user_cost model.objective ≡ constant_function zero_ℚ → C)
      → ((b : Body) → is_objective b ≡ true
      → objective_items model.objective ≡ objective_item b ∷ []
      → user_cost model.objective ≡ cost_of b → C)
      → C
  by_objective {C} none one = by model.objective none one
    where
      by : (o : Objective)
          → (objective_items o ≡ [] → user_cost o ≡ constant_function zero_ℚ → C)
          → ((b : Body) → is_objective b ≡ true → objective_items o ≡ objective_item b ∷ []
          → user_cost o ≡ cost_of b → C) → C
      by objective.Feasibility n k = n refl refl
      by (objective.Plain sense var) n k = k (PlainObj sense var) refl refl refl
      by (objective.Affine sense func) n k = k (AffineObj sense func) refl refl refl

  module _ (d : LeafAnswerDuals) (o : Rational) (bound : d.bound ≡ zero_ℚ)
      (dual : d.objective ≡ o ∷ []) where
    pub leaf_weighs : WeighsCost o (cost (leaves_of bridging))
        (map (objective_held d) (flat_map leaf_objectives leaves_here))
    leaf_weighs = by_objective
        (λ e k. subst (λ f. WeighsCost o f (map (objective_held d)
        (flat_map leaf_objectives leaves_here)))
        (sym (no_cost e))
        (subst (λ l. WeighsCost o (constant_function zero_ℚ) (map (objective_held d) l))
        (sym (none_here e)) (none_weighs o)))
        (λ b t e k. of_one (has_leaf setting costly lawful native model valid bridging b t e))
      where
        of_one : HasOneLeafObjective leaves_here
            → WeighsCost o (cost (leaves_of bridging))
            (map (objective_held d) (flat_map leaf_objectives leaves_here))
        of_one has =
            subst (λ f. WeighsCost o f (map (objective_held d) (flat_map leaf_objectives leaves_here)))
            (sym (cost_of_one setting costly lawful native model valid bridging has.leaf has.alone))
            (subst (λ l. WeighsCost o (cost_of has.leaf.1) (map (objective_held d) l)) (sym has.alone)
            (subst (λ h. WeighsCost o (cost_of has.leaf.1) (h ∷ []))
            (ap₂ (λ q w. held_body q has.leaf.1 w) (sym bound) (sym dual))
            (body_weighs o has.leaf.1
            (All-head (λ x. is_objective x.1 ≡ true) has.leaf []
            (subst (All (λ x. is_objective x.1 ≡ true)) has.alone
            (objective_entries leaves_here))))))

    -- ---- the user's objective

    one_dual : (b : Body) (zs : List (List Rational)) → first_of zs ≡ d.objective
        → held d.bound (objective_item b ∷ []) zs ≡ held_body zero_ℚ b (o ∷ []) ∷ []
    one_dual b [] e =
        let none : 0 ≡ 1 = ap length (e ∙ dual) in absurd (omega (arith, none))
    one_dual b (z ∷ zs) e = ap₂ (λ q w. held_body q b w ∷ []) bound (e ∙ dual)

    user_part_weighs : (ob : Objective) (rows : List Item)
        (trees : EachBridgedIn (rules_by bridging.choice) bridging.made.entries
        (rows ++ objective_items ob))
        → WeighsCost o (user_cost ob)
        (held d.bound (objective_items ob) (drop (length rows) (backs d trees)))
    user_part_weighs objective.Feasibility rows trees = none_weighs o
    user_part_weighs (objective.Plain sense var) rows trees =
        subst (WeighsCost o (cost_by sense (variable var)))
        (sym (one_dual (PlainObj sense var) (drop (length rows) (backs d trees))
        (last_of_rows setting costly bridging.choice bridging.chosen lawful d rows
        (objective_item (PlainObj sense var)) trees refl)))
        (body_weighs o (PlainObj sense var) refl)
    user_part_weighs (objective.Affine sense func) rows trees =
        subst (WeighsCost o (cost_by sense func))
        (sym (one_dual (AffineObj sense func) (drop (length rows) (backs d trees))
        (last_of_rows setting costly bridging.choice bridging.chosen lawful d rows
        (objective_item (AffineObj sense func)) trees refl)))
        (body_weighs o (AffineObj sense func) refl)

    pub user_weighs : WeighsCost o (user_cost model.objective)
        (held d.bound (objective_items model.objective)
        (drop (length (map row_item model.rows)) (backs d bridging.made.others)))
    user_weighs =
        user_part_weighs model.objective (map row_item model.rows) bridging.made.others

  -- ---- the user's objective costs no more

  module _ (one : Rational) (a : zero_ℚ ≤ℚ one) (x : Address → Rational)
      (feasible : IsLeafFeasible (leaves_of bridging) one x) where
    abbrev user_seen : Address → Rational
    user_seen = seen_point setting costly lawful native model valid bridging one a x feasible

    pub objective_up : evaluated one (user_cost model.objective) user_seen
        ≤ℚ evaluated one (cost (leaves_of bridging)) x
    objective_up = by_objective
        (λ e k. ≤ℚ_from_≡ (evaluated one (user_cost model.objective) user_seen)
        (evaluated one (cost (leaves_of bridging)) x)
        (ap (λ f. evaluated one f user_seen) k
        ∙ evaluated_constant_function one zero_ℚ user_seen
        ∙ sym (ap (λ f. evaluated one f x) (no_cost e)
        ∙ evaluated_constant_function one zero_ℚ x)))
        (λ b t e k. subst (λ f. evaluated one f user_seen
        ≤ℚ evaluated one (cost (leaves_of bridging)) x) (sym k)
        (costs_less setting costly lawful native model valid bridging one a x feasible b t e))
