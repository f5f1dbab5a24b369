-- The leaves and the nodes of a fresh bridging can be put in, and each variable's expression.
use Rattle.std.specs.Prelude.{◌≡◌, ◌≤◌, true, false, List, [], ◌∷◌, flat_map, length, map, slice_index_or, refl}
use Rattle.std.specs.List.{IsDistinct, list_any}
use Rattle.std.specs.Map.{keys_of}
use Rattle.std.proofs.Common.{arith, sym, ap, subst, ◌∙◌, true≢false}
use Rattle.std.proofs.lemmas.List.Elements.{All-map, All-weaker}
use mathlib.Core.List.{map-map}
use Rattle.aff_core.specs.Address.{Address, address_cmp, address_eq}
use Rattle.aff_core.specs.Rising.{HasDistinctKeys}
use Rattle.address_laws.specs.Apart.{is_distinct}
use Rattle.address_laws.specs.DistinctLaws.{each_apart, rows_distinct, variables_distinct, vars_distinct}
use Rattle.bridge_set.specs.Bridges.{AreKeepable}
use Rattle.bridge_face.specs.Law.{IsItemFor, expressed}
use Rattle.bridge_graph.specs.Hypergraph.{IsCostly}
use Rattle.bridge_plan.specs.AddsHeld.{kept_of}
use Rattle.expansion.specs.Read.{model_leaves, model_nodes}
use Rattle.fresh_bridging.specs.CanLaws.{AreLawful}
use Rattle.fresh_bridging.specs.FreshBridging.{FreshBridging, expression_of}
use Rattle.fresh_bridging.specs.Leaves.{leaf_objectives, leaf_rows, leaf_variables}
use Rattle.fresh_bridging.specs.TableLaws.{and_second}
use Rattle.fresh_bridging.specs.TheRules.{Setting, edge_at, family_number, graph_of}
use Rattle.item_core.specs.declared.item.Body.{Body}
use Rattle.item_core.specs.declared.item.Body.TheVariants.{Group, Free, Plain, Affine, PlainVec, AffineVec, PlainObj, AffineObj}
use Rattle.item_core.specs.declared.item.Item.{Item}
use Rattle.item_core.specs.Edge.{family_eq, family_of}
use Rattle.item_core.specs.Kind.{is_native}
use Rattle.item_core.specs.KindOf.{kind_of_body, plain_kind_of}
use Rattle.leaf_update.specs.Leaves.{AreLeaves, HasNativeForm}
use Rattle.model_bridging.specs.Planned.{variables_of_the_model}
use Rattle.set_core.specs.declared.set.Set.{Set}
use Rattle.set_core.specs.declared.set.Set.TheVariants as set
use Rattle.set_core.specs.Shapes.{is_scalar}
use Rattle.tree_laws.specs.LeafLaws.{IsLeaf, IsNode, SupportsNativeKinds, is_leaf_kind}
use Rattle.tree_laws.specs.NativeModel.{leaves_name}
use Rattle.tree_laws.specs.ObjectivePart.{by_objective, none_here}
use Rattle.tree_laws.specs.PrimalLaws.{all_leaves, has_leaf, native_leaves, nodes_here}
use Rattle.user_model.specs.Model.{ModelValue}
use Rattle.user_model.specs.Valid.{IsValid}

-- ---- forms

no_vector : (s : Set) → is_scalar s ≡ false → is_leaf_kind (plain_kind_of s) ≡ true → ⊥
unfolding is_native
no_vector (set.LessThan u) h k = true≢false h
no_vector (set.GreaterThan l) h k = true≢false h
no_vector (set.EqualTo a) h k = true≢false h
no_vector (set.Interval l u) h k = true≢false h
no_vector _ h k = true≢false (sym k)

native_form : (i : Item) → IsLeaf i → HasNativeForm i.body
unfolding kind_of_body
native_form i = by i.body
  where
    by : (b : Body) → IsLeaf (record { at = i.at; body = b }) → HasNativeForm b
    by (Group s vars) l = tt
    by (Free vars) l = tt
    by (Plain var s) l = tt
    by (Affine func s) l = tt
    by (PlainVec vars s) l = no_vector s l.valid.function l.native
    by (AffineVec funcs s) l = tt
    by (PlainObj sense var) l = tt
    by (AffineObj sense func) l = tt

-- ---- keys

keys_mapped : {A X Y : Type 0} (f : A → Address × X) (g : A → Address × Y)
    → ((a : A) → (f a).0 ≡ (g a).0) → (xs : List A)
    → map (λ e. e.0) (map f xs) ≡ map (λ e. e.0) (map g xs)
keys_mapped f g h [] = refl
keys_mapped f g h (x ∷ xs) = λ i. h x i ∷ keys_mapped f g h xs i

themselves : {X : Type 0} (f : Address → X) (vs : List Address)
    → map (λ (e : Address × X). e.0) (map (λ v. (v, f v)) vs) ≡ vs
themselves f [] = refl
themselves f (v ∷ vs) = ap (λ us. v ∷ us) (themselves f vs)

module _ (setting : Setting) (costly : IsCostly (graph_of setting)) (lawful : AreLawful setting)
    (native : SupportsNativeKinds setting) (model : ModelValue) (valid : IsValid model)
    (bridging : FreshBridging setting model) where
  at_most_one : length (flat_map leaf_objectives
      (all_leaves setting costly lawful native model valid bridging)) ≤ 1
  at_most_one =
      by_objective setting costly lawful native model valid bridging
      (λ e k. omega (
        arith,
        ap length (none_here setting costly lawful native model valid
            bridging e),
      ))
      (λ b t e k. omega (
        arith,
        ap length (has_leaf setting costly lawful native model valid bridging b t e).alone,
      ))

  pub leaves_are : AreLeaves (model_leaves bridging.made)
  unfolding model_leaves
  leaves_are = record {
    forms = All-weaker IsLeaf (λ (i : Item). HasNativeForm i.body) native_form
        (all_leaves setting costly lawful native model valid bridging)
        (native_leaves setting costly lawful native model valid bridging);
    variables =
        is_distinct (keys_of (flat_map leaf_variables (model_leaves bridging.made)))
        (variables_distinct setting costly lawful model valid bridging);
    rows =
        is_distinct (keys_of (flat_map leaf_rows (model_leaves bridging.made)))
        (rows_distinct setting costly lawful model valid bridging);
    objective = at_most_one;
    names = leaves_name setting costly lawful native model valid bridging;
  }

  pub nodes_are : AreKeepable setting.families (map kept_of (model_nodes bridging.made))
  nodes_are =
      let here = nodes_here setting costly lawful native model valid bridging in
      record {
        own =
            All-map (λ n. list_any (family_eq (family_of n.edge)) setting.families ≡ true) kept_of
            (model_nodes bridging.made)
            (All-weaker (IsNode setting)
            (λ n. list_any (family_eq (family_of (edge_at n.0))) setting.families ≡ true)
            (λ n h. and_second
            (slice_index_or setting.table.on (family_number (family_of (edge_at n.0))) false)
            (list_any (family_eq (family_of (edge_at n.0))) setting.families) h.usable)
            (model_nodes bridging.made) here);
        suits =
            All-map (λ n. IsItemFor n.edge n.item) kept_of (model_nodes bridging.made)
            (All-weaker (IsNode setting) (λ n. IsItemFor (edge_at n.0) n.1) (λ n h. h.suits)
            (model_nodes bridging.made) here);
        apart =
            subst (IsDistinct address_eq)
            (keys_mapped (λ n. (n.1.at, n)) (λ n. ((kept_of n).item.at, kept_of n))
            (λ n. refl) (model_nodes bridging.made)
            ∙ sym (ap (map (λ e. e.0)) (map-map (λ n. (n.item.at, n)) kept_of
            (model_nodes bridging.made))))
            (each_apart setting costly lawful model valid bridging).nodes.keys;
      }

  pub exprs_apart : HasDistinctKeys address_cmp
      (map (λ v. (v, expressed (expression_of bridging v))) (variables_of_the_model model))
  exprs_apart =
      subst (IsDistinct address_eq)
      (sym (themselves (λ v. expressed (expression_of bridging v)) (variables_of_the_model model)))
      (is_distinct (variables_of_the_model model)
      (vars_distinct setting costly lawful model valid bridging))
