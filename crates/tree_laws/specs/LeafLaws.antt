-- The parts of a bridging: its nodes, for their edges, and its leaves, native and with their duals,
-- by kind: what is right for the leaf model holds of them.
use Rattle.std.specs.Prelude.{◌≡◌, ◌||◌, ℕ, Bool, true, false, cond, List, [], ◌∷◌, ◌++◌, All, flat_map, length, map, refl}
use Rattle.std.proofs.Common.{arith, sym, ap, ap₂, subst, ◌∙◌, true≢false}
use Rattle.std.proofs.lemmas.List.{length-map}
use Rattle.std.proofs.lemmas.List.Elements.{All-append, All-cons, All-head, All-map, All-nil, All-tail, All-weaker}
use Rattle.bridge_graph.specs.Hypergraph.{IsCostly, IsSupported}
use Rattle.bridge_graph.specs.declared.Choice.{Choice}
use Rattle.bridge_graph.specs.declared.Choice.TheVariants.{By, Native}
use Rattle.expansion.specs.Bridged.{Bridged, EachBridged, EachBridgedIn, by, each, each_in, natively, none, none_in}
use Rattle.expansion.specs.Read.{leaves, leaves_in, leaves_of_each, nodes, nodes_in, nodes_of_each}
use Rattle.ratio_core.specs.Rational.{Rational, zero_ℚ, ◌*ℚ◌, ◌+ℚ◌, ◌-ℚ◌, ◌≤ℚ◌}
use Rattle.rational_laws.specs.Dot.{dot}
use Rattle.rational_laws.specs.DotLaws.{dot_zeros}
use Rattle.rational_laws.specs.Field.{+ℚ-*ℚ, +ℚ-zero, -ℚ-itself, zero-*ℚ, zero-+ℚ}
use Rattle.rational_laws.specs.Ring.{as_expression, by_ring, ring₆}
use Rattle.rational_laws.specs.Sums.{sum_by_ℚ, sum_by_ℚ-append}
use Rattle.set_core.specs.Membership.{Dual}
use Rattle.set_core.specs.Shapes.{IsSetOf}
use Rattle.set_core.specs.declared.set.Set.TheVariants as set
use Rattle.aff_core.specs.Address.{Address, address_cmp}
use Rattle.aff_core.specs.Function.{variable}
use Rattle.aff_core.specs.FunctionLists.{constants}
use Rattle.linear_laws.specs.SupportLaws.{count}
use Rattle.aff_core.specs.Points.{unit}
use Rattle.aff_core.specs.FunctionLaws.{constant-variable}
use Rattle.dual_laws.specs.Held.{DualsHold, DualRow, IsHeld, HasDuals, adjoint_of, gap_of}
use Rattle.equality_form.specs.Right.{MayCost, held}
use Rattle.item_core.specs.declared.item.Body.{Body}
use Rattle.item_core.specs.declared.item.Body.TheVariants.{Group, Free, Plain, Affine, PlainVec, AffineVec, PlainObj, AffineObj}
use Rattle.item_core.specs.declared.item.Item.{Item}
use Rattle.item_core.specs.declared.kind.Kind.{Kind}
use Rattle.item_core.specs.declared.kind.Kind.TheVariants as kinds
use Rattle.item_core.specs.Edge.{family_of}
use Rattle.item_core.specs.Item.{functions_of, is_group, set_of, variables_of}
use Rattle.item_core.specs.Kind.{is_native, kind_eq, kind_number}
use Rattle.item_core.specs.KindOf.{kind_of_body}
use Rattle.item_core.specs.Valid.{IsValidItem}
use Rattle.bridge_face.specs.Law.{IsItemFor, held_body}
use Rattle.fresh_bridging.specs.CanLaws.{AreLawful, Can, down, same_entry}
use Rattle.map_laws.specs.EachLaws.{all_from_map, all_first, all_second}
use Rattle.fresh_bridging.specs.Entries.{Entry, put_in}
use Rattle.fresh_bridging.specs.Leaves.{leaf_objectives, leaf_rows, leaf_variable, leaf_variables}
use Rattle.fresh_bridging.specs.TheRules.{AreChoices, IsChoice, Setting, edge_at, graph_of, is_usable, rules_by}
use Rattle.solver_store.specs.declared.leaf.LeafVar.{LeafVar}
use Rattle.solver_store.specs.declared.leaf.LeafVar.TheVariants as leaf
use Rattle.address_laws.specs.KeyLaws.{IsHere}
use Rattle.address_laws.specs.Keys.{own}
use Rattle.tree_laws.specs.Carried.{LeafAnswerDuals, leaf_held, leaf_helds, row_dual}
use Rattle.tree_laws.specs.LevelLaws.{weighed_group}
use Rattle.tree_laws.specs.SeenLaws.{IsGroupHere, IsRowHere, child_groups_here, child_rows_here, own_none_is}
use Rattle.tree_laws.specs.ObjectiveLaws.{by_case}

-- ---- native kinds alone are supported

-- a native kind, or free variables, which a solver takes where it takes a group of them
abbrev pub is_leaf_kind : Kind → Bool
is_leaf_kind kind = is_native kind || kind_eq kind kinds.Free

abbrev pub SupportsNativeKinds : Setting → Type 0
SupportsNativeKinds setting =
    (kind : Kind) → IsSupported (graph_of setting) (kind_number kind) → is_leaf_kind kind ≡ true

-- a native group is of free variables or of ones that are at least 0
pub data IsNativeGroup : Body → Type 0 where
  reals : {n : ℕ} {vars : List Address} → IsNativeGroup (Group (set.Reals n) vars)
  nonnegatives : {n : ℕ} {vars : List Address} → IsNativeGroup (Group (set.Nonnegatives n) vars)
  free : {vars : List Address} → IsNativeGroup (Free vars)

native_group : (b : Body) → is_group b ≡ true → is_leaf_kind (kind_of_body b) ≡ true
    → IsNativeGroup b
unfolding kind_of_body is_native
native_group (Group (set.Reals n) vars) h k = reals
native_group (Group (set.Nonnegatives n) vars) h k = nonnegatives
native_group (Group _ vars) h k = absurd (true≢false (sym k))
native_group (Free vars) h k = free
native_group _ h k = absurd (true≢false (sym h))

-- ---- the leaves and the nodes of a bridging

-- a native item that is valid
pub record IsLeaf (leaf : Item) : Type 0 where
  pub valid : IsValidItem leaf
  pub native : is_leaf_kind (kind_of_body leaf.body) ≡ true
  pub group : is_group leaf.body ≡ true → IsNativeGroup leaf.body

-- an item for the edge, whose family may be used
pub record IsNode (setting : Setting) (node : ℕ × Item) : Type 0 where
  pub suits : IsItemFor (edge_at node.0) node.1
  pub usable : is_usable setting (family_of (edge_at node.0)) ≡ true

pub record AreLeavesAndNodes (setting : Setting) (ls : List Item) (ns : List (ℕ × Item)) : Type 0 where
  pub are_leaves : All IsLeaf ls
  pub are_nodes : All (IsNode setting) ns

no_parts : (setting : Setting) → AreLeavesAndNodes setting [] []
no_parts setting = record { are_leaves = All-nil IsLeaf; are_nodes = All-nil (IsNode setting) }

pub both_parts : {setting : Setting} {ls ms : List Item} {ns os : List (ℕ × Item)}
    → AreLeavesAndNodes setting ls ns → AreLeavesAndNodes setting ms os
    → AreLeavesAndNodes setting (ls ++ ms) (ns ++ os)
both_parts {setting} {ls} {ms} {ns} {os} h k = record {
  are_leaves = All-append IsLeaf ls ms h.are_leaves k.are_leaves;
  are_nodes = All-append (IsNode setting) ns os h.are_nodes k.are_nodes;
}

module _ (setting : Setting) (costly : IsCostly (graph_of setting)) (choice : ℕ → Choice)
    (chosen : AreChoices setting choice) (lawful : AreLawful setting)
    (native : SupportsNativeKinds setting) where
  native_leaf : (item : Item) → (rules_by choice).choice item ≡ Native
      → IsHere setting costly choice chosen lawful item → IsLeaf item
  native_leaf item c here = record {
    valid = here.can.valid;
    native = its;
    group = λ g. native_group item.body g its;
  }
    where
      its : is_leaf_kind (kind_of_body item.body) ≡ true
      its =
          native (kind_of_body item.body)
          (subst (IsChoice (graph_of setting) (kind_number (kind_of_body item.body))) c
          (chosen (kind_number (kind_of_body item.body))))

  is_node : (item : Item) → Can setting costly choice chosen item → (n : ℕ)
      → choice (kind_number (kind_of_body item.body)) ≡ By n → IsNode setting (n, item)
  is_node item can n e =
      let leads = down setting costly choice chosen lawful item can n e in
      let same = same_entry setting costly choice chosen lawful item can n e in
      record {
        suits = record {
          valid = can.valid;
          kind = leads.source ∙ ap (λ x. x.source) (sym same);
        };
        usable = ap (λ x. is_usable setting x.family) same ∙ leads.family;
      }

  mutual
    unfolding leaves nodes

    pub are_parts : {item : Item} {entries : List Entry}
        (tree : Bridged (rules_by choice) item entries)
        → IsHere setting costly choice chosen lawful item
        → AreLeavesAndNodes setting (leaves tree) (nodes tree)
    are_parts (natively {item} c) here = record {
      are_leaves = All-cons IsLeaf item [] (native_leaf item c here) (All-nil IsLeaf);
      are_nodes = All-nil (IsNode setting);
    }
    are_parts (by {item} {edge} {inner} c groups others) here =
        let below = both_parts
        (each_are_parts groups
        (child_groups_here setting costly choice chosen lawful item here edge c))
        (others_are_parts others
        (child_rows_here setting costly choice chosen lawful item here edge c inner groups)) in
        record {
          are_leaves = below.are_leaves;
          are_nodes =
              All-cons (IsNode setting) (edge, item) (nodes_of_each groups ++ nodes_in others)
              (is_node item here.can edge c) below.are_nodes;
        }

    pub each_are_parts : {items : List Item} {entries : List Entry}
        (trees : EachBridged (rules_by choice) items entries)
        → All (IsGroupHere setting costly choice chosen lawful) items
        → AreLeavesAndNodes setting (leaves_of_each trees) (nodes_of_each trees)
    each_are_parts none all = no_parts setting
    each_are_parts (each {item} {items} first rest) all =
        both_parts
        (are_parts first
        (All-head (IsGroupHere setting costly choice chosen lawful) item items all).here)
        (each_are_parts rest
        (All-tail (IsGroupHere setting costly choice chosen lawful) item items all))

    pub others_are_parts : {inner : List Entry} {items : List Item}
        (trees : EachBridgedIn (rules_by choice) inner items)
        → All (λ c. IsRowHere setting costly choice chosen lawful (put_in inner c)) items
        → AreLeavesAndNodes setting (leaves_in trees) (nodes_in trees)
    others_are_parts none_in all = no_parts setting
    others_are_parts (each_in {inner} {item} {items} first rest) all =
        both_parts
        (are_parts first
        (All-head (λ c. IsRowHere setting costly choice chosen lawful (put_in inner c)) item items
        all).here)
        (others_are_parts rest
        (All-tail (λ c. IsRowHere setting costly choice chosen lawful (put_in inner c)) item items
        all))

-- ---- by kind

regrouped : (g r o s t u : Rational)
    → (g +ℚ (r +ℚ o)) +ℚ (s +ℚ (t +ℚ u)) ≡ (g +ℚ s) +ℚ ((r +ℚ t) +ℚ (o +ℚ u))
regrouped = ring₆ _ (λ ρ. simp as_expression (by_ring ρ _ _ refl))

first_alone : (q : Rational) → q ≡ q +ℚ (zero_ℚ +ℚ zero_ℚ)
first_alone q = sym (ap (λ p. q +ℚ p) (+ℚ-zero zero_ℚ) ∙ +ℚ-zero q)

second_alone : (q : Rational) → q ≡ zero_ℚ +ℚ ((q +ℚ zero_ℚ) +ℚ zero_ℚ)
second_alone q =
    sym (zero-+ℚ ((q +ℚ zero_ℚ) +ℚ zero_ℚ) ∙ +ℚ-zero (q +ℚ zero_ℚ) ∙ +ℚ-zero q)

third_alone : (q : Rational) → q ≡ zero_ℚ +ℚ (zero_ℚ +ℚ (q +ℚ zero_ℚ))
third_alone q =
    sym (zero-+ℚ (zero_ℚ +ℚ (q +ℚ zero_ℚ)) ∙ zero-+ℚ (q +ℚ zero_ℚ) ∙ +ℚ-zero q)

module _ (d : LeafAnswerDuals) where
  abbrev pub objective_held : Address × Body → DualRow
  objective_held e = held_body d.bound e.1 d.objective

  module _ (F : DualRow → Rational) where
    abbrev pub group_part : Item → Rational
    group_part i = cond (is_group i.body) (F (leaf_held d i)) zero_ℚ

    abbrev pub rows_part : Item → Rational
    rows_part i = sum_by_ℚ (λ e. F (held d.duals e)) (leaf_rows i)

    abbrev pub objectives_part : Item → Rational
    objectives_part i = sum_by_ℚ (λ e. F (objective_held e)) (leaf_objectives i)

    one_parted : (i : Item)
        → F (leaf_held d i) ≡ group_part i +ℚ (rows_part i +ℚ objectives_part i)
    one_parted i = by i.body
      where
        by : (b : Body)
            → F (leaf_held d (record { at = i.at; body = b }))
            ≡ group_part (record { at = i.at; body = b })
            +ℚ (rows_part (record { at = i.at; body = b })
            +ℚ objectives_part (record { at = i.at; body = b }))
        by (Group s vars) = first_alone (F (leaf_held d (record
            { at = i.at; body = Group s vars })))
        by (Free vars) = first_alone (F (leaf_held d (record { at = i.at; body = Free vars })))
        by (Plain var s) = second_alone (F (held d.duals (i.at, Plain var s)))
        by (Affine func s) = second_alone (F (held d.duals (i.at, Affine func s)))
        by (PlainVec vars s) = second_alone (F (held d.duals (i.at, PlainVec vars s)))
        by (AffineVec funcs s) = second_alone (F (held d.duals (i.at, AffineVec funcs s)))
        by (PlainObj sense var) = third_alone (F (objective_held (i.at, PlainObj sense var)))
        by (AffineObj sense func) = third_alone (F (objective_held (i.at, AffineObj sense func)))

    -- a sum over the leaves is one over groups, rows and objectives
    pub parted : (items : List Item)
        → sum_by_ℚ F (leaf_helds d items)
        ≡ sum_by_ℚ group_part items
        +ℚ (sum_by_ℚ (λ e. F (held d.duals e)) (flat_map leaf_rows items)
        +ℚ sum_by_ℚ (λ e. F (objective_held e)) (flat_map leaf_objectives items))
    parted [] = first_alone zero_ℚ
    parted (i ∷ items) =
        ap₂ ◌+ℚ◌ (one_parted i) (parted items)
        ∙ regrouped (group_part i) (rows_part i) (objectives_part i) (sum_by_ℚ group_part items)
        (sum_by_ℚ (λ e. F (held d.duals e)) (flat_map leaf_rows items))
        (sum_by_ℚ (λ e. F (objective_held e)) (flat_map leaf_objectives items))
        ∙ ap₂ (λ a b. (group_part i +ℚ sum_by_ℚ group_part items) +ℚ (a +ℚ b))
        (sym (sum_by_ℚ-append (λ e. F (held d.duals e)) (leaf_rows i) (flat_map leaf_rows items)))
        (sym (sum_by_ℚ-append (λ e. F (objective_held e)) (leaf_objectives i)
        (flat_map leaf_objectives items)))

  -- ---- groups

  group_weighs : (v : Address) (i : Item)
      → group_part (λ h. adjoint_of h v) i ≡ count (own i) v *ℚ d.numbers v
  group_weighs v i = by_case (is_group i.body) refl there elsewhere
    where
      there : is_group i.body ≡ true
          → group_part (λ h. adjoint_of h v) i ≡ count (own i) v *ℚ d.numbers v
      there g =
          ap (λ b. cond b (adjoint_of (leaf_held d i) v) zero_ℚ) g
          ∙ ap (λ h. adjoint_of h v) (ap (λ b. held_body d.bound i.body
          (cond b (map d.numbers (variables_of i.body)) (row_dual d i))) g)
          ∙ weighed_group d.bound d.numbers i v g
          ∙ ap (λ l. count l v *ℚ d.numbers v)
          (sym (ap (λ b. cond b (variables_of i.body) []) g))

      elsewhere : is_group i.body ≡ false
          → group_part (λ h. adjoint_of h v) i ≡ count (own i) v *ℚ d.numbers v
      elsewhere g =
          ap (λ b. cond b (adjoint_of (leaf_held d i) v) zero_ℚ) g
          ∙ sym (ap (λ l. count l v *ℚ d.numbers v) (own_none_is i g) ∙ zero-*ℚ (d.numbers v))

  pub groups_part_weighs : (v : Address) (items : List Item)
      → sum_by_ℚ (group_part (λ h. adjoint_of h v)) items
      ≡ count (flat_map own items) v *ℚ d.numbers v
  groups_part_weighs v [] = sym (zero-*ℚ (d.numbers v))
  groups_part_weighs v (i ∷ items) =
      ap₂ ◌+ℚ◌ (group_weighs v i) (groups_part_weighs v items)
      ∙ sym (+ℚ-*ℚ (count (own i) v) (count (flat_map own items) v) (d.numbers v))
      ∙ ap (λ q. q *ℚ d.numbers v)
      (sym (sum_by_ℚ-append (λ u. unit u v) (own i) (flat_map own items)))

  no_constants : (w : List Rational) (vars : List Address)
      → dot w (constants (map (variable {R = address_cmp}) vars)) ≡ zero_ℚ
  no_constants w vars = dot_zeros w (constants (map (variable {R = address_cmp}) vars)) (each vars)
    where
      each : (vs : List Address)
          → All (λ q. q ≡ zero_ℚ) (constants (map (variable {R = address_cmp}) vs))
      each [] = All-nil (λ q. q ≡ zero_ℚ)
      each (v ∷ vs) =
          All-cons (λ q. q ≡ zero_ℚ) (variable {R = address_cmp} v).constant
          (constants (map (variable {R = address_cmp}) vs)) (constant-variable address_cmp v)
          (each vs)

  native_gap : (at : Address) (b : Body) → IsNativeGroup b
      → gap_of (leaf_held d (record { at = at; body = b })) ≡ zero_ℚ
  native_gap at b (reals {n} {vars}) =
      ap (λ q. zero_ℚ -ℚ q) (no_constants (map d.numbers vars) vars) ∙ -ℚ-itself zero_ℚ
  native_gap at b (nonnegatives {n} {vars}) =
      ap (λ q. zero_ℚ -ℚ q) (no_constants (map d.numbers vars) vars) ∙ -ℚ-itself zero_ℚ
  native_gap at b (free {vars}) =
      ap (λ q. zero_ℚ -ℚ q) (no_constants (map d.numbers vars) vars) ∙ -ℚ-itself zero_ℚ

  pub groups_part_gap : (items : List Item) → All IsLeaf items
      → sum_by_ℚ (group_part gap_of) items ≡ zero_ℚ
  groups_part_gap [] h = refl
  groups_part_gap (i ∷ items) h =
      ap₂ ◌+ℚ◌ (by_case (is_group i.body) refl
      (λ g. ap (λ b. cond b (gap_of (leaf_held d i)) zero_ℚ) g
      ∙ native_gap i.at i.body ((All-head IsLeaf i items h).group g))
      (λ g. ap (λ b. cond b (gap_of (leaf_held d i)) zero_ℚ) g))
      (groups_part_gap items (All-tail IsLeaf i items h))
      ∙ +ℚ-zero zero_ℚ

  -- ---- duals that hold

  abbrev pub MayBe : Address × LeafVar → Type 0
  MayBe var = MayCost var.1 (d.numbers var.0)

  abbrev pub RowHasDuals : Address × Body → Type 0
  RowHasDuals e = HasDuals (held d.duals e)

  -- what is asked of the leaves
  pub record AreLeavesRight (items : List Item) : Type 0 where
    pub leaves : All IsLeaf items
    pub variables : All MayBe (flat_map leaf_variables items)
    pub rows : All RowHasDuals (flat_map leaf_rows items)
    pub size : length d.objective ≡ 1
    pub dual : Dual (set.LessThan d.bound) d.objective

  zero_numbers : (vars : List Address) (var : LeafVar)
      → ((v : Address) → MayCost var (d.numbers v) → d.numbers v ≡ zero_ℚ)
      → All MayBe (map (λ v. (v, var)) vars) → All (λ q. q ≡ zero_ℚ) (map d.numbers vars)
  zero_numbers vars var say h =
      All-map (λ q. q ≡ zero_ℚ) d.numbers vars
      (All-weaker (λ v. MayBe (v, var)) (λ v. d.numbers v ≡ zero_ℚ) (λ v k. say v k) vars
      (all_from_map MayBe (λ v. (v, var)) vars h))

  nonneg_numbers : (vars : List Address) (var : LeafVar)
      → ((v : Address) → MayCost var (d.numbers v) → zero_ℚ ≤ℚ d.numbers v)
      → All MayBe (map (λ v. (v, var)) vars) → All (λ q. zero_ℚ ≤ℚ q) (map d.numbers vars)
  nonneg_numbers vars var say h =
      All-map (λ q. zero_ℚ ≤ℚ q) d.numbers vars
      (All-weaker (λ v. MayBe (v, var)) (λ v. zero_ℚ ≤ℚ d.numbers v) (λ v k. say v k) vars
      (all_from_map MayBe (λ v. (v, var)) vars h))

  native_dual : (at : Address) (b : Body) → IsNativeGroup b
      → All MayBe (leaf_variables (record { at = at; body = b }))
      → Dual (set_of b) (map d.numbers (variables_of b))
  native_dual at b (reals {n} {vars}) h =
      zero_numbers vars (leaf_variable (set.Reals n)) (λ v k. k) h
  native_dual at b (nonnegatives {n} {vars}) h =
      nonneg_numbers vars (leaf_variable (set.Nonnegatives n)) (λ v k. k) h
  native_dual at b (free {vars}) h = zero_numbers vars leaf.Free (λ v k. k) h

  leaf_size : (b : Body) → is_group b ≡ true
      → length (map d.numbers (variables_of b)) ≡ length (functions_of b)
  leaf_size (Group s vars) h =
      length-map vars d.numbers ∙ sym (length-map vars (variable {R = address_cmp}))
  leaf_size (Free vars) h =
      length-map vars d.numbers ∙ sym (length-map vars (variable {R = address_cmp}))
  leaf_size _ h = absurd (true≢false (sym h))

  one_bounded : (bound : Rational) → IsSetOf 1 (set.LessThan bound)
  one_bounded bound = record { dimension = refl; enough = omega arith; uncrossed = refl }

  one_holds : (i : Item) → IsLeaf i → All MayBe (leaf_variables i) → All RowHasDuals (leaf_rows i)
      → length d.objective ≡ 1 → Dual (set.LessThan d.bound) d.objective
      → IsHeld (leaf_held d i)
  one_holds i = by i.body
    where
      by : (b : Body) → IsLeaf (record { at = i.at; body = b })
          → All MayBe (leaf_variables (record { at = i.at; body = b }))
          → All RowHasDuals (leaf_rows (record { at = i.at; body = b }))
          → length d.objective ≡ 1 → Dual (set.LessThan d.bound) d.objective
          → IsHeld (leaf_held d (record { at = i.at; body = b }))
      by (Group s vars) l v r size dual = record {
        set = l.valid.set;
        size = leaf_size (Group s vars) refl;
        dual = native_dual i.at (Group s vars) (l.group refl) v;
      }
      by (Free vars) l v r size dual = record {
        set = l.valid.set;
        size = leaf_size (Free vars) refl;
        dual = native_dual i.at (Free vars) (l.group refl) v;
      }
      by (PlainObj sense var) l v r size dual =
          record { set = one_bounded d.bound; size = size; dual = dual }
      by (AffineObj sense func) l v r size dual =
          record { set = one_bounded d.bound; size = size; dual = dual }
      by row l v r size dual =
          let h = All-head RowHasDuals (i.at, row) [] r in
          record { set = l.valid.set; size = h.size; dual = h.dual }

  pub leaves_hold : (items : List Item) → AreLeavesRight items → DualsHold (leaf_helds d items)
  leaves_hold items h = each items h.leaves h.variables h.rows
    where
      each : (xs : List Item) → All IsLeaf xs → All MayBe (flat_map leaf_variables xs)
          → All RowHasDuals (flat_map leaf_rows xs) → DualsHold (leaf_helds d xs)
      each [] l v r = All-nil IsHeld
      each (x ∷ xs) l v r =
          All-cons IsHeld (leaf_held d x) (leaf_helds d xs)
          (one_holds x (All-head IsLeaf x xs l)
          (all_first MayBe (leaf_variables x) (flat_map leaf_variables xs) v)
          (all_first RowHasDuals (leaf_rows x) (flat_map leaf_rows xs) r) h.size h.dual)
          (each xs (All-tail IsLeaf x xs l)
          (all_second MayBe (leaf_variables x) (flat_map leaf_variables xs) v)
          (all_second RowHasDuals (leaf_rows x) (flat_map leaf_rows xs) r))
