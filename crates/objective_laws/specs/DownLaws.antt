-- Below an item that is an objective, what the bridges keep leads to the one leaf objective.
use Rattle.std.specs.Prelude.{◌≡◌, ◌⊎◌, ℕ, true, List, [], ◌∷◌, ◌++◌, All, Contains, Some, None, flat_map, refl}
use Rattle.std.proofs.Common.{inl, inr, sym, ap, ap₂, subst, ◌∙◌}
use Rattle.std.proofs.lemmas.Grind.{flat_map-append}
use Rattle.std.proofs.lemmas.List.Elements.{All-head, All-nil, All-tail, Contains-append_left, Contains-append_right}
use Rattle.bridge_graph.specs.Hypergraph.{IsCostly}
use Rattle.bridge_graph.specs.declared.Choice.{Choice}
use Rattle.bridge_graph.specs.declared.Choice.TheVariants.{By}
use Rattle.expansion.specs.Bridged.{Bridged, EachBridgedIn, by, each_in, natively, none_in}
use Rattle.expansion.specs.Read.{leaves, leaves_in, leaves_of_each, nodes, nodes_in, nodes_of_each}
use Rattle.aff_core.specs.Address.{Address}
use Rattle.item_core.specs.declared.item.Body.{Body}
use Rattle.item_core.specs.declared.item.Item.{Item}
use Rattle.item_core.specs.Kind.{kind_number}
use Rattle.item_core.specs.KindOf.{kind_of_body}
use Rattle.bridge_face.specs.ImageOf.{image_of}
use Rattle.bridge_face.specs.Law.{is_objective, listed}
use Rattle.bridge_face.specs.BridgeState.{BridgeState}
use Rattle.bridge_plan.specs.AddsHeld.{kept_of}
use Rattle.bridge_set.specs.Bridges.{kept_first}
use Rattle.fresh_bridging.specs.CanLaws.{AreLawful}
use Rattle.fresh_bridging.specs.Entries.{Entry, put_in}
use Rattle.fresh_bridging.specs.Leaves.{leaf_objectives}
use Rattle.fresh_bridging.specs.TheRules.{AreChoices, Setting, edge_at, graph_of, rules_by}
use Rattle.map_laws.specs.EachLaws.{contains_here, contains_later}
use Rattle.address_laws.specs.ImageLaws.{child_objective, rows_alone}
use Rattle.address_laws.specs.PutLaws.{objective_stays}
use Rattle.tree_laws.specs.ObjectiveLaws.{CostsNothing, itself_one, none_at_all, none_below, none_below_each, none_below_in}
use Rattle.tree_laws.specs.SeenLaws.{IsRowHere, child_groups_here, child_rows_here}
use Rattle.objective_laws.specs.ObjectivePlace.{BridgesLeadTo, ends, on}

-- ---- the items of which one, at this address, is an objective

abbrev pub OneAt : Address → List Item → Type 0
OneAt at [] = ⊥
OneAt at (c ∷ cs) =
    ((c.at ≡ at) × (is_objective c.body ≡ true) × All CostsNothing cs)
    ⊎ (CostsNothing c × OneAt at cs)

pub last_at : (rows : List Item) (o : Item) → All CostsNothing rows → is_objective o.body ≡ true
    → OneAt o.at (rows ++ o ∷ [])
last_at [] o h k = inl (refl, k, All-nil CostsNothing)
last_at (r ∷ rows) o h k = inr (
  All-head CostsNothing r rows h,
  last_at rows o (All-tail CostsNothing r rows h) k,
)

-- ---- down a tree

-- one leaf objective, at the address to which the bridges lead
pub record LeadsToLeaf (states : List BridgeState) (at : Address) (items : List Item) : Type 0 where
  pub leaf : Address × Body
  pub alone : flat_map leaf_objectives items ≡ leaf ∷ []
  pub leads : BridgesLeadTo states at leaf.0

-- others that are no objectives stand before them
pub alone_behind : (xs ys : List Item) (leaf : Address × Body) → All CostsNothing xs
    → flat_map leaf_objectives ys ≡ leaf ∷ [] → flat_map leaf_objectives (xs ++ ys) ≡ leaf ∷ []
alone_behind xs ys leaf h alone =
    flat_map-append leaf_objectives xs ys ∙ ap₂ ◌++◌ (none_at_all xs h) alone

module _ (setting : Setting) (costly : IsCostly (graph_of setting)) (choice : ℕ → Choice)
    (chosen : AreChoices setting choice) (lawful : AreLawful setting) (states : List BridgeState) where
  abbrev RowThere : Item → Type 0
  RowThere c = IsRowHere setting costly choice chosen lawful c

  -- the bridges keep each node at its address, and nothing where an objective is a leaf
  abbrev pub Keep : List (ℕ × Item) → Type 0
  Keep ns = (n : ℕ × Item) → Contains ns n → kept_first states n.1.at ≡ Some (kept_of n)

  abbrev pub ObjectivesEnd : List Item → Type 0
  ObjectivesEnd is = (i : Item) → Contains is i → is_objective i.body ≡ true
      → kept_first states i.at ≡ None

  children_at : (item : Item) (is : IsRowHere setting costly choice chosen lawful item) (n : ℕ)
      (e : choice (kind_number (kind_of_body item.body)) ≡ By n)
      (o : is_objective item.body ≡ true)
      → OneAt (child_objective setting costly choice chosen lawful item is.here.can n e o).child.at
      ((image_of (edge_at n) item).rows ++ listed (image_of (edge_at n) item).objective)
  children_at item is n e o =
      let has = child_objective setting costly choice chosen lawful item is.here.can n e o in
      subst (λ x. OneAt has.child.at ((image_of (edge_at n) item).rows ++ listed x)) (sym has.is)
      (last_at (image_of (edge_at n) item).rows has.child
      (rows_alone setting costly choice chosen lawful item is.here.can n e) has.objective)

  mutual
    unfolding leaves nodes

    leads_down : {item : Item} {entries : List Entry}
        (tree : Bridged (rules_by choice) item entries) → RowThere item
        → is_objective item.body ≡ true → Keep (nodes tree) → ObjectivesEnd (leaves tree)
        → LeadsToLeaf states item.at (leaves tree)
    leads_down (natively {item} c) is o keep end = record {
      leaf = (item.at, item.body);
      alone = ap (λ l. l ++ []) (itself_one item o);
      leads = ends (end item (contains_here item []) o);
    }
    leads_down (by {item} {edge} {inner} c groups others) is o keep end =
        let has = child_objective setting costly choice chosen lawful item is.here.can edge c o in
        let below =
        leads_in has.child.at others
        (child_rows_here setting costly choice chosen lawful item is.here edge c inner groups)
        (children_at item is edge c o)
        (λ n h. keep n (contains_later (edge, item) n (nodes_of_each groups ++ nodes_in others)
        (Contains-append_right (nodes_of_each groups) (nodes_in others) n h)))
        (λ i h. end i (Contains-append_right (leaves_of_each groups) (leaves_in others) i h))
        in
        record {
          leaf = below.leaf;
          alone = alone_behind (leaves_of_each groups) (leaves_in others) below.leaf
              (none_below_each setting costly choice chosen lawful groups
              (child_groups_here setting costly choice chosen lawful item is.here edge c))
              below.alone;
          leads = on (kept_of (edge, item)) has.child
              (keep (edge, item) (contains_here (edge, item) (nodes_of_each groups ++ nodes_in others)))
              has.is below.leads;
        }

    pub leads_in : (at : Address) {inner : List Entry} {items : List Item}
        (trees : EachBridgedIn (rules_by choice) inner items)
        → All (λ c. RowThere (put_in inner c)) items → OneAt at items → Keep (nodes_in trees)
        → ObjectivesEnd (leaves_in trees) → LeadsToLeaf states at (leaves_in trees)
    leads_in at none_in all h keep end = absurd h
    leads_in at (each_in {inner} {item} {items} first rest) all (inl h) keep end =
        let one =
        leads_down first (All-head (λ c. RowThere (put_in inner c)) item items all)
        (objective_stays inner item.body ∙ h.1)
        (λ n c. keep n (Contains-append_left (nodes first) (nodes_in rest) n c))
        (λ i c. end i (Contains-append_left (leaves first) (leaves_in rest) i c))
        in
        record {
          leaf = one.leaf;
          alone = flat_map-append leaf_objectives (leaves first) (leaves_in rest)
              ∙ ap₂ ◌++◌ one.alone (none_at_all (leaves_in rest)
              (none_below_in setting costly choice chosen lawful rest
              (All-tail (λ c. RowThere (put_in inner c)) item items all) h.2));
          leads = subst (λ a. BridgesLeadTo states a one.leaf.0) h.0 one.leads;
        }
    leads_in at (each_in {inner} {item} {items} first rest) all (inr h) keep end =
        let one =
        leads_in at rest (All-tail (λ c. RowThere (put_in inner c)) item items all) h.1
        (λ n c. keep n (Contains-append_right (nodes first) (nodes_in rest) n c))
        (λ i c. end i (Contains-append_right (leaves first) (leaves_in rest) i c))
        in
        record {
          leaf = one.leaf;
          alone = alone_behind (leaves first) (leaves_in rest) one.leaf
              (none_below setting costly choice chosen lawful first
              (All-head (λ c. RowThere (put_in inner c)) item items all).here
              (objective_stays inner item.body ∙ h.0))
              one.alone;
          leads = one.leads;
        }
