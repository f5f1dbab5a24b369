-- The dual that is carried back to an objective is the leaf objective's.
use Rattle.std.specs.Prelude.{◌≡◌, ℕ, true, cond, List, [], ◌∷◌, ◌++◌, Option, Some, None, drop, length, take}
use Rattle.std.proofs.Common.{ap, ◌∙◌}
use Rattle.bridge_graph.specs.Hypergraph.{IsCostly}
use Rattle.bridge_graph.specs.declared.Choice.{Choice}
use Rattle.bridge_graph.specs.declared.Choice.TheVariants.{By}
use Rattle.expansion.specs.Bridged.{Bridged, EachBridged, EachBridgedIn, by, each_in, natively}
use Rattle.item_core.specs.declared.item.Item.{Item}
use Rattle.item_core.specs.Kind.{kind_number}
use Rattle.item_core.specs.KindOf.{kind_of_body}
use Rattle.bridge_face.specs.BackOf.{back_of, first_of}
use Rattle.bridge_face.specs.ImageOf.{image_of, inner}
use Rattle.bridge_face.specs.Law.{is_objective, listed}
use Rattle.fresh_bridging.specs.CanLaws.{AreLawful}
use Rattle.fresh_bridging.specs.Entries.{Entry}
use Rattle.fresh_bridging.specs.TheRules.{AreChoices, Setting, edge_at, graph_of, rules_by}
use Rattle.address_laws.specs.PutLaws.{objective_stays}
use Rattle.tree_laws.specs.Carried.{LeafAnswerDuals, back, backs}
use Rattle.tree_laws.specs.SeenLaws.{IsRowHere, groups_at, others_at}
use Rattle.address_laws.specs.ImageLaws.{HasObjective, child_objective}

module _ (setting : Setting) (costly : IsCostly (graph_of setting)) (choice : ℕ → Choice)
    (chosen : AreChoices setting choice) (lawful : AreLawful setting) where
  module _ (d : LeafAnswerDuals) where
    objective_back : {item : Item} {entries : List Entry}
        (tree : Bridged (rules_by choice) item entries) → is_objective item.body ≡ true
        → back d tree ≡ d.objective
    unfolding back
    objective_back (natively {item} c) h = ap (λ b. cond b d.objective (d.duals item.at)) h
    objective_back (by {item} {edge} c groups others) h =
        ap (λ b. cond b d.objective
        (back_of (edge_at edge) item
        (take (length (image_of (edge_at edge) item).rows) (backs d others)))) h

    pub last_of_rows : {inner : List Entry} (rows : List Item) (o : Item)
        (trees : EachBridgedIn (rules_by choice) inner (rows ++ o ∷ []))
        → is_objective o.body ≡ true
        → first_of (drop (length rows) (backs d trees)) ≡ d.objective
    unfolding back
    last_of_rows {inner} [] o (each_in first rest) h =
        objective_back first (objective_stays inner o.body ∙ h)
    last_of_rows (r ∷ rows) o (each_in first rest) h = last_of_rows rows o rest h

    pub last_back : (item : Item) (is : IsRowHere setting costly choice chosen lawful item) (n : ℕ)
        (e : choice (kind_number (kind_of_body item.body)) ≡ By n) (inner : List Entry)
        (gs : EachBridged (rules_by choice)
        (groups_at setting costly choice chosen lawful item is.here n e) inner)
        (os : EachBridgedIn (rules_by choice) inner
        (others_at setting costly choice chosen lawful item is.here n e))
        → is_objective item.body ≡ true
        → first_of (drop (length (image_of (edge_at n) item).rows) (backs d os)) ≡ d.objective
    last_back item is n e inner gs os h =
        moved (image_of (edge_at n) item).objective (child_objective setting costly choice chosen
        lawful item is.here.can n e h) os
      where
        moved : (o : Option Item) → HasObjective o
            → (trees : EachBridgedIn (rules_by choice) inner
            ((image_of (edge_at n) item).rows ++ listed o))
            → first_of (drop (length (image_of (edge_at n) item).rows) (backs d trees))
            ≡ d.objective
        moved None has trees = absurd (none_some has.is)
          where
            none_some : {c : Item} → None ≡ Some c → ⊥
            none_some k = cc
        moved (Some c) has trees =
            last_of_rows (image_of (edge_at n) item).rows c trees
            (ap (λ x. is_objective x.body) (inside has.is) ∙ has.objective)
          where
            inside : {a b : Item} → Some a ≡ Some b → a ≡ b
            inside k = cc
