-- An item planned natively, or by its edge.
use Rattle.std.specs.Prelude.{◌≡◌, ℕ, ◌-◌, true, IsTrue, List, [], ◌∷◌, ◌++◌, Result}
use Rattle.std.proofs.Common.{ap, sym, subst, ◌∙◌}
use Rattle.std.proofs.lemmas.List.{append-nil}
use Rattle.ratio_core.specs.declared.fault.NumberFault.{NumberFault}
use Rattle.ratio_core.specs.Answers.{ExactWhere}
use Rattle.bridge_graph.specs.declared.Choice.{Choice}
use Rattle.bridge_graph.specs.declared.Choice.TheVariants.{By, Native}
use Rattle.expansion.specs.Grown.{Held}
use Rattle.item_core.specs.declared.item.Item.{Item}
use Rattle.item_core.specs.Kind.{kind_number}
use Rattle.item_core.specs.KindOf.{kind_of_body}
use Rattle.fresh_bridging.specs.Entries.{Entry}
use Rattle.fresh_bridging.specs.TheRules.{own_entries}
use Rattle.bridge_plan.specs.AddsHeld.{AddsHeld}
use Rattle.bridge_plan.specs.Worked.{IsItemWithinLevels, worked, worked_node}
use Rattle.bridge_plan.specs.declared.plan.Plan.{Plan}
use Rattle.bridge_plan.proofs.Opened.{worked_natively, worked_opened}

module _ (choice : ℕ → Choice) (n : ℕ) (item : Item) (within : IsItemWithinLevels choice n item)
    (plan after : Plan) (es fs : List Entry) where
  abbrev Planned : Held Item Entry → Type 0
  Planned h = IsTrue h.fits × AddsHeld plan after es fs h

  pub planned_natively : choice (kind_number (kind_of_body item.body)) ≡ Native
      → after.leaves.items ≡ plan.leaves.items ++ item ∷ [] → after.nodes ≡ plan.nodes
      → fs ≡ es ++ own_entries item → Planned (worked choice n item)
  planned_natively native leaves nodes entries =
      subst Planned (sym (worked_natively choice item n within native)) (
        (λ i. true),
        record {
          leaves = leaves;
          nodes = ap (λ v. v.items) nodes ∙ sym (append-nil plan.nodes.items);
          entries = entries;
        },
      )

  pub planned_by : {T : Type 0} (edge : ℕ) → choice (kind_number (kind_of_body item.body)) ≡ By edge
      → (answer : Result T NumberFault)
      → ExactWhere answer (IsTrue (worked_node choice (worked choice (n - 1)) edge item).fits)
      (λ _. AddsHeld plan after es fs (worked_node choice (worked choice (n - 1)) edge item))
      → ExactWhere answer (IsTrue (worked choice n item).fits)
      (λ _. AddsHeld plan after es fs (worked choice n item))
  planned_by edge by answer said =
      subst (λ (h : Held Item Entry). ExactWhere answer (IsTrue h.fits)
      (λ _. AddsHeld plan after es fs h)) (sym (worked_opened choice item n edge within by)) said
