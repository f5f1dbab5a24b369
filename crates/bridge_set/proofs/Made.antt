-- Bridges are sound once they are made, and stay so while their families stay.
use Rattle.std.specs.Prelude.{◌≡◌, ◌⊎◌, ◌<◌, ◌≤◌, ℕ, true, false, List, ◌++◌, All, IsTrue, drop, length, take, slice_index_or}
use Rattle.std.specs.List.{list_all, list_any}
use Rattle.std.proofs.Common.{arith, inl, inr, sym, ap, subst, ◌∙◌}
use Rattle.std.proofs.lemmas.List.{append-nil, drop_all, get_or_past, take_all}
use Rattle.std.proofs.lemmas.Bool.{cases_lt}
use Rattle.bridge_graph.specs.Hypergraph.{Hypergraph, IsCostly, is_edge_cost}
use Rattle.bridge_graph.specs.declared.Choice.{Choice}
use Rattle.bridge_graph.specs.declared.Choice.TheVariants.{By, Missing}
use Rattle.item_core.specs.declared.family.Family.{Family}
use Rattle.item_core.specs.declared.kind.Kind.{Kind}
use Rattle.item_core.specs.declared.table.Table.{Table}
use Rattle.item_core.specs.Edge.{edge_entry, family_eq, family_of}
use Rattle.item_core.specs.Kind.{kind_count, kind_number}
use Rattle.bridge_face.specs.Law.{IsLawful}
use Rattle.bridge_face.specs.BridgeState.{BridgeState}
use Rattle.bridge_plan.specs.Means.{AreSound}
use Rattle.fresh_bridging.specs.CanLaws.{AreLawful}
use Rattle.fresh_bridging.specs.RankingLaws.{leads_down}
use Rattle.fresh_bridging.specs.TableLaws.{and_second}
use Rattle.fresh_bridging.specs.TheRules.{AreChoices, IsChoice, Setting, edge_at, family_number, graph_of}
use Rattle.bridge_set.specs.Bridges.{Bridges, bridges_of, choice_in, families_of, kept_by, means_of, occur_once, setting_by, setting_of}
use Rattle.bridge_set.specs.Sound.{IsBridgeSetSound}
use Rattle.bridge_set.proofs.Choices.{costs_some, past_kinds}
use Rattle.bridge_set.proofs.Families.{among}

-- ---- made

pub sound_made : (table : Table) (choices : List Choice) (states : List BridgeState) (graph : Hypergraph)
    → graph ≡ graph_of (setting_by table states)
    → IsTrue (list_all is_edge_cost table.cost)
    → length table.supported ≡ kind_count → length choices ≡ kind_count
    → ((kind : ℕ) → kind < kind_count → IsChoice graph kind (choice_in choices kind))
    → All IsLawful (families_of states) → IsTrue (occur_once (families_of states))
    → IsBridgeSetSound graph (bridges_of table choices states)
sound_made table choices states graph is costs long many chosen lawful once = record {
  graph_is = is;
  kinds = many;
  costs = costs;
  sound = record {
    costly = costs_some table.cost costs;
    chosen = λ kind. each kind (cases_lt kind kind_count);
    lawful = λ family usable. among IsLawful family (families_of states) lawful
        (and_second (slice_index_or table.on (family_number family) false)
        (list_any (family_eq family) (families_of states)) usable);
  };
  laws = lawful;
  once = once;
}
  where
    each : (kind : ℕ) → (kind < kind_count) ⊎ (kind_count ≤ kind)
        → IsChoice (graph_of (setting_by table states)) kind (choice_in choices kind)
    each kind w = elim w [
      | inl low ↦ subst (λ g. IsChoice g kind (choice_in choices kind)) is (chosen kind low)
      | inr high ↦
          subst (IsChoice (graph_of (setting_by table states)) kind)
          (sym (get_or_past choices kind Missing (omega (arith, many, high))))
          (λ cost tree. past_kinds (setting_by table states) long kind cost high tree)
    ]

-- ---- while the families stay

pub sound_still : (table : Table) (choices : List Choice) (old new : List BridgeState)
    (graph : Hypergraph)
    → families_of new ≡ families_of old → IsBridgeSetSound graph (bridges_of table choices old)
    → IsBridgeSetSound graph (bridges_of table choices new)
sound_still table choices old new graph e h =
    let back = sym e in
    let by : List Family → Setting = λ fs. record { table = table; families = fs } in
    record {
      graph_is = h.graph_is ∙ ap (λ fs. graph_of (by fs)) back;
      kinds = h.kinds;
      costs = h.costs;
      sound = record {
        costly = subst (λ fs. IsCostly (graph_of (by fs))) back h.sound.costly;
        chosen = subst (λ fs. AreChoices (by fs) (choice_in choices)) back h.sound.chosen;
        lawful = subst (λ fs. AreLawful (by fs)) back h.sound.lawful;
      };
      laws = subst (All IsLawful) back h.laws;
      once = subst (λ fs. IsTrue (occur_once fs)) back h.once;
    }

-- and so do the means, while what is kept stays too
pub means_same : (table : Table) (choices : List Choice) (old new : List BridgeState)
    → families_of new ≡ families_of old → kept_by new ≡ kept_by old
    → means_of (bridges_of table choices new) ≡ means_of (bridges_of table choices old)
means_same table choices old new e k = λ i. record {
  setting = record { table = table; families = e i };
  choice = choice_in choices;
  kept = k i;
}

-- a borrowed vector's items are those that the borrower left
pub items_back : {B : Type 0} (len : ℕ) (new old : List B) → length new ≡ length old
    → len ≡ length old → take len (new ++ drop (length new) old) ≡ new
items_back len new old e l =
    ap (λ xs. take len (new ++ xs)) (drop_all (length new) old (omega (arith, e)))
    ∙ ap (take len) (append-nil new)
    ∙ take_all len new (omega (arith, e, l))

-- ---- a chosen edge

-- there is a bridge of its family
pub has_bridge : (bridges : Bridges) (kind : Kind) (n : ℕ) → AreSound (means_of bridges)
    → choice_in bridges.choices (kind_number kind) ≡ By n
    → list_any (family_eq (family_of (edge_at n))) (families_of bridges.states) ≡ true
has_bridge bridges kind n sound e =
    let down = leads_down (setting_of bridges) sound.costly (choice_in bridges.choices) sound.chosen
    kind n e in
    let entry = ap edge_entry down.is_entry.edge ∙ down.is_entry.entry_is in
    ap (λ x. list_any (family_eq x) (families_of bridges.states)) (ap (λ x. x.family) entry)
    ∙ and_second (slice_index_or bridges.table.on (family_number down.entry.family) false)
    (list_any (family_eq down.entry.family) (families_of bridges.states)) down.family
