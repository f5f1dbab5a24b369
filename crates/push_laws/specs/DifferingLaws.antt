-- Items that differ from one model to another are given as an edit takes them, where the table stays.
use Rattle.std.specs.Prelude.{◌≡◌, ◌≢◌, ◌⊎◌, ◌++◌, ◌&&◌, ◌||◌, ℕ, Bool, true, false, not, All, Contains, Option}
use Rattle.std.proofs.Common.{◌∙◌, inl, inr, sym, subst}
use Rattle.std.proofs.lemmas.List.Elements.{All-weaker, Contains-append_cases, Contains-append_left, Contains-append_right}
use Rattle.aff_core.specs.Address.{Address, root_address}
use Rattle.aff_core.specs.declared.root.Root.TheVariants as root
use Rattle.bridge_graph.specs.Hypergraph.{IsCostly}
use Rattle.bridge_graph.specs.declared.Choice.{Choice}
use Rattle.push_laws.specs.Edits.{contents_name, KeepsAt, Separates}
use Rattle.fresh_bridging.specs.FreshBridging.{FreshBridging}
use Rattle.fresh_bridging.specs.ModelImage.{group_item, objective_items, row_item}
use Rattle.fresh_bridging.specs.TheRules.{AreChoices, Setting, graph_of}
use Rattle.fresh_bridging.specs.Touched.{IsTouched, differs, item_at}
use Rattle.local_laws.specs.HeldLaws.{keeps_own_each, keeps_own_in}
use Rattle.push_laws.specs.AloneLaws.{one_for_all}
use Rattle.push_laws.specs.HandedLaws.{groups_handed}
use Rattle.push_laws.specs.NotedLaws.{names_anew}
use Rattle.touched_items.specs.DifferenceLaws.{HasDifferences, all_differ, others_stay}
use Rattle.touched_items.specs.Differences.{addresses_in, differing_addresses}
use Rattle.touched_items.specs.IndexLaws.{other_names}
use Rattle.touched_items.specs.Sides.{IsSeparated, differ, same}
use Rattle.touched_items.specs.declared.differing.Differing.{Differing}
use Rattle.user_model.specs.Model.{ModelValue}
use Rattle.user_model.specs.Valid.{IsValid}

-- ---- the way back

abbrev swapped : Differing → Differing
swapped d = record { before = d.after; after = d.before }

swap : {X Y : Type 0} (f : X → Y) (was is before after : Option X)
    → IsSeparated f was is before after → IsSeparated f is was after before
swap f was is before after (same i j k) = same (sym i) k j
swap f was is before after (differ i j k) = differ (λ e. i (sym e)) k j

has_swapped : (model after : ModelValue) (d : Differing) → HasDifferences model after d
    → HasDifferences after model (swapped d)
has_swapped model after d h = record {
  groups = record {
    rising_before = h.groups.rising_after;
    rising_after = h.groups.rising_before;
    each = λ n. swap group_item _ _ _ _ (h.groups.each n);
  };
  rows = record {
    rising_before = h.rows.rising_after;
    rising_after = h.rows.rising_before;
    each = λ n. swap row_item _ _ _ _ (h.rows.each n);
  };
  objective = swap objective_items _ _ _ _ h.objective;
}

-- the same addresses differ
swapped_among : (d : Differing) (at : Address) → Contains (differing_addresses d) at
    → Contains (differing_addresses (swapped d)) at
swapped_among d at c =
    by (Contains-append_cases (addresses_in d.before) (addresses_in d.after) at c)
  where
    by : Contains (addresses_in d.before) at ⊎ Contains (addresses_in d.after) at
        → Contains (addresses_in d.after ++ addresses_in d.before) at
    by (inl k) = Contains-append_right (addresses_in d.after) (addresses_in d.before) at k
    by (inr k) = Contains-append_left (addresses_in d.after) (addresses_in d.before) at k

was_named : (a b c : Bool) → b ≡ true → (a || b) ≡ c → c ≡ true
was_named true b c t e = sym e
was_named false b c t e = sym e ∙ t

pub separated : (model after : ModelValue) → IsValid model → IsValid after → (d : Differing)
    → HasDifferences model after d → Separates model after d
separated model after valid valid_after d h = record {
  same = others_stay model after d h;
  before = groups_handed after model valid (swapped d) (has_swapped model after d h)
      (differing_addresses d) (λ at c. swapped_among (swapped d) at c)
      (λ n c. swapped_among d (root_address root.Group n) c);
  behind = groups_handed model after valid_after d h (differing_addresses d) (λ at c. c)
      (λ n c. c);
  named = λ var at t. was_named (other_names after var at && not (contents_name d.after var at))
      (contents_name d.before var at) (other_names model var at) t
      (names_anew var after model (swapped d) (has_swapped model after d h)
      valid_after.consistent.rows_rise valid.consistent.rows_rise at);
  names = λ var at. names_anew var model after d h valid.consistent.rows_rise
      valid_after.consistent.rows_rise at;
}

-- ---- by one table

pub chooses_itself : {setting : Setting} {model : ModelValue} (bridging : FreshBridging setting model)
    → IsCostly (graph_of setting) → (choice : ℕ → Choice) → AreChoices setting choice
    → (at : Address) → KeepsAt bridging choice at
chooses_itself {setting} bridging costly choice chosen at =
    subst (λ c. KeepsAt bridging c at)
    (one_for_all setting costly bridging.choice choice bridging.chosen chosen)
    (keeps_own_each at bridging.made.groups, keeps_own_in at bridging.made.others)

pub differing_touched : {setting next : Setting} {model after : ModelValue}
    (old : FreshBridging setting model) (new : FreshBridging next after) (d : Differing)
    → HasDifferences model after d → All (IsTouched old new) (differing_addresses d)
differing_touched {model = model} {after = after} old new d h =
    All-weaker (λ at. item_at model at ≢ item_at after at) (IsTouched old new)
    (λ at n. differs n) (differing_addresses d) (all_differ model after d h)
