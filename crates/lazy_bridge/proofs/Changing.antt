-- What is planned of an edit, put in the place of what was held: each call on the way may be made, and
-- then the fresh bridging of the model after stands.
use Rattle.std.specs.Prelude.{◌≡◌, ◌≤◌, ◌+◌, ℕ, List, length, map}
use Rattle.std.proofs.Common.{ap, subst, sym, ◌∙◌}
use Rattle.address_map.specs.AddressMap.{AddressMap}
use Rattle.address_map.specs.Places.{Places}
use Rattle.aff_core.specs.Address.{Address}
use Rattle.bridge_set.specs.Adding.{AreFree, with_each}
use Rattle.bridge_set.specs.Bridges.{AreKeepable, Bridges, families_of, kept_by, setting_of}
use Rattle.bridge_set.specs.Letting.{kept_count, without_found}
use Rattle.bridge_set.specs.Turns.{turns_of}
use Rattle.bridge_face.specs.BridgeState.{BridgeState}
use Rattle.bridge_plan.specs.Means.{Means}
use Rattle.bridge_plan.specs.declared.plan.Plan.{Plan}
use Rattle.found_plan.specs.Stood.{old_leaves}
use Rattle.fresh_bridging.specs.Entries.{Entry}
use Rattle.item_core.specs.declared.family.Family.{Family}
use Rattle.lazy_bridge.specs.Steps.{IsChangedOf, IsHeldBy, IsPlannedOf}
use Rattle.leaf_update.specs.Named.{NamesEach}
use Rattle.leaf_update.specs.Others.{others_among}
use Rattle.leaf_update.specs.Splice.{Gone, IsSplice, IsSplicedInto, KeepsIndices, spliced_model}
use Rattle.leaf_model.specs.LeafModel.{IsChangeCount}
use Rattle.leaf_model.specs.ReadThrough.{read_through}
use Rattle.push_laws.specs.Composed.{done, free_here, keepable_here, splice_here}
use Rattle.push_laws.specs.Edits.{AttachedEdit, IsMappedAnew}
use Rattle.solver_store.specs.SolverModel.{Leaves, StoredLeaves}
use Rattle.touched_items.specs.Differences.{groups_in}
use Rattle.touched_items.specs.declared.differing.Differing.{Differing}

-- the map with other expressions, marks and notes
read_on : (mid last : AddressMap) (solver : Leaves) (objective_at : Address)
    → last.vars ≡ mid.vars → last.rows ≡ mid.rows
    → read_through last solver objective_at ≡ read_through mid solver objective_at
read_on mid last solver objective_at vars rows = λ i.
    read_through (record last { vars = vars i; rows = rows i }) solver objective_at

named_on : (mid last : AddressMap) (solver : Leaves) → last.vars ≡ mid.vars → last.rows ≡ mid.rows
    → NamesEach mid solver → NamesEach last solver
named_on mid last solver vars rows h =
    let back : NamesEach (record last { vars = mid.vars; rows = mid.rows }) solver = record {
      vars = h.vars;
      rows = h.rows;
      each_row = h.each_row;
      objective = h.objective;
    } in
    subst (λ (p : Places × Places). NamesEach (record last { vars = p.0; rows = p.1 }) solver)
    (λ i. (sym vars i, sym rows i)) back

module _ (e : AttachedEdit) (bridges : Bridges) (solver : StoredLeaves) (places : AddressMap)
    (objective_at : Address) (d : Differing) (held : IsHeldBy e bridges solver places objective_at d) (standing : List Entry)
    (found : List Address) (plan : Plan) (made : IsPlannedOf e standing found plan) where
  same_kept : kept_by bridges.states ≡ kept_by e.bridges.states
  same_kept = ap (λ (m : Means). m.kept) held.means

  same_families : families_of bridges.states ≡ families_of e.bridges.states
  same_families = ap (λ (m : Means). m.setting.families) held.means

  -- what holds of the parts of the edit holds of these
  back : (P : Leaves → AddressMap → Address → Differing → Type 0)
      → P e.solver e.places e.objective_at e.d → P solver.leaves places objective_at d
  back P h =
      subst (λ s. P s places objective_at d) (sym held.leaves)
      (subst (λ p. P e.solver p objective_at d) (sym held.mapped)
      (subst (λ a. P e.solver e.places a d) (sym held.objective)
      (subst (P e.solver e.places e.objective_at) (sym held.differing) h)))

  pub named : NamesEach places solver.leaves
  named = back (λ s p a x. NamesEach p s) e.held.named

  abbrev gone_of : Leaves → AddressMap → Address → Differing → Gone
  gone_of s p a x =
      others_among (old_leaves p s a (groups_in x.before) made.step.addresses) made.step.leaves

  pub splice : (gone : Gone)
      → gone ≡ others_among (old_leaves places solver.leaves objective_at (groups_in d.before) found)
      plan.leaves.items
      → IsSplice (read_through places solver.leaves objective_at) gone plan.leaves.items
  splice gone is =
      subst (λ g. IsSplice (read_through places solver.leaves objective_at) g plan.leaves.items)
      ((λ i. others_among (old_leaves places solver.leaves objective_at (groups_in d.before)
      (made.addresses i)) (made.leaves i)) ∙ sym is)
      (subst (λ ls. IsSplice (read_through places solver.leaves objective_at)
      (gone_of solver.leaves places objective_at d) ls) made.leaves
      (back (λ s p a x. IsSplice (read_through p s a) (gone_of s p a x) made.step.leaves)
      (splice_here e made.step)))

  pub keepable : (families : List Family) → families ≡ families_of bridges.states
      → AreKeepable families plan.nodes.items
  keepable families same =
      subst (λ fs. AreKeepable fs plan.nodes.items) (sym (same ∙ same_families))
      (subst (AreKeepable (families_of e.bridges.states)) made.nodes (keepable_here e made.step))

  -- all old nodes are released
  module _ (between : List BridgeState)
      (gone : kept_by between ≡ map (without_found found) (kept_by bridges.states)) where
    gone_step : kept_by between
        ≡ map (without_found made.step.addresses) (kept_by bridges.states)
    gone_step =
        gone ∙ ap (λ ats. map (without_found ats) (kept_by bridges.states)) (sym made.addresses)

    pub free : AreFree plan.nodes.items (kept_by between)
    free =
        subst (λ ns. AreFree ns (kept_by between)) made.nodes
        (free_here e made.step bridges.states between same_kept gone_step)

    -- leaves are changed, nodes kept, and the map has what it has to
    pub changed : (behind : Bridges) (solver_last : StoredLeaves) (places_mid places_last : AddressMap)
        (objective_last : Address) (n : ℕ) (gone_leaves : Gone)
        → setting_of behind ≡ setting_of bridges
        → kept_by behind.states ≡ map (with_each plan.nodes.items) (kept_by between)
        → gone_leaves
        ≡ others_among (old_leaves places solver.leaves objective_at (groups_in d.before) found)
        plan.leaves.items
        → IsSplicedInto solver places objective_at gone_leaves plan.leaves.items n solver_last
        places_mid objective_last
        → places_last.vars ≡ places_mid.vars → places_last.rows ≡ places_mid.rows
        → IsMappedAnew e standing places_last
        → turns_of between + kept_count (kept_by between)
        ≤ turns_of bridges.states + kept_count (kept_by bridges.states)
        → turns_of behind.states ≤ turns_of between + length plan.nodes.items
        → IsChangedOf e made.step bridges solver places objective_at n behind solver_last
        places_last objective_last
    changed behind solver_last places_mid places_last objective_last n gone_leaves setting kept
        gone_are into vars rows mapped let_go again =
        record {
          done = λ start before. done e made.step bridges.states between behind.states
              solver_last.leaves places_last objective_last start (turns_of bridges.states)
              (turns_of between) (turns_of behind.states) same_kept gone_step
              (kept ∙ ap (λ ns. map (with_each ns) (kept_by between)) (sym made.nodes))
              (read_on places_mid places_last solver_last.leaves objective_last vars rows
              ∙ into.through ∙ spliced_here)
              (named_on places_mid places_last solver_last.leaves vars rows into.named)
              (subst (λ st. IsMappedAnew e st places_last) (sym made.stands) mapped)
              before let_go
              (subst (λ ns. turns_of behind.states ≤ turns_of between + length ns)
              (sym made.nodes) again)
              (setting_of behind) (setting ∙ ap (λ (m : Means). m.setting) held.means);
          counted =
              subst (λ m. IsChangeCount (read_through places solver.leaves objective_at) m n)
              (sym (read_on places_mid places_last solver_last.leaves objective_last vars rows))
              into.counted;
          rises = into.rises;
          calls = into.calls;
          variables = subst (λ (p : Places). KeepsIndices places.vars.indices p.indices) (sym vars)
              into.vars;
          rows = subst (λ (p : Places). KeepsIndices places.rows.indices p.indices) (sym rows)
              into.rows;
        }
      where
        spliced_here : spliced_model (read_through places solver.leaves objective_at) gone_leaves
            plan.leaves.items
            ≡ spliced_model (read_through e.places e.solver e.objective_at)
            (gone_of e.solver e.places e.objective_at e.d) made.step.leaves
        spliced_here =
            (λ i. spliced_model (read_through places solver.leaves objective_at) (gone_are i)
            plan.leaves.items)
            ∙ (λ i. spliced_model
            (read_through (held.mapped i) (held.leaves i) (held.objective i))
            (others_among (old_leaves (held.mapped i) (held.leaves i) (held.objective i)
            (groups_in (held.differing i).before) (sym made.addresses i)) (sym made.leaves i))
            (sym made.leaves i))
