-- The change step of an edit, composed: each call on the way may be made, and what is left holds the
-- fresh bridging of the model after, with little done. RefusedLaws has what is refused before it.
use Rattle.std.specs.Prelude.{◌≡◌, ◌≤◌, ◌+◌, ◌*◌, ◌&&◌, ◌||◌, not, ℕ, List, [], ◌∷◌, All, AllPairs, Option, Some, None, length, map, true, Contains, refl}
use Rattle.std.specs.Map.{keys_of}
use Rattle.std.proofs.Common.{arith, sym, ap, subst, ◌∙◌}
use Rattle.std.proofs.lemmas.List.Elements.{All-cons, All-nil}
use Rattle.aff_core.specs.Address.{Address}
use Rattle.address_map.specs.AddressMap.{AddressMap}
use Rattle.bridge_set_laws.specs.BridgeSetLaws.{bridges_changed, few_turns}
use Rattle.bridge_set_laws.specs.CountLaws.{without_each}
use Rattle.bridge_set_laws.specs.GoneLaws.{few_released, gone_by}
use Rattle.bridge_set.specs.Adding.{AreFree, with_each}
use Rattle.bridge_set.specs.Bridges.{AreKeepable, families_of, kept_by}
use Rattle.bridge_set.specs.Letting.{kept_count, without_found}
use Rattle.bridge_set.specs.Nodes.{HoldNodes, nodes_by}
use Rattle.bridge_face.specs.BridgeState.{BridgeState, KeptByAddress}
use Rattle.bridge_plan.specs.AddsHeld.{kept_of}
use Rattle.bridge_plan.specs.Worked.{IsItemWithinLevels}
use Rattle.expansion.specs.Read.{model_leaves}
use Rattle.found_plan.specs.Stood.{old_leaves}
use Rattle.fresh_bridging.specs.Entries.{Entry, put_in}
use Rattle.fresh_bridging.specs.FreshBridging.{FreshBridging, is_made, leaves_of, unfit_at}
use Rattle.fresh_bridging.specs.TheRules.{Setting}
use Rattle.fresh_bridging.specs.Touched.{IsInner, IsTouched}
use Rattle.item_core.specs.declared.family.Family.{Family}
use Rattle.leaf_update.specs.Leaves.{AreLeaves}
use Rattle.leaf_update.specs.Named.{NamesEach}
use Rattle.leaf_update.specs.Others.{others_among}
use Rattle.leaf_update.specs.Splice.{Gone, IsSplice, spliced_model}
use Rattle.leaf_model.specs.LeafModel.{IsCountOf}
use Rattle.leaf_model.specs.ReadThrough.{read_through}
use Rattle.local_laws.specs.Held.{held_by}
use Rattle.local_laws.specs.Stays.{StaysAt}
use Rattle.local_laws.specs.Views.{of_nodes}
use Rattle.map_laws.specs.EachLaws.{all_from_map}
use Rattle.model_bridging.specs.Found.{found_others}
use Rattle.model_bridging.specs.ModelHeld.{unfit_put}
use Rattle.model_bridging.specs.PlanOutcome.{IsFirstAt}
use Rattle.push_laws.specs.Edits.{AreChanging, AttachedEdit, IsMappedAnew, IsSearch, IsStandingFor, PlannedEdit, choice_here, missing_others, old_here, setting_here, sound_before, sound_behind, HoldsBridging, contents_name}
use Rattle.push_laws.specs.FreeLaws.{free_after, to_be_kept}
use Rattle.push_laws.specs.FurtherLaws.{agree_here}
use Rattle.push_laws.specs.GroupsHad.{had_here}
use Rattle.push_laws.specs.HeldAllLaws.{leaves_held, nodes_held}
use Rattle.push_laws.specs.MappedLaws.{exprs_are, marks_are}
use Rattle.push_laws.specs.PlannedLaws.{all_touched, apart, count_here, leaves_planned, nodes_planned, others_stay, within_here}
use Rattle.push_laws.specs.PutLaws.{leaves_are, nodes_are}
use Rattle.push_laws.specs.RefusedLaws.{bridged}
use Rattle.push_laws.specs.SpliceLaws.{AreHadBy, is_splice, leaves_changed}
use Rattle.push_laws.specs.UnfitLaws.{made_where_fit, unfit_others}
use Rattle.push_laws.specs.HoldLaws.{hold_nodes, once_here}
use Rattle.solver_store.specs.SolverModel.{Leaves}
use Rattle.touched_items.specs.Differences.{groups_in}
use Rattle.user_model.specs.declared.objective.Objective.{Objective}
use Rattle.user_model.specs.declared.row.Row.{Row}
use Rattle.item_core.specs.Kind.{kind_count}

-- ---- what is found may be planned

module _ (e : AttachedEdit) (changed addresses : List Address) (rows : List Row)
    (objective : Option Objective) (search : IsSearch e changed addresses rows objective)
    (standing : List Entry) (changing : AreChanging e standing changed)
    (trees : missing_others e rows objective ≡ None) (further : List Entry)
    (stands : IsStandingFor e standing rows objective further) where
  new_found : FreshBridging (setting_here e) e.after
  new_found = bridged e changed addresses rows objective search standing changing trees

  pub others_within :
      All (λ item. IsItemWithinLevels (choice_here e) kind_count (put_in further item))
      (found_others rows objective)
  others_within =
      within_here e new_found standing changed addresses rows objective search changing further
      stands
      (agree_here e new_found standing changed addresses rows objective search changing further
      stands)

  -- `Overflow` of `plan_found_others`
  pub overflow_others : (at : Address)
      → IsFirstAt (unfit_put (choice_here e) kind_count further (found_others rows objective)) at
      → (bridging : FreshBridging (setting_here e) e.after) × (unfit_at bridging ≡ Some at)
  overflow_others at first = (
    new_found,
    unfit_others e new_found standing changed addresses rows objective search changing further
        stands at first,
  )

-- ---- the change

module _ (e : AttachedEdit) (s : PlannedEdit e) where
  -- the fresh bridging of the model after
  pub new_here : FreshBridging (setting_here e) e.after
  new_here =
      bridged e s.changed s.addresses s.rows s.objective s.search s.standing s.changing s.trees

  made_here : is_made new_here ≡ true
  made_here =
      made_where_fit e new_here s.standing s.changed s.addresses s.rows s.objective s.search
      s.changing s.further s.stands s.planned.fit

  apart_here : AllPairs (λ a b. ¬ (b ≡ a)) s.addresses
  apart_here = apart e s.changed s.addresses s.rows s.objective s.search

  stay_here : (at : Address) → ¬ (Contains s.addresses at) → StaysAt (old_here e) new_here at
  stay_here =
      others_stay e new_here s.standing s.changed s.addresses s.rows s.objective s.search s.changing

  leaves_here : s.leaves ≡ leaves_held new_here s.addresses
  leaves_here =
      leaves_planned e new_here s.standing s.changed s.addresses s.rows s.objective s.search
      s.changing s.further s.stands
      (agree_here e new_here s.standing s.changed s.addresses s.rows s.objective s.search s.changing
      s.further s.stands) s.leaves s.nodes s.planned

  nodes_here : s.nodes ≡ map kept_of (nodes_held new_here s.addresses)
  nodes_here =
      nodes_planned e new_here s.standing s.changed s.addresses s.rows s.objective s.search
      s.changing s.further s.stands
      (agree_here e new_here s.standing s.changed s.addresses s.rows s.objective s.search s.changing
      s.further s.stands) s.leaves s.nodes s.planned

  -- ---- leaves may be changed

  abbrev pub had : Gone
  had = old_leaves e.places e.solver e.objective_at (groups_in e.d.before) s.addresses

  abbrev pub gone_here : Gone
  gone_here = others_among had s.leaves

  new_leaves : AreLeaves (model_leaves new_here.made)
  new_leaves =
      leaves_are (setting_here e) e.sound.costly e.sound.lawful e.native e.after e.valid new_here

  had_is_here : AreHadBy (sound_before e) (sound_behind e) (old_here e) new_here s.addresses
      apart_here stay_here had
  had_is_here =
      had_here e s.changed s.addresses s.rows s.objective s.search new_here apart_here stay_here

  pub splice_here : IsSplice (read_through e.places e.solver e.objective_at) gone_here s.leaves
  splice_here =
      subst (λ m. IsSplice m gone_here s.leaves) (sym e.held.leaves)
      (subst (λ put. IsSplice (leaves_of (old_here e)) (others_among had put) put)
      (sym leaves_here)
      (is_splice (sound_before e) (sound_behind e) (old_here e) new_here s.addresses apart_here
      stay_here new_leaves had had_is_here))

  -- ---- and the nodes kept that are planned

  pub keepable_here : AreKeepable (families_of e.bridges.states) s.nodes
  keepable_here =
      subst (AreKeepable (families_of e.bridges.states)) (sym nodes_here)
      (to_be_kept (sound_before e) (sound_behind e) (old_here e) new_here s.addresses apart_here
      stay_here (families_of e.bridges.states)
      (nodes_are (setting_here e) e.sound.costly e.sound.lawful e.native e.after e.valid new_here))

  module _ (states between : List BridgeState) (same : kept_by states ≡ kept_by e.bridges.states)
      (gone : kept_by between ≡ map (without_found s.addresses) (kept_by states)) where
    gone_is : kept_by between
        ≡ map (without_each (keys_of (held_by (old_here e) of_nodes s.addresses))) (kept_by states)
    gone_is =
        gone_by (sound_before e) (old_here e) s.addresses states between (hold_nodes e states same)
        gone

    -- at most a turn for each old node
    few_gone : (t1 t2 : ℕ)
        → t2 + kept_count (kept_by between) ≤ t1 + kept_count (kept_by states)
        → t2 ≤ t1 + length (keys_of (held_by (old_here e) of_nodes s.addresses))
    few_gone t1 t2 h =
        fewer t1 t2 (kept_count (kept_by states)) (kept_count (kept_by between))
        (length (keys_of (held_by (old_here e) of_nodes s.addresses))) h
        (few_released (sound_before e) (old_here e) s.addresses states between
        (hold_nodes e states same) (once_here e states same) gone_is)
      where
        fewer : (a b c d n : ℕ) → b + d ≤ a + c → c ≤ d + n → b ≤ a + n
        fewer a b c d n h k = omega (arith, h, k)

    pub free_here : AreFree s.nodes (kept_by between)
    free_here =
        subst (λ ns. AreFree ns (kept_by between)) (sym nodes_here)
        (free_after (sound_before e) (sound_behind e) (old_here e) new_here s.addresses apart_here
        stay_here states between (hold_nodes e states same) gone_is)

  -- ---- what is left

  -- what holds then, by a setting
  pub record IsDone (setting : Setting) (states : List BridgeState) (solver : Leaves)
      (places : AddressMap) (objective_at : Address) (turns turns_after : ℕ) : Type 0 where
    pub holds : HoldsBridging setting states solver places objective_at e.after
    -- as many items are touched as were found
    pub touched : IsCountOf (IsTouched (old_here e) holds.bridging) (length s.addresses)
    -- and turns rise by twice the inner items at most
    pub inner : (n : ℕ) × IsInner (old_here e) holds.bridging n × (turns_after ≤ turns + 2 * n)

  -- by the table and the bridges that were
  module _ (states between behind : List BridgeState) (solver : Leaves) (places : AddressMap)
      (objective_at : Address) (t0 t1 t2 t3 : ℕ)
      (same : kept_by states ≡ kept_by e.bridges.states)
      (gone : kept_by between ≡ map (without_found s.addresses) (kept_by states))
      (kept : kept_by behind ≡ map (with_each s.nodes) (kept_by between))
      (through : read_through places solver objective_at
      ≡ spliced_model (read_through e.places e.solver e.objective_at) gone_here s.leaves)
      (named : NamesEach places solver)
      (mapped : IsMappedAnew e s.standing places)
      -- an image for each planned node, each old one released, each planned one kept
      (images : t1 ≤ t0 + length s.nodes)
      (let_go : t2 + kept_count (kept_by between) ≤ t1 + kept_count (kept_by states))
      (kept_again : t3 ≤ t2 + length s.nodes) where
    -- the leaves of the new bridging
    leaves_left : read_through places solver objective_at ≡ leaves_of new_here
    leaves_left =
        through
        ∙ ap (λ m. spliced_model m gone_here s.leaves) e.held.leaves
        ∙ ap (λ put. spliced_model (leaves_of (old_here e)) (others_among had put) put) leaves_here
        ∙ sym (leaves_changed (sound_before e) (sound_behind e) (old_here e) new_here s.addresses
        apart_here stay_here new_leaves had had_is_here)

    -- its nodes
    paired : (ss : List BridgeState)
        → All (λ (k : Family × KeptByAddress). k.1 ≡ nodes_by new_here k.0)
        (map (λ (s : BridgeState). (s.family, nodes_by new_here s.family)) ss)
    paired [] = All-nil (λ (k : Family × KeptByAddress). k.1 ≡ nodes_by new_here k.0)
    paired (x ∷ xs) =
        All-cons (λ (k : Family × KeptByAddress). k.1 ≡ nodes_by new_here k.0)
        (x.family, nodes_by new_here x.family)
        (map (λ (s : BridgeState). (s.family, nodes_by new_here s.family)) xs) refl (paired xs)

    nodes_left : HoldNodes new_here behind
    nodes_left =
        all_from_map (λ (k : Family × KeptByAddress). k.1 ≡ nodes_by new_here k.0)
        (λ (s : BridgeState). (s.family, s.kept)) behind
        (subst (All (λ (k : Family × KeptByAddress). k.1 ≡ nodes_by new_here k.0))
        (sym (bridges_changed (sound_before e) (sound_behind e) (old_here e) new_here s.addresses
        apart_here stay_here states between behind (hold_nodes e states same)
        (gone_is states between same gone)
        (kept ∙ ap (λ ns. map (with_each ns) (kept_by between)) nodes_here)))
        (paired states))

    holds_here : HoldsBridging (setting_here e) behind solver places objective_at e.after
    holds_here = record {
      valid = e.valid;
      bridging = new_here;
      made = made_here;
      leaves = leaves_left;
      named = named;
      kept = nodes_left;
      exprs = exprs_are e new_here s.standing s.changed s.addresses s.rows s.objective s.search
          s.changing places mapped;
      noted = λ var at. mapped.noted var at
          ∙ ap (λ b. (b && not (contents_name e.d.before var at)) || contents_name e.d.after var at)
          (e.held.noted var at)
          ∙ e.separates.names var at;
      marks = marks_are e new_here s.standing s.changed s.addresses s.rows s.objective s.search
          s.changing places mapped;
    }

    done_here : IsDone (setting_here e) behind solver places objective_at t0 t3
    unfolding holds_here
    done_here = record {
      holds = holds_here;
      touched = count_here e new_here s.standing s.changed s.addresses s.rows s.objective s.search
          s.changing;
      inner = few_turns (sound_before e) (sound_behind e) (old_here e) new_here s.addresses
          apart_here stay_here
          (all_touched e new_here s.standing s.changed s.addresses s.rows s.objective s.search
          s.changing) t0 t1 t2 t3
          (subst (λ ns. t1 ≤ t0 + length ns) nodes_here images)
          (few_gone states between same gone t1 t2 let_go)
          (subst (λ ns. t3 ≤ t2 + length ns) nodes_here kept_again);
    }

    pub done : (setting : Setting) → setting ≡ setting_here e
        → IsDone setting behind solver places objective_at t0 t3
    done setting is =
        subst (λ c. IsDone c behind solver places objective_at t0 t3) (sym is) done_here
