-- Another table for a model whose fresh bridging is held, as an edit: the model stays, and what is bridged
-- anew are the items whose kinds are changed.
use Rattle.std.specs.Prelude.{◌≡◌, ℕ, Bool, true, is_some}
use Rattle.std.specs.FinMap as finite
use Rattle.std.proofs.Common.{ap, subst, ◌∙◌}
use Rattle.address_map.specs.AddressMap.{AddressMap}
use Rattle.aff_core.specs.Address.{Address}
use Rattle.bridge_graph.specs.declared.Choice.{Choice}
use Rattle.bridge_set.specs.Bridges.{Bridges, means_of, setting_by, setting_of}
use Rattle.push_laws.specs.Edits.{AttachedEdit}
use Rattle.found_plan.specs.Read.{is_marked}
use Rattle.fresh_bridging.specs.Entries.{is_kept}
use Rattle.fresh_bridging.specs.FreshBridging.{expression_of}
use Rattle.item_core.specs.declared.kind.Kind.{Kind}
use Rattle.item_core.specs.declared.table.Table.{Table}
use Rattle.table_change.specs.ChangedKinds.{is_changed}
use Rattle.lazy_bridge.specs.Tables.{HoldsByTable}
use Rattle.local_laws.specs.Sound.{IsValidUnder}
use Rattle.push_laws.specs.AloneLaws.{one_for_all}
use Rattle.push_laws.specs.MarkedLaws.{marked_where}
use Rattle.solver_store.specs.SolverModel.{Leaves}
use Rattle.lazy_bridge.proofs.KindsAlike.{alike_beside, given_touched}
use Rattle.table_change.specs.Given.{AreGiven}
use Rattle.lazy_bridge.proofs.GivenKinds.{given_apart}
use Rattle.touched_items.specs.ExpressionLaws.{HasExpressions}
use Rattle.touched_items.specs.declared.differing.Differing.{Differing}
use Rattle.user_model.specs.Model.{ModelValue}
use Rattle.item_core.specs.Kind.{kind_count}

-- what is bridged otherwise by the new table
abbrev pub AreRetabled : Bridges → (ℕ → Choice) → AddressMap → ModelValue → Differing → Type 0
AreRetabled bridges choice places model d =
    let changed : Kind → Bool = is_changed choice (means_of bridges).choice kind_count in
    AreGiven changed (is_marked places) model d.before
    × AreGiven changed (is_marked places) model d.after

module _ (bridges : Bridges) (table : Table) (choice : ℕ → Choice) (solver : Leaves)
    (places : AddressMap) (objective_at : Address) (model : ModelValue)
    (is : HoldsByTable bridges table choice solver places objective_at model)
    (d : Differing) (given : AreRetabled bridges choice places model d) where
  pub sound_before : IsValidUnder (setting_by table bridges.states) model
  sound_before = record {
    costly = is.costly;
    lawful = is.lawful;
    valid = is.held.valid;
  }

  pub has : HasExpressions places is.held.bridging
  has = record {
    exprs = is.held.exprs;
    marks = λ v c.
        ap (λ m. is_some (finite.get m v)) is.held.marks
        ∙ marked_where (λ v. is_kept (expression_of is.held.bridging v)) _ v c;
  }

  same_choice : choice ≡ is.held.bridging.choice
  same_choice =
      one_for_all (setting_by table bridges.states) is.costly choice is.held.bridging.choice is.chosen
      is.held.bridging.chosen

  -- as by the choices of the bridging that is held
  pub given_here : AreRetabled bridges is.held.bridging.choice places model d
  given_here = subst (λ c. AreRetabled bridges c places model d) same_choice given

  abbrev pub table_edit : AttachedEdit
  table_edit = record {
    bridges = bridges;
    table = table;
    solver = solver;
    places = places;
    objective_at = objective_at;
    model = model;
    after = model;
    sound = is.sound;
    native = is.native;
    once = is.once;
    costly = is.costly;
    lawful = is.lawful;
    native_before = is.native_before;
    held = is.held;
    valid = is.held.valid;
    d = d;
    separates = given_apart
        (is_changed is.held.bridging.choice (means_of bridges).choice kind_count) (is_marked places) model
        is.held.valid d given_here.0 given_here.1;
    alike = alike_beside sound_before is.held.bridging places has (means_of bridges).choice d
        given_here.0 given_here.1;
    touched = λ new. given_touched sound_before is.held.bridging places has (means_of bridges).choice d
        given_here.0 given_here.1 new
        (one_for_all (setting_of bridges) is.sound.costly new.choice (means_of bridges).choice new.chosen
        is.sound.chosen);
  }
