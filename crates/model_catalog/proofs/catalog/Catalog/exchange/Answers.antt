use Rattle.std.proofs.Common.{◌≡◌, ℕ, List, length, refl, ap, ◌∙◌, arith}
use Rattle.std.specs.Prelude.{unwrap_or}
use Rattle.std.proofs.lemmas.List.{with_items_is}
use Rattle.numbered_list.specs.declared.change.Change.{Change}
use Rattle.numbered_list.specs.Changes.{added}
use Rattle.user_model.specs.declared.group.Group.{Group}
use Rattle.user_model.specs.declared.row.Row.{Row}
use Rattle.user_model.specs.Edited.{group_number, row_number}
use Rattle.user_model.specs.Model.{objective_terms}
use Rattle.model_catalog.specs.Catalog.{Catalog}
use Rattle.model_catalog.specs.Names.{put_count}
use Rattle.model_catalog.proofs.ExchangeSteps.{TermsFit, contents_after, counts, distinct_row_names, distinct_variable_names, keeps_after, long, model_after, names_way_back, put_fits, ready, room_back, stood, taken_fits, terms_fit, way_back}
use Rattle.model_catalog.proofs.catalog.Catalog.exchange.Goals.{After-changed_terms-taken_out}
use Rattle.model_catalog.proofs.catalog.Catalog.exchange.Goals as goal

pub changed_terms-put_in-requires : goal.changed_terms-put_in-requires
changed_terms-put_in-requires c =
    let is = ready c.self.view_is c.self.invariant c.requires.changes c.requires.consistent
    c.requires.within c.requires.names in
    omega (arith, put_fits is c.deref.ensures.value)

pub list_variables-requires-clause-room : goal.list_variables-requires-clause-room
list_variables-requires-clause-room c =
    let is = ready c.self.view_is c.self.invariant c.requires.changes c.requires.consistent
    c.requires.within c.requires.names in
    omega (
      arith,
      long is,
      ap (λ (x : Catalog). x.room.variables) c.self.view_is,
      c.requires.room.variables,
      ap put_count c.deref-2.ensures.value,
    )

pub exchange_names-requires-clause-distinct : goal.exchange_names-requires-clause-distinct
exchange_names-requires-clause-distinct c =
    distinct_variable_names (ready c.self.view_is c.self.invariant c.requires.changes
    c.requires.consistent c.requires.within c.requires.names) c.deref_mut.ensures.value

pub exchange_names-requires-2-clause-distinct : goal.exchange_names-requires-2-clause-distinct
exchange_names-requires-2-clause-distinct c =
    distinct_row_names (ready c.self.view_is c.self.invariant c.requires.changes
    c.requires.consistent c.requires.within c.requires.names) c.deref_mut-2.ensures.value

pub exchange_rows-requires-clause-counts : goal.exchange_rows-requires-clause-counts
exchange_rows-requires-clause-counts c =
    counts (ready c.self.view_is c.self.invariant c.requires.changes c.requires.consistent
    c.requires.within c.requires.names) refl c.deref-2.ensures.value
    c.list_variables.ensures.entries

pub changed_terms-taken_out-requires : goal.changed_terms-taken_out-requires
changed_terms-taken_out-requires c =
    let is = ready c.self.view_is c.self.invariant c.requires.changes c.requires.consistent
    c.requires.within c.requires.names in
    let back = with_items_is c.args.with.now.rows c.exchange_rows.new.changes
    (c.exchange_rows.auto.changes ∙ c.deref_mut-4.ensures.len) in
    omega (
      arith,
      taken_fits is c.deref_mut-4.ensures.value (c.deref-3.ensures.value ∙ (back
          ∙ c.exchange_rows.ensures.before)),
    )

-- the sums that count the terms, where the objective that is to stand has this number
fit : (c : After-changed_terms-taken_out) {now : ℕ}
    → now ≡ objective_terms (unwrap_or c.args.with.now.objective c.self.inside.objective)
    → TermsFit (ready c.self.view_is c.self.invariant c.requires.changes c.requires.consistent
    c.requires.within c.requires.names) c.changed_terms-put_in.result
    c.changed_terms-taken_out.result c.term_count-objective_was.result now
fit c now =
    let back = with_items_is c.args.with.now.rows c.exchange_rows.new.changes
    (c.exchange_rows.auto.changes ∙ c.deref_mut-4.ensures.len) in
    terms_fit (ready c.self.view_is c.self.invariant c.requires.changes c.requires.consistent
    c.requires.within c.requires.names) c.deref.ensures.value c.deref_mut-4.ensures.value
    (c.deref-3.ensures.value ∙ (back ∙ c.exchange_rows.ensures.before))
    c.changed_terms-put_in.ensures c.changed_terms-taken_out.ensures
    c.term_count-objective_was.ensures now

pub overflow_add-self : goal.overflow_add-self
overflow_add-self c = omega (arith, (fit c refl).put_in)

pub overflow_sub-self : goal.overflow_sub-self
overflow_sub-self c = (fit c refl).taken_out

pub overflow_sub-self-2 : goal.overflow_sub-self-2
overflow_sub-self-2 c = (fit c refl).objective_out

pub overflow_add-self-2 : goal.overflow_add-self-2
overflow_add-self-2 c =
    let all = fit (goal.at.overflow_add-self-2 c).After-changed_terms-taken_out
    (c.term_count.ensures ∙ ap objective_terms c.exchange_objective.ensures.objective) in
    omega (arith, all.objective_in)

pub returns-clause-model : goal.returns-clause-model
returns-clause-model c =
    model_after (ready c.self.view_is c.self.invariant c.requires.changes c.requires.consistent
    c.requires.within c.requires.names) c.deref_mut-3.ensures.value c.exchange_all.ensures.after
    c.deref_mut-4.ensures.value c.exchange_rows.ensures.after
    c.exchange_objective.ensures.objective c.swap.ensures.x_after

pub returns-clause-contents : goal.returns-clause-contents
returns-clause-contents c =
    contents_after (ready c.self.view_is c.self.invariant c.requires.changes c.requires.consistent
    c.requires.within c.requires.names) c.deref_mut-3.ensures.value
    (with_items_is c.args.with.now.groups c.exchange_all.new.changes (c.exchange_all.auto.changes
    ∙ c.deref_mut-3.ensures.len) ∙ c.exchange_all.ensures.before) c.deref_mut-4.ensures.value
    (with_items_is c.args.with.now.rows c.exchange_rows.new.changes (c.exchange_rows.auto.changes
    ∙ c.deref_mut-4.ensures.len) ∙ c.exchange_rows.ensures.before)
    c.exchange_objective.ensures.other c.swap.ensures.y_after

pub returns-clause-standing : goal.returns-clause-standing
returns-clause-standing c =
    let names = c.args.names.now in
    stood (ready c.self.view_is c.self.invariant c.requires.changes c.requires.consistent
    c.requires.within c.requires.names) refl c.deref_mut.ensures.value
    (with_items_is names.variables c.exchange_names.new.listed (c.exchange_names.auto.listed
    ∙ c.deref_mut.ensures.len) ∙ c.exchange_names.ensures.listed) c.deref_mut-2.ensures.value
    (with_items_is names.rows c.exchange_names-2.new.listed (c.exchange_names-2.auto.listed
    ∙ c.deref_mut-2.ensures.len) ∙ c.exchange_names-2.ensures.listed)

pub returns-clause-back : goal.returns-clause-back
returns-clause-back c =
    way_back (ready c.self.view_is c.self.invariant c.requires.changes c.requires.consistent
    c.requires.within c.requires.names) (returns-clause-model c) (returns-clause-contents c)

pub returns-clause-names : goal.returns-clause-names
returns-clause-names c =
    names_way_back (ready c.self.view_is c.self.invariant c.requires.changes c.requires.consistent
    c.requires.within c.requires.names) (returns-clause-model c) (returns-clause-standing c)

pub invariant_of-self : goal.invariant_of-self
invariant_of-self c =
    let is = ready c.self.view_is c.self.invariant c.requires.changes c.requires.consistent
    c.requires.within c.requires.names in
    let all = fit (goal.at.invariant_of-self c).After-changed_terms-taken_out (c.term_count.ensures
    ∙ ap objective_terms c.exchange_objective.ensures.objective) in
    keeps_after is (returns-clause-model c) refl
    c.deref-2.ensures.value c.list_variables.ensures.entries c.exchange_rows.ensures.kept
    c.exchange_rows.ensures.entries refl c.deref_mut.ensures.value
    c.exchange_names.ensures.names c.exchange_names.ensures.one_to_one
    c.deref_mut-2.ensures.value c.exchange_names-2.ensures.names
    c.exchange_names-2.ensures.one_to_one all.all

pub returns-clause-room : goal.returns-clause-room
returns-clause-room c =
    let is = ready c.self.view_is c.self.invariant c.requires.changes c.requires.consistent
    c.requires.within c.requires.names in
    let groups_back = with_items_is c.args.with.now.groups c.exchange_all.new.changes
    (c.exchange_all.auto.changes ∙ c.deref_mut-3.ensures.len) in
    let rows_back = with_items_is c.args.with.now.rows c.exchange_rows.new.changes
    (c.exchange_rows.auto.changes ∙ c.deref_mut-4.ensures.len) in
    let counted = c.list_variables.ensures.count in
    let variables_back = room_back is (invariant_of-self c) c.deref-2.ensures.value
    (returns-clause-standing c).variables c.exchange_rows.ensures.count counted in
    record {
      groups = omega (
        arith,
        c.exchange_all.ensures.room,
        ap (λ (cs : List (Change Group)). added group_number cs c.exchange_all.new.self.items)
            groups_back,
      );
      rows = omega (
        arith,
        c.exchange_rows.ensures.room,
        ap (λ (cs : List (Change Row)). added row_number cs c.exchange_rows.new.rows.items)
            rows_back,
      );
      variables = omega (
        arith,
        variables_back,
        c.list_variables.ensures.capacity,
        c.exchange_rows.ensures.kept_room,
        c.requires.room.variables,
        ap (λ (x : Catalog). x.room.variables) c.self.view_is,
      );
    }
