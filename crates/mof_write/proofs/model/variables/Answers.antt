use Rattle.std.proofs.Common.{◌++◌, ◌∙◌, ap, flat_map, map, subst}
use Rattle.std.proofs.lemmas.List.{map-append}
use Rattle.std.specs.Prelude.{List, All}
use Rattle.user_model.specs.declared.group.Group.{Group}
use Rattle.serde_json.specs.Data.{Data}
use Rattle.serde_json.specs.View.{view}
use Rattle.mof_write.specs.Written.{variable_entry}
use Rattle.mof_write.specs.Sayable.{HasName, VarsHaveNames}
use Rattle.mof_write.proofs.EachItem.{all_fit, fit_next, written_next}
use Rattle.mof_write.proofs.model.variables.Goals as goal

abbrev entries_of : List Group → List Data
entries_of groups = map variable_entry (flat_map (λ g. g.vars) groups)

pub loop-group-init : goal.loop-group-init
loop-group-init c =
    let source = c.into_iter-group-iterator.ensures.into_iter_gives
    ∙ c.iter-group-items.ensures.items in
    record {
      made = ap (λ vs. map view vs ++ entries_of c.into_iter-group-iterator.result)
          c.new-values.ensures.items ∙ ap entries_of source;
      fits = subst (All VarsHaveNames) source;
    }

pub loop-group-preserved : goal.loop-group-preserved
loop-group-preserved c =
    let xs = c.args.groups.now.items in
    let left = c.loop-group.group-iterator in
    let rest = c.next.new.self in
    let x = c.in-Some.group.now in
    record {
      made = written_next left rest x c.in-Some.ensures.steps entries_of entries_of
          (map variable_entry x.vars) (map view c.loop-group.values.items)
          (map view c.put_variables.new.values.items) _
          (map-append variable_entry x.vars (flat_map (λ g. g.vars) rest))
          (c.in_ok-put_variables.ensures.value
          ∙ ap (λ vs. map view c.loop-group.values.items ++ map variable_entry vs)
          c.as_slice.ensures)
          c.loop-group.invariant.made;
      fits = fit_next left rest x c.in-Some.ensures.steps VarsHaveNames xs
          c.loop-group.invariant.fits
          (subst (All HasName) c.as_slice.ensures c.in_ok-put_variables.ensures.names);
    }

pub returns-clause-names : goal.returns-clause-names
returns-clause-names c =
    all_fit VarsHaveNames c.args.groups.now.items c.loop-group.group-iterator c.in-None.ensures.steps.0
    c.loop-group.invariant.fits
